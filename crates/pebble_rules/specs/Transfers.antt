-- The transfers of a list of moves: how many words it brings into fast memory, and how many it writes back. The costs of both are the
-- weights of the game, so the cost of a list is a load weight for each load and a store weight for each store.
use Rattle.std.specs.Prelude.{ℕ, ◌+◌, List, [], ◌∷◌}
use Rattle.pebble_rules.specs.declared.moves.Move.{Move}
use Rattle.pebble_rules.specs.declared.moves.Move.TheVariants.{Load, Store}

-- how many moves load
abbrev pub loads : List Move → ℕ
loads [] = 0
loads (Load v ∷ ms) = loads ms + 1
loads (_ ∷ ms) = loads ms

-- how many moves store
abbrev pub stores : List Move → ℕ
stores [] = 0
stores (Store v ∷ ms) = stores ms + 1
stores (_ ∷ ms) = stores ms
