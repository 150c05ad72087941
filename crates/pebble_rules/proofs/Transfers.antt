-- The cost of a list of moves, by its loads and stores.
use Rattle.std.proofs.Common.{◌≡◌, ℕ, ◌+◌, ◌*◌, ◌≤◌, List, [], ◌∷◌, length, ap, ◌∙◌, arith}
use Rattle.std.proofs.Math.Nat.{mul-add}
use Rattle.comp_graph.specs.Games.{PebbleGame}
use Rattle.pebble_rules.specs.Rules.{cost}
use Rattle.pebble_rules.specs.Transfers.{loads, stores}
use Rattle.pebble_rules.specs.declared.moves.Move.{Move}
use Rattle.pebble_rules.specs.declared.moves.Move.TheVariants.{Load, Store, Compute, DropRed, DropBlue}

one_more : (a b m n : ℕ) → a + (a * m + b * n) ≡ a * (m + 1) + b * n
one_more a b m n = let next = mul-add a m 1 in omega arith

one_more_after : (a b m n : ℕ) → b + (a * m + b * n) ≡ a * m + b * (n + 1)
one_more_after a b m n = let next = mul-add b n 1 in omega arith

-- what the moves cost is what their loads and stores weigh
pub cost_weighs : (g : PebbleGame) (ms : List Move) → cost g ms ≡ g.load * loads ms + g.store * stores ms
cost_weighs g [] = omega arith
cost_weighs g (Load v ∷ ms) = ap (λ c. g.load + c) (cost_weighs g ms) ∙ one_more g.load g.store (loads ms) (stores ms)
cost_weighs g (Store v ∷ ms) = ap (λ c. g.store + c) (cost_weighs g ms) ∙ one_more_after g.load g.store (loads ms) (stores ms)
cost_weighs g (Compute v ∷ ms) = omega (arith, cost_weighs g ms)
cost_weighs g (DropRed v ∷ ms) = omega (arith, cost_weighs g ms)
cost_weighs g (DropBlue v ∷ ms) = omega (arith, cost_weighs g ms)

-- each move is a load, a store, or no transfer
pub transfers_few : (ms : List Move) → loads ms + stores ms ≤ length ms
transfers_few [] = omega arith
transfers_few (Load v ∷ ms) = omega (arith, transfers_few ms)
transfers_few (Store v ∷ ms) = omega (arith, transfers_few ms)
transfers_few (Compute v ∷ ms) = omega (arith, transfers_few ms)
transfers_few (DropRed v ∷ ms) = omega (arith, transfers_few ms)
transfers_few (DropBlue v ∷ ms) = omega (arith, transfers_few ms)
