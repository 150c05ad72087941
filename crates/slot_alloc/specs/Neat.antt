-- Pebblings that place no pebble where one of its colour stands, and take no blue pebble away.
use Rattle.std.specs.Prelude.{List, [], ◌∷◌, ⊤}
use Rattle.comp_graph.specs.Vertices.{◌∉◌}
use Rattle.pebble_rules.specs.Rules.{moved}
use Rattle.pebble_rules.specs.declared.position.Position.{Position}
use Rattle.pebble_rules.specs.declared.moves.Move.{Move}
use Rattle.pebble_rules.specs.declared.moves.Move.TheVariants.{Load, Store, Compute, DropRed, DropBlue}

-- a move that places a pebble places it where none of its colour stands, and no blue pebble is taken away
abbrev pub IsNeat : Position → Move → Type 0
IsNeat p (Load v) = v ∉ p.red
IsNeat p (Store v) = v ∉ p.blue
IsNeat p (Compute v) = v ∉ p.red
IsNeat p (DropRed v) = ⊤
IsNeat p (DropBlue v) = ⊥

-- each move of the list is so where it stands
abbrev pub AreNeat : Position → List Move → Type 0
AreNeat p [] = ⊤
AreNeat p (m ∷ ms) = IsNeat p m × AreNeat (moved p m) ms
