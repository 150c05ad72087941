-- The stores of the members below v are appended.
use Rattle.std.proofs.Common.{◌≡◌, ◌++◌, map}
use Rattle.comp_graph.specs.Vertices.{rising}
use Rattle.pebble_rules.specs.declared.moves.Move.TheVariants.{Store}
use Rattle.slot_alloc.proofs.moves.add_stores.Given as goal

abbrev pub invariant-loop-v : goal.invariant-loop-v
invariant-loop-v l = l.moves.items ≡ l.initial.moves.items ++ map Store (rising l.v l.vertices)
