-- The loads of the members below u are appended.
use Rattle.std.proofs.Common.{◌≡◌, ◌++◌, map}
use Rattle.comp_graph.specs.Vertices.{rising}
use Rattle.pebble_rules.specs.declared.moves.Move.TheVariants.{Load}
use Rattle.slot_alloc.proofs.moves.add_loads.Given as goal

abbrev pub invariant-loop-u : goal.invariant-loop-u
invariant-loop-u l = l.moves.items ≡ l.initial.moves.items ++ map Load (rising l.u l.vertices)
