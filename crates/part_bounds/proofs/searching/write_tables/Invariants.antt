-- The first tables are written.
use Rattle.std.proofs.Common.{take}
use Rattle.part_bounds.specs.Bounds.{AreSpellings}
use Rattle.part_bounds.proofs.searching.write_tables.Given as goal

abbrev pub invariant-loop-one : goal.invariant-loop-one
invariant-loop-one l = AreSpellings l.bytes.items (take l.one-index l.found)
