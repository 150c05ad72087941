-- What each turn of the loop that reads the file keeps, and why it ends: the text grows up to the limit.
use Rattle.std.proofs.Common.{◌+◌, ◌-◌, ◌≡◌, ◌≤◌, vec_len}
use Rattle.desk_io.specs.declared.desk.Kind.{Kind}
use Rattle.desk_io.specs.declared.desk.Kind.TheVariants.{TakeFile}
use Rattle.desk_io.proofs.KnownBytes.{BeginsFile}
use Rattle.desk_io.proofs.counted.read_file_counted.Given as goal

abbrev pub invariant-loop-buf : goal.invariant-loop-buf
invariant-loop-buf g l = record {
  calls : l.steps ≤ l.initial.steps + vec_len l.file;
  within : l.steps ≤ l.initial.steps + l.limit + 1;
  once : l.bytes ≡ l.initial.bytes + vec_len l.file;
  begins : BeginsFile (g.D.Desk.file l.initial.desk) l.file.items;
  no_fault : g.D.Desk.faults l.desk TakeFile ≡ g.D.Desk.faults l.initial.desk TakeFile;
  other_faults : (other : Kind) → (other ≡ TakeFile → ⊥) → g.D.Desk.faults l.desk other ≡ g.D.Desk.faults l.initial.desk other;
  same_name : g.D.Desk.name l.desk ≡ g.D.Desk.name l.initial.desk;
  same_input : g.D.Desk.input l.desk ≡ g.D.Desk.input l.initial.desk;
  same_file : g.D.Desk.file l.desk ≡ g.D.Desk.file l.initial.desk;
  same_output : g.D.Desk.output l.desk ≡ g.D.Desk.output l.initial.desk;
}

abbrev pub decreases-loop-buf : goal.decreases-loop-buf
decreases-loop-buf g l = l.limit + 1 - vec_len l.file
