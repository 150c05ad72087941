-- What each turn of the loop that writes the file keeps, and why it ends: less of the bytes is left.
use Rattle.std.proofs.Common.{length, ◌+◌, ◌-◌, ◌≡◌, ◌≤◌, take}
use Rattle.desk_io.specs.declared.desk.Kind.{Kind}
use Rattle.desk_io.specs.declared.desk.Kind.TheVariants.{PutFile}
use Rattle.desk_io.specs.Known.{file_of}
use Rattle.desk_io.proofs.counted.write_file_counted.Given as goal

abbrev pub invariant-loop-done : goal.invariant-loop-done
invariant-loop-done g l = record {
  calls : l.steps ≤ l.initial.steps + l.done;
  within : l.done ≤ length l.bytes;
  written : g.D.Desk.file l.desk ≡ file_of (g.D.Desk.file l.fn.desk) (take l.done l.bytes);
  no_fault : g.D.Desk.faults l.desk PutFile ≡ g.D.Desk.faults l.initial.desk PutFile;
  other_faults : (other : Kind) → (other ≡ PutFile → ⊥) → g.D.Desk.faults l.desk other ≡ g.D.Desk.faults l.initial.desk other;
  same_name : g.D.Desk.name l.desk ≡ g.D.Desk.name l.initial.desk;
  same_input : g.D.Desk.input l.desk ≡ g.D.Desk.input l.initial.desk;
  same_output : g.D.Desk.output l.desk ≡ g.D.Desk.output l.initial.desk;
}

abbrev pub decreases-loop-done : goal.decreases-loop-done
decreases-loop-done g l = length l.bytes - l.done
