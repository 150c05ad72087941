-- What each turn of the loop that writes the output keeps, and why it ends: less of the text is left.
use Rattle.std.proofs.Common.{length, ◌+◌, ◌-◌, ◌≡◌, ◌≤◌, take}
use Rattle.std.specs.Io.KnownBytes.{append_known}
use Rattle.desk_io.specs.declared.desk.Kind.{Kind}
use Rattle.desk_io.specs.declared.desk.Kind.TheVariants.{PutOutput}
use Rattle.desk_io.proofs.counted.write_output_counted.Given as goal

abbrev pub invariant-loop-done : goal.invariant-loop-done
invariant-loop-done g l = record {
  calls : l.steps ≤ l.initial.steps + l.done;
  within : l.done ≤ length l.text;
  written : g.D.Desk.output l.desk ≡ append_known (g.D.Desk.output l.initial.desk) (take l.done l.text);
  no_fault : g.D.Desk.faults l.desk PutOutput ≡ g.D.Desk.faults l.initial.desk PutOutput;
  other_faults : (other : Kind) → (other ≡ PutOutput → ⊥) → g.D.Desk.faults l.desk other ≡ g.D.Desk.faults l.initial.desk other;
  same_name : g.D.Desk.name l.desk ≡ g.D.Desk.name l.initial.desk;
  same_input : g.D.Desk.input l.desk ≡ g.D.Desk.input l.initial.desk;
  same_file : g.D.Desk.file l.desk ≡ g.D.Desk.file l.initial.desk;
}

abbrev pub decreases-loop-done : goal.decreases-loop-done
decreases-loop-done g l = length l.text - l.done
