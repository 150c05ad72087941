-- What each turn of the loop that reads the input keeps, and why it ends: the text grows up to the limit.
use Rattle.std.proofs.Common.{◌+◌, ◌-◌, ◌≡◌, ◌≤◌, vec_len}
use Rattle.std.specs.Io.KnownBytes.{prepend_known}
use Rattle.desk_io.specs.declared.desk.Kind.{Kind}
use Rattle.desk_io.specs.declared.desk.Kind.TheVariants.{TakeInput}
use Rattle.desk_io.proofs.counted.read_input_counted.Given as goal

abbrev pub invariant-loop-buf : goal.invariant-loop-buf
invariant-loop-buf g l = record {
  calls : l.steps ≤ l.initial.steps + vec_len l.text;
  within : l.steps ≤ l.initial.steps + l.limit + 1;
  taken : g.D.Desk.input l.initial.desk ≡ prepend_known l.text.items (g.D.Desk.input l.desk);
  no_fault : g.D.Desk.faults l.desk TakeInput ≡ g.D.Desk.faults l.initial.desk TakeInput;
  other_faults : (other : Kind) → (other ≡ TakeInput → ⊥) → g.D.Desk.faults l.desk other ≡ g.D.Desk.faults l.initial.desk other;
  same_name : g.D.Desk.name l.desk ≡ g.D.Desk.name l.initial.desk;
  same_file : g.D.Desk.file l.desk ≡ g.D.Desk.file l.initial.desk;
  same_output : g.D.Desk.output l.desk ≡ g.D.Desk.output l.initial.desk;
}

abbrev pub decreases-loop-buf : goal.decreases-loop-buf
decreases-loop-buf g l = l.limit + 1 - vec_len l.text
