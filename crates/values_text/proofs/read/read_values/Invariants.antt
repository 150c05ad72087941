-- The numbers so far and those of the parts that are left are the numbers of all parts.
use Rattle.std.proofs.Common.{◌≡◌, length, drop}
use Rattle.std.specs.List.{slice_split}
use Rattle.values_text.specs.Values.{is_space}
use Rattle.values_text.proofs.Parts.{behind, numbers_of}
use Rattle.values_text.proofs.read.read_values.Given as goal

abbrev pub invariant-loop-word : goal.invariant-loop-word
invariant-loop-word l = behind l.values.items (numbers_of (drop (length l.yielded) (slice_split is_space l.text))) ≡ numbers_of (slice_split is_space l.text)
