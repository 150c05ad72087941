-- The lines so far led to the draft, and the lines and the bytes that are left are not more than the text.
use Rattle.std.proofs.Common.{◌+◌, ◌≤◌, ◌<◌, ◌^◌, length}
use Rattle.play_files.specs.Reading.{state_of}
use Rattle.play_files.proofs.Reader.{IsReadUpTo}
use Rattle.play_files.proofs.reading.read_play.Given as goal

abbrev pub invariant-lines : goal.invariant-lines
invariant-lines l = record {
  few : l.vertices < 2 ^ 16;
  up : (small : l.vertices < 2 ^ 16) → IsReadUpTo l.vertices small l.text l.rest l.line (state_of l.draft);
  small : l.line + length l.rest ≤ length l.text + 1;
}

abbrev pub decreases-lines : goal.decreases-lines
decreases-lines l = length l.rest
