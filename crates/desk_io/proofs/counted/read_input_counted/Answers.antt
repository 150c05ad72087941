-- What a failed growth of the text loses: the bytes that the text held, and those of the last take.
use Rattle.std.proofs.Common.{rules}
use Rattle.desk_io.proofs.KnownBytes.{prepend_known-append}
use Rattle.desk_io.proofs.counted.read_input_counted.Goals as goal

pub returns-then-is_err-clause-reads : goal.returns-then-is_err-clause-reads
returns-then-is_err-clause-reads g c = record {
  whole = search rules;
  fits = search rules;
  end = search rules;
  too_long = search rules;
  late = search rules;
  cause = search rules;
  early = search rules;
  lost = (_, prepend_known-append _ _ _ _ _ c.loop-buf.invariant.taken c.in-Ok.ensures.taken.taken);
  no_fault = search rules;
  other_faults = search rules;
  same_name = search rules;
  same_file = search rules;
  same_output = search rules;
}
