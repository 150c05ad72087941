-- One put to the output keeps what the loop says.
use Rattle.std.proofs.Common.{rules, ◌∙◌}
use Rattle.desk_io.proofs.KnownBytes.{append_known-take}
use Rattle.desk_io.proofs.counted.write_output_counted.Goals as goal

pub loop-done-preserved : goal.loop-done-preserved
loop-done-preserved g c = record {
  within = search rules;
  calls = search rules;
  written = append_known-take _ _ _ _ _ _ c.loop-done.invariant.written c.in-Ok.ensures.put;
  no_fault = c.in-Ok.ensures.counts.exact.0 ∙ c.loop-done.invariant.no_fault;
  other_faults = λ other differs. c.in-Ok.ensures.counts.others other differs ∙ c.loop-done.invariant.other_faults other differs;
  same_name = cc;
  same_input = cc;
  same_file = cc;
}
