-- The phases of a run give what the kernel means.
use Rattle.std.proofs.Common.{rules, ◌≡◌, map, sym, ap, ◌∙◌, subst, Err}
use Rattle.std.specs.Result.{IfErr}
use Rattle.source_machine.specs.RunEnds.{EndMeans, end_of}
use Rattle.source_machine.proofs.Runs.{run_faultless, run_outputs, end_means}
use Rattle.source_machine.proofs.running.run.Goals as goal

pub returns-in_err-ended-clause-end : goal.returns-in_err-ended-clause-end
returns-in_err-ended-clause-end c =
    let err : c.from_residual.result ≡ Err (end_of c.in_err-ended.field-0.0) = search rules in
    subst (λ r. IfErr r (EndMeans c.args.kernel.now c.args.values.now)) (sym err) (end_means c.args.kernel.now c.args.values.now c.in_err-ended.field-0.0 c.in_err-ended.ensures.outputs)

pub returns-then-needs-got-clause-end : goal.returns-then-needs-got-clause-end
returns-then-needs-got-clause-end c =
    record {
      faultless = run_faultless _ _ _ c.in_ok-ended.ensures.outputs;
      needed = c.in_ok-ended.ensures.inputs;
      given = search rules;
      differ = c.if-needs-got.true;
    }

pub returns-clause-outputs : goal.returns-clause-outputs
returns-clause-outputs c =
    record {
      faultless = run_faultless _ _ _ c.in_ok-ended.ensures.outputs;
      count = sym c.if-needs-got.false ∙ c.in_ok-ended.ensures.inputs;
      outputs = c.in_ok-numbers_of.ensures ∙ ap (λ held. map (λ v. v.number) held) c.as_slice.ensures.value ∙ run_outputs _ _ _ c.in_ok-ended.ensures.outputs;
    }
