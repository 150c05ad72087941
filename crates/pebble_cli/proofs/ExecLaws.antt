-- The laws of the answers of `exec`: where its statuses stand, and that what `plan` prints runs as the source does.
use Rattle.std.proofs.Common.{◌≡◌, ◌⊎◌, ◌+◌, ◌*◌, ◌++◌, length, None, Some, inl, inr, refl, sym, ap, ◌∙◌, subst, arith}
use Rattle.kernel_ast.specs.declared.tree.DeclKind.TheVariants.{Input, Output}
use Rattle.kernel_ast.specs.Labels.{labels_of}
use Rattle.kernel_ast.specs.Meaning.{outputs}
use Rattle.plan_report.specs.OutputsText.{outputs_text}
use Rattle.scratch_machine.specs.Machines.{Ending, transfers}
use Rattle.command_words.specs.declared.commands.Command.TheVariants.{Exec}
use Rattle.command_answers.specs.declared.status.Status.TheVariants.{Done, Code, Values, ExecFault}
use Rattle.pebble_cli.specs.Answers.{own_answer}
use Rattle.command_answers.specs.CodeInputs.{IsNoCode}
use Rattle.command_answers.specs.ExecAnswers.{IsRunToEnd, IsEmptyRead, IsWrongInputs, exec_fault_text, place_of, ran_text, transfers_text}
use Rattle.pebble_cli.specs.ExecLaws.{ExecStatuses, DoneWhereRun, FaultWhereEmpty, ValuesWhereWrong, PlansReadBack, PlansRunAsSources}
use Rattle.command_answers.specs.RightCodes.{RunsRight, run_weight}
use Rattle.command_answers.specs.RunAnswers.{IsValuesFile}
use Rattle.command_answers.specs.ValuesFiles.{HoldsValues, values_fault_text}
use Rattle.command_answers.proofs.Accepting.{accepted_once}
use Rattle.pebble_cli.proofs.AnswerLaws.{Kinds, faulty, not_code, small, last, kind_of, one_answer}
use Rattle.pebble_cli.proofs.CommandLaws.{done_where_values}
use Rattle.pebble_cli.proofs.PlanTexts.{printed_code}

-- ---- the statuses

pub exec_statuses : ExecStatuses
exec_statuses input file status printed table h = by_kind (kind_of Exec refl h)
  where
    by_kind : Kinds Exec input file status printed table
        → ((status ≡ Code) × IsNoCode input status printed table) ⊎ (((status ≡ Done) × IsRunToEnd input file status printed table)
        ⊎ (((status ≡ ExecFault) × IsEmptyRead input file status printed table) ⊎ ((status ≡ Values) × IsWrongInputs input file status printed table)))
    by_kind (faulty text is k) = absurd (cc)
    by_kind (not_code is k) = inl (k.ends, k)
    by_kind (small text slots is has k) = absurd (cc)
    by_kind (last (inl k)) = inr (inl (k.ends, k))
    by_kind (last (inr (inl k))) = inr (inr (inl (k.ends, k)))
    by_kind (last (inr (inr k))) = inr (inr (inr (k.ends, k)))

-- the answer to values on which the run comes to its end, to those on which it reads what is empty, and to a file without values: all others
-- are the same
pub done_where_run : DoneWhereRun
done_where_run input bytes status printed table code h is values ending given runs =
    let there : IsRunToEnd input (Some (Some bytes)) Done (ran_text code ending) None =
    record { code = code; input = is; bytes = bytes; held = refl; values = values; given = given; ending = ending; runs = runs; ends = refl; lines = refl; none = refl } in
    let same = one_answer (Some Exec) input (Some (Some bytes)) status printed table h Done (ran_text code ending) None (λ last reads. (Some bytes, refl)) (own_answer Exec refl (inl there)) in
    (same.0, same.1)

pub fault_where_empty : FaultWhereEmpty
fault_where_empty input bytes status printed table code h is values fault given faults =
    let line = exec_fault_text (place_of fault) in
    let there : IsEmptyRead input (Some (Some bytes)) ExecFault line None =
    record { code = code; input = is; bytes = bytes; held = refl; values = values; given = given; fault = fault; faults = faults; ends = refl; line = refl; none = refl } in
    let same = one_answer (Some Exec) input (Some (Some bytes)) status printed table h ExecFault line None (λ last reads. (Some bytes, refl)) (own_answer Exec refl (inr (inl there))) in
    (same.0, same.1)

pub values_where_wrong : ValuesWhereWrong
values_where_wrong input bytes status printed table code h is none =
    let there : IsWrongInputs input (Some (Some bytes)) Values values_fault_text None =
    record { code = code; input = is; bytes = bytes; held = refl; wrong = none; ends = refl; line = refl; none = refl } in
    let same = one_answer (Some Exec) input (Some (Some bytes)) status printed table h Values values_fault_text None (λ last reads. (Some bytes, refl)) (own_answer Exec refl (inr (inr there))) in
    (same.0, same.1)

-- ---- what `plan` prints

pub plans_read_back : PlansReadBack
plans_read_back asked text status printed table limits h short = record { short = short; reads = printed_code asked text status printed table limits h }

pub plans_run_as_sources : PlansRunAsSources
plans_run_as_sources asked text status printed table limits h short kernel graph bytes values accepted given ran done lines more none other ran_answer exec_answer =
    let same : kernel ≡ h.kernel = (accepted_once text kernel h.kernel graph h.graph accepted h.accepted).0 in
    let here : IsValuesFile h.kernel bytes values = subst (λ k. IsValuesFile k bytes values) same given in
    let source = done_where_values text bytes ran lines none h.kernel h.graph ran_answer h.accepted values here in
    let count : length (labels_of Input h.kernel.decls) ≡ length h.plan.code.inputs = ap length (sym h.answer.right.inputs) in
    let right = h.answer.right.right values here.counted in
    let reads = plans_read_back asked text status printed table limits h short in
    let code = done_where_run printed bytes done more other h.plan.code exec_answer reads values right.ending (subst (λ n. HoldsValues n bytes values) count here) right.runs in (
      source.0,
      code.0,
      (
        right.ending,
        right.runs,
        code.1 ∙ text_is right ∙ ap (λ l. l ++ transfers_text (transfers right.ending)) (sym source.1),
        right.counted,
        λ unit. unit_weighs right.ending (sym (ap (λ w. run_weight w right.ending) unit) ∙ right.counted),
      ),
    )
  where
    text_is : (right : RunsRight h.kernel asked.weights h.plan.code h.plan.numbers.cost values)
        → ran_text h.plan.code right.ending ≡ outputs_text (labels_of Output h.kernel.decls) (outputs h.kernel values) ++ transfers_text (transfers right.ending)
    text_is right =
        let labels = h.answer.right.outputs in
        let found = right.same in
        λ i. outputs_text (labels i) (found i) ++ transfers_text (transfers right.ending)

    unit_weighs : (ending : Ending) → 1 * ending.loads + 1 * ending.stores ≡ h.plan.numbers.cost → transfers ending ≡ h.plan.numbers.cost
    unit_weighs ending weight = omega (arith, weight)
