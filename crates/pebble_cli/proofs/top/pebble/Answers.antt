-- What the answer that was made says of the run: where it was delivered, where a write failed, and where there is none.
use Rattle.std.proofs.Common.{◌≡◌, ◌∙◌, Err, inl, inr, refl, ap, subst, sym}
use Rattle.desk_io.specs.Known.{file_items}
use Rattle.pebble_cli.specs.Answers.{Answers, OwnAnswers, IsAdmitted}
use Rattle.command_words.specs.Words.{asked_by}
use Rattle.pebble_cli.proofs.AnswerLaws.{kind_of, own_always, own_only, one_answer, no_fault, usage_only, to_usage, tables_are_of_writers, refused_without_table, no_answer_without_file}
use Rattle.pebble_cli.proofs.IdleInputs.{answers_text}
use Rattle.answer_desk.proofs.Delivering.{cut_rose, cut_from, then_same, cut_keeps, no_table_keeps}
use Rattle.answer_desk.proofs.Ends.{cause_of_end, end_is_yielded, end_is_no_answer, end_needs_no_input, write_fault_needs_no_input, end_is_fault_or_none, end_is_no_verdict, end_without_cause, answer_is_no_end, no_memory_is_no_fault}
use Rattle.pebble_cli.proofs.Delivering.{cause_rose, no_cause, verdict_of_plan}
use Rattle.command_answers.proofs.ToldBytes.{told_is}
use Rattle.answer_desk.proofs.InputRests.{still_leaves}
use Rattle.pebble_cli.proofs.top.pebble.Goals as goal

-- ---- the answer was delivered

pub returns-in-Ok-deliver-clause-headline : goal.returns-in-Ok-deliver-clause-headline
returns-in-Ok-deliver-clause-headline g c asked asks verdict =
    let text = c.in-Ok.ensures.answers in
    let written = rw c.prepare.ensures.same_file at c.in-Ok-deliver.ensures.ok.written in
    let said = rw c.prepare.ensures.same_output at c.in-Ok-deliver.ensures.ok.said in
    let plan = verdict_of_plan _ asked _ _ _ _ _ asks text.2 verdict in
    (text.0, _, plan.0, text.1, plan.1, said, rw plan.2 at written)

pub returns-in-Ok-deliver-clause-own : goal.returns-in-Ok-deliver-clause-own
returns-in-Ok-deliver-clause-own g c asked asks last =
    let told = c.in-Ok.ensures.answers in
    let answer = c.in-Ok.answer in
    let held = g.D.Desk.file c.args.desk.now in
    let own = own_only _ _ _ _ _ _ told.2 last in
    let same : own.0 ≡ asked = (let found = own.1 in cc) in
    let written = rw c.prepare.ensures.same_file at c.in-Ok-deliver.ensures.ok.written in
    let said = rw c.prepare.ensures.same_output at c.in-Ok-deliver.ensures.ok.said in (
      told.0,
      answer.text.items,
      file_items answer.table,
      told.1,
      subst (λ k. IsAdmitted k told.0) same own.2,
      subst (λ k. OwnAnswers k told.0 held answer.status answer.text.items (file_items answer.table)) same own.3,
      record { written = written; said = said },
    )

pub returns-in-Ok-deliver-clause-said : goal.returns-in-Ok-deliver-clause-said
returns-in-Ok-deliver-clause-said g c read write memory =
    let text = c.in-Ok.ensures.answers in
    let answer = c.in-Ok.answer in
    let written = rw c.prepare.ensures.same_file at c.in-Ok-deliver.ensures.ok.written in
    let said = rw c.prepare.ensures.same_output at c.in-Ok-deliver.ensures.ok.said in
    (text.0, answer.text.items, file_items answer.table, text.1, text.2, record { written = written; said = said })

pub returns-in-Ok-deliver-clause-write_fault : goal.returns-in-Ok-deliver-clause-write_fault
returns-in-Ok-deliver-clause-write_fault g c fault =
    let none = no_fault _ _ _ _ _ _ c.in-Ok.ensures.answers.2 in
    absurd (none.1.0 fault)

pub returns-in-Ok-deliver-clause-read_fault : goal.returns-in-Ok-deliver-clause-read_fault
returns-in-Ok-deliver-clause-read_fault g c fault =
    let none = no_fault _ _ _ _ _ _ c.in-Ok.ensures.answers.2 in
    absurd (none.0 fault)

pub returns-in-Ok-deliver-clause-read_early : goal.returns-in-Ok-deliver-clause-read_early
returns-in-Ok-deliver-clause-read_early g c fault =
    let none = no_fault _ _ _ _ _ _ c.in-Ok.ensures.answers.2 in
    absurd (none.0 fault)

pub returns-in-Ok-deliver-clause-determined : goal.returns-in-Ok-deliver-clause-determined
returns-in-Ok-deliver-clause-determined g c text status printed table input file h =
    let told = c.in-Ok.ensures.answers in
    let answer = c.in-Ok.answer in
    let command = asked_by c.args.words.now in
    let held = g.D.Desk.file c.args.desk.now in
    let made = answers_text command _ told.0 text held answer.status answer.text.items (file_items answer.table) told.1 input told.2 in
    let same = one_answer command text held status printed table h answer.status answer.text.items (file_items answer.table) file made in
    let written = rw c.prepare.ensures.same_file at c.in-Ok-deliver.ensures.ok.written in
    let said = rw c.prepare.ensures.same_output at c.in-Ok-deliver.ensures.ok.said in
    (inl (sym same.0), λ is. record { written = rw (sym same.2) at written; said = rw (sym same.1) at said })

pub returns-in-Ok-deliver-clause-missing : goal.returns-in-Ok-deliver-clause-missing
returns-in-Ok-deliver-clause-missing g c asked text asks reads input admitted held =
    let told = c.in-Ok.ensures.answers in
    let answer = c.in-Ok.answer in
    let same = told_is _ told.0 text told.1 input in
    let here = subst (λ t. Answers (asked_by c.args.words.now) t (g.D.Desk.file c.args.desk.now) answer.status answer.text.items (file_items answer.table)) same told.2 in
    no_answer_without_file asked text answer.status answer.text.items (file_items answer.table) reads admitted (kind_of asked asks (rw held at here))

pub returns-in-Ok-deliver-clause-silent : goal.returns-in-Ok-deliver-clause-silent
returns-in-Ok-deliver-clause-silent g c ended = answer_is_no_end (no_fault _ _ _ _ _ _ c.in-Ok.ensures.answers.2) ended

pub returns-in-Ok-deliver-clause-complete : goal.returns-in-Ok-deliver-clause-complete
returns-in-Ok-deliver-clause-complete g c asked text asks input admitted calm =
    let told = c.in-Ok.ensures.answers in
    let answer = c.in-Ok.answer in
    let here = answers_text (asked_by c.args.words.now) _ told.0 text (g.D.Desk.file c.args.desk.now) answer.status answer.text.items (file_items answer.table) told.1 input told.2 in
    inl (own_always _ _ _ _ _ _ here asked asks admitted)

pub returns-in-Ok-deliver-clause-no_vain_write : goal.returns-in-Ok-deliver-clause-no_vain_write
returns-in-Ok-deliver-clause-no_vain_write g c other = then_same c.prepare.ensures.write_faults c.in-Ok-deliver.ensures.no_fault

pub returns-in-Ok-deliver-clause-calm : goal.returns-in-Ok-deliver-clause-calm
returns-in-Ok-deliver-clause-calm g c calm =
    let none = no_fault _ _ _ _ _ _ c.in-Ok.ensures.answers.2 in
    (none.0, none.1.0)

pub returns-in-Ok-deliver-clause-usage_only : goal.returns-in-Ok-deliver-clause-usage_only
returns-in-Ok-deliver-clause-usage_only g c is = (usage_only _ _ _ _ _ _ c.in-Ok.ensures.answers.2 is).0

pub returns-in-Ok-deliver-clause-usage : goal.returns-in-Ok-deliver-clause-usage
returns-in-Ok-deliver-clause-usage g c none = inl (to_usage none c.in-Ok.ensures.answers.2).ends

pub returns-in-Ok-deliver-clause-file_kept : goal.returns-in-Ok-deliver-clause-file_kept
returns-in-Ok-deliver-clause-file_kept g c idle =
    let none = tables_are_of_writers _ _ _ _ _ _ c.in-Ok.ensures.answers.2 (inl idle) in
    no_table_keeps _ _ _ none c.in-Ok-deliver.ensures.ok.written ∙ c.prepare.ensures.same_file

pub returns-in-Ok-deliver-clause-kept_by_status : goal.returns-in-Ok-deliver-clause-kept_by_status
returns-in-Ok-deliver-clause-kept_by_status g c early other =
    let none = tables_are_of_writers _ _ _ _ _ _ c.in-Ok.ensures.answers.2 (inr early) in
    no_table_keeps _ _ _ none c.in-Ok-deliver.ensures.ok.written ∙ c.prepare.ensures.same_file

pub returns-in-Ok-deliver-clause-kept_by_input : goal.returns-in-Ok-deliver-clause-kept_by_input
returns-in-Ok-deliver-clause-kept_by_input g c asked text asks input refused =
    let told = c.in-Ok.ensures.answers in
    let answer = c.in-Ok.answer in
    let here = answers_text (asked_by c.args.words.now) _ told.0 text (g.D.Desk.file c.args.desk.now) answer.status answer.text.items (file_items answer.table) told.1 input told.2 in
    let none = refused_without_table asked text (g.D.Desk.file c.args.desk.now) answer.status answer.text.items (file_items answer.table) refused (kind_of asked asks here) in
    no_table_keeps _ _ _ none c.in-Ok-deliver.ensures.ok.written ∙ c.prepare.ensures.same_file

pub returns-in-Ok-deliver-clause-rest_left : goal.returns-in-Ok-deliver-clause-rest_left
returns-in-Ok-deliver-clause-rest_left g c = still_leaves (g.D.Desk.input c.args.desk.now) _ _ c.deliver.ensures.same_input c.prepare.ensures.rest_left

-- ---- a write failed

pub returns-clause-write_fault : goal.returns-clause-write_fault
returns-clause-write_fault g c fault =
    let text = c.in-Ok.ensures.answers in
    let answer = c.in-Ok.answer in
    let cut = cut_from g.D.Desk.file g.D.Desk.output g.D.Desk.faults c.args.desk.now _ _ answer.text.items (file_items answer.table)
    c.prepare.ensures.same_file c.prepare.ensures.same_output c.prepare.ensures.write_faults c.in-Err-deliver.ensures.fault in
    (text.0, answer.text.items, file_items answer.table, answer.status, text.1, text.2, cut)

pub returns-clause-own : goal.returns-clause-own
returns-clause-own g c asked asks last = write_fault_needs_no_input (inr last)

pub returns-clause-determined : goal.returns-clause-determined
returns-clause-determined g c text status printed table input file h =
    (inr (inr (inl refl)), λ is. absurd ((no_fault _ _ _ _ _ _ h).1.0 (sym is)))

pub returns-clause-missing : goal.returns-clause-missing
returns-clause-missing g c asked text asks reads input admitted held =
    let told = c.in-Ok.ensures.answers in
    let answer = c.in-Ok.answer in
    let same = told_is _ told.0 text told.1 input in
    let here = subst (λ t. Answers (asked_by c.args.words.now) t (g.D.Desk.file c.args.desk.now) answer.status answer.text.items (file_items answer.table)) same told.2 in
    no_answer_without_file asked text answer.status answer.text.items (file_items answer.table) reads admitted (kind_of asked asks (rw held at here))

pub returns-clause-complete : goal.returns-clause-complete
returns-clause-complete g c asked text asks input admitted calm =
    let rose = cut_rose g.D.Desk.file g.D.Desk.output g.D.Desk.faults c.args.desk.now _ _ _ _ c.prepare.ensures.write_faults c.in-Err-deliver.ensures.fault in
    absurd (calm rose.0 rose.1)

pub returns-clause-calm : goal.returns-clause-calm
returns-clause-calm g c calm =
    let rose = cut_rose g.D.Desk.file g.D.Desk.output g.D.Desk.faults c.args.desk.now _ _ _ _ c.prepare.ensures.write_faults c.in-Err-deliver.ensures.fault in
    absurd (calm rose.0 rose.1)

pub returns-clause-read_whole : goal.returns-clause-read_whole
returns-clause-read_whole g c reads read = write_fault_needs_no_input read

pub returns-clause-file_kept : goal.returns-clause-file_kept
returns-clause-file_kept g c idle =
    let none = tables_are_of_writers _ _ _ _ _ _ c.in-Ok.ensures.answers.2 (inl idle) in
    cut_keeps g.D.Desk.file g.D.Desk.output g.D.Desk.faults _ _ _ _ none c.in-Err-deliver.ensures.fault ∙ c.prepare.ensures.same_file

pub returns-clause-kept_by_input : goal.returns-clause-kept_by_input
returns-clause-kept_by_input g c asked text asks input refused =
    let told = c.in-Ok.ensures.answers in
    let answer = c.in-Ok.answer in
    let here = answers_text (asked_by c.args.words.now) _ told.0 text (g.D.Desk.file c.args.desk.now) answer.status answer.text.items (file_items answer.table) told.1 input told.2 in
    let none = refused_without_table asked text (g.D.Desk.file c.args.desk.now) answer.status answer.text.items (file_items answer.table) refused (kind_of asked asks here) in
    cut_keeps g.D.Desk.file g.D.Desk.output g.D.Desk.faults _ _ _ _ none c.in-Err-deliver.ensures.fault ∙ c.prepare.ensures.same_file

pub returns-clause-rest_left : goal.returns-clause-rest_left
returns-clause-rest_left g c = still_leaves (g.D.Desk.input c.args.desk.now) _ _ c.deliver.ensures.same_input c.prepare.ensures.rest_left

-- ---- there is no answer

pub returns-in-Err-clause-read_fault : goal.returns-in-Err-clause-read_fault
returns-in-Err-clause-read_fault g c fault = cause_of_end _ _ c.in-Err.ensures.refusal fault

pub returns-in-Err-clause-read_early : goal.returns-in-Err-clause-read_early
returns-in-Err-clause-read_early g c fault = c.in-Err.ensures.early (ap Err fault)

pub returns-in-Err-clause-headline : goal.returns-in-Err-clause-headline
returns-in-Err-clause-headline g c asked asks verdict = end_is_no_verdict _ _ c.in-Err.ensures.refusal verdict

pub returns-in-Err-clause-own : goal.returns-in-Err-clause-own
returns-in-Err-clause-own g c asked asks last = end_needs_no_input _ _ c.in-Err.ensures.refusal (inr last)

pub returns-in-Err-clause-determined : goal.returns-in-Err-clause-determined
returns-in-Err-clause-determined g c text status printed table input file h =
    (end_is_yielded _ status _ c.in-Err.ensures.refusal, λ is. end_is_no_answer _ _ _ is (no_fault _ _ _ _ _ _ h) c.in-Err.ensures.refusal)

pub returns-in-Err-clause-missing : goal.returns-in-Err-clause-missing
returns-in-Err-clause-missing g c asked text asks reads input admitted held = end_is_fault_or_none _ _ c.in-Err.ensures.refusal

pub returns-in-Err-clause-usage : goal.returns-in-Err-clause-usage
returns-in-Err-clause-usage g c none = inr (inr (end_without_cause _ _ (no_cause none) c.in-Err.ensures.refusal))

pub returns-in-Err-clause-read_whole : goal.returns-in-Err-clause-read_whole
returns-in-Err-clause-read_whole g c reads read = end_needs_no_input _ _ c.in-Err.ensures.refusal read

pub returns-in-Err-clause-complete : goal.returns-in-Err-clause-complete
returns-in-Err-clause-complete g c asked text asks input admitted calm =
    inr (end_without_cause _ _ (λ cause. let rose = cause_rose cause in calm rose.0 rose.1) c.in-Err.ensures.refusal)

pub returns-in-Err-clause-calm : goal.returns-in-Err-clause-calm
returns-in-Err-clause-calm g c calm =
    no_memory_is_no_fault (end_without_cause _ _ (λ cause. let rose = cause_rose cause in calm rose.0 rose.1) c.in-Err.ensures.refusal)
