-- The answer to the kernel or the code in the input, or to the trial kernel, is the answer to the input.
use Rattle.std.proofs.Common.{◌≡◌, ◌∙◌, Some, Err, rules, refl, sym, ap, subst}
use Rattle.desk_io.specs.Known.{Tells}
use Rattle.command_answers.specs.declared.answer.EarlyEnd.TheVariants.{ReadFault}
use Rattle.command_words.specs.declared.commands.Subject.TheVariants.{InputKernel, InputCode}
use Rattle.pebble_cli.proofs.SubjectAnswers.{long_answers, told_answers, file_fault, long_code_answers, code_answers, code_file_fault, trial_answers, trial_file_fault, trial_in_limits}
use Rattle.pebble_cli.specs.Faults.{input_limit}
use Rattle.answer_desk.proofs.InputRests.{idle_leaves, still_leaves, whole_within, idle_within}
use Rattle.pebble_cli.proofs.Delivering.{subject_within}
use Rattle.pebble_cli.proofs.prepare.command_answer.Goals as goal

-- ---- a kernel

pub returns-in_err-text-in-InputKernel-clause-answers : goal.returns-in_err-text-in-InputKernel-clause-answers
returns-in_err-text-in-InputKernel-clause-answers g c =
    let end = c.in_err-text-in-InputKernel.field-0.0 in
    let is : c.from_residual.result ≡ Err end = search rules in
    long_answers c.from_residual.result c.kernel_input.result end c.args.command (g.D.Desk.input c.args.desk.now) (g.D.Desk.file c.args.desk.now) is c.in_err-text-in-InputKernel.was
    c.kernel_input.ensures.refused (sym c.subject.ensures ∙ c.in-InputKernel.is)

pub kernel_answer-requires-clause-kernel : goal.kernel_answer-requires-clause-kernel
kernel_answer-requires-clause-kernel g c = λ e. let other : InputKernel ≡ InputCode = sym c.in-InputKernel.is ∙ c.subject.ensures ∙ e in absurd (cc)

pub returns-in_ok-text-in-InputKernel-clause-answers : goal.returns-in_ok-text-in-InputKernel-clause-answers
returns-in_ok-text-in-InputKernel-clause-answers g c =
    let told = subst (Tells (g.D.Desk.input c.args.desk.now)) (sym c.deref.ensures.value) c.in_ok-text-in-InputKernel.ensures.told in
    told_answers c.kernel_answer.result c.args.command (g.D.Desk.input c.args.desk.now) c.deref.result.now (g.D.Desk.file c.args.desk.now) (g.D.Desk.file c.kernel_input.new.desk) told
    c.kernel_input.ensures.same_file (sym c.subject.ensures ∙ c.in-InputKernel.is) c.kernel_answer.ensures.answers

pub returns-in_ok-text-in-InputKernel-clause-fault : goal.returns-in_ok-text-in-InputKernel-clause-fault
returns-in_ok-text-in-InputKernel-clause-fault g c fault =
    let told = subst (Tells (g.D.Desk.input c.args.desk.now)) (sym c.deref.ensures.value) c.in_ok-text-in-InputKernel.ensures.told in
    file_fault c.args.command (g.D.Desk.input c.args.desk.now) c.deref.result.now (g.D.Desk.faults c.args.desk.now) (g.D.Desk.faults c.kernel_input.new.desk) (g.D.Desk.faults c.kernel_answer.new.desk) told
    (sym c.subject.ensures ∙ c.in-InputKernel.is) c.kernel_input.ensures.same_takes (c.kernel_input.ensures.no_vain_take (λ e. let both = sym c.in_ok-text-in-InputKernel.was ∙ e in cc)).input c.kernel_answer.ensures.same_takes (λ input e. c.kernel_answer.ensures.fault input e fault)

pub returns-in_ok-text-in-InputKernel-clause-rest_left : goal.returns-in_ok-text-in-InputKernel-clause-rest_left
returns-in_ok-text-in-InputKernel-clause-rest_left g c = still_leaves (g.D.Desk.input c.args.desk.now) _ _ c.kernel_answer.ensures.same_input c.kernel_input.ensures.rest_left

pub returns-in_err-text-in-InputKernel-clause-early : goal.returns-in_err-text-in-InputKernel-clause-early
returns-in_err-text-in-InputKernel-clause-early g c fault =
    let end = c.in_err-text-in-InputKernel.field-0.0 in
    let is : c.from_residual.result ≡ Err end = search rules in
    let same : end ≡ ReadFault = cc in
    subject_within c.args.command (g.D.Desk.input c.args.desk.now) _ InputKernel (sym c.subject.ensures ∙ c.in-InputKernel.is)
    (c.kernel_input.ensures.early (c.in_err-text-in-InputKernel.was ∙ ap Err same))

pub returns-in_ok-text-in-InputKernel-clause-early : goal.returns-in_ok-text-in-InputKernel-clause-early
returns-in_ok-text-in-InputKernel-clause-early g c fault =
    let read = c.in_ok-text-in-InputKernel.ensures in
    subject_within c.args.command (g.D.Desk.input c.args.desk.now) _ InputKernel (sym c.subject.ensures ∙ c.in-InputKernel.is)
    (whole_within (g.D.Desk.input c.args.desk.now) _ _ _ 65536 read.told read.short read.whole c.kernel_answer.ensures.same_input)

-- ---- a code

pub returns-in_err-text-in-InputCode-clause-answers : goal.returns-in_err-text-in-InputCode-clause-answers
returns-in_err-text-in-InputCode-clause-answers g c =
    let end = c.in_err-text-in-InputCode.field-0.0 in
    let is : c.from_residual-in_err-text-in-InputCode.result ≡ Err end = search rules in
    long_code_answers c.from_residual-in_err-text-in-InputCode.result c.code_input.result end c.args.command (g.D.Desk.input c.args.desk.now) (g.D.Desk.file c.args.desk.now) is
    c.in_err-text-in-InputCode.was c.code_input.ensures.refused (sym c.subject.ensures ∙ c.in-InputCode.is)

pub returns-in_ok-text-in-InputCode-clause-answers : goal.returns-in_ok-text-in-InputCode-clause-answers
returns-in_ok-text-in-InputCode-clause-answers g c =
    let told = subst (Tells (g.D.Desk.input c.args.desk.now)) (sym c.deref-in-InputCode.ensures.value) c.in_ok-text-in-InputCode.ensures.told in
    code_answers c.exec_on_file.result c.args.command (g.D.Desk.input c.args.desk.now) c.deref-in-InputCode.result.now (g.D.Desk.file c.args.desk.now) (g.D.Desk.file c.code_input.new.desk) told
    c.code_input.ensures.same_file (sym c.subject.ensures ∙ c.in-InputCode.is) c.exec_on_file.ensures.answers

pub returns-in_ok-text-in-InputCode-clause-fault : goal.returns-in_ok-text-in-InputCode-clause-fault
returns-in_ok-text-in-InputCode-clause-fault g c fault =
    let told = subst (Tells (g.D.Desk.input c.args.desk.now)) (sym c.deref-in-InputCode.ensures.value) c.in_ok-text-in-InputCode.ensures.told in
    code_file_fault c.args.command (g.D.Desk.input c.args.desk.now) c.deref-in-InputCode.result.now (g.D.Desk.faults c.args.desk.now) (g.D.Desk.faults c.code_input.new.desk)
    (g.D.Desk.faults c.exec_on_file.new.desk) told (sym c.subject.ensures ∙ c.in-InputCode.is) c.code_input.ensures.same_takes (c.code_input.ensures.no_vain_take (λ e. let both = sym c.in_ok-text-in-InputCode.was ∙ e in cc)).input c.exec_on_file.ensures.same_takes (c.exec_on_file.ensures.fault fault)

pub returns-in_ok-text-in-InputCode-clause-rest_left : goal.returns-in_ok-text-in-InputCode-clause-rest_left
returns-in_ok-text-in-InputCode-clause-rest_left g c = still_leaves (g.D.Desk.input c.args.desk.now) _ _ c.exec_on_file.ensures.same_input c.code_input.ensures.rest_left

pub returns-in_err-text-in-InputCode-clause-early : goal.returns-in_err-text-in-InputCode-clause-early
returns-in_err-text-in-InputCode-clause-early g c fault =
    let end = c.in_err-text-in-InputCode.field-0.0 in
    let is : c.from_residual-in_err-text-in-InputCode.result ≡ Err end = search rules in
    let same : end ≡ ReadFault = cc in
    subject_within c.args.command (g.D.Desk.input c.args.desk.now) _ InputCode (sym c.subject.ensures ∙ c.in-InputCode.is)
    (c.code_input.ensures.early (c.in_err-text-in-InputCode.was ∙ ap Err same))

pub returns-in_ok-text-in-InputCode-clause-early : goal.returns-in_ok-text-in-InputCode-clause-early
returns-in_ok-text-in-InputCode-clause-early g c fault =
    let read = c.in_ok-text-in-InputCode.ensures in
    subject_within c.args.command (g.D.Desk.input c.args.desk.now) _ InputCode (sym c.subject.ensures ∙ c.in-InputCode.is)
    (whole_within (g.D.Desk.input c.args.desk.now) _ _ _ 20000000 read.told read.short read.whole c.exec_on_file.ensures.same_input)

-- ---- a trial kernel

pub trial-requires : goal.trial-requires
trial-requires g c = trial_in_limits c.args.command c.in-TrialKernel.statements (sym c.subject.ensures ∙ c.in-TrialKernel.is) c.requires

pub returns-in_ok-kernel-in-TrialKernel-clause-answers : goal.returns-in_ok-kernel-in-TrialKernel-clause-answers
returns-in_ok-kernel-in-TrialKernel-clause-answers g c =
    trial_answers c.kernel_answer-in-TrialKernel.result c.args.command c.in-TrialKernel.statements (g.D.Desk.input c.args.desk.now) c.deref-in-TrialKernel.result.now (g.D.Desk.file c.args.desk.now)
    (sym c.subject.ensures ∙ c.in-TrialKernel.is) (c.deref-in-TrialKernel.ensures.value ∙ c.in_ok-kernel-in-TrialKernel.ensures) c.kernel_answer-in-TrialKernel.ensures.answers

pub returns-in_ok-kernel-in-TrialKernel-clause-fault : goal.returns-in_ok-kernel-in-TrialKernel-clause-fault
returns-in_ok-kernel-in-TrialKernel-clause-fault g c fault =
    trial_file_fault c.args.command c.in-TrialKernel.statements c.deref-in-TrialKernel.result.now (g.D.Desk.faults c.args.desk.now) (g.D.Desk.faults c.kernel_answer-in-TrialKernel.new.desk)
    (sym c.subject.ensures ∙ c.in-TrialKernel.is) (c.deref-in-TrialKernel.ensures.value ∙ c.in_ok-kernel-in-TrialKernel.ensures) (λ input e. c.kernel_answer-in-TrialKernel.ensures.fault input e fault)

pub returns-in_err-kernel-in-TrialKernel-clause-rest_left : goal.returns-in_err-kernel-in-TrialKernel-clause-rest_left
returns-in_err-kernel-in-TrialKernel-clause-rest_left g c = idle_leaves (g.D.Desk.input c.args.desk.now) _ refl

pub returns-in_ok-kernel-in-TrialKernel-clause-rest_left : goal.returns-in_ok-kernel-in-TrialKernel-clause-rest_left
returns-in_ok-kernel-in-TrialKernel-clause-rest_left g c = idle_leaves (g.D.Desk.input c.args.desk.now) _ c.kernel_answer-in-TrialKernel.ensures.same_input

pub returns-in_ok-kernel-in-TrialKernel-clause-early : goal.returns-in_ok-kernel-in-TrialKernel-clause-early
returns-in_ok-kernel-in-TrialKernel-clause-early g c fault =
    idle_within (g.D.Desk.input c.args.desk.now) _ (input_limit (Some c.args.command)) c.kernel_answer-in-TrialKernel.ensures.same_input
