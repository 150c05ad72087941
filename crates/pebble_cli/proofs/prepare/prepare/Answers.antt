-- What answers the command that the words spell answers the words.
use Rattle.desk_io.specs.Known.{TookAtMost}
use Rattle.std.proofs.Common.{refl, Err, sym, ap, subst, inr}
use Rattle.pebble_cli.specs.Faults.{ReadCause, input_limit}
use Rattle.command_answers.specs.MadeAnswers.{IfAnswer}
use Rattle.pebble_cli.specs.InputAnswers.{AnswersInput}
use Rattle.command_words.specs.Words.{asked_by}
use Rattle.std.specs.Prelude.{Some}
use Rattle.pebble_cli.proofs.SubjectAnswers.{usage_answers}
use Rattle.answer_desk.proofs.InputRests.{idle_leaves}
use Rattle.pebble_cli.proofs.prepare.prepare.Goals as goal

pub returns-in-None-clause-answers : goal.returns-in-None-clause-answers
returns-in-None-clause-answers g c =
    usage_answers (asked_by c.args.words.now) (g.D.Desk.input c.args.desk.now) (g.D.Desk.file c.args.desk.now) c.in_ok-usage_answer-in-None.field-0
    (sym c.in-None.ensures.value) c.in_ok-usage_answer-in-None.ensures

pub returns-in-Ok-clause-answers : goal.returns-in-Ok-clause-answers
returns-in-Ok-clause-answers g c =
    subst (λ k. AnswersInput k (g.D.Desk.input c.args.desk.now) (g.D.Desk.file c.args.desk.now) c.in-Ok.answer) c.in-Some.ensures.value c.in-Ok.ensures.answers

pub returns-in-Err-Refused-clause-answers : goal.returns-in-Err-Refused-clause-answers
returns-in-Err-Refused-clause-answers g c =
    let refused = subst (λ z. IfAnswer (Err z) (AnswersInput (Some c.in-Some.command) (g.D.Desk.input c.args.desk.now) (g.D.Desk.file c.args.desk.now)))
    c.in-Err-Refused.field-0-is c.in-Err-Refused.ensures.answers in
    subst (λ k. AnswersInput k (g.D.Desk.input c.args.desk.now) (g.D.Desk.file c.args.desk.now) c.in-Err-Refused.answer) c.in-Some.ensures.value refused

pub returns-in-Err-ReadFault-clause-refusal : goal.returns-in-Err-ReadFault-clause-refusal
returns-in-Err-ReadFault-clause-refusal g c =
    inr (
      refl,
      subst (λ k. ReadCause k (g.D.Desk.input c.args.desk.now) (g.D.Desk.faults c.args.desk.now) (g.D.Desk.faults c.command_answer.new.desk)) c.in-Some.ensures.value
          (c.in-Err-ReadFault.ensures.fault (ap Err c.in-Err-ReadFault.field-0-is)),
    )

pub returns-in-None-clause-rest_left : goal.returns-in-None-clause-rest_left
returns-in-None-clause-rest_left g c = idle_leaves (g.D.Desk.input c.args.desk.now) _ refl

pub returns-in-Err-ReadFault-clause-early : goal.returns-in-Err-ReadFault-clause-early
returns-in-Err-ReadFault-clause-early g c fault =
    subst (λ k. TookAtMost (g.D.Desk.input c.args.desk.now) (g.D.Desk.input c.command_answer.new.desk) (input_limit k)) c.in-Some.ensures.value
    (c.in-Err-ReadFault.ensures.early (ap Err c.in-Err-ReadFault.field-0-is))
