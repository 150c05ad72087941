-- The answer of each command.
use Rattle.std.proofs.Common.{◌≡◌, Some, Err, rules, refl, ap}
use Rattle.command_words.specs.declared.commands.Command.TheVariants.{Plan, Check, Run, Graph, Cover, CoverCheck, Parts, Judge, Tidy, Cache}
use Rattle.command_words.specs.Commands.{subject, slots_of, reads_file}
use Rattle.pebble_cli.proofs.KernelAnswers.{faulty_answers, slotted_answers, plain_answers, tried_answers, slotted_fault, ran_fault}
use Rattle.pebble_cli.proofs.prepare.kernel_answer.Goals as goal

pub returns-in_err-accepted-clause-answers : goal.returns-in_err-accepted-clause-answers
returns-in_err-accepted-clause-answers g c = λ input e.
    let end = c.in_err-accepted.field-0.0 in
    let is : c.from_residual.result ≡ Err end = search rules in
    faulty_answers c.from_residual.result c.accepted_kernel.result end c.args.command input c.args.text.now (g.D.Desk.file c.args.desk.now) is c.in_err-accepted.was c.accepted_kernel.ensures.refused e

pub returns-in-Plan-clause-answers : goal.returns-in-Plan-clause-answers
returns-in-Plan-clause-answers g c = λ input e.
    slotted_answers c.plan_answer.result c.args.command (Plan c.in-Plan.asked) c.in-Plan.asked.slots input c.args.text.now (g.D.Desk.file c.args.desk.now) c.in-Plan.is refl refl e
    (c.plan_answer.ensures.answers c.args.text.now c.in_ok-accepted.accepted.kernel c.in_ok-accepted.ensures.accepted)

pub returns-in-Check-clause-answers : goal.returns-in-Check-clause-answers
returns-in-Check-clause-answers g c = λ input e.
    slotted_answers c.graph_on_file.result c.args.command (Check c.in-Check.asked) c.in-Check.asked.slots input c.args.text.now (g.D.Desk.file c.args.desk.now) c.in-Check.is refl refl e
    (c.graph_on_file.ensures.answers c.args.text.now c.in_ok-accepted.accepted.kernel c.in_ok-accepted.ensures.accepted)

pub returns-in-Check-clause-fault : goal.returns-in-Check-clause-fault
returns-in-Check-clause-fault g c = λ input e fault.
    let met = c.graph_on_file.ensures.fault fault in
    let both = slotted_fault c.args.command c.args.command c.in-Check.asked.slots input c.args.text.now c.in_ok-accepted.accepted.kernel c.in_ok-accepted.accepted.graph refl
    (ap (λ k. reads_file (Some k)) c.in-Check.is) (ap slots_of c.in-Check.is) e c.in_ok-accepted.ensures.accepted met.0 in
    (both.0, both.1, met.1)

pub returns-in-Run-clause-answers : goal.returns-in-Run-clause-answers
returns-in-Run-clause-answers g c = λ input e.
    plain_answers c.run_on_file.result c.args.command Run input c.args.text.now (g.D.Desk.file c.args.desk.now) c.in-Run.is refl e (c.run_on_file.ensures.answers c.args.text.now c.in_ok-accepted.ensures.accepted)

pub returns-in-Run-clause-fault : goal.returns-in-Run-clause-fault
returns-in-Run-clause-fault g c = λ input e fault.
    let both = ran_fault c.args.command input c.args.text.now c.in_ok-accepted.accepted.kernel c.in_ok-accepted.accepted.graph c.in-Run.is e c.in_ok-accepted.ensures.accepted in
    (both.0, both.1, c.run_on_file.ensures.fault fault)

pub returns-in-Graph-clause-answers : goal.returns-in-Graph-clause-answers
returns-in-Graph-clause-answers g c = λ input e.
    plain_answers c.graph_answer.result c.args.command Graph input c.args.text.now (g.D.Desk.file c.args.desk.now) c.in-Graph.is refl e
    (c.graph_answer.ensures.answers c.args.text.now c.in_ok-accepted.accepted.kernel c.in_ok-accepted.ensures.accepted)

pub unreachable-requires : goal.unreachable-requires
unreachable-requires g c = absurd (c.requires.kernel (ap subject c.in-Exec.is))

pub returns-in-Trial-clause-answers : goal.returns-in-Trial-clause-answers
returns-in-Trial-clause-answers g c = λ input e.
    tried_answers c.trial_answer.result c.args.command c.in-Trial.asked input c.args.text.now (g.D.Desk.file c.args.desk.now) c.in_ok-accepted.accepted.kernel c.in_ok-accepted.accepted.graph c.in-Trial.is e
    c.in_ok-accepted.ensures.accepted c.trial_answer.ensures.answers

pub returns-in-CoverCheck-clause-answers : goal.returns-in-CoverCheck-clause-answers
returns-in-CoverCheck-clause-answers g c = λ input e.
    slotted_answers c.graph_on_file-in-CoverCheck.result c.args.command (CoverCheck c.in-CoverCheck.slots) c.in-CoverCheck.slots input c.args.text.now (g.D.Desk.file c.args.desk.now) c.in-CoverCheck.is refl refl e
    (c.graph_on_file-in-CoverCheck.ensures.answers c.args.text.now c.in_ok-accepted.accepted.kernel c.in_ok-accepted.ensures.accepted)

pub returns-in-CoverCheck-clause-fault : goal.returns-in-CoverCheck-clause-fault
returns-in-CoverCheck-clause-fault g c = λ input e fault.
    let met = c.graph_on_file-in-CoverCheck.ensures.fault fault in
    let both = slotted_fault c.args.command c.args.command c.in-CoverCheck.slots input c.args.text.now c.in_ok-accepted.accepted.kernel c.in_ok-accepted.accepted.graph refl
    (ap (λ k. reads_file (Some k)) c.in-CoverCheck.is) (ap slots_of c.in-CoverCheck.is) e c.in_ok-accepted.ensures.accepted met.0 in
    (both.0, both.1, met.1)

pub returns-in-Judge-clause-answers : goal.returns-in-Judge-clause-answers
returns-in-Judge-clause-answers g c = λ input e.
    slotted_answers c.graph_on_file-in-Judge.result c.args.command (Judge c.in-Judge.slots) c.in-Judge.slots input c.args.text.now (g.D.Desk.file c.args.desk.now) c.in-Judge.is refl refl e
    (c.graph_on_file-in-Judge.ensures.answers c.args.text.now c.in_ok-accepted.accepted.kernel c.in_ok-accepted.ensures.accepted)

pub returns-in-Judge-clause-fault : goal.returns-in-Judge-clause-fault
returns-in-Judge-clause-fault g c = λ input e fault.
    let met = c.graph_on_file-in-Judge.ensures.fault fault in
    let both = slotted_fault c.args.command c.args.command c.in-Judge.slots input c.args.text.now c.in_ok-accepted.accepted.kernel c.in_ok-accepted.accepted.graph refl
    (ap (λ k. reads_file (Some k)) c.in-Judge.is) (ap slots_of c.in-Judge.is) e c.in_ok-accepted.ensures.accepted met.0 in
    (both.0, both.1, met.1)

pub returns-in-Tidy-clause-answers : goal.returns-in-Tidy-clause-answers
returns-in-Tidy-clause-answers g c = λ input e.
    slotted_answers c.graph_on_file-in-Tidy.result c.args.command (Tidy c.in-Tidy.slots) c.in-Tidy.slots input c.args.text.now (g.D.Desk.file c.args.desk.now) c.in-Tidy.is refl refl e
    (c.graph_on_file-in-Tidy.ensures.answers c.args.text.now c.in_ok-accepted.accepted.kernel c.in_ok-accepted.ensures.accepted)

pub returns-in-Tidy-clause-fault : goal.returns-in-Tidy-clause-fault
returns-in-Tidy-clause-fault g c = λ input e fault.
    let met = c.graph_on_file-in-Tidy.ensures.fault fault in
    let both = slotted_fault c.args.command c.args.command c.in-Tidy.slots input c.args.text.now c.in_ok-accepted.accepted.kernel c.in_ok-accepted.accepted.graph refl
    (ap (λ k. reads_file (Some k)) c.in-Tidy.is) (ap slots_of c.in-Tidy.is) e c.in_ok-accepted.ensures.accepted met.0 in
    (both.0, both.1, met.1)

pub returns-in-Cover-clause-answers : goal.returns-in-Cover-clause-answers
returns-in-Cover-clause-answers g c = λ input e.
    slotted_answers c.cover_answer.result c.args.command (Cover c.in-Cover.asked) c.in-Cover.asked.slots input c.args.text.now (g.D.Desk.file c.args.desk.now) c.in-Cover.is refl refl e
    (c.cover_answer.ensures.answers c.args.text.now c.in_ok-accepted.accepted.kernel c.in_ok-accepted.ensures.accepted)

pub returns-in-Parts-clause-answers : goal.returns-in-Parts-clause-answers
returns-in-Parts-clause-answers g c = λ input e.
    slotted_answers c.parts_answer.result c.args.command (Parts c.in-Parts.asked) c.in-Parts.asked.slots input c.args.text.now (g.D.Desk.file c.args.desk.now) c.in-Parts.is refl refl e
    (c.parts_answer.ensures.answers c.args.text.now c.in_ok-accepted.accepted.kernel c.in_ok-accepted.ensures.accepted)

pub returns-in-Cache-clause-answers : goal.returns-in-Cache-clause-answers
returns-in-Cache-clause-answers g c = λ input e.
    slotted_answers c.cache_answer.result c.args.command (Cache c.in-Cache.asked) c.in-Cache.asked.slots input c.args.text.now (g.D.Desk.file c.args.desk.now) c.in-Cache.is refl refl e
    (c.cache_answer.ensures.answers c.args.text.now c.in_ok-accepted.accepted.kernel c.in_ok-accepted.ensures.accepted)
