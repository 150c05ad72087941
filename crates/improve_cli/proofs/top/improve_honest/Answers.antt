-- No count of an honest desk rises, so the answer was delivered, and it is the command's own where nothing refuses the input.
use Rattle.std.proofs.Common.{arith, refl, sym, subst}
use Rattle.std.specs.Prelude.{None}
use Rattle.improve_cli.specs.Answers.{Answers}
use Rattle.improve_answers.specs.ImproveWords.{asked_by}
use Rattle.improve_cli.proofs.top.improve_honest.Goals as goal

pub returns-clause-answered : goal.returns-clause-answered
returns-clause-answered c memory =
    let calm = c.improve.ensures.calm (λ kind rose. omega (arith, rose)) in
    let said = c.improve.ensures.said calm.0 calm.1 memory in
    (said.1, said.2, subst (λ t. Answers (asked_by c.args.words.now) t None c.improve.result said.1 said.2) (sym said.3) said.4)

pub returns-clause-complete : goal.returns-clause-complete
returns-clause-complete c asked asks admitted = c.improve.ensures.complete asked _ asks (λ reads. refl) admitted (λ kind rose. omega (arith, rose))
