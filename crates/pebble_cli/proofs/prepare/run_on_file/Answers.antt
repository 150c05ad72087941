-- Where memory is wanted there is no answer.
use Rattle.std.proofs.Common.{◌≡◌, Err, rules}
use Rattle.command_answers.specs.declared.answer.EarlyEnd.TheVariants.{NoMemory}
use Rattle.command_answers.proofs.EarlyEnds.{no_answer}
use Rattle.pebble_cli.proofs.prepare.run_on_file.Goals as goal

pub returns-in_err-run_answer-clause-answers : goal.returns-in_err-run_answer-clause-answers
returns-in_err-run_answer-clause-answers g c = λ text accepted.
    let is : c.from_residual-in_err-run_answer.result ≡ Err NoMemory = search rules in
    no_answer c.from_residual-in_err-run_answer.result _ is
