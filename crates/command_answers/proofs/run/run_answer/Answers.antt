-- What was read of the file says which answer it is.
use Rattle.command_answers.proofs.Running.{long_values, of_long, of_whole}
use Rattle.command_answers.proofs.run.run_answer.Goals as goal

pub returns-in-Whole : goal.returns-in-Whole
returns-in-Whole c =
    let accepted = c.args.accepted.now in
    of_whole c.values_answer.result accepted.kernel accepted.graph c.args.file.now c.in-Whole.bytes c.deref.result.now c.in-Whole.is c.deref.ensures.value c.values_answer.ensures

pub returns-in-TooLong : goal.returns-in-TooLong
returns-in-TooLong c =
    let accepted = c.args.accepted.now in
    let answer = c.values_fault.ensures in
    of_long c.values_fault.result accepted.kernel accepted.graph c.args.file.now c.in-TooLong.is
    (long_values c.values_fault.result accepted.kernel accepted.graph answer.status answer.text answer.none)
