-- What was read of the file says which answer it is.
use Rattle.command_answers.proofs.Executing.{of_long, of_whole}
use Rattle.command_answers.proofs.exec.exec_answer.Goals as goal

pub returns-in-Whole : goal.returns-in-Whole
returns-in-Whole c = of_whole c.values_answer.result c.args.code.now c.args.file.now c.in-Whole.bytes c.deref.result.now c.in-Whole.is c.deref.ensures.value c.values_answer.ensures

pub returns-in-TooLong : goal.returns-in-TooLong
returns-in-TooLong c =
    let answer = c.values_fault.ensures in
    of_long c.values_fault.result c.args.code.now c.args.file.now c.in-TooLong.is answer.status answer.text answer.none
