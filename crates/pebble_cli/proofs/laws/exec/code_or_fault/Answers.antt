-- The laws are lemmas.
use Rattle.command_answers.proofs.CodeInputs.{one_code, one_code_fault, no_fault_of_code, code_or_fault}
use Rattle.pebble_cli.proofs.laws.exec.code_or_fault.Goals as goal

pub returns-clause-once : goal.returns-clause-once
returns-clause-once c = one_code

pub returns-clause-one_fault : goal.returns-clause-one_fault
returns-clause-one_fault c = one_code_fault

pub returns-clause-apart : goal.returns-clause-apart
returns-clause-apart c = no_fault_of_code

pub returns-clause-always : goal.returns-clause-always
returns-clause-always c = code_or_fault
