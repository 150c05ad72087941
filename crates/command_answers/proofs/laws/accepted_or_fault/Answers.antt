-- The laws of accepted texts, as the lemmas show them.
use Rattle.command_answers.proofs.Accepting as laws
use Rattle.command_answers.proofs.laws.accepted_or_fault.Goals as goal

pub returns-clause-once : goal.returns-clause-once
returns-clause-once c = laws.accepted_once

pub returns-clause-one_fault : goal.returns-clause-one_fault
returns-clause-one_fault c = laws.one_kernel_fault

pub returns-clause-apart : goal.returns-clause-apart
returns-clause-apart c = laws.no_fault_of_accepted

pub returns-clause-always : goal.returns-clause-always
returns-clause-always c = laws.accepted_or_fault
