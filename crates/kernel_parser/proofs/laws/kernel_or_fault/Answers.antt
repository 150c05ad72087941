-- The laws are proved in proofs/OneText.antt and proofs/NamesInOrder.antt.
use Rattle.kernel_parser.proofs.OneText as laws
use Rattle.kernel_parser.proofs.NamesInOrder.{name_faults_in_order}
use Rattle.kernel_parser.proofs.laws.kernel_or_fault.Goals as goal

pub returns-clause-one_kernel : goal.returns-clause-one_kernel
returns-clause-one_kernel c = laws.one_kernel

pub returns-clause-well_formed : goal.returns-clause-well_formed
returns-clause-well_formed c = laws.kernels_are_well_formed

pub returns-clause-one_fault : goal.returns-clause-one_fault
returns-clause-one_fault c = laws.one_text_fault

pub returns-clause-never_both : goal.returns-clause-never_both
returns-clause-never_both c = laws.kernel_without_fault

pub returns-clause-always_one : goal.returns-clause-always_one
returns-clause-always_one c = laws.kernel_or_fault

pub returns-clause-name_order : goal.returns-clause-name_order
returns-clause-name_order c = name_faults_in_order
