-- The laws are proved in proofs/Judged.antt and proofs/Verdicts.antt.
use Rattle.play_files.proofs.Judged.{faults_are_of_no_pebbling, one_fault}
use Rattle.play_files.proofs.Verdicts.{complete_or_faulty}
use Rattle.play_files.proofs.laws.one_verdict.Goals as goal

pub returns : goal.returns
returns c = record { none = faults_are_of_no_pebbling; one = one_fault; always = complete_or_faulty }
