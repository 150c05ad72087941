-- What the general laws say of the small grammar.
use Rattle.token_grammar.specs.Nested.{Part, part}
use Rattle.token_grammar.proofs.Texts.{only_reading, one_fault, never_both, word_or_fault}
use Rattle.token_grammar.proofs.NestedLaws.{part_step}
use Rattle.token_grammar.proofs.laws.one_answer.Goals as goal

pub returns-clause-reading : goal.returns-clause-reading
returns-clause-reading c = only_reading part Part part_step

pub returns-clause-fault : goal.returns-clause-fault
returns-clause-fault c = one_fault Part

pub returns-clause-apart : goal.returns-clause-apart
returns-clause-apart c = never_both Part

pub returns-clause-always : goal.returns-clause-always
returns-clause-always c = word_or_fault part Part part_step
