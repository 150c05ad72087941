-- What the general laws say of the reader of the small grammar.
use Rattle.token_grammar.specs.Nested.{Part, part}
use Rattle.token_grammar.proofs.Texts.{reads, exact_fault}
use Rattle.token_grammar.proofs.NestedLaws.{part_step}
use Rattle.token_grammar.proofs.laws.reader_is_exact.Goals as goal

pub returns-clause-value : goal.returns-clause-value
returns-clause-value c = reads part Part part_step

pub returns-clause-fault : goal.returns-clause-fault
returns-clause-fault c = λ limit text f rest e. exact_fault part Part part_step limit f text rest e
