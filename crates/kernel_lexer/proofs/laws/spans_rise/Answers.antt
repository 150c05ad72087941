-- The law is proved in proofs/Spans.antt.
use Rattle.kernel_lexer.proofs.Spans.{spans_rise}
use Rattle.kernel_lexer.proofs.laws.spans_rise.Goals as goal

pub returns : goal.returns
returns c = spans_rise
