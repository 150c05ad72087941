-- A text that is UTF-8 is its own longest front.
use Rattle.std.proofs.Common.{length, refl, sym, ◌∙◌, inl}
use Rattle.std.proofs.Math.Seq.{take-length}
use Rattle.kernel_lexer.proofs.lexer.front.Goals as goal

pub returns-in-Ok : goal.returns-in-Ok
returns-in-Ok c = (length c.args.text.now, inl (c.in-Ok.ensures.cases.1, refl), c.in-Ok.ensures.cases.0 ∙ sym (take-length c.args.text.now))
