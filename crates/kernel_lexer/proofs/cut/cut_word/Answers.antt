-- The characters that were counted are the longest word.
use Rattle.std.proofs.Common.{sym, subst, arith}
use Rattle.kernel_lexer.specs.declared.cut.Cut.TheVariants.{Token}
use Rattle.kernel_lexer.specs.Cutting.{IsCut}
use Rattle.kernel_lexer.proofs.Cuts.{word_cut, word_big}
use Rattle.kernel_lexer.proofs.cut.cut_word.Goals as goal

pub returns-then-byte_len-le64 : goal.returns-then-byte_len-le64
returns-then-byte_len-le64 c =
    subst (λ k. IsCut c.args.rest.now (Token k c.word_len-len.result)) (sym c.word_kind.ensures)
    (word_cut c.args.rest.now c.word_len-len.result c.requires.begins c.word_len-len.ensures.value c.word_len-len.ensures.within (omega (arith, c.byte_len.ensures.value)))

pub returns-else-byte_len-le64 : goal.returns-else-byte_len-le64
returns-else-byte_len-le64 c = word_big c.args.rest.now c.word_len-len.result c.requires.begins c.word_len-len.ensures.value (omega (arith, c.byte_len.ensures.value))
