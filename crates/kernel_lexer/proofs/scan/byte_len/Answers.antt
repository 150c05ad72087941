-- One more character adds its bytes.
use Rattle.std.proofs.Common.{◌≡◌, get_or, ap, ◌∙◌, arith}
use Rattle.std.proofs.lemmas.Grind.{common_steps}
use Rattle.std.specs.Char.{len_utf8}
use Rattle.kernel_lexer.proofs.Cuts.{bytes_more}
use Rattle.kernel_lexer.proofs.scan.byte_len.Goals as goal

pub loop-c-preserved : goal.loop-c-preserved
loop-c-preserved c =
    let e = bytes_more c.args.word.now c.loop-c.c-index c.loop-c-test.true in
    let f : c.c-item.result ≡ get_or c.args.word.now c.loop-c.c-index 0 = grind (arith, common_steps) in
    let g : c.len_utf8-len.result ≡ len_utf8 (get_or c.args.word.now c.loop-c.c-index 0) = c.len_utf8-len.ensures.value ∙ ap len_utf8 f in
    (omega arith, omega arith)
