-- The digits that were counted are the longest number.
use Rattle.std.proofs.Common.{rules, ◌≡◌, ◌∙◌, to_z, of_z, w64}
use Rattle.kernel_lexer.proofs.Cuts.{all_digits, number_cut, number_big}
use Rattle.kernel_lexer.proofs.cut.cut_number.Goals as goal

pub value-requires : goal.value-requires
value-requires c = search (rules, all_digits c.args.rest.now c.digits_len-len.result c.digits_len-len.ensures.value)

pub returns-in-Some : goal.returns-in-Some
returns-in-Some c =
    let e : to_z w64 (of_z w64 c.in-Some.n) ≡ c.in-Some.n = search rules in
    number_cut c.args.rest.now c.digits_len-len.result (to_z w64 (of_z w64 c.in-Some.n)) c.requires c.digits_len-len.ensures.value (e ∙ c.in-Some.ensures.some.0) c.in-Some.ensures.some.1

pub returns-in-None : goal.returns-in-None
returns-in-None c = number_big c.args.rest.now c.digits_len-len.result c.requires c.digits_len-len.ensures.value c.in-None.ensures.none
