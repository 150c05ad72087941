-- What the characters have, their text has.
use Rattle.std.proofs.Common.{◌≡◌, length, ap, ◌∙◌, subst}
use Rattle.std.specs.Prelude.{IfOk}
use Rattle.kernel_lexer.specs.Lexing.{AreTokens}
use Rattle.kernel_lexer.proofs.Found.{front_err}
use Rattle.std.specs.Str.{chars}
use Rattle.kernel_lexer.specs.Spelling.{bytes}
use Rattle.kernel_lexer.proofs.lexer.tokens_of_front.Goals as goal

pub returns-clause-tokens : goal.returns-clause-tokens
returns-clause-tokens c =
    let p : c.as_slice.result.now ≡ chars c.args.front.now = c.as_slice.ensures.value ∙ c.in_ok-text.ensures.chars in
    let q : bytes c.as_slice.result.now ≡ length c.args.front.now = ap bytes c.as_slice.ensures.value ∙ c.in_ok-text.ensures.bytes in
    subst (λ n. IfOk c.tokens_of.result (λ v. AreTokens n (chars c.args.front.now) v.items)) q (subst (λ z. IfOk c.tokens_of.result (λ v. AreTokens (bytes c.as_slice.result.now) z v.items)) p c.tokens_of.ensures.tokens)

pub returns-clause-fault : goal.returns-clause-fault
returns-clause-fault c =
    let p : c.as_slice.result.now ≡ chars c.args.front.now = c.as_slice.ensures.value ∙ c.in_ok-text.ensures.chars in
    let q : bytes c.as_slice.result.now ≡ length c.args.front.now = ap bytes c.as_slice.ensures.value ∙ c.in_ok-text.ensures.bytes in
    front_err c.tokens_of.result c.as_slice.result.now c.args.front.now p q c.tokens_of.ensures.fault
