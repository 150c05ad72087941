-- The steps of the lexer: one more token, a fault, or the end.
use Rattle.std.proofs.Common.{◌≡◌, false, [], ◌++◌, sym, subst, arith}
use Rattle.std.proofs.lemmas.Grind.{common_steps}
use Rattle.kernel_lexer.specs.Lexing.{skip}
use Rattle.kernel_lexer.proofs.Found.{Leads, leads_end, leads_fault, leads_step, split_bytes}
use Rattle.kernel_lexer.proofs.lexer.tokens_of.Goals as goal

pub returns-in-NoToken-clause-fault : goal.returns-in-NoToken-clause-fault
returns-in-NoToken-clause-fault c =
    (c.in-NoToken.fault, c.tokens.found.items ++ [], c.tokens.rest.now, leads_fault c.args.text.now c.tokens.found.items c.tokens.rest.now c.in-NoToken.fault c.tokens.invariant.leads c.in-NoToken.ensures, c.code.ensures, omega (arith, c.tokens.invariant.place))

pub skip-requires : goal.skip-requires
skip-requires c =
    let e = split_bytes c.in-Token.len c.tokens.rest.now c.split_at.result.0.now c.split_at.result.1.now c.split_at.ensures.front c.split_at.ensures.back in
    omega (arith, e, c.byte_len.ensures.value, c.tokens.invariant.place, c.requires.small)

pub tokens-preserved : goal.tokens-preserved
tokens-preserved c =
    let e = split_bytes c.in-Token.len c.tokens.rest.now c.split_at.result.0.now c.split_at.result.1.now c.split_at.ensures.front c.split_at.ensures.back in
    let l = leads_step c.args.text.now c.tokens.found.items c.tokens.rest.now c.split_at.result.0.now c.split_at.result.1.now c.in-Token.kind c.in-Token.len c.tokens.at c.byte_len.result c.tokens.invariant.leads c.in-Token.ensures c.tokens.invariant.place c.split_at.ensures.front c.split_at.ensures.back c.byte_len.ensures.value in
    let m = subst (λ z. Leads c.args.text.now z (skip false c.split_at.result.1.now)) (sym c.in_ok-append-in-Token.ensures) l in
    record {
      shorter = omega (arith, c.skip.ensures.shorter, c.split_at.ensures.back_len, c.tokens.invariant.shorter);
      place = omega (arith, e, c.skip.ensures.place, c.byte_len.ensures.value, c.tokens.invariant.place);
      leads = subst (λ z. Leads c.args.text.now c.append.new.found.items z) (sym c.skip.ensures.left) m;
    }

pub returns-clause-tokens : goal.returns-clause-tokens
returns-clause-tokens c =
    let e : c.tokens.rest.now ≡ [] = grind (arith, common_steps) in
    leads_end c.args.text.now c.tokens.found.items (subst (Leads c.args.text.now c.tokens.found.items) e c.tokens.invariant.leads)
