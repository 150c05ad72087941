-- The names of expressions, part by part.
use Rattle.std.proofs.Common.{rules, ◌≡◌, ◌+◌, ◌++◌, ◌∷◌, [], OnOk, IfOk, IfErr, map, drop, append_assoc, sym, ap, subst, ◌∙◌}
use Rattle.kernel_ast.specs.Walk.{joined}
use Rattle.kernel_ast.specs.declared.tree.Expr.TheVariants as expr
use Rattle.kernel_ast.specs.declared.tree.Link.{roll-Link}
use Rattle.kernel_syntax.specs.declared.raw.RawLink.{out-RawLink}
use Rattle.kernel_parser.specs.Names as spec
use Rattle.kernel_parser.specs.Resolved as tree
use Rattle.kernel_parser.specs.Scopes.{known, EndsAt}
use Rattle.kernel_parser.proofs.Expressions.{number_has_faults, place_has_faults, minus_has_faults, chain_has_faults, operand_has_faults, call_has_faults, place_gives, minus_gives, chain_gives, link_gives, call_gives}
use Rattle.kernel_parser.proofs.Faults.{ends_first, ends_later}
use Rattle.kernel_parser.proofs.Lists.{drop_next}
use Rattle.kernel_parser.proofs.names.scope.Scope.+expr.Goals as goal

pub expr-returns-in-Number-clause-faultless : goal.expr-returns-in-Number-clause-faultless
expr-returns-in-Number-clause-faultless t c =
    let k = known c.args.self.now in
    ap (spec.expr_faults k) c.in-Number.is ∙ number_has_faults k c.in-Number.number

pub expr-returns-in-Place-clause-faultless : goal.expr-returns-in-Place-clause-faultless
expr-returns-in-Place-clause-faultless t c =
    let k = known c.args.self.now in
    subst (λ z. OnOk c.read.result (z ≡ [])) (sym (ap (spec.expr_faults k) c.in-Place.is ∙ place_has_faults k c.in-Place.place)) c.read.ensures.faultless

pub expr-returns-in-Place-clause-tree : goal.expr-returns-in-Place-clause-tree
expr-returns-in-Place-clause-tree t c =
    let k = known c.args.self.now in
    subst (λ z. IfOk c.read.result (λ t'. t' ≡ z)) (sym (ap (tree.expr_of k) c.in-Place.is ∙ place_gives k c.in-Place.place)) c.read.ensures.tree

pub expr-returns-in-Place-clause-fault : goal.expr-returns-in-Place-clause-fault
expr-returns-in-Place-clause-fault t c =
    let k = known c.args.self.now in
    subst (λ z. IfErr c.read.result (EndsAt z)) (sym (ap (spec.expr_faults k) c.in-Place.is ∙ place_has_faults k c.in-Place.place)) c.read.ensures.fault

pub expr-returns-in_err-value-in-Minus-clause-fault : goal.expr-returns-in_err-value-in-Minus-clause-fault
expr-returns-in_err-value-in-Minus-clause-fault t c =
    let k = known c.args.self.now in
    let o = c.in_err-value-in-Minus.field-0.0 in
    let e = ap (spec.expr_faults k) c.in-Minus.is ∙ minus_has_faults k c.in-Minus.value c.in-Minus.at ∙ ap (spec.expr_faults k) (sym c.get.ensures) in
    let whole : EndsAt (spec.expr_faults k c.args.raw.now) o = subst (λ z. EndsAt z o) (sym e) c.in_err-value-in-Minus.ensures.fault in
    search rules

pub expr-returns-in_ok-new-in-Minus-clause-faultless : goal.expr-returns-in_ok-new-in-Minus-clause-faultless
expr-returns-in_ok-new-in-Minus-clause-faultless t c =
    let k = known c.args.self.now in
    ap (spec.expr_faults k) c.in-Minus.is ∙ minus_has_faults k c.in-Minus.value c.in-Minus.at ∙ ap (spec.expr_faults k) (sym c.get.ensures) ∙ c.in_ok-value-in-Minus.ensures.faultless

pub expr-returns-in_ok-new-in-Minus-clause-tree : goal.expr-returns-in_ok-new-in-Minus-clause-tree
expr-returns-in_ok-new-in-Minus-clause-tree t c =
    let k = known c.args.self.now in
    ap (λ x. expr.Minus x c.in-Minus.at) (c.in_ok-new-in-Minus.ensures ∙ c.in_ok-value-in-Minus.ensures.tree ∙ ap (tree.expr_of k) c.get.ensures)
    ∙ sym (ap (tree.expr_of k) c.in-Minus.is ∙ minus_gives k c.in-Minus.value c.in-Minus.at)

pub expr-returns-in_err-first-in-Chain-clause-fault : goal.expr-returns-in_err-first-in-Chain-clause-fault
expr-returns-in_err-first-in-Chain-clause-fault t c =
    let k = known c.args.self.now in
    let o = c.in_err-first-in-Chain.field-0.0 in
    let e = ap (spec.expr_faults k) c.in-Chain.is ∙ chain_has_faults k c.in-Chain.first c.in-Chain.rest in
    let here : EndsAt (spec.expr_faults k c.in-Chain.first) o = subst (λ x. EndsAt (spec.expr_faults k x) o) c.get-in-Chain.ensures c.in_err-first-in-Chain.ensures.fault in
    let whole : EndsAt (spec.expr_faults k c.args.raw.now) o = subst (λ z. EndsAt z o) (sym e) (ends_first _ _ o here) in
    search rules

pub expr-returns-in_err-rest-in-Chain-clause-fault : goal.expr-returns-in_err-rest-in-Chain-clause-fault
expr-returns-in_err-rest-in-Chain-clause-fault t c =
    let k = known c.args.self.now in
    let o = c.in_err-rest-in-Chain.field-0.0 in
    let e = ap (spec.expr_faults k) c.in-Chain.is ∙ chain_has_faults k c.in-Chain.first c.in-Chain.rest in
    let none : spec.expr_faults k c.in-Chain.first ≡ [] = subst (λ x. spec.expr_faults k x ≡ []) c.get-in-Chain.ensures c.in_ok-first-in-Chain.ensures.faultless in
    let here : EndsAt (joined (map (spec.link_faults k) c.in-Chain.rest)) o = subst (λ x. EndsAt (joined (map (spec.link_faults k) x)) o) c.as_slice.ensures c.in_err-rest-in-Chain.ensures.fault in
    let whole : EndsAt (spec.expr_faults k c.args.raw.now) o = subst (λ z. EndsAt z o) (sym e) (ends_later _ _ o none here) in
    search rules

pub expr-returns-in_ok-new-in-Chain-clause-faultless : goal.expr-returns-in_ok-new-in-Chain-clause-faultless
expr-returns-in_ok-new-in-Chain-clause-faultless t c =
    let k = known c.args.self.now in
    let e = ap (spec.expr_faults k) c.in-Chain.is ∙ chain_has_faults k c.in-Chain.first c.in-Chain.rest in
    let none : spec.expr_faults k c.in-Chain.first ≡ [] = subst (λ x. spec.expr_faults k x ≡ []) c.get-in-Chain.ensures c.in_ok-first-in-Chain.ensures.faultless in
    let after : joined (map (spec.link_faults k) c.in-Chain.rest) ≡ [] = subst (λ x. joined (map (spec.link_faults k) x) ≡ []) c.as_slice.ensures c.in_ok-rest-in-Chain.ensures.faultless in
    e ∙ ap (λ z. z ++ joined (map (spec.link_faults k) c.in-Chain.rest)) none ∙ after

pub expr-returns-in_ok-new-in-Chain-clause-tree : goal.expr-returns-in_ok-new-in-Chain-clause-tree
expr-returns-in_ok-new-in-Chain-clause-tree t c =
    let k = known c.args.self.now in
    ap (λ x. expr.Chain x c.in_ok-rest-in-Chain.rest) (c.in_ok-new-in-Chain.ensures ∙ c.in_ok-first-in-Chain.ensures.tree ∙ ap (tree.expr_of k) c.get-in-Chain.ensures)
    ∙ ap (λ x. expr.Chain (tree.expr_of k c.in-Chain.first) x) (c.in_ok-rest-in-Chain.ensures.tree ∙ ap (map (tree.link_of k)) c.as_slice.ensures)
    ∙ sym (ap (tree.expr_of k) c.in-Chain.is ∙ chain_gives k c.in-Chain.first c.in-Chain.rest)

pub expr-returns-in_err-arguments-in-Call-clause-fault : goal.expr-returns-in_err-arguments-in-Call-clause-fault
expr-returns-in_err-arguments-in-Call-clause-fault t c =
    let k = known c.args.self.now in
    let o = c.in_err-arguments-in-Call.field-0.0 in
    let e = ap (spec.expr_faults k) c.in-Call.is ∙ call_has_faults k c.in-Call.op c.in-Call.args c.in-Call.at ∙ ap (λ x. joined (map (spec.expr_faults k) x)) (sym c.as_slice-in-Call.ensures) in
    let whole : EndsAt (spec.expr_faults k c.args.raw.now) o = subst (λ z. EndsAt z o) (sym e) c.in_err-arguments-in-Call.ensures.fault in
    search rules

pub expr-returns-in_ok-arguments-in-Call-clause-faultless : goal.expr-returns-in_ok-arguments-in-Call-clause-faultless
expr-returns-in_ok-arguments-in-Call-clause-faultless t c =
    let k = known c.args.self.now in
    ap (spec.expr_faults k) c.in-Call.is ∙ call_has_faults k c.in-Call.op c.in-Call.args c.in-Call.at ∙ ap (λ x. joined (map (spec.expr_faults k) x)) (sym c.as_slice-in-Call.ensures) ∙ c.in_ok-arguments-in-Call.ensures.faultless

pub expr-returns-in_ok-arguments-in-Call-clause-tree : goal.expr-returns-in_ok-arguments-in-Call-clause-tree
expr-returns-in_ok-arguments-in-Call-clause-tree t c =
    let k = known c.args.self.now in
    ap (λ x. expr.Call c.in-Call.op x c.in-Call.at) (c.in_ok-arguments-in-Call.ensures.tree ∙ ap (map (tree.expr_of k)) c.as_slice-in-Call.ensures)
    ∙ sym (ap (tree.expr_of k) c.in-Call.is ∙ call_gives k c.in-Call.op c.in-Call.args c.in-Call.at)

pub arguments-returns-in_err-expr-clause-fault : goal.arguments-returns-in_err-expr-clause-fault
arguments-returns-in_err-expr-clause-fault t c =
    let k = known c.args.self.now in
    let o = c.in_err-expr.field-0.0 in
    let next = drop_next c.args.raw.now c.loop-arg.arg-index c.arg-item.result c.loop-arg-test.true c.arg-item.is in
    let rest : EndsAt (joined (map (spec.expr_faults k) (drop c.loop-arg.arg-index c.args.raw.now))) o
    = subst (λ b. EndsAt (joined (map (spec.expr_faults k) b)) o) (sym next) (ends_first _ _ o c.in_err-expr.ensures.fault) in
    let whole : EndsAt (joined (map (spec.expr_faults k) c.args.raw.now)) o = subst (λ z. EndsAt z o) c.loop-arg.invariant.1 rest in
    search rules

pub arguments-loop-arg-preserved : goal.arguments-loop-arg-preserved
arguments-loop-arg-preserved t c =
    let k = known c.args.self.now in
    let more = drop (c.loop-arg.arg-index + 1) c.args.raw.now in
    let next = drop_next c.args.raw.now c.loop-arg.arg-index c.arg-item.result c.loop-arg-test.true c.arg-item.is in (
      ap (λ b. b ++ map (tree.expr_of k) more) c.in_ok-push.ensures.ok
          ∙ append_assoc c.loop-arg.args (c.in_ok-expr.field-0 ∷ []) (map (tree.expr_of k) more)
          ∙ ap (λ z. c.loop-arg.args ++ z ∷ map (tree.expr_of k) more) c.in_ok-expr.ensures.tree
          ∙ ap (λ b. c.loop-arg.args ++ map (tree.expr_of k) b) (sym next)
          ∙ c.loop-arg.invariant.0,
      sym (ap (λ z. z ++ joined (map (spec.expr_faults k) more)) c.in_ok-expr.ensures.faultless) ∙ ap (λ b. joined (map (spec.expr_faults k) b)) (sym next) ∙ c.loop-arg.invariant.1,
    )

pub links-returns-in_err-value-clause-fault : goal.links-returns-in_err-value-clause-fault
links-returns-in_err-value-clause-fault t c =
    let k = known c.args.self.now in
    let o = c.in_err-value.field-0.0 in
    let next = drop_next c.args.raw.now c.loop-link.link-index c.link-item.result c.loop-link-test.true c.link-item.is in
    let here : EndsAt (spec.link_faults k c.link-item.result) o = subst (λ z. EndsAt z o) (sym (operand_has_faults k c.link-item.result)) c.in_err-value.ensures.fault in
    let rest : EndsAt (joined (map (spec.link_faults k) (drop c.loop-link.link-index c.args.raw.now))) o
    = subst (λ b. EndsAt (joined (map (spec.link_faults k) b)) o) (sym next) (ends_first _ _ o here) in
    let whole : EndsAt (joined (map (spec.link_faults k) c.args.raw.now)) o = subst (λ z. EndsAt z o) c.loop-link.invariant.1 rest in
    search rules

pub links-loop-link-preserved : goal.links-loop-link-preserved
links-loop-link-preserved t c =
    let k = known c.args.self.now in
    let x = c.link-item.result in
    let more = drop (c.loop-link.link-index + 1) c.args.raw.now in
    let next = drop_next c.args.raw.now c.loop-link.link-index x c.loop-link-test.true c.link-item.is in
    let made = roll-Link (record { op = (out-RawLink c.link-item.result).op; value = c.in_ok-value.value; at = (out-RawLink c.link-item.result).at }) in
    let same : made ≡ tree.link_of k x = ap (λ v. roll-Link (record { op = (out-RawLink c.link-item.result).op; value = v; at = (out-RawLink c.link-item.result).at })) c.in_ok-value.ensures.tree ∙ sym (link_gives k x) in
    let none : spec.link_faults k x ≡ [] = operand_has_faults k x ∙ c.in_ok-value.ensures.faultless in (
      ap (λ b. b ++ map (tree.link_of k) more) c.in_ok-push.ensures.ok
          ∙ append_assoc c.loop-link.links (made ∷ []) (map (tree.link_of k) more)
          ∙ ap (λ z. c.loop-link.links ++ z ∷ map (tree.link_of k) more) same
          ∙ ap (λ b. c.loop-link.links ++ map (tree.link_of k) b) (sym next)
          ∙ c.loop-link.invariant.0,
      sym (ap (λ z. z ++ joined (map (spec.link_faults k) more)) none) ∙ ap (λ b. joined (map (spec.link_faults k) b)) (sym next) ∙ c.loop-link.invariant.1,
    )
