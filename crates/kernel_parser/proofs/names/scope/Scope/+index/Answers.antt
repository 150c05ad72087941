-- The names of indices, part by part.
use Rattle.std.proofs.Common.{rules, ◌≡◌, ◌+◌, ◌++◌, ◌∷◌, [], OnOk, IfOk, IfErr, map, drop, append_assoc, sym, ap, subst, ◌∙◌}
use Rattle.kernel_ast.specs.Walk.{joined}
use Rattle.kernel_ast.specs.declared.tree.IndexTree.TheVariants as index
use Rattle.kernel_ast.specs.declared.tree.IndexLink.{roll-IndexLink}
use Rattle.kernel_syntax.specs.declared.raw.RawIndexLink.{out-RawIndexLink}
use Rattle.kernel_parser.specs.Names as spec
use Rattle.kernel_parser.specs.Resolved as tree
use Rattle.kernel_parser.specs.Scopes.{known, EndsAt}
use Rattle.kernel_parser.proofs.Expressions.{index_number_has_faults, index_name_has_faults, index_minus_has_faults, index_chain_has_faults, index_operand_has_faults, index_name_gives, index_minus_gives, index_chain_gives, index_link_gives}
use Rattle.kernel_parser.proofs.Faults.{ends_first, ends_later}
use Rattle.kernel_parser.proofs.Lists.{drop_next}
use Rattle.kernel_parser.proofs.names.scope.Scope.+index.Goals as goal

pub index_tree-returns-in-Number-clause-faultless : goal.index_tree-returns-in-Number-clause-faultless
index_tree-returns-in-Number-clause-faultless t c =
    let k = known c.args.self.now in
    ap (spec.index_tree_faults k) c.in-Number.is ∙ index_number_has_faults k c.in-Number.number

pub index_tree-returns-in-Name-clause-faultless : goal.index_tree-returns-in-Name-clause-faultless
index_tree-returns-in-Name-clause-faultless t c =
    let k = known c.args.self.now in
    subst (λ z. OnOk c.index_name.result (z ≡ [])) (sym (ap (spec.index_tree_faults k) c.in-Name.is ∙ index_name_has_faults k c.in-Name.span)) c.index_name.ensures.faultless

pub index_tree-returns-in-Name-clause-tree : goal.index_tree-returns-in-Name-clause-tree
index_tree-returns-in-Name-clause-tree t c =
    let k = known c.args.self.now in
    subst (λ z. IfOk c.index_name.result (λ t'. t' ≡ z)) (sym (ap (tree.index_tree k) c.in-Name.is ∙ index_name_gives k c.in-Name.span)) c.index_name.ensures.tree

pub index_tree-returns-in-Name-clause-fault : goal.index_tree-returns-in-Name-clause-fault
index_tree-returns-in-Name-clause-fault t c =
    let k = known c.args.self.now in
    subst (λ z. IfErr c.index_name.result (EndsAt z)) (sym (ap (spec.index_tree_faults k) c.in-Name.is ∙ index_name_has_faults k c.in-Name.span)) c.index_name.ensures.fault

pub index_tree-returns-in_err-value-in-Minus-clause-fault : goal.index_tree-returns-in_err-value-in-Minus-clause-fault
index_tree-returns-in_err-value-in-Minus-clause-fault t c =
    let k = known c.args.self.now in
    let o = c.in_err-value-in-Minus.field-0.0 in
    let e = ap (spec.index_tree_faults k) c.in-Minus.is ∙ index_minus_has_faults k c.in-Minus.value ∙ ap (spec.index_tree_faults k) (sym c.get.ensures) in
    let whole : EndsAt (spec.index_tree_faults k c.args.raw.now) o = subst (λ z. EndsAt z o) (sym e) c.in_err-value-in-Minus.ensures.fault in
    search rules

pub index_tree-returns-in_ok-new-in-Minus-clause-faultless : goal.index_tree-returns-in_ok-new-in-Minus-clause-faultless
index_tree-returns-in_ok-new-in-Minus-clause-faultless t c =
    let k = known c.args.self.now in
    ap (spec.index_tree_faults k) c.in-Minus.is ∙ index_minus_has_faults k c.in-Minus.value ∙ ap (spec.index_tree_faults k) (sym c.get.ensures) ∙ c.in_ok-value-in-Minus.ensures.faultless

pub index_tree-returns-in_ok-new-in-Minus-clause-tree : goal.index_tree-returns-in_ok-new-in-Minus-clause-tree
index_tree-returns-in_ok-new-in-Minus-clause-tree t c =
    let k = known c.args.self.now in
    ap (λ x. index.Minus x) (c.in_ok-new-in-Minus.ensures ∙ c.in_ok-value-in-Minus.ensures.tree ∙ ap (tree.index_tree k) c.get.ensures)
    ∙ sym (ap (tree.index_tree k) c.in-Minus.is ∙ index_minus_gives k c.in-Minus.value)

pub index_tree-returns-in_err-first-in-Chain-clause-fault : goal.index_tree-returns-in_err-first-in-Chain-clause-fault
index_tree-returns-in_err-first-in-Chain-clause-fault t c =
    let k = known c.args.self.now in
    let o = c.in_err-first-in-Chain.field-0.0 in
    let e = ap (spec.index_tree_faults k) c.in-Chain.is ∙ index_chain_has_faults k c.in-Chain.first c.in-Chain.rest in
    let here : EndsAt (spec.index_tree_faults k c.in-Chain.first) o = subst (λ x. EndsAt (spec.index_tree_faults k x) o) c.get-in-Chain.ensures c.in_err-first-in-Chain.ensures.fault in
    let whole : EndsAt (spec.index_tree_faults k c.args.raw.now) o = subst (λ z. EndsAt z o) (sym e) (ends_first _ _ o here) in
    search rules

pub index_tree-returns-in_err-rest-in-Chain-clause-fault : goal.index_tree-returns-in_err-rest-in-Chain-clause-fault
index_tree-returns-in_err-rest-in-Chain-clause-fault t c =
    let k = known c.args.self.now in
    let o = c.in_err-rest-in-Chain.field-0.0 in
    let e = ap (spec.index_tree_faults k) c.in-Chain.is ∙ index_chain_has_faults k c.in-Chain.first c.in-Chain.rest in
    let none : spec.index_tree_faults k c.in-Chain.first ≡ [] = subst (λ x. spec.index_tree_faults k x ≡ []) c.get-in-Chain.ensures c.in_ok-first-in-Chain.ensures.faultless in
    let here : EndsAt (joined (map (spec.index_link_faults k) c.in-Chain.rest)) o = subst (λ x. EndsAt (joined (map (spec.index_link_faults k) x)) o) c.as_slice.ensures c.in_err-rest-in-Chain.ensures.fault in
    let whole : EndsAt (spec.index_tree_faults k c.args.raw.now) o = subst (λ z. EndsAt z o) (sym e) (ends_later _ _ o none here) in
    search rules

pub index_tree-returns-in_ok-new-in-Chain-clause-faultless : goal.index_tree-returns-in_ok-new-in-Chain-clause-faultless
index_tree-returns-in_ok-new-in-Chain-clause-faultless t c =
    let k = known c.args.self.now in
    let e = ap (spec.index_tree_faults k) c.in-Chain.is ∙ index_chain_has_faults k c.in-Chain.first c.in-Chain.rest in
    let none : spec.index_tree_faults k c.in-Chain.first ≡ [] = subst (λ x. spec.index_tree_faults k x ≡ []) c.get-in-Chain.ensures c.in_ok-first-in-Chain.ensures.faultless in
    let after : joined (map (spec.index_link_faults k) c.in-Chain.rest) ≡ [] = subst (λ x. joined (map (spec.index_link_faults k) x) ≡ []) c.as_slice.ensures c.in_ok-rest-in-Chain.ensures.faultless in
    e ∙ ap (λ z. z ++ joined (map (spec.index_link_faults k) c.in-Chain.rest)) none ∙ after

pub index_tree-returns-in_ok-new-in-Chain-clause-tree : goal.index_tree-returns-in_ok-new-in-Chain-clause-tree
index_tree-returns-in_ok-new-in-Chain-clause-tree t c =
    let k = known c.args.self.now in
    ap (λ x. index.Chain x c.in_ok-rest-in-Chain.rest) (c.in_ok-new-in-Chain.ensures ∙ c.in_ok-first-in-Chain.ensures.tree ∙ ap (tree.index_tree k) c.get-in-Chain.ensures)
    ∙ ap (λ x. index.Chain (tree.index_tree k c.in-Chain.first) x) (c.in_ok-rest-in-Chain.ensures.tree ∙ ap (map (tree.index_link k)) c.as_slice.ensures)
    ∙ sym (ap (tree.index_tree k) c.in-Chain.is ∙ index_chain_gives k c.in-Chain.first c.in-Chain.rest)

pub index_links-returns-in_err-value-clause-fault : goal.index_links-returns-in_err-value-clause-fault
index_links-returns-in_err-value-clause-fault t c =
    let k = known c.args.self.now in
    let o = c.in_err-value.field-0.0 in
    let next = drop_next c.args.raw.now c.loop-link.link-index c.link-item.result c.loop-link-test.true c.link-item.is in
    let here : EndsAt (spec.index_link_faults k c.link-item.result) o = subst (λ z. EndsAt z o) (sym (index_operand_has_faults k c.link-item.result)) c.in_err-value.ensures.fault in
    let rest : EndsAt (joined (map (spec.index_link_faults k) (drop c.loop-link.link-index c.args.raw.now))) o
    = subst (λ b. EndsAt (joined (map (spec.index_link_faults k) b)) o) (sym next) (ends_first _ _ o here) in
    let whole : EndsAt (joined (map (spec.index_link_faults k) c.args.raw.now)) o = subst (λ z. EndsAt z o) c.loop-link.invariant.1 rest in
    search rules

pub index_links-loop-link-preserved : goal.index_links-loop-link-preserved
index_links-loop-link-preserved t c =
    let k = known c.args.self.now in
    let x = c.link-item.result in
    let more = drop (c.loop-link.link-index + 1) c.args.raw.now in
    let next = drop_next c.args.raw.now c.loop-link.link-index x c.loop-link-test.true c.link-item.is in
    let made = roll-IndexLink (record { op = (out-RawIndexLink c.link-item.result).op; value = c.in_ok-value.value }) in
    let same : made ≡ tree.index_link k x = ap (λ v. roll-IndexLink (record { op = (out-RawIndexLink c.link-item.result).op; value = v })) c.in_ok-value.ensures.tree ∙ sym (index_link_gives k x) in
    let none : spec.index_link_faults k x ≡ [] = index_operand_has_faults k x ∙ c.in_ok-value.ensures.faultless in (
      ap (λ b. b ++ map (tree.index_link k) more) c.in_ok-push.ensures.ok
          ∙ append_assoc c.loop-link.links (made ∷ []) (map (tree.index_link k) more)
          ∙ ap (λ z. c.loop-link.links ++ z ∷ map (tree.index_link k) more) same
          ∙ ap (λ b. c.loop-link.links ++ map (tree.index_link k) b) (sym next)
          ∙ c.loop-link.invariant.0,
      sym (ap (λ z. z ++ joined (map (spec.index_link_faults k) more)) none) ∙ ap (λ b. joined (map (spec.index_link_faults k) b)) (sym next) ∙ c.loop-link.invariant.1,
    )
