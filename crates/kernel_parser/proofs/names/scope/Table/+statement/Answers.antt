-- The names of statements: of assignments, loops and branches.
use Rattle.std.proofs.Common.{rules, ◌≡◌, ◌+◌, ◌++◌, ◌∷◌, [], OnOk, IfOk, IfErr, length, drop, append_assoc, sym, ap, subst, ◌∙◌}
use Rattle.kernel_syntax.specs.declared.raw.RawStmt.TheVariants as raw_stmt
use Rattle.kernel_parser.specs.Names as spec
use Rattle.kernel_parser.specs.Resolved as tree
use Rattle.kernel_parser.specs.RawFits.{stmt_fits, body_fits}
use Rattle.kernel_parser.specs.Scopes.{known_under, entries, EndsAt}
use Rattle.kernel_ast.specs.declared.tree.Stmt.TheVariants as stmt
use Rattle.kernel_parser.proofs.Faults.{ends_first, ends_later}
use Rattle.kernel_parser.proofs.Lists.{drop_next, and_right}
use Rattle.kernel_parser.proofs.Statements.{assign_has_faults, loop_has_faults, branch_has_faults, assign_gives, loop_gives, branch_gives}
use Rattle.kernel_parser.proofs.names.scope.Table.+statement.Goals as goal

pub stmt-returns-in-Assign-clause-tree : goal.stmt-returns-in-Assign-clause-tree
stmt-returns-in-Assign-clause-tree t c =
    let s = c.args.self.now in
    let l = c.args.loops.now.items in
    let e = ap (λ ls. tree.assign_of (known_under s ls) c.in-Assign.target c.in-Assign.value) c.as_slice.ensures.value
    ∙ sym (assign_gives s.text.now (entries s) l c.in-Assign.target c.in-Assign.value)
    ∙ sym (ap (λ r. tree.stmt_of s.text.now (entries s) r l) c.in-Assign.is) in
    subst (λ z. IfOk c.assignment.result (λ t'. t' ≡ z)) e c.assignment.ensures.tree

pub stmt-returns-in-Assign-clause-fault : goal.stmt-returns-in-Assign-clause-fault
stmt-returns-in-Assign-clause-fault t c =
    let s = c.args.self.now in
    let l = c.args.loops.now.items in
    let e = ap (λ ls. spec.assign_faults (known_under s ls) c.in-Assign.target c.in-Assign.value) c.as_slice.ensures.value
    ∙ sym (assign_has_faults s.text.now (entries s) l c.in-Assign.target c.in-Assign.value)
    ∙ sym (ap (λ r. spec.stmt_faults s.text.now (entries s) r l) c.in-Assign.is) in
    subst (λ z. IfErr c.assignment.result (EndsAt z)) e c.assignment.ensures.fault

pub stmt-returns-in-Loop-clause-faultless : goal.stmt-returns-in-Loop-clause-faultless
stmt-returns-in-Loop-clause-faultless t c =
    let s = c.args.self.now in
    let l = c.args.loops.now.items in
    let e = ap (λ b. raw_stmt.Loop c.in-Loop.header b) c.as_slice-in-Loop.ensures ∙ sym c.in-Loop.is in
    subst (λ r. OnOk c.looped.result (spec.stmt_faults s.text.now (entries s) r l ≡ [])) e c.looped.ensures.faultless

pub stmt-returns-in-Loop-clause-tree : goal.stmt-returns-in-Loop-clause-tree
stmt-returns-in-Loop-clause-tree t c =
    let s = c.args.self.now in
    let l = c.args.loops.now.items in
    let e = ap (λ b. raw_stmt.Loop c.in-Loop.header b) c.as_slice-in-Loop.ensures ∙ sym c.in-Loop.is in
    subst (λ r. IfOk c.looped.result (λ t'. t' ≡ tree.stmt_of s.text.now (entries s) r l)) e c.looped.ensures.tree

pub stmt-returns-in-Loop-clause-fault : goal.stmt-returns-in-Loop-clause-fault
stmt-returns-in-Loop-clause-fault t c =
    let s = c.args.self.now in
    let l = c.args.loops.now.items in
    let e = ap (λ b. raw_stmt.Loop c.in-Loop.header b) c.as_slice-in-Loop.ensures ∙ sym c.in-Loop.is in
    subst (λ r. IfErr c.looped.result (EndsAt (spec.stmt_faults s.text.now (entries s) r l))) e c.looped.ensures.fault

pub looped-returns-in_err-resolved-clause-fault : goal.looped-returns-in_err-resolved-clause-fault
looped-returns-in_err-resolved-clause-fault t c =
    let s = c.args.self.now in
    let l = c.args.loops.now.items in
    let h = c.args.header.now in
    let o = c.in_err-resolved.field-0.0 in
    let e = loop_has_faults s.text.now (entries s) l h c.args.body.now in
    let here : EndsAt (spec.header_faults (known_under s l) h) o
    = subst (λ ls. EndsAt (spec.header_faults (known_under s ls) h) o) c.as_slice.ensures.value c.in_err-resolved.ensures.fault in
    let whole : EndsAt (spec.stmt_faults s.text.now (entries s) (raw_stmt.Loop h c.args.body.now) l) o = subst (λ z. EndsAt z o) (sym e) (ends_first _ _ o here) in
    search rules

pub looped-returns-in_err-body-clause-fault : goal.looped-returns-in_err-body-clause-fault
looped-returns-in_err-body-clause-fault t c =
    let s = c.args.self.now in
    let l = c.args.loops.now.items in
    let h = c.args.header.now in
    let o = c.in_err-body.field-0.0 in
    let e = loop_has_faults s.text.now (entries s) l h c.args.body.now in
    let inner = c.in_ok-enter.ensures in
    let none : spec.header_faults (known_under s l) h ≡ [] = subst (λ ls. spec.header_faults (known_under s ls) h ≡ []) c.as_slice.ensures.value c.in_ok-resolved.ensures.faultless in
    let here : EndsAt (spec.body_faults s.text.now (entries s) c.args.body.now (l ++ spec.word s.text.now h.name ∷ [])) o
    = subst (λ ls. EndsAt (spec.body_faults s.text.now (entries s) c.args.body.now ls) o) inner c.in_err-body.ensures.fault in
    let whole : EndsAt (spec.stmt_faults s.text.now (entries s) (raw_stmt.Loop h c.args.body.now) l) o = subst (λ z. EndsAt z o) (sym e) (ends_later _ _ o none here) in
    search rules

pub looped-returns-clause-faultless : goal.looped-returns-clause-faultless
looped-returns-clause-faultless t c =
    let s = c.args.self.now in
    let l = c.args.loops.now.items in
    let h = c.args.header.now in
    let e = loop_has_faults s.text.now (entries s) l h c.args.body.now in
    let inner = c.in_ok-enter.ensures in
    let none : spec.header_faults (known_under s l) h ≡ [] = subst (λ ls. spec.header_faults (known_under s ls) h ≡ []) c.as_slice.ensures.value c.in_ok-resolved.ensures.faultless in
    let here : spec.body_faults s.text.now (entries s) c.args.body.now (l ++ spec.word s.text.now h.name ∷ []) ≡ []
    = subst (λ ls. spec.body_faults s.text.now (entries s) c.args.body.now ls ≡ []) inner c.in_ok-body.ensures.faultless in
    e ∙ ap (λ z. z ++ spec.body_faults s.text.now (entries s) c.args.body.now (l ++ spec.word s.text.now h.name ∷ [])) none ∙ here

pub looped-returns-clause-tree : goal.looped-returns-clause-tree
looped-returns-clause-tree t c =
    let s = c.args.self.now in
    let l = c.args.loops.now.items in
    let h = c.args.header.now in
    let e = loop_gives s.text.now (entries s) l h c.args.body.now in
    let inner = c.in_ok-enter.ensures in
    let from = c.in_ok-resolved.ensures.from ∙ ap (λ ls. tree.index_of (known_under s ls) h.from) c.as_slice.ensures.value in
    let to = c.in_ok-resolved.ensures.to ∙ ap (λ ls. tree.index_of (known_under s ls) h.to) c.as_slice.ensures.value in
    let by = c.in_ok-resolved.ensures.by ∙ ap (λ ls. tree.step_of (known_under s ls) h.by) c.as_slice.ensures.value in
    let body = c.in_ok-body.ensures.tree ∙ ap (λ ls. tree.body_of s.text.now (entries s) c.args.body.now ls) inner in
    let known = known_under s l in
    ap (λ x. stmt.Loop x c.in_ok-resolved.resolved.to c.in_ok-resolved.resolved.by c.in_ok-body.body h.at) from
    ∙ ap (λ x. stmt.Loop (tree.index_of known h.from) x c.in_ok-resolved.resolved.by c.in_ok-body.body h.at) to
    ∙ ap (λ x. stmt.Loop (tree.index_of known h.from) (tree.index_of known h.to) x c.in_ok-body.body h.at) by
    ∙ ap (λ x. stmt.Loop (tree.index_of known h.from) (tree.index_of known h.to) (tree.step_of known h.by) x h.at) body
    ∙ sym e

pub stmt-returns-in_err-left-in-Branch-clause-fault : goal.stmt-returns-in_err-left-in-Branch-clause-fault
stmt-returns-in_err-left-in-Branch-clause-fault t c =
    let s = c.args.self.now in
    let l = c.args.loops.now.items in
    let b = c.in-Branch.condition in
    let o = c.in_err-left-in-Branch.field-0.0 in
    let e = branch_has_faults s.text.now (entries s) l b c.in-Branch.taken c.in-Branch.other in
    let here : EndsAt (spec.condition_faults (known_under s l) b) o
    = subst (λ ls. EndsAt (spec.condition_faults (known_under s ls) b) o) c.as_slice-in-Branch.ensures.value c.in_err-left-in-Branch.ensures.fault in
    let whole : EndsAt (spec.stmt_faults s.text.now (entries s) c.args.raw.now l) o
    = subst (λ r. EndsAt (spec.stmt_faults s.text.now (entries s) r l) o) (sym c.in-Branch.is) (subst (λ z. EndsAt z o) (sym e) (ends_first _ _ o here)) in
    search rules

pub stmt-returns-in_err-taken-in-Branch-clause-fault : goal.stmt-returns-in_err-taken-in-Branch-clause-fault
stmt-returns-in_err-taken-in-Branch-clause-fault t c =
    let s = c.args.self.now in
    let l = c.args.loops.now.items in
    let b = c.in-Branch.condition in
    let o = c.in_err-taken-in-Branch.field-0.0 in
    let e = branch_has_faults s.text.now (entries s) l b c.in-Branch.taken c.in-Branch.other in
    let none : spec.condition_faults (known_under s l) b ≡ [] = subst (λ ls. spec.condition_faults (known_under s ls) b ≡ []) c.as_slice-in-Branch.ensures.value c.in_ok-left-in-Branch.ensures.faultless in
    let here : EndsAt (spec.body_faults s.text.now (entries s) c.in-Branch.taken l) o
    = subst (λ z. EndsAt (spec.body_faults s.text.now (entries s) z l) o) c.as_slice-in-Branch-2.ensures c.in_err-taken-in-Branch.ensures.fault in
    let whole : EndsAt (spec.stmt_faults s.text.now (entries s) c.args.raw.now l) o
    = subst (λ r. EndsAt (spec.stmt_faults s.text.now (entries s) r l) o) (sym c.in-Branch.is) (subst (λ z. EndsAt z o) (sym e) (ends_later _ _ o none (ends_first _ _ o here))) in
    search rules

pub stmt-returns-in_err-other-in-Branch-clause-fault : goal.stmt-returns-in_err-other-in-Branch-clause-fault
stmt-returns-in_err-other-in-Branch-clause-fault t c =
    let s = c.args.self.now in
    let l = c.args.loops.now.items in
    let b = c.in-Branch.condition in
    let o = c.in_err-other-in-Branch.field-0.0 in
    let e = branch_has_faults s.text.now (entries s) l b c.in-Branch.taken c.in-Branch.other in
    let none : spec.condition_faults (known_under s l) b ≡ [] = subst (λ ls. spec.condition_faults (known_under s ls) b ≡ []) c.as_slice-in-Branch.ensures.value c.in_ok-left-in-Branch.ensures.faultless in
    let before : spec.body_faults s.text.now (entries s) c.in-Branch.taken l ≡ []
    = subst (λ z. spec.body_faults s.text.now (entries s) z l ≡ []) c.as_slice-in-Branch-2.ensures c.in_ok-taken-in-Branch.ensures.faultless in
    let here : EndsAt (spec.body_faults s.text.now (entries s) c.in-Branch.other l) o
    = subst (λ z. EndsAt (spec.body_faults s.text.now (entries s) z l) o) c.as_slice-in-Branch-3.ensures
    (subst (λ ls. EndsAt (spec.body_faults s.text.now (entries s) c.as_slice-in-Branch-3.result.now ls) o) c.in_ok-taken-in-Branch.ensures.same c.in_err-other-in-Branch.ensures.fault) in
    let whole : EndsAt (spec.stmt_faults s.text.now (entries s) c.args.raw.now l) o
    = subst (λ r. EndsAt (spec.stmt_faults s.text.now (entries s) r l) o) (sym c.in-Branch.is) (subst (λ z. EndsAt z o) (sym e) (ends_later _ _ o none (ends_later _ _ o before here))) in
    search rules

pub stmt-returns-in_ok-other-in-Branch-clause-faultless : goal.stmt-returns-in_ok-other-in-Branch-clause-faultless
stmt-returns-in_ok-other-in-Branch-clause-faultless t c =
    let s = c.args.self.now in
    let l = c.args.loops.now.items in
    let b = c.in-Branch.condition in
    let e = branch_has_faults s.text.now (entries s) l b c.in-Branch.taken c.in-Branch.other in
    let none : spec.condition_faults (known_under s l) b ≡ [] = subst (λ ls. spec.condition_faults (known_under s ls) b ≡ []) c.as_slice-in-Branch.ensures.value c.in_ok-left-in-Branch.ensures.faultless in
    let before : spec.body_faults s.text.now (entries s) c.in-Branch.taken l ≡ []
    = subst (λ z. spec.body_faults s.text.now (entries s) z l ≡ []) c.as_slice-in-Branch-2.ensures c.in_ok-taken-in-Branch.ensures.faultless in
    let after : spec.body_faults s.text.now (entries s) c.in-Branch.other l ≡ []
    = subst (λ z. spec.body_faults s.text.now (entries s) z l ≡ []) c.as_slice-in-Branch-3.ensures
    (subst (λ ls. spec.body_faults s.text.now (entries s) c.as_slice-in-Branch-3.result.now ls ≡ []) c.in_ok-taken-in-Branch.ensures.same c.in_ok-other-in-Branch.ensures.faultless) in
    ap (λ r. spec.stmt_faults s.text.now (entries s) r l) c.in-Branch.is ∙ e
    ∙ ap (λ z. z ++ (spec.body_faults s.text.now (entries s) c.in-Branch.taken l ++ spec.body_faults s.text.now (entries s) c.in-Branch.other l)) none
    ∙ ap (λ z. z ++ spec.body_faults s.text.now (entries s) c.in-Branch.other l) before ∙ after

pub stmt-returns-in_ok-other-in-Branch-clause-tree : goal.stmt-returns-in_ok-other-in-Branch-clause-tree
stmt-returns-in_ok-other-in-Branch-clause-tree t c =
    let s = c.args.self.now in
    let l = c.args.loops.now.items in
    let b = c.in-Branch.condition in
    let known = known_under s l in
    let e = branch_gives s.text.now (entries s) l b c.in-Branch.taken c.in-Branch.other in
    let left = c.in_ok-left-in-Branch.ensures.left ∙ ap (λ ls. tree.index_of (known_under s ls) b.left) c.as_slice-in-Branch.ensures.value in
    let right = c.in_ok-left-in-Branch.ensures.right ∙ ap (λ ls. tree.index_of (known_under s ls) b.right) c.as_slice-in-Branch.ensures.value in
    let taken = c.in_ok-taken-in-Branch.ensures.tree ∙ ap (λ z. tree.body_of s.text.now (entries s) z l) c.as_slice-in-Branch-2.ensures in
    let other = c.in_ok-other-in-Branch.ensures.tree
    ∙ ap (λ ls. tree.body_of s.text.now (entries s) c.as_slice-in-Branch-3.result.now ls) c.in_ok-taken-in-Branch.ensures.same
    ∙ ap (λ z. tree.body_of s.text.now (entries s) z l) c.as_slice-in-Branch-3.ensures in
    ap (λ x. stmt.Branch x b.rel c.in_ok-left-in-Branch.right c.in_ok-taken-in-Branch.taken c.in_ok-other-in-Branch.other b.at) left
    ∙ ap (λ x. stmt.Branch (tree.index_of known b.left) b.rel x c.in_ok-taken-in-Branch.taken c.in_ok-other-in-Branch.other b.at) right
    ∙ ap (λ x. stmt.Branch (tree.index_of known b.left) b.rel (tree.index_of known b.right) x c.in_ok-other-in-Branch.other b.at) taken
    ∙ ap (λ x. stmt.Branch (tree.index_of known b.left) b.rel (tree.index_of known b.right) (tree.body_of s.text.now (entries s) c.in-Branch.taken l) x b.at) other
    ∙ sym e ∙ sym (ap (λ r. tree.stmt_of s.text.now (entries s) r l) c.in-Branch.is)

pub body-returns-in_err-stmt-clause-fault : goal.body-returns-in_err-stmt-clause-fault
body-returns-in_err-stmt-clause-fault t c =
    let s = c.args.self.now in
    let l = c.args.loops.now.items in
    let o = c.in_err-stmt.field-0.0 in
    let next = drop_next c.args.raw.now c.loop-stmt.stmt-index c.stmt-item.result c.loop-stmt-test.true c.stmt-item.is in
    let here : EndsAt (spec.stmt_faults s.text.now (entries s) c.stmt-item.result l) o
    = subst (λ ls. EndsAt (spec.stmt_faults s.text.now (entries s) c.stmt-item.result ls) o) c.loop-stmt.invariant.0 c.in_err-stmt.ensures.fault in
    let rest : EndsAt (spec.body_faults s.text.now (entries s) (drop c.loop-stmt.stmt-index c.args.raw.now) l) o
    = subst (λ b. EndsAt (spec.body_faults s.text.now (entries s) b l) o) (sym next) (ends_first _ _ o here) in
    let whole : EndsAt (spec.body_faults s.text.now (entries s) c.args.raw.now l) o = subst (λ z. EndsAt z o) c.loop-stmt.invariant.3 rest in
    search rules

pub body-loop-stmt-preserved : goal.body-loop-stmt-preserved
body-loop-stmt-preserved t c =
    let s = c.args.self.now in
    let l = c.args.loops.now.items in
    let x = c.stmt-item.result in
    let more = drop (c.loop-stmt.stmt-index + 1) c.args.raw.now in
    let next = drop_next c.args.raw.now c.loop-stmt.stmt-index x c.loop-stmt-test.true c.stmt-item.is in
    let fits = ap (body_fits (length l)) (sym next) ∙ c.loop-stmt.invariant.1 in
    let tree_of_x = c.in_ok-stmt.ensures.tree ∙ ap (λ ls. tree.stmt_of s.text.now (entries s) x ls) c.loop-stmt.invariant.0 in
    let none : spec.stmt_faults s.text.now (entries s) x l ≡ [] = subst (λ ls. spec.stmt_faults s.text.now (entries s) x ls ≡ []) c.loop-stmt.invariant.0 c.in_ok-stmt.ensures.faultless in (
      c.in_ok-stmt.ensures.same ∙ c.loop-stmt.invariant.0,
      and_right (stmt_fits x (length l)) (body_fits (length l) more) fits,
      ap (λ b. b ++ tree.body_of s.text.now (entries s) more l) c.in_ok-push.ensures.ok
          ∙ append_assoc c.loop-stmt.body (c.in_ok-stmt.field-0 ∷ []) (tree.body_of s.text.now (entries s) more l)
          ∙ ap (λ z. c.loop-stmt.body ++ z ∷ tree.body_of s.text.now (entries s) more l) tree_of_x
          ∙ ap (λ b. c.loop-stmt.body ++ tree.body_of s.text.now (entries s) b l) (sym next)
          ∙ c.loop-stmt.invariant.2,
      sym (ap (λ z. z ++ spec.body_faults s.text.now (entries s) more l) none) ∙ ap (λ b. spec.body_faults s.text.now (entries s) b l) (sym next) ∙ c.loop-stmt.invariant.3,
    )
