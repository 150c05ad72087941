use Rattle.std.proofs.Common.{◌<◌, length, sym, ap, ◌∙◌, subst, arith}
use Rattle.search_laws.specs.Search.{is_expanded}
use Rattle.branch_bound.specs.Frontiers.{store_of}
use Rattle.branch_bound.proofs.FrontierLaws.{mark_at}
use Rattle.branch_bound.proofs.RowLaws.{row_added, row_passed}
use Rattle.branch_bound.proofs.frontier.Frontier.made.Goals.{then-is_row+in_ok-push, else-is_row}
use Rattle.branch_bound.proofs.frontier.Frontier.made.Goals as goal

pub loop-k-preserved : goal.loop-k-preserved
loop-k-preserved c =
    let f = c.args.self.now in
    let k = c.loop-k.k in
    let within : k < length f.rows.slots = let test = c.loop-k-test.true in let len = c.len-k-end.ensures in omega (arith, test, len) in
    let mark = mark_at f.notes.items k c.index.result.now (subst (λ n. k < n) (sym c.requires.even) within) c.index.ensures in
    elim c.if-is_row.branch [
      | then-is_row+in_ok-push w ↦
          ap (λ v. v.items) w.rows-is ∙ w.in_ok-push.ensures.items
          ∙ row_added (store_of f) k c.loop-k.rows.items w.position.result w.head.result.cost c.loop-k.invariant
          (sym (ap is_expanded mark) ∙ sym c.is_row.ensures ∙ w.if-is_row.true)
          w.position.ensures
          (ap (λ h. h.cost) w.head.ensures)
      | else-is_row w ↦ ap (λ v. v.items) w.rows-is ∙ row_passed (store_of f) k c.loop-k.rows.items c.loop-k.invariant (sym (ap is_expanded mark) ∙ sym c.is_row.ensures ∙ w.if-is_row.false)
    ]
