use Rattle.std.proofs.Common.{length, ap, ◌∙◌, sym, subst, arith}
use Rattle.comp_graph.specs.Games.{game_of}
use Rattle.normal_steps.proofs.Workable.{AreWorkableBelow, workable_none, workable_more, workable_same, workable_all, workable_below, not_both}
use Rattle.normal_steps.proofs.legal_steps.workable.Goals.{then-is_workable, else-is_workable}
use Rattle.normal_steps.proofs.legal_steps.workable.Goals as goal

pub loop-v-init : goal.loop-v-init
loop-v-init c = subst (AreWorkableBelow (game_of c.args.game.now) c.args.position.now 0) (sym c.empty-works.ensures) (workable_none (game_of c.args.game.now) c.args.position.now)

pub loop-v-preserved : goal.loop-v-preserved
loop-v-preserved c =
    let g = game_of c.args.game.now in
    let p = c.args.position.now in
    elim c.if-is_workable.branch [
      | then-is_workable w ↦
          subst (AreWorkableBelow g p _) (sym (w.works-is ∙ w.with-works.ensures))
          (workable_more g p c.loop-v.v c.loop-v.works c.loop-v.invariant (c.is_workable.ensures.0 w.if-is_workable.true))
      | else-is_workable w ↦
          subst (AreWorkableBelow g p _) (sym w.works-is)
          (workable_same g p c.loop-v.v c.loop-v.works c.loop-v.invariant (λ can. not_both c.is_workable.result (c.is_workable.ensures.1 can) w.if-is_workable.false))
    ]

pub returns-clause-members : goal.returns-clause-members
returns-clause-members c =
    workable_all c.args.game.now c.graph.ensures.valid.valid c.args.position.now c.loop-v.v c.loop-v.works c.loop-v.invariant
    (let end = c.len-v-end.ensures.value ∙ ap (λ g. length g.nodes) c.graph-2.ensures.value in let past = c.loop-v-test.false in omega arith)

pub returns-clause-bounded : goal.returns-clause-bounded
returns-clause-bounded c = workable_below c.args.game.now c.graph.ensures.valid.valid c.args.position.now c.loop-v.works (returns-clause-members c)
