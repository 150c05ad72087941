-- A member adds its store, and another number nothing.
use Rattle.std.proofs.Common.{rules, ◌≡◌, ◌∷◌, [], ◌++◌, sym, ◌∙◌}
use Rattle.pebble_rules.specs.declared.moves.Move.TheVariants.{Store}
use Rattle.slot_alloc.proofs.Calls.{each_first, each_more, each_passed}
use Rattle.slot_alloc.proofs.moves.add_stores.Goals as goal
use Rattle.slot_alloc.proofs.moves.add_stores.Goals.{then-has+in_ok-push, else-has}

pub loop-v-init : goal.loop-v-init
loop-v-init c = each_first Store c.args.vertices.now c.args.moves.now.items

pub loop-v-preserved : goal.loop-v-preserved
loop-v-preserved c =
    elim c.if-has.branch [
      | then-has+in_ok-push w ↦
          let pushed : c.if-has.moves.items ≡ c.loop-v.moves.items ++ Store c.loop-v.v ∷ [] = search rules in
          pushed ∙ each_more Store c.args.vertices.now c.loop-v.v c.args.moves.now.items c.loop-v.moves.items (sym c.has.ensures.value ∙ w.if-has.true) c.loop-v.invariant
      | else-has w ↦
          let kept : c.if-has.moves.items ≡ c.loop-v.moves.items = search rules in
          kept ∙ each_passed Store c.args.vertices.now c.loop-v.v c.args.moves.now.items c.loop-v.moves.items (sym c.has.ensures.value ∙ w.if-has.false) c.loop-v.invariant
    ]
