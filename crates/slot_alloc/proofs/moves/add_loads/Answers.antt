-- A member adds its load, and another number nothing.
use Rattle.std.proofs.Common.{rules, ◌≡◌, ◌∷◌, [], ◌++◌, sym, ◌∙◌}
use Rattle.pebble_rules.specs.declared.moves.Move.TheVariants.{Load}
use Rattle.slot_alloc.proofs.Calls.{each_first, each_more, each_passed}
use Rattle.slot_alloc.proofs.moves.add_loads.Goals as goal
use Rattle.slot_alloc.proofs.moves.add_loads.Goals.{then-has+in_ok-push, else-has}

pub loop-u-init : goal.loop-u-init
loop-u-init c = each_first Load c.args.vertices.now c.args.moves.now.items

pub loop-u-preserved : goal.loop-u-preserved
loop-u-preserved c =
    elim c.if-has.branch [
      | then-has+in_ok-push w ↦
          let pushed : c.if-has.moves.items ≡ c.loop-u.moves.items ++ Load c.loop-u.u ∷ [] = search rules in
          pushed ∙ each_more Load c.args.vertices.now c.loop-u.u c.args.moves.now.items c.loop-u.moves.items (sym c.has.ensures.value ∙ w.if-has.true) c.loop-u.invariant
      | else-has w ↦
          let kept : c.if-has.moves.items ≡ c.loop-u.moves.items = search rules in
          kept ∙ each_passed Load c.args.vertices.now c.loop-u.u c.args.moves.now.items c.loop-u.moves.items (sym c.has.ensures.value ∙ w.if-has.false) c.loop-u.invariant
    ]
