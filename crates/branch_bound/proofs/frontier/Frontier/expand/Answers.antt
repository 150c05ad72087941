use Rattle.std.proofs.Common.{length, sym, ap, ◌∙◌, subst, arith}
use Rattle.comp_graph.specs.Games.{game_of}
use Rattle.normal_steps.specs.Sound.{IsSound}
use Rattle.branch_bound.specs.Frontiers.{IsTrying}
use Rattle.branch_bound.proofs.StepLaws.{same_steps, few_steps, trying_none, next_legal, next_room, trying_more, trying_all}
use Rattle.branch_bound.proofs.frontier.Frontier.expand.Goals as goal

pub loop-step-init : goal.loop-step-init
loop-step-init g c =
    let game = c.args.game.now in
    let p = c.position-p.result in
    let costs = ap (λ h. h.cost) c.head-cost.ensures in
    let sound = subst (IsSound (game_of game)) (sym c.position-p.ensures) c.requires.sound in
    let same = same_steps game c.requires.game p sound c.new-step-items.result c.new-step-items.ensures.exact ∙ sym c.into_iter-step-iterator.ensures.into_iter_gives in
    let few = few_steps game c.requires.game p sound (length c.new-step-items.result) c.new-step-items.ensures.few in
    let room = c.requires.room in
    let lengths = ap length c.into_iter-step-iterator.ensures.into_iter_gives in
    record {
      can_next = tt;
      is_finite = tt;
      trying = trying_none game c.requires.game c.args.k p c.head-cost.result.cost c.args.self.now c.args.best.now c.requires.frontier c.requires.wide c.requires.expanding (sym c.position-p.ensures) (sym costs)
          (c.requires.current ∙ sym costs) c.into_iter-step-iterator.result same (omega arith);
    }

pub try_step-requires-clause-frontier : goal.try_step-requires-clause-frontier
try_step-requires-clause-frontier g c = c.loop-step.invariant.trying.tried.frontier

pub try_step-requires-clause-wide : goal.try_step-requires-clause-wide
try_step-requires-clause-wide g c = c.loop-step.invariant.trying.wide

pub try_step-requires-clause-expanding : goal.try_step-requires-clause-expanding
try_step-requires-clause-expanding g c = c.loop-step.invariant.trying.expanding

pub try_step-requires-clause-position : goal.try_step-requires-clause-position
try_step-requires-clause-position g c = c.loop-step.invariant.trying.position

pub try_step-requires-clause-cost : goal.try_step-requires-clause-cost
try_step-requires-clause-cost g c = c.loop-step.invariant.trying.costs

pub try_step-requires-clause-current : goal.try_step-requires-clause-current
try_step-requires-clause-current g c = c.loop-step.invariant.trying.current

pub try_step-requires-clause-sound : goal.try_step-requires-clause-sound
try_step-requires-clause-sound g c = subst (IsSound (game_of c.args.game.now)) (sym c.position-p.ensures) c.requires.sound

pub try_step-requires-clause-legal : goal.try_step-requires-clause-legal
try_step-requires-clause-legal g c =
    next_legal c.args.game.now c.requires.game c.args.k c.position-p.result c.head-cost.result.cost c.args.self.now c.args.best.now c.loop-step.self c.loop-step.best c.in-Some.step c.next.new.self
    (subst (IsTrying c.args.game.now c.args.k c.position-p.result c.head-cost.result.cost c.args.self.now c.loop-step.self c.args.best.now c.loop-step.best) c.in-Some.ensures.steps c.loop-step.invariant.trying)
    (subst (IsSound (game_of c.args.game.now)) (sym c.position-p.ensures) c.requires.sound)

pub try_step-requires-clause-room : goal.try_step-requires-clause-room
try_step-requires-clause-room g c =
    next_room c.args.game.now c.requires.game c.args.k c.position-p.result c.head-cost.result.cost c.args.self.now c.args.best.now c.loop-step.self c.loop-step.best c.in-Some.step c.next.new.self
    (subst (IsTrying c.args.game.now c.args.k c.position-p.result c.head-cost.result.cost c.args.self.now c.loop-step.self c.args.best.now c.loop-step.best) c.in-Some.ensures.steps c.loop-step.invariant.trying)

pub loop-step-preserved : goal.loop-step-preserved
loop-step-preserved g c = record {
  can_next = tt;
  is_finite = tt;
  trying = trying_more c.args.game.now c.requires.game c.args.k c.position-p.result c.head-cost.result.cost c.args.self.now c.args.best.now c.loop-step.self c.loop-step.best c.in-Some.step c.next.new.self
      (subst (IsTrying c.args.game.now c.args.k c.position-p.result c.head-cost.result.cost c.args.self.now c.loop-step.self c.args.best.now c.loop-step.best) c.in-Some.ensures.steps c.loop-step.invariant.trying)
      c.try_step.new.self c.try_step.new.best c.in_ok-try_step.ensures;
}

pub returns-clause-expanded : goal.returns-clause-expanded
returns-clause-expanded g c =
    let game = c.args.game.now in
    let p = c.position-p.result in
    let sound = subst (IsSound (game_of game)) (sym c.position-p.ensures) c.requires.sound in
    let same = ap length (same_steps game c.requires.game p sound c.new-step-items.result c.new-step-items.ensures.exact) in
    let few = few_steps game c.requires.game p sound (length c.new-step-items.result) c.new-step-items.ensures.few in
    trying_all game c.requires.game c.args.k p c.head-cost.result.cost c.args.self.now c.args.best.now c.loop-step.self c.loop-step.best (omega (arith, same, few)) c.position-p.ensures
    (subst (IsTrying game c.args.k p c.head-cost.result.cost c.args.self.now c.loop-step.self c.args.best.now c.loop-step.best) c.in-None.ensures.steps.0 c.loop-step.invariant.trying)
