use Rattle.std.proofs.Common.{◌+◌, ◌<◌, sym, ap, subst, arith}
use Rattle.comp_graph.specs.Games.{game_of}
use Rattle.comp_graph.proofs.GraphLaws.{IsDag-dag_of}
use Rattle.normal_steps.specs.Sound.{IsSound}
use Rattle.normal_steps.proofs.Sound.{step_sound}
use Rattle.branch_bound.proofs.FrontierLaws.{floor_at}
use Rattle.branch_bound.proofs.StepLaws.{bare_cannot, can_at, rest_is_floor, sound_fits, step_dear, step_beaten, step_known, step_beaten_at, step_finished, step_added, step_improved}
use Rattle.branch_bound.proofs.frontier.Frontier.try_step.Goals.{then-known-h-via-then-known-h, then-known-h-via-else-known-h+then-h-note}
use Rattle.branch_bound.proofs.frontier.Frontier.try_step.Goals as goal

pub returns-then-h-best : goal.returns-then-h-best
returns-then-h-best c = step_dear (game_of c.args.game.now) c.args.from c.args.self.now c.args.best.now c.args.step c.args.p.now c.args.cost c.requires.frontier c.requires.position c.requires.cost (c.args.cost + c.cost.result) (ap (λ n. c.args.cost + n) c.cost.ensures) c.if-h-best.true

pub returns-then-known-h : goal.returns-then-known-h
returns-then-known-h c = elim c.then-known-h.branch [
  | then-known-h-via-then-known-h w ↦
      let head = ap (λ h. h.cost) c.head-known.ensures in
      let test = w.if-known-h.true in
      step_known (game_of c.args.game.now) c.args.from c.args.self.now c.args.best.now c.args.step c.args.p.now c.args.cost c.requires.frontier c.requires.position c.requires.cost (c.args.cost + c.cost.result) (ap (λ n. c.args.cost + n) c.cost.ensures) c.after-q.result c.after-q.ensures c.in-Some.k c.in-Some.ensures.0 c.in-Some.ensures.1 (omega (arith, head, test))
  | then-known-h-via-else-known-h+then-h-note w ↦
      let floor = floor_at c.args.self.now.notes.items c.in-Some.k c.index-note.result.now (subst (λ n. c.in-Some.k < n) (sym c.requires.frontier.even) c.in-Some.ensures.0) c.index-note.ensures in
      let test = w.if-h-note.true in
      step_beaten_at (game_of c.args.game.now) c.args.from c.args.self.now c.args.best.now c.args.step c.args.p.now c.args.cost c.requires.frontier c.requires.position c.requires.cost (c.args.cost + c.cost.result) (ap (λ n. c.args.cost + n) c.cost.ensures) c.after-q.result c.after-q.ensures c.in-Some.k c.in-Some.ensures.0 c.in-Some.ensures.1 (omega (arith, floor, test))
]

pub returns-in-Some : goal.returns-in-Some
returns-in-Some c =
    let head = ap (λ h. h.cost) c.head-known.ensures in
    let floor = floor_at c.args.self.now.notes.items c.in-Some.k c.index-note.result.now (subst (λ n. c.in-Some.k < n) (sym c.requires.frontier.even) c.in-Some.ensures.0) c.index-note.ensures in
    let known = c.if-known-h.false in
    let noted = c.if-h-note.false in
    step_improved (game_of c.args.game.now) c.args.from c.args.self.now c.args.best.now c.args.step c.args.p.now c.args.cost c.requires.frontier c.requires.position c.requires.cost (c.args.cost + c.cost.result) (ap (λ n. c.args.cost + n) c.cost.ensures) c.after-q.result c.after-q.ensures c.requires.expanding c.improve.new.self c.in_ok-improve.ensures.frontier c.in_ok-improve.ensures.words c.in_ok-improve.ensures.current c.in-Some.k c.in-Some.ensures.0 c.in-Some.ensures.1
    (omega (arith, head, known)) c.in_ok-improve.ensures.put c.in_ok-improve.ensures.size (omega (arith, floor, noted))

pub returns-then-h-floor : goal.returns-then-h-floor
returns-then-h-floor c =
    let under = c.floor_below-floor.ensures.under in
    let test = c.if-h-floor.true in
    step_beaten (game_of c.args.game.now) c.args.from c.args.self.now c.args.best.now c.args.step c.args.p.now c.args.cost c.requires.frontier c.requires.position c.requires.cost (c.args.cost + c.cost.result) (ap (λ n. c.args.cost + n) c.cost.ensures) c.after-q.result c.after-q.ensures (omega (arith, under, test))

pub overflow_add-best : goal.overflow_add-best
overflow_add-best c =
    let rest = rest_is_floor c.floor_at_ends.ensures.finish (game_of c.args.game.now) (IsDag-dag_of c.args.game.now.graph c.requires.game.valid) c.after-q.result c.in-Some-finish.ensures.finishes c.in-Some-finish.rest c.in-Some-finish.ensures.cost in
    let test = c.if-h-floor.false in
    let floor = c.floor_below-floor.ensures.exact (omega (arith, test)) in
    omega (arith, rest, floor, test)

pub returns-in-Some-finish : goal.returns-in-Some-finish
returns-in-Some-finish c =
    let test = c.if-h-floor.false in
    let floor = c.floor_below-floor.ensures.exact (omega (arith, test)) in
    let finishes = c.in-Some-finish.ensures.finishes in
    step_finished (game_of c.args.game.now) c.args.from c.args.self.now c.args.best.now c.args.step c.args.p.now c.args.cost c.requires.frontier c.requires.position c.requires.cost (c.args.cost + c.cost.result) (ap (λ n. c.args.cost + n) c.cost.ensures) c.after-q.result c.after-q.ensures c.requires.expanding c.in-Some-finish.rest c.in-Some-finish.ensures.cost
    (rest_is_floor c.floor_at_ends.ensures.finish (game_of c.args.game.now) (IsDag-dag_of c.args.game.now.graph c.requires.game.valid) c.after-q.result finishes c.in-Some-finish.rest c.in-Some-finish.ensures.cost)
    (omega (arith, floor, test)) (can_at (game_of c.args.game.now) c.after-q.result finishes)

pub add-requires-clause-fits : goal.add-requires-clause-fits
add-requires-clause-fits c =
    sound_fits c.args.game.now c.args.self.now.rows.words c.after-q.result
    (subst (IsSound (game_of c.args.game.now)) (sym c.after-q.ensures)
    (step_sound (game_of c.args.game.now) (IsDag-dag_of c.args.game.now.graph c.requires.game.valid) c.args.p.now c.requires.sound c.args.step c.requires.legal)) c.requires.wide

pub returns : goal.returns
returns c =
    let test = c.if-h-floor.false in
    let floor = c.floor_below-floor.ensures.exact (omega (arith, test)) in
    step_added (game_of c.args.game.now) c.args.from c.args.self.now c.args.best.now c.args.step c.args.p.now c.args.cost c.requires.frontier c.requires.position c.requires.cost (c.args.cost + c.cost.result) (ap (λ n. c.args.cost + n) c.cost.ensures) c.after-q.result c.after-q.ensures c.requires.expanding c.add.new.self c.in_ok-add.ensures.frontier c.in_ok-add.ensures.words c.in_ok-add.ensures.current c.floor_below-floor.result c.in_ok-add.ensures.put c.in_ok-add.ensures.size
    c.in_default.ensures floor (omega (arith, test)) (bare_cannot (game_of c.args.game.now) c.after-q.result c.in_default-finish.ensures.bare)
