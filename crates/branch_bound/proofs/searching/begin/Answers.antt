-- The places before the first turn are those of a search, whatever its budget.
use Rattle.std.proofs.Common.{◌≡◌, ℕ, ◌*◌, ◌≤◌, [], length, refl, sym, ap, ◌∙◌, subst, arith}
use Rattle.comp_graph.specs.Games.{GameParts, IsGame, game_of}
use Rattle.comp_graph.proofs.GraphLaws.{IsDag-dag_of}
use Rattle.pebble_rules.specs.declared.position.Position.{Position}
use Rattle.pebble_rules.specs.Rules.{start}
use Rattle.normal_steps.specs.Sound.{IsSound}
use Rattle.normal_steps.proofs.Sound.{start_is_sound}
use Rattle.forced_bounds.specs.Floor.{floor}
use Rattle.branch_bound.specs.Frontiers.{IsSearching}
use Rattle.branch_bound.proofs.BeginLaws.{IsEmpty, searching_closed, searching_open}
use Rattle.branch_bound.proofs.StepLaws.{sound_fits}
use Rattle.branch_bound.proofs.searching.begin.Goals.{then-floor-best+in_ok-add, else-floor-best}
use Rattle.branch_bound.proofs.searching.begin.Goals as goal

begins_sound : (game : GameParts) → IsGame game → (p : Position) → p ≡ start (game_of game) → IsSound (game_of game) p
begins_sound game is p at = subst (IsSound (game_of game)) (sym at) (start_is_sound (game_of game) (IsDag-dag_of game.graph is.valid))

pub add-requires-clause-fits : goal.add-requires-clause-fits
add-requires-clause-fits c =
    let words = ap (λ a. a.words) c.new.ensures in
    let len = c.len.ensures.value in
    let nodes = ap (λ g. length g.nodes) c.graph.ensures.value in
    sound_fits c.args.game.now c.new.result.words c.start-start.result (begins_sound c.args.game.now c.requires.game c.start-start.result c.start-start.ensures) (omega (arith, words, len, nodes))

pub returns : goal.returns
returns c =
    let game = c.args.game.now in
    let words = ap (λ a. a.words) c.new.ensures in
    let len = c.len.ensures.value in
    let nodes = ap (λ g. length g.nodes) c.graph.ensures.value in
    let small = c.requires.game.valid.small in
    let few : c.new.result.words ≤ 4 = omega (arith, words, len, nodes, small) in
    let wide : length game.graph.nodes ≤ 64 * c.new.result.words = omega (arith, words, len, nodes) in
    let empty : IsEmpty c.new.result.words (record { rows = c.new.result; notes = c.new-2.result; queues = c.new-3.result }) =
    record { rows = c.new.ensures ∙ ap (λ words. record { words = words; slots = [] }) (sym words); notes = c.new-2.ensures.items; queues = c.new-3.ensures } in
    let fl = c.floor-floor.ensures.value ∙ ap (floor (game_of game)) c.start-start.ensures in
    elim c.if-floor-best.branch [
      | then-floor-best+in_ok-add w ↦
          subst (λ f. (budget : ℕ) → IsSearching game c.args.first.now budget 0 f c.args.best.now) (sym w.frontier-is)
          (λ budget. searching_open game (IsDag-dag_of game.graph c.requires.game.valid) c.args.first.now c.requires.finishing budget c.args.best.now c.requires.cost c.requires.first c.new.result.words few wide _ empty _
          c.start-start.result _ c.floor-floor.result c.start-start.ensures refl fl w.if-floor-best.true w.in_ok-add.ensures.frontier w.in_ok-add.ensures.put w.in_ok-add.ensures.size w.in_ok-add.ensures.words)
      | else-floor-best w ↦
          let test = w.if-floor-best.false in
          subst (λ f. (budget : ℕ) → IsSearching game c.args.first.now budget 0 f c.args.best.now) (sym w.frontier-is)
          (λ budget. searching_closed game (IsDag-dag_of game.graph c.requires.game.valid) c.args.first.now c.requires.finishing budget c.args.best.now c.requires.cost c.requires.first c.new.result.words few wide _ empty (omega (arith, fl, test)))
    ]
