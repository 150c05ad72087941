use Rattle.std.proofs.Common.{◌≡◌, ◌+◌, List, [], ◌∷◌, ◌++◌, map, length, refl, sym, ap, ◌∙◌, subst, arith}
use Rattle.comp_graph.specs.Games.{game_of}
use Rattle.normal_steps.specs.Sound.{IsSound}
use Rattle.potential_cert.specs.declared.tables.Row.{Row}
use Rattle.branch_bound.specs.Frontiers.{store_of}
use Rattle.branch_bound.proofs.StepLaws.{few_steps, same_steps}
use Rattle.cover_cert.specs.CoverMaking.{made_rows, naming_of}
use Rattle.cover_cert.specs.CoverTurns.{AreMade, IsDoing, row_at}
use Rattle.cover_cert.proofs.Doing.{doing_as, doing_begin, doing_end, doing_few, doing_legal, doing_named, doing_room, doing_tried}
use Rattle.cover_cert.proofs.MadeLists.{map_push}
use Rattle.cover_cert.proofs.making.make.Goals.{in-Some-row_named+in_ok-push-in-Some-row_named, in-None-row_named+in_ok-try_step-in-None-row_named}
use Rattle.cover_cert.proofs.making.make.Goals as goal

pub loop-step-init : goal.loop-step-init
loop-step-init g c =
    let game = c.args.game.now in
    let p = c.position-position.result in
    let row : Row = record { position = c.position-position.result; cost = c.head.result.cost } in
    let rows : List Row = row ∷ made_rows c.args.made.now in
    let costs = ap (λ h. h.cost) c.head.ensures in
    let row_is : row_at (store_of c.args.frontier.now) c.args.k ≡ row = λ i. record { position = sym c.position-position.ensures i; cost = sym costs i } in
    let sound = subst (IsSound (game_of game)) (sym c.position-position.ensures) c.requires.sound in
    let same = same_steps game c.requires.game p sound c.new-step-items.result c.new-step-items.ensures.exact ∙ sym c.into_iter-step-iterator.ensures.into_iter_gives in
    let few = few_steps game c.requires.game p sound (length c.new-step-items.result) c.new-step-items.ensures.few in
    let room = c.requires.room in
    let lengths = ap length c.into_iter-step-iterator.ensures.into_iter_gives in
    record {
      can_next = tt;
      is_finite = tt;
      doing = doing_as game c.requires.game c.args.k row rows c.args.frontier.now c.args.best.now c.args.frontier.now c.args.frontier.now c.args.best.now c.args.best.now [] (map (naming_of p) c.new-names.result.items) 0 c.into_iter-step-iterator.result
          refl refl (ap (map (naming_of p)) c.new-names.ensures.items)
          (doing_begin game c.requires.game c.args.k row rows c.args.frontier.now c.args.best.now c.requires.frontier c.requires.wide c.requires.expanding row_is (c.requires.current ∙ sym costs)
          (subst (λ r. AreMade (store_of c.args.frontier.now) (r ∷ made_rows c.args.made.now)) row_is c.requires.made) c.into_iter-step-iterator.result same (omega arith));
    }

pub row_named-requires : goal.row_named-requires
row_named-requires g c =
    let game = c.args.game.now in
    let p = c.position-position.result in
    let row : Row = record { position = c.position-position.result; cost = c.head.result.cost } in
    let rows : List Row = row ∷ made_rows c.args.made.now in
    let names = map (naming_of p) c.loop-step.names.items in
    let sound = subst (IsSound (game_of game)) (sym c.position-position.ensures) c.requires.sound in
    let on = subst (IsDoing game c.args.k row rows c.args.frontier.now c.loop-step.frontier c.args.best.now c.loop-step.best names c.loop-step.place) c.in-Some.ensures.steps c.loop-step.invariant.doing in
    doing_legal game c.requires.game c.args.k row rows c.args.frontier.now c.args.best.now c.loop-step.frontier c.loop-step.best names c.loop-step.place c.in-Some.step c.next.new.self on sound

pub try_step-requires-clause-frontier : goal.try_step-requires-clause-frontier
try_step-requires-clause-frontier g c =
    let game = c.args.game.now in
    let p = c.position-position.result in
    let row : Row = record { position = c.position-position.result; cost = c.head.result.cost } in
    let rows : List Row = row ∷ made_rows c.args.made.now in
    let names = map (naming_of p) c.loop-step.names.items in
    let sound = subst (IsSound (game_of game)) (sym c.position-position.ensures) c.requires.sound in
    let on = subst (IsDoing game c.args.k row rows c.args.frontier.now c.loop-step.frontier c.args.best.now c.loop-step.best names c.loop-step.place) c.in-Some.ensures.steps c.loop-step.invariant.doing in
    on.has_done.frontier

pub try_step-requires-clause-wide : goal.try_step-requires-clause-wide
try_step-requires-clause-wide g c =
    let game = c.args.game.now in
    let p = c.position-position.result in
    let row : Row = record { position = c.position-position.result; cost = c.head.result.cost } in
    let rows : List Row = row ∷ made_rows c.args.made.now in
    let names = map (naming_of p) c.loop-step.names.items in
    let sound = subst (IsSound (game_of game)) (sym c.position-position.ensures) c.requires.sound in
    let on = subst (IsDoing game c.args.k row rows c.args.frontier.now c.loop-step.frontier c.args.best.now c.loop-step.best names c.loop-step.place) c.in-Some.ensures.steps c.loop-step.invariant.doing in
    on.wide

pub try_step-requires-clause-expanding : goal.try_step-requires-clause-expanding
try_step-requires-clause-expanding g c =
    let game = c.args.game.now in
    let p = c.position-position.result in
    let row : Row = record { position = c.position-position.result; cost = c.head.result.cost } in
    let rows : List Row = row ∷ made_rows c.args.made.now in
    let names = map (naming_of p) c.loop-step.names.items in
    let sound = subst (IsSound (game_of game)) (sym c.position-position.ensures) c.requires.sound in
    let on = subst (IsDoing game c.args.k row rows c.args.frontier.now c.loop-step.frontier c.args.best.now c.loop-step.best names c.loop-step.place) c.in-Some.ensures.steps c.loop-step.invariant.doing in
    on.expanding

pub try_step-requires-clause-position : goal.try_step-requires-clause-position
try_step-requires-clause-position g c =
    let game = c.args.game.now in
    let p = c.position-position.result in
    let row : Row = record { position = c.position-position.result; cost = c.head.result.cost } in
    let rows : List Row = row ∷ made_rows c.args.made.now in
    let names = map (naming_of p) c.loop-step.names.items in
    let sound = subst (IsSound (game_of game)) (sym c.position-position.ensures) c.requires.sound in
    let on = subst (IsDoing game c.args.k row rows c.args.frontier.now c.loop-step.frontier c.args.best.now c.loop-step.best names c.loop-step.place) c.in-Some.ensures.steps c.loop-step.invariant.doing in
    ap (λ r. r.position) on.row

pub try_step-requires-clause-cost : goal.try_step-requires-clause-cost
try_step-requires-clause-cost g c =
    let game = c.args.game.now in
    let p = c.position-position.result in
    let row : Row = record { position = c.position-position.result; cost = c.head.result.cost } in
    let rows : List Row = row ∷ made_rows c.args.made.now in
    let names = map (naming_of p) c.loop-step.names.items in
    let sound = subst (IsSound (game_of game)) (sym c.position-position.ensures) c.requires.sound in
    let on = subst (IsDoing game c.args.k row rows c.args.frontier.now c.loop-step.frontier c.args.best.now c.loop-step.best names c.loop-step.place) c.in-Some.ensures.steps c.loop-step.invariant.doing in
    ap (λ r. r.cost) on.row

pub try_step-requires-clause-current : goal.try_step-requires-clause-current
try_step-requires-clause-current g c =
    let game = c.args.game.now in
    let p = c.position-position.result in
    let row : Row = record { position = c.position-position.result; cost = c.head.result.cost } in
    let rows : List Row = row ∷ made_rows c.args.made.now in
    let names = map (naming_of p) c.loop-step.names.items in
    let sound = subst (IsSound (game_of game)) (sym c.position-position.ensures) c.requires.sound in
    let on = subst (IsDoing game c.args.k row rows c.args.frontier.now c.loop-step.frontier c.args.best.now c.loop-step.best names c.loop-step.place) c.in-Some.ensures.steps c.loop-step.invariant.doing in
    on.current

pub try_step-requires-clause-sound : goal.try_step-requires-clause-sound
try_step-requires-clause-sound g c =
    let game = c.args.game.now in
    let p = c.position-position.result in
    let row : Row = record { position = c.position-position.result; cost = c.head.result.cost } in
    let rows : List Row = row ∷ made_rows c.args.made.now in
    let names = map (naming_of p) c.loop-step.names.items in
    let sound = subst (IsSound (game_of game)) (sym c.position-position.ensures) c.requires.sound in
    let on = subst (IsDoing game c.args.k row rows c.args.frontier.now c.loop-step.frontier c.args.best.now c.loop-step.best names c.loop-step.place) c.in-Some.ensures.steps c.loop-step.invariant.doing in
    sound

pub try_step-requires-clause-legal : goal.try_step-requires-clause-legal
try_step-requires-clause-legal g c =
    let game = c.args.game.now in
    let p = c.position-position.result in
    let row : Row = record { position = c.position-position.result; cost = c.head.result.cost } in
    let rows : List Row = row ∷ made_rows c.args.made.now in
    let names = map (naming_of p) c.loop-step.names.items in
    let sound = subst (IsSound (game_of game)) (sym c.position-position.ensures) c.requires.sound in
    let on = subst (IsDoing game c.args.k row rows c.args.frontier.now c.loop-step.frontier c.args.best.now c.loop-step.best names c.loop-step.place) c.in-Some.ensures.steps c.loop-step.invariant.doing in
    doing_legal game c.requires.game c.args.k row rows c.args.frontier.now c.args.best.now c.loop-step.frontier c.loop-step.best names c.loop-step.place c.in-Some.step c.next.new.self on sound

pub try_step-requires-clause-room : goal.try_step-requires-clause-room
try_step-requires-clause-room g c =
    let game = c.args.game.now in
    let p = c.position-position.result in
    let row : Row = record { position = c.position-position.result; cost = c.head.result.cost } in
    let rows : List Row = row ∷ made_rows c.args.made.now in
    let names = map (naming_of p) c.loop-step.names.items in
    let sound = subst (IsSound (game_of game)) (sym c.position-position.ensures) c.requires.sound in
    let on = subst (IsDoing game c.args.k row rows c.args.frontier.now c.loop-step.frontier c.args.best.now c.loop-step.best names c.loop-step.place) c.in-Some.ensures.steps c.loop-step.invariant.doing in
    doing_room game c.requires.game c.args.k row rows c.args.frontier.now c.args.best.now c.loop-step.frontier c.loop-step.best names c.loop-step.place c.in-Some.step c.next.new.self on

pub overflow_add-place : goal.overflow_add-place
overflow_add-place g c =
    let game = c.args.game.now in
    let p = c.position-position.result in
    let row : Row = record { position = c.position-position.result; cost = c.head.result.cost } in
    let rows : List Row = row ∷ made_rows c.args.made.now in
    let names = map (naming_of p) c.loop-step.names.items in
    let sound = subst (IsSound (game_of game)) (sym c.position-position.ensures) c.requires.sound in
    let on = subst (IsDoing game c.args.k row rows c.args.frontier.now c.loop-step.frontier c.args.best.now c.loop-step.best names c.loop-step.place) c.in-Some.ensures.steps c.loop-step.invariant.doing in
    let same = ap length (same_steps game c.requires.game p sound c.new-step-items.result c.new-step-items.ensures.exact) in
    let few = few_steps game c.requires.game p sound (length c.new-step-items.result) c.new-step-items.ensures.few in
    let less = doing_few game c.requires.game c.args.k row rows c.args.frontier.now c.args.best.now c.loop-step.frontier c.loop-step.best names c.loop-step.place c.in-Some.step c.next.new.self on (omega (arith, same, few)) in
    omega (arith, less)

pub loop-step-preserved : goal.loop-step-preserved
loop-step-preserved g c =
    let game = c.args.game.now in
    let p = c.position-position.result in
    let row : Row = record { position = c.position-position.result; cost = c.head.result.cost } in
    let rows : List Row = row ∷ made_rows c.args.made.now in
    let names = map (naming_of p) c.loop-step.names.items in
    let sound = subst (IsSound (game_of game)) (sym c.position-position.ensures) c.requires.sound in
    let on = subst (IsDoing game c.args.k row rows c.args.frontier.now c.loop-step.frontier c.args.best.now c.loop-step.best names c.loop-step.place) c.in-Some.ensures.steps c.loop-step.invariant.doing in
    record {
      can_next = tt;
      is_finite = tt;
      doing = elim c.match-row_named.branch [
        | in-Some-row_named+in_ok-push-in-Some-row_named w ↦
            let by = w.in-Some-row_named.by in
            doing_as game c.requires.game c.args.k row rows c.args.frontier.now c.args.best.now c.loop-step.frontier c.match-row_named.frontier c.loop-step.best c.match-row_named.best
            (names ++ record { row = p; step = c.loop-step.place; by = by } ∷ []) (map (naming_of p) c.match-row_named.names.items) (c.loop-step.place + 1) c.next.new.self
            w.frontier-is w.best-is
            (ap (λ v. map (naming_of p) v.items) w.names-is ∙ ap (map (naming_of p)) w.in_ok-push-in-Some-row_named.ensures.items ∙ map_push (naming_of p) c.loop-step.names.items (record { step = c.loop-step.place; by = by }))
            (doing_named game c.requires.game c.args.k row rows c.args.frontier.now c.args.best.now c.loop-step.frontier c.loop-step.best names c.loop-step.place c.in-Some.step c.next.new.self on by w.in-Some-row_named.ensures)
        | in-None-row_named+in_ok-try_step-in-None-row_named w ↦
            doing_as game c.requires.game c.args.k row rows c.args.frontier.now c.args.best.now w.try_step.new.self c.match-row_named.frontier w.try_step.new.best c.match-row_named.best
            names (map (naming_of p) c.match-row_named.names.items) (c.loop-step.place + 1) c.next.new.self
            w.frontier-is w.best-is (ap (λ v. map (naming_of p) v.items) w.names-is)
            (doing_tried game c.requires.game c.args.k row rows c.args.frontier.now c.args.best.now c.loop-step.frontier c.loop-step.best names c.loop-step.place c.in-Some.step c.next.new.self on w.in-None-row_named.ensures w.try_step.new.self w.try_step.new.best w.in_ok-try_step-in-None-row_named.ensures)
      ];
    }

pub returns-clause-made : goal.returns-clause-made
returns-clause-made g c =
    let game = c.args.game.now in
    let p = c.position-position.result in
    let row : Row = record { position = c.position-position.result; cost = c.head.result.cost } in
    let rows : List Row = row ∷ made_rows c.args.made.now in
    let names = map (naming_of p) c.loop-step.names.items in
    let costs = ap (λ h. h.cost) c.head.ensures in
    let row_is : row ≡ row_at (store_of c.args.frontier.now) c.args.k = λ i. record { position = c.position-position.ensures i; cost = costs i } in
    let sound = subst (IsSound (game_of game)) (sym c.position-position.ensures) c.requires.sound in
    let same = ap length (same_steps game c.requires.game p sound c.new-step-items.result c.new-step-items.ensures.exact) in
    let few = few_steps game c.requires.game p sound (length c.new-step-items.result) c.new-step-items.ensures.few in
    doing_end game c.requires.game c.args.k row rows c.args.frontier.now c.args.best.now c.loop-step.frontier c.loop-step.best names c.loop-step.place
    (subst (IsDoing game c.args.k row rows c.args.frontier.now c.loop-step.frontier c.args.best.now c.loop-step.best names c.loop-step.place) c.in-None.ensures.steps.0 c.loop-step.invariant.doing)
    (omega (arith, same, few)) (record { position = p; cost = c.head.result.cost; names = c.loop-step.names }) refl refl row_is
