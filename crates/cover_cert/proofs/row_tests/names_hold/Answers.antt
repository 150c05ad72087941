use Rattle.std.proofs.Common.{get_or, ◌+◌, ◌≤◌, length, sym, ap, ◌∙◌, subst, arith}
use Rattle.comp_graph.specs.Vertices.{size}
use Rattle.comp_graph.specs.Games.{game_of}
use Rattle.comp_graph.proofs.GraphLaws.{IsDag-dag_of}
use Rattle.normal_steps.specs.LegalSteps.{AreLegalSteps}
use Rattle.normal_steps.specs.StepTests.{legal_steps}
use Rattle.potential_cert.proofs.Places.{at_one, at_below}
use Rattle.cover_cert.proofs.RowTests.{NamesSoFar, name_at, same_legal, few_legal, from_at, legal_at, names_begin, name_good, name_bad, name_later, names_end, is_equal_true}
use Rattle.cover_cert.proofs.row_tests.names_hold.Goals.{then-next-names+then-names-next+else-not-is_covered, else-next-names, else-next-names-via-then-next-names+else-names-next, else-next-names-via-else-next-names}
use Rattle.cover_cert.proofs.row_tests.names_hold.Goals as goal

pub loop-step-init : goal.loop-step-init
loop-step-init c =
    let g = game_of c.args.game.now in
    let r = c.args.row.now in
    let exact = subst (λ r. AreLegalSteps g r.position c.new-step-items.result) c.row.view_is c.new-step-items.ensures.exact in
    let same = same_legal g (IsDag-dag_of c.args.game.now.graph c.requires.game.valid) r.position c.requires.sound c.new-step-items.result exact in
    record { can_next = tt; is_finite = tt; names = names_begin g c.args.rows.now r c.into_iter-step-iterator.result (c.into_iter-step-iterator.ensures.into_iter_gives ∙ same) }

pub is_covered-requires : goal.is_covered-requires
is_covered-requires c =
    let g = game_of c.args.game.now in
    let r = c.args.row.now in
    let is = subst (λ ss. NamesSoFar g c.args.rows.now r ss c.loop-step.next c.loop-step.place) c.in-Some.ensures.steps c.loop-step.invariant.names in
    legal_at g (IsDag-dag_of c.args.game.now.graph c.requires.game.valid) r.position c.requires.sound c.in-Some.step c.loop-step.place
    (from_at c.loop-step.place c.in-Some.step c.next.new.self (legal_steps g r.position) is.from)

pub returns-then-not-is_covered : goal.returns-then-not-is_covered
returns-then-not-is_covered c =
    let g = game_of c.args.game.now in
    let r = c.args.row.now in
    let names_are = c.deref-names.ensures.value ∙ ap (λ r. r.names) c.row.view_is in
    let is = subst (λ ss. NamesSoFar g c.args.rows.now r ss c.loop-step.next c.loop-step.place) c.in-Some.ensures.steps c.loop-step.invariant.names in
    let first = get_or c.deref-names.result.now c.loop-step.next (record { step = 0; row = 0 }) in
    let at = name_at c.deref-names.result.now r.names c.loop-step.next names_are c.if-next-names.true in (
      λ h. absurd (grind arith),
      λ hold. absurd (name_bad g c.args.rows.now r c.in-Some.step c.next.new.self c.loop-step.next c.loop-step.place is first at c.if-names-next.true
          (λ covers. let tested = c.is_covered.ensures.1 covers in let untrue = c.if-not-is_covered.true in grind arith) hold),
    )

pub overflow_add-place : goal.overflow_add-place
overflow_add-place c =
    let g = game_of c.args.game.now in
    let r = c.args.row.now in
    let is = subst (λ ss. NamesSoFar g c.args.rows.now r ss c.loop-step.next c.loop-step.place) c.in-Some.ensures.steps c.loop-step.invariant.names in
    let below = at_below c.in-Some.step c.loop-step.place (legal_steps g r.position) (from_at c.loop-step.place c.in-Some.step c.next.new.self (legal_steps g r.position) is.from) in
    let exact = subst (λ r. AreLegalSteps g r.position c.new-step-items.result) c.row.view_is c.new-step-items.ensures.exact in
    let few = few_legal c.args.game.now c.requires.game r.position c.requires.sound c.new-step-items.result exact (subst (λ r. size r.position.red ≤ 64 → length c.new-step-items.result ≤ 384) c.row.view_is c.new-step-items.ensures.few) in
    omega arith

pub loop-step-preserved : goal.loop-step-preserved
loop-step-preserved c =
    let g = game_of c.args.game.now in
    let r = c.args.row.now in
    let names_are = c.deref-names.ensures.value ∙ ap (λ r. r.names) c.row.view_is in
    let is = subst (λ ss. NamesSoFar g c.args.rows.now r ss c.loop-step.next c.loop-step.place) c.in-Some.ensures.steps c.loop-step.invariant.names in
    let first = get_or c.deref-names.result.now c.loop-step.next (record { step = 0; row = 0 }) in
    record {
      can_next = tt;
      is_finite = tt;
      names = elim c.if-next-names.branch [
        | then-next-names+then-names-next+else-not-is_covered w ↦
            let at = name_at c.deref-names.result.now r.names c.loop-step.next names_are w.if-next-names.true in
            subst (λ n. NamesSoFar g c.args.rows.now r c.next.new.self n (c.loop-step.place + 1)) (sym w.next-is)
            (name_good g c.args.rows.now r c.in-Some.step c.next.new.self c.loop-step.next c.loop-step.place is first at w.if-names-next.true (w.is_covered.ensures.0 w.if-not-is_covered.false))
        | else-next-names w ↦
            subst (λ n. NamesSoFar g c.args.rows.now r c.next.new.self n (c.loop-step.place + 1)) (sym w.next-is)
            (name_later g c.args.rows.now r c.in-Some.step c.next.new.self c.loop-step.next c.loop-step.place is (λ n at here. elim w.else-next-names.branch [
              | else-next-names-via-then-next-names+else-names-next x ↦
                  let first_at = name_at c.deref-names.result.now r.names c.loop-step.next names_are x.if-next-names.true in
                  x.if-names-next.false (ap (λ n. n.step) (at_one first n c.loop-step.next r.names first_at at) ∙ here)
              | else-next-names-via-else-next-names x ↦ let below = at_below n c.loop-step.next r.names at in let many = ap length names_are in absurd (omega (arith, x.if-next-names.false))
            ]))
      ];
    }

pub returns : goal.returns
returns c =
    let g = game_of c.args.game.now in
    let r = c.args.row.now in
    let names_are = c.deref-names.ensures.value ∙ ap (λ r. r.names) c.row.view_is in
    let is = subst (λ ss. NamesSoFar g c.args.rows.now r ss c.loop-step.next c.loop-step.place) c.in-None.ensures.steps.0 c.loop-step.invariant.names in
    is_equal_true c.loop-step.next _ _ _ (ap length names_are) (names_end g c.args.rows.now r c.loop-step.next c.loop-step.place is)
