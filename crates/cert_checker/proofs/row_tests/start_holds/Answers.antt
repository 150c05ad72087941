use Rattle.std.proofs.Common.{sym, ap, ◌∙◌, inl, inr, subst, arith}
use Rattle.comp_graph.specs.Games.{game_of}
use Rattle.forced_bounds.specs.Floor.{floor}
use Rattle.potential_cert.specs.Table.{HasRowWithin}
use Rattle.cert_checker.proofs.row_tests.start_holds.Goals as goal

pub returns-else-bound-floor : goal.returns-else-bound-floor
returns-else-bound-floor c =
    let g = game_of c.args.game.now in
    let value = c.floor.ensures.value ∙ ap (floor g) c.start-start.ensures in
    let above = c.if-bound-floor.false in (
      λ h. inr (subst (λ p. HasRowWithin c.args.rows.now p 0) c.start-start.ensures (c.has_row_within.ensures.0 h)),
      λ holds. elim holds [
        | inl few ↦ absurd (omega arith)
        | inr has ↦ c.has_row_within.ensures.1 (subst (λ p. HasRowWithin c.args.rows.now p 0) (sym c.start-start.ensures) has)
      ],
    )
