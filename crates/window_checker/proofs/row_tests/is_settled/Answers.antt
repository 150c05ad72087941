use Rattle.std.proofs.Common.{inl, inr, sym, ap, ◌∙◌, subst, arith}
use Rattle.comp_graph.specs.Games.{game_of}
use Rattle.window_laws.specs.Images.{IsTurnedTo}
use Rattle.potential_cert.specs.Table.{HasRowWithin}
use Rattle.window_steps.specs.Sets.{window_of}
use Rattle.window_floor.specs.GreedyCones.{window_floor}
use Rattle.window_images.specs.Permutations.{renamings}
use Rattle.cert_checker.proofs.RowTests.{is_within_true}
use Rattle.window_checker.specs.Readiness.{IsSettledIn}
use Rattle.window_checker.proofs.row_tests.is_settled.Goals as goal

pub returns-then-has_row_within : goal.returns-then-has_row_within
returns-then-has_row_within c =
    let rs = renamings c.args.table.now.permutations.now in
    let exact = c.least_image-image.ensures.exact in
    let has = c.has_row_within.ensures.0 c.if-has_row_within.true in (
      λ _. record {
        turned = subst (IsTurnedTo rs c.args.position.now) exact c.least_image-image.ensures.turned;
        settled = inl (subst (λ q. HasRowWithin c.args.table.now.rows.now q c.args.paid) exact has);
      },
      λ _. c.if-has_row_within.true,
    )

pub returns-else-has_row_within : goal.returns-else-has_row_within
returns-else-has_row_within c =
    let rs = renamings c.args.table.now.permutations.now in
    let exact = c.least_image-image.ensures.exact in
    let least = c.floor.ensures.exact ∙ ap (window_floor (game_of c.args.game.now) (window_of c.args.window.now)) exact in
    is_within_true _ _ (IsSettledIn c.args.game.now c.args.window.now c.args.table.now c.args.position.now c.args.paid) (
      λ few. record {
        turned = subst (IsTurnedTo rs c.args.position.now) exact c.least_image-image.ensures.turned;
        settled = inr (omega arith);
      },
      λ is. elim is.settled [
        | inl has ↦ absurd (
            let back = subst (λ q. HasRowWithin c.args.table.now.rows.now q c.args.paid) (sym exact) has in
            let tested = c.has_row_within.ensures.1 back in
            let untrue = c.if-has_row_within.false in
            grind arith)
        | inr few ↦ omega arith
      ],
    )
