use Rattle.std.proofs.Common.{◌+◌, ◌∷◌, take, Some, sym, subst, arith}
use Rattle.potential_cert.proofs.Places.{index_at}
use Rattle.potential_cert.proofs.Written.{take_all}
use Rattle.cover_cert.specs.CoverMaking.{FitsFirst, IsFit, IsSooner, made_row, made_rows}
use Rattle.cover_cert.proofs.FirstFits.{fits_none, fits_not, fits_one, fits_sooner}
use Rattle.cover_cert.proofs.MadeLists.{mapped_more}
use Rattle.cover_cert.proofs.making.first_fit.Goals.{then-is_fit, else-is_fit, then-is_fit-2, else-is_fit-2}
use Rattle.cover_cert.proofs.making.first_fit.Goals as goal

pub loop-k-init : goal.loop-k-init
loop-k-init c =
    let row = c.args.row.now in
    let q = c.args.wanted.now in
    elim c.if-is_fit.branch [
      | then-is_fit w ↦ subst (FitsFirst (row ∷ made_rows (take 0 c.args.made.now)) q c.args.most) (sym w.first-is) (fits_one row q c.args.most (c.is_fit.ensures.0 w.if-is_fit.true))
      | else-is_fit w ↦
          subst (FitsFirst (row ∷ made_rows (take 0 c.args.made.now)) q c.args.most) (sym w.first-is)
          (fits_none row q c.args.most (λ fits. let tested = c.is_fit.ensures.1 fits in let untrue = w.if-is_fit.false in grind arith))
    ]

pub loop-k-preserved : goal.loop-k-preserved
loop-k-preserved c =
    let row = c.args.row.now in
    let q = c.args.wanted.now in
    let made = c.args.made.now in
    let k = c.loop-k.k in
    let m = c.index-made-k.result in
    let at = index_at m m k made c.loop-k-test.true (sym c.index-made-k.is) in
    let more = mapped_more made_row m k made at in
    elim c.if-is_fit-2.branch [
      | then-is_fit-2 w ↦
          subst (FitsFirst (row ∷ made_rows (take (k + 1) made)) q c.args.most) (sym w.first-is)
          (subst (λ rows. FitsFirst (row ∷ rows) q c.args.most (Some w.sooner.result)) (sym more)
          (fits_sooner (row ∷ made_rows (take k made)) (made_row m) q c.args.most c.loop-k.first w.sooner.result
          (subst (IsFit q c.args.most) c.made_row-other.ensures (c.is_fit-in-loop-k.ensures.0 w.if-is_fit-2.true))
          (subst (λ r. IsSooner c.loop-k.first r.position w.sooner.result) c.made_row-other.ensures w.sooner.ensures) c.loop-k.invariant))
      | else-is_fit-2 w ↦
          subst (FitsFirst (row ∷ made_rows (take (k + 1) made)) q c.args.most) (sym w.first-is)
          (subst (λ rows. FitsFirst (row ∷ rows) q c.args.most c.loop-k.first) (sym more)
          (fits_not (row ∷ made_rows (take k made)) (made_row m) q c.args.most c.loop-k.first
          (λ fits. let tested = c.is_fit-in-loop-k.ensures.1 (subst (IsFit q c.args.most) (sym c.made_row-other.ensures) fits) in let untrue = w.if-is_fit-2.false in grind arith) c.loop-k.invariant))
    ]

pub returns : goal.returns
returns c =
    subst (λ ms. FitsFirst (c.args.row.now ∷ made_rows ms) c.args.wanted.now c.args.most c.loop-k.first) (take_all c.loop-k.k c.args.made.now c.loop-k-test.false) c.loop-k.invariant
