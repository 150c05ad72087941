use Rattle.std.proofs.Common.{◌≡◌, ◌+◌, sym, ◌∙◌, subst, arith}
use Rattle.window_cert.proofs.Grown.{IsGrown, grow_set, grow_clear, grown_bytes}
use Rattle.window_cert.proofs.pieces.with_byte.Goals.{then-has_bit, else-has_bit}
use Rattle.window_cert.proofs.pieces.with_byte.Goals as goal

pub bits-preserved : goal.bits-preserved
bits-preserved c = elim c.if-has_bit.branch [
  | then-has_bit w ↦
      subst (IsGrown c.args.set.now c.args.k c.args.byte (c.bits.i + 1)) (sym (w.grown-is ∙ w.with-grown.ensures))
      (grow_set c.args.set.now c.args.k c.args.byte c.bits.i c.bits.grown c.bits.invariant (sym c.has_bit.ensures ∙ w.if-has_bit.true))
  | else-has_bit w ↦
      subst (IsGrown c.args.set.now c.args.k c.args.byte (c.bits.i + 1)) (sym w.grown-is)
      (grow_clear c.args.set.now c.args.k c.args.byte c.bits.i c.bits.grown c.bits.invariant (sym c.has_bit.ensures ∙ w.if-has_bit.false))
]

pub returns-clause-bytes : goal.returns-clause-bytes
returns-clause-bytes c =
    let end = c.bits-test.false in
    let most = c.bits.auto.i-end in
    let all : c.bits.i ≡ 8 = omega arith in
    grown_bytes c.args.set.now c.args.k c.args.byte c.bits.grown c.ranges.byte.fits
    (subst (λ i. IsGrown c.args.set.now c.args.k c.args.byte i c.bits.grown) all c.bits.invariant)
