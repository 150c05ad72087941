use Rattle.std.proofs.Common.{◌≡◌, ◌+◌, ◌*◌, ◌^◌, refl, sym, ap, ◌∙◌, arith}
use Rattle.std.specs.FinSet.{contains}
use Rattle.comp_graph.specs.Words.{bits_below}
use Rattle.window_cert.proofs.SetBytes.{no_bits, bit_set, bit_clear, power_more, power_small, value_below, byte_done}
use Rattle.window_cert.proofs.sets.set_byte.Goals.{then-has, else-has}
use Rattle.window_cert.proofs.sets.set_byte.Goals as goal

pub bits-init : goal.bits-init
bits-init c = record { value = no_bits (λ i. contains c.args.set.now (8 * c.args.k + i)); power = refl }

pub overflow_add-value : goal.overflow_add-value
overflow_add-value c =
    let low = value_below (λ i. contains c.args.set.now (8 * c.args.k + i)) c.bits.i c.bits.value c.bits.invariant.value in
    let high = c.bits.invariant.power in
    let few = power_small c.bits.i c.bits-test.true in
    record { fits = omega arith }

pub bits-preserved : goal.bits-preserved
bits-preserved c = record {
  value = elim c.if-has.branch [
    | then-has w ↦
        w.value-is
        ∙ bit_set (λ i. contains c.args.set.now (8 * c.args.k + i)) c.bits.i c.bits.value c.bits.power c.bits.invariant.value c.bits.invariant.power
        (sym c.has.ensures.value ∙ w.if-has.true)
    | else-has w ↦
        w.value-is
        ∙ bit_clear (λ i. contains c.args.set.now (8 * c.args.k + i)) c.bits.i c.bits.value c.bits.invariant.value
        (sym c.has.ensures.value ∙ w.if-has.false)
  ];
  power = power_more c.bits.i c.bits.power c.bits.invariant.power;
}

pub overflow_cast-result : goal.overflow_cast-result
overflow_cast-result c =
    let end = c.bits-test.false in
    let most = c.bits.auto.i-end in
    let all : c.bits.i ≡ 8 = omega arith in
    let small = value_below (λ i. contains c.args.set.now (8 * c.args.k + i)) c.bits.i c.bits.value c.bits.invariant.value in
    let whole = ap (λ i. 2 ^ i) all in
    record { fits = omega arith }

pub returns : goal.returns
returns c =
    let end = c.bits-test.false in
    let most = c.bits.auto.i-end in
    let all : c.bits.i ≡ 8 = omega arith in
    byte_done c.args.set.now c.args.k c.bits.value (c.bits.invariant.value ∙ ap (bits_below (λ i. contains c.args.set.now (8 * c.args.k + i))) all)
