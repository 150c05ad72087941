use Rattle.std.proofs.Common.{get_or, sym, ap, ◌∙◌, refl, subst, arith}
use Rattle.std.specs.FinSet.{insert, contains}
use Rattle.comp_graph.specs.Vertices.{◌∈◌, ◌∉◌}
use Rattle.window_images.proofs.Inverses.{AreMet, none_met, one_met, twice_met, all_met}
use Rattle.window_images.proofs.permutation.inverse.Goals as goal

pub loop-v-init : goal.loop-v-init
loop-v-init c = none_met c.args.there.now _ c.empty-met.result c.empty-met.ensures refl

pub returns-then-has : goal.returns-then-has
returns-then-has c =
    let again : get_or c.args.there.now c.loop-v.v 0 ∈ c.loop-v.met =
    ap (contains c.loop-v.met) (sym c.from.ensures) ∙ sym c.has.ensures.value ∙ c.if-has.true in
    twice_met c.args.there.now c.loop-v.back c.loop-v.v c.loop-v.met c.loop-v.invariant c.told-there c.loop-v-test.true again

pub loop-v-preserved : goal.loop-v-preserved
loop-v-preserved c =
    let out : get_or c.args.there.now c.loop-v.v 0 ∉ c.loop-v.met =
    ap (contains c.loop-v.met) (sym c.from.ensures) ∙ sym c.has.ensures.value ∙ c.if-has.false in
    one_met c.args.there.now c.loop-v.back c.loop-v.v c.loop-v.met c.with-met.result _ c.loop-v.invariant c.told-there (c.fits-there c.loop-v.v) out
    (c.with-met.ensures ∙ ap (insert c.loop-v.met) c.from-in-loop-v.ensures) refl

pub returns : goal.returns
returns c =
    all_met c.args.there.now c.loop-v.back c.loop-v.met
    (subst (λ k. AreMet c.args.there.now k c.loop-v.met c.loop-v.back) (let past = c.loop-v-test.false in omega arith) c.loop-v.invariant)
    (λ v h. c.fits-there v)
