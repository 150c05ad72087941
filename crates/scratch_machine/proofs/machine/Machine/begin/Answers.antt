-- The words hold the values, one more in each round, and nothing else.
use Rattle.std.proofs.Common.{◌≡◌, pos, Some, get_or, sym, ap, ◌∙◌, refl, arith, rules, length-set, w64, to_z, of_z}
use Rattle.std.proofs.lemmas.Option.{slice_get-get_or}
use Rattle.scratch_machine.proofs.Execs.{nothing_in, filled_by, filled_first, filled_end}
use Rattle.scratch_machine.proofs.machine.Machine.begin.Goals as goal

pub loop-k-init : goal.loop-k-init
loop-k-init c = record { sized = refl; filled = filled_first c.args.values.now 256 }

pub loop-k-preserved : goal.loop-k-preserved
loop-k-preserved c =
    let values = c.args.values.now in
    let k = c.loop-k.k in
    let e : to_z w64 (of_z w64 (get_or values k (pos 0))) ≡ get_or values k (pos 0) = search rules in
    record {
      sized = length-set c.loop-k.words k _ ∙ c.loop-k.invariant.sized;
      filled = filled_by values c.loop-k.words k _ (let s = c.loop-k.invariant.sized in omega arith) c.loop-k.invariant.filled (slice_get-get_or values k (pos 0) (omega arith) ∙ ap Some (sym e));
    }

pub returns : goal.returns
returns c =
    let words = filled_end c.args.values.now c.loop-k.words c.loop-k.k (omega arith) c.loop-k.invariant.filled in
    λ i. record { slots = λ q. nothing_in 64 q i; words = λ q. words q i; loads = 0; stores = 0 }
