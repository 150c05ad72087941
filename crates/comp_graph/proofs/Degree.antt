-- The steps of a loop that looks for the greatest number of predecessors of a live vertex.
use Rattle.std.proofs.Common.{◌≡◌, ℕ, ◌+◌, cond, max, sym, ap, ◌∙◌, add-one, arith}
use Rattle.std.specs.Ordering.{nat_cmp, ord_max}
use Rattle.std.proofs.lemmas.Bool.Decides.{nat_tests}
use Rattle.comp_graph.specs.Vertices.{◌∈◌, ◌∉◌, size, greatest_below}
use Rattle.comp_graph.specs.Dags.{Dag, IsDag, is_live, live_of}
use Rattle.comp_graph.proofs.Live.{has_live_of}

-- the number of predecessors of a live vertex, and 0 for any other
abbrev pub live_preds : Dag → ℕ → ℕ
live_preds d v = cond (is_live d v) (size (d.preds v)) 0

most_step : (m k r : ℕ) → r ≡ ord_max nat_cmp m k → r ≡ max k m
most_step m k r e = grind (arith, nat_tests)

next_most : (f : ℕ → ℕ) (v : ℕ) → greatest_below (v + 1) f ≡ max (f v) (greatest_below v f)
next_most f v = ap (λ n. greatest_below n f) (add-one v)

pub most_more : (d : Dag) → IsDag d → (v m r k : ℕ) → v ∈ live_of d → m ≡ greatest_below v (live_preds d) → k ≡ size (d.preds v) → r ≡ ord_max nat_cmp m k → r ≡ greatest_below (v + 1) (live_preds d)
most_more d ok v m r k live before counted new =
    let is : live_preds d v ≡ k = ap (λ b. cond b (size (d.preds v)) 0) (sym (has_live_of d ok v) ∙ live) ∙ sym counted in
    most_step m k r new ∙ sym (λ i. max (is i) (sym before i)) ∙ sym (next_most (live_preds d) v)

pub most_same : (d : Dag) → IsDag d → (v m r : ℕ) → v ∉ live_of d → m ≡ greatest_below v (live_preds d) → r ≡ m → r ≡ greatest_below (v + 1) (live_preds d)
most_same d ok v m r dead before same =
    let is : live_preds d v ≡ 0 = ap (λ b. cond b (size (d.preds v)) 0) (sym (has_live_of d ok v) ∙ dead) in
    let next = next_most (live_preds d) v in
    omega arith
