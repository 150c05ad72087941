-- A walk back outside a cheap set is closed.
use Rattle.std.proofs.Common.{◌≡◌, ℕ, ◌<◌, ◌⊎◌, inl, inr, arith}
use Rattle.std.specs.FinSet.{contains, intersection, difference}
use Rattle.std.proofs.lemmas.Bool.{cases_Bool}
use Rattle.comp_graph.specs.Vertices.{Vertices, ◌∈◌, ◌∉◌, size}
use Rattle.comp_graph.specs.Sets.{membership}
use Rattle.comp_graph.proofs.Sets.{some_member, outside_of, within_if_none}
use Rattle.window_game.specs.Windows.{known}
use Rattle.window_laws.specs.Cones.{WalksAreClosed}

clash : (c : Vertices) (q : ℕ) → q ∈ c → q ∉ c → ⊥
clash c q a b = absurd (grind arith)

zero_or_some : (n : ℕ) → (n ≡ 0) ⊎ (0 < n)
zero_or_some n = grind arith

parts : (s c : Vertices) (q : ℕ) → q ∈ difference s c → (q ∈ s) × (q ∉ c)
parts s c q h = (grind (arith, membership), grind (arith, membership))

first_of : (s t : Vertices) (q : ℕ) → q ∈ intersection s t → q ∈ s
first_of s t q h = grind (arith, membership)

pub walks_are_closed : WalksAreClosed
walks_are_closed g w p c k cheap walk = record {
  inside = walk.inside;
  not_red = λ x h. outside_of k p.red x (λ red _. clash c x (cheap.red x red) (walk.outside x h)) h;
  not_done = λ x h out. outside_of k p.blue x (λ blue _. clash c x (cheap.done x blue out) (walk.outside x h)) h;
  charged = λ x y h tracked work pred. elim (cases_Bool (contains (w.loads y) x)) as (λ _. x ∈ w.loads y) [
    | inl is ↦ is
    | inr free ↦ absurd (clash c x (cheap.free x y tracked work pred free) (walk.outside x h))
  ];
  fed = λ y h work. elim (zero_or_some (size (difference (intersection (g.dag.preds y) (known w)) c))) [
    | inl none ↦ absurd (clash c y (cheap.computed y work (within_if_none (intersection (g.dag.preds y) (known w)) c none)) (walk.outside y h))
    | inr some ↦
        (let m = some_member (difference (intersection (g.dag.preds y) (known w)) c) some in
        let is = parts (intersection (g.dag.preds y) (known w)) c m.0 m.1 in
        (m.0, first_of (g.dag.preds y) (known w) m.0 is.0, walk.back y m.0 h work is.0 is.1))
  ];
}
