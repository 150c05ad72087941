-- Paths that keep outside a set.
use Rattle.std.proofs.Common.{◌≡◌, ℕ, zero, suc, ◌+◌, ◌≤◌, ◌<◌, Bool, true, false, not, ◌&&◌, ◌⊎◌, inl, inr, refl, sym, subst, arith}
use Rattle.std.specs.FinSet.{contains}
use Rattle.comp_graph.specs.Vertices.{Vertices, ◌∈◌, ◌∉◌}
use Rattle.comp_graph.specs.Dags.{Dag, IsDag}
use Rattle.comp_graph.specs.Sets.{membership}
use Rattle.comp_graph.proofs.DagLaws.{both, either, or-true, and-true, any_below_at, any_below_some}
use Rattle.forced_bounds.specs.Floor.{leads_outside, reaches, only}

-- a path from v to u, and none of its vertices is in `avoid`
pub data IsPathOutside (g : Dag) (avoid : Vertices) : ℕ → ℕ → Type 0 where
  point : {v : ℕ} → v ∉ avoid → IsPathOutside g avoid v v
  edge : {v u : ℕ} (w : ℕ) → v ∉ avoid → v ∈ g.preds w → IsPathOutside g avoid w u → IsPathOutside g avoid v u

-- tests that hold together are equal
pub same_test : (a b : Bool) → (a ≡ true → b ≡ true) → (b ≡ true → a ≡ true) → a ≡ b
same_test true b there back = sym (there refl)
same_test false b there back = not_both b back
  where
    not_both : (b : Bool) → (b ≡ true → false ≡ true) → false ≡ b
    not_both true back = back refl
    not_both false back = refl

pub not_true : (b : Bool) → not b ≡ true → b ≡ false
not_true true h = absurd (grind arith)
not_true false h = refl

pub true_not : (b : Bool) → b ≡ false → not b ≡ true
true_not true h = absurd (grind arith)
true_not false h = refl

abbrev pub PathToTarget : Dag → Vertices → Vertices → ℕ → Type 0
PathToTarget g avoid targets v = (u : ℕ) × (u ∈ targets) × IsPathOutside g avoid v u

pub path_of : (g : Dag) (avoid targets : Vertices) (k v : ℕ) → leads_outside g avoid targets k v ≡ true → PathToTarget g avoid targets v
path_of g avoid targets zero v h =
    let parts = both (not (contains avoid v)) (contains targets v) h in
    (v, parts.1, point (not_true _ parts.0))
path_of g avoid targets (suc k) v h =
    let parts = both (not (contains avoid v)) _ h in
    elim (either (contains targets v) _ parts.1) [
      | inl here ↦ (v, here, point (not_true _ parts.0))
      | inr some ↦
          let w = any_below_some g.count (λ w. contains (g.preds w) v && leads_outside g avoid targets k w) some in
          let on = both (contains (g.preds w.0) v) (leads_outside g avoid targets k w.0) w.2 in
          let rest : PathToTarget g avoid targets w.0 = path_of g avoid targets k w.0 on.1 in
          (rest.0, rest.1, edge w.0 (not_true _ parts.0) on.0 rest.2)
    ]

pub path_rises : (g : Dag) → IsDag g → (avoid : Vertices) (v u : ℕ) → IsPathOutside g avoid v u → v ≤ u
path_rises g dag avoid v u (point h) = omega arith
path_rises g dag avoid v u (edge w h pred rest) = let on = path_rises g dag avoid w u rest in let below = dag.preds_below w v pred in omega arith

leads_here : (g : Dag) (avoid targets : Vertices) (k v : ℕ) → v ∉ avoid → v ∈ targets → leads_outside g avoid targets k v ≡ true
leads_here g avoid targets zero v h t = and-true _ _ (true_not _ h) t
leads_here g avoid targets (suc k) v h t = and-true _ _ (true_not _ h) (grind arith)

leads_next : (g : Dag) (avoid targets : Vertices) (k v w : ℕ) → v ∉ avoid → v ∈ g.preds w → w < g.count → leads_outside g avoid targets k w ≡ true → leads_outside g avoid targets (suc k) v ≡ true
leads_next g avoid targets k v w h pred below rest =
    and-true _ _ (true_not _ h)
    (or-true (contains targets v) _ (any_below_at g.count w (λ w. contains (g.preds w) v && leads_outside g avoid targets k w) below (and-true _ _ pred rest)))

leads_along : (g : Dag) → IsDag g → (avoid targets : Vertices) (v u : ℕ) → u ∈ targets → u < g.count → IsPathOutside g avoid v u
    → (k : ℕ) → g.count ≤ v + k → leads_outside g avoid targets k v ≡ true
leads_along g dag avoid targets v u t below (point h) k far = leads_here g avoid targets k v h t
leads_along g dag avoid targets v u t below (edge w h pred rest) zero far =
    absurd (let on = path_rises g dag avoid w u rest in let less = dag.preds_below w v pred in omega arith)
leads_along g dag avoid targets v u t below (edge w h pred rest) (suc k) far =
    let on = path_rises g dag avoid w u rest in
    let less = dag.preds_below w v pred in
    leads_next g avoid targets k v w h pred (omega arith) (leads_along g dag avoid targets w u t below rest k (omega arith))

pub of_path : (g : Dag) → IsDag g → (avoid targets : Vertices) (v u : ℕ) → u ∈ targets → u < g.count → IsPathOutside g avoid v u → reaches g avoid targets v ≡ true
of_path g dag avoid targets v u t below path = leads_along g dag avoid targets v u t below path g.count (omega arith)

pub path_first : (g : Dag) (avoid : Vertices) (v u : ℕ) → IsPathOutside g avoid v u → v ∉ avoid
path_first g avoid v u (point h) = h
path_first g avoid v u (edge w h pred rest) = h

pub path_end : (g : Dag) (avoid : Vertices) (v u : ℕ) → IsPathOutside g avoid v u → u ∉ avoid
path_end g avoid v u (point h) = h
path_end g avoid v u (edge w h pred rest) = path_end g avoid w u rest

-- one more edge at the end
pub path_push : (g : Dag) (avoid : Vertices) (v w u : ℕ) → IsPathOutside g avoid v w → w ∈ g.preds u → u ∉ avoid → IsPathOutside g avoid v u
path_push g avoid v w u (point h) pred out = edge u h pred (point out)
path_push g avoid v w u (edge x h edge_in rest) pred out = edge x h edge_in (path_push g avoid x w u rest pred out)

-- one path after another
pub path_join : (g : Dag) (avoid : Vertices) (v w u : ℕ) → IsPathOutside g avoid v w → IsPathOutside g avoid w u → IsPathOutside g avoid v u
path_join g avoid v w u (point h) rest = rest
path_join g avoid v w u (edge x h pred path) rest = edge x h pred (path_join g avoid x w u path rest)

abbrev pub LastEdge : Dag → Vertices → ℕ → ℕ → Type 0
LastEdge g avoid v u = (w : ℕ) × (w ∈ g.preds u) × IsPathOutside g avoid v w

last_after : (g : Dag) (avoid : Vertices) (v w u : ℕ) → v ∉ avoid → v ∈ g.preds w → (w ≡ u) ⊎ LastEdge g avoid w u → LastEdge g avoid v u
last_after g avoid v w u h pred (inl e) = (v, subst (λ x. v ∈ g.preds x) e pred, point h)
last_after g avoid v w u h pred (inr last) = (last.0, last.1, edge w h pred last.2)

-- the last edge of a path
pub path_last : (g : Dag) (avoid : Vertices) (v u : ℕ) → IsPathOutside g avoid v u → (v ≡ u) ⊎ LastEdge g avoid v u
path_last g avoid v u (point h) = inl refl
path_last g avoid v u (edge w h pred rest) = inr (last_after g avoid v w u h pred (path_last g avoid w u rest))

-- a path outside a set is one outside any part of it
pub path_within : (g : Dag) (s t : Vertices) → ((q : ℕ) → q ∉ t → q ∉ s) → (v u : ℕ) → IsPathOutside g t v u → IsPathOutside g s v u
path_within g s t part v u (point h) = point (part v h)
path_within g s t part v u (edge w h pred rest) = edge w (part v h) pred (path_within g s t part w u rest)

pub in_only : (v : ℕ) → v ∈ only v
in_only v = grind (arith, membership)

pub only_one : (u v : ℕ) → u ∈ only v → u ≡ v
only_one u v h = grind (arith, membership)
