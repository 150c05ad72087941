-- What the tests of a row have shown so far.
use Rattle.std.proofs.Common.{◌≡◌, ℕ, ◌+◌, ◌≤◌, ◌<◌, ltb, leb, false, IsTrue, ◌↔◌, List, ◌⊎◌, inl, inr, sym, subst, arith}
use Rattle.std.specs.FinSet.{contains, insert}
use Rattle.comp_graph.specs.Vertices.{Vertices}
use Rattle.comp_graph.specs.Sets.{membership}
use Rattle.comp_graph.specs.Games.{PebbleGame}
use Rattle.pebble_rules.specs.declared.position.Position.{Position}
use Rattle.normal_steps.specs.Steps.{CanFinish}
use Rattle.normal_steps.specs.Plans.{HasBareOutput}
use Rattle.potential_cert.specs.Places.{IsAt}
use Rattle.potential_cert.proofs.Places.{at_one}

-- each element before place n has P
abbrev pub EachBefore : {X : Type 0} → (X → Type 0) → List X → ℕ → Type 0
EachBefore {X} P xs n = (k : ℕ) (x : X) → k < n → IsAt x k xs → P x

less_or_here : (k n : ℕ) → k < n + 1 → (k < n) ⊎ (k ≡ n)
less_or_here k n h = grind arith

pub each_more : {X : Type 0} → (P : X → Type 0) (xs : List X) (n : ℕ) (y : X) → IsAt y n xs → P y → EachBefore P xs n → EachBefore P xs (n + 1)
each_more P xs n y at is each k x l h = elim (less_or_here k n l) [
  | inl less ↦ each k x less h
  | inr here ↦ subst P (sym (at_one x y n xs (subst (λ k. IsAt x k xs) here h) at)) is
]

pub below_more : (all : Vertices) (n : ℕ) → ((v : ℕ) → contains all v ≡ ltb v n) → (v : ℕ) → contains (insert all n) v ≡ ltb v (n + 1)
below_more all n are v = let old = are v in grind (arith, membership)

pub is_within_true : (a b : ℕ) (P : Type 0) → (a ≤ b) ↔ P → IsTrue (leb a b) ↔ P
is_within_true a b P same = (λ h. same.0 (grind arith), λ p. let few = same.1 p in grind arith)

pub bare_cannot : (g : PebbleGame) (p : Position) → HasBareOutput g p → CanFinish g p → ⊥
bare_cannot g p bare can = let held = can bare.output bare.is_output in let red = bare.not_red in let blue = bare.not_blue in grind (arith, membership)

pub none_below : (v : ℕ) → false ≡ ltb v 0
none_below v = grind arith
