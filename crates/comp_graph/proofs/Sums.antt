-- Sums over the numbers below a number.
use Rattle.std.proofs.Common.{◌≡◌, ℕ, zero, suc, ◌+◌, ◌≤◌, ◌<◌, Bool, true, false, cond, inl, inr, refl, ap, arith}
use Rattle.std.proofs.lemmas.Bool.{cases_Bool}
use Rattle.comp_graph.specs.Vertices.{sum_below}

pub sum_below-le : (n : ℕ) (f h : ℕ → ℕ) → ((k : ℕ) → k < n → f k ≤ h k) → sum_below n f ≤ sum_below n h
sum_below-le zero f h less = omega arith
sum_below-le (suc n) f h less = let here = less n (omega arith) in let rest = sum_below-le n f h (λ k below. less k (omega arith)) in omega arith

pub sum_below-add : (n : ℕ) (f h : ℕ → ℕ) → sum_below n (λ k. f k + h k) ≡ sum_below n f + sum_below n h
sum_below-add zero f h = omega arith
sum_below-add (suc n) f h = let rest = sum_below-add n f h in omega arith

pub sum_below-none : (n : ℕ) (test : ℕ → Bool) (c : ℕ) → ((k : ℕ) → k < n → test k ≡ false) → sum_below n (λ k. cond (test k) c 0) ≡ 0
sum_below-none zero test c none = refl
sum_below-none (suc n) test c none =
    let here = ap (λ b. cond b c 0) (none n (omega arith)) in
    let rest = sum_below-none n test c (λ k below. none k (omega arith)) in
    omega arith

-- where at most one number passes, at most one is counted
pub sum_below-once : (n : ℕ) (test : ℕ → Bool) (c : ℕ) → ((j k : ℕ) → j < k → test j ≡ true → test k ≡ true → ⊥) → sum_below n (λ k. cond (test k) c 0) ≤ c
sum_below-once zero test c once = omega arith
sum_below-once (suc n) test c once = elim (cases_Bool (test n)) [
  | inl passes ↦
      let here = ap (λ b. cond b c 0) passes in
      let rest = sum_below-none n test c (λ k below. elim (cases_Bool (test k)) as (λ _. test k ≡ false) [ inl also ↦ absurd (once k n below also passes) | inr fails ↦ fails ]) in
      omega arith
  | inr fails ↦
      let here = ap (λ b. cond b c 0) fails in
      let rest = sum_below-once n test c once in
      omega arith
]
