-- The least and the greatest of some numbers that pass a test.
use Rattle.std.proofs.Common.{◌≡◌, ℕ, zero, suc, ◌+◌, ◌≤◌, ◌<◌, ◌⊎◌, inl, inr, Bool, true, false, cond, refl, sym, ap, ◌∙◌, arith}
use Rattle.first_plan.specs.Passing.{least_from, greatest_passing}

not_both : (b : Bool) → b ≡ true → b ≡ false → ⊥
not_both b t f = let both : true ≡ false = sym t ∙ f in cc

-- ---- the least

-- r is the least of the n numbers from k on that passes, or k + n
pub record IsLeastFrom (k n : ℕ) (test : ℕ → Bool) (r : ℕ) : Type 0 where
  pub first : k ≤ r
  pub most : r ≤ k + n
  pub passes : r < k + n → test r ≡ true
  pub none_before : (x : ℕ) → k ≤ x → x < r → test x ≡ false

first_or_later : (k x : ℕ) → k ≤ x → (x ≡ k) ⊎ (suc k ≤ x)
first_or_later k x h = grind arith

least_step : (k n : ℕ) (test : ℕ → Bool) (r : ℕ) (here : Bool) → test k ≡ here → IsLeastFrom (suc k) n test r → IsLeastFrom k (suc n) test (cond here k r)
least_step k n test r true h rest = record {
  first = omega arith;
  most = omega arith;
  passes = λ l. h;
  none_before = λ x a b. absurd (omega arith);
}
least_step k n test r false h rest = record {
  first = let a = rest.first in omega arith;
  most = let a = rest.most in omega arith;
  passes = λ l. rest.passes (omega arith);
  none_before = λ x a b. elim (first_or_later k x a) [ inl e ↦ ap test e ∙ h | inr l ↦ rest.none_before x l b ];
}

pub least_from-is : (k n : ℕ) (test : ℕ → Bool) → IsLeastFrom k n test (least_from k n test)
unfolding least_from
least_from-is k zero test = record { first = omega arith; most = omega arith; passes = λ l. absurd (omega arith); none_before = λ x a b. absurd (omega arith) }
least_from-is k (suc n) test = least_step k n test (least_from (suc k) n test) (test k) refl (least_from-is (suc k) n test)

order : (a b : ℕ) → (a < b) ⊎ ((a ≡ b) ⊎ (b < a))
order a b = grind arith

-- there is one alone
pub least_unique : (k n : ℕ) (test : ℕ → Bool) (r q : ℕ) → IsLeastFrom k n test r → IsLeastFrom k n test q → r ≡ q
least_unique k n test r q a b =
    elim (order r q) [
      | inl l ↦ absurd (not_both (test r) (a.passes (let m = b.most in omega arith)) (b.none_before r a.first l))
      | inr (inl e) ↦ e
      | inr (inr l) ↦ absurd (not_both (test q) (b.passes (let m = a.most in omega arith)) (a.none_before q b.first l))
    ]

pub least_from-by : (k n : ℕ) (test : ℕ → Bool) (r : ℕ) → IsLeastFrom k n test r → least_from k n test ≡ r
least_from-by k n test r is = least_unique k n test (least_from k n test) r (least_from-is k n test) is

-- ---- the greatest

-- u is the greatest number below n that passes
pub record IsGreatestBelow (n : ℕ) (test : ℕ → Bool) (u : ℕ) : Type 0 where
  pub below : u < n
  pub passes : test u ≡ true
  pub most : (x : ℕ) → x < n → test x ≡ true → x ≤ u

last_or_before : (n x : ℕ) → x < suc n → (x ≡ n) ⊎ (x < n)
last_or_before n x h = grind arith

greatest_step : (n : ℕ) (test : ℕ → Bool) (u r : ℕ) (here : Bool) → test n ≡ here → IsGreatestBelow (suc n) test u → (IsGreatestBelow n test u → r ≡ u) → cond here n r ≡ u
greatest_step n test u r true h is before = let a = is.most n (omega arith) h in let b = is.below in omega arith
greatest_step n test u r false h is before =
    elim (last_or_before n u is.below) [
      | inl e ↦ absurd (not_both (test n) (ap test (sym e) ∙ is.passes) h)
      | inr l ↦ before (record { below = l; passes = is.passes; most = λ x b t. is.most x (omega arith) t })
    ]

pub greatest_passing-by : (n : ℕ) (test : ℕ → Bool) (u : ℕ) → IsGreatestBelow n test u → greatest_passing n test ≡ u
unfolding greatest_passing
greatest_passing-by zero test u is = absurd (let b = is.below in omega arith)
greatest_passing-by (suc n) test u is = greatest_step n test u (greatest_passing n test) (test n) refl is (greatest_passing-by n test u)

more_step : (n : ℕ) (test : ℕ → Bool) (x r : ℕ) (here : Bool) → test n ≡ here → x < suc n → test x ≡ true → (x < n → IsGreatestBelow n test r) → IsGreatestBelow (suc n) test (cond here n r)
more_step n test x r true h l t before = record { below = omega arith; passes = h; most = λ y b s. omega arith }
more_step n test x r false h l t before =
    elim (last_or_before n x l) [
      | inl e ↦ absurd (not_both (test n) (ap test (sym e) ∙ t) h)
      | inr l ↦ let is = before l in record {
        below = let b = is.below in omega arith;
        passes = is.passes;
        most = λ y b s. elim (last_or_before n y b) [ inl e ↦ absurd (not_both (test n) (ap test (sym e) ∙ s) h) | inr m ↦ is.most y m s ];
      }
    ]

-- where one passes, it is found
pub greatest_passing-is : (n : ℕ) (test : ℕ → Bool) (x : ℕ) → x < n → test x ≡ true → IsGreatestBelow n test (greatest_passing n test)
unfolding greatest_passing
greatest_passing-is zero test x l t = absurd (omega arith)
greatest_passing-is (suc n) test x l t = more_step n test x (greatest_passing n test) (test n) refl l t (λ m. greatest_passing-is n test x m t)
