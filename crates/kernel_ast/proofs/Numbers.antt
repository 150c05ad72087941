-- The numbers from one to below another, each time a step more.
use Rattle.std.proofs.Common.{◌≡◌, ℕ, zero, suc, ◌≤◌, ◌∷◌, [], ℤ, pos, negsuc, ◌+ℤ◌, ◌-ℤ◌, ◌<ℤ◌, ◌≤ℤ◌, cond, refl, sym, ap, ◌∙◌, ⊎_elim, inl, inr, ◌⊎◌, arith, Bool, true, false}
use Rattle.std.specs.Prelude.{int_lt}
use Rattle.std.proofs.lemmas.Int.{ints}
use Rattle.kernel_ast.specs.Steps.{numbers, rising, clipped}

-- how a test of two numbers tells their order
below_or_not : (a b : ℤ) → ((int_lt a b ≡ true) × (a <ℤ b)) ⊎ ((int_lt a b ≡ false) × (b ≤ℤ a))
below_or_not a b = told (int_lt a b) refl
  where
    told : (t : Bool) → int_lt a b ≡ t → ((int_lt a b ≡ true) × (a <ℤ b)) ⊎ ((int_lt a b ≡ false) × (b ≤ℤ a))
    told true e = inl (e, grind (arith, ints))
    told false e = inr (e, grind (arith, ints))

clipped-above : (a b : ℤ) (n : ℕ) → clipped (b -ℤ a) ≤ n → b ≤ℤ (a +ℤ pos n)
clipped-above a b n h = tested (b -ℤ a) refl
  where
    tested : (d : ℤ) → b -ℤ a ≡ d → b ≤ℤ (a +ℤ pos n)
    tested (pos m) e = let g : clipped (b -ℤ a) ≡ m = ap clipped e in omega (arith, ints, h, e, g)
    tested (negsuc m) e = omega (arith, ints, e)

rising-end : (n : ℕ) (a b step : ℤ) → int_lt a b ≡ false → rising n a b step ≡ []
rising-end zero a b step h = refl
rising-end (suc n) a b step h = ap (λ t. cond t (a ∷ rising n (a +ℤ step) b step) []) h

rising-step : (n : ℕ) (a b step : ℤ) → int_lt a b ≡ true → rising (suc n) a b step ≡ a ∷ rising n (a +ℤ step) b step
rising-step n a b step h = ap (λ t. cond t (a ∷ rising n (a +ℤ step) b step) []) h

-- there are no more than from a to b
enough : (n m : ℕ) (a b step : ℤ) → pos 1 ≤ℤ step → b ≤ℤ (a +ℤ pos n) → b ≤ℤ (a +ℤ pos m) → rising n a b step ≡ rising m a b step
enough zero m a b step s h k = ⊎_elim (λ t. absurd (omega (arith, ints, h, t.1))) (λ t. sym (rising-end m a b step t.0)) (below_or_not a b)
enough (suc n) zero a b step s h k = ⊎_elim (λ t. absurd (omega (arith, ints, k, t.1))) (λ t. rising-end (suc n) a b step t.0) (below_or_not a b)
enough (suc n) (suc m) a b step s h k =
    ⊎_elim
    (λ t. rising-step n a b step t.0 ∙ ap (λ ns. a ∷ ns) (enough n m (a +ℤ step) b step s (omega (arith, ints, s, h)) (omega (arith, ints, s, k))) ∙ sym (rising-step m a b step t.0))
    (λ t. rising-end (suc n) a b step t.0 ∙ sym (rising-end (suc m) a b step t.0))
    (below_or_not a b)

-- none where the end is not above the first
pub numbers-end : (a b step : ℤ) → b ≤ℤ a → numbers a b step ≡ []
unfolding numbers
numbers-end a b step h = ⊎_elim (λ t. absurd (omega (arith, ints, h, t.1))) (λ t. rising-end (clipped (b -ℤ a)) a b step t.0) (below_or_not a b)

-- the first, and then those from a step more on
pub numbers-step : (a b step : ℤ) → pos 1 ≤ℤ step → a <ℤ b → numbers a b step ≡ a ∷ numbers (a +ℤ step) b step
unfolding numbers
numbers-step a b step s h = counted (clipped (b -ℤ a)) refl
  where
    some : int_lt a b ≡ true
    some = ⊎_elim (λ t. t.0) (λ t. absurd (omega (arith, ints, h, t.1))) (below_or_not a b)

    counted : (n : ℕ) → clipped (b -ℤ a) ≡ n → rising n a b step ≡ a ∷ rising (clipped (b -ℤ (a +ℤ step))) (a +ℤ step) b step
    counted zero e =
        let whole : b ≤ℤ (a +ℤ pos 0) = clipped-above a b 0 (omega (arith, e)) in
        absurd (omega (arith, ints, h, whole))
    counted (suc n) e =
        let whole : b ≤ℤ (a +ℤ pos (suc n)) = clipped-above a b (suc n) (omega (arith, e)) in
        let rest : b ≤ℤ ((a +ℤ step) +ℤ pos (clipped (b -ℤ (a +ℤ step)))) = clipped-above (a +ℤ step) b (clipped (b -ℤ (a +ℤ step))) (omega arith) in
        rising-step n a b step some
        ∙ ap (λ ns. a ∷ ns) (enough n (clipped (b -ℤ (a +ℤ step))) (a +ℤ step) b step s (omega (arith, ints, s, whole)) rest)
