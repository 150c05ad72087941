-- The least and the greatest of some numbers that pass a test.
use Rattle.std.specs.Prelude.{ℕ, zero, suc, Bool, cond}

-- the least of the n numbers from k on that passes the test, or k + n if none does
unfoldable pub least_from : ℕ → ℕ → (ℕ → Bool) → ℕ
least_from k zero test = k
least_from k (suc n) test = cond (test k) k (least_from (suc k) n test)

-- the least number below n that passes the test, or n if none does
abbrev pub least_passing : ℕ → (ℕ → Bool) → ℕ
least_passing n test = least_from 0 n test

-- the greatest number below n that passes the test, or 0 if none does
unfoldable pub greatest_passing : ℕ → (ℕ → Bool) → ℕ
greatest_passing zero test = 0
greatest_passing (suc n) test = cond (test n) n (greatest_passing n test)
