-- What is done step by step, up to the first fault.
use Rattle.std.specs.Prelude.{ℕ, zero, suc, ℤ, pos, negsuc, ◌+ℤ◌, ◌-ℤ◌, int_lt, if◌then◌else◌, List, [], ◌∷◌, Result, Ok, Err}

-- go on with a result, and stop at a fault
abbrev pub and_then : {A B E : Type 0} → Result A E → (A → Result B E) → Result B E
and_then (Ok a) f = f a
and_then (Err e) f = Err e

-- one step after the other
abbrev pub in_turn : {S E : Type 0} → List (S → Result S E) → S → Result S E
in_turn [] s = Ok s
in_turn (f ∷ fs) s = and_then (f s) (in_turn fs)

-- the same step for each member of a list
abbrev pub each : {A S E : Type 0} → (A → S → Result S E) → List A → S → Result S E
each f [] s = Ok s
each f (a ∷ more) s = and_then (f a s) (each f more)

-- a number, and then each time the step more, while it is below the end; at most so many
abbrev pub rising : ℕ → ℤ → ℤ → ℤ → List ℤ
rising zero a end step = []
rising (suc n) a end step = if int_lt a end then a ∷ rising n (a +ℤ step) end step else []

-- a number, or 0 where it is negative
abbrev pub clipped : ℤ → ℕ
clipped (pos n) = n
clipped (negsuc n) = 0

-- The numbers that a loop's index takes from a to below b: a, and then each time the step more. None where b is not greater than a. A
-- step is at least 1, so there are no more than from a to b.
unfoldable pub numbers : ℤ → ℤ → ℤ → List ℤ
numbers a b step = rising (clipped (b -ℤ a)) a b step
