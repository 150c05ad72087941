-- Loops that take the same step for each member of a list, up to the first fault: what is left leads to what all leads to.
use Rattle.std.proofs.Common.{◌≡◌, ℕ, zero, suc, ◌+◌, ◌<◌, ◌≤◌, List, [], ◌∷◌, length, drop, get_or, Result, Ok, refl, sym, ap, ◌∙◌, arith}
use Rattle.std.proofs.lemmas.List.{drop_all}
use Rattle.kernel_ast.specs.declared.element.Fault.{Fault}
use Rattle.kernel_ast.specs.Steps.{each, and_then}

drop_step : {A : Type 0} (xs : List A) (k : ℕ) (d : A) → k < length xs → drop k xs ≡ get_or xs k d ∷ drop (suc k) xs
drop_step [] k d h = absurd (omega arith)
drop_step (x ∷ xs) zero d h = refl
drop_step (x ∷ xs) (suc k) d h = drop_step xs k d (omega arith)

drop_next : {A : Type 0} (xs : List A) (k : ℕ) (d : A) → k < length xs → drop k xs ≡ get_or xs k d ∷ drop (k + 1) xs
drop_next xs k d h = let next : suc k ≡ k + 1 = omega arith in drop_step xs k d h ∙ ap (λ n. get_or xs k d ∷ drop n xs) next

-- a member more
pub each_kept : {A S : Type 0} (f : A → S → Result S Fault) (xs : List A) (k : ℕ) (d : A) (s t : S) (all : Result S Fault) → k < length xs
    → each f (drop k xs) s ≡ all → f (get_or xs k d) s ≡ Ok t → each f (drop (k + 1) xs) t ≡ all
each_kept f xs k d s t all h so_far step =
    sym (ap (λ r. and_then r (each f (drop (k + 1) xs))) step) ∙ sym (ap (λ left. each f left s) (drop_next xs k d h)) ∙ so_far

-- no member is left
pub each_done : {A S : Type 0} (f : A → S → Result S Fault) (xs : List A) (k : ℕ) (s : S) (all : Result S Fault) → length xs ≤ k → each f (drop k xs) s ≡ all → all ≡ Ok s
each_done f xs k s all h so_far = sym so_far ∙ ap (λ left. each f left s) (drop_all k xs h)
