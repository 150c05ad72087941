-- Members of a list in the words of the library.
use Rattle.std.proofs.Common.{◌≡◌, ℕ, ◌<◌, zero, suc, List, [], ◌∷◌, length, inl, inr, sym, arith}
use Rattle.std.specs.List.{Contains, slice_index_or}
use Rattle.comp_graph.specs.Lists.{IsIn}

index_in : {X : Type 0} → (x : X) (k : ℕ) (xs : List X) → k < length xs → slice_index_or xs k x ≡ x → IsIn x xs
index_in x k [] l e = absurd (omega arith)
index_in x zero (y ∷ ys) l e = inl (sym e)
index_in x (suc k) (y ∷ ys) l e = inr (index_in x k ys (omega arith) e)

pub contains_in : {X : Type 0} → (xs : List X) (x : X) → Contains xs x → IsIn x xs
contains_in xs x h = index_in x h.0 xs h.1 h.2

pub in_contains : {X : Type 0} → (x : X) (xs : List X) → IsIn x xs → Contains xs x
in_contains x [] h = absurd h
in_contains x (y ∷ ys) (inl e) = (zero, omega arith, sym e)
in_contains x (y ∷ ys) (inr h) = let rest = in_contains x ys h in (suc rest.0, omega (arith, rest.1), rest.2)
