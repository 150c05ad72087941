-- Bytes of a list, written one after another.
use Rattle.std.proofs.Common.{◌≡◌, ℕ, ◌+◌, ◌≤◌, ◌<◌, List, [], ◌∷◌, ◌++◌, length, take, refl, ap, ◌∙◌, append_assoc}
use Rattle.std.specs.Prelude.{flat_map}
use Rattle.std.specs.List.{slice_index_or}
use Rattle.comp_graph.specs.Lists.{IsIn}
use Rattle.potential_cert.proofs.Places.{index_at, at_in}
use Rattle.potential_cert.proofs.Written.{piece_more, take_all, added_more}

pub append_nothing : {X : Type 0} → (xs : List X) → xs ++ [] ≡ xs
append_nothing [] = refl
append_nothing (x ∷ xs) = ap (λ xs. x ∷ xs) (append_nothing xs)

-- one more of the list
pub list_more : {X : Type 0} → (spell : X → List ℕ) (x d : X) (k : ℕ) (xs : List X) (old bytes more : List ℕ) → k < length xs → slice_index_or xs k d ≡ x
    → bytes ≡ old ++ flat_map spell (take k xs) → more ≡ bytes ++ spell x → more ≡ old ++ flat_map spell (take (k + 1) xs)
list_more spell x d k xs old bytes more less is before here =
    added_more old bytes more (flat_map spell (take k xs)) (spell x) (flat_map spell (take (k + 1) xs)) before here (piece_more spell x k xs (index_at x d k xs less is))

-- all of the list
pub list_done : {X : Type 0} → (spell : X → List ℕ) (k : ℕ) (xs : List X) (old bytes : List ℕ) → length xs ≤ k → bytes ≡ old ++ flat_map spell (take k xs) → bytes ≡ old ++ flat_map spell xs
list_done spell k xs old bytes all before = before ∙ ap (λ xs. old ++ flat_map spell xs) (take_all k xs all)

-- the number of a list, and the list
pub counted_done : (old count list first bytes : List ℕ) → first ≡ old ++ count → bytes ≡ first ++ list → bytes ≡ old ++ (count ++ list)
counted_done old count list first bytes a b = b ∙ ap (λ x. x ++ list) a ∙ append_assoc old count list

pub item_in : {X : Type 0} → (x d : X) (k : ℕ) (xs : List X) → k < length xs → slice_index_or xs k d ≡ x → IsIn x xs
item_in x d k xs less is = at_in x k xs (index_at x d k xs less is)
