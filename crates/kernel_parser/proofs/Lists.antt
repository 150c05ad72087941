-- Lists, and tests that hold together.
use Rattle.std.proofs.Common.{rules, tests, ◌≡◌, ◌+◌, ◌<◌, ◌&&◌, ◌==◌, ◌++◌, ◌∷◌, [], ℕ, suc, Bool, true, false, cond, List, length, Some, None, nat_lt, get_or, drop, drop-cons, add-one, length-append, sum, refl, sym, ap, ◌∙◌, subst}
use Rattle.std.specs.Prelude.{position}
use Rattle.std.specs.List.{position_or_len}
use Rattle.std.proofs.lemmas.List.Sums.{sum_by-cons}

-- what is left of a list begins with its next element
pub drop_next : {A : Type 0} (xs : List A) (i : ℕ) (x : A) → i < length xs → x ≡ get_or xs i x → drop i xs ≡ x ∷ drop (i + 1) xs
drop_next xs i x lt is = drop-cons xs i x lt ∙ ap (λ y. y ∷ drop (suc i) xs) (sym is) ∙ ap (λ n. x ∷ drop n xs) (sym (add-one i))

pub and_left : (a b : Bool) → (a && b) ≡ true → a ≡ true
and_left true b h = refl
and_left false b h = absurd (cc)

pub and_right : (a b : Bool) → (a && b) ≡ true → b ≡ true
and_right true b h = h
and_right false b h = absurd (cc)

pub first_none : {A : Type 0} (xs ys : List A) → xs ++ ys ≡ [] → xs ≡ []
first_none [] ys h = refl
first_none (x ∷ xs) ys h = absurd (cc)

pub second_none : {A : Type 0} (xs ys : List A) → xs ++ ys ≡ [] → ys ≡ []
second_none [] ys h = h
second_none (x ∷ xs) ys h = absurd (cc)

pub sum_same : (a b : ℕ) (xs ys : List ℕ) → a ≡ b → sum xs ≡ sum ys → sum (a ∷ xs) ≡ sum (b ∷ ys)
sum_same a b xs ys e h = sum_by-cons (λ x. x) a xs ∙ ap (λ z. z + sum xs) e ∙ ap (λ z. b + z) h ∙ sym (sum_by-cons (λ x. x) b ys)

within : (b : Bool) (n len k : ℕ) → b ≡ nat_lt n len → cond b (Some n) None ≡ Some k → nat_lt k len ≡ true
within true n len k e h = let same : n ≡ k = cc in subst (λ z. nat_lt z len ≡ true) same (sym e)
within false n len k e h = absurd (cc)

-- what is found in a list has a place in it
pub position_within : {A : Type 0} (p : A → Bool) (xs : List A) (k : ℕ) → position p xs ≡ Some k → nat_lt k (length xs) ≡ true
position_within p xs k h = within (nat_lt (position_or_len p xs) (length xs)) (position_or_len p xs) (length xs) k refl h

pub no_elements : {A : Type 0} (xs : List A) → (length xs == 0) ≡ true → xs ≡ []
no_elements [] h = refl
no_elements (x ∷ xs) h = absurd (search (rules, tests))

pub length_more : {A : Type 0} (xs : List A) (x : A) → length (xs ++ x ∷ []) ≡ suc (length xs)
length_more xs x = search (rules, length-append)
