-- Spellings one after another: if each has one reading, so have all.
use Rattle.std.proofs.Common.{◌≡◌, ℕ, ◌+◌, ◌<◌, List, [], ◌∷◌, ◌++◌, length, refl, sym, ap, ◌∙◌, subst, ◌⊎◌, inl, inr, arith, append_assoc}
use Rattle.std.specs.Prelude.{flat_map}
use Rattle.std.proofs.lemmas.List.{length-append}
use Rattle.comp_graph.specs.Lists.{IsIn}
use Rattle.potential_cert.specs.TableBytes.{big_endian}
use Rattle.potential_cert.specs.Readings.{BeginsWithNumber}
use Rattle.potential_cert.proofs.Codes.{number_one}
use Rattle.potential_cert.proofs.Pieces.{flat_push}
use Rattle.window_cert.specs.Bytes.{counted, AllFit}
use Rattle.window_cert.specs.Readings.{BeginsWith, BeginsWithNone, BeginsWithMany, BeginsWithFewer}

-- what begins with spellings that fit begins with one alone
abbrev pub IsOne : {X : Type 0} → (X → List ℕ) → (X → Type 0) → Type 0
IsOne {X} spell Fits = (x y : X) (r s : List ℕ) → Fits x → Fits y → spell x ++ r ≡ spell y ++ s → (x ≡ y) × (r ≡ s)

module _ {X : Type 0} (spell : X → List ℕ) (Fits : X → Type 0) where
  pub begins_one : IsOne spell Fits → (bytes r s : List ℕ) (x y : X) → BeginsWith spell Fits bytes r x → BeginsWith spell Fits bytes s y → (x ≡ y) × (r ≡ s)
  begins_one one bytes r s x y a b = one x y r s a.fits b.fits (sym a.bytes_are ∙ b.bytes_are)

  -- the first of a list, cut from the others
  pub front : (x : X) (xs : List X) (r : List ℕ) → flat_map spell (x ∷ xs) ++ r ≡ spell x ++ (flat_map spell xs ++ r)
  front x xs r = append_assoc (spell x) (flat_map spell xs) r

  pub list_one : IsOne spell Fits → (xs ys : List X) (r s : List ℕ) → length xs ≡ length ys → ((x : X) → IsIn x xs → Fits x) → ((y : X) → IsIn y ys → Fits y)
      → flat_map spell xs ++ r ≡ flat_map spell ys ++ s → (xs ≡ ys) × (r ≡ s)
  list_one one [] [] r s l p q e = (refl, e)
  list_one one [] (y ∷ ys) r s l p q e = absurd (omega arith)
  list_one one (x ∷ xs) [] r s l p q e = absurd (omega arith)
  list_one one (x ∷ xs) (y ∷ ys) r s l p q e =
      let first = one x y (flat_map spell xs ++ r) (flat_map spell ys ++ s) (p x (inl refl)) (q y (inl refl)) (sym (front x xs r) ∙ e ∙ front y ys s) in
      let rest = list_one one xs ys r s (omega arith) (λ x i. p x (inr i)) (λ y i. q y (inr i)) first.1 in
      (ap (λ x. x ∷ xs) first.0 ∙ ap (λ xs. y ∷ xs) rest.0, rest.1)

  -- a counted list before a rest, cut after its number
  pub counted_cut : (xs : List X) (r : List ℕ) → counted spell xs ++ r ≡ big_endian 4 (length xs) ++ (flat_map spell xs ++ r)
  counted_cut xs r = append_assoc (big_endian 4 (length xs)) (flat_map spell xs) r

  pub counted_one : IsOne spell Fits → IsOne (counted spell) (AllFit Fits)
  counted_one one xs ys r s a b e =
      let many = number_one 4 (length xs) (length ys) (flat_map spell xs ++ r) (flat_map spell ys ++ s) a.few b.few (sym (counted_cut xs r) ∙ e ∙ counted_cut ys s) in
      list_one one xs ys r s many.0 a.fit b.fit many.1

  -- ---- so many spellings

  last_in : (x y : X) → IsIn y (x ∷ []) → y ≡ x
  last_in x y (inl e) = e
  last_in x y (inr i) = absurd i

  in_append : (y : X) (xs zs : List X) → IsIn y (xs ++ zs) → (IsIn y xs) ⊎ (IsIn y zs)
  in_append y [] zs i = inr i
  in_append y (x ∷ xs) zs (inl e) = inl (inl e)
  in_append y (x ∷ xs) zs (inr i) = elim (in_append y xs zs i) [ inl a ↦ inl (inr a) | inr b ↦ inr b ]

  pub none_yet : (bytes : List ℕ) → BeginsWithMany spell Fits 0 bytes bytes []
  none_yet bytes = record { many = refl; fit = λ x i. absurd i; bytes_are = refl }

  pub one_more : (k : ℕ) (bytes r s : List ℕ) (xs : List X) (x : X) → BeginsWithMany spell Fits k bytes r xs → BeginsWith spell Fits r s x → BeginsWithMany spell Fits (k + 1) bytes s (xs ++ x ∷ [])
  one_more k bytes r s xs x before here = record {
    many = let whole = length-append xs (x ∷ []) in let many = before.many in omega arith;
    fit = λ y i. elim (in_append y xs (x ∷ []) i) [ inl old ↦ before.fit y old | inr last ↦ subst Fits (sym (last_in x y last)) here.fits ];
    bytes_are = before.bytes_are ∙ ap (λ x. flat_map spell xs ++ x) here.bytes_are ∙ sym (flat_push spell xs x s);
  }

  -- if the bytes begin with more, what is left after some begins with one
  pub go_on : IsOne spell Fits → (k n : ℕ) (bytes r s : List ℕ) (xs ys : List X) → BeginsWithMany spell Fits k bytes r xs → BeginsWithMany spell Fits n bytes s ys → k < n → BeginsWithNone spell Fits r → ⊥
  go_on one k n bytes r s [] [] a b less none = let few = a.many in let many = b.many in omega arith
  go_on one k n bytes r s [] (y ∷ ys) a b less none =
      none (flat_map spell ys ++ s) y (record { fits = b.fit y (inl refl); bytes_are = sym a.bytes_are ∙ b.bytes_are ∙ front y ys s })
  go_on one k n bytes r s (x ∷ xs) [] a b less none = let few = a.many in let many = b.many in omega arith
  go_on one k n bytes r s (x ∷ xs) (y ∷ ys) a b less none =
      let first = one x y (flat_map spell xs ++ r) (flat_map spell ys ++ s) (a.fit x (inl refl)) (b.fit y (inl refl)) (sym (front x xs r) ∙ sym a.bytes_are ∙ b.bytes_are ∙ front y ys s) in
      go_on one (length xs) (length ys) (flat_map spell xs ++ r) r s xs ys
      (record { many = refl; fit = λ q i. a.fit q (inr i); bytes_are = refl })
      (record { many = refl; fit = λ q i. b.fit q (inr i); bytes_are = first.1 })
      (let few = a.many in let many = b.many in omega arith) none

  pub no_more : IsOne spell Fits → (k n : ℕ) (bytes r : List ℕ) (xs : List X) → BeginsWithMany spell Fits k bytes r xs → k < n → BeginsWithNone spell Fits r → BeginsWithFewer spell Fits n bytes
  no_more one k n bytes r xs before less none s ys all = go_on one k n bytes r s xs ys before all less none

  -- ---- a counted list

  pub counted_read : (k : ℕ) (bytes r s : List ℕ) (xs : List X) → BeginsWithNumber 4 bytes r k → BeginsWithMany spell Fits k r s xs → BeginsWith (counted spell) (AllFit Fits) bytes s xs
  counted_read k bytes r s xs number list = record {
    fits = record { few = let fits = number.fits in let many = list.many in omega arith; fit = list.fit };
    bytes_are = number.bytes_are ∙ (λ i. big_endian 4 (sym list.many i) ++ list.bytes_are i) ∙ sym (counted_cut xs s);
  }

  -- after the number come so many
  pub counted_behind : (k : ℕ) (bytes r s : List ℕ) (xs : List X) → BeginsWithNumber 4 bytes r k → BeginsWith (counted spell) (AllFit Fits) bytes s xs → BeginsWithMany spell Fits k r s xs
  counted_behind k bytes r s xs number all =
      let same = number_one 4 k (length xs) r (flat_map spell xs ++ s) (let fits = number.fits in omega arith) all.fits.few (sym number.bytes_are ∙ all.bytes_are ∙ counted_cut xs s) in
      record { many = sym same.0; fit = all.fits.fit; bytes_are = same.1 }
