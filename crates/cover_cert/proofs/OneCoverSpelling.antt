-- A covered table has one spelling, and no spelling begins another.
use Rattle.std.proofs.Common.{◌≡◌, ℕ, ◌≤◌, List, [], ◌∷◌, ◌++◌, length, refl, sym, ap, ◌∙◌, subst, inl, inr, arith, append_assoc}
use Rattle.std.specs.Prelude.{flat_map}
use Rattle.comp_graph.specs.Lists.{IsIn}
use Rattle.potential_cert.specs.TableBytes.{big_endian, words_in}
use Rattle.potential_cert.proofs.Codes.{number_one}
use Rattle.potential_cert.proofs.OneSpelling.{row_one}
use Rattle.cover_cert.specs.declared.tables.Cover.{Cover}
use Rattle.cover_cert.specs.CoverTable.{CoverRowParts, plain}
use Rattle.cover_cert.specs.CoverBytes.{name_bytes, cover_row_bytes, cover_numbers, cover_header, cover_bytes, NameFits, CoverRowFits, CoverSpellingIsOne}
use Rattle.cover_cert.proofs.CoverParts.{numbers_one}
use Rattle.cover_cert.proofs.CoverPieces.{row_cut}

-- ---- names

name_one : (x y : Cover) (r s : List ℕ) → NameFits x → NameFits y → name_bytes x ++ r ≡ name_bytes y ++ s → (x ≡ y) × (r ≡ s)
name_one x y r s a b e =
    let steps = number_one 2 x.step y.step (big_endian 4 x.row ++ r) (big_endian 4 y.row ++ s) a.step b.step
    (sym (append_assoc (big_endian 2 x.step) (big_endian 4 x.row) r) ∙ e ∙ append_assoc (big_endian 2 y.step) (big_endian 4 y.row) s) in
    let rows = number_one 4 x.row y.row r s a.row b.row steps.1 in
    ((λ i. record { step = steps.0 i; row = rows.0 i }), rows.1)

names_one : (xs ys : List Cover) (r s : List ℕ) → length xs ≡ length ys → ((n : Cover) → IsIn n xs → NameFits n) → ((n : Cover) → IsIn n ys → NameFits n)
    → flat_map name_bytes xs ++ r ≡ flat_map name_bytes ys ++ s → (xs ≡ ys) × (r ≡ s)
names_one [] [] r s l p q e = (refl, e)
names_one [] (y ∷ ys) r s l p q e = absurd (omega arith)
names_one (x ∷ xs) [] r s l p q e = absurd (omega arith)
names_one (x ∷ xs) (y ∷ ys) r s l p q e =
    let first = name_one x y (flat_map name_bytes xs ++ r) (flat_map name_bytes ys ++ s) (p x (inl refl)) (q y (inl refl))
    (sym (append_assoc (name_bytes x) (flat_map name_bytes xs) r) ∙ e ∙ append_assoc (name_bytes y) (flat_map name_bytes ys) s) in
    let rest = names_one xs ys r s (omega arith) (λ n i. p n (inr i)) (λ n i. q n (inr i)) first.1 in
    (ap (λ x. x ∷ xs) first.0 ∙ ap (λ xs. y ∷ xs) rest.0, rest.1)

-- ---- rows

cover_row_one : (w : ℕ) → w ≤ 4 → (x y : CoverRowParts) (r s : List ℕ) → CoverRowFits w x → CoverRowFits w y → cover_row_bytes w x ++ r ≡ cover_row_bytes w y ++ s → (x ≡ y) × (r ≡ s)
cover_row_one w few x y r s a b e =
    let fronts = row_one w few (plain x) (plain y) _ _ a.plain_fits b.plain_fits (sym (row_cut w x r) ∙ e ∙ row_cut w y s) in
    let counts = number_one 2 (length x.names) (length y.names) _ _ a.few b.few fronts.1 in
    let names = names_one x.names y.names r s counts.0 a.names b.names counts.1 in
    ((λ i. record { position = (fronts.0 i).position; cost = (fronts.0 i).cost; names = names.0 i }), names.1)

rows_one : (w : ℕ) → w ≤ 4 → (xs ys : List CoverRowParts) (r s : List ℕ) → length xs ≡ length ys → ((x : CoverRowParts) → IsIn x xs → CoverRowFits w x) → ((y : CoverRowParts) → IsIn y ys → CoverRowFits w y)
    → flat_map (cover_row_bytes w) xs ++ r ≡ flat_map (cover_row_bytes w) ys ++ s → (xs ≡ ys) × (r ≡ s)
rows_one w few [] [] r s l p q e = (refl, e)
rows_one w few [] (y ∷ ys) r s l p q e = absurd (omega arith)
rows_one w few (x ∷ xs) [] r s l p q e = absurd (omega arith)
rows_one w few (x ∷ xs) (y ∷ ys) r s l p q e =
    let first = cover_row_one w few x y (flat_map (cover_row_bytes w) xs ++ r) (flat_map (cover_row_bytes w) ys ++ s) (p x (inl refl)) (q y (inl refl))
    (sym (append_assoc (cover_row_bytes w x) (flat_map (cover_row_bytes w) xs) r) ∙ e ∙ append_assoc (cover_row_bytes w y) (flat_map (cover_row_bytes w) ys) s) in
    let rest = rows_one w few xs ys r s (omega arith) (λ x i. p x (inr i)) (λ y i. q y (inr i)) first.1 in
    (ap (λ x. x ∷ xs) first.0 ∙ ap (λ xs. y ∷ xs) rest.0, rest.1)

-- ---- tables

pub cover_spelling_is_one : CoverSpellingIsOne
cover_spelling_is_one t u r s a b e =
    let one = numbers_one (cover_bytes t ++ r) (flat_map (cover_row_bytes (words_in t.vertices)) t.rows ++ r) (flat_map (cover_row_bytes (words_in u.vertices)) u.rows ++ s) (cover_numbers t) (cover_numbers u)
    (record { fit = a.numbers; bytes_are = append_assoc (cover_header (cover_numbers t)) (flat_map (cover_row_bytes (words_in t.vertices)) t.rows) r })
    (record { fit = b.numbers; bytes_are = e ∙ append_assoc (cover_header (cover_numbers u)) (flat_map (cover_row_bytes (words_in u.vertices)) u.rows) s }) in
    let few : words_in t.vertices ≤ 4 = let most = a.numbers.vertices in omega arith in
    let rows = rows_one (words_in t.vertices) few t.rows u.rows r s one.rows a.rows
    (subst (λ n. (x : CoverRowParts) → IsIn x u.rows → CoverRowFits (words_in n) x) (sym one.vertices) b.rows)
    (one.left ∙ ap (λ n. flat_map (cover_row_bytes (words_in n)) u.rows ++ s) (sym one.vertices)) in
    ((λ i. record { slots = one.slots i; vertices = one.vertices i; load = one.load i; store = one.store i; bound = one.bound i; rows = rows.0 i }), rows.1)
