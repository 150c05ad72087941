-- The numbers of a covered table in its bytes, and the whole.
use Rattle.std.proofs.Common.{◌≡◌, ℕ, ◌≤◌, List, [], ◌∷◌, ◌++◌, length, refl, sym, ap, ◌∙◌, subst, inl, inr, arith, append_assoc}
use Rattle.std.specs.Prelude.{flat_map}
use Rattle.comp_graph.specs.Lists.{IsIn}
use Rattle.potential_cert.specs.TableBytes.{big_endian, words_in, Numbers, NumbersFit}
use Rattle.potential_cert.specs.Readings.{BeginsWithNumber}
use Rattle.potential_cert.proofs.Codes.{number_one}
use Rattle.cover_cert.specs.CoverTable.{CoverRowParts, CoverTableParts}
use Rattle.cover_cert.specs.CoverBytes.{cover_row_bytes, cover_numbers, cover_header, CoverRowFits, IsCoverSpelling}
use Rattle.cover_cert.specs.CoverReadings.{BeginsWithRows, BeginsWithNumbers, BeginsWithNone}
use Rattle.cover_cert.proofs.CoverPieces.{rest_one}

-- what the first numbers are, where the bytes begin with the numbers of a table
pub record AreFirst (x : Numbers) (rest : List ℕ) (n s a b : ℕ) (r6 : List ℕ) : Type 0 where
  pub vertices : n ≡ x.vertices
  pub slots : s ≡ x.slots
  pub load : a ≡ x.load
  pub store : b ≡ x.store
  pub left : r6 ≡ big_endian 4 x.bound ++ (big_endian 4 x.rows ++ rest)

pub first_numbers : (bytes r1 r2 r3 r4 r5 r6 : List ℕ) (m v n s a b : ℕ) → BeginsWithNumber 4 bytes r1 m → BeginsWithNumber 2 r1 r2 v → BeginsWithNumber 2 r2 r3 n → BeginsWithNumber 2 r3 r4 s
    → BeginsWithNumber 1 r4 r5 a → BeginsWithNumber 1 r5 r6 b → (rest : List ℕ) (x : Numbers) → BeginsWithNumbers bytes rest x → AreFirst x rest n s a b r6
first_numbers bytes r1 r2 r3 r4 r5 r6 m v n s a b is_m is_v is_n is_s is_a is_b rest x begins =
    let fit = begins.fit in
    let t6 : List ℕ = big_endian 4 x.bound ++ (big_endian 4 x.rows ++ rest) in
    let e1 = number_one 4 m 1380077635 r1 (big_endian 2 1 ++ (big_endian 2 x.vertices ++ (big_endian 2 x.slots ++ (big_endian 1 x.load ++ (big_endian 1 x.store ++ t6))))) is_m.fits (omega arith) (sym is_m.bytes_are ∙ begins.bytes_are) in
    let e2 = number_one 2 v 1 r2 (big_endian 2 x.vertices ++ (big_endian 2 x.slots ++ (big_endian 1 x.load ++ (big_endian 1 x.store ++ t6)))) is_v.fits (omega arith) (sym is_v.bytes_are ∙ e1.1) in
    let e3 = number_one 2 n x.vertices r3 (big_endian 2 x.slots ++ (big_endian 1 x.load ++ (big_endian 1 x.store ++ t6))) is_n.fits (let few = fit.vertices in omega arith) (sym is_n.bytes_are ∙ e2.1) in
    let e4 = number_one 2 s x.slots r4 (big_endian 1 x.load ++ (big_endian 1 x.store ++ t6)) is_s.fits (let few = fit.slots in omega arith) (sym is_s.bytes_are ∙ e3.1) in
    let e5 = number_one 1 a x.load r5 (big_endian 1 x.store ++ t6) is_a.fits (let few = fit.load in omega arith) (sym is_a.bytes_are ∙ e4.1) in
    let e6 = number_one 1 b x.store r6 t6 is_b.fits (let few = fit.store in omega arith) (sym is_b.bytes_are ∙ e5.1) in
    record { vertices = e3.0; slots = e4.0; load = e5.0; store = e6.0; left = e6.1 }

-- the numbers of a table as if they were read
pub record AreOne (h k : Numbers) (r s : List ℕ) : Type 0 where
  pub vertices : h.vertices ≡ k.vertices
  pub slots : h.slots ≡ k.slots
  pub load : h.load ≡ k.load
  pub store : h.store ≡ k.store
  pub bound : h.bound ≡ k.bound
  pub rows : h.rows ≡ k.rows
  pub left : r ≡ s

pub numbers_one : (bytes r s : List ℕ) (h k : Numbers) → BeginsWithNumbers bytes r h → BeginsWithNumbers bytes s k → AreOne h k r s
numbers_one bytes r s h k a b =
    let fit = a.fit in
    let t6 : List ℕ = big_endian 4 h.bound ++ (big_endian 4 h.rows ++ r) in
    let first = first_numbers bytes _ _ _ _ _ t6 1380077635 1 h.vertices h.slots h.load h.store
    (record { fits = omega arith; bytes_are = a.bytes_are }) (record { fits = omega arith; bytes_are = refl }) (record { fits = let few = fit.vertices in omega arith; bytes_are = refl })
    (record { fits = let few = fit.slots in omega arith; bytes_are = refl }) (record { fits = let few = fit.load in omega arith; bytes_are = refl }) (record { fits = let few = fit.store in omega arith; bytes_are = refl }) s k b in
    let bounds = number_one 4 h.bound k.bound (big_endian 4 h.rows ++ r) (big_endian 4 k.rows ++ s) (let few = fit.bound in omega arith) (let few = b.fit.bound in omega arith) first.left in
    let rows = number_one 4 h.rows k.rows r s (let few = fit.rows in omega arith) (let few = b.fit.rows in omega arith) bounds.1 in
    record { vertices = first.vertices; slots = first.slots; load = first.load; store = first.store; bound = bounds.0; rows = rows.0; left = rows.1 }

-- as many rows have one rest
pub rows_rest_one : (w : ℕ) → w ≤ 4 → (bytes r s : List ℕ) (xs ys : List CoverRowParts) → length xs ≡ length ys → ((x : CoverRowParts) → IsIn x xs → CoverRowFits w x) → ((y : CoverRowParts) → IsIn y ys → CoverRowFits w y)
    → bytes ≡ flat_map (cover_row_bytes w) xs ++ r → bytes ≡ flat_map (cover_row_bytes w) ys ++ s → r ≡ s
rows_rest_one w l bytes r s [] [] many p q a b = sym a ∙ b
rows_rest_one w l bytes r s [] (y ∷ ys) many p q a b = absurd (omega arith)
rows_rest_one w l bytes r s (x ∷ xs) [] many p q a b = absurd (omega arith)
rows_rest_one w l bytes r s (x ∷ xs) (y ∷ ys) many p q a b =
    let same = rest_one w l bytes (flat_map (cover_row_bytes w) xs ++ r) (flat_map (cover_row_bytes w) ys ++ s) x y
    (record { fits = p x (inl refl); bytes_are = a ∙ append_assoc (cover_row_bytes w x) (flat_map (cover_row_bytes w) xs) r })
    (record { fits = q y (inl refl); bytes_are = b ∙ append_assoc (cover_row_bytes w y) (flat_map (cover_row_bytes w) ys) s }) in
    rows_rest_one w l (flat_map (cover_row_bytes w) xs ++ r) r s xs ys (omega arith) (λ x i. p x (inr i)) (λ y i. q y (inr i)) refl same

-- ---- a spelling

pub spelling_numbers : (bytes : List ℕ) (t : CoverTableParts) → IsCoverSpelling bytes t → BeginsWithNumbers bytes (flat_map (cover_row_bytes (words_in t.vertices)) t.rows) (cover_numbers t)
spelling_numbers bytes t is = record { fit = is.fits.numbers; bytes_are = is.bytes_are }

append_nothing : {X : Type 0} → (xs : List X) → xs ++ [] ≡ xs
append_nothing [] = refl
append_nothing (x ∷ xs) = ap (λ xs. x ∷ xs) (append_nothing xs)

-- behind the numbers that were read stand the rows
pub spelling_rows : (bytes r : List ℕ) (h : Numbers) (t : CoverTableParts) → BeginsWithNumbers bytes r h → IsCoverSpelling bytes t → BeginsWithRows (words_in h.vertices) h.rows r [] t.rows
spelling_rows bytes r h t begins is =
    let one = numbers_one bytes r (flat_map (cover_row_bytes (words_in t.vertices)) t.rows) h (cover_numbers t) begins (spelling_numbers bytes t is) in
    record {
      many = sym one.rows;
      fit = subst (λ n. (x : CoverRowParts) → IsIn x t.rows → CoverRowFits (words_in n) x) (sym one.vertices) is.fits.rows;
      bytes_are = one.left ∙ ap (λ n. flat_map (cover_row_bytes (words_in n)) t.rows) (sym one.vertices) ∙ sym (append_nothing (flat_map (cover_row_bytes (words_in h.vertices)) t.rows));
    }

few_words : (n : ℕ) → n ≤ 256 → words_in n ≤ 4
few_words n l = omega arith

pub no_header : (bytes : List ℕ) → BeginsWithNone BeginsWithNumbers bytes → (t : CoverTableParts) → IsCoverSpelling bytes t → ⊥
no_header bytes none t is = none (flat_map (cover_row_bytes (words_in t.vertices)) t.rows) (cover_numbers t) (spelling_numbers bytes t is)

pub no_rows : (bytes r : List ℕ) (h : Numbers) → BeginsWithNumbers bytes r h → BeginsWithNone (BeginsWithRows (words_in h.vertices) h.rows) r → (t : CoverTableParts) → IsCoverSpelling bytes t → ⊥
no_rows bytes r h begins none t is = none [] t.rows (spelling_rows bytes r h t begins is)

pub not_all : (bytes r s : List ℕ) (h : Numbers) (rows : List CoverRowParts) → BeginsWithNumbers bytes r h → BeginsWithRows (words_in h.vertices) h.rows r s rows → (s ≡ [] → ⊥) → (t : CoverTableParts) → IsCoverSpelling bytes t → ⊥
not_all bytes r s h rows begins read more t is =
    let spelled = spelling_rows bytes r h t begins is in
    more (rows_rest_one (words_in h.vertices) (few_words h.vertices begins.fit.vertices) r s [] rows t.rows (read.many ∙ sym spelled.many) read.fit spelled.fit read.bytes_are spelled.bytes_are)

-- what was read is spelled
pub is_spelled : (bytes r : List ℕ) (t : CoverTableParts) (h : Numbers) → h ≡ cover_numbers t → BeginsWithNumbers bytes r h → BeginsWithRows (words_in t.vertices) h.rows r [] t.rows → IsCoverSpelling bytes t
is_spelled bytes r t h same begins rows = record {
  fits = record { numbers = subst NumbersFit same begins.fit; rows = rows.fit };
  bytes_are =
      begins.bytes_are ∙ ap (λ h. cover_header h ++ r) same
      ∙ ap (λ x. cover_header (cover_numbers t) ++ x) (rows.bytes_are ∙ append_nothing (flat_map (cover_row_bytes (words_in t.vertices)) t.rows));
}
