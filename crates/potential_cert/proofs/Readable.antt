-- Bytes without a place where they fail spell a table; so each list of numbers spells a table or spells none.
use Rattle.std.proofs.Common.{◌≡◌, ◌⊎◌, ℕ, zero, suc, ◌+◌, ◌*◌, ◌≤◌, ◌<◌, ltb, Bool, true, false, cond, List, [], ◌∷◌, ◌++◌, length, drop, take, slice_index, Option, None, Some, inl, inr, refl, sym, ap, ◌∙◌, subst, arith}
use Rattle.std.specs.Prelude.{codes, flat_map}
use Rattle.std.proofs.lemmas.Bool.{cases_lt}
use Rattle.std.proofs.lemmas.Bool.Decides.{nat_tests}
use Rattle.std.proofs.lemmas.List.{length-drop}
use Rattle.std.proofs.Math.Nat.{mul-le-mul_right}
use Rattle.byteorder.specs.Endian.{big_number}
use Rattle.byteorder.specs.Numbers.{big_from-lt}
use Rattle.comp_graph.specs.Vertices.{Vertices}
use Rattle.comp_graph.specs.Words.{set_of_words, words_of}
use Rattle.comp_graph.specs.Lists.{IsIn}
use Rattle.potential_cert.specs.declared.tables.Row.{Row}
use Rattle.potential_cert.specs.Readings.{AreBytes, BeginsWithNumber, BeginsWithWord, BeginsWithSet, BeginsWithRow, BeginsWithRows, BeginsWithNumbers}
use Rattle.potential_cert.specs.Shapes.{shape_place, is_second, number_at, ShapesAreSpelled, SpelledOrNot}
use Rattle.potential_cert.specs.Table.{TableParts}
use Rattle.potential_cert.specs.TableBytes.{big_endian, set_bytes, row_bytes, words_in, are_ones, version_of, weight_bytes, header_bytes, table_bytes, numbers_of, Numbers, RowFits, IsSpelling}
use Rattle.potential_cert.proofs.Codes.{AllSmall, spelled_number, number_bytes}
use Rattle.potential_cert.proofs.HeaderLaws.{numbers_stand}
use Rattle.potential_cert.proofs.Pieces.{after_cost, after_set, after_word, flat_front, length_rows, row_read, set_read}
use Rattle.potential_cert.proofs.ShapeLaws.{drop_each, fault_refutes, first_version, is_spelled, passes, second_version, Passes}

-- ---- what bytes begin with

pub after_drop : (k : ℕ) (xs : List ℕ) → AreBytes xs → AreBytes (drop k xs)
after_drop k xs bytes = record { small = drop_each k xs bytes.small }

pub front_number : (k : ℕ) (xs : List ℕ) → AreBytes xs → k ≤ length xs → BeginsWithNumber k xs (drop k xs) (big_number k xs)
front_number k xs bytes long = record {
  fits = let small = big_from-lt 0 k xs bytes.small in omega arith;
  bytes_are = spelled_number k xs bytes.small long;
}

-- the bytes begin with a word where it is wanted
record HasWord (wanted : Bool) (xs : List ℕ) : Type 0 where
  rest : List ℕ
  number : ℕ
  begins : BeginsWithWord wanted xs rest number
  bytes : AreBytes rest

front_word : (wanted : Bool) (xs : List ℕ) → AreBytes xs → (wanted ≡ true → 8 ≤ length xs) → HasWord wanted xs
front_word true xs bytes long =
    let number = front_number 8 xs bytes (long refl) in
    record {
      rest = drop 8 xs;
      number = big_number 8 xs;
      begins = record { unwanted = λ e. absurd (cc); fits = let fits = number.fits in omega arith; bytes_are = number.bytes_are };
      bytes = after_drop 8 xs bytes;
    }
front_word false xs bytes long = record {
  rest = xs;
  number = 0;
  begins = record { unwanted = λ e. refl; fits = omega arith; bytes_are = refl };
  bytes = bytes;
}

-- a word that is wanted is there
first_long : (w a : ℕ) → 8 * w ≤ a → ltb 0 w ≡ true → 8 ≤ a
first_long w a long wanted = grind (arith, nat_tests)

second_long : (w a b : ℕ) → 8 * w ≤ a → a ≡ cond (ltb 0 w) 8 0 + b → ltb 1 w ≡ true → 8 ≤ b
second_long w a b long first wanted = grind (arith, nat_tests)

third_long : (w a b c : ℕ) → 8 * w ≤ a → a ≡ cond (ltb 0 w) 8 0 + b → b ≡ cond (ltb 1 w) 8 0 + c → ltb 2 w ≡ true → 8 ≤ c
third_long w a b c long first second wanted = grind (arith, nat_tests)

fourth_long : (w a b c d : ℕ) → 8 * w ≤ a → a ≡ cond (ltb 0 w) 8 0 + b → b ≡ cond (ltb 1 w) 8 0 + c → c ≡ cond (ltb 2 w) 8 0 + d → ltb 3 w ≡ true → 8 ≤ d
fourth_long w a b c d long first second third wanted = grind (arith, nat_tests)

-- the bytes begin with the words of a set
pub record HasSet (words : ℕ) (xs : List ℕ) : Type 0 where
  pub rest : List ℕ
  pub members : Vertices
  pub begins : BeginsWithSet words xs rest members
  pub bytes : AreBytes rest

pub front_set : (w : ℕ) → w ≤ 4 → (xs : List ℕ) → AreBytes xs → 8 * w ≤ length xs → HasSet w xs
front_set w few xs bytes long =
    let a = front_word (ltb 0 w) xs bytes (first_long w (length xs) long) in
    let left_a = after_word (ltb 0 w) xs a.rest a.number a.begins in
    let b = front_word (ltb 1 w) a.rest a.bytes (second_long w (length xs) (length a.rest) long left_a) in
    let left_b = after_word (ltb 1 w) a.rest b.rest b.number b.begins in
    let c = front_word (ltb 2 w) b.rest b.bytes (third_long w (length xs) (length a.rest) (length b.rest) long left_a left_b) in
    let left_c = after_word (ltb 2 w) b.rest c.rest c.number c.begins in
    let d = front_word (ltb 3 w) c.rest c.bytes (fourth_long w (length xs) (length a.rest) (length b.rest) (length c.rest) long left_a left_b left_c) in
    record {
      rest = d.rest;
      members = set_of_words (a.number ∷ b.number ∷ c.number ∷ d.number ∷ []);
      begins = set_read w few xs a.rest b.rest c.rest d.rest a.number b.number c.number d.number a.begins.fits b.begins.fits c.begins.fits d.begins.fits a.begins b.begins c.begins d.begins;
      bytes = d.bytes;
    }

-- the bytes begin with a row
record HasRow (words : ℕ) (xs : List ℕ) : Type 0 where
  rest : List ℕ
  row : Row
  begins : BeginsWithRow words xs rest row
  bytes : AreBytes rest
  long : length xs ≡ 4 + 16 * words + length rest

front_row : (w : ℕ) → w ≤ 4 → (xs : List ℕ) → AreBytes xs → 4 + 16 * w ≤ length xs → HasRow w xs
front_row w few xs bytes long =
    let cost = front_number 4 xs bytes (omega arith) in
    let left_cost = after_cost xs (drop 4 xs) (big_number 4 xs) cost in
    let red = front_set w few (drop 4 xs) (after_drop 4 xs bytes) (omega arith) in
    let left_red = after_set w few (drop 4 xs) red.rest red.members red.begins in
    let blue = front_set w few red.rest red.bytes (omega arith) in
    let left_blue = after_set w few red.rest blue.rest blue.members blue.begins in
    record {
      rest = blue.rest;
      row = record { position = record { red = red.members; blue = blue.members }; cost = big_number 4 xs };
      begins = row_read w xs (drop 4 xs) red.rest blue.rest (record { position = record { red = red.members; blue = blue.members }; cost = big_number 4 xs }) cost red.begins blue.begins;
      bytes = blue.bytes;
      long = omega arith;
    }

-- the bytes are rows
record HasRows (words count : ℕ) (xs : List ℕ) : Type 0 where
  rows : List Row
  begins : BeginsWithRows words count xs [] rows

fits_each : (w : ℕ) (row : Row) (rows : List Row) → RowFits w row → ((r : Row) → IsIn r rows → RowFits w r) → (r : Row) → IsIn r (row ∷ rows) → RowFits w r
fits_each w row rows first rest r (inl e) = subst (RowFits w) (sym e) first
fits_each w row rows first rest r (inr i) = rest r i

no_bytes : (xs : List ℕ) → length xs ≡ 0 → xs ≡ []
no_bytes [] e = refl
no_bytes (x ∷ xs) e = absurd (omega arith)

more_rows : (count size whole : ℕ) → whole ≡ suc count * size → size ≤ whole
more_rows count size whole e = grind arith

rows_left : (count size whole rest : ℕ) → whole ≡ suc count * size → whole ≡ size + rest → rest ≡ count * size
rows_left count size whole rest e split = grind arith

all_rows : (w count : ℕ) → w ≤ 4 → (xs : List ℕ) → AreBytes xs → length xs ≡ count * (4 + 16 * w) → HasRows w count xs
all_rows w zero few xs bytes long = record { rows = []; begins = record { many = refl; fit = λ r i. absurd i; bytes_are = no_bytes xs (omega arith) } }
all_rows w (suc count) few xs bytes long =
    let first = front_row w few xs bytes (more_rows count (4 + 16 * w) (length xs) long) in
    let rest = all_rows w count few first.rest first.bytes (rows_left count (4 + 16 * w) (length xs) (length first.rest) long first.long) in
    record {
      rows = first.row ∷ rest.rows;
      begins = record {
        many = let many = rest.begins.many in omega arith;
        fit = fits_each w first.row rest.rows first.begins.fits rest.begins.fit;
        bytes_are = first.begins.bytes_are ∙ ap (λ ys. row_bytes w first.row ++ ys) rest.begins.bytes_are ∙ sym (flat_front (row_bytes w) first.row rest.rows []);
      };
    }

-- ---- tables

-- numbers and the bytes behind them, as many as they call for, are a table
with_rows : (bytes : List ℕ) (k : ℕ) (h : Numbers) → AreBytes bytes → BeginsWithNumbers bytes (drop k bytes) h → length (drop k bytes) ≡ h.rows * (4 + 16 * words_in h.vertices)
    → (t : TableParts) × IsSpelling bytes t
with_rows bytes k h are begins long =
    let few : words_in h.vertices ≤ 4 = let most = begins.fit.vertices in omega arith in
    let rows = all_rows (words_in h.vertices) h.rows few (drop k bytes) (after_drop k bytes are) long in
    let t : TableParts = record { slots = h.slots; vertices = h.vertices; load = h.load; store = h.store; bound = h.bound; rows = rows.rows } in
    let same : h ≡ numbers_of t = λ i. record { vertices = h.vertices; slots = h.slots; load = h.load; store = h.store; bound = h.bound; rows = sym rows.begins.many i } in
    (t, is_spelled bytes (drop k bytes) t h same begins rows.begins)

by_version : (bytes : List ℕ) (second : Bool) → AreBytes bytes → Passes bytes → is_second bytes ≡ second → (t : TableParts) × IsSpelling bytes t
by_version bytes true are pass second =
    let long = pass.numbers.weights second in
    let whole = pass.whole ∙ ap (λ b. cond {A = ℕ} b 20 18 + number_at (cond b 16 14) 4 bytes * (4 + 16 * words_in (number_at 6 2 bytes))) second in
    let behind = length-drop 20 bytes in
    with_rows bytes 20 _ are (second_version bytes are pass second) (omega arith)
by_version bytes false are pass first =
    let long = pass.numbers.long in
    let whole = pass.whole ∙ ap (λ b. cond {A = ℕ} b 20 18 + number_at (cond b 16 14) 4 bytes * (4 + 16 * words_in (number_at 6 2 bytes))) first in
    let behind = length-drop 18 bytes in
    with_rows bytes 18 _ are (first_version bytes are pass first) (omega arith)

pub shapes_are_spelled : ShapesAreSpelled
shapes_are_spelled bytes are shape = by_version bytes (is_second bytes) are (passes bytes shape) refl

-- ---- the bytes of a table are bytes

pub append_small : (xs ys : List ℕ) → AllSmall xs → AllSmall ys → AllSmall (xs ++ ys)
append_small [] ys p q i = q i
append_small (x ∷ xs) ys p q zero = p zero
append_small (x ∷ xs) ys p q (suc i) = append_small xs ys (λ k. p (suc k)) q i

pub flat_small : {X : Type 0} → (f : X → List ℕ) → ((x : X) → AllSmall (f x)) → (xs : List X) → AllSmall (flat_map f xs)
flat_small f each [] i = omega arith
flat_small f each (x ∷ xs) i = append_small (f x) (flat_map f xs) (each x) (flat_small f each xs) i

mark_small : AllSmall (codes "RBPT")
mark_small zero = omega arith
mark_small (suc zero) = omega arith
mark_small (suc (suc zero)) = omega arith
mark_small (suc (suc (suc zero))) = omega arith
mark_small (suc (suc (suc (suc i)))) = omega arith

weights_small : (ones : Bool) (load store : ℕ) → AllSmall (cond ones [] (big_endian 1 load ++ big_endian 1 store))
weights_small true load store i = omega arith
weights_small false load store i = append_small (big_endian 1 load) (big_endian 1 store) (number_bytes 1 load) (number_bytes 1 store) i

set_small : (w : ℕ) (s : Vertices) → AllSmall (set_bytes w s)
set_small w s = flat_small (big_endian 8) (number_bytes 8) (take w (words_of s))

pub row_small : (w : ℕ) (r : Row) → AllSmall (row_bytes w r)
row_small w r =
    append_small (big_endian 4 r.cost) (set_bytes w r.position.red ++ set_bytes w r.position.blue) (number_bytes 4 r.cost)
    (append_small (set_bytes w r.position.red) (set_bytes w r.position.blue) (set_small w r.position.red) (set_small w r.position.blue))

header_small : (h : Numbers) → AllSmall (header_bytes h)
header_small h =
    let version = big_endian 2 (version_of h.load h.store) in
    let vertices = big_endian 2 h.vertices in
    let slots = big_endian 2 h.slots in
    let weights = weight_bytes h.load h.store in
    let bound = big_endian 4 h.bound in
    let rows = big_endian 4 h.rows in
    append_small (codes "RBPT") (version ++ (vertices ++ (slots ++ (weights ++ (bound ++ rows))))) mark_small
    (append_small version (vertices ++ (slots ++ (weights ++ (bound ++ rows)))) (number_bytes 2 (version_of h.load h.store))
    (append_small vertices (slots ++ (weights ++ (bound ++ rows))) (number_bytes 2 h.vertices)
    (append_small slots (weights ++ (bound ++ rows)) (number_bytes 2 h.slots)
    (append_small weights (bound ++ rows) (weights_small (are_ones h.load h.store) h.load h.store)
    (append_small bound rows (number_bytes 4 h.bound) (number_bytes 4 h.rows))))))

table_small : (t : TableParts) → AllSmall (table_bytes t)
table_small t =
    append_small (header_bytes (numbers_of t)) (flat_map (row_bytes (words_in t.vertices)) t.rows) (header_small (numbers_of t)) (flat_small (row_bytes (words_in t.vertices)) (row_small (words_in t.vertices)) t.rows)

-- ---- spelled or not

-- the numbers are bytes, or one of them is none
pub small_or_not : (xs : List ℕ) → AllSmall xs ⊎ ((i : ℕ) × (256 ≤ slice_index xs i))
small_or_not [] = inl (λ i. omega arith)
small_or_not (x ∷ xs) = elim (cases_lt x 256) [
  | inl small ↦ elim (small_or_not xs) [ inl all ↦ inl (each small all) | inr large ↦ inr (suc large.0, large.1) ]
  | inr large ↦ inr (zero, omega (arith, large))
]
  where
    each : x < 256 → AllSmall xs → AllSmall (x ∷ xs)
    each small all zero = small
    each small all (suc i) = all i

by_place : (bytes : List ℕ) (found : Option ℕ) → AreBytes bytes → shape_place bytes ≡ found → ((t : TableParts) × IsSpelling bytes t) ⊎ ((t : TableParts) → IsSpelling bytes t → ⊥)
by_place bytes None are e = inl (shapes_are_spelled bytes are e)
by_place bytes (Some at) are e = inr (fault_refutes bytes at e)

pub spelled_or_not : SpelledOrNot
spelled_or_not bytes = elim (small_or_not bytes) [
  | inl small ↦ by_place bytes (shape_place bytes) (record { small = small }) refl
  | inr large ↦ inr (λ t is. let small = subst AllSmall (sym is.bytes_are) (table_small t) large.0 in omega (arith, small, large.1))
]

-- ---- how long a table is

few_weights : (ones : Bool) → cond {A = ℕ} ones 0 2 ≤ 2
few_weights true = omega arith
few_weights false = omega arith

pub length_table : (bytes : List ℕ) (t : TableParts) → IsSpelling bytes t → length bytes ≤ 20 + 68 * length t.rows
length_table bytes t is =
    let words = words_in t.vertices in
    let rest = flat_map (row_bytes words) t.rows in
    let few : words ≤ 4 = let most = is.fits.numbers.vertices in omega arith in
    let long = (numbers_stand bytes rest (numbers_of t) (record { fit = is.fits.numbers; bytes_are = is.bytes_are })).at.long in
    let weights = few_weights (are_ones t.load t.store) in
    let rows = length_rows words few t.rows in
    let most = mul-le-mul_right {m = 4 + 16 * words} {n = 68} (length t.rows) (omega arith) in
    omega arith
