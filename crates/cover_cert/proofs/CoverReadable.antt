-- Each list of numbers spells a covered table or spells none.
use Rattle.std.proofs.Common.{◌≡◌, ◌⊎◌, ℕ, zero, suc, ◌+◌, ◌*◌, ◌≤◌, ◌<◌, List, [], ◌∷◌, ◌++◌, length, drop, inl, inr, refl, sym, ap, ◌∙◌, subst, arith, append_assoc}
use Rattle.std.specs.Prelude.{codes, flat_map}
use Rattle.std.proofs.lemmas.Bool.{cases_eq, cases_lt}
use Rattle.std.proofs.lemmas.List.{length-append, length-drop}
use Rattle.byteorder.specs.Endian.{big_number}
use Rattle.byteorder.specs.Numbers.{length-bytes_high_first}
use Rattle.potential_cert.specs.Readings.{AreBytes, BeginsWithNumber}
use Rattle.potential_cert.specs.TableBytes.{big_endian, row_bytes, words_in, Numbers}
use Rattle.potential_cert.proofs.Codes.{AllSmall, number_bytes, number_one}
use Rattle.potential_cert.proofs.Pieces.{after_cost, after_set, flat_front}
use Rattle.potential_cert.proofs.Readable.{after_drop, append_small, flat_small, front_number, front_set, row_small, small_or_not}
use Rattle.cert_checker.proofs.Decided.{Decided, at_most, both}
use Rattle.cover_cert.specs.declared.tables.Cover.{Cover}
use Rattle.cover_cert.specs.CoverBytes.{CoverRowFits, CoverSpelledOrNot, IsCoverSpelling, NameFits, cover_bytes, cover_header, cover_numbers, cover_row_bytes, name_bytes, names_bytes}
use Rattle.cover_cert.specs.CoverReadings.{BeginsWithNames, BeginsWithNone, BeginsWithNumbers, BeginsWithRow, BeginsWithRows}
use Rattle.cover_cert.specs.CoverTable.{CoverRowParts, CoverTableParts, plain}
use Rattle.cover_cert.proofs.CoverParts.{first_numbers, is_spelled, no_header, no_rows, not_all}
use Rattle.cover_cert.proofs.CoverPieces.{rest_one, row_read, short_names, short_row}

-- ---- names

-- the bytes begin with so many names
record HasNames (count : ℕ) (xs : List ℕ) : Type 0 where
  rest : List ℕ
  names : List Cover
  begins : BeginsWithNames count xs rest names
  bytes : AreBytes rest

front_names : (count : ℕ) (xs : List ℕ) → AreBytes xs → 6 * count ≤ length xs → HasNames count xs
front_names zero xs bytes long = record { rest = xs; names = []; begins = record { many = refl; fit = λ n i. absurd i; bytes_are = refl }; bytes = bytes }
front_names (suc count) xs bytes long =
    let left_step = length-drop 2 xs in
    let left_row = length-drop 4 (drop 2 xs) in
    let step = front_number 2 xs bytes (omega arith) in
    let row = front_number 4 (drop 2 xs) (after_drop 2 xs bytes) (omega arith) in
    let others = front_names count (drop 4 (drop 2 xs)) (after_drop 4 (drop 2 xs) (after_drop 2 xs bytes)) (omega arith) in
    one_more (record { step = big_number 2 xs; row = big_number 4 (drop 2 xs) }) step row others
  where
    one_more : (n : Cover) → BeginsWithNumber 2 xs (drop 2 xs) n.step → BeginsWithNumber 4 (drop 2 xs) (drop 4 (drop 2 xs)) n.row → HasNames count (drop 4 (drop 2 xs)) → HasNames (suc count) xs
    one_more n step row others = record {
      rest = others.rest;
      names = n ∷ others.names;
      begins = record {
        many = let many = others.begins.many in omega arith;
        fit = λ m i. elim i [ inl e ↦ subst NameFits (sym e) (record { step = step.fits; row = row.fits }) | inr j ↦ others.begins.fit m j ];
        bytes_are =
            step.bytes_are ∙ ap (λ x. big_endian 2 n.step ++ x) (row.bytes_are ∙ ap (λ x. big_endian 4 n.row ++ x) others.begins.bytes_are)
            ∙ sym (append_assoc (big_endian 2 n.step) (big_endian 4 n.row) (flat_map name_bytes others.names ++ others.rest))
            ∙ sym (flat_front name_bytes n others.names others.rest);
      };
      bytes = others.bytes;
    }

-- ---- rows

-- the bytes begin with a row
record HasCoverRow (words : ℕ) (xs : List ℕ) : Type 0 where
  rest : List ℕ
  row : CoverRowParts
  begins : BeginsWithRow words xs rest row
  bytes : AreBytes rest

long_row : (w : ℕ) → w ≤ 4 → (xs : List ℕ) → AreBytes xs → 4 + 16 * w + 2 ≤ length xs → HasCoverRow w xs ⊎ BeginsWithNone (BeginsWithRow w) xs
long_row w few xs bytes long =
    let cost = front_number 4 xs bytes (omega arith) in
    let left_cost = after_cost xs (drop 4 xs) (big_number 4 xs) cost in
    let red = front_set w few (drop 4 xs) (after_drop 4 xs bytes) (omega arith) in
    let left_red = after_set w few (drop 4 xs) red.rest red.members red.begins in
    let blue = front_set w few red.rest red.bytes (omega arith) in
    let left_blue = after_set w few red.rest blue.rest blue.members blue.begins in
    let behind = blue.rest in
    let count = front_number 2 behind blue.bytes (omega arith) in
    elim (cases_lt (length (drop 2 behind)) (6 * big_number 2 behind)) [
      | inl short ↦ inr (short_names w few xs (drop 4 xs) red.rest behind (drop 2 behind) (big_number 4 xs) red.members blue.members (big_number 2 behind) cost red.begins blue.begins count short)
      | inr more ↦
          let names = front_names (big_number 2 behind) (drop 2 behind) (after_drop 2 behind blue.bytes) (omega (arith, more)) in
          let row : CoverRowParts = record { position = record { red = red.members; blue = blue.members }; cost = big_number 4 xs; names = names.names } in
          inl (record {
            rest = names.rest;
            row = row;
            begins = row_read w xs (drop 4 xs) red.rest behind (drop 2 behind) names.rest row cost red.begins blue.begins
                (subst (BeginsWithNumber 2 behind (drop 2 behind)) (sym names.begins.many) count)
                (subst (λ n. BeginsWithNames n (drop 2 behind) names.rest names.names) (sym names.begins.many) names.begins);
            bytes = names.bytes;
          })
    ]

row_or_none : (w : ℕ) → w ≤ 4 → (xs : List ℕ) → AreBytes xs → HasCoverRow w xs ⊎ BeginsWithNone (BeginsWithRow w) xs
row_or_none w few xs bytes = elim (cases_lt (length xs) (4 + 16 * w + 2)) [
  | inl short ↦ inr (short_row w few xs short)
  | inr long ↦ long_row w few xs bytes (omega (arith, long))
]

-- the bytes begin with so many rows
record HasCoverRows (words count : ℕ) (xs : List ℕ) : Type 0 where
  rest : List ℕ
  rows : List CoverRowParts
  begins : BeginsWithRows words count xs rest rows

-- where they begin with no row, they begin with no rows
no_first : (w count : ℕ) (xs : List ℕ) → BeginsWithNone (BeginsWithRow w) xs → (s : List ℕ) (ys : List CoverRowParts) → BeginsWithRows w (suc count) xs s ys → ⊥
no_first w count xs none s [] begins = let many = begins.many in omega arith
no_first w count xs none s (y ∷ ys) begins =
    none (flat_map (cover_row_bytes w) ys ++ s) y
    (record { fits = begins.fit y (inl refl); bytes_are = begins.bytes_are ∙ append_assoc (cover_row_bytes w y) (flat_map (cover_row_bytes w) ys) s })

-- nor where what is left behind a row begins with none
no_others : (w : ℕ) → w ≤ 4 → (count : ℕ) (xs : List ℕ) (first : HasCoverRow w xs) → BeginsWithNone (BeginsWithRows w count) first.rest
    → (s : List ℕ) (ys : List CoverRowParts) → BeginsWithRows w (suc count) xs s ys → ⊥
no_others w few count xs first none s [] begins = let many = begins.many in omega arith
no_others w few count xs first none s (y ∷ ys) begins =
    let same = rest_one w few xs first.rest (flat_map (cover_row_bytes w) ys ++ s) first.row y first.begins
    (record { fits = begins.fit y (inl refl); bytes_are = begins.bytes_are ∙ append_assoc (cover_row_bytes w y) (flat_map (cover_row_bytes w) ys) s }) in
    none s ys (record { many = let many = begins.many in omega arith; fit = λ r i. begins.fit r (inr i); bytes_are = same })

rows_together : (w count : ℕ) (xs : List ℕ) (first : HasCoverRow w xs) → HasCoverRows w count first.rest → HasCoverRows w (suc count) xs
rows_together w count xs first others = record {
  rest = others.rest;
  rows = first.row ∷ others.rows;
  begins = record {
    many = let many = others.begins.many in omega arith;
    fit = λ r i. elim i [ inl e ↦ subst (CoverRowFits w) (sym e) first.begins.fits | inr j ↦ others.begins.fit r j ];
    bytes_are = first.begins.bytes_are ∙ ap (λ ys. cover_row_bytes w first.row ++ ys) others.begins.bytes_are ∙ sym (flat_front (cover_row_bytes w) first.row others.rows others.rest);
  };
}

rows_or_none : (w : ℕ) → w ≤ 4 → (count : ℕ) (xs : List ℕ) → AreBytes xs → HasCoverRows w count xs ⊎ BeginsWithNone (BeginsWithRows w count) xs
rows_or_none w few zero xs bytes = inl (record { rest = xs; rows = []; begins = record { many = refl; fit = λ r i. absurd i; bytes_are = refl } })
rows_or_none w few (suc count) xs bytes = elim (row_or_none w few xs bytes) [
  | inr none ↦ inr (no_first w count xs none)
  | inl first ↦ elim (rows_or_none w few count first.rest first.bytes) [
    | inl others ↦ inl (rows_together w count xs first others)
    | inr none ↦ inr (no_others w few count xs first none)
  ]
]

-- ---- the numbers

pub length_header : (h : Numbers) → length (cover_header h) ≡ 20
length_header h =
    let a = length-bytes_high_first 2 h.vertices in
    let b = length-bytes_high_first 2 h.slots in
    let c = length-bytes_high_first 1 h.load in
    let d = length-bytes_high_first 1 h.store in
    let e = length-bytes_high_first 4 h.bound in
    let f = length-bytes_high_first 4 h.rows in
    let t5 = big_endian 4 h.bound ++ big_endian 4 h.rows in
    let t4 = big_endian 1 h.store ++ t5 in
    let t3 = big_endian 1 h.load ++ t4 in
    let t2 = big_endian 2 h.slots ++ t3 in
    let t1 = big_endian 2 h.vertices ++ t2 in
    let l5 = length-append (big_endian 4 h.bound) (big_endian 4 h.rows) in
    let l4 = length-append (big_endian 1 h.store) t5 in
    let l3 = length-append (big_endian 1 h.load) t4 in
    let l2 = length-append (big_endian 2 h.slots) t3 in
    let l1 = length-append (big_endian 2 h.vertices) t2 in
    let l0 = length-append (big_endian 2 1) t1 in
    let l = length-append (codes "RBPC") (big_endian 2 1 ++ t1) in
    omega arith

-- the bytes begin with the numbers of a table
record HasNumbers (xs : List ℕ) : Type 0 where
  rest : List ℕ
  numbers : Numbers
  begins : BeginsWithNumbers xs rest numbers
  bytes : AreBytes rest

-- what the ranges of the numbers and the first six bytes say
abbrev AreRight : ℕ → ℕ → Numbers → Type 0
AreRight mark version h =
    (mark ≡ 1380077635) × ((version ≡ 1) × ((h.vertices ≤ 256) × ((1 ≤ h.slots) × ((h.slots ≤ 64) × ((1 ≤ h.load) × ((h.load ≤ 16) × ((1 ≤ h.store) × (h.store ≤ 16))))))))

right_or_not : (mark version : ℕ) (h : Numbers) → Decided (AreRight mark version h)
right_or_not mark version h =
    both (cases_eq mark 1380077635) (both (cases_eq version 1) (both (at_most h.vertices 256) (both (at_most 1 h.slots) (both (at_most h.slots 64) (both (at_most 1 h.load)
    (both (at_most h.load 16) (both (at_most 1 h.store) (at_most h.store 16))))))))

module _ (xs r1 r2 r3 r4 r5 r6 r7 r8 : List ℕ) (mark version : ℕ) (h : Numbers) (is_mark : BeginsWithNumber 4 xs r1 mark) (is_version : BeginsWithNumber 2 r1 r2 version)
    (is_vertices : BeginsWithNumber 2 r2 r3 h.vertices) (is_slots : BeginsWithNumber 2 r3 r4 h.slots) (is_load : BeginsWithNumber 1 r4 r5 h.load) (is_store : BeginsWithNumber 1 r5 r6 h.store)
    (is_bound : BeginsWithNumber 4 r6 r7 h.bound) (is_rows : BeginsWithNumber 4 r7 r8 h.rows) where
  -- what stands behind the version
  behind : r2 ≡ big_endian 2 h.vertices ++ (big_endian 2 h.slots ++ (big_endian 1 h.load ++ (big_endian 1 h.store ++ (big_endian 4 h.bound ++ (big_endian 4 h.rows ++ r8)))))
  behind =
      is_vertices.bytes_are ∙ ap (λ x. big_endian 2 h.vertices ++ x) (is_slots.bytes_are ∙ ap (λ x. big_endian 2 h.slots ++ x) (is_load.bytes_are ∙ ap (λ x. big_endian 1 h.load ++ x)
      (is_store.bytes_are ∙ ap (λ x. big_endian 1 h.store ++ x) (is_bound.bytes_are ∙ ap (λ x. big_endian 4 h.bound ++ x) is_rows.bytes_are))))

  right_numbers : AreRight mark version h → BeginsWithNumbers xs r8 h
  right_numbers is = record {
    fit = record {
      vertices = is.1.1.0;
      some_slots = is.1.1.1.0;
      slots = is.1.1.1.1.0;
      some_load = is.1.1.1.1.1.0;
      load = is.1.1.1.1.1.1.0;
      some_store = is.1.1.1.1.1.1.1.0;
      store = is.1.1.1.1.1.1.1.1;
      bound = let fits = is_bound.fits in omega arith;
      rows = let fits = is_rows.fits in omega arith;
    };
    bytes_are =
        is_mark.bytes_are ∙ ap (λ x. big_endian 4 mark ++ x) (is_version.bytes_are ∙ ap (λ x. big_endian 2 version ++ x) behind)
        ∙ (λ i. big_endian 4 (is.0 i) ++ (big_endian 2 (is.1.0 i) ++ (big_endian 2 h.vertices ++ (big_endian 2 h.slots ++ (big_endian 1 h.load ++ (big_endian 1 h.store ++ (big_endian 4 h.bound ++ (big_endian 4 h.rows ++ r8))))))));
  }

  wrong_numbers : (AreRight mark version h → ⊥) → BeginsWithNone BeginsWithNumbers xs
  wrong_numbers not rest x begins =
      let first = first_numbers xs r1 r2 r3 r4 r5 r6 mark version h.vertices h.slots h.load h.store is_mark is_version is_vertices is_slots is_load is_store rest x begins in
      let t6 : List ℕ = big_endian 4 x.bound ++ (big_endian 4 x.rows ++ rest) in
      let marks = number_one 4 mark 1380077635 r1 (big_endian 2 1 ++ (big_endian 2 x.vertices ++ (big_endian 2 x.slots ++ (big_endian 1 x.load ++ (big_endian 1 x.store ++ t6)))))
      is_mark.fits (omega arith) (sym is_mark.bytes_are ∙ begins.bytes_are) in
      let versions = number_one 2 version 1 r2 (big_endian 2 x.vertices ++ (big_endian 2 x.slots ++ (big_endian 1 x.load ++ (big_endian 1 x.store ++ t6))))
      is_version.fits (omega arith) (sym is_version.bytes_are ∙ marks.1) in
      let fit = begins.fit in
      not (
        marks.0,
        (
          versions.0,
          (
            subst (λ n. n ≤ 256) (sym first.vertices) fit.vertices,
            (
              subst (λ n. 1 ≤ n) (sym first.slots) fit.some_slots,
              (
                subst (λ n. n ≤ 64) (sym first.slots) fit.slots,
                (
                  subst (λ n. 1 ≤ n) (sym first.load) fit.some_load,
                  (
                    subst (λ n. n ≤ 16) (sym first.load) fit.load,
                    (
                      subst (λ n. 1 ≤ n) (sym first.store) fit.some_store,
                      subst (λ n. n ≤ 16) (sym first.store) fit.store,
                    ),
                  ),
                ),
              ),
            ),
          ),
        ),
      )

-- where the bytes are long enough, their numbers are those of a table or of none
long_header : (xs : List ℕ) → AreBytes xs → 20 ≤ length xs → HasNumbers xs ⊎ BeginsWithNone BeginsWithNumbers xs
long_header xs bytes long =
    let r1 = drop 4 xs in
    let r2 = drop 2 r1 in
    let r3 = drop 2 r2 in
    let r4 = drop 2 r3 in
    let r5 = drop 1 r4 in
    let r6 = drop 1 r5 in
    let r7 = drop 4 r6 in
    let r8 = drop 4 r7 in
    let l1 = length-drop 4 xs in
    let l2 = length-drop 2 r1 in
    let l3 = length-drop 2 r2 in
    let l4 = length-drop 2 r3 in
    let l5 = length-drop 1 r4 in
    let l6 = length-drop 1 r5 in
    let l7 = length-drop 4 r6 in
    let b1 = after_drop 4 xs bytes in
    let b2 = after_drop 2 r1 b1 in
    let b3 = after_drop 2 r2 b2 in
    let b4 = after_drop 2 r3 b3 in
    let b5 = after_drop 1 r4 b4 in
    let b6 = after_drop 1 r5 b5 in
    let b7 = after_drop 4 r6 b6 in
    let h : Numbers = record {
      vertices = big_number 2 r2;
      slots = big_number 2 r3;
      load = big_number 1 r4;
      store = big_number 1 r5;
      bound = big_number 4 r6;
      rows = big_number 4 r7;
    } in
    let is_mark = front_number 4 xs bytes (omega arith) in
    let is_version = front_number 2 r1 b1 (omega arith) in
    let is_vertices = front_number 2 r2 b2 (omega arith) in
    let is_slots = front_number 2 r3 b3 (omega arith) in
    let is_load = front_number 1 r4 b4 (omega arith) in
    let is_store = front_number 1 r5 b5 (omega arith) in
    let is_bound = front_number 4 r6 b6 (omega arith) in
    let is_rows = front_number 4 r7 b7 (omega arith) in
    elim (right_or_not (big_number 4 xs) (big_number 2 r1) h) [
      | inl is ↦ inl (record {
        rest = r8;
        numbers = h;
        begins = right_numbers xs r1 r2 r3 r4 r5 r6 r7 r8 (big_number 4 xs) (big_number 2 r1) h is_mark is_version is_vertices is_slots is_load is_store is_bound is_rows is;
        bytes = after_drop 4 r7 b7;
      })
      | inr not ↦ inr (wrong_numbers xs r1 r2 r3 r4 r5 r6 r7 r8 (big_number 4 xs) (big_number 2 r1) h is_mark is_version is_vertices is_slots is_load is_store is_bound is_rows not)
    ]

short_header : (xs : List ℕ) → length xs < 20 → BeginsWithNone BeginsWithNumbers xs
short_header xs short rest h begins =
    let whole = ap length begins.bytes_are ∙ length-append (cover_header h) rest in
    let twenty = length_header h in
    omega (arith, short, whole, twenty)

header_or_none : (xs : List ℕ) → AreBytes xs → HasNumbers xs ⊎ BeginsWithNone BeginsWithNumbers xs
header_or_none xs bytes = elim (cases_lt (length xs) 20) [
  | inl short ↦ inr (short_header xs short)
  | inr long ↦ long_header xs bytes (omega (arith, long))
]

-- ---- the bytes of a covered table are bytes

name_small : (n : Cover) → AllSmall (name_bytes n)
name_small n = append_small (big_endian 2 n.step) (big_endian 4 n.row) (number_bytes 2 n.step) (number_bytes 4 n.row)

names_small : (names : List Cover) → AllSmall (names_bytes names)
names_small names = append_small (big_endian 2 (length names)) (flat_map name_bytes names) (number_bytes 2 (length names)) (flat_small name_bytes name_small names)

cover_row_small : (w : ℕ) (r : CoverRowParts) → AllSmall (cover_row_bytes w r)
cover_row_small w r = append_small (row_bytes w (plain r)) (names_bytes r.names) (row_small w (plain r)) (names_small r.names)

mark_small : AllSmall (codes "RBPC")
mark_small zero = omega arith
mark_small (suc zero) = omega arith
mark_small (suc (suc zero)) = omega arith
mark_small (suc (suc (suc zero))) = omega arith
mark_small (suc (suc (suc (suc i)))) = omega arith

header_small : (h : Numbers) → AllSmall (cover_header h)
header_small h =
    let version = big_endian 2 1 in
    let vertices = big_endian 2 h.vertices in
    let slots = big_endian 2 h.slots in
    let load = big_endian 1 h.load in
    let store = big_endian 1 h.store in
    let bound = big_endian 4 h.bound in
    let rows = big_endian 4 h.rows in
    append_small (codes "RBPC") (version ++ (vertices ++ (slots ++ (load ++ (store ++ (bound ++ rows)))))) mark_small
    (append_small version (vertices ++ (slots ++ (load ++ (store ++ (bound ++ rows))))) (number_bytes 2 1)
    (append_small vertices (slots ++ (load ++ (store ++ (bound ++ rows)))) (number_bytes 2 h.vertices)
    (append_small slots (load ++ (store ++ (bound ++ rows))) (number_bytes 2 h.slots)
    (append_small load (store ++ (bound ++ rows)) (number_bytes 1 h.load)
    (append_small store (bound ++ rows) (number_bytes 1 h.store)
    (append_small bound rows (number_bytes 4 h.bound) (number_bytes 4 h.rows)))))))

cover_small : (t : CoverTableParts) → AllSmall (cover_bytes t)
cover_small t =
    append_small (cover_header (cover_numbers t)) (flat_map (cover_row_bytes (words_in t.vertices)) t.rows) (header_small (cover_numbers t))
    (flat_small (cover_row_bytes (words_in t.vertices)) (cover_row_small (words_in t.vertices)) t.rows)

-- ---- spelled or not

abbrev Outcome : List ℕ → Type 0
Outcome bytes = ((t : CoverTableParts) × IsCoverSpelling bytes t) ⊎ ((t : CoverTableParts) → IsCoverSpelling bytes t → ⊥)

by_rest : (bytes r rest : List ℕ) (h : Numbers) (rows : List CoverRowParts) → BeginsWithNumbers bytes r h → BeginsWithRows (words_in h.vertices) h.rows r rest rows → Outcome bytes
by_rest bytes r [] h rows begins read =
    let t : CoverTableParts = record { slots = h.slots; vertices = h.vertices; load = h.load; store = h.store; bound = h.bound; rows = rows } in
    let same : h ≡ cover_numbers t = λ i. record { vertices = h.vertices; slots = h.slots; load = h.load; store = h.store; bound = h.bound; rows = sym read.many i } in
    inl (t, is_spelled bytes r t h same begins read)
by_rest bytes r (x ∷ rest) h rows begins read = inr (not_all bytes r (x ∷ rest) h rows begins read (λ e. let short = ap length e in omega (arith, short)))

by_header : (bytes : List ℕ) → AreBytes bytes → Outcome bytes
by_header bytes are = elim (header_or_none bytes are) [
  | inr none ↦ inr (no_header bytes none)
  | inl h ↦
      let few : words_in h.numbers.vertices ≤ 4 = let most = h.begins.fit.vertices in omega arith in
      elim (rows_or_none (words_in h.numbers.vertices) few h.numbers.rows h.rest h.bytes) [
        | inr none ↦ inr (no_rows bytes h.rest h.numbers h.begins none)
        | inl rows ↦ by_rest bytes h.rest rows.rest h.numbers rows.rows h.begins rows.begins
      ]
]

pub cover_spelled_or_not : CoverSpelledOrNot
cover_spelled_or_not bytes = elim (small_or_not bytes) [
  | inl small ↦ by_header bytes (record { small = small })
  | inr large ↦ inr (λ t is. let small = subst AllSmall (sym is.bytes_are) (cover_small t) large.0 in omega (arith, small, large.1))
]
