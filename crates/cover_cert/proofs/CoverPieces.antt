-- The pieces of the spelling of a covered table: how long they are, and what is left behind them.
use Rattle.std.proofs.Common.{◌≡◌, ℕ, ◌+◌, ◌*◌, ◌≤◌, ◌<◌, List, [], ◌∷◌, ◌++◌, length, inl, inr, refl, sym, ap, ◌∙◌, subst, arith, append_assoc}
use Rattle.std.specs.Prelude.{flat_map}
use Rattle.std.proofs.lemmas.List.{length-append}
use Rattle.byteorder.specs.Numbers.{length-bytes_high_first}
use Rattle.comp_graph.specs.Vertices.{Vertices}
use Rattle.comp_graph.specs.Lists.{IsIn}
use Rattle.potential_cert.specs.declared.tables.Row.{Row}
use Rattle.potential_cert.specs.TableBytes.{big_endian, row_bytes}
use Rattle.potential_cert.specs.Readings.{BeginsWithNumber, BeginsWithSet}
use Rattle.potential_cert.proofs.Codes.{split_one, number_one}
use Rattle.potential_cert.proofs.Pieces.{length_flat, length_row, flat_push, row_read as plain_read}
use Rattle.search_laws.proofs.Lists.{append_cases}
use Rattle.cover_cert.specs.declared.tables.Cover.{Cover}
use Rattle.cover_cert.specs.CoverTable.{CoverRowParts, plain}
use Rattle.cover_cert.specs.CoverBytes.{name_bytes, names_bytes, cover_row_bytes, NameFits, CoverRowFits}
use Rattle.cover_cert.specs.CoverReadings.{BeginsWithNames, BeginsWithRow, BeginsWithRows, BeginsWithNone}

-- ---- lengths

length_name : (n : Cover) → length (name_bytes n) ≡ 6
length_name n =
    let whole = length-append (big_endian 2 n.step) (big_endian 4 n.row) in
    let a = length-bytes_high_first 2 n.step in
    let b = length-bytes_high_first 4 n.row in
    omega arith

pub length_names : (ns : List Cover) → length (flat_map name_bytes ns) ≡ 6 * length ns
length_names ns = length_flat name_bytes 6 length_name ns

-- ---- names

pub name_more : (k : ℕ) (bytes r1 r2 r3 : List ℕ) (ns : List Cover) (n : Cover) → BeginsWithNames k bytes r1 ns → BeginsWithNumber 2 r1 r2 n.step → BeginsWithNumber 4 r2 r3 n.row
    → BeginsWithNames (k + 1) bytes r3 (ns ++ n ∷ [])
name_more k bytes r1 r2 r3 ns n before step row = record {
  many = let whole = length-append ns (n ∷ []) in let many = before.many in omega arith;
  fit = λ m i. elim (append_cases m ns (n ∷ []) i) [ inl old ↦ before.fit m old | inr last ↦ subst NameFits (sym (last_in m last)) (record { step = step.fits; row = row.fits }) ];
  bytes_are =
      before.bytes_are ∙ ap (λ r. flat_map name_bytes ns ++ r) (step.bytes_are ∙ ap (λ r. big_endian 2 n.step ++ r) row.bytes_are ∙ sym (append_assoc (big_endian 2 n.step) (big_endian 4 n.row) r3))
      ∙ sym (flat_push name_bytes ns n r3);
}
  where
    last_in : (m : Cover) → IsIn m (n ∷ []) → m ≡ n
    last_in m (inl e) = e
    last_in m (inr i) = absurd i

pub no_name_step : (count k : ℕ) (bytes rest : List ℕ) (ns : List Cover) → BeginsWithNames k bytes rest ns → k < count → length rest < 2 → length bytes < 6 * count
no_name_step count k bytes rest ns before l short =
    let whole = ap length before.bytes_are ∙ length-append (flat_map name_bytes ns) rest in
    let names = length_names ns in
    let many = before.many in
    omega arith

pub no_name_row : (count k : ℕ) (bytes r1 r2 : List ℕ) (ns : List Cover) (step : ℕ) → BeginsWithNames k bytes r1 ns → k < count → BeginsWithNumber 2 r1 r2 step → length r2 < 4 → length bytes < 6 * count
no_name_row count k bytes r1 r2 ns step before l begins short =
    let whole = ap length before.bytes_are ∙ length-append (flat_map name_bytes ns) r1 in
    let names = length_names ns in
    let many = before.many in
    let rest = ap length begins.bytes_are ∙ length-append (big_endian 2 step) r2 in
    let two = length-bytes_high_first 2 step in
    omega arith

-- ---- a row

-- a row before a rest, cut behind its sets
pub row_cut : (w : ℕ) (r : CoverRowParts) (rest : List ℕ) → cover_row_bytes w r ++ rest ≡ row_bytes w (plain r) ++ (big_endian 2 (length r.names) ++ (flat_map name_bytes r.names ++ rest))
row_cut w r rest =
    append_assoc (row_bytes w (plain r)) (names_bytes r.names) rest
    ∙ ap (λ x. row_bytes w (plain r) ++ x) (append_assoc (big_endian 2 (length r.names)) (flat_map name_bytes r.names) rest)

-- what stands behind the sets of a row
abbrev Behind : ℕ → List ℕ → List ℕ → CoverRowParts → Type 0
Behind w bytes rest r = bytes ≡ row_bytes w (plain r) ++ (big_endian 2 (length r.names) ++ (flat_map name_bytes r.names ++ rest))

behind_row : (w : ℕ) (bytes rest : List ℕ) (r : CoverRowParts) → BeginsWithRow w bytes rest r → Behind w bytes rest r
behind_row w bytes rest r begins = begins.bytes_are ∙ row_cut w r rest

-- two rows that the same bytes begin with have the same rest
pub rest_one : (w : ℕ) → w ≤ 4 → (bytes r s : List ℕ) (x y : CoverRowParts) → BeginsWithRow w bytes r x → BeginsWithRow w bytes s y → r ≡ s
rest_one w l bytes r s x y a b =
    let whole = sym (behind_row w bytes r x a) ∙ behind_row w bytes s y b in
    let tails = split_one (row_bytes w (plain x)) (row_bytes w (plain y)) _ _ (length_row w l (plain x) ∙ sym (length_row w l (plain y))) whole in
    let counts = number_one 2 (length x.names) (length y.names) _ _ a.fits.few b.fits.few tails.1 in
    let lengths : length (flat_map name_bytes x.names) ≡ length (flat_map name_bytes y.names) = length_names x.names ∙ ap (λ n. 6 * n) counts.0 ∙ sym (length_names y.names) in
    (split_one (flat_map name_bytes x.names) (flat_map name_bytes y.names) r s lengths counts.1).1

-- the pieces read so far make a row
pub row_read : (w : ℕ) (bytes r1 r2 r3 r4 rest : List ℕ) (r : CoverRowParts) → BeginsWithNumber 4 bytes r1 r.cost → BeginsWithSet w r1 r2 r.position.red → BeginsWithSet w r2 r3 r.position.blue
    → BeginsWithNumber 2 r3 r4 (length r.names) → BeginsWithNames (length r.names) r4 rest r.names → BeginsWithRow w bytes rest r
row_read w bytes r1 r2 r3 r4 rest r cost red blue count names =
    let front = plain_read w bytes r1 r2 r3 (plain r) cost red blue in
    record {
      fits = record { plain_fits = front.fits; few = count.fits; names = names.fit };
      bytes_are =
          front.bytes_are ∙ ap (λ x. row_bytes w (plain r) ++ x) (count.bytes_are ∙ ap (λ x. big_endian 2 (length r.names) ++ x) names.bytes_are)
          ∙ sym (row_cut w r rest);
    }

-- bytes that are too short, or too short behind the sets, begin with no row
behind_long : (w : ℕ) → w ≤ 4 → (bytes rest : List ℕ) (r : CoverRowParts) → BeginsWithRow w bytes rest r → 4 + 16 * w + 2 ≤ length bytes
behind_long w l bytes rest r begins =
    let whole = ap length (behind_row w bytes rest r begins) ∙ length-append (row_bytes w (plain r)) (big_endian 2 (length r.names) ++ (flat_map name_bytes r.names ++ rest)) in
    let sets = length_row w l (plain r) in
    let tail = length-append (big_endian 2 (length r.names)) (flat_map name_bytes r.names ++ rest) in
    let two = length-bytes_high_first 2 (length r.names) in
    omega arith

pub short_row : (w : ℕ) → w ≤ 4 → (bytes : List ℕ) → length bytes < 4 + 16 * w + 2 → BeginsWithNone (BeginsWithRow w) bytes
short_row w l bytes short rest r begins = let long = behind_long w l bytes rest r begins in omega arith

-- so many names are not left behind the sets
pub short_names : (w : ℕ) → w ≤ 4 → (bytes r1 r2 r3 r4 : List ℕ) (cost : ℕ) (red blue : Vertices) (count : ℕ) → BeginsWithNumber 4 bytes r1 cost → BeginsWithSet w r1 r2 red → BeginsWithSet w r2 r3 blue
    → BeginsWithNumber 2 r3 r4 count → length r4 < 6 * count → BeginsWithNone (BeginsWithRow w) bytes
short_names w l bytes r1 r2 r3 r4 cost red blue count begins_cost begins_red begins_blue begins_count short rest r begins =
    let own : Row = record { position = record { red = red; blue = blue }; cost = cost } in
    let front = plain_read w bytes r1 r2 r3 own begins_cost begins_red begins_blue in
    let here : bytes ≡ row_bytes w own ++ (big_endian 2 count ++ r4) = front.bytes_are ∙ ap (λ x. row_bytes w own ++ x) begins_count.bytes_are in
    let tails = split_one (row_bytes w own) (row_bytes w (plain r)) _ _ (length_row w l own ∙ sym (length_row w l (plain r))) (sym here ∙ behind_row w bytes rest r begins) in
    let counts = number_one 2 count (length r.names) _ _ begins_count.fits begins.fits.few tails.1 in
    let left = ap length counts.1 ∙ length-append (flat_map name_bytes r.names) rest in
    let names = length_names r.names in
    let same = counts.0 in
    omega arith

-- ---- rows

pub row_more : (w k : ℕ) (bytes r1 r2 : List ℕ) (rs : List CoverRowParts) (r : CoverRowParts) → BeginsWithRows w k bytes r1 rs → BeginsWithRow w r1 r2 r → BeginsWithRows w (k + 1) bytes r2 (rs ++ r ∷ [])
row_more w k bytes r1 r2 rs r before begins = record {
  many = let whole = length-append rs (r ∷ []) in let many = before.many in omega arith;
  fit = λ q i. elim (append_cases q rs (r ∷ []) i) [ inl old ↦ before.fit q old | inr last ↦ subst (CoverRowFits w) (sym (last_in q last)) begins.fits ];
  bytes_are = before.bytes_are ∙ ap (λ x. flat_map (cover_row_bytes w) rs ++ x) begins.bytes_are ∙ sym (flat_push (cover_row_bytes w) rs r r2);
}
  where
    last_in : (q : CoverRowParts) → IsIn q (r ∷ []) → q ≡ r
    last_in q (inl e) = e
    last_in q (inr i) = absurd i

-- where the bytes begin with more rows, what is left behind some begins with one
rows_go_on : (w : ℕ) → w ≤ 4 → (k n : ℕ) (bytes r s : List ℕ) (xs ys : List CoverRowParts) → BeginsWithRows w k bytes r xs → BeginsWithRows w n bytes s ys → k < n → BeginsWithNone (BeginsWithRow w) r → ⊥
rows_go_on w l k n bytes r s [] [] a b less none = let few = a.many in let many = b.many in omega arith
rows_go_on w l k n bytes r s [] (y ∷ ys) a b less none =
    none (flat_map (cover_row_bytes w) ys ++ s) y (record { fits = b.fit y (inl refl); bytes_are = sym a.bytes_are ∙ b.bytes_are ∙ append_assoc (cover_row_bytes w y) (flat_map (cover_row_bytes w) ys) s })
rows_go_on w l k n bytes r s (x ∷ xs) [] a b less none = let few = a.many in let many = b.many in omega arith
rows_go_on w l k n bytes r s (x ∷ xs) (y ∷ ys) a b less none =
    let same = rest_one w l bytes (flat_map (cover_row_bytes w) xs ++ r) (flat_map (cover_row_bytes w) ys ++ s) x y
    (record { fits = a.fit x (inl refl); bytes_are = a.bytes_are ∙ append_assoc (cover_row_bytes w x) (flat_map (cover_row_bytes w) xs) r })
    (record { fits = b.fit y (inl refl); bytes_are = b.bytes_are ∙ append_assoc (cover_row_bytes w y) (flat_map (cover_row_bytes w) ys) s }) in
    rows_go_on w l (length xs) (length ys) (flat_map (cover_row_bytes w) xs ++ r) r s xs ys
    (record { many = refl; fit = λ q i. a.fit q (inr i); bytes_are = refl })
    (record { many = refl; fit = λ q i. b.fit q (inr i); bytes_are = same })
    (let few = a.many in let many = b.many in omega arith) none

pub no_row_more : (w : ℕ) → w ≤ 4 → (k n : ℕ) (bytes r : List ℕ) (xs : List CoverRowParts) → BeginsWithRows w k bytes r xs → k < n → BeginsWithNone (BeginsWithRow w) r → BeginsWithNone (BeginsWithRows w n) bytes
no_row_more w l k n bytes r xs a less none s ys b = rows_go_on w l k n bytes r s xs ys a b less none
