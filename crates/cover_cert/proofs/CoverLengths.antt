-- How long a covered table of a game is: a row has at most 384 names, so at most 2,374 bytes.
use Rattle.std.proofs.Common.{ℕ, suc, ◌+◌, ◌*◌, ◌≤◌, ◌<◌, Bool, true, false, cond, List, [], ◌∷◌, length, inl, inr, refl, ap, ◌∙◌, arith}
use Rattle.std.specs.Prelude.{flat_map}
use Rattle.std.specs.FinSet as set
use Rattle.std.proofs.lemmas.Bool.Decides.{nat_tests}
use Rattle.std.proofs.lemmas.List.{length-append}
use Rattle.byteorder.specs.Numbers.{length-bytes_high_first}
use Rattle.comp_graph.specs.Games.{PebbleGame}
use Rattle.comp_graph.specs.Sets.{has_set_below, membership}
use Rattle.comp_graph.specs.Vertices.{AllBelow, IsWithin}
use Rattle.comp_graph.proofs.Sets.{difference_first, size_le_below, size_within}
use Rattle.pebble_rules.specs.declared.position.Position.{Position}
use Rattle.normal_steps.specs.Sound.{IsSound}
use Rattle.normal_steps.specs.StepTests.{can_work, drops_of, is_crowded, legal_steps, spills_of, works_of}
use Rattle.normal_steps.proofs.Listed.{length-listed}
use Rattle.comp_graph.specs.Lists.{IsIn}
use Rattle.potential_cert.specs.TableBytes.{big_endian, row_bytes, words_in}
use Rattle.potential_cert.proofs.Pieces.{length_row}
use Rattle.cover_cert.specs.declared.tables.Cover.{Cover}
use Rattle.cover_cert.specs.CoverBytes.{IsCoverSpelling, cover_header, cover_numbers, cover_row_bytes, name_bytes, names_bytes}
use Rattle.cover_cert.specs.CoverTable.{CoverRowParts, CoverTableParts, NamesHold, PlacesRise, plain}
use Rattle.cover_cert.proofs.CoverPieces.{length_names}
use Rattle.cover_cert.proofs.CoverReadable.{length_header}

-- ---- names

-- names whose places rise below a number are no more than that
rising_few : (ns : List Cover) (low most : ℕ) → PlacesRise ns → low ≤ most → ((n : Cover) → IsIn n ns → low ≤ n.step) → ((n : Cover) → IsIn n ns → n.step < most) → length ns + low ≤ most
rising_few [] low most rise few above below = omega arith
rising_few (n ∷ ns) low most rise few above below =
    let first = above n (inl refl) in
    let last = below n (inl refl) in
    let rest = rising_few ns (suc n.step) most rise.1 (omega arith) (λ m i. let more = rise.0 m i in omega arith) (λ m i. below m (inr i)) in
    omega arith

works_below : (g : PebbleGame) (p : Position) → AllBelow g.dag.count (works_of g p)
works_below g p = record { below = λ v m. let has = has_set_below (can_work g p) g.dag.count v in grind (arith, nat_tests) }

drops_within : (g : PebbleGame) (p : Position) → IsWithin (drops_of g p) p.red
drops_within g p = by_test (is_crowded g p)
  where
    by_test : (b : Bool) → IsWithin (cond b p.red set.empty) p.red
    by_test true v m = m
    by_test false v m = absurd (grind (arith, membership))

spills_within : (g : PebbleGame) (p : Position) → IsWithin (spills_of g p) p.red
spills_within g p = by_test (is_crowded g p)
  where
    by_test : (b : Bool) → IsWithin (cond b (set.difference p.red p.blue) set.empty) p.red
    by_test true v m = difference_first p.red p.blue v m
    by_test false v m = absurd (grind (arith, membership))

-- a sound position has at most 384 legal steps
pub few_steps : (g : PebbleGame) (p : Position) → g.dag.count ≤ 256 → g.slots ≤ 64 → IsSound g p → length (legal_steps g p) ≤ 384
unfolding legal_steps
few_steps g p small most sound =
    let drops = drops_within g p in
    let spills = spills_within g p in
    let all = length-listed g.dag.count (works_of g p) (drops_of g p) (spills_of g p) (works_below g p)
    (record { below = λ v m. sound.red_below v (drops v m) }) (record { below = λ v m. sound.red_below v (spills v m) }) in
    let a = size_le_below g.dag.count (works_of g p) (works_below g p) in
    let b = size_within (drops_of g p) p.red drops in
    let c = size_within (spills_of g p) p.red spills in
    let fits = sound.fits in
    omega arith

-- so a row has at most as many names
pub few_names : (g : PebbleGame) (rows : List CoverRowParts) (r : CoverRowParts) → g.dag.count ≤ 256 → g.slots ≤ 64 → IsSound g r.position → NamesHold g rows r → length r.names ≤ 384
few_names g rows r small most sound holds =
    let steps = few_steps g r.position small most sound in
    let few = rising_few r.names 0 (length (legal_steps g r.position)) holds.rise (omega arith) (λ n i. omega arith) holds.below in
    omega arith

-- ---- bytes

length_cover_row : (w : ℕ) → w ≤ 4 → (r : CoverRowParts) → length r.names ≤ 384 → length (cover_row_bytes w r) ≤ 2374
length_cover_row w l r few =
    let whole = length-append (row_bytes w (plain r)) (names_bytes r.names) in
    let sets = length_row w l (plain r) in
    let names = length-append (big_endian 2 (length r.names)) (flat_map name_bytes r.names) in
    let two = length-bytes_high_first 2 (length r.names) in
    let each = length_names r.names in
    omega arith

length_cover_rows : (w : ℕ) → w ≤ 4 → (rows : List CoverRowParts) → ((r : CoverRowParts) → IsIn r rows → length r.names ≤ 384) → length (flat_map (cover_row_bytes w) rows) ≤ 2374 * length rows
length_cover_rows w l [] few = omega arith
length_cover_rows w l (r ∷ rows) few =
    let whole = length-append (cover_row_bytes w r) (flat_map (cover_row_bytes w) rows) in
    let here = length_cover_row w l r (few r (inl refl)) in
    let rest = length_cover_rows w l rows (λ q i. few q (inr i)) in
    omega arith

-- a spelling has at most 20 bytes and 2,374 for each row
pub length_cover : (bytes : List ℕ) (t : CoverTableParts) → IsCoverSpelling bytes t → ((r : CoverRowParts) → IsIn r t.rows → length r.names ≤ 384) → length bytes ≤ 20 + 2374 * length t.rows
length_cover bytes t is few =
    let words = words_in t.vertices in
    let small : words ≤ 4 = let most = is.fits.numbers.vertices in omega arith in
    let whole = ap length is.bytes_are ∙ length-append (cover_header (cover_numbers t)) (flat_map (cover_row_bytes words) t.rows) in
    let header = length_header (cover_numbers t) in
    let rows = length_cover_rows words small t.rows few in
    omega arith
