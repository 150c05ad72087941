-- What was written so far.
use Rattle.std.proofs.Common.{◌≡◌, ℕ, zero, suc, ◌+◌, ◌≤◌, ◌<◌, ◌^◌, ◌⊎◌, inl, inr, List, [], ◌∷◌, ◌++◌, length, take, refl, sym, ap, ◌∙◌, subst, arith, append_assoc}
use Rattle.std.specs.Prelude.{flat_map}
use Rattle.comp_graph.specs.Vertices.{Vertices}
use Rattle.comp_graph.specs.Words.{word_of}
use Rattle.potential_cert.specs.Places.{IsAt}
use Rattle.potential_cert.specs.Table.{TableParts}
use Rattle.potential_cert.specs.TableBytes.{big_endian, set_bytes, row_bytes, AreWords, IsInRange, CanBeSpelled}
use Rattle.potential_cert.specs.declared.tables.Row.{Row}
use Rattle.comp_graph.specs.Lists.{IsIn}

-- one word more
pub set_more : (s : Vertices) (k : ℕ) → k < 4 → set_bytes (k + 1) s ≡ set_bytes k s ++ big_endian 8 (word_of s k)
set_more s zero l = refl
set_more s (suc zero) l = refl
set_more s (suc (suc zero)) l = refl
set_more s (suc (suc (suc zero))) l = refl
set_more s (suc (suc (suc (suc k)))) l = absurd (omega arith)

-- one piece more
pub piece_more : {X : Type 0} → (f : X → List ℕ) (x : X) (k : ℕ) (xs : List X) → IsAt x k xs → flat_map f (take (k + 1) xs) ≡ flat_map f (take k xs) ++ f x
piece_more f x k [] h = absurd h
piece_more f x zero (y ∷ ys) h = append_nothing (f y) ∙ ap f (sym h)
  where
    append_nothing : (xs : List ℕ) → xs ++ [] ≡ xs
    append_nothing [] = refl
    append_nothing (x ∷ xs) = ap (λ xs. x ∷ xs) (append_nothing xs)
piece_more f x (suc k) (y ∷ ys) h =
    let same : suc k + 1 ≡ suc (k + 1) = omega arith in
    ap (λ n. flat_map f (take n (y ∷ ys))) same ∙ ap (λ r. f y ++ r) (piece_more f x k ys h) ∙ sym (append_assoc (f y) (flat_map f (take k ys)) (f x))

pub take_all : {X : Type 0} → (n : ℕ) (xs : List X) → length xs ≤ n → take n xs ≡ xs
take_all zero [] l = refl
take_all zero (x ∷ xs) l = absurd (omega arith)
take_all (suc n) [] l = refl
take_all (suc n) (x ∷ xs) l = ap (λ xs. x ∷ xs) (take_all n xs (omega arith))

-- what is added behind what was added
pub added_more : (old bytes more front piece whole : List ℕ) → bytes ≡ old ++ front → more ≡ bytes ++ piece → whole ≡ front ++ piece → more ≡ old ++ whole
added_more old bytes more front piece whole a b e = b ∙ ap (λ x. x ++ piece) a ∙ append_assoc old front piece ∙ ap (λ x. old ++ x) (sym e)

-- ---- costs

-- one row more
pub words_more : (r : Row) (k : ℕ) (rows : List Row) → IsAt r k rows → r.cost < 2 ^ 32 → AreWords (take k rows) → AreWords (take (k + 1) rows)
words_more r k [] at small are q i = absurd at
words_more r zero (x ∷ rows) at small are q (inl e) = subst (λ q. q.cost < 2 ^ 32) (at ∙ sym e) small
words_more r zero (x ∷ rows) at small are q (inr i) = absurd i
words_more r (suc k) (x ∷ rows) at small are q i =
    let same : suc k + 1 ≡ suc (k + 1) = omega arith in
    by_case (words_more r k rows at small (λ q i. are q (inr i)) q) (subst (λ n. IsIn q (take n (x ∷ rows))) same i)
  where
    by_case : (IsIn q (take (k + 1) rows) → q.cost < 2 ^ 32) → (q ≡ x) ⊎ IsIn q (take (k + 1) rows) → q.cost < 2 ^ 32
    by_case rest (inl e) = are q (inl e)
    by_case rest (inr i) = rest i

pub can_be_spelled : (t : TableParts) → IsInRange t → t.bound < 2 ^ 32 → AreWords t.rows → CanBeSpelled t
can_be_spelled t range bound costs = record {
  numbers = record {
    vertices = range.vertices;
    some_slots = range.some_slots;
    slots = range.slots;
    some_load = range.some_load;
    load = range.load;
    some_store = range.some_store;
    store = range.store;
    bound = bound;
    rows = range.few;
  };
  rows = λ r i. record { cost = costs r i; red = range.red r i; blue = range.blue r i };
}

-- one row is its cost, its red words and its blue words
pub row_added : (words : ℕ) (r : Row) (old first second third : List ℕ) → first ≡ old ++ big_endian 4 r.cost → second ≡ first ++ set_bytes words r.position.red
    → third ≡ second ++ set_bytes words r.position.blue → third ≡ old ++ row_bytes words r
row_added words r old first second third a b d =
    let cost = big_endian 4 r.cost in
    let red = set_bytes words r.position.red in
    let blue = set_bytes words r.position.blue in
    d ∙ ap (λ x. x ++ blue) (b ∙ ap (λ x. x ++ red) a) ∙ append_assoc (old ++ cost) red blue ∙ append_assoc old cost (red ++ blue)

-- a table that has a spelling can be written
pub in_range : (t : TableParts) → CanBeSpelled t → IsInRange t
in_range t fits = record {
  vertices = fits.numbers.vertices;
  some_slots = fits.numbers.some_slots;
  slots = fits.numbers.slots;
  some_load = fits.numbers.some_load;
  load = fits.numbers.load;
  some_store = fits.numbers.some_store;
  store = fits.numbers.store;
  few = fits.numbers.rows;
  red = λ r i. (fits.rows r i).red;
  blue = λ r i. (fits.rows r i).blue;
}
