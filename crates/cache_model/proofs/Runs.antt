-- A run in pieces: touches and turns one after another, and the vertices that come in rising number.
use Rattle.std.proofs.Common.{◌≡◌, ℕ, zero, suc, ◌≤◌, List, [], ◌∷◌, ◌++◌, ◌⊎◌, inl, inr, length, refl, ap, ◌∙◌, arith, length-append}
use Rattle.std.specs.FinSet.{contains}
use Rattle.comp_graph.specs.Vertices.{Vertices, ◌∈◌, ◌∉◌, rising}
use Rattle.comp_graph.specs.Games.{PebbleGame}
use Rattle.comp_graph.proofs.Rising.{rising-in, rising-out}
use Rattle.pebble_rules.proofs.Possible.{true_or_false}
use Rattle.cache_model.specs.Caches.{Cache, touched, all_touched, with_turn, with_turns}

-- ---- rising numbers

pub rising_grows : (n : ℕ) (s : Vertices) → length (rising n s) ≤ length (rising (suc n) s)
rising_grows n s = elim (true_or_false (contains s n)) [
  | inl h ↦ let e = ap length (rising-in n s h) in let sum = length-append (rising n s) (n ∷ []) in omega arith
  | inr h ↦ let e = ap length (rising-out n s h) in omega arith
]

pub rising_mono : (m n : ℕ) (s : Vertices) → m ≤ n → length (rising m s) ≤ length (rising n s)
rising_mono m zero s h = let e : m ≡ zero = omega arith in let same = ap (λ k. length (rising k s)) e in omega arith
rising_mono m (suc n) s h = elim (last m n h) [
  | inl less ↦ let old = rising_mono m n s less in let grows = rising_grows n s in omega arith
  | inr is ↦ let same = ap (λ k. length (rising k s)) is in omega arith
]
  where
    last : (m n : ℕ) → m ≤ suc n → (m ≤ n) ⊎ (m ≡ suc n)
    last m n h = grind arith

-- ---- one after another

pub touched_append : (slots : ℕ) (c : Cache) (us vs : List ℕ) → all_touched slots c (us ++ vs) ≡ all_touched slots (all_touched slots c us) vs
touched_append slots c [] vs = refl
touched_append slots c (u ∷ us) vs = touched_append slots (touched slots c u) us vs

pub turns_append : (g : PebbleGame) (c : Cache) (us vs : List ℕ) → with_turns g c (us ++ vs) ≡ with_turns g (with_turns g c us) vs
turns_append g c [] vs = refl
turns_append g c (u ∷ us) vs = turns_append g (with_turn g c u) us vs

-- the touches of the members below n + 1
pub touches_in : (slots : ℕ) (c : Cache) (n : ℕ) (s : Vertices) → n ∈ s → all_touched slots c (rising (suc n) s) ≡ touched slots (all_touched slots c (rising n s)) n
touches_in slots c n s h = ap (all_touched slots c) (rising-in n s h) ∙ touched_append slots c (rising n s) (n ∷ [])

pub touches_out : (slots : ℕ) (c : Cache) (n : ℕ) (s : Vertices) → n ∉ s → all_touched slots c (rising (suc n) s) ≡ all_touched slots c (rising n s)
touches_out slots c n s h = ap (all_touched slots c) (rising-out n s h)

-- the turns of the members below n + 1
pub turns_in : (g : PebbleGame) (c : Cache) (n : ℕ) (s : Vertices) → n ∈ s → with_turns g c (rising (suc n) s) ≡ with_turn g (with_turns g c (rising n s)) n
turns_in g c n s h = ap (with_turns g c) (rising-in n s h) ∙ turns_append g c (rising n s) (n ∷ [])

pub turns_out : (g : PebbleGame) (c : Cache) (n : ℕ) (s : Vertices) → n ∉ s → with_turns g c (rising (suc n) s) ≡ with_turns g c (rising n s)
turns_out g c n s h = ap (with_turns g c) (rising-out n s h)
