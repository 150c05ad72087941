-- How positions and heads lie in rows of numbers.
use Rattle.std.proofs.Common.{◌≡◌, ℕ, zero, suc, ◌+◌, ◌-◌, ◌*◌, ◌/◌, ◌%◌, ◌^◌, ◌<◌, ◌≤◌, Bool, true, false, cond, eqb, ltb, ◌&&◌, List, [], ◌∷◌, ◌++◌, length, take, drop, get_or, set, ◌⊎◌, inl, inr, refl, sym, ap, ◌∙◌, arith, length-append, length-set}
use Rattle.std.specs.Int.{bit_at}
use Rattle.std.specs.FinSet as sets
use Rattle.std.proofs.lemmas.List.{append_assoc, length-take-le, take_at, drop_at, get_or_at, get_or-append_right, get_or-take, get_or_past, take_more_set}
use Rattle.std.proofs.lemmas.Bool.{cases_lt}
use Rattle.std.proofs.lemmas.Bool.Decides.{nat_tests}
use Rattle.std.proofs.lemmas.Nat.Bits.{bit_at-zero}
use Rattle.comp_graph.specs.Sets.{same}
use Rattle.comp_graph.specs.Vertices.{Vertices, AllBelow}
use Rattle.comp_graph.specs.Words.{bits_below, has_bit, set_of_words, word_of, words_of}
use Rattle.comp_graph.specs.WordLaws.{contains-set_of_words}
use Rattle.comp_graph.proofs.WordSets.{read_back}
use Rattle.pebble_rules.specs.declared.position.Position.{Position}
use Rattle.normal_steps.specs.declared.step.Step.{Step}
use Rattle.normal_steps.specs.declared.step.Step.TheVariants.{Work, Drop, Spill}
use Rattle.position_arena.specs.declared.rows.Head.{Head}
use Rattle.position_arena.specs.Arenas.{Slot, IsWithinWords, row_words}
use Rattle.position_arena.specs.SlotRows.{step_number, step_vertex, step_of, link_number, head_of, slot_row, slot_of, IsHead}

-- ---- a set of words

-- a set is that of its four words, where words are missing at the end of a list
pub set_of_four : (words : List ℕ) (a b c d : ℕ) → a ≡ get_or words 0 0 → b ≡ get_or words 1 0 → c ≡ get_or words 2 0 → d ≡ get_or words 3 0
    → set_of_words (a ∷ b ∷ c ∷ d ∷ []) ≡ set_of_words words
set_of_four words a b c d first second third fourth =
    same _ _ (λ v. contains-set_of_words _ v ∙ at v (cases_lt v 256) ∙ sym (contains-set_of_words words v))
  where
    four : List ℕ
    four = a ∷ b ∷ c ∷ d ∷ []

    word : (k : ℕ) → k < 4 → get_or four k 0 ≡ get_or words k 0
    word zero h = first
    word (suc zero) h = second
    word (suc (suc zero)) h = third
    word (suc (suc (suc zero))) h = fourth
    word (suc (suc (suc (suc k)))) h = absurd (omega (arith, h))

    at : (v : ℕ) → (v < 256) ⊎ (256 ≤ v) → (ltb v 256 && has_bit four v) ≡ (ltb v 256 && has_bit words v)
    at v (inl h) = ap (λ w. ltb v 256 && eqb (bit_at w (v % 64)) 1) (word (v / 64) (omega (arith, h)))
    at v (inr h) =
        let past : ltb v 256 ≡ false = grind (arith, nat_tests, h) in
        ap (λ b. b && has_bit four v) past ∙ sym (ap (λ b. b && has_bit words v) past)

-- ---- a row

module _ (words : ℕ) (narrow : words ≤ 4) where
  first_words : (s : Vertices) → length (take words (words_of s)) ≡ words
  first_words s = length-take-le words (words_of s) narrow

  pub length-row_words : (p : Position) → length (row_words words p) ≡ 2 * words
  length-row_words p = omega (arith, length-append (take words (words_of p.red)) (take words (words_of p.blue)), first_words p.red, first_words p.blue)

  pub length-slot_row : (s : Slot) → length (slot_row words s) ≡ 2 * words + 2
  length-slot_row s = omega (arith, length-append (row_words words s.position) (link_number s.head ∷ step_number s.head.step ∷ []), length-row_words s.position)

  pub take-slot_row : (s : Slot) → take (2 * words) (slot_row words s) ≡ row_words words s.position
  take-slot_row s = take_at (row_words words s.position) (link_number s.head ∷ step_number s.head.step ∷ []) (2 * words) (length-row_words s.position)

  pub link-slot_row : (s : Slot) → get_or (slot_row words s) (2 * words) 0 ≡ link_number s.head
  link-slot_row s = get_or_at (row_words words s.position) (link_number s.head) (step_number s.head.step ∷ []) 0 (2 * words) (length-row_words s.position)

  pub step-slot_row : (s : Slot) → get_or (slot_row words s) (2 * words + 1) 0 ≡ step_number s.head.step
  step-slot_row s =
      let more : 2 * words ≤ 2 * words + 1 = omega arith in let one : 2 * words + 1 - 2 * words ≡ 1 = omega arith in
      get_or-append_right (row_words words s.position) (link_number s.head ∷ step_number s.head.step ∷ []) (2 * words) (2 * words + 1) 0 (length-row_words s.position) more
      ∙ ap (λ k. get_or (link_number s.head ∷ step_number s.head.step ∷ []) k 0) one

  red_words : (red blue tail : List ℕ) → length red ≡ words → take words ((red ++ blue) ++ tail) ≡ red
  red_words red blue tail e = ap (take words) (append_assoc red blue tail) ∙ take_at red (blue ++ tail) words e

  blue_words : (red blue tail : List ℕ) → length red ≡ words → length blue ≡ words → take words (drop words ((red ++ blue) ++ tail)) ≡ blue
  blue_words red blue tail e f = ap (λ l. take words (drop words l)) (append_assoc red blue tail) ∙ ap (take words) (drop_at red (blue ++ tail) words e) ∙ take_at blue tail words f

step_back : (s : Step) → step_vertex s < 2 ^ 16 → step_of (step_number s) ≡ s
step_back (Work v) h = let t : ltb v 65536 ≡ true = grind (arith, nat_tests, h) in ap (λ b. cond b (Work v) (cond (ltb v 131072) (Drop (v - 65536)) (Spill (v - 131072)))) t
step_back (Drop v) h =
    let n : ℕ = 65536 + v in
    let t : ltb n 65536 ≡ false = grind (arith, nat_tests) in let u : ltb n 131072 ≡ true = grind (arith, nat_tests, h) in let e : n - 65536 ≡ v = omega arith in
    ap (λ b. cond b (Work n) (cond (ltb n 131072) (Drop (n - 65536)) (Spill (n - 131072)))) t ∙ ap (λ b. cond b (Drop (n - 65536)) (Spill (n - 131072))) u ∙ ap Drop e
step_back (Spill v) h =
    let n : ℕ = 131072 + v in
    let t : ltb n 65536 ≡ false = grind (arith, nat_tests) in let u : ltb n 131072 ≡ false = grind (arith, nat_tests) in let e : n - 131072 ≡ v = omega arith in
    ap (λ b. cond b (Work n) (cond (ltb n 131072) (Drop (n - 65536)) (Spill (n - 131072)))) t ∙ ap (λ b. cond b (Drop (n - 65536)) (Spill (n - 131072))) u ∙ ap Spill e

head_back : (h : Head) → IsHead h → head_of (link_number h) (step_number h.step) ≡ h
head_back h is =
    let cost : link_number h % 2 ^ 32 ≡ h.cost = omega (arith, is.cost) in
    let parent : link_number h / 2 ^ 32 ≡ h.parent = omega (arith, is.cost) in
    λ i. record { cost = cost i; parent = parent i; step = step_back h.step is.vertex i }

-- the position and the head are read back
pub slot_back : (words : ℕ) (s : Slot) → words ≤ 4 → IsWithinWords words s.position → IsHead s.head → slot_of words (slot_row words s) ≡ s
slot_back words s narrow fits is =
    let tail : List ℕ = link_number s.head ∷ step_number s.head.step ∷ [] in
    let red_first = first_words words narrow s.position.red in let blue_first = first_words words narrow s.position.blue in
    let red : set_of_words (take words (slot_row words s)) ≡ s.position.red =
    ap set_of_words (red_words words narrow (take words (words_of s.position.red)) (take words (words_of s.position.blue)) tail red_first) ∙ read_back words s.position.red narrow fits.red in
    let blue : set_of_words (take words (drop words (slot_row words s))) ≡ s.position.blue =
    ap set_of_words (blue_words words narrow (take words (words_of s.position.red)) (take words (words_of s.position.blue)) tail red_first blue_first) ∙ read_back words s.position.blue narrow fits.blue in
    let head : head_of (get_or (slot_row words s) (2 * words) 0) (get_or (slot_row words s) (2 * words + 1) 0) ≡ s.head =
    (λ i. head_of (link-slot_row words narrow s i) (step-slot_row words narrow s i)) ∙ head_back s.head is in
    λ i. record { position = record { red = red i; blue = blue i }; head = head i }

-- a position is told by its words
pub same_words : (words : ℕ) (p q : Position) → words ≤ 4 → IsWithinWords words p → IsWithinWords words q → row_words words p ≡ row_words words q → p ≡ q
same_words words p q narrow hp hq e =
    let reds : take words (words_of p.red) ≡ take words (words_of q.red) =
    sym (take_at (take words (words_of p.red)) (take words (words_of p.blue)) words (first_words words narrow p.red)) ∙ ap (take words) e ∙ take_at (take words (words_of q.red)) (take words (words_of q.blue)) words (first_words words narrow q.red) in
    let blues : take words (words_of p.blue) ≡ take words (words_of q.blue) =
    sym (drop_at (take words (words_of p.red)) (take words (words_of p.blue)) words (first_words words narrow p.red)) ∙ ap (drop words) e ∙ drop_at (take words (words_of q.red)) (take words (words_of q.blue)) words (first_words words narrow q.red) in
    let red : p.red ≡ q.red = sym (read_back words p.red narrow hp.red) ∙ ap set_of_words reds ∙ read_back words q.red narrow hq.red in
    let blue : p.blue ≡ q.blue = sym (read_back words p.blue narrow hp.blue) ∙ ap set_of_words blues ∙ read_back words q.blue narrow hq.blue in
    λ i. record { red = red i; blue = blue i }

-- a row is made of the words and two numbers behind them
pub row_made : (words : ℕ) (numbers : List ℕ) (s : Slot) → 2 * words + 1 < length numbers → take (2 * words) numbers ≡ row_words words s.position
    → take (2 * words + 2) (set (set numbers (2 * words) (link_number s.head)) (2 * words + 1) (step_number s.head.step)) ≡ slot_row words s
row_made words numbers s room e =
    let link = link_number s.head in let step = step_number s.head.step in
    let more : 2 * words + 2 ≡ 2 * words + 1 + 1 = omega arith in
    ap (λ n. take n (set (set numbers (2 * words) link) (2 * words + 1) step)) more
    ∙ take_more_set (set numbers (2 * words) link) (2 * words + 1) step (omega (arith, room, length-set numbers (2 * words) link))
    ∙ ap (λ l. l ++ step ∷ []) (take_more_set numbers (2 * words) link (omega (arith, room)))
    ∙ append_assoc (take (2 * words) numbers) (link ∷ []) (step ∷ []) ∙ ap (λ l. l ++ link ∷ step ∷ []) e

-- another head in a row
pub head_changed : (words : ℕ) (s : Slot) (h : Head) → words ≤ 4 → set (set (slot_row words s) (2 * words) (link_number h)) (2 * words + 1) (step_number h.step) ≡ slot_row words (record { position = s.position; head = h })
head_changed words s h narrow = changed (row_words words s.position) (2 * words) (length-row_words words narrow s.position)
  where
    changed : (xs : List ℕ) (n : ℕ) → length xs ≡ n
        → set (set (xs ++ link_number s.head ∷ step_number s.head.step ∷ []) n (link_number h)) (n + 1) (step_number h.step) ≡ xs ++ link_number h ∷ step_number h.step ∷ []
    changed [] n e = let first : n ≡ 0 = sym e in ap (λ n. set (set (link_number s.head ∷ step_number s.head.step ∷ []) n (link_number h)) (n + 1) (step_number h.step)) first
    changed (x ∷ xs) zero e = absurd (omega (arith, e))
    changed (x ∷ xs) (suc n) e =
        let more : suc n + 1 ≡ suc (n + 1) = omega arith in
        ap (λ k. set (set (x ∷ xs ++ link_number s.head ∷ step_number s.head.step ∷ []) (suc n) (link_number h)) k (step_number h.step)) more
        ∙ (λ i. x ∷ changed xs n (omega (arith, e)) i)
