-- Laws of the index: a search meets just the rows, and a free place exists.
use Rattle.std.proofs.Common.{◌≡◌, ℕ, zero, suc, ◌+◌, ◌-◌, ◌*◌, ◌/◌, ◌%◌, ◌^◌, ◌<◌, ◌≤◌, ◌≢◌, true, false, cond, eqb, ltb, bit_xor, fold, List, [], ◌∷◌, ◌++◌, length, take, drop, get_or, set, replicate, ◌⊎◌, inl, inr, refl, sym, ap, ◌∙◌, subst, arith, length-set}
use Rattle.std.proofs.lemmas.List.{take_at, take_more, length-take-le, get_or_append_left, get_or_push, get_or-set_same, get_or-set_other, get_or-replicate, length-map, length-replicate, length_push}
use Rattle.std.proofs.lemmas.Bool.{cases_eq, cases_lt}
use Rattle.std.proofs.lemmas.Bool.Decides.{nat_tests}
use Rattle.std.proofs.lemmas.Nat.{mod_below, xor_lt}
use Rattle.std.proofs.Math.Nat.{div-lt_iff_lt-mul, mul-lt-mul_of_pos_right}
use Rattle.position_arena.specs.Index.{nowhere, mixed, hash_of, homed, probed, met, IsMet, free_count, home_of, key_at, IsIndex, IsPlaced, keys_of, IsNoKey}

-- ---- the place that a hash names

mixed_below : (hash word : ℕ) → mixed hash word < 2 ^ 64
unfolding mixed
mixed_below hash word =
    let product : ℕ = (bit_xor hash word * 11400714819323198485) % 2 ^ 64 in
    let low : product < 2 ^ 64 = mod_below (bit_xor hash word * 11400714819323198485) (2 ^ 64) (omega arith) in
    xor_lt 64 product (product / 2 ^ 32) low (omega (arith, low))

fold_below : (hash : ℕ) (words : List ℕ) → hash < 2 ^ 64 → fold mixed hash words < 2 ^ 64
fold_below hash [] below = below
fold_below hash (word ∷ words) below = fold_below (mixed hash word) words (mixed_below hash word)

pub hash_below : (words : List ℕ) → hash_of words < 2 ^ 64
hash_below words = fold_below 0 words (omega arith)

pub homed_below : (size hash : ℕ) → 0 < size → hash < 2 ^ 64 → homed size hash < size
unfolding homed
homed_below size hash some below = (div-lt_iff_lt-mul (omega arith)).1 (let product = mul-lt-mul_of_pos_right below some in omega (arith, product))

-- ---- places round the end

pub probed_is : (size home turn : ℕ) → ((home + turn < size) × (probed size home turn ≡ home + turn)) ⊎ ((size ≤ home + turn) × (probed size home turn ≡ home + turn - size))
probed_is size home turn = elim (cases_lt (home + turn) size) [
  | inl less ↦ inl (less, ap (λ b. cond b (home + turn) (home + turn - size)) (let t : ltb (home + turn) size ≡ true = grind (arith, nat_tests, less) in t))
  | inr more ↦ inr (more, ap (λ b. cond b (home + turn) (home + turn - size)) (let t : ltb (home + turn) size ≡ false = grind (arith, nat_tests, more) in t))
]

pub probed_within : (size home turn : ℕ) → home < size → turn < size → probed size home turn < size
probed_within size home turn h t = elim (probed_is size home turn) [ inl here ↦ omega (arith, here.0, here.1) | inr here ↦ omega (arith, here.0, here.1, h, t) ]

pub probed_first : (size home : ℕ) → home < size → home ≡ probed size home 0
probed_first size home h = elim (probed_is size home 0) [ inl here ↦ omega (arith, here.1) | inr here ↦ omega (arith, here.0, h) ]

-- the place after the one that is looked at is the next
pub probed_next : (size home turn : ℕ) → home < size → turn < size → probed size (probed size home turn) 1 ≡ probed size home (turn + 1)
probed_next size home turn h t = elim (probed_is size home turn) [
  | inl a ↦ elim (probed_is size (probed size home turn) 1) [
    | inl b ↦ elim (probed_is size home (turn + 1)) [ inl c ↦ omega (arith, a.0, a.1, b.0, b.1, c.0, c.1) | inr c ↦ omega (arith, a.0, a.1, b.0, b.1, c.0, c.1) ]
    | inr b ↦ elim (probed_is size home (turn + 1)) [ inl c ↦ omega (arith, a.0, a.1, b.0, b.1, c.0, c.1) | inr c ↦ omega (arith, a.0, a.1, b.0, b.1, c.0, c.1) ]
  ]
  | inr a ↦ elim (probed_is size (probed size home turn) 1) [
    | inl b ↦ elim (probed_is size home (turn + 1)) [ inl c ↦ omega (arith, a.0, a.1, b.0, b.1, c.0, c.1) | inr c ↦ omega (arith, a.0, a.1, b.0, b.1, c.0, c.1) ]
    | inr b ↦ elim (probed_is size home (turn + 1)) [ inl c ↦ omega (arith, a.0, a.1, b.0, b.1, c.0, c.1, h, t) | inr c ↦ omega (arith, a.0, a.1, b.0, b.1, c.0, c.1, h, t) ]
  ]
]

-- each place is looked at
pub probed_all : (size home j : ℕ) → home < size → j < size → (turn : ℕ) × (turn < size) × (probed size home turn ≡ j)
probed_all size home j h l = elim (cases_lt j home) [
  | inl less ↦ (j + size - home, omega (arith, less, h), elim (probed_is size home (j + size - home)) [ inl here ↦ omega (arith, here.0, here.1, less, h) | inr here ↦ omega (arith, here.0, here.1, less, h) ])
  | inr more ↦ (j - home, omega (arith, more, l), elim (probed_is size home (j - home)) [ inl here ↦ omega (arith, here.0, here.1, more) | inr here ↦ omega (arith, here.0, here.1, more, l) ])
]

-- ---- how many places are free

pub free_none : (places : List ℕ) → ((j : ℕ) → j < length places → get_or places j 0 ≢ nowhere) → free_count places ≡ 0
free_none [] taken = refl
free_none (p ∷ places) taken =
    let first = taken 0 (omega arith) in
    let test : eqb p nowhere ≡ false = grind (arith, nat_tests, first) in
    let rest = free_none places (λ j h. taken (suc j) (omega arith)) in
    ap (λ b. cond b 1 0 + free_count places) test ∙ omega (arith, rest)

pub free_replicate : (n : ℕ) → free_count (replicate n nowhere) ≡ n
free_replicate zero = refl
free_replicate (suc n) = let rest = free_replicate n in omega (arith, rest)

pub free_taken : (places : List ℕ) (j k : ℕ) → j < length places → get_or places j 0 ≡ nowhere → k < nowhere → free_count (set places j k) + 1 ≡ free_count places
free_taken [] j k h free less = absurd (omega arith)
free_taken (p ∷ places) zero k h free less =
    let was : eqb p nowhere ≡ true = grind (arith, nat_tests, free) in let is : eqb k nowhere ≡ false = grind (arith, nat_tests, less) in
    ap (λ b. cond b 1 0 + free_count places + 1) is ∙ (let one : 0 + free_count places + 1 ≡ 1 + free_count places = omega arith in one) ∙ ap (λ b. cond b 1 0 + free_count places) (sym was)
free_taken (p ∷ places) (suc j) k h free less = let rest = free_taken places j k (omega arith) free less in omega (arith, rest)

-- a search that meets no free place has seen them all
pub all_taken : (places : List ℕ) (home : ℕ) → home < length places → ((t : ℕ) → t < length places → met places home t ≢ nowhere) → free_count places ≡ 0
all_taken places home h taken = free_none places (λ j l free.
    let at = probed_all (length places) home j h l in taken at.0 at.1 (ap (λ k. get_or places k 0) at.2 ∙ free))

-- ---- a search

-- none of the first places that are looked at is free or has the key
abbrev pub Passed : List (List ℕ) → List ℕ → List ℕ → ℕ → Type 0
Passed keys places key turns = (t : ℕ) → t < turns → (met places (home_of places key) t ≢ nowhere) × (key_at keys (met places (home_of places key) t) ≢ key)

module _ (keys : List (List ℕ)) (places : List ℕ) (is : IsIndex keys places) (few : length keys ≤ nowhere) (key : List ℕ) where
  -- then no key comes before a free place
  pub none_before : (turns : ℕ) → Passed keys places key turns → met places (home_of places key) turns ≡ nowhere → IsNoKey keys key
  none_before turns passed free k h same =
      let listed = is.listed k h in
      let there : IsMet places (home_of places key) k = subst (λ q. IsMet places (home_of places q) k) same listed in
      elim (cases_lt there.turn turns) [
        | inl less ↦ (passed there.turn less).1 (ap (key_at keys) there.here ∙ same)
        | inr more ↦ elim (cases_eq there.turn turns) [
          | inl e ↦ let bad : k ≡ nowhere = sym there.here ∙ ap (met places (home_of places key)) e ∙ free in omega (arith, bad, h, few)
          | inr other ↦ there.taken turns (omega (arith, more, other)) free
        ]
      ]

  pub none_at_all : Passed keys places key (length places) → IsNoKey keys key
  none_at_all passed k h same =
      let there : IsMet places (home_of places key) k = subst (λ q. IsMet places (home_of places q) k) same (is.listed k h) in
      (passed there.turn there.within).1 (ap (key_at keys) there.here ∙ same)

-- ---- a key more

module _ (keys : List (List ℕ)) (places after : List ℕ) (key : List ℕ) (is : IsIndex keys places) (few : length keys < nowhere) (placed : IsPlaced places after (home_of places key) (length keys)) (home : home_of places key < length places) where
  abbrev spot : ℕ
  spot = probed (length places) (home_of places key) placed.turn

  spot_within : spot < length places
  spot_within = probed_within (length places) (home_of places key) placed.turn home placed.within

  same_size : length after ≡ length places
  same_size = ap length placed.written ∙ length-set places spot (length keys)

  written_at : get_or after spot 0 ≡ length keys
  written_at = ap (λ l. get_or l spot 0) placed.written ∙ get_or-set_same places spot (length keys) 0 spot_within

  kept_at : (j : ℕ) → j ≢ spot → get_or after j 0 ≡ get_or places j 0
  kept_at j other = ap (λ l. get_or l j 0) placed.written ∙ get_or-set_other places spot j (length keys) 0 other

  -- what was taken is taken, and stays as it was
  kept : (j : ℕ) → get_or places j 0 ≢ nowhere → get_or after j 0 ≡ get_or places j 0
  kept j taken = kept_at j (λ same. taken (ap (λ j. get_or places j 0) same ∙ placed.free))

  same_met : (home t : ℕ) → get_or after (probed (length after) home t) 0 ≡ get_or after (probed (length places) home t) 0
  same_met home t = ap (λ n. get_or after (probed n home t) 0) same_size

  still_met : (home k : ℕ) → k < nowhere → IsMet places home k → IsMet after home k
  still_met home k less m = record {
    turn = m.turn;
    within = omega (arith, m.within, same_size);
    here = same_met home m.turn ∙ kept (probed (length places) home m.turn) (λ bad. let no : k ≡ nowhere = sym m.here ∙ bad in omega (arith, no, less)) ∙ m.here;
    taken = λ t h bad. m.taken t h (sym (kept (probed (length places) home t) (m.taken t h)) ∙ sym (same_met home t) ∙ bad);
  }

  last_met : IsMet after (home_of places key) (length keys)
  last_met = record {
    turn = placed.turn;
    within = omega (arith, placed.within, same_size);
    here = same_met (home_of places key) placed.turn ∙ written_at;
    taken = λ t h bad. placed.taken t h (sym (kept (probed (length places) (home_of places key) t) (placed.taken t h)) ∙ sym (same_met (home_of places key) t) ∙ bad);
  }

  pub placed_index : IsIndex (keys ++ key ∷ []) after
  placed_index = record {
    listed = λ k h. listed k (omega (arith, h, length_push keys key)) (cases_eq k (length keys));
    known = λ j h taken. known j (omega (arith, h, same_size)) taken (cases_eq j spot);
    free =
        let count = free_taken places spot (length keys) spot_within placed.free few in
        let counted : free_count after ≡ free_count (set places spot (length keys)) = ap free_count placed.written in
        omega (arith, length_push keys key, count, counted, is.free, same_size);
  }
    where
      listed : (k : ℕ) → k < length keys + 1 → (k ≡ length keys) ⊎ (k ≢ length keys) → IsMet after (home_of after (key_at (keys ++ key ∷ []) k)) k
      listed k h (inl same) =
          subst (λ n. IsMet after (homed n (hash_of (key_at (keys ++ key ∷ []) k))) k) (sym same_size)
          (subst (λ q. IsMet after (home_of places q) k) (sym (get_or_push keys key [] k (sym same))) (subst (IsMet after (home_of places key)) (sym same) last_met))
      listed k h (inr other) =
          let less : k < length keys = omega (arith, h, other) in
          subst (λ n. IsMet after (homed n (hash_of (key_at (keys ++ key ∷ []) k))) k) (sym same_size)
          (subst (λ q. IsMet after (home_of places q) k) (sym (get_or_append_left keys (key ∷ []) [] k less)) (still_met (home_of places (key_at keys k)) k (omega (arith, less, few)) (is.listed k less)))

      known : (j : ℕ) → j < length places → get_or after j 0 ≢ nowhere → (j ≡ spot) ⊎ (j ≢ spot) → get_or after j 0 < length (keys ++ key ∷ [])
      known j h taken (inl same) = let here = ap (λ j. get_or after j 0) same ∙ written_at in omega (arith, here, length_push keys key)
      known j h taken (inr other) =
          let old = kept_at j other in
          let less = is.known j h (λ bad. taken (old ∙ bad)) in omega (arith, old, less, length_push keys key)

-- no key
pub empty_index : (n : ℕ) → IsIndex [] (replicate n nowhere)
empty_index n = record {
  listed = λ k h. absurd (omega (arith, h));
  known = λ j h taken. absurd (taken (get_or-replicate n j nowhere 0 (omega (arith, h, length-replicate n nowhere))));
  free = let count = free_replicate n in let size = length-replicate n nowhere in omega (arith, count, size);
}

-- ---- the index of all rows

pub whole_after : (len : ℕ) (new old : List ℕ) → length new ≡ length old → len ≡ length old → take len (new ++ drop (length new) old) ≡ new
whole_after len new old e f = take_at new (drop (length new) old) len (e ∙ sym f)

pub length-keys : (width : ℕ) (rows : List (List ℕ)) → length (keys_of width rows) ≡ length rows
length-keys width rows = length-map rows (take width)

pub key_at-keys : (width : ℕ) (rows : List (List ℕ)) (k : ℕ) → k < length rows → key_at (keys_of width rows) k ≡ take width (get_or rows k [])
key_at-keys width [] k h = absurd (omega arith)
key_at-keys width (row ∷ rows) zero h = refl
key_at-keys width (row ∷ rows) (suc k) h = key_at-keys width rows k (omega arith)

-- the index is not full
pub not_full : (keys : List (List ℕ)) (k : ℕ) (places : List ℕ) → k ≤ length keys → k < length places → IsIndex (take k keys) places → 0 < free_count places
not_full keys k places h room is = let free = is.free in let size = length-take-le k keys h in omega (arith, free, size, room)

pub row_indexed : (width : ℕ) (rows : List (List ℕ)) (k size len hash : ℕ) (places given new row : List ℕ) → k < length rows → length rows < size → length rows ≤ nowhere
    → IsIndex (take k (keys_of width rows)) places → length places ≡ size → given ≡ places → row ≡ get_or rows k [] → hash ≡ hash_of (take width row) → IsPlaced given new (homed (length given) hash) k → len ≡ length places
    → IsIndex (take (k + 1) (keys_of width rows)) (take len (new ++ drop (length new) places)) × (length (take len (new ++ drop (length new) places)) ≡ size)
row_indexed width rows k size len hash places given new row within room few is same_size same row_is hash_is placed len_is = (
  subst (IsIndex (take (k + 1) keys)) (sym whole) (subst (λ ks. IsIndex ks new) (sym more) (placed_index (take k keys) places new key is (omega (arith, count, within, few)) put (homed_below (length places) (hash_of key) (omega (arith, same_size, room, within)) (hash_below key)))),
  ap length whole ∙ new_size ∙ same_size,
)
  where
    keys : List (List ℕ)
    keys = keys_of width rows

    key : List ℕ
    key = take width row

    new_size : length new ≡ length places
    new_size = ap length placed.written ∙ length-set given _ k ∙ ap length same

    whole : take len (new ++ drop (length new) places) ≡ new
    whole = whole_after len new places new_size len_is

    count : length (take k keys) ≡ k
    count = length-take-le k keys (omega (arith, within, length-keys width rows))

    more : take (k + 1) keys ≡ take k keys ++ key ∷ []
    more = take_more keys k [] (omega (arith, within, length-keys width rows)) ∙ ap (λ q. take k keys ++ q ∷ []) (key_at-keys width rows k within ∙ ap (take width) (sym row_is))

    put : IsPlaced places new (home_of places key) (length (take k keys))
    put = subst (λ n. IsPlaced places new (home_of places key) n) (sym count) (subst (λ n. IsPlaced places new (homed (length places) n) k) hash_is (subst (λ l. IsPlaced l new (homed (length l) hash) k) same placed))
