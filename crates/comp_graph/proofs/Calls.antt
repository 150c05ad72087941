-- What the words of a result say, call by call.
use Rattle.std.proofs.Common.{◌≡◌, ℕ, ◌+◌, ◌-◌, ◌*◌, ◌/◌, ◌%◌, ◌^◌, ◌<◌, ◌≤◌, ◌≢◌, Bool, true, false, cond, not, zero, suc, List, [], ◌∷◌, length, get_or, ltb, eqb, ◌&&◌, ◌||◌, refl, sym, ap, ◌∙◌, subst, ◌⊎◌, inl, inr, arith, w64, MatchOption, Option, None, Some, is_some}
use Rattle.std.specs.Int.{bit_at, trailing_zeros}
use Rattle.std.specs.Int.RustNames.{bit_and, bit_or, count_ones}
use Rattle.std.specs.Int.Count.{ones, ones_in}
use Rattle.std.specs.FinSet as set
use Rattle.std.proofs.Math.ListN.{set as put}
use Rattle.std.proofs.lemmas.Bool.{cases_lt, cases_eq, and_left, le-ltb, lt-ltb, ltb-true, and_parts, false_from_ne_true, eqb-true, eq-eqb, ne_eqb}
use Rattle.std.proofs.lemmas.Bool.Decides.{nat_tests, Decides-like, Decides-eqb, same_from_decides}
use Rattle.std.specs.Bool.{Decides}
use lib.Pointwise.{pointwise}
use Rattle.std.proofs.lemmas.Slice.Eq.{slice_eq-Decides}
use Rattle.std.proofs.lemmas.List.{get_or-set_same, get_or-set_other, length-set, set_past}
use Rattle.std.proofs.lemmas.Nat.{div-mul-add, mod-mul-add, ones_cat, div_below, mod_below}
use Rattle.std.proofs.lemmas.Nat.Bits.{bit_at_and, bit_at_or, bit_at_not, bit_at-lt, same_from_bits_below, bit_at_set_same, bit_at_set_other, bit_at_clear_same, bit_at_clear_other, bit_at-trailing_zeros, bit_at-zero, shr_and_one}
use Rattle.comp_graph.specs.Vertices.{Vertices, count_below, AllBelow, IsLeast}
use Rattle.comp_graph.specs.Sets.{same_members, same_members-true, same_members-itself, same, membership, has_empty, has_insert, has_remove, has_union, has_both, has_difference, IsWithin-is_subset, is_subset-IsWithin}
use Rattle.comp_graph.proofs.Sets.{size_set_below, count_below-add, count_below-same, size_le_below}
use Rattle.comp_graph.specs.Words.{bits_below, has_bit, set_of_words, words_of, AreWords}
use Rattle.comp_graph.specs.WordLaws.{words_of-set_of_words, bits_below-lt, bit_at-bits_below, contains-set_of_words}

-- the four values of a function
abbrev pub four : (ℕ → ℕ) → List ℕ
four f = f 0 ∷ f 1 ∷ f 2 ∷ f 3 ∷ []

get_or-four : (f : ℕ → ℕ) (k : ℕ) → k < 4 → get_or (four f) k 0 ≡ f k
get_or-four f zero h = refl
get_or-four f (suc zero) h = refl
get_or-four f (suc (suc zero)) h = refl
get_or-four f (suc (suc (suc zero))) h = refl
get_or-four f (suc (suc (suc (suc k)))) h = absurd (omega arith)

pub AreWords-four : (f : ℕ → ℕ) → ((k : ℕ) → f k < 2 ^ 64) → AreWords (four f)
AreWords-four f fit = record { four = refl; fit = each }
  where
    each : (k : ℕ) → get_or (four f) k 0 < 2 ^ 64
    each zero = fit 0
    each (suc zero) = fit 1
    each (suc (suc zero)) = fit 2
    each (suc (suc (suc zero))) = fit 3
    each (suc (suc (suc (suc k)))) = omega arith

-- a member of a set that is given word by word
contains-four : (f : ℕ → ℕ) (v : ℕ) → set.contains (set_of_words (four f)) v ≡ (ltb v 256 && eqb (bit_at (f (v / 64)) (v % 64)) 1)
contains-four f v =
    contains-set_of_words (four f) v
    ∙ elim (cases_lt v 256) [
      | inl l ↦ ap (λ w. ltb v 256 && eqb (bit_at w (v % 64)) 1) (get_or-four f (v / 64) (div_below v 64 4 (omega arith) l))
      | inr g ↦ and_left _ _ (le-ltb v 256 g) ∙ sym (and_left _ _ (le-ltb v 256 g))
    ]

or_bits : (t : Bool) (a b i : ℕ) → (t && eqb (bit_at (bit_or a b) i) 1) ≡ ((t && eqb (bit_at a i) 1) || (t && eqb (bit_at b i) 1))
or_bits t a b i = grind (arith, nat_tests, bit_at_or a b i, bit_at-lt a i, bit_at-lt b i)

and_bits : (t : Bool) (a b i : ℕ) → (t && eqb (bit_at (bit_and a b) i) 1) ≡ ((t && eqb (bit_at a i) 1) && (t && eqb (bit_at b i) 1))
and_bits t a b i = grind (arith, nat_tests, bit_at_and a b i, bit_at-lt a i, bit_at-lt b i)

and_not_bits : (t : Bool) (a b i : ℕ) → b < 2 ^ 64 → i < 64 → (t && eqb (bit_at (bit_and a (2 ^ 64 - 1 - b)) i) 1) ≡ ((t && eqb (bit_at a i) 1) && not (t && eqb (bit_at b i) 1))
and_not_bits t a b i fit small =
    grind (arith, nat_tests, bit_at_and a (2 ^ 64 - 1 - b) i, bit_at_not w64 b i fit small, bit_at-lt a i, bit_at-lt b i)

module _ (a b : List ℕ) where
  abbrev pub or_words : ℕ → ℕ
  or_words k = bit_or (get_or a k 0) (get_or b k 0)

  abbrev pub and_words : ℕ → ℕ
  and_words k = bit_and (get_or a k 0) (get_or b k 0)

  abbrev pub and_not_words : ℕ → ℕ
  and_not_words k = bit_and (get_or a k 0) (2 ^ 64 - 1 - get_or b k 0)

  pub union_words : set_of_words (four or_words) ≡ set.union (set_of_words a) (set_of_words b)
  union_words = same _ _ (λ v.
      contains-four or_words v ∙ or_bits (ltb v 256) _ _ (v % 64)
      ∙ sym (has_union _ _ v ∙ (λ i. contains-set_of_words a v i || contains-set_of_words b v i)))

  pub intersection_words : set_of_words (four and_words) ≡ set.intersection (set_of_words a) (set_of_words b)
  intersection_words = same _ _ (λ v.
      contains-four and_words v ∙ and_bits (ltb v 256) _ _ (v % 64)
      ∙ sym (has_both _ _ v ∙ (λ i. contains-set_of_words a v i && contains-set_of_words b v i)))

  pub difference_words : AreWords b → set_of_words (four and_not_words) ≡ set.difference (set_of_words a) (set_of_words b)
  difference_words ok = same _ _ (λ v.
      contains-four and_not_words v ∙ and_not_bits (ltb v 256) _ _ (v % 64) (ok.fit (v / 64)) (mod_below v 64 (omega arith))
      ∙ sym (has_difference _ _ v ∙ (λ i. contains-set_of_words a v i && not (contains-set_of_words b v i))))

-- one word is another one, which differs from the old word at most in the bit of v
changed : (words : List ℕ) (v w : ℕ) (b : Bool) → v < 256 → length words ≡ 4 → bit_at w (v % 64) ≡ cond b 1 0 → ((i : ℕ) → i < 64 → i ≢ v % 64 → bit_at w i ≡ bit_at (get_or words (v / 64) 0) i) → (u : ℕ) → set.contains (set_of_words (put words (v / 64) w)) u ≡ cond (eqb u v) b (set.contains (set_of_words words) u)
changed words v w b small long here others u =
    let row = div_below v 64 4 (omega arith) small in
    elim (cases_eq u v) [
      | inl e ↦
          let within : ltb v 256 ≡ true = lt-ltb v 256 small in
          let read = get_or-set_same words (v / 64) w 0 (omega (arith, row)) in
          ap (set.contains (set_of_words (put words (v / 64) w))) e
          ∙ contains-set_of_words (put words (v / 64) w) v
          ∙ (λ i. within i && eqb (bit_at (read i) (v % 64)) 1)
          ∙ ap (λ n. eqb n 1) here ∙ bit_test b ∙ sym (ap (λ t. cond t b (set.contains (set_of_words words) u)) (eq-eqb u v e))
      | inr ne ↦
          contains-set_of_words (put words (v / 64) w) u
          ∙ ap (λ n. ltb u 256 && eqb n 1) (other u ne (cases_eq (u / 64) (v / 64)))
          ∙ sym (contains-set_of_words words u)
          ∙ sym (ap (λ t. cond t b (set.contains (set_of_words words) u)) (ne_eqb u v ne))
    ]
  where
    bit_test : (b : Bool) → eqb (cond b 1 0) 1 ≡ b
    bit_test true = refl
    bit_test false = refl

    other : (u : ℕ) → u ≢ v → (u / 64 ≡ v / 64) ⊎ (u / 64 ≢ v / 64) → bit_at (get_or (put words (v / 64) w) (u / 64) 0) (u % 64) ≡ bit_at (get_or words (u / 64) 0) (u % 64)
    other u ne (inl e) =
        let row = div_below v 64 4 (omega arith) small in
        let apart : u % 64 ≢ v % 64 = λ r. ne (omega arith) in
        ap (λ k. bit_at (get_or (put words (v / 64) w) k 0) (u % 64)) e
        ∙ ap (λ x. bit_at x (u % 64)) (get_or-set_same words (v / 64) w 0 (omega (arith, row)))
        ∙ others (u % 64) (mod_below u 64 (omega arith)) apart
        ∙ ap (λ k. bit_at (get_or words k 0) (u % 64)) (sym e)
    other u ne (inr ne') = ap (λ x. bit_at x (u % 64)) (get_or-set_other words (v / 64) (u / 64) w 0 ne')

abbrev pub set_bit : List ℕ → ℕ → List ℕ
set_bit words v = put words (v / 64) (bit_or (get_or words (v / 64) 0) (1 * 2 ^ (v % 64) % 2 ^ 64))

abbrev pub clear_bit : List ℕ → ℕ → List ℕ
clear_bit words v = put words (v / 64) (bit_and (get_or words (v / 64) 0) (2 ^ 64 - 1 - 1 * 2 ^ (v % 64) % 2 ^ 64))

pub insert_words : (words : List ℕ) (v : ℕ) → AreWords words → v < 256 → set_of_words (set_bit words v) ≡ set.insert (set_of_words words) v
insert_words words v ok small =
    let i = mod_below v 64 (omega arith) in
    same _ _ (λ u.
    changed words v (bit_or (get_or words (v / 64) 0) (1 * 2 ^ (v % 64) % 2 ^ 64)) true small ok.four (bit_at_set_same w64 _ (v % 64) i) (λ j _ ne. bit_at_set_other w64 _ (v % 64) i j ne) u
    ∙ bool_or (eqb u v) _ ∙ sym (has_insert _ v u))
  where
    bool_or : (a b : Bool) → cond a true b ≡ (a || b)
    bool_or true b = refl
    bool_or false b = refl

pub remove_words : (words : List ℕ) (v : ℕ) → AreWords words → v < 256 → set_of_words (clear_bit words v) ≡ set.remove (set_of_words words) v
remove_words words v ok small =
    let i = mod_below v 64 (omega arith) in
    same _ _ (λ u.
    changed words v (bit_and (get_or words (v / 64) 0) (2 ^ 64 - 1 - 1 * 2 ^ (v % 64) % 2 ^ 64)) false small ok.four (bit_at_clear_same w64 _ (v % 64) i) (λ j l ne. bit_at_clear_other w64 _ (v % 64) i j l ne) u
    ∙ bool_not (eqb u v) _ ∙ sym (has_remove _ v u))
  where
    bool_not : (a b : Bool) → cond a false b ≡ (not a && b)
    bool_not true b = refl
    bool_not false b = refl

pub AreWords-set : (words : List ℕ) (k w : ℕ) → AreWords words → w < 2 ^ 64 → AreWords (put words k w)
AreWords-set words k w ok fits = record {
  four = length-set words k w ∙ ok.four;
  fit = λ j. elim (cases_lt k (length words)) [
    | inl l ↦ elim (cases_eq j k) [
      | inl e ↦ omega (arith, ap (λ i. get_or (put words k w) i 0) e, get_or-set_same words k w 0 l)
      | inr ne ↦ omega (arith, get_or-set_other words k j w 0 ne, ok.fit j)
    ]
    | inr g ↦ omega (arith, ok.fit j, ap (λ ws. get_or ws j 0) (set_past words k w g))
  ];
}

-- ---- how many members

bits_of : (w k : ℕ) → w < 2 ^ k → bits_below (λ i. eqb (bit_at w i) 1) k ≡ w
bits_of w k fits = same_from_bits_below k _ w (bits_below-lt _ k) fits (λ i h.
    bit_at-bits_below (λ j. eqb (bit_at w j) 1) k i h ∙ grind (arith, nat_tests, bit_at-lt w i))

one_digit : (b : Bool) → count_ones (cond b 1 0) ≡ cond b 1 0
unfolding ones ones_in
one_digit true = refl
one_digit false = refl

ones-bits_below : (p : ℕ → Bool) (n : ℕ) → count_ones (bits_below p n) ≡ count_below p n
unfolding bits_below count_below
ones-bits_below p zero = one_digit false
ones-bits_below p (suc n) =
    ones_cat n (cond (p n) 1 0) (bits_below p n) (bits_below-lt p n) ∙ (λ i. one_digit (p n) i + ones-bits_below p n i)

-- the set bits of a word are counted bit by bit
pub count_ones-by_count : (w : ℕ) → w < 2 ^ 64 → count_ones w ≡ count_below (λ i. eqb (bit_at w i) 1) 64
count_ones-by_count w fits = ap count_ones (sym (bits_of w 64 fits)) ∙ ones-bits_below (λ i. eqb (bit_at w i) 1) 64

-- the bits of word k are the members from k * 64 on
count_word : (words : List ℕ) (k : ℕ) → get_or words k 0 < 2 ^ 64 → count_below (λ i. has_bit words (k * 64 + i)) 64 ≡ count_ones (get_or words k 0)
count_word words k fits =
    count_below-same _ (λ i. eqb (bit_at (get_or words k 0) i) 1) 64 (λ i h.
    ap (λ j. eqb (bit_at (get_or words j 0) ((k * 64 + i) % 64)) 1) (div-mul-add k 64 i h)
    ∙ ap (λ j. eqb (bit_at (get_or words k 0) j) 1) (mod-mul-add k 64 i h))
    ∙ sym (count_ones-by_count _ fits)

pub len_words : (words : List ℕ) → AreWords words → set.len (set_of_words words) ≡ count_ones (get_or words 0 0) + count_ones (get_or words 1 0) + count_ones (get_or words 2 0) + count_ones (get_or words 3 0)
unfolding set_of_words
len_words words ok =
    let p : ℕ → Bool = has_bit words in
    let word = λ (k : ℕ). count_word words k (ok.fit k) in
    let s3 = count_below-add p 192 64 in
    let s2 = count_below-add p 128 64 in
    let s1 = count_below-add p 64 64 in
    let w0 = count_below-same p (λ i. p (0 * 64 + i)) 64 (λ i h. ap p (omega arith)) ∙ word 0 in
    let w1 = word 1 in
    let w2 = word 2 in
    let w3 = word 3 in
    let whole = size_set_below p 256 in
    whole ∙ s3 ∙ ap (λ n. n + count_below (λ i. p (192 + i)) 64) (s2 ∙ ap (λ n. n + count_below (λ i. p (128 + i)) 64) s1) ∙ (λ i. w0 i + w1 i + w2 i + w3 i)

pub AllBelow-words : (words : List ℕ) → AllBelow 256 (set_of_words words)
AllBelow-words words = record { below = λ v e. ltb-true v 256 (and_parts (ltb v 256) _ (sym (contains-set_of_words words v) ∙ e)).0 }

-- ---- the least member

-- no member stands in a word that is 0
pub not_in_zero_word : (words : List ℕ) (v : ℕ) → get_or words (v / 64) 0 ≡ 0 → set.contains (set_of_words words) v ≡ false
not_in_zero_word words v e =
    contains-set_of_words words v
    ∙ ap (λ w. ltb v 256 && eqb (bit_at w (v % 64)) 1) e
    ∙ ap (λ n. ltb v 256 && eqb n 1) (bit_at-zero (v % 64)) ∙ grind (arith, nat_tests)

pub none_in_zero_words : (words : List ℕ) → ((k : ℕ) → k < 4 → get_or words k 0 ≡ 0) → set_of_words words ≡ set.empty
none_in_zero_words words zeros = same _ _ (λ v. elim (cases_lt v 256) [
  | inl l ↦ not_in_zero_word words v (zeros (v / 64) (div_below v 64 4 (omega arith) l)) ∙ sym (has_empty v)
  | inr g ↦ contains-set_of_words words v ∙ and_left _ _ (le-ltb v 256 g) ∙ sym (has_empty v)
])

pub least_in_words : (words : List ℕ) (k : ℕ) → AreWords words → k < 4 → ((j : ℕ) → j < k → get_or words j 0 ≡ 0) → 0 < get_or words k 0 → IsLeast (set_of_words words) (k * 64 + trailing_zeros w64 (get_or words k 0))
least_in_words words k ok small zeros some =
    let w = get_or words k 0 in
    let t = trailing_zeros w64 w in
    let here = bit_at-trailing_zeros w64 w some (ok.fit k) in
    let row = div-mul-add k 64 t here.0 in
    let column = mod-mul-add k 64 t here.0 in
    record {
      member = contains-set_of_words words (k * 64 + t)
          ∙ (λ i. lt-ltb (k * 64 + t) 256 (omega (arith, here.0)) i && eqb (bit_at (get_or words (row i) 0) (column i)) 1)
          ∙ ap (λ n. eqb n 1) here.1;
      least = λ u e. elim (cases_lt u (k * 64 + t)) [ inl l ↦ absurd (smaller u l e) | inr g ↦ g ];
    }
  where
    smaller : (u : ℕ) → u < k * 64 + trailing_zeros w64 (get_or words k 0) → set.contains (set_of_words words) u ≡ true → ⊥
    smaller u l e =
        let w = get_or words k 0 in
        let here = bit_at-trailing_zeros w64 w some (ok.fit k) in
        let set_bit = eqb-true _ 1 (and_parts (ltb u 256) _ (sym (contains-set_of_words words u) ∙ e)).1 in
        elim (cases_lt (u / 64) k) [
          | inl before ↦ absurd (let zero_bit = ap (λ x. bit_at x (u % 64)) (zeros (u / 64) before) ∙ bit_at-zero (u % 64) in omega (arith, set_bit, zero_bit))
          | inr g ↦
              let row : u / 64 ≡ k = omega (arith, here.0) in
              let clear = ap (λ j. bit_at (get_or words j 0) (u % 64)) row ∙ here.2 (u % 64) (omega arith) in
              omega (arith, set_bit, clear)
        ]

pub empty_words : set_of_words (0 ∷ 0 ∷ 0 ∷ 0 ∷ []) ≡ set.empty
empty_words = none_in_zero_words (four (λ _. 0)) (λ k l. get_or-four (λ _. 0) k l)

pub has_words : (words : List ℕ) (v : ℕ) → v < 256 → eqb (bit_and (get_or words (v / 64) 0 / 2 ^ (v % 64)) 1) 1 ≡ set.contains (set_of_words words) v
has_words words v small =
    ap (λ n. eqb n 1) (shr_and_one (get_or words (v / 64) 0) (v % 64))
    ∙ sym (contains-set_of_words words v ∙ ap (λ b. b && has_bit words v) (lt-ltb v 256 small))

pub len_words_most : (words : List ℕ) → AreWords words → set.len (set_of_words words) ≤ 256
len_words_most words ok = size_le_below 256 (set_of_words words) (AllBelow-words words)

pub is_subset-by_difference : (s t : Vertices) → set.difference s t ≡ set.empty → set.is_subset s t ≡ true
is_subset-by_difference s t none = IsWithin-is_subset s t (λ v e. let out = ap (λ d. set.contains d v) none in grind (arith, membership))

pub is_subset-by_member : (s t : Vertices) (v : ℕ) → set.contains (set.difference s t) v ≡ true → set.is_subset s t ≡ false
is_subset-by_member s t v e = false_from_ne_true _ (λ all. let at = is_subset-IsWithin s t all v in absurd (grind (arith, membership)))

pub IsLeast_at : {s t : Vertices} {v : ℕ} → s ≡ t → IsLeast s v → IsLeast t v
IsLeast_at {v = v} e h = subst (λ s. IsLeast s v) e h

pub is_subset-by_least : (o : Option ℕ) (r : Bool) (s t d : Vertices) → d ≡ set.difference s t → MatchOption o (d ≡ set.empty) (IsLeast d) → is_some o ≡ not r → r ≡ set.is_subset s t
is_subset-by_least None r s t d is none answer = grind (arith, is_subset-by_difference s t (sym is ∙ none))
is_subset-by_least (Some v) r s t d is some answer = grind (arith, is_subset-by_member s t v (ap (λ x. set.contains x v) (sym is) ∙ some.member))

-- ---- equality

pub eq_words : (a b : List ℕ) (r : Bool) → AreWords a → AreWords b → r ≡ pointwise eqb a b → r ≡ same_members (set_of_words a) (set_of_words b)
eq_words a b r ok_a ok_b e =
    let s = set_of_words a in
    let t = set_of_words b in
    let of_words : Decides r (s ≡ t) =
    Decides-like r (ap set_of_words) (λ is. sym (words_of-set_of_words a ok_a) ∙ ap words_of is ∙ words_of-set_of_words b ok_b) (slice_eq-Decides Decides-eqb a b r e) in
    same_from_decides r (same_members s t) of_words (same_members-true s t, λ is. subst (λ x. same_members s x ≡ true) is (same_members-itself s))
