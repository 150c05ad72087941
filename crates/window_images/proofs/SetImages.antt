-- Images of sets, a member at a time.
use Rattle.std.proofs.Common.{◌≡◌, ◌≢◌, ℕ, ◌+◌, ◌-◌, ◌*◌, ◌/◌, ◌%◌, ◌^◌, ◌<◌, ◌≤◌, ◌⊎◌, zero, suc, Bool, true, false, cond, not, ◌&&◌, ltb, leb, eqb, List, [], ◌∷◌, length, get_or, max, w64, inl, inr, refl, sym, ap, ◌∙◌, subst, arith}
use Rattle.std.specs.FinSet.{contains, empty, insert}
use Rattle.std.specs.Int.{bit_at, trailing_zeros}
use Rattle.std.specs.Int.RustNames.{bit_and, bit_or}
use Rattle.std.proofs.Math.ListN.{set as put}
use Rattle.std.proofs.lemmas.Bool.{cases_lt, cases_eq, cases_Bool, false_from_ne_true}
use Rattle.std.proofs.lemmas.Bool.Decides.{nat_tests}
use Rattle.std.proofs.lemmas.List.{get_or_past, get_or-set_same, get_or-set_other, set-get_or, set-set, set_comm}
use Rattle.std.proofs.lemmas.Nat.{and_le_l, or_lt, mod_below, div-mul-add, mod-mul-add}
use Rattle.std.proofs.lemmas.Nat.Bits.{bit_at-zero, bit_at-trailing_zeros, bit_at_clear_same, bit_at_clear_other, bit_at_or, same_from_bits_below}
use Rattle.std.specs.Int.Bits.{or_zero_r}
use Rattle.std.proofs.lemmas.Grind.{get_or_default_zero}
use Rattle.comp_graph.specs.Vertices.{Vertices, ◌∈◌, AllBelow}
use Rattle.comp_graph.specs.Sets.{same, membership, has_set_below}
use Rattle.comp_graph.specs.Words.{word_of, set_of_words, AreWords}
use Rattle.comp_graph.specs.WordLaws.{contains-set_of_words, bit_at-word_of, word_of-lt}
use Rattle.comp_graph.proofs.Calls.{insert_words, AreWords-set, set_bit}
use Rattle.window_laws.specs.Images.{Renaming, IsImage}
use Rattle.window_images.specs.Permutations.{PermutationParts, ArePermutationParts, IsUndone, renaming, set_image}
use Rattle.window_images.specs.Making.{IsDone, from_word}

-- ---- a member at a time

equal : (a b : ℕ) → eqb a b ≡ true → a ≡ b
equal a b h = grind (arith, nat_tests)

equals : (a b : ℕ) → a ≡ b → eqb a b ≡ true
equals a b h = grind (arith, nat_tests)

differs : (a b : ℕ) → a ≢ b → eqb a b ≡ false
differs a b h = grind (arith, nat_tests)

-- w is the number of v if it goes back to v
one_image : (r : Renaming) → IsUndone r → (v w : ℕ) → eqb w (r.there v) ≡ eqb (r.back w) v
one_image r undone v w = elim (cases_Bool (eqb w (r.there v))) as (λ _. eqb w (r.there v) ≡ eqb (r.back w) v) [
  | inl is ↦ is ∙ sym (equals (r.back w) v (ap r.back (equal w (r.there v) is) ∙ undone.back_there v))
  | inr not ↦
      not ∙ sym (false_from_ne_true (eqb (r.back w) v) (λ also.
      let is = equals w (r.there v) (sym (undone.there_back w) ∙ ap r.there (equal (r.back w) v also)) in
      grind arith))
]

-- the image of one more member, if no other member is done at this step
one_done : (r : Renaming) → IsUndone r → (s done : Vertices) (left fewer : ℕ → Bool) (v : ℕ) → IsDone r s left done → left v ≡ true
    → ((x : ℕ) → fewer x ≡ (left x && not (eqb x v))) → IsDone r s fewer (insert done (r.there v))
one_done r undone s done left fewer v is member gone = record {
  part = λ x h. is.part x (first (left x) (not (eqb x v)) (sym (gone x) ∙ h));
  member = λ w.
      let x : ℕ = r.back w in
      added s done v w x (left x) (fewer x) (is.member w) (one_image r undone v w) (is.part v member) (gone x) (λ e. ap left e ∙ member);
}
  where
    first : (a b : Bool) → (a && b) ≡ true → a ≡ true
    first true b h = refl
    first false b h = h

    added : (s done : Vertices) (v w x : ℕ) (l f : Bool) → contains done w ≡ (contains s x && not l) → eqb w (r.there v) ≡ eqb x v → v ∈ s
        → f ≡ (l && not (eqb x v)) → (x ≡ v → l ≡ true) → contains (insert done (r.there v)) w ≡ (contains s x && not f)
    added s done v w x l f old one inside less here = grind (arith, membership)

same_done : (r : Renaming) (s done : Vertices) (left other : ℕ → Bool) → ((v : ℕ) → left v ≡ other v) → IsDone r s left done → IsDone r s other done
same_done r s done left other e is = record {
  part = λ v h. is.part v (e v ∙ h);
  member = λ w. is.member w ∙ ap (λ b. contains s (r.back w) && not b) (e (r.back w));
}

-- ---- a word at a time

-- the members in word k for which a bit is left, and those in later words
abbrev left_in : Vertices → ℕ → ℕ → ℕ → Bool
left_in s k rest v = cond (eqb (v / 64) k) (eqb (bit_at rest (v % 64)) 1) (ltb k (v / 64) && contains s v)

-- the images of the members but for those that are left
pub record IsPlaced (r : Renaming) (s : Vertices) (k rest : ℕ) (image : List ℕ) : Type 0 where
  pub words : AreWords image
  pub fits : rest < 2 ^ 64
  pub done : IsDone r s (left_in s k rest) (set_of_words image)

bit_test : (b : Bool) → eqb (cond b 1 0) 1 ≡ b
bit_test true = refl
bit_test false = refl

other_word : (k x : ℕ) (c : Bool) → x ≢ k → (ltb k x && c) ≡ (leb k x && c)
other_word k x c ne = grind (arith, nat_tests)

later_word : (k x : ℕ) (c : Bool) → (ltb k x && c) ≡ (leb (k + 1) x && c)
later_word k x c = grind (arith, nat_tests)

this_word : (k x : ℕ) (c : Bool) → x ≡ k → c ≡ (leb k x && c)
this_word k x c e = grind (arith, nat_tests)

past_word : (k x : ℕ) (c : Bool) → x ≡ k → (leb (k + 1) x && c) ≡ false
past_word k x c e = grind (arith, nat_tests)

-- at the word k: all its bits are left
whole_word : (s : Vertices) (k v : ℕ) → left_in s k (word_of s k) v ≡ from_word s k v
whole_word s k v = elim (cases_eq (v / 64) k) [
  | inl e ↦
      let place : k * 64 + v % 64 ≡ v = omega arith in
      ap (λ b. cond b (eqb (bit_at (word_of s k) (v % 64)) 1) (ltb k (v / 64) && contains s v)) (equals (v / 64) k e)
      ∙ ap (λ b. eqb b 1) (bit_at-word_of s k (v % 64) (mod_below v 64 (omega arith))) ∙ bit_test (contains s (k * 64 + v % 64)) ∙ ap (contains s) place
      ∙ this_word k (v / 64) (contains s v) e
  | inr ne ↦
      ap (λ b. cond b (eqb (bit_at (word_of s k) (v % 64)) 1) (ltb k (v / 64) && contains s v)) (differs (v / 64) k ne)
      ∙ other_word k (v / 64) (contains s v) ne
]

-- after it: none is left
empty_word : (s : Vertices) (k v : ℕ) → left_in s k 0 v ≡ from_word s (k + 1) v
empty_word s k v = elim (cases_eq (v / 64) k) [
  | inl e ↦
      ap (λ b. cond b (eqb (bit_at 0 (v % 64)) 1) (ltb k (v / 64) && contains s v)) (equals (v / 64) k e)
      ∙ ap (λ b. eqb b 1) (bit_at-zero (v % 64)) ∙ sym (past_word k (v / 64) (contains s v) e)
  | inr ne ↦
      ap (λ b. cond b (eqb (bit_at 0 (v % 64)) 1) (ltb k (v / 64) && contains s v)) (differs (v / 64) k ne)
      ∙ later_word k (v / 64) (contains s v)
]

pub word_begun : (r : Renaming) (s : Vertices) (k rest : ℕ) (image : List ℕ) → AreWords image → rest ≡ word_of s k
    → IsDone r s (from_word s k) (set_of_words image) → IsPlaced r s k rest image
word_begun r s k rest image words is done =
    subst (λ w. IsPlaced r s k w image) (sym is) (record {
      words = words;
      fits = word_of-lt s k;
      done = same_done r s (set_of_words image) (from_word s k) (left_in s k (word_of s k)) (λ v. sym (whole_word s k v)) done;
    })

pub word_ended : (r : Renaming) (s : Vertices) (k rest : ℕ) (image : List ℕ) → IsPlaced r s k rest image → rest ≡ 0
    → IsDone r s (from_word s (k + 1)) (set_of_words image)
word_ended r s k rest image is none =
    same_done r s (set_of_words image) (left_in s k rest) (from_word s (k + 1)) (λ v. ap (λ w. left_in s k w v) none ∙ empty_word s k v) is.done

abbrev pub lowest : ℕ → ℕ
lowest rest = trailing_zeros w64 rest

-- a word without one bit
abbrev pub cleared : ℕ → ℕ → ℕ
cleared rest bit = bit_and rest (2 ^ 64 - 1 - 1 * 2 ^ bit % 2 ^ 64)

pub lowest_small : (rest : ℕ) → rest ≢ 0 → rest < 2 ^ 64 → lowest rest < 64
lowest_small rest some fits = (bit_at-trailing_zeros w64 rest (omega (arith, some)) fits).0

-- the lowest bit is taken away
one_cleared : (s : Vertices) (k rest bit x : ℕ) → bit < 64 → left_in s k (cleared rest bit) x ≡ (left_in s k rest x && not (eqb x (k * 64 + bit)))
one_cleared s k rest bit x small = elim (cases_eq (x / 64) k) [
  | inl e ↦ here e (cases_eq (x % 64) bit)
  | inr ne ↦
      let apart : x ≢ k * 64 + bit = λ is. ne (ap (λ y. y / 64) is ∙ div-mul-add k 64 bit small) in
      ap (λ b. cond b (eqb (bit_at (cleared rest bit) (x % 64)) 1) (ltb k (x / 64) && contains s x)) (differs (x / 64) k ne)
      ∙ sym (with_true (left_in s k rest x) (eqb x (k * 64 + bit)) (differs x (k * 64 + bit) apart)
      ∙ ap (λ b. cond b (eqb (bit_at rest (x % 64)) 1) (ltb k (x / 64) && contains s x)) (differs (x / 64) k ne))
]
  where
    with_true : (a b : Bool) → b ≡ false → (a && not b) ≡ a
    with_true true b e = ap not e
    with_true false b e = refl

    with_false : (a b : Bool) → b ≡ true → (a && not b) ≡ false
    with_false true b e = ap not e
    with_false false b e = refl

    here : x / 64 ≡ k → (x % 64 ≡ bit) ⊎ (x % 64 ≢ bit) → left_in s k (cleared rest bit) x ≡ (left_in s k rest x && not (eqb x (k * 64 + bit)))
    here e (inl low) =
        let is : x ≡ k * 64 + bit = omega arith in
        ap (λ b. cond b (eqb (bit_at (cleared rest bit) (x % 64)) 1) (ltb k (x / 64) && contains s x)) (equals (x / 64) k e)
        ∙ ap (λ i. eqb (bit_at (cleared rest bit) i) 1) low ∙ ap (λ b. eqb b 1) (bit_at_clear_same w64 rest bit small)
        ∙ sym (with_false (left_in s k rest x) (eqb x (k * 64 + bit)) (equals x (k * 64 + bit) is))
    here e (inr ne) =
        let apart : x ≢ k * 64 + bit = λ is. ne (ap (λ y. y % 64) is ∙ mod-mul-add k 64 bit small) in
        ap (λ b. cond b (eqb (bit_at (cleared rest bit) (x % 64)) 1) (ltb k (x / 64) && contains s x)) (equals (x / 64) k e)
        ∙ ap (λ b. eqb b 1) (bit_at_clear_other w64 rest bit small (x % 64) (mod_below x 64 (omega arith)) ne)
        ∙ sym (with_true (left_in s k rest x) (eqb x (k * 64 + bit)) (differs x (k * 64 + bit) apart)
        ∙ ap (λ b. cond b (eqb (bit_at rest (x % 64)) 1) (ltb k (x / 64) && contains s x)) (equals (x / 64) k e))

still_left : (s : Vertices) (k rest bit : ℕ) → bit < 64 → bit_at rest bit ≡ 1 → left_in s k rest (k * 64 + bit) ≡ true
still_left s k rest bit small one =
    ap (λ b. cond b (eqb (bit_at rest ((k * 64 + bit) % 64)) 1) (ltb k ((k * 64 + bit) / 64) && contains s (k * 64 + bit)))
    (equals ((k * 64 + bit) / 64) k (div-mul-add k 64 bit small))
    ∙ ap (λ i. eqb (bit_at rest i) 1) (mod-mul-add k 64 bit small) ∙ ap (λ b. eqb b 1) one

pub next_placed : (r : Renaming) → IsUndone r → (s : Vertices) (k rest number : ℕ) (image : List ℕ) → IsPlaced r s k rest image → rest ≢ 0
    → number ≡ r.there (k * 64 + lowest rest) → number < 256 → IsPlaced r s k (cleared rest (lowest rest)) (set_bit image number)
next_placed r undone s k rest number image is some goes small =
    let bit : ℕ = lowest rest in
    let low = bit_at-trailing_zeros w64 rest (omega (arith, some)) is.fits in
    record {
      words = AreWords-set image _ _ is.words (or_lt 64 _ _ (is.words.fit _) (mod_below _ (2 ^ 64) (omega arith)));
      fits = omega (arith, and_le_l rest (2 ^ 64 - 1 - 1 * 2 ^ bit % 2 ^ 64), is.fits);
      done =
          subst (IsDone r s (left_in s k (cleared rest bit))) (sym (insert_words image number is.words small ∙ ap (insert (set_of_words image)) goes))
          (one_done r undone s (set_of_words image) (left_in s k rest) (left_in s k (cleared rest bit)) (k * 64 + bit) is.done
          (still_left s k rest bit low.0 low.1) (λ x. one_cleared s k rest bit x low.0));
    }

-- ---- the numbers below 64 apart

-- words and a number that is to join the first of them
abbrev pub joined : List ℕ → ℕ → List ℕ
joined image first = put image 0 (bit_or (get_or image 0 0) first)

pub record IsPlacing (r : Renaming) (s : Vertices) (k rest : ℕ) (image : List ℕ) (first : ℕ) : Type 0 where
  pub words : AreWords image
  pub fits : first < 2 ^ 64
  pub placed : IsPlaced r s k rest (joined image first)

or_assoc : (a b c : ℕ) → a < 2 ^ 64 → b < 2 ^ 64 → c < 2 ^ 64 → bit_or (bit_or a b) c ≡ bit_or a (bit_or b c)
or_assoc a b c fa fb fc =
    same_from_bits_below 64 (bit_or (bit_or a b) c) (bit_or a (bit_or b c)) (or_lt 64 _ c (or_lt 64 a b fa fb) fc) (or_lt 64 a _ fa (or_lt 64 b c fb fc)) (λ i h.
    bit_at_or (bit_or a b) c i ∙ ap (λ x. max x (bit_at c i)) (bit_at_or a b i)
    ∙ three (bit_at a i) (bit_at b i) (bit_at c i)
    ∙ sym (bit_at_or a (bit_or b c) i ∙ ap (max (bit_at a i)) (bit_at_or b c i)))
  where
    three : (x y z : ℕ) → max (max x y) z ≡ max x (max y z)
    three x y z = grind arith

none_joined : (image : List ℕ) → joined image 0 ≡ image
none_joined image = ap (put image 0) (or_zero_r (get_or image 0 0)) ∙ set-get_or image 0 0

pub placing_begun : (r : Renaming) (s : Vertices) (k rest : ℕ) (image : List ℕ) → AreWords image → rest ≡ word_of s k
    → IsDone r s (from_word s k) (set_of_words image) → IsPlacing r s k rest image 0
placing_begun r s k rest image words is done = record {
  words = words;
  fits = omega arith;
  placed = subst (IsPlaced r s k rest) (sym (none_joined image)) (word_begun r s k rest image words is done);
}

pub placing_ended : (r : Renaming) (s : Vertices) (k rest : ℕ) (image : List ℕ) (first : ℕ) → IsPlacing r s k rest image first → rest ≡ 0
    → IsDone r s (from_word s (k + 1)) (set_of_words (joined image first))
placing_ended r s k rest image first is none = word_ended r s k rest (joined image first) is.placed none

low_word : (image : List ℕ) (first number : ℕ) → AreWords image → first < 2 ^ 64 → number < 64
    → set_bit (joined image first) number ≡ joined image (bit_or first (1 * 2 ^ number % 2 ^ 64))
low_word image first number words fits small =
    let m : ℕ = 1 * 2 ^ number % 2 ^ 64 in
    let row : number / 64 ≡ 0 = omega (arith, small) in
    let column : number % 64 ≡ number = omega (arith, small) in
    let long : 0 < length image = omega (arith, words.four) in
    (λ i. put (joined image first) (row i) (bit_or (get_or (joined image first) (row i) 0) (1 * 2 ^ (column i) % 2 ^ 64)))
    ∙ set-set image 0 (bit_or (get_or image 0 0) first) (bit_or (get_or (joined image first) 0 0) m)
    ∙ ap (λ w. put image 0 (bit_or w m)) (get_or-set_same image 0 (bit_or (get_or image 0 0) first) 0 long)
    ∙ ap (put image 0) (or_assoc (get_or image 0 0) first m (words.fit 0) fits (mod_below (1 * 2 ^ number) (2 ^ 64) (omega arith)))

high_word : (image : List ℕ) (first number : ℕ) → 64 ≤ number → set_bit (joined image first) number ≡ joined (set_bit image number) first
high_word image first number past =
    let m : ℕ = 1 * 2 ^ (number % 64) % 2 ^ 64 in
    let j : ℕ = number / 64 in
    let w : ℕ = bit_or (get_or image 0 0) first in
    let apart : 0 ≢ j = λ e. omega (arith, e, past) in
    let apart_back : j ≢ 0 = λ e. omega (arith, e, past) in
    ap (λ x. put (joined image first) j (bit_or x m)) (get_or-set_other image 0 j w 0 apart_back)
    ∙ set_comm image 0 j w (bit_or (get_or image j 0) m) apart
    ∙ sym (ap (λ x. put (set_bit image number) 0 (bit_or x first)) (get_or-set_other image j 0 (bit_or (get_or image j 0) m) 0 apart))

pub low_placed : (r : Renaming) → IsUndone r → (s : Vertices) (k rest number : ℕ) (image : List ℕ) (first : ℕ) → IsPlacing r s k rest image first → rest ≢ 0
    → number ≡ r.there (k * 64 + lowest rest) → number < 64
    → IsPlacing r s k (cleared rest (lowest rest)) image (bit_or first (1 * 2 ^ number % 2 ^ 64))
low_placed r undone s k rest number image first is some goes small = record {
  words = is.words;
  fits = or_lt 64 first _ is.fits (mod_below _ (2 ^ 64) (omega arith));
  placed =
      subst (IsPlaced r s k (cleared rest (lowest rest))) (low_word image first number is.words is.fits small)
      (next_placed r undone s k rest number (joined image first) is.placed some goes (omega (arith, small)));
}

pub high_placed : (r : Renaming) → IsUndone r → (s : Vertices) (k rest number : ℕ) (image : List ℕ) (first : ℕ) → IsPlacing r s k rest image first → rest ≢ 0
    → number ≡ r.there (k * 64 + lowest rest) → 64 ≤ number → number < 256
    → IsPlacing r s k (cleared rest (lowest rest)) (set_bit image number) first
high_placed r undone s k rest number image first is some goes past small = record {
  words = AreWords-set image _ _ is.words (or_lt 64 _ _ (is.words.fit _) (mod_below _ (2 ^ 64) (omega arith)));
  fits = is.fits;
  placed =
      subst (IsPlaced r s k (cleared rest (lowest rest))) (high_word image first number past)
      (next_placed r undone s k rest number (joined image first) is.placed some goes small);
}

pub fewer_bits : (rest : ℕ) → rest ≢ 0 → rest < 2 ^ 64 → cleared rest (lowest rest) < rest
fewer_bits rest some fits =
    let bit : ℕ = lowest rest in
    let low = bit_at-trailing_zeros w64 rest (omega (arith, some)) fits in
    elim (cases_eq (cleared rest bit) rest) [
      | inl e ↦ absurd (let gone = bit_at_clear_same w64 rest bit low.0 in let was = ap (λ w. bit_at w bit) e in omega (arith, gone, was, low.1))
      | inr ne ↦ omega (arith, ne, and_le_l rest (2 ^ 64 - 1 - 1 * 2 ^ bit % 2 ^ 64))
    ]

-- ---- the whole set

abbrev none : Vertices
none = empty

none_has : (v : ℕ) → contains none v ≡ false
none_has v = grind (arith, membership)

-- four words without a bit
abbrev pub no_words : List ℕ
no_words = 0 ∷ 0 ∷ 0 ∷ 0 ∷ []

zero_words : (v : ℕ) → contains (set_of_words no_words) v ≡ false
zero_words v =
    contains-set_of_words no_words v
    ∙ out (ltb v 256) (eqb (bit_at (get_or no_words (v / 64) 0) (v % 64)) 1)
    (ap (λ w. eqb (bit_at w (v % 64)) 1) (zeros (v / 64)) ∙ ap (λ b. eqb b 1) (bit_at-zero (v % 64)))
  where
    out : (a b : Bool) → b ≡ false → (a && b) ≡ false
    out true b e = e
    out false b e = refl

    zeros : (k : ℕ) → get_or no_words k 0 ≡ 0
    zeros zero = refl
    zeros (suc zero) = refl
    zeros (suc (suc zero)) = refl
    zeros (suc (suc (suc zero))) = refl
    zeros (suc (suc (suc (suc k)))) = refl

pub none_done : (r : Renaming) (s : Vertices) → IsDone r s (from_word s 0) (set_of_words no_words)
none_done r s = record {
  part = λ v h. second (leb 0 (v / 64)) (contains s v) h;
  member = λ w. zero_words w ∙ none_yet (leb 0 (r.back w / 64)) (contains s (r.back w)) (all_from (r.back w / 64));
}
  where
    second : (a b : Bool) → (a && b) ≡ true → b ≡ true
    second true b h = h
    second false b h = absurd (let clash : true ≡ false = sym h in cc)

    all_from : (x : ℕ) → leb 0 x ≡ true
    all_from x = grind arith

    none_yet : (a b : Bool) → a ≡ true → false ≡ (b && not (a && b))
    none_yet true true e = refl
    none_yet true false e = refl
    none_yet false b e = absurd (let clash : true ≡ false = sym e in cc)

-- no member is left after the last word
pub all_done : (r : Renaming) (s done : Vertices) → IsDone r s (from_word s 4) done → AllBelow 256 s → IsImage r s done
all_done r s done is all w = is.member w ∙ simple (leb 4 (r.back w / 64)) (contains s (r.back w)) (λ h. past (r.back w) (all.below (r.back w) h))
  where
    past : (v : ℕ) → v < 256 → leb 4 (v / 64) ≡ false
    past v h = let row : v / 64 < 4 = omega arith in grind arith

    simple : (a b : Bool) → (b ≡ true → a ≡ false) → (b && not (a && b)) ≡ b
    simple true true h = let clash = h refl in cc
    simple false true h = refl
    simple a false h = refl

-- ---- the image as a set

past_back : (p : PermutationParts) → ArePermutationParts p → (v : ℕ) → 256 ≤ v → (renaming p).back v ≡ v
past_back p are v h = get_or_past p.back v v (omega (arith, h, are.all_back))

pub there_small : (p : PermutationParts) → ArePermutationParts p → (v : ℕ) → v < 256 → (renaming p).there v < 256
there_small p are v h = elim (cases_lt ((renaming p).there v) 256) [
  | inl l ↦ l
  | inr g ↦ absurd (omega (arith, past_back p are ((renaming p).there v) g, are.undone.back_there v, h, g))
]

pub goes_there : (p : PermutationParts) → ArePermutationParts p → (v number : ℕ) → v < 256 → number ≡ get_or p.there v 0 → number ≡ (renaming p).there v
goes_there p are v number small is = is ∙ sym (get_or_default_zero p.there v v (omega (arith, small, are.all_there)))

beyond : (s : Vertices) → AllBelow 256 s → (v : ℕ) → 256 ≤ v → contains s v ≡ false
beyond s all v h = false_from_ne_true (contains s v) (λ m. absurd (omega (arith, all.below v m, h)))

-- the image that is defined is one, if the set's members are below 256
pub set_image_is : (p : PermutationParts) → ArePermutationParts p → (s : Vertices) → AllBelow 256 s → IsImage (renaming p) s (set_image (renaming p) s)
unfolding set_image
set_image_is p are s all v =
    has_set_below (λ w. contains s ((renaming p).back w)) 256 v
    ∙ elim (cases_lt v 256) as (λ _. (ltb v 256 && contains s ((renaming p).back v)) ≡ contains s ((renaming p).back v)) [
      | inl h ↦ (let l : ltb v 256 ≡ true = grind arith in ap (λ b. b && contains s ((renaming p).back v)) l)
      | inr h ↦
          (let l : ltb v 256 ≡ false = grind arith in
          ap (λ b. b && contains s ((renaming p).back v)) l
          ∙ sym (ap (contains s) (past_back p are v h) ∙ beyond s all v h))
    ]

-- so it is each image
pub image_is : (p : PermutationParts) → ArePermutationParts p → (s t : Vertices) → AllBelow 256 s → IsImage (renaming p) s t → t ≡ set_image (renaming p) s
image_is p are s t all is = same t (set_image (renaming p) s) (λ v. is v ∙ sym (set_image_is p are s all v))
