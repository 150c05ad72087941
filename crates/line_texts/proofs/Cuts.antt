-- Bytes are cut in one way: at the first of a byte, and into words that are parted by single spaces.
use Rattle.std.proofs.Common.{◌≡◌, ◌≢◌, ℕ, ◌<◌, ◌^◌, Bool, false, eqb, ◌||◌, List, [], ◌∷◌, ◌++◌, refl, sym, ap, ◌∙◌, subst, inl, inr, arith}
use Rattle.std.specs.List.{All}
use Rattle.std.specs.Fmt.{decimal}
use Rattle.std.proofs.lemmas.Bool.{cases_eq}
use Rattle.std.proofs.lemmas.Bool.Decides.{nat_tests}
use Rattle.std.proofs.lemmas.Fmt.{decimal_is_IsNumeral}
use Rattle.std.proofs.lemmas.List.Elements.{All-nil, All-cons, All-head, All-tail, All-append, All-from_get_or}
use Rattle.std.proofs.lemmas.Str.Parse.{digit_at}
use Rattle.line_texts.specs.Words.{EndsAt, IsUpTo, IsWord, EndsWord, after_spaces, line}

abbrev pub IsNot : ℕ → ℕ → Type 0
IsNot k b = b ≢ k

-- what is cut at the first of a byte is cut in one way
pub same_cut : (k : ℕ) (xs ys us vs : List ℕ) → All (IsNot k) xs → All (IsNot k) us → xs ++ k ∷ ys ≡ us ++ k ∷ vs → (xs ≡ us) × (ys ≡ vs)
same_cut k [] ys [] vs a b e = (refl, cc)
same_cut k [] ys (u ∷ us) vs a b e = absurd (All-head (IsNot k) u us b (cc))
same_cut k (x ∷ xs) ys [] vs a b e = absurd (All-head (IsNot k) x xs a (cc))
same_cut k (x ∷ xs) ys (u ∷ us) vs a b e =
    let rest = same_cut k xs ys us vs (All-tail (IsNot k) x xs a) (All-tail (IsNot k) u us b) (cc) in
    let first : x ≡ u = cc in
    ((λ i. first i ∷ rest.0 i), rest.1)

-- what has the byte nowhere is not cut
pub no_cut : (k : ℕ) (xs ys : List ℕ) → All (IsNot k) (xs ++ k ∷ ys) → ⊥
no_cut k [] ys a = All-head (IsNot k) k ys a refl
no_cut k (x ∷ xs) ys a = no_cut k xs ys (All-tail (IsNot k) x (xs ++ k ∷ ys) a)

-- what stands up to a byte or the end stands there in one way
pub same_front : (k : ℕ) (xs ys us vs : List ℕ) → All (IsNot k) xs → EndsAt k ys → All (IsNot k) us → EndsAt k vs → xs ++ ys ≡ us ++ vs → (xs ≡ us) × (ys ≡ vs)
same_front k [] ys [] vs a b c d e = (refl, e)
same_front k [] ys (u ∷ us) vs a b c d e = absurd (All-head (IsNot k) u us c (subst (EndsAt k) e b))
same_front k (x ∷ xs) ys [] vs a b c d e = absurd (All-head (IsNot k) x xs a (subst (EndsAt k) (sym e) d))
same_front k (x ∷ xs) ys (u ∷ us) vs a b c d e =
    let rest = same_front k xs ys us vs (All-tail (IsNot k) x xs a) b (All-tail (IsNot k) u us c) d (cc) in
    let first : x ≡ u = cc in
    ((λ i. first i ∷ rest.0 i), rest.1)

-- bytes are cut at the first of a byte, or at their end
pub cut_exists : (k : ℕ) (bytes : List ℕ) → (front : List ℕ) × (rest : List ℕ) × IsUpTo k bytes front rest
cut_exists k [] = ([], [], record { split = refl; free = All-nil (IsNot k); ends = tt })
cut_exists k (b ∷ bs) = elim (cases_eq b k) [
  | inl same ↦ ([], b ∷ bs, record { split = refl; free = All-nil (IsNot k); ends = same })
  | inr other ↦ (
      let cut = cut_exists k bs in
      (b ∷ cut.0, cut.1, record { split = ap (λ z. b ∷ z) cut.2.split; free = All-cons (IsNot k) b cut.0 other cut.2.free; ends = cut.2.ends })
      )
]

-- a word that stands behind a space is this one
pub same_next : (rest tail word more text others : List ℕ) → rest ≡ 32 ∷ tail → IsUpTo 32 tail word more → IsWord text → EndsWord others → rest ≡ 32 ∷ (text ++ others) → (word ≡ text) × (more ≡ others)
same_next rest tail word more text others e up free ends f =
    let same : tail ≡ text ++ others = cc in
    same_front 32 word more text others up.free up.ends free ends (sym up.split ∙ same)

-- a word that stands between two spaces, or between a space and the end, is this one
pub same_tail : (bytes text more other others : List ℕ) → bytes ≡ 32 ∷ (text ++ more) → IsWord text → EndsWord more → IsWord other → EndsWord others → bytes ≡ 32 ∷ (other ++ others) → (text ≡ other) × (more ≡ others)
same_tail bytes text more other others e a b c d f =
    let same : text ++ more ≡ other ++ others = cc in
    same_front 32 text more other others a b c d same

pub ends_after : (words : List (List ℕ)) → EndsWord (after_spaces words)
ends_after [] = tt
ends_after (word ∷ words) = refl

pub same_words : (ws vs : List (List ℕ)) → All IsWord ws → All IsWord vs → after_spaces ws ≡ after_spaces vs → ws ≡ vs
same_words [] [] a b e = refl
same_words [] (v ∷ vs) a b e = absurd (cc)
same_words (w ∷ ws) [] a b e = absurd (cc)
same_words (w ∷ ws) (v ∷ vs) a b e =
    let both = same_front 32 w (after_spaces ws) v (after_spaces vs) (All-head IsWord w ws a) (ends_after ws) (All-head IsWord v vs b) (ends_after vs) (cc) in
    let rest = same_words ws vs (All-tail IsWord w ws a) (All-tail IsWord v vs b) both.1 in
    λ i. both.0 i ∷ rest i

-- a line has one list of words
pub same_line : (w v : List ℕ) (ws vs : List (List ℕ)) → IsWord w → IsWord v → All IsWord ws → All IsWord vs → line w ws ≡ line v vs → (w ≡ v) × (ws ≡ vs)
same_line w v ws vs a b as_ bs e =
    let both = same_front 32 w (after_spaces ws) v (after_spaces vs) a (ends_after ws) b (ends_after vs) e in
    (both.0, same_words ws vs as_ bs both.1)

-- ---- a byte that stands nowhere

-- whether a byte stands among others
abbrev pub has : ℕ → List ℕ → Bool
has k [] = false
has k (b ∷ bs) = eqb b k || has k bs

pub has_not : (k : ℕ) (bs : List ℕ) → has k bs ≡ false → All (IsNot k) bs
has_not k [] e = All-nil (IsNot k)
has_not k (b ∷ bs) e = All-cons (IsNot k) b bs (λ is. absurd (grind (arith, nat_tests))) (has_not k bs (grind (arith, nat_tests)))

-- digits are none of the bytes below 48
pub not_in_decimal : (k n : ℕ) → k < 48 → n < 2 ^ 64 → All (IsNot k) (decimal n)
not_in_decimal k n low small =
    All-from_get_or (IsNot k) (decimal n) 0 (λ i h e. let range = digit_at (decimal n) i (decimal_is_IsNumeral n small).0.1 h in absurd (omega arith))

pub not_in_spaces : (k : ℕ) (ws : List (List ℕ)) → k ≢ 32 → All (All (IsNot k)) ws → All (IsNot k) (after_spaces ws)
not_in_spaces k [] ne all = All-nil (IsNot k)
not_in_spaces k (w ∷ ws) ne all =
    All-cons (IsNot k) 32 (w ++ after_spaces ws) (λ e. ne (sym e))
    (All-append (IsNot k) w (after_spaces ws) (All-head (All (IsNot k)) w ws all) (not_in_spaces k ws ne (All-tail (All (IsNot k)) w ws all)))

-- a line without line feeds, where its words have none
pub line_is_line : (w : List ℕ) (ws : List (List ℕ)) → All (IsNot 10) w → All (All (IsNot 10)) ws → All (IsNot 10) (line w ws)
line_is_line w ws a all = All-append (IsNot 10) w (after_spaces ws) a (not_in_spaces 10 ws (λ e. absurd (omega arith)) all)

-- nor of those from 58 on
pub above_digits : (k n : ℕ) → 57 < k → n < 2 ^ 64 → All (IsNot k) (decimal n)
above_digits k n high small =
    All-from_get_or (IsNot k) (decimal n) 0 (λ i h e. let range = digit_at (decimal n) i (decimal_is_IsNumeral n small).0.1 h in absurd (omega arith))
