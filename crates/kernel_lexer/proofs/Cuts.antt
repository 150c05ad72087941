-- What a cut says.
use Rattle.std.proofs.Common.{◌≡◌, ℕ, suc, ◌+◌, ◌<◌, ◌≤◌, ◌^◌, Bool, true, false, cond, eqb, List, [], ◌∷◌, ◌++◌, length, take, drop, Option, Some, None, refl, sym, ap, subst, ◌∙◌, inl, inr, ◌⊎◌, arith, length-append, get_or, pos, ℤ}
use Rattle.std.specs.Prelude.{◌&&◌, ◌||◌, nat_le, nat_lt, is_some, unwrap_or}
use Rattle.std.specs.Char.{len_utf8, encode_utf8}
use Rattle.std.specs.Str.{encode_utf8_all, bytes_eq}
use Rattle.std.specs.Map.{lookup}
use Rattle.std.proofs.lemmas.List.{take_more, length-take-le}
use Rattle.std.proofs.lemmas.Str.{encodes-append, length-encode, len_utf8_bounds}
use Rattle.std.proofs.lemmas.Bool.{le-leb, lt-leb, lt-ltb, le-ltb}
use Rattle.std.proofs.Math.Seq.{take-append_seam}
use Rattle.kernel_lexer.specs.declared.token.TokenKind.TheVariants.{Number, Sign}
use Rattle.kernel_lexer.specs.declared.token.Mark.{Mark}
use Rattle.kernel_lexer.specs.declared.cut.TokenRule.TheVariants.{BadByte, TooBig}
use Rattle.kernel_lexer.specs.declared.cut.Cut.TheVariants.{Token, NoToken}
use Rattle.std.specs.List.{list_all}
use Rattle.kernel_lexer.specs.Spelling.{Text, is_digit, starts, continues, is_word, is_digits, signs, sign_of, is_spelling, Longest, kind_of, bytes, value, keyword, named, signed}
use Rattle.kernel_lexer.specs.Cutting.{IsCut, run, past, BeginsWord, BeginsNumber, BeginsOther, sized_or, front_sign}
use Rattle.kernel_lexer.proofs.Words.{both_true, run_past, all_run, longest_word, longest_digits}

-- ---- bytes

pub bytes_one : (c : ℕ) (w : Text) → bytes (c ∷ w) ≡ len_utf8 c + bytes w
bytes_one c w = length-append (encode_utf8 c) (encode_utf8_all w) ∙ ap (λ n. n + bytes w) (length-encode c)

pub bytes_more : (w : Text) (i : ℕ) → i < length w → bytes (take (i + 1) w) ≡ bytes (take i w) + len_utf8 (get_or w i 0)
bytes_more w i h =
    let c = get_or w i 0 in
    let e : bytes (take (i + 1) w) ≡ bytes (take i w) + bytes (c ∷ []) = ap bytes (take_more w i 0 h) ∙ ap length (encodes-append (take i w) (c ∷ [])) ∙ length-append (encode_utf8_all (take i w)) (encode_utf8_all (c ∷ [])) in
    let f : bytes (c ∷ []) ≡ len_utf8 c + bytes [] = bytes_one c [] in
    let g : bytes [] ≡ 0 = refl in
    omega arith

pub bytes-append : (w x : Text) → bytes (w ++ x) ≡ bytes w + bytes x
bytes-append w x = ap length (encodes-append w x) ∙ length-append (encode_utf8_all w) (encode_utf8_all x)

-- ---- words

take_run : (p : ℕ → Bool) (cs : Text) → take (length (run p cs)) cs ≡ run p cs
take_run p cs = ap (take (length (run p cs))) (run_past p cs) ∙ take-append_seam (run p cs) (past p cs)

chosen_false : {A : Type 0} (b : Bool) (x y : A) → b ≡ false → cond b x y ≡ y
chosen_false b x y e = ap (λ z. cond z x y) e

chosen_true : {A : Type 0} (b : Bool) (x y : A) → b ≡ true → cond b x y ≡ x
chosen_true b x y e = ap (λ z. cond z x y) e

word_kind : (c : ℕ) (w : Text) → starts c ≡ true → is_digit c ≡ false → list_all continues w ≡ true → kind_of (c ∷ w) ≡ cond (nat_le (bytes (c ∷ w)) 64) (Some (named (keyword (c ∷ w)))) None
word_kind c w s d a =
    let digits : is_digits (c ∷ w) ≡ false = ap (λ z. z && list_all is_digit w) d in
    let word : is_word (c ∷ w) ≡ true = ap (λ z. z && list_all continues w) s ∙ a in
    chosen_false (is_digits (c ∷ w)) (cond (nat_lt (value (c ∷ w)) (2 ^ 63)) (Some (Number (pos (value (c ∷ w))))) None) (cond (is_word (c ∷ w)) (cond (nat_le (bytes (c ∷ w)) 64) (Some (named (keyword (c ∷ w)))) None) (signed (sign_of (c ∷ w)))) digits
    ∙ chosen_true (is_word (c ∷ w)) (cond (nat_le (bytes (c ∷ w)) 64) (Some (named (keyword (c ∷ w)))) None) (signed (sign_of (c ∷ w))) word

-- the front of so many characters is the word
word_front : (text : Text) (len c : ℕ) (cs : Text) → text ≡ c ∷ cs → len ≡ 1 + length (run continues (drop 1 text)) → take len text ≡ c ∷ run continues cs
word_front text len c cs t e =
    let d : drop 1 text ≡ cs = ap (drop 1) t in
    let n : len ≡ suc (length (run continues cs)) = e ∙ ap (λ z. 1 + length (run continues z)) d ∙ omega arith in
    ap (λ z. take len z) t ∙ ap (λ n. take n (c ∷ cs)) n ∙ ap (λ z. c ∷ z) (take_run continues cs)

pub word_cut : (text : Text) (len : ℕ) → BeginsWord text → len ≡ 1 + length (run continues (drop 1 text)) → len ≤ length text → bytes (take len text) ≤ 64 → IsCut text (Token (named (keyword (take len text))) len)
word_cut text len (c, cs, t, s, d, g) e l h =
    let w : take len text ≡ c ∷ run continues cs = word_front text len c cs t e in
    let small : nat_le (bytes (c ∷ run continues cs)) 64 ≡ true = ap (λ z. nat_le (bytes z) 64) (sym w) ∙ le-leb (bytes (take len text)) 64 h in
    let k : kind_of (c ∷ run continues cs) ≡ Some (named (keyword (c ∷ run continues cs))) = word_kind c (run continues cs) s d (all_run continues cs) ∙ chosen_true (nat_le (bytes (c ∷ run continues cs)) 64) (Some (named (keyword (c ∷ run continues cs)))) None small in
    (past continues cs, c ∷ run continues cs, t ∙ ap (λ z. c ∷ z) (run_past continues cs), ap length (sym w) ∙ length-take-le len text l, longest_word c cs s d g, k ∙ ap (λ z. Some (named (keyword z))) (sym w))

pub word_big : (text : Text) (len : ℕ) → BeginsWord text → len ≡ 1 + length (run continues (drop 1 text)) → 64 < bytes (take len text) → IsCut text (NoToken TooBig)
word_big text len (c, cs, t, s, d, g) e h =
    let w : take len text ≡ c ∷ run continues cs = word_front text len c cs t e in
    let large : nat_le (bytes (c ∷ run continues cs)) 64 ≡ false = ap (λ z. nat_le (bytes z) 64) (sym w) ∙ lt-leb (bytes (take len text)) 64 h in
    let k : kind_of (c ∷ run continues cs) ≡ None = word_kind c (run continues cs) s d (all_run continues cs) ∙ chosen_false (nat_le (bytes (c ∷ run continues cs)) 64) (Some (named (keyword (c ∷ run continues cs)))) None large in
    (c ∷ run continues cs, past continues cs, t ∙ ap (λ z. c ∷ z) (run_past continues cs), longest_word c cs s d g, k)

-- ---- numbers

number_kind : (w : Text) → is_digits w ≡ true → kind_of w ≡ cond (nat_lt (value w) (2 ^ 63)) (Some (Number (pos (value w)))) None
number_kind w d = chosen_true (is_digits w) (cond (nat_lt (value w) (2 ^ 63)) (Some (Number (pos (value w)))) None) (cond (is_word w) (cond (nat_le (bytes w) 64) (Some (named (keyword w))) None) (signed (sign_of w))) d

-- the run of digits, with its first
first_run : (c : ℕ) (cs : Text) → is_digit c ≡ true → run is_digit (c ∷ cs) ≡ c ∷ run is_digit cs
first_run c cs d = chosen_true (is_digit c) (c ∷ run is_digit cs) [] d

pub all_digits : (cs : Text) (len : ℕ) → len ≡ length (run is_digit cs) → list_all is_digit (take len cs) ≡ true
all_digits cs len e = ap (λ n. list_all is_digit (take n cs)) e ∙ ap (list_all is_digit) (take_run is_digit cs) ∙ all_run is_digit cs

pub number_cut : (text : Text) (len : ℕ) (n : ℤ) → BeginsNumber text → len ≡ length (run is_digit text) → n ≡ pos (value (take len text)) → value (take len text) < 2 ^ 63 → IsCut text (Token (Number n) len)
number_cut text len n (c, cs, t, s, d, g) e v h =
    let w : take len text ≡ c ∷ run is_digit cs = ap (λ z. take z text) e ∙ take_run is_digit text ∙ ap (run is_digit) t ∙ first_run c cs d in
    let digits : is_digits (c ∷ run is_digit cs) ≡ true = ap (λ z. z && list_all is_digit (run is_digit cs)) d ∙ all_run is_digit cs in
    let small : nat_lt (value (c ∷ run is_digit cs)) (2 ^ 63) ≡ true = ap (λ z. nat_lt (value z) (2 ^ 63)) (sym w) ∙ lt-ltb (value (take len text)) (2 ^ 63) h in
    let k : kind_of (c ∷ run is_digit cs) ≡ Some (Number (pos (value (c ∷ run is_digit cs)))) = number_kind (c ∷ run is_digit cs) digits ∙ chosen_true (nat_lt (value (c ∷ run is_digit cs)) (2 ^ 63)) (Some (Number (pos (value (c ∷ run is_digit cs))))) None small in
    let kind : kind_of (c ∷ run is_digit cs) ≡ Some (Number n) = k ∙ ap (λ z. Some (Number (pos (value z)))) (sym w) ∙ ap (λ z. Some (Number z)) (sym v) in
    let size : length (c ∷ run is_digit cs) ≡ len = ap length (sym (first_run c cs d) ∙ ap (run is_digit) (sym t)) ∙ sym e in
    (past is_digit cs, c ∷ run is_digit cs, t ∙ ap (λ z. c ∷ z) (run_past is_digit cs), size, longest_digits c cs s d g, kind)

pub number_big : (text : Text) (len : ℕ) → BeginsNumber text → len ≡ length (run is_digit text) → 2 ^ 63 ≤ value (take len text) → IsCut text (NoToken TooBig)
number_big text len (c, cs, t, s, d, g) e h =
    let w : take len text ≡ c ∷ run is_digit cs = ap (λ z. take z text) e ∙ take_run is_digit text ∙ ap (run is_digit) t ∙ first_run c cs d in
    let digits : is_digits (c ∷ run is_digit cs) ≡ true = ap (λ z. z && list_all is_digit (run is_digit cs)) d ∙ all_run is_digit cs in
    let large : nat_lt (value (c ∷ run is_digit cs)) (2 ^ 63) ≡ false = ap (λ z. nat_lt (value z) (2 ^ 63)) (sym w) ∙ le-ltb (value (take len text)) (2 ^ 63) h in
    let k : kind_of (c ∷ run is_digit cs) ≡ None = number_kind (c ∷ run is_digit cs) digits ∙ chosen_false (nat_lt (value (c ∷ run is_digit cs)) (2 ^ 63)) (Some (Number (pos (value (c ∷ run is_digit cs))))) None large in
    (c ∷ run is_digit cs, past is_digit cs, t ∙ ap (λ z. c ∷ z) (run_past is_digit cs), longest_digits c cs s d g, k)

-- ---- signs

pub two_ways : (b : Bool) → (b ≡ true) ⊎ (b ≡ false)
two_ways true = inl refl
two_ways false = inr refl

-- at most two characters
at_most_two : Text → Bool
at_most_two [] = true
at_most_two (c ∷ []) = true
at_most_two (c ∷ d ∷ []) = true
at_most_two (c ∷ d ∷ e ∷ w) = false

and_false : (b : Bool) → (b && false) ≡ false
and_false true = refl
and_false false = refl

shorter_key : (c d e : ℕ) (w key : Text) → at_most_two key ≡ true → bytes_eq (c ∷ d ∷ e ∷ w) key ≡ false
unfolding at_most_two
shorter_key c d e w [] h = refl
shorter_key c d e w (a ∷ []) h = and_false (eqb c a)
shorter_key c d e w (a ∷ b ∷ []) h = ap (λ z. eqb c a && z) (and_false (eqb d b)) ∙ and_false (eqb c a)
shorter_key c d e w (a ∷ b ∷ x ∷ key) h = absurd (cc)

no_longer_key : (c d e : ℕ) (w : Text) (es : List (Text × Mark)) → list_all (λ k. at_most_two k.0) es ≡ true → lookup (λ k. bytes_eq (c ∷ d ∷ e ∷ w) k) es ≡ None
no_longer_key c d e w [] h = refl
no_longer_key c d e w (k ∷ es) h =
    let both = both_true (at_most_two k.0) (list_all (λ x. at_most_two x.0) es) h in
    ap (λ b. cond b (Some k.1) (lookup (λ x. bytes_eq (c ∷ d ∷ e ∷ w) x) es)) (shorter_key c d e w k.0 both.0) ∙ no_longer_key c d e w es both.1

-- no sign has more than two characters
no_longer_sign : (c d e : ℕ) (w : Text) → sign_of (c ∷ d ∷ e ∷ w) ≡ None
unfolding at_most_two
no_longer_sign c d e w = no_longer_key c d e w signs refl

some_of : (o : Option Mark) → is_some o ≡ true → (k : Mark) × (o ≡ Some k)
some_of None e = absurd (cc)
some_of (Some k) e = (k, refl)

only_third : (a b c : Bool) → (a || (b || c)) ≡ true → a ≡ false → b ≡ false → c ≡ true
only_third a b c h e f = rw (e, f) at h

third_only : (c : ℕ) (cs : Text) → starts c ≡ false → is_digit c ≡ false → is_spelling (c ∷ cs) ≡ true → (k : Mark) × (sign_of (c ∷ cs) ≡ Some k)
third_only c cs s d h =
    some_of (sign_of (c ∷ cs)) (only_third (starts c && list_all continues cs) (is_digit c && list_all is_digit cs) (is_some (sign_of (c ∷ cs))) h (ap (λ z. z && list_all continues cs) s) (ap (λ z. z && list_all is_digit cs) d))

-- a sign is the longest token where what follows it makes no longer sign of it
longest_sign : (c : ℕ) (w rest : Text) (m : Mark) → starts c ≡ false → is_digit c ≡ false → sign_of (c ∷ w) ≡ Some m
    → ((more after : Text) (k : Mark) → rest ≡ more ++ after → sign_of (c ∷ (w ++ more)) ≡ Some k → more ≡ []) → Longest (c ∷ w) rest
longest_sign c w rest m s d e longer = record {
  is = rw (s) (rw (d) (ap is_some e));
  longest = λ more after f h. let k = third_only c (w ++ more) s d h in longer more after k.0 f k.1;
}

sign_kind : (c : ℕ) (w : Text) (m : Mark) → starts c ≡ false → is_digit c ≡ false → sign_of (c ∷ w) ≡ Some m → kind_of (c ∷ w) ≡ Some (Sign m)
sign_kind c w m s d e =
    let digits : is_digits (c ∷ w) ≡ false = ap (λ z. z && list_all is_digit w) d in
    let word : is_word (c ∷ w) ≡ false = ap (λ z. z && list_all continues w) s in
    chosen_false (is_digits (c ∷ w)) (cond (nat_lt (value (c ∷ w)) (2 ^ 63)) (Some (Number (pos (value (c ∷ w))))) None) (cond (is_word (c ∷ w)) (cond (nat_le (bytes (c ∷ w)) 64) (Some (named (keyword (c ∷ w)))) None) (signed (sign_of (c ∷ w)))) digits
    ∙ chosen_false (is_word (c ∷ w)) (cond (nat_le (bytes (c ∷ w)) 64) (Some (named (keyword (c ∷ w)))) None) (signed (sign_of (c ∷ w))) word
    ∙ ap signed e

-- two characters go on as no sign
two_end : (c d : ℕ) (more : Text) (k : Mark) → sign_of (c ∷ d ∷ more) ≡ Some k → more ≡ []
two_end c d [] k e = refl
two_end c d (x ∷ more) k e = let n : None ≡ Some k = sym (no_longer_sign c d x more) ∙ e in absurd (cc)

-- one character goes on as no sign where it makes none with the next
one_ends : (c : ℕ) (rest more after : Text) (k : Mark) → ((d : ℕ) (ds : Text) → rest ≡ d ∷ ds → sign_of (c ∷ d ∷ []) ≡ None) → rest ≡ more ++ after → sign_of (c ∷ more) ≡ Some k → more ≡ []
one_ends c rest [] after k alone f e = refl
one_ends c rest (x ∷ []) after k alone f e = let n : None ≡ Some k = sym (alone x after f) ∙ e in absurd (cc)
one_ends c rest (x ∷ y ∷ more) after k alone f e = let n : None ≡ Some k = sym (no_longer_sign c x y more) ∙ e in absurd (cc)

double_cut : (c d : ℕ) (ds : Text) (m : Mark) → starts c ≡ false → is_digit c ≡ false → sign_of (c ∷ d ∷ []) ≡ Some m → IsCut (c ∷ d ∷ ds) (Token (Sign m) 2)
double_cut c d ds m s g e =
    (ds, c ∷ d ∷ [], refl, refl, longest_sign c (d ∷ []) ds m s g e (λ more after k f h. two_end c d more k h), sign_kind c (d ∷ []) m s g e)

single_cut : (c : ℕ) (cs : Text) (m : Mark) → starts c ≡ false → is_digit c ≡ false → ((d : ℕ) (ds : Text) → cs ≡ d ∷ ds → sign_of (c ∷ d ∷ []) ≡ None) → sign_of (c ∷ []) ≡ Some m → IsCut (c ∷ cs) (Token (Sign m) 1)
single_cut c cs m s g alone e =
    (cs, c ∷ [], refl, refl, longest_sign c [] cs m s g e (λ more after k f h. one_ends c cs more after k alone f h), sign_kind c [] m s g e)

sized_some : (n : ℕ) (k m : Mark) (len : ℕ) (other : Option (Mark × ℕ)) → sized_or n (Some k) other ≡ Some (m, len) → (k ≡ m) × (n ≡ len)
sized_some n k m len other e = (ap (λ o. (unwrap_or {T = Mark × ℕ} o (m, len)).0) e, ap (λ o. (unwrap_or {T = Mark × ℕ} o (m, len)).1) e)

-- what a single sign at the front says, and what it says that there is none
from_single : (c : ℕ) (cs : Text) (m : Mark) (len : ℕ) → starts c ≡ false → is_digit c ≡ false → ((d : ℕ) (ds : Text) → cs ≡ d ∷ ds → sign_of (c ∷ d ∷ []) ≡ None)
    → (o : Option Mark) → sign_of (c ∷ []) ≡ o → sized_or 1 o None ≡ Some (m, len) → IsCut (c ∷ cs) (Token (Sign m) len)
from_single c cs m len s g alone (Some k) e f =
    let same : k ≡ m = (sized_some 1 k m len None f).0 in
    let size : 1 ≡ len = (sized_some 1 k m len None f).1 in
    subst (λ n. IsCut (c ∷ cs) (Token (Sign m) n)) size (subst (λ z. IsCut (c ∷ cs) (Token (Sign z) 1)) same (single_cut c cs k s g alone e))
from_single c cs m len s g alone None e f = absurd (cc)

from_double : (c d : ℕ) (ds : Text) (m : Mark) (len : ℕ) → starts c ≡ false → is_digit c ≡ false
    → (o : Option Mark) → sign_of (c ∷ d ∷ []) ≡ o → sized_or 2 o (sized_or 1 (sign_of (c ∷ [])) None) ≡ Some (m, len) → IsCut (c ∷ d ∷ ds) (Token (Sign m) len)
from_double c d ds m len s g (Some k) e f =
    let same : k ≡ m = (sized_some 2 k m len (sized_or 1 (sign_of (c ∷ [])) None) f).0 in
    let size : 2 ≡ len = (sized_some 2 k m len (sized_or 1 (sign_of (c ∷ [])) None) f).1 in
    subst (λ n. IsCut (c ∷ d ∷ ds) (Token (Sign m) n)) size (subst (λ z. IsCut (c ∷ d ∷ ds) (Token (Sign z) 2)) same (double_cut c d ds k s g e))
from_double c d ds m len s g None e f = from_single c (d ∷ ds) m len s g alone (sign_of (c ∷ [])) refl f
  where
    alone : (x : ℕ) (xs : Text) → d ∷ ds ≡ x ∷ xs → sign_of (c ∷ x ∷ []) ≡ None
    alone x xs h = let same : d ≡ x = cc in ap (λ z. sign_of (c ∷ z ∷ [])) (sym same) ∙ e

cut_front : (c : ℕ) (cs : Text) (m : Mark) (len : ℕ) → starts c ≡ false → is_digit c ≡ false → front_sign (c ∷ cs) ≡ Some (m, len) → IsCut (c ∷ cs) (Token (Sign m) len)
cut_front c [] m len s g f = from_single c [] m len s g (λ d ds h. absurd (cc)) (sign_of (c ∷ [])) refl f
cut_front c (d ∷ ds) m len s g f = from_double c d ds m len s g (sign_of (c ∷ d ∷ [])) refl f

-- The sign at the front is the longest token.
pub sign_cut : (text : Text) (m : Mark) (len : ℕ) → BeginsOther text → front_sign text ≡ Some (m, len) → IsCut text (Token (Sign m) len)
sign_cut text m len (c, cs, t, s, d) e =
    subst (λ z. IsCut z (Token (Sign m) len)) (sym t) (cut_front c cs m len s d (ap front_sign (sym t) ∙ e))

no_token : (text : Text) → BeginsOther text → ((word after : Text) → text ≡ word ++ after → sign_of word ≡ None) → IsCut text (NoToken BadByte)
no_token text (c, cs, t, s, d) none = (not_nil, λ word rest e h. begun word rest e h)
  where
    not_nil : text ≡ [] → ⊥
    not_nil e = absurd (cc)

    begun : (word rest : Text) → text ≡ word ++ rest → is_spelling word ≡ true → ⊥
    begun [] rest e h = absurd (cc)
    begun (b ∷ word) rest e h =
        let here : c ≡ b = let f : c ∷ cs ≡ b ∷ (word ++ rest) = sym t ∙ e in cc in
        let k = third_only b word (ap starts (sym here) ∙ s) (ap is_digit (sym here) ∙ d) h in
        let n : None ≡ Some k.0 = sym (none (b ∷ word) rest e) ∙ k.1 in absurd (cc)

sized_none : (n : ℕ) (o : Option Mark) (other : Option (Mark × ℕ)) → sized_or n o other ≡ None → (o ≡ None) × (other ≡ None)
sized_none n (Some m) other e = absurd (cc)
sized_none n None other e = (refl, e)

-- where no sign stands at the front, no front is a sign
no_sign_front : (c : ℕ) (cs word after : Text) → front_sign (c ∷ cs) ≡ None → c ∷ cs ≡ word ++ after → sign_of word ≡ None
no_sign_front c cs [] after f e = refl
no_sign_front c [] (b ∷ []) after f e =
    let here : c ≡ b = cc in
    ap (λ z. sign_of (z ∷ [])) (sym here) ∙ (sized_none 1 (sign_of (c ∷ [])) None f).0
no_sign_front c (d ∷ ds) (b ∷ []) after f e =
    let here : c ≡ b = cc in
    let single = (sized_none 2 (sign_of (c ∷ d ∷ [])) (sized_or 1 (sign_of (c ∷ [])) None) f).1 in
    ap (λ z. sign_of (z ∷ [])) (sym here) ∙ (sized_none 1 (sign_of (c ∷ [])) None single).0
no_sign_front c [] (b ∷ x ∷ []) after f e = absurd (cc)
no_sign_front c (d ∷ ds) (b ∷ x ∷ []) after f e =
    let here : c ≡ b = cc in
    let next : d ≡ x = cc in
    ap (λ z. sign_of (z ∷ x ∷ [])) (sym here) ∙ ap (λ z. sign_of (c ∷ z ∷ [])) (sym next) ∙ (sized_none 2 (sign_of (c ∷ d ∷ [])) (sized_or 1 (sign_of (c ∷ [])) None) f).0
no_sign_front c cs (b ∷ x ∷ y ∷ word) after f e = no_longer_sign b x y word

-- Where no sign stands at the front, no token begins.
pub no_sign_cut : (text : Text) → BeginsOther text → front_sign text ≡ None → IsCut text (NoToken BadByte)
no_sign_cut text (c, cs, t, s, d) e =
    no_token text (c, cs, t, s, d) (λ word after h. no_sign_front c cs word after (ap front_sign (sym t) ∙ e) (sym t ∙ h))

-- no more characters than bytes
pub few_chars : (w : Text) → length w ≤ bytes w
few_chars [] = omega arith
few_chars (c ∷ w) = omega (arith, bytes_one c w, few_chars w, len_utf8_bounds c)
