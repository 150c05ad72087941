-- Numbers as they are written are number tokens.
use Rattle.std.proofs.Common.{◌≡◌, ℕ, ◌+◌, ◌-◌, ◌*◌, ◌/◌, ◌%◌, ◌^◌, ◌<◌, ◌≤◌, Bool, true, false, cond, eqb, ltb, [], ◌∷◌, ◌++◌, decimal, pos, fold, Some, None, refl, ap, ◌∙◌, arith, le-leb, lt-ltb}
use Rattle.std.specs.Prelude.{◌&&◌, ◌||◌, nat_lt, nat_le, is_some, not}
use Rattle.std.specs.List.{list_all}
use Rattle.std.proofs.lemmas.Fmt.{decimal_by_steps}
use Rattle.std.proofs.lemmas.Bool.Decides.{nat_tests}
use Rattle.kernel_lexer.specs.declared.token.TokenKind.TheVariants.{Number}
use Rattle.kernel_lexer.specs.Spelling.{Text, bytes, starts, continues, is_digit, is_digits, is_word, is_spelling, keyword, kind_of, named, sign_of, signed, value}
use Rattle.kernel_lexer.specs.Lexing.{is_space}
use Rattle.kernel_lexer.proofs.Words.{both_true, no_sign}
use Rattle.kernel_lexer.proofs.Signs.{digit_apart, word_no_digit}
use Rattle.kernel_gen.proofs.Pieces.{Fits, Piece, all_append, and_both, begins_token, ends_at, is_plain}

-- The digits stand for the number.
pub record IsDecimal (n : ℕ) (w : Text) : Type 0 where
  pub digits : is_digits w ≡ true
  pub value : value w ≡ n

digit : (n : ℕ) → n < 10 → is_digit (48 + n) ≡ true
digit n h = and_both (nat_le 48 (48 + n)) (nat_le (48 + n) 57) (le-leb 48 (48 + n) (omega arith)) (le-leb (48 + n) 57 (omega arith))

fold_push : (m : ℕ) (ds : Text) (d : ℕ) → fold (λ n d. 10 * n + (d - 48)) m (ds ++ d ∷ []) ≡ 10 * fold (λ n d. 10 * n + (d - 48)) m ds + (d - 48)
fold_push m [] d = refl
fold_push m (c ∷ ds) d = fold_push (10 * m + (c - 48)) ds d

digits_push : (ds : Text) (d : ℕ) → is_digits ds ≡ true → is_digit d ≡ true → is_digits (ds ++ d ∷ []) ≡ true
digits_push [] d h k = absurd (cc)
digits_push (c ∷ ds) d h k = all_append is_digit (c ∷ ds) (d ∷ []) h (and_both (is_digit d) true k refl)

one_digit : (n : ℕ) → n < 10 → IsDecimal n ((48 + n) ∷ [])
one_digit n h = record { digits = and_both (is_digit (48 + n)) true (digit n h) refl; value = omega arith }

digit_more : (n : ℕ) (ds : Text) → 10 ≤ n → IsDecimal (n / 10) ds → IsDecimal n (ds ++ (48 + n % 10) ∷ [])
digit_more n ds h w =
    let v : value ds ≡ n / 10 = w.value in
    record { digits = digits_push ds (48 + n % 10) w.digits (digit (n % 10) (omega arith)); value = fold_push 0 ds (48 + n % 10) ∙ omega (arith, v) }

pub decimal_written : (n : ℕ) → n < 2 ^ 64 → IsDecimal n (decimal n)
decimal_written n h = decimal_by_steps IsDecimal one_digit digit_more n h

-- ---- digits as a token

digits_plain : (w : Text) → list_all is_digit w ≡ true → is_plain w ≡ true
digits_plain [] h = refl
digits_plain (c ∷ w) h =
    let d = (both_true (is_digit c) (list_all is_digit w) h).0 in
    and_both (ltb c 128) (is_plain w) (small c d) (digits_plain w (both_true (is_digit c) (list_all is_digit w) h).1)
  where
    small : (c : ℕ) → is_digit c ≡ true → ltb c 128 ≡ true
    small c d = grind (arith, nat_tests)

plain : (w : Text) → is_digits w ≡ true → is_plain w ≡ true
plain [] h = refl
plain (c ∷ w) h = digits_plain (c ∷ w) h

chosen : {A : Type 0} (b : Bool) (x y : A) → b ≡ true → cond b x y ≡ x
chosen b x y e = ap (λ z. cond z x y) e

digits_kind : (w : Text) → is_digits w ≡ true → value w < 2 ^ 63 → kind_of w ≡ Some (Number (pos (value w)))
digits_kind w d h =
    chosen (is_digits w) (cond (nat_lt (value w) (2 ^ 63)) (Some (Number (pos (value w)))) None) (cond (is_word w) (cond (nat_le (bytes w) 64) (Some (named (keyword w))) None) (signed (sign_of w))) d
    ∙ chosen (nat_lt (value w) (2 ^ 63)) (Some (Number (pos (value w)))) None (lt-ltb (value w) (2 ^ 63) h)

is_begun : (w : Text) → is_digits w ≡ true → begins_token w ≡ true
is_begun [] h = absurd (cc)
is_begun (c ∷ w) h = no_space c (both_true (is_digit c) (list_all is_digit w) h).0
  where
    no_space : (c : ℕ) → is_digit c ≡ true → not (is_space c || eqb c 47) ≡ true
    no_space c d = grind (arith, nat_tests)

is_spelled : (w : Text) → is_digits w ≡ true → is_spelling w ≡ true
is_spelled w d = step (is_word w) (is_digits w) (is_some (sign_of w)) d
  where
    step : (a b c : Bool) → b ≡ true → (a || (b || c)) ≡ true
    step true b c h = refl
    step false true c h = refl
    step false false c h = absurd (cc)

-- what follows is no digit, so the digits end there
last_fails : (p : ℕ → Bool) (w : Text) (c : ℕ) → p c ≡ false → list_all p (w ++ c ∷ []) ≡ false
last_fails p [] c h = ap (λ z. z && true) h
last_fails p (d ∷ w) c h = and_false (p d) (list_all p (w ++ c ∷ [])) (last_fails p w c h)
  where
    and_false : (a b : Bool) → b ≡ false → (a && b) ≡ false
    and_false true b h = h
    and_false false b h = refl

no_start : (c : ℕ) → is_digit c ≡ true → starts c ≡ false
no_start c d = step (starts c) refl
  where
    step : (b : Bool) → starts c ≡ b → b ≡ false
    step true e = let n : is_digit c ≡ false = word_no_digit c e in absurd (cc)
    step false e = refl

no_longer : (w : Text) (c : ℕ) → is_digits w ≡ true → is_digit c ≡ false → is_spelling (w ++ c ∷ []) ≡ false
no_longer [] c h d = absurd (cc)
no_longer (b ∷ w) c h d =
    let first = (both_true (is_digit b) (list_all is_digit w) h).0 in
    let more = w ++ c ∷ [] in
    ap (λ z. (z && list_all continues more) || ((is_digit b && list_all is_digit more) || is_some (sign_of (b ∷ more)))) (no_start b first)
    ∙ ap (λ z. z || is_some (sign_of (b ∷ more))) (last_fails is_digit (b ∷ w) c d)
    ∙ ap is_some (no_sign b more (digit_apart b first))

-- the piece of a number, with nothing before it
abbrev pub number : ℕ → Piece
number n = record { gap = []; word = decimal n; kind = Number (pos n) }

-- a number fits where no digit follows
pub number_fits : (n c : ℕ) (rest : Text) → n < 2 ^ 63 → is_digit c ≡ false → Fits (number n) (c ∷ rest)
number_fits n c rest h d =
    let w = decimal_written n (omega arith) in
    let v : value (decimal n) ≡ n = w.value in
    record {
      gap = refl;
      begun = is_begun (decimal n) w.digits;
      spelling = is_spelled (decimal n) w.digits;
      kind = digits_kind (decimal n) w.digits (omega (arith, v)) ∙ ap (λ z. Some (Number (pos z))) v;
      ended = ends_at (decimal n) c rest (no_longer (decimal n) c w.digits d);
      plain_gap = refl;
      plain_word = plain (decimal n) w.digits;
    }
