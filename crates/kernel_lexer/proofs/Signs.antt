-- The three classes of tokens begin with different characters.
use Rattle.std.proofs.Common.{◌≡◌, ℕ, Bool, true, false, cond, eqb, ltb, List, [], ◌∷◌, refl, sym, ap, ◌∙◌, arith}
use Rattle.std.specs.Prelude.{◌&&◌, ◌||◌, not}
use Rattle.std.specs.List.{list_any}
use Rattle.std.specs.Char.{is_ascii_alphabetic}
use Rattle.std.proofs.lemmas.Bool.{eqb-true}
use Rattle.std.proofs.lemmas.Bool.Decides.{nat_tests}
use Rattle.unicode_ident.specs.Ident.{is_xid_start}
use Rattle.unicode_ident.proofs.IdentLemmas.{is_xid_start-ascii}
use Rattle.kernel_lexer.specs.declared.token.Mark.{Mark}
use Rattle.kernel_lexer.specs.Spelling.{Text, is_digit, starts, signs}
use Rattle.kernel_lexer.specs.Lexing.{begins}
use Rattle.kernel_lexer.specs.Cutting.{begins_sign}
use Rattle.kernel_lexer.proofs.Words.{both_true}

-- whether the first character passes
first_passes : (ℕ → Bool) → Text → Bool
first_passes p [] = false
first_passes p (d ∷ w) = p d

-- the first character of no key passes
no_key : (ℕ → Bool) → List (Text × Mark) → Bool
no_key p [] = true
no_key p (e ∷ es) = not (first_passes p e.0) && no_key p es

-- what passes begins no key whose first character does not
another_first : (p : ℕ → Bool) (c : ℕ) (key : Text) → not (first_passes p key) ≡ true → p c ≡ true → begins c key ≡ false
unfolding first_passes
another_first p c [] h k = refl
another_first p c (d ∷ key) h k = step (eqb d c) refl
  where
    step : (b : Bool) → eqb d c ≡ b → b ≡ false
    step true e = let same : p d ≡ true = ap p (eqb-true d c e) ∙ k in absurd (cc)
    step false e = refl

-- what passes begins none of such keys
begins_none : (p : ℕ → Bool) (es : List (Text × Mark)) (c : ℕ) → no_key p es ≡ true → p c ≡ true → list_any (λ k. begins c k.0) es ≡ false
unfolding no_key
begins_none p [] c h k = refl
begins_none p (e ∷ es) c h k =
    let both = both_true (not (first_passes p e.0)) (no_key p es) h in
    ap (λ b. b || list_any (λ q. begins c q.0) es) (another_first p c e.0 both.0 k) ∙ begins_none p es c both.1 k

apart : (p : ℕ → Bool) (c : ℕ) → no_key p signs ≡ true → p c ≡ true → begins_sign c ≡ false
apart p c h k = begins_none p signs c h k

-- a digit begins no sign
pub digit_apart : (c : ℕ) → is_digit c ≡ true → begins_sign c ≡ false
unfolding no_key first_passes
digit_apart c h = apart is_digit c refl h

-- a character that may begin a word, or that is no ASCII
may_start : ℕ → Bool
may_start c = cond (ltb c 128) (is_ascii_alphabetic c || eqb c 95) true

may_start-starts : (c : ℕ) → starts c ≡ true → may_start c ≡ true
unfolding may_start
may_start-starts c h = step (ltb c 128) refl
  where
    step : (b : Bool) → ltb c 128 ≡ b → cond b (is_ascii_alphabetic c || eqb c 95) true ≡ true
    step true e = let same : is_xid_start c ≡ is_ascii_alphabetic c = is_xid_start-ascii c (grind (arith, nat_tests)) in ap (λ z. z || eqb c 95) (sym same) ∙ h
    step false e = refl

-- what begins a word begins no sign
pub word_apart : (c : ℕ) → starts c ≡ true → begins_sign c ≡ false
unfolding no_key first_passes may_start
word_apart c h = apart may_start c refl (may_start-starts c h)

-- what begins a word is no digit
pub word_no_digit : (c : ℕ) → starts c ≡ true → is_digit c ≡ false
unfolding may_start
word_no_digit c h = let m : may_start c ≡ true = may_start-starts c h in grind (arith, nat_tests)
