-- Words and digits that are as long as they can be, and that the longest token at a front is one.
use Rattle.std.proofs.Common.{◌≡◌, ℕ, Bool, true, false, cond, eqb, List, [], ◌∷◌, ◌++◌, Some, None, refl, sym, ap, ◌∙◌, inl, inr, ◌⊎◌, ⊎_elim, append-nil, arith}
use Rattle.std.specs.Prelude.{◌&&◌, ◌||◌}
use Rattle.std.specs.Prelude.{is_some}
use Rattle.std.specs.List.{list_any}
use Rattle.std.specs.Map.{lookup}
use Rattle.std.specs.Str.{bytes_eq}
use Rattle.std.proofs.lemmas.Bool.Decides.{nat_tests}
use Rattle.kernel_lexer.specs.declared.token.Mark.{Mark}
use Rattle.std.specs.List.{list_all}
use Rattle.kernel_lexer.specs.Spelling.{Text, is_digit, starts, continues, signs, sign_of, is_spelling, Longest}
use Rattle.kernel_lexer.specs.Lexing.{begins}
use Rattle.kernel_lexer.specs.Cutting.{run, past, begins_sign}

pub run_past : (p : ℕ → Bool) (cs : Text) → cs ≡ run p cs ++ past p cs
run_past p [] = refl
run_past p (c ∷ cs) = elim (p c) as (λ b. c ∷ cs ≡ cond b (c ∷ run p cs) [] ++ cond b (past p cs) (c ∷ cs)) [ true ↦ ap (λ x. c ∷ x) (run_past p cs) | false ↦ refl ]

pub both_true : (a b : Bool) → (a && b) ≡ true → (a ≡ true) × (b ≡ true)
both_true true b e = (refl, e)
both_true false b e = absurd (cc)

all_run_step : (p : ℕ → Bool) (c : ℕ) (cs : Text) (b : Bool) → p c ≡ b → list_all p (run p cs) ≡ true → list_all p (cond b (c ∷ run p cs) []) ≡ true
all_run_step p c cs true e h = rw (e) h
all_run_step p c cs false e h = refl

pub all_run : (p : ℕ → Bool) (cs : Text) → list_all p (run p cs) ≡ true
all_run p [] = refl
all_run p (c ∷ cs) = all_run_step p c cs (p c) refl (all_run p cs)

all_back : (p : ℕ → Bool) (u v : Text) → list_all p (u ++ v) ≡ true → list_all p v ≡ true
all_back p [] v h = h
all_back p (c ∷ u) v h = all_back p u v (both_true (p c) (list_all p (u ++ v)) h).1

past_first_step : (p : ℕ → Bool) (c : ℕ) (cs : Text) (d : ℕ) (ds : Text) (b : Bool) → p c ≡ b → cond b (past p cs) (c ∷ cs) ≡ d ∷ ds → (past p cs ≡ d ∷ ds → p d ≡ false) → p d ≡ false
past_first_step p c cs d ds true e h k = k h
past_first_step p c cs d ds false e h k = let f : c ≡ d = cc in sym (ap p f) ∙ e

past_first : (p : ℕ → Bool) (cs : Text) (d : ℕ) (ds : Text) → past p cs ≡ d ∷ ds → p d ≡ false
past_first p [] d ds h = absurd (cc)
past_first p (c ∷ cs) d ds h = past_first_step p c cs d ds (p c) refl h (past_first p cs d ds)

-- more than the longest front does not pass
pub longer_fails : (p : ℕ → Bool) (cs more after : Text) → past p cs ≡ more ++ after → list_all p (run p cs ++ more) ≡ true → more ≡ []
longer_fails p cs [] after e h = refl
longer_fails p cs (d ∷ more) after e h =
    let f : p d ≡ false = past_first p cs d (more ++ after) e in
    let g : p d ≡ true = (both_true (p d) (list_all p more) (all_back p (run p cs) (d ∷ more) h)).0 in
    absurd (cc)

-- ---- the three classes stay apart

neither : (a b : Bool) → (a || b) ≡ false → (a ≡ false) × (b ≡ false)
neither true b e = absurd (cc)
neither false b e = (refl, e)

-- a key that begins with another character is not spelled
another_key : (c : ℕ) (cs key : Text) → begins c key ≡ false → bytes_eq (c ∷ cs) key ≡ false
another_key c cs [] h = refl
another_key c cs (d ∷ key) h =
    let turned : eqb c d ≡ eqb d c = grind (arith, nat_tests) in
    ap (λ b. b && bytes_eq cs key) (turned ∙ h)

-- what begins none of the keys spells none of them
no_key_spelled : (c : ℕ) (cs : Text) (es : List (Text × Mark)) → list_any (λ k. begins c k.0) es ≡ false → lookup (λ k. bytes_eq (c ∷ cs) k) es ≡ None
no_key_spelled c cs [] h = refl
no_key_spelled c cs (e ∷ es) h =
    let none = neither (begins c e.0) (list_any (λ k. begins c k.0) es) h in
    ap (λ b. cond b (Some e.1) (lookup (λ k. bytes_eq (c ∷ cs) k) es)) (another_key c cs e.0 none.0) ∙ no_key_spelled c cs es none.1

-- what begins no sign spells none
pub no_sign : (c : ℕ) (cs : Text) → begins_sign c ≡ false → sign_of (c ∷ cs) ≡ None
no_sign c cs h = no_key_spelled c cs signs h

only_first : (a b c : Bool) → (a || (b || c)) ≡ true → b ≡ false → c ≡ false → a ≡ true
only_first true b c h e f = refl
only_first false b c h e f = absurd (cc)

only_second : (a b c : Bool) → (a || (b || c)) ≡ true → a ≡ false → c ≡ false → b ≡ true
only_second a true c h e f = refl
only_second a false c h e f = absurd (cc)

-- the class that a spelling has by its first character
word_only : (c : ℕ) (cs : Text) → is_digit c ≡ false → begins_sign c ≡ false → is_spelling (c ∷ cs) ≡ true → list_all continues cs ≡ true
word_only c cs d g h =
    let e : (starts c && list_all continues cs) ≡ true = only_first (starts c && list_all continues cs) (is_digit c && list_all is_digit cs) (is_some (sign_of (c ∷ cs))) h (ap (λ z. z && list_all is_digit cs) d) (ap is_some (no_sign c cs g)) in
    (both_true (starts c) (list_all continues cs) e).1

digits_only : (c : ℕ) (cs : Text) → starts c ≡ false → begins_sign c ≡ false → is_spelling (c ∷ cs) ≡ true → list_all is_digit (c ∷ cs) ≡ true
digits_only c cs s g h = only_second (starts c && list_all continues cs) (is_digit c && list_all is_digit cs) (is_some (sign_of (c ∷ cs))) h (ap (λ z. z && list_all continues cs) s) (ap is_some (no_sign c cs g))

-- a word that is as long as it can be
pub longest_word : (c : ℕ) (cs : Text) → starts c ≡ true → is_digit c ≡ false → begins_sign c ≡ false → Longest (c ∷ run continues cs) (past continues cs)
longest_word c cs s d g = record {
  is = rw (s) (rw (all_run continues cs) refl);
  longest = λ more after e h. longer_fails continues cs more after e (word_only c (run continues cs ++ more) d g h);
}

-- digits that are as many as they can be
pub longest_digits : (c : ℕ) (cs : Text) → starts c ≡ false → is_digit c ≡ true → begins_sign c ≡ false → Longest (c ∷ run is_digit cs) (past is_digit cs)
longest_digits c cs s d g = record {
  is = rw (s) (rw (d) (rw (all_run is_digit cs) refl));
  longest = λ more after e h. longer_fails is_digit cs more after e (both_true (is_digit c) (list_all is_digit (run is_digit cs ++ more)) (digits_only c (run is_digit cs ++ more) s g h)).1;
}

-- ---- the split is the only one

two_splits : (w v x y : Text) → w ++ x ≡ v ++ y → ((m : Text) × (v ≡ w ++ m) × (x ≡ m ++ y)) ⊎ ((m : Text) × (w ≡ v ++ m) × (y ≡ m ++ x))
two_splits [] v x y e = inl (v, refl, e)
two_splits (a ∷ w) [] x y e = inr (a ∷ w, refl, sym e)
two_splits (a ∷ w) (b ∷ v) x y e =
    let h : a ≡ b = cc in
    let t : w ++ x ≡ v ++ y = cc in
    ⊎_elim (λ r. let p : b ∷ v ≡ (a ∷ w) ++ r.0 = ap (λ z. z ∷ v) (sym h) ∙ ap (λ z. a ∷ z) r.1 in inl (r.0, p, r.2))
    (λ r. let p : a ∷ w ≡ (b ∷ v) ++ r.0 = ap (λ z. z ∷ w) h ∙ ap (λ z. b ∷ z) r.1 in inr (r.0, p, r.2))
    (two_splits w v x y t)

no_more : (w v m x y : Text) → Longest w x → Longest v y → v ≡ w ++ m → x ≡ m ++ y → (w ≡ v) × (x ≡ y)
no_more w v m x y l k p q =
    let none : m ≡ [] = l.longest m y q (ap is_spelling (sym p) ∙ k.is) in
    (sym (p ∙ ap (λ z. w ++ z) none ∙ append-nil w), q ∙ ap (λ z. z ++ y) none)

-- the longest front of a text that is a token is one
pub one_longest : (w v x y : Text) → Longest w x → Longest v y → w ++ x ≡ v ++ y → (w ≡ v) × (x ≡ y)
one_longest w v x y l m e =
    ⊎_elim (λ r. no_more w v r.0 x y l m r.1 r.2) (λ r. let h = no_more v w r.0 y x m l r.1 r.2 in (sym h.0, sym h.1)) (two_splits w v x y e)

pub not_empty : {X : Type 0} (w x : Text) → Longest w x → w ++ x ≡ [] → X
not_empty [] x l e = let h = l.is in absurd (cc)
not_empty (c ∷ w) x l e = absurd (cc)
