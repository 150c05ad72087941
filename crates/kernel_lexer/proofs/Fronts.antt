-- The longest front that is UTF-8, and what follows for texts of bytes.
use Rattle.std.proofs.Common.{◌≡◌, ℕ, zero, suc, ◌-◌, ◌<◌, ◌≤◌, Bool, true, false, List, length, take, refl, sym, ap, ◌∙◌, subst, inl, inr, ◌⊎◌, ⊎_elim, arith}
use Rattle.std.specs.Str.{chars, IsUtf8, IsValidUpTo, is_utf8}
use Rattle.std.specs.Str.Lossy.{utf8_valid_len}
use Rattle.std.proofs.Math.Seq.{take-length}
use Rattle.std.proofs.Math.Nat.{eq-or-lt_of_le}
use Rattle.std.proofs.lemmas.List.{take_all}
use Rattle.std.proofs.lemmas.Str.{utf8_valid_len-IsUtf8, utf8_valid_len-IsValidUpTo, IsUtf8-from_is_utf8, is_utf8-from_IsUtf8, IsUtf8-nil}
use Rattle.kernel_lexer.specs.declared.token.Token.{Token as Spot}
use Rattle.kernel_lexer.specs.Spelling.{Text, bytes}
use Rattle.kernel_lexer.specs.Lexing.{AreTokens}
use Rattle.kernel_lexer.specs.Texts.{IsFirstFault, IsFront, code_of}
use Rattle.kernel_lexer.specs.Laws.{OneTokenList, OneFirstFault, NeverBoth}
use Rattle.kernel_lexer.proofs.OneFault.{only_tokens, one_fault, tokens_or_fault}

-- ---- at most one

front_is : (text : List ℕ) (n : ℕ) → IsFront text n → utf8_valid_len text ≡ n
front_is text n f = ⊎_elim (λ u. utf8_valid_len-IsUtf8 text u.0 ∙ sym u.1) (λ v. utf8_valid_len-IsValidUpTo text n v) f

-- what a fault in the front or behind it says
FaultIn : List ℕ → ℕ → ℕ → ℕ → Type 0
FaultIn text n code at =
    IsFirstFault n (chars (take n text)) code at ⊎ ((code ≡ 1) × (at ≡ n) × IsValidUpTo text n × ((ts : List Spot) × AreTokens n (chars (take n text)) ts))

one_in_front : (n : ℕ) (text : Text) (c d at place : ℕ) → IsFirstFault n text c at → IsFirstFault n text d place → (c ≡ d) × (at ≡ place)
one_in_front n text c d at place (f, ts, left, a, cf, p) (g, us, right, b, dg, q) =
    let h = one_fault n text ts us f g left right a b in
    (cf ∙ ap code_of h.0 ∙ sym dg, p ∙ ap (λ z. n - bytes z) h.1 ∙ sym q)

not_both_ways : {X : Type 0} (n : ℕ) (text : Text) (c at : ℕ) (us : List Spot) → IsFirstFault n text c at → AreTokens n text us → X
not_both_ways n text c at us (f, ts, left, a, cf, p) b = absurd (tokens_or_fault n text us ts f left b a)

one_in : (text : List ℕ) (n c d at place : ℕ) → FaultIn text n c at → FaultIn text n d place → (c ≡ d) × (at ≡ place)
unfolding FaultIn
one_in text n c d at place a b =
    ⊎_elim
    (λ x. ⊎_elim (λ y. one_in_front n (chars (take n text)) c d at place x y) (λ y. not_both_ways n (chars (take n text)) c at y.3.0 x y.3.1) b)
    (λ x. ⊎_elim (λ y. not_both_ways n (chars (take n text)) d place x.3.0 y x.3.1) (λ y. (x.0 ∙ sym y.0, x.1 ∙ sym y.1)) b)
    a

pub one_token_list : OneTokenList
one_token_list text ts us a b = only_tokens (length text) (chars text) ts us a.1 b.1

pub one_first_fault : OneFirstFault
unfolding FaultIn
one_first_fault text c d at place (n, f, a) (m, g, b) =
    let same : m ≡ n = sym (front_is text m g) ∙ front_is text n f in
    one_in text n c d at place a (subst (λ k. FaultIn text k d place) same b)

never_in : (text : List ℕ) (ts : List Spot) (n c at : ℕ) → n ≡ length text → AreTokens (length text) (chars text) ts → FaultIn text n c at → ⊥
unfolding FaultIn
never_in text ts n c at e a f =
    let whole : take n text ≡ text = ap (λ k. take k text) e ∙ take-length text in
    let b : AreTokens n (chars (take n text)) ts = subst (λ z. AreTokens n (chars z) ts) (sym whole) (subst (λ k. AreTokens k (chars text) ts) (sym e) a) in
    ⊎_elim (λ x. not_both_ways n (chars (take n text)) c at ts x b) (λ x. let s : n < length text = x.2.short in absurd (omega arith)) f

pub never_both : NeverBoth
unfolding FaultIn
never_both text ts c at (u, a) (n, f, x) =
    never_in text ts n c at (sym (front_is text n f) ∙ utf8_valid_len-IsUtf8 text u) a x

-- ---- there is one

-- no front from so many bytes on is UTF-8
NoneFrom : List ℕ → ℕ → Type 0
NoneFrom text k = (m : ℕ) → k ≤ m → IsUtf8 (take m text) → ⊥

-- what is UTF-8 passes the test
not_utf8 : (bs : List ℕ) → is_utf8 bs ≡ false → IsUtf8 bs → ⊥
not_utf8 bs e u = let t : is_utf8 bs ≡ true = is_utf8-from_IsUtf8 bs u in let no : false ≡ true = sym e ∙ t in absurd (cc)

one_less : (text : List ℕ) (k : ℕ) → NoneFrom text (suc k) → is_utf8 (take k text) ≡ false → NoneFrom text k
unfolding NoneFrom
one_less text k none e m l u =
    ⊎_elim (λ same. not_utf8 (take k text) e (subst (λ z. IsUtf8 (take z text)) (sym same) u)) (λ more. none m (omega arith) u) (eq-or-lt_of_le {n = k} {m = m} l)

front_step : (text : List ℕ) (k : ℕ) (b : Bool) → suc k ≤ length text → NoneFrom text (suc k) → is_utf8 (take k text) ≡ b → (NoneFrom text k → (n : ℕ) × IsValidUpTo text n) → (n : ℕ) × IsValidUpTo text n
unfolding NoneFrom
front_step text k true l none e below = (k, record { short = omega arith; front = IsUtf8-from_is_utf8 (take k text) e; longest = λ m i u. none m (omega arith) u })
front_step text k false l none e below = below (one_less text k none e)

front_from : (text : List ℕ) (k : ℕ) → k ≤ length text → NoneFrom text k → (n : ℕ) × IsValidUpTo text n
unfolding NoneFrom
front_from text zero l none = absurd (none 0 (omega arith) IsUtf8-nil)
front_from text (suc k) l none = front_step text k (is_utf8 (take k text)) l none refl (λ n. front_from text k (omega arith) n)

-- each text has a longest front that is UTF-8
pub front_exists : (text : List ℕ) → (n : ℕ) × IsFront text n
unfolding NoneFrom
front_exists text = step (is_utf8 text) refl
  where
    step : (b : Bool) → is_utf8 text ≡ b → (n : ℕ) × IsFront text n
    step true e = (length text, inl (IsUtf8-from_is_utf8 text e, refl))
    step false e =
        let v = front_from text (length text) (omega arith) (λ m l u. not_utf8 text e (subst IsUtf8 (take_all m text l) u)) in
        (v.0, inr v.1)
