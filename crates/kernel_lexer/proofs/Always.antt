-- Each list of characters has tokens or a fault, and so has each text.
use Rattle.std.proofs.Common.{◌≡◌, ℕ, zero, suc, ◌+◌, ◌-◌, ◌<◌, ◌≤◌, ◌^◌, Bool, true, false, List, [], ◌∷◌, ◌++◌, length, take, drop, Option, Some, None, refl, ap, ◌∙◌, subst, inl, inr, ◌⊎◌, ⊎_elim, arith, length-append, pos}
use Rattle.std.specs.Str.{chars, IsUtf8, IsValidUpTo}
use Rattle.std.proofs.lemmas.Bool.Decides.{leb_tells}
use Rattle.std.proofs.Math.Seq.{take-length}
use Rattle.kernel_lexer.specs.declared.token.Token.{Token as Spot}
use Rattle.kernel_lexer.specs.declared.token.TokenKind.TheVariants.{Number, Sign}
use Rattle.kernel_lexer.specs.declared.token.Mark.{Mark}
use Rattle.kernel_lexer.specs.declared.cut.TokenRule.{TokenRule}
use Rattle.kernel_lexer.specs.declared.cut.TokenRule.TheVariants.{BadByte, TooBig}
use Rattle.kernel_lexer.specs.declared.cut.Cut.{Cut}
use Rattle.kernel_lexer.specs.declared.cut.Cut.TheVariants.{Token, NoToken}
use Rattle.kernel_lexer.specs.Spelling.{Text, bytes, continues, is_digit, keyword, named, starts, value}
use Rattle.kernel_lexer.specs.Lexing.{AreTokens, Begins, FaultAfter, skip}
use Rattle.kernel_lexer.specs.Cutting.{BeginsWord, BeginsNumber, BeginsOther, IsCut, front_sign, run}
use Rattle.kernel_lexer.specs.Texts.{AreTextTokens, IsFront, IsTextFault, code_of}
use Rattle.kernel_lexer.specs.Laws.{AlwaysOne}
use Rattle.kernel_lexer.proofs.Words.{run_past}
use Rattle.kernel_lexer.proofs.Signs.{digit_apart, word_apart, word_no_digit}
use Rattle.kernel_lexer.proofs.Cuts.{no_sign_cut, number_big, number_cut, sign_cut, two_ways, word_big, word_cut}
use Rattle.kernel_lexer.proofs.Fronts.{front_exists}
use Rattle.kernel_lexer.proofs.Spans.{skip_passes, some_char}

-- some cut says what stands here
HasCut : Text → Type 0
HasCut text = (k : Cut) × IsCut text k

run_shorter : (p : ℕ → Bool) (cs : Text) → length (run p cs) ≤ length cs
run_shorter p cs = omega (arith, ap length (run_past p cs), length-append (run p cs))

word_here : (c : ℕ) (cs : Text) → starts c ≡ true → HasCut (c ∷ cs)
unfolding HasCut
word_here c cs s =
    let len = 1 + length (run continues (drop 1 (c ∷ cs))) in
    let within : len ≤ length (c ∷ cs) = omega (arith, run_shorter continues cs) in
    let begun : BeginsWord (c ∷ cs) = (c, cs, refl, s, word_no_digit c s, word_apart c s) in
    ⊎_elim (λ h. (Token (named (keyword (take len (c ∷ cs)))) len, word_cut (c ∷ cs) len begun refl within h.1))
    (λ h. (NoToken TooBig, word_big (c ∷ cs) len begun refl h.1)) (leb_tells (bytes (take len (c ∷ cs))) 64)

number_here : (c : ℕ) (cs : Text) → starts c ≡ false → is_digit c ≡ true → HasCut (c ∷ cs)
unfolding HasCut
number_here c cs s d =
    let len = length (run is_digit (c ∷ cs)) in
    let begun : BeginsNumber (c ∷ cs) = (c, cs, refl, s, d, digit_apart c d) in
    let n = value (take len (c ∷ cs)) in
    ⊎_elim (λ h. (NoToken TooBig, number_big (c ∷ cs) len begun refl h.1))
    (λ h. (Token (Number (pos n)) len, number_cut (c ∷ cs) len (pos n) begun refl refl h.1)) (leb_tells (2 ^ 63) n)

sign_here : (c : ℕ) (cs : Text) → starts c ≡ false → is_digit c ≡ false → HasCut (c ∷ cs)
unfolding HasCut
sign_here c cs s d = found (front_sign (c ∷ cs)) refl
  where
    begun : BeginsOther (c ∷ cs)
    begun = (c, cs, refl, s, d)

    found : (o : Option (Mark × ℕ)) → front_sign (c ∷ cs) ≡ o → (k : Cut) × IsCut (c ∷ cs) k
    found None e = (NoToken BadByte, no_sign_cut (c ∷ cs) begun e)
    found (Some m) e = (Token (Sign m.0) m.1, sign_cut (c ∷ cs) m.0 m.1 begun e)

cut_here : (c : ℕ) (cs : Text) → HasCut (c ∷ cs)
cut_here c cs =
    ⊎_elim (λ s. word_here c cs s)
    (λ s. ⊎_elim (λ d. number_here c cs s d) (λ d. sign_here c cs s d) (two_ways (is_digit c))) (two_ways (starts c))

-- the text has tokens or a fault
pub Ends : ℕ → Text → Type 0
Ends end text = ((ts : List Spot) × AreTokens end text ts) ⊎ ((f : TokenRule) × (ts : List Spot) × (left : Text) × FaultAfter end text ts f left)

one_more : (end : ℕ) (text : Text) (t : Spot) (w x : Text) → Begins end text t w x → Ends end x → Ends end text
unfolding Ends
one_more end text t w x b r =
    ⊎_elim (λ h. inl (t ∷ h.0, (w, x, b, h.1))) (λ h. inr (h.0, t ∷ h.1, h.2, (w, x, b, h.3))) r

-- what the cut of what is left says of the text
from_cut : (end : ℕ) (text left : Text) (k : Cut) → skip false text ≡ left → IsCut left k → ((rest : Text) → length rest < length left → Ends end rest) → Ends end text
unfolding Ends
from_cut end text left (NoToken f) e c next = inr (f, [], left, (e, c))
from_cut end text left (Token kind len) e (rest, word, split, size, longest, kinds) next =
    let t : Spot = record { kind = kind; from = end - bytes (word ++ rest); to = end - bytes rest } in
    let b : Begins end text t word rest = record { split = e ∙ split; longest = longest; kind = kinds; from = refl; to = refl } in
    let less : length rest < length left = omega (arith, ap length split, length-append word rest, some_char word rest longest) in
    one_more end text t word rest b (next rest less)

ends_within : (fuel end : ℕ) (text : Text) → length text < fuel → Ends end text
unfolding Ends HasCut
ends_within zero end text l = absurd (omega arith)
ends_within (suc fuel) end text l = step (skip false text) refl
    (λ left e rest m. ends_within fuel end rest (let p = skip_passes false text in omega (arith, ap length p.whole, length-append p.front (skip false text), ap length e)))
  where
    step : (left : Text) → skip false text ≡ left → ((left : Text) → skip false text ≡ left → (rest : Text) → length rest < length left → Ends end rest) → Ends end text
    step [] e next = inl ([], e)
    step (c ∷ cs) e next = let k = cut_here c cs in from_cut end text (c ∷ cs) k.0 e k.1 (next (c ∷ cs) e)

-- Characters have tokens or a fault.
pub ends_exist : (end : ℕ) (text : Text) → Ends end text
ends_exist end text = ends_within (suc (length text)) end text (omega arith)

pub always_one : AlwaysOne
unfolding Ends
always_one text =
    let f = front_exists text in
    ⊎_elim (λ u. whole f.0 u) (λ v. cut_off f.0 v) f.1
  where
    a_fault : (n : ℕ) → IsFront text n → (f : TokenRule) (ts : List Spot) (left : Text) → FaultAfter n (chars (take n text)) ts f left → (c : ℕ) × (at : ℕ) × IsTextFault text c at
    a_fault n front f ts left a = (code_of f, n - bytes left, (n, front, inl (f, ts, left, a, refl, refl)))

    whole : (n : ℕ) → IsUtf8 text × (n ≡ length text) → ((ts : List Spot) × AreTextTokens text ts) ⊎ ((c : ℕ) × (at : ℕ) × IsTextFault text c at)
    whole n u =
        let all : take n text ≡ text = ap (λ k. take k text) u.1 ∙ take-length text in
        ⊎_elim (λ h. inl (h.0, (u.0, subst (λ k. AreTokens k (chars text) h.0) u.1 (subst (λ z. AreTokens n (chars z) h.0) all h.1))))
        (λ h. inr (a_fault n (inl u) h.0 h.1 h.2 h.3)) (ends_exist n (chars (take n text)))

    cut_off : (n : ℕ) → IsValidUpTo text n → ((ts : List Spot) × AreTextTokens text ts) ⊎ ((c : ℕ) × (at : ℕ) × IsTextFault text c at)
    cut_off n v =
        ⊎_elim (λ h. inr (1, n, (n, inr v, inr (refl, refl, v, h)))) (λ h. inr (a_fault n (inr v) h.0 h.1 h.2 h.3)) (ends_exist n (chars (take n text)))
