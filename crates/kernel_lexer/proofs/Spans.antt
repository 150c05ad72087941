-- The spans of the tokens of a text.
use Rattle.std.proofs.Common.{◌≡◌, ℕ, ◌+◌, ◌-◌, ◌<◌, Bool, true, false, cond, eqb, List, [], ◌∷◌, ◌++◌, length, take, drop, Some, refl, sym, ap, ◌∙◌, subst, arith, append_assoc}
use Rattle.std.specs.Prelude.{◌&&◌, slice_range}
use Rattle.std.specs.Str.{chars, encode_utf8_all}
use Rattle.std.proofs.Math.Seq.{drop-append_seam, take-append_seam}
use Rattle.std.proofs.Math.Utf8.{scalar, scalars}
use Rattle.std.proofs.lemmas.Str.{encodes-chars, encodes-append, scalars-chars}
use Rattle.kernel_lexer.specs.declared.token.Token.{Token as Spot}
use Rattle.kernel_lexer.specs.Spelling.{Text, bytes, Longest, kind_of}
use Rattle.kernel_lexer.specs.Lexing.{AreTokens, Begins, begins, is_space, skip}
use Rattle.kernel_lexer.specs.Laws.{AreSpans, IsSpelled, SpansRise}
use Rattle.kernel_lexer.proofs.Cuts.{bytes-append, few_chars}

-- This much is passed over before what is left.
pub record Passed (text left : Text) : Type 0 where
  pub front : Text
  pub whole : text ≡ front ++ left

one_more : (c : ℕ) (text left : Text) → Passed text left → Passed (c ∷ text) left
one_more c text left p = record { front = c ∷ p.front; whole = ap (λ z. c ∷ z) p.whole }

chosen : (b : Bool) (text x y : Text) → Passed text x → Passed text y → Passed text (cond b x y)
chosen true text x y p q = p
chosen false text x y p q = q

-- what is left behind spaces and comments is the end of the text
pub skip_passes : (in_comment : Bool) (text : Text) → Passed text (skip in_comment text)
skip_passes true [] = record { front = []; whole = refl }
skip_passes false [] = record { front = []; whole = refl }
skip_passes true (c ∷ cs) =
    chosen (eqb c 10) (c ∷ cs) (skip false cs) (skip true cs) (one_more c cs (skip false cs) (skip_passes false cs)) (one_more c cs (skip true cs) (skip_passes true cs))
skip_passes false (c ∷ cs) =
    chosen (is_space c) (c ∷ cs) (skip false cs) (cond (eqb c 47 && begins 47 cs) (skip true cs) (c ∷ cs)) (one_more c cs (skip false cs) (skip_passes false cs))
    (chosen (eqb c 47 && begins 47 cs) (c ∷ cs) (skip true cs) (c ∷ cs) (one_more c cs (skip true cs) (skip_passes true cs)) (record { front = []; whole = refl }))

-- a token has a character
pub some_char : (w x : Text) → Longest w x → 0 < length w
some_char [] x l = let h = l.is in absurd (cc)
some_char (c ∷ w) x l = omega arith

-- a span holds what it was cut from
span_of : (a w x : Text) (from to : ℕ) → from ≡ bytes (a ++ (w ++ x)) - bytes (w ++ x) → to ≡ bytes (a ++ (w ++ x)) - bytes x → slice_range (encode_utf8_all (a ++ (w ++ x))) from to ≡ encode_utf8_all w
span_of a w x from to p q =
    let ea = encode_utf8_all a in
    let ew = encode_utf8_all w in
    let ex = encode_utf8_all x in
    let f : from ≡ length ea = omega (arith, p, bytes-append a (w ++ x)) in
    let n : to - from ≡ length ew = omega (arith, p, q, bytes-append a (w ++ x), bytes-append w x) in
    let e : encode_utf8_all (a ++ (w ++ x)) ≡ ea ++ (ew ++ ex) = encodes-append a (w ++ x) ∙ ap (λ z. ea ++ z) (encodes-append w x) in
    ap (λ z. take (to - from) (drop from z)) e ∙ ap (λ k. take (to - from) (drop k (ea ++ (ew ++ ex)))) f ∙ ap (take (to - from)) (drop-append_seam ea (ew ++ ex)) ∙ ap (λ k. take k (ew ++ ex)) n ∙ take-append_seam ew ex

-- characters behind and before others
scalars_behind : (a w : Text) → scalars (a ++ w) ≡ true → scalars w ≡ true
scalars_behind [] w h = h
scalars_behind (c ∷ a) w h = scalars_behind a w (second (scalar c) (scalars (a ++ w)) h)
  where
    second : (a b : Bool) → (a && b) ≡ true → b ≡ true
    second true b h = h
    second false b h = absurd (cc)

scalars_before : (w x : Text) → scalars (w ++ x) ≡ true → scalars w ≡ true
scalars_before [] x h = refl
scalars_before (c ∷ w) x h = both (scalar c) (scalars (w ++ x)) h (scalars_before w x)
  where
    both : (a b : Bool) → (a && b) ≡ true → (b ≡ true → scalars w ≡ true) → (a && scalars w) ≡ true
    both true b h f = f h
    both false b h f = absurd (cc)

-- one token of a text, with what stands before and behind it
span_here : (whole a text w x : Text) (t : Spot) → whole ≡ a ++ text → Begins (bytes whole) text t w x → (b : Text) × (whole ≡ b ++ (w ++ x))
span_here whole a text w x t e b =
    let p = skip_passes false text in
    (a ++ p.front, e ∙ ap (λ z. a ++ z) (p.whole ∙ ap (λ z. p.front ++ z) b.split) ∙ sym (append_assoc a p.front (w ++ x)))

spelled_here : (whole b w x : Text) (t : Spot) → scalars whole ≡ true → whole ≡ b ++ (w ++ x) → t.from ≡ bytes whole - bytes (w ++ x) → t.to ≡ bytes whole - bytes x → kind_of w ≡ Some t.kind → IsSpelled (encode_utf8_all whole) t
spelled_here whole b w x t valid e f u k =
    let s : slice_range (encode_utf8_all whole) t.from t.to ≡ encode_utf8_all w
    = ap (λ z. slice_range (encode_utf8_all z) t.from t.to) e ∙ span_of b w x t.from t.to (f ∙ ap (λ z. bytes z - bytes (w ++ x)) e) (u ∙ ap (λ z. bytes z - bytes x) e) in
    let chars_valid : scalars w ≡ true = scalars_before w x (scalars_behind b (w ++ x) (sym (ap scalars e) ∙ valid)) in
    (w, (w, (chars_valid, sym s)), s, k)

spans_from : (whole a text : Text) (place : ℕ) (ts : List Spot) → scalars whole ≡ true → whole ≡ a ++ text → place ≡ bytes a → AreTokens (bytes whole) text ts → AreSpans (encode_utf8_all whole) place ts
spans_from whole a text place [] valid e p h = omega (arith, ap bytes e, bytes-append a text)
spans_from whole a text place (t ∷ ts) valid e p (w, x, b, bs) =
    let q = skip_passes false text in
    let s = span_here whole a text w x t e b in
    let sizes : bytes text ≡ bytes q.front + bytes (w ++ x) = ap bytes q.whole ∙ bytes-append q.front (skip false text) ∙ ap (λ z. bytes q.front + bytes z) b.split in
    let all : bytes whole ≡ bytes a + bytes text = ap bytes e ∙ bytes-append a text in
    let two : bytes (w ++ x) ≡ bytes w + bytes x = bytes-append w x in
    let some : 0 < bytes w = omega (arith, some_char w x b.longest, few_chars w) in
    let from : t.from ≡ bytes whole - bytes (w ++ x) = b.from in
    let to : t.to ≡ bytes whole - bytes x = b.to in
    let behind : whole ≡ (s.0 ++ w) ++ x = s.1 ∙ sym (append_assoc s.0 w x) in
    let place' : t.to ≡ bytes (s.0 ++ w) = omega (arith, ap bytes behind, bytes-append (s.0 ++ w) x) in
    (omega arith, omega arith, spelled_here whole s.0 w x t valid s.1 from to b.kind, spans_from whole (s.0 ++ w) x t.to ts valid behind place' bs)

pub spans_rise : SpansRise
spans_rise text ts (u, a) =
    let e = encodes-chars text u in
    let b : AreTokens (bytes (chars text)) (chars text) ts = subst (λ n. AreTokens n (chars text) ts) (sym (ap length e)) a in
    subst (λ z. AreSpans z 0 ts) e (spans_from (chars text) [] (chars text) 0 ts (scalars-chars text u) refl refl b)
