-- Texts that are spelled piece by piece, and their tokens: each piece is a token with the spaces before it.
use Rattle.std.proofs.Common.{◌≡◌, ℕ, ◌+◌, ◌-◌, Bool, true, false, cond, eqb, ltb, List, [], ◌∷◌, ◌++◌, ◌<◌, ◌≤◌, length, take, drop, Some, None, refl, sym, ap, ◌∙◌, arith, append_assoc, length-append}
use Rattle.std.specs.Prelude.{◌&&◌, ◌||◌, not, is_some, slice_range}
use Rattle.std.specs.List.{list_all}
use Rattle.std.proofs.Math.Seq.{drop-append_seam, take-append_seam}
use Rattle.std.proofs.lemmas.Str.{encodes-IsAscii}
use Rattle.std.proofs.lemmas.Str.Ascii.{IsAscii-nil, IsAscii-cons}
use Rattle.std.proofs.lemmas.Bool.{ltb-true}
use Rattle.std.specs.Str.{IsAscii, bytes_eq}
use Rattle.std.specs.Map.{lookup}
use Rattle.kernel_lexer.specs.declared.token.Mark.{Mark}
use Rattle.kernel_lexer.specs.declared.token.Token.{Token}
use Rattle.kernel_lexer.specs.declared.token.TokenKind.{TokenKind}
use Rattle.kernel_lexer.specs.Spelling.{Text, bytes, starts, continues, is_digit, signs, sign_of, is_spelling, Longest, kind_of}
use Rattle.kernel_lexer.specs.Lexing.{AreTokens, Begins, is_space, begins, skip}
use Rattle.kernel_lexer.proofs.Words.{both_true}
use Rattle.kernel_lexer.proofs.Cuts.{bytes-append}

-- ---- tests

pub and_both : (a b : Bool) → a ≡ true → b ≡ true → (a && b) ≡ true
and_both a b h k = ap (λ z. z && b) h ∙ k

and_grows : (a b c : Bool) → (a && b) ≡ true → (b ≡ true → c ≡ true) → (a && c) ≡ true
and_grows true b c h f = f h
and_grows false b c h f = absurd (cc)

or_right : (a b : Bool) → b ≡ true → (a || b) ≡ true
or_right true b h = refl
or_right false b h = h

or_grows : (a b c d e f : Bool) → (a || (b || c)) ≡ true → (a ≡ true → d ≡ true) → (b ≡ true → e ≡ true) → (c ≡ true → f ≡ true) → (d || (e || f)) ≡ true
or_grows true b c d e f h i j k = ap (λ z. z || (e || f)) (i refl)
or_grows false true c d e f h i j k = or_right d (e || f) (ap (λ z. z || f) (j refl))
or_grows false false true d e f h i j k = or_right d (e || f) (or_right e f (k refl))
or_grows false false false d e f h i j k = absurd (cc)

pub all_append : (p : ℕ → Bool) (u v : Text) → list_all p u ≡ true → list_all p v ≡ true → list_all p (u ++ v) ≡ true
all_append p [] v h k = k
all_append p (c ∷ u) v h k = and_both (p c) (list_all p (u ++ v)) (both_true (p c) (list_all p u) h).0 (all_append p u v (both_true (p c) (list_all p u) h).1 k)

-- ---- the longest token at the front of a text

all_front : (p : ℕ → Bool) (cs : Text) (d : ℕ) (more : Text) → list_all p (cs ++ d ∷ more) ≡ true → list_all p (cs ++ d ∷ []) ≡ true
all_front p [] d more h = and_grows (p d) (list_all p more) true h (λ _. refl)
all_front p (c ∷ cs) d more h = and_grows (p c) (list_all p (cs ++ d ∷ more)) (list_all p (cs ++ d ∷ [])) h (all_front p cs d more)

-- a text that is longer than a key is not that key
longer_apart : (w key : Text) → length key < length w → bytes_eq w key ≡ false
longer_apart [] key h = absurd (omega (arith, h))
longer_apart (c ∷ w) [] h = refl
longer_apart (c ∷ w) (d ∷ key) h = both_false (eqb c d) (bytes_eq w key) (longer_apart w key (omega (arith, h)))
  where
    both_false : (a b : Bool) → b ≡ false → (a && b) ≡ false
    both_false true b e = e
    both_false false b e = refl

no_long_key : (w : Text) (es : List (Text × Mark)) → 3 ≤ length w → list_all (λ e. ltb (length e.0) 3) es ≡ true → lookup (λ k. bytes_eq w k) es ≡ None
no_long_key w [] l h = refl
no_long_key w (e ∷ es) l h =
    let both = both_true (ltb (length e.0) 3) (list_all (λ e. ltb (length e.0) 3) es) h in
    let few = ltb-true (length e.0) 3 both.0 in
    ap (λ b. cond b (Some e.1) (lookup (λ k. bytes_eq w k) es)) (longer_apart w e.0 (omega (arith, l, few))) ∙ no_long_key w es l both.1

-- no sign has more than two characters
no_long_sign : (c d e : ℕ) (w : Text) → is_some (sign_of (c ∷ d ∷ e ∷ w)) ≡ false
no_long_sign c d e w = ap is_some (no_long_key (c ∷ d ∷ e ∷ w) signs (omega arith) refl)

sign_front : (c : ℕ) (cs : Text) (d : ℕ) (more : Text) → is_some (sign_of (c ∷ (cs ++ d ∷ more))) ≡ true → is_some (sign_of (c ∷ (cs ++ d ∷ []))) ≡ true
sign_front c [] d [] h = h
sign_front c [] d (e ∷ more) h = let n = no_long_sign c d e more in absurd (cc)
sign_front c (b ∷ []) d [] h = h
sign_front c (b ∷ []) d (e ∷ more) h = let n = no_long_sign c b d (e ∷ more) in absurd (cc)
sign_front c (b ∷ a ∷ cs) d more h = let n = no_long_sign c b a (cs ++ d ∷ more) in absurd (cc)

-- a token that goes on as a token does so by its next character
grows : (w : Text) (d : ℕ) (more : Text) → is_spelling w ≡ true → is_spelling (w ++ d ∷ more) ≡ true → is_spelling (w ++ d ∷ []) ≡ true
grows [] d more h g = absurd (cc)
grows (c ∷ cs) d more h g =
    or_grows (starts c && list_all continues (cs ++ d ∷ more)) (is_digit c && list_all is_digit (cs ++ d ∷ more)) (is_some (sign_of (c ∷ (cs ++ d ∷ more))))
    (starts c && list_all continues (cs ++ d ∷ [])) (is_digit c && list_all is_digit (cs ++ d ∷ [])) (is_some (sign_of (c ∷ (cs ++ d ∷ [])))) g
    (λ h. and_grows (starts c) (list_all continues (cs ++ d ∷ more)) (list_all continues (cs ++ d ∷ [])) h (all_front continues cs d more))
    (λ h. and_grows (is_digit c) (list_all is_digit (cs ++ d ∷ more)) (list_all is_digit (cs ++ d ∷ [])) h (all_front is_digit cs d more))
    (sign_front c cs d more)

-- The next character, if there is one, does not make the word longer.
pub record Ends (word rest : Text) : Type 0 where
  pub ends : (c : ℕ) (after : Text) → rest ≡ c ∷ after → is_spelling (word ++ c ∷ []) ≡ false

-- a token that the next character does not make longer is the longest one
pub longest_by_next : (word rest : Text) → is_spelling word ≡ true → Ends word rest → Longest word rest
longest_by_next word rest s e = record { is = s; longest = none }
  where
    none : (more after : Text) → rest ≡ more ++ after → is_spelling (word ++ more) ≡ true → more ≡ []
    none [] after f h = refl
    none (d ∷ more) after f h =
        let g : is_spelling (word ++ d ∷ []) ≡ true = grows word d more s h in
        let n : is_spelling (word ++ d ∷ []) ≡ false = e.ends d (more ++ after) f in
        absurd (cc)

-- the next character is known
pub ends_at : (word : Text) (c : ℕ) (rest : Text) → is_spelling (word ++ c ∷ []) ≡ false → Ends word (c ∷ rest)
ends_at word c rest h = record { ends = λ d after e. let same : c ≡ d = cc in ap (λ z. is_spelling (word ++ z ∷ [])) (sym same) ∙ h }

-- ---- spaces

skip_gap : (gap rest : Text) → list_all is_space gap ≡ true → skip false (gap ++ rest) ≡ skip false rest
skip_gap [] rest h = refl
skip_gap (c ∷ gap) rest h =
    ap (λ b. cond b (skip false (gap ++ rest)) (cond (eqb c 47 && begins 47 (gap ++ rest)) (skip true (gap ++ rest)) (c ∷ (gap ++ rest)))) (both_true (is_space c) (list_all is_space gap) h).0
    ∙ skip_gap gap rest (both_true (is_space c) (list_all is_space gap) h).1

-- the first character is no space and no slash
abbrev pub begins_token : Text → Bool
begins_token [] = false
begins_token (c ∷ cs) = not (is_space c || eqb c 47)

neither : (a b : Bool) → not (a || b) ≡ true → (a ≡ false) × (b ≡ false)
neither true b h = absurd (cc)
neither false true h = absurd (cc)
neither false false h = (refl, refl)

skip_word : (word rest : Text) → begins_token word ≡ true → skip false (word ++ rest) ≡ word ++ rest
skip_word [] rest h = absurd (cc)
skip_word (c ∷ cs) rest h =
    let n = neither (is_space c) (eqb c 47) h in
    ap (λ b. cond b (skip false (cs ++ rest)) (cond (eqb c 47 && begins 47 (cs ++ rest)) (skip true (cs ++ rest)) (c ∷ (cs ++ rest)))) n.0
    ∙ ap (λ b. cond (b && begins 47 (cs ++ rest)) (skip true (cs ++ rest)) (c ∷ (cs ++ rest))) n.1

-- ---- characters of one byte

-- each character is ASCII
abbrev pub is_plain : Text → Bool
is_plain = list_all (λ c. ltb c 128)

pub plain_ascii : (w : Text) → is_plain w ≡ true → IsAscii w
plain_ascii [] h = IsAscii-nil
plain_ascii (c ∷ w) h = IsAscii-cons c w (ltb-true c 128 (both_true (ltb c 128) (is_plain w) h).0) (plain_ascii w (both_true (ltb c 128) (is_plain w) h).1)

pub plain_bytes : (w : Text) → is_plain w ≡ true → bytes w ≡ length w
plain_bytes w h = ap length (encodes-IsAscii w (plain_ascii w h))

-- ---- pieces

-- a token's spelling and kind, and the spaces before it
pub record Piece : Type 0 where
  pub gap : Text
  pub word : Text
  pub kind : TokenKind

-- the text of pieces, and what stands behind them
abbrev pub spell : List Piece → Text → Text
spell [] rest = rest
spell (p ∷ ps) rest = p.gap ++ (p.word ++ spell ps rest)

-- the token of a piece that begins at a place
abbrev pub token : ℕ → Piece → Token
token at p = record { kind = p.kind; from = at + bytes p.gap; to = at + bytes p.gap + bytes p.word }

-- the place behind pieces
abbrev pub behind : ℕ → List Piece → ℕ
behind at [] = at
behind at (p ∷ ps) = behind (token at p).to ps

-- the tokens of pieces
abbrev pub tokens : ℕ → List Piece → List Token
tokens at [] = []
tokens at (p ∷ ps) = token at p ∷ tokens (token at p).to ps

-- The piece is a token with spaces before it, and what follows does not make it longer.
pub record Fits (p : Piece) (rest : Text) : Type 0 where
  pub gap : list_all is_space p.gap ≡ true
  pub begun : begins_token p.word ≡ true
  pub spelling : is_spelling p.word ≡ true
  pub kind : kind_of p.word ≡ Some p.kind
  pub ended : Ends p.word rest
  pub plain_gap : is_plain p.gap ≡ true
  pub plain_word : is_plain p.word ≡ true

-- each piece fits before the next
abbrev pub AllFit : List Piece → Text → Type 0
AllFit [] rest = Unit {0}
AllFit (p ∷ ps) rest = Fits p (spell ps rest) × AllFit ps rest

pub spell-append : (ps qs : List Piece) (rest : Text) → spell (ps ++ qs) rest ≡ spell ps (spell qs rest)
spell-append [] qs rest = refl
spell-append (p ∷ ps) qs rest = ap (λ z. p.gap ++ (p.word ++ z)) (spell-append ps qs rest)

pub behind-append : (at : ℕ) (ps qs : List Piece) → behind at (ps ++ qs) ≡ behind (behind at ps) qs
behind-append at [] qs = refl
behind-append at (p ∷ ps) qs = behind-append (token at p).to ps qs

pub tokens-append : (at : ℕ) (ps qs : List Piece) → tokens at (ps ++ qs) ≡ tokens at ps ++ tokens (behind at ps) qs
tokens-append at [] qs = refl
tokens-append at (p ∷ ps) qs = ap (λ z. token at p ∷ z) (tokens-append (token at p).to ps qs)

pub fit-append : (ps qs : List Piece) (rest : Text) → AllFit ps (spell qs rest) → AllFit qs rest → AllFit (ps ++ qs) rest
fit-append [] qs rest h k = k
fit-append (p ∷ ps) qs rest h k = (one (spell-append ps qs rest) h.0, fit-append ps qs rest h.1 k)
  where
    one : {p : Piece} {x y : Text} → x ≡ y → Fits p y → Fits p x
    one {p} {x} {y} e f = record {
      gap = f.gap;
      begun = f.begun;
      spelling = f.spelling;
      kind = f.kind;
      plain_gap = f.plain_gap;
      plain_word = f.plain_word;
      ended = record { ends = λ c after g. f.ended.ends c after (sym e ∙ g) };
    }

-- ---- the tokens of a text of pieces

pub lexed : (end at : ℕ) (ps : List Piece) (rest : Text) (ts : List Token) → AllFit ps rest → at + bytes (spell ps rest) ≡ end → AreTokens end rest ts
    → AreTokens end (spell ps rest) (tokens at ps ++ ts)
lexed end at [] rest ts f e h = h
lexed end at (p ∷ ps) rest ts (f, fs) e h =
    let x = spell ps rest in
    let first : bytes (p.gap ++ (p.word ++ x)) ≡ bytes p.gap + bytes (p.word ++ x) = bytes-append p.gap (p.word ++ x) in
    let second : bytes (p.word ++ x) ≡ bytes p.word + bytes x = bytes-append p.word x in
    let here : Begins end (p.gap ++ (p.word ++ x)) (token at p) p.word x = record {
      split = skip_gap p.gap (p.word ++ x) f.gap ∙ skip_word p.word x f.begun;
      longest = longest_by_next p.word x f.spelling f.ended;
      kind = f.kind;
      from = omega arith;
      to = omega arith;
    } in
    (p.word, x, here, lexed end (token at p).to ps rest ts fs (omega arith) h)

pub spell_plain : (ps : List Piece) (rest : Text) → AllFit ps rest → is_plain rest ≡ true → is_plain (spell ps rest) ≡ true
spell_plain [] rest f h = h
spell_plain (p ∷ ps) rest (f, fs) h =
    all_append (λ c. ltb c 128) p.gap (p.word ++ spell ps rest) f.plain_gap (all_append (λ c. ltb c 128) p.word (spell ps rest) f.plain_word (spell_plain ps rest fs h))

-- ---- the spans of tokens

-- each token's span holds the piece's word
abbrev pub AreSpelled : Text → ℕ → List Piece → Type 0
AreSpelled text at [] = Unit {0}
AreSpelled text at (p ∷ ps) = (slice_range text (token at p).from (token at p).to ≡ p.word) × AreSpelled text (token at p).to ps

spelled_here : (front gap word rest : Text) (from to : ℕ) → from ≡ length (front ++ gap) → to ≡ from + length word → slice_range (front ++ (gap ++ (word ++ rest))) from to ≡ word
spelled_here front gap word rest from to f t =
    let n : to - from ≡ length word = omega arith in
    ap (λ z. take (to - from) (drop from z)) (sym (append_assoc front gap (word ++ rest)))
    ∙ ap (λ k. take (to - from) (drop k ((front ++ gap) ++ (word ++ rest)))) f
    ∙ ap (take (to - from)) (drop-append_seam (front ++ gap) (word ++ rest))
    ∙ ap (λ k. take k (word ++ rest)) n ∙ take-append_seam word rest

pub spelled : (text front : Text) (at : ℕ) (ps : List Piece) (rest : Text) → text ≡ front ++ spell ps rest → at ≡ length front → AllFit ps rest → AreSpelled text at ps
spelled text front at [] rest e l f = tt
spelled text front at (p ∷ ps) rest e l (f, fs) =
    let x = spell ps rest in
    let g : bytes p.gap ≡ length p.gap = plain_bytes p.gap f.plain_gap in
    let w : bytes p.word ≡ length p.word = plain_bytes p.word f.plain_word in
    let a = length-append front p.gap in
    let b = length-append (front ++ p.gap) p.word in
    let next : text ≡ ((front ++ p.gap) ++ p.word) ++ x = e ∙ sym (append_assoc front p.gap (p.word ++ x)) ∙ sym (append_assoc (front ++ p.gap) p.word x) in (
      ap (λ z. slice_range z (token at p).from (token at p).to) e ∙ spelled_here front p.gap p.word x (token at p).from (token at p).to (omega arith) (omega arith),
      spelled text ((front ++ p.gap) ++ p.word) (token at p).to ps rest next (omega arith) fs,
    )

pub spelled-append : (text : Text) (at : ℕ) (ps qs : List Piece) → AreSpelled text at (ps ++ qs) → AreSpelled text at ps × AreSpelled text (behind at ps) qs
spelled-append text at [] qs h = (tt, h)
spelled-append text at (p ∷ ps) qs (h, hs) = let r = spelled-append text (token at p).to ps qs hs in ((h, r.0), r.1)
