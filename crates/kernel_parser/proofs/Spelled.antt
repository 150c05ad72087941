-- What the tokens of a text spell: names are names, and numbers have 63 bits and no sign.
use Rattle.std.proofs.Common.{◌≡◌, ℕ, ℤ, pos, ◌+◌, ◌<◌, ◌≤◌, ◌^◌, Bool, true, false, cond, eqb, ◌&&◌, List, [], ◌∷◌, ◌++◌, map, length, nat_lt, nat_le, Option, Some, None, refl, sym, ap, ◌∙◌, arith}
use Rattle.std.specs.Prelude.{bytes_eq, ◌||◌}
use Rattle.std.specs.List.{All, list_all, list_any}
use Rattle.std.proofs.lemmas.List.Elements.{All-nil, All-cons}
use Rattle.std.specs.Map.{lookup}
use Rattle.std.specs.Str.{chars, encode_utf8_all}
use Rattle.std.proofs.lemmas.Bool.{ltb-true, le-leb, leb-true}
use Rattle.std.proofs.lemmas.Str.{chars_from_encodes, encodes-IsAscii, encodes_same}
use Rattle.std.proofs.lemmas.Str.Ascii.{IsAscii-from_all}
use Rattle.std.proofs.lemmas.Slice.Eq.{bytes_eq-Decides}
use Rattle.kernel_ast.specs.Names.{IsName, is_spelled}
use Rattle.kernel_ast.specs.WellFormed as good
use Rattle.kernel_lexer.specs.declared.token.Keyword.{Keyword}
use Rattle.kernel_lexer.specs.declared.token.Mark.{Mark}
use Rattle.kernel_lexer.specs.declared.token.Keyword.TheVariants as w
use Rattle.kernel_lexer.specs.declared.token.Mark.TheVariants as m
use Rattle.kernel_lexer.specs.declared.token.TokenKind.{TokenKind}
use Rattle.kernel_lexer.specs.declared.token.TokenKind.TheVariants as k
use Rattle.kernel_lexer.specs.declared.token.Token.{Token}
use Rattle.kernel_lexer.specs.Laws.{IsSpelled, AreSpans}
use Rattle.kernel_lexer.specs.Spelling.{Text, bytes, is_digits, is_word, keyword, named, reserved, sign_of, signed, value}
use Rattle.kernel_lexer.specs.Texts.{AreTextTokens}
use Rattle.kernel_lexer.proofs.Spans.{spans_rise}
use Rattle.kernel_parser.specs.Names.{word}
use Rattle.kernel_parser.proofs.Lists.{and_left, and_right}
use Rattle.kernel_syntax.specs.Tokens.{tag, is_name, is_number, number_of, span}

-- each of the tokens spells what it is
abbrev pub Spelled : List ℕ → List Token → Type 0
Spelled text [] = Unit {0}
Spelled text (t ∷ ts) = IsSpelled text t × Spelled text ts

from_spans : (text : List ℕ) (place : ℕ) (ts : List Token) → AreSpans text place ts → Spelled text ts × (place + length ts ≤ length text)
from_spans text place [] h = (tt, omega (arith, h))
from_spans text place (t ∷ ts) (a, b, s, h) = let r = from_spans text t.to ts h in ((s, r.0), omega (arith, a, b, r.1))

-- the tokens of a text are spelled, and are at most as many as its bytes
pub tokens_spelled : (text : List ℕ) (ts : List Token) → AreTextTokens text ts → Spelled text ts × (length ts ≤ length text)
tokens_spelled text ts a = let r = from_spans text 0 ts (spans_rise text ts a) in (r.0, omega (arith, r.1))

pub spelled_before : (text : List ℕ) (u v : List Token) → Spelled text (u ++ v) → Spelled text u
spelled_before text [] v h = tt
spelled_before text (t ∷ u) v h = (h.0, spelled_before text u v h.1)

pub spelled_behind : (text : List ℕ) (u v : List Token) → Spelled text (u ++ v) → Spelled text v
spelled_behind text [] v h = h
spelled_behind text (t ∷ u) v h = spelled_behind text u v h.1

-- ---- kinds

name_kind : (kind : TokenKind) → eqb (tag kind) 0 ≡ true → kind ≡ k.Name
name_kind k.Name h = refl
name_kind (k.Word w.Kernel) h = absurd (cc)
name_kind (k.Sign m.Plus) h = absurd (cc)
name_kind _ h = absurd (cc)

number_kind : (kind : TokenKind) → eqb (tag kind) 1 ≡ true → kind ≡ k.Number (number_of kind)
number_kind (k.Number n) h = refl
number_kind (k.Word w.Kernel) h = absurd (cc)
number_kind (k.Sign m.Plus) h = absurd (cc)
number_kind _ h = absurd (cc)

-- ---- names

name_parts : (digits small is short : Bool) (n : ℤ) (key : Option Keyword) (mark : Option Mark)
    → cond digits (cond small (Some (k.Number n)) None) (cond is (cond short (Some (named key)) None) (signed mark)) ≡ Some k.Name
    → (is ≡ true) × (short ≡ true) × (key ≡ None)
name_parts true true is short n key mark h = absurd (cc)
name_parts true false is short n key mark h = absurd (cc)
name_parts false small true true n None mark h = (refl, refl, refl)
name_parts false small true true n (Some key) mark h = absurd (cc)
name_parts false small true false n key mark h = absurd (cc)
name_parts false small false short n key None h = absurd (cc)
name_parts false small false short n key (Some mark) h = absurd (cc)

spelled_same : (cs : Text) → is_word cs ≡ is_spelled cs
spelled_same [] = refl
spelled_same (c ∷ cs) = refl

-- whether all characters are ASCII
abbrev is_plain : Text → Bool
is_plain = list_all (λ c. nat_lt c 128)

plain_below : (cs : Text) → is_plain cs ≡ true → All (λ c. c < 128) cs
plain_below [] h = All-nil (λ c. c < 128)
plain_below (c ∷ cs) h = All-cons (λ c. c < 128) c cs (ltb-true c 128 (and_left (nat_lt c 128) (is_plain cs) h)) (plain_below cs (and_right (nat_lt c 128) (is_plain cs) h))

plain_encoded : (cs : Text) → is_plain cs ≡ true → encode_utf8_all cs ≡ cs
plain_encoded cs h = encodes-IsAscii cs (IsAscii-from_all cs (plain_below cs h))

-- words in ASCII
abbrev Plain : List (Text × Keyword) → Type 0
Plain [] = Unit {0}
Plain (e ∷ es) = (is_plain e.0 ≡ true) × Plain es

not_key : (b c : Bool) (key : Keyword) (more : Option Keyword) → cond b (Some key) more ≡ None → (c ≡ true → b ≡ true) → (c ≡ false) × (more ≡ None)
not_key true c key more h f = absurd (cc)
not_key false true key more h f = let e : false ≡ true = f refl in absurd (cc)
not_key false false key more h f = (refl, h)

same_bytes : (cs bs r : List ℕ) → encode_utf8_all cs ≡ bs → is_plain r ≡ true → bytes_eq bs r ≡ true → bytes_eq cs r ≡ true
same_bytes cs bs r e p h = (bytes_eq-Decides cs r).1 (encodes_same cs r (e ∙ (bytes_eq-Decides bs r).0 h ∙ sym (plain_encoded r p)))

not_reserved : (cs bs : List ℕ) → encode_utf8_all cs ≡ bs → (es : List (Text × Keyword)) → Plain es → lookup (λ r. bytes_eq cs r) es ≡ None → list_any (bytes_eq bs) (map (λ e. e.0) es) ≡ false
not_reserved cs bs e [] p h = refl
not_reserved cs bs e ((r, key) ∷ es) p h =
    let x = not_key (bytes_eq cs r) (bytes_eq bs r) key (lookup (λ r. bytes_eq cs r) es) h (same_bytes cs bs r e p.0) in
    ap (λ z. z || list_any (bytes_eq bs) (map (λ e. e.0) es)) x.0 ∙ not_reserved cs bs e es p.1 x.1

reserved_plain : Plain reserved
reserved_plain = (refl, (refl, (refl, (refl, (refl, (refl, (refl, (refl, (refl, (refl, (refl, (refl, tt))))))))))))

pub name_spelled : (text : List ℕ) (t : Token) → IsSpelled text t → is_name t ≡ true → IsName (word text (span t))
name_spelled text t (cs, utf8, same, kind) h =
    let bs = word text (span t) in
    let p = name_parts (is_digits cs) (nat_lt (value cs) (2 ^ 63)) (is_word cs) (nat_le (bytes cs) 64) (pos (value cs)) (keyword cs) (sign_of cs) (kind ∙ ap Some (name_kind t.kind h)) in
    let c : cs ≡ chars bs = chars_from_encodes cs bs utf8 (sym same) in
    record {
      utf8 = utf8;
      spelled = ap is_spelled (sym c) ∙ sym (spelled_same cs) ∙ p.0;
      free = not_reserved cs bs (sym same) reserved reserved_plain p.2;
      short = let l = leb-true (bytes cs) 64 p.1 in omega (arith, l, ap length same);
    }

-- ---- numbers

number_parts : (digits small is short : Bool) (v n : ℤ) (key : Option Keyword) (mark : Option Mark)
    → cond digits (cond small (Some (k.Number v)) None) (cond is (cond short (Some (named key)) None) (signed mark)) ≡ Some (k.Number n)
    → (small ≡ true) × (n ≡ v)
number_parts true true is short v n key mark h = let e : n ≡ v = cc in (refl, e)
number_parts true false is short v n key mark h = absurd (cc)
number_parts false small true true v n None mark h = absurd (cc)
number_parts false small true true v n (Some key) mark h = absurd (cc)
number_parts false small true false v n key mark h = absurd (cc)
number_parts false small false short v n key None h = absurd (cc)
number_parts false small false short v n key (Some mark) h = absurd (cc)

small_number : (v : ℕ) → v < 2 ^ 63 → good.is_number (pos v) ≡ true
small_number v h = ap (λ z. z && nat_le v 9223372036854775807) (le-leb 0 v (omega arith)) ∙ le-leb v 9223372036854775807 (omega (arith, h))

pub number_spelled : (text : List ℕ) (t : Token) → IsSpelled text t → is_number t ≡ true → good.is_number (number_of t.kind) ≡ true
number_spelled text t (cs, utf8, same, kind) h =
    let p = number_parts (is_digits cs) (nat_lt (value cs) (2 ^ 63)) (is_word cs) (nat_le (bytes cs) 64) (pos (value cs)) (number_of t.kind) (keyword cs) (sign_of cs) (kind ∙ ap Some (number_kind t.kind h)) in
    ap good.is_number p.1 ∙ small_number (value cs) (ltb-true (value cs) (2 ^ 63) p.0)
