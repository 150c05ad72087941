-- The tokens that were found lead to what is left.
use Rattle.std.proofs.Common.{◌≡◌, ℕ, ◌+◌, ◌-◌, false, List, [], ◌∷◌, ◌++◌, length, take, drop, Some, refl, sym, ap, ◌∙◌, subst, arith, append_assoc, append-nil}
use Rattle.std.proofs.Math.Seq.{drop-append_seam}
use Rattle.std.proofs.lemmas.List.{take-append-drop}
use Rattle.std.specs.Prelude.{Result, Ok, Err, IfErr}
use Rattle.std.specs.Str.{chars}
use Rattle.kernel_lexer.specs.declared.token.TokenKind.{TokenKind}
use Rattle.kernel_lexer.specs.declared.token.Token.{Token as Spot}
use Rattle.kernel_lexer.specs.declared.cut.TokenRule.{TokenRule}
use Rattle.kernel_lexer.specs.declared.cut.Cut.TheVariants.{Token}
use Rattle.kernel_lexer.specs.declared.lex_end.LexEnd.{LexEnd}
use Rattle.kernel_lexer.specs.declared.lex_end.LexEnd.TheVariants as ends
use Rattle.kernel_lexer.specs.Spelling.{Text, bytes, Longest, kind_of}
use Rattle.kernel_lexer.specs.Lexing.{AreTokens, Begins, FaultAfter, BreaksTokenRule, skip}
use Rattle.kernel_lexer.specs.Cutting.{IsCut, CharsEnd, FrontEnd}
use Rattle.kernel_lexer.proofs.Cuts.{bytes-append}

-- Whatever tokens or fault what is left has, the text has after those that were found.
pub record Leads (text : Text) (found : List Spot) (rest : Text) : Type 0 where
  pub from : Text
  pub is : rest ≡ skip false from
  pub tokens : (ts : List Spot) → AreTokens (bytes text) from ts → AreTokens (bytes text) text (found ++ ts)
  pub fault : (ts : List Spot) (fault : TokenRule) (left : Text) → FaultAfter (bytes text) from ts fault left → FaultAfter (bytes text) text (found ++ ts) fault left

pub leads_end : (text : Text) (found : List Spot) → Leads text found [] → AreTokens (bytes text) text found
leads_end text found l = subst (AreTokens (bytes text) text) (append-nil found) (l.tokens [] (sym l.is))

pub leads_fault : (text : Text) (found : List Spot) (rest : Text) (f : TokenRule) → Leads text found rest → BreaksTokenRule f rest → FaultAfter (bytes text) text (found ++ []) f rest
leads_fault text found rest f l h = l.fault [] f rest (sym l.is, h)

module _ (text : Text) (found : List Spot) (rest behind : Text) (t : Spot) (l : Leads text found rest) (word : Text) (e : rest ≡ word ++ behind) (longest : Longest word behind) (kinds : kind_of word ≡ Some t.kind) (f : t.from ≡ bytes text - bytes rest) (u : t.to ≡ bytes text - bytes behind) where
  begun : Begins (bytes text) l.from t word behind
  begun = record { split = sym l.is ∙ e; longest = longest; kind = kinds; from = f ∙ ap (λ z. bytes text - bytes z) e; to = u }

  leads_behind : Leads text (found ++ t ∷ []) (skip false behind)
  leads_behind = record {
    from = behind;
    is = refl;
    tokens = λ ts h. subst (AreTokens (bytes text) text) (sym (append_assoc found (t ∷ []) ts)) (l.tokens (t ∷ ts) (word, behind, begun, h));
    fault = λ ts g left h. subst (λ z. FaultAfter (bytes text) text z g left) (sym (append_assoc found (t ∷ []) ts)) (l.fault (t ∷ ts) g left (word, behind, begun, h));
  }

leads_more : (text : Text) (found : List Spot) (rest behind : Text) (kind : TokenKind) (len : ℕ) (t : Spot) → Leads text found rest → IsCut rest (Token kind len) → behind ≡ drop len rest → t.kind ≡ kind → t.from ≡ bytes text - bytes rest → t.to ≡ bytes text - bytes behind → Leads text (found ++ t ∷ []) (skip false behind)
leads_more text found rest behind kind len t l c b k f u =
    let back : c.0 ≡ behind = sym (drop-append_seam c.1 c.0) ∙ ap (λ n. drop n (c.1 ++ c.0)) c.3 ∙ ap (drop len) (sym c.2) ∙ sym b in
    leads_behind text found rest behind t l c.1 (c.2 ∙ ap (λ z. c.1 ++ z) back) (subst (Longest c.1) back c.4) (c.5 ∙ ap Some (sym k)) f u

-- a front and what is behind it have the bytes of the whole
pub split_bytes : (len : ℕ) (rest front behind : Text) → front ≡ take len rest → behind ≡ drop len rest → bytes front + bytes behind ≡ bytes rest
split_bytes len rest front behind f b =
    ap (λ z. bytes z + bytes behind) f ∙ ap (λ z. bytes (take len rest) + bytes z) b ∙ sym (bytes-append (take len rest) (drop len rest)) ∙ ap bytes (take-append-drop len rest)

-- A step of the lexer: one more token, and what is left behind it.
pub leads_step : (text : Text) (found : List Spot) (rest front behind : Text) (kind : TokenKind) (len at n : ℕ) → Leads text found rest → IsCut rest (Token kind len) → at + bytes rest ≡ bytes text → front ≡ take len rest → behind ≡ drop len rest → n ≡ bytes front → Leads text (found ++ record { kind = kind; from = at; to = at + n } ∷ []) (skip false behind)
leads_step text found rest front behind kind len at n l c p f b e =
    let s = split_bytes len rest front behind f b in
    leads_more text found rest behind kind len (record { kind = kind; from = at; to = at + n }) l c b refl (omega arith) (omega arith)

-- ---- the characters of a text

front_end : (text front : Text) (e : LexEnd) → text ≡ chars front → bytes text ≡ length front → CharsEnd text e → FrontEnd front e
front_end text front ends.NoMemory p q h = tt
front_end text front (ends.Fault code at) p q (f, ts, left, h, c, a) =
    (f, ts, left, subst (λ n. FaultAfter n (chars front) ts f left) q (subst (λ z. FaultAfter (bytes text) z ts f left) p h), c, a ∙ ap (λ n. n - bytes left) q)

pub front_err : {A : Type 0} (r : Result A LexEnd) (text front : Text) → text ≡ chars front → bytes text ≡ length front → IfErr r (CharsEnd text) → IfErr r (FrontEnd front)
front_err (Ok a) text front p q h = tt
front_err (Err e) text front p q h = front_end text front e p q h
