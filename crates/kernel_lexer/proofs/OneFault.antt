-- A list of characters has one list of tokens or one fault, and not both.
use Rattle.std.proofs.Common.{◌≡◌, ℕ, ◌-◌, false, List, [], ◌∷◌, ◌++◌, Some, None, refl, sym, ap, ◌∙◌, subst}
use Rattle.kernel_lexer.specs.declared.token.TokenKind.{TokenKind}
use Rattle.kernel_lexer.specs.declared.cut.TokenRule.{TokenRule}
use Rattle.kernel_lexer.specs.declared.cut.TokenRule.TheVariants.{BadByte, TooBig}
use Rattle.kernel_lexer.specs.declared.token.Token.{Token as Spot}
use Rattle.kernel_lexer.specs.Spelling.{Text, bytes, Longest, kind_of}
use Rattle.kernel_lexer.specs.Lexing.{AreTokens, Begins, FaultAfter, BreaksTokenRule, skip}
use Rattle.kernel_lexer.proofs.Words.{one_longest, not_empty}

-- no token stands where a fault does
no_token_there : {X : Type 0} (f : TokenRule) (left word rest : Text) (k : TokenKind) → BreaksTokenRule f left → left ≡ word ++ rest → Longest word rest → kind_of word ≡ Some k → X
no_token_there BadByte left word rest k h e l m = absurd (h.1 word rest e l.is)
no_token_there TooBig left word rest k h e l m =
    let s = one_longest word h.0 rest h.1 l h.3 (sym e ∙ h.2) in
    let n : Some k ≡ None = sym m ∙ ap kind_of s.0 ∙ h.4 in
    absurd (cc)

same_fault : (f g : TokenRule) (left : Text) → BreaksTokenRule f left → BreaksTokenRule g left → f ≡ g
same_fault BadByte BadByte left h k = refl
same_fault TooBig TooBig left h k = refl
same_fault BadByte TooBig left h k = absurd (h.1 k.0 k.1 k.2 (k.3).is)
same_fault TooBig BadByte left h k = absurd (k.1 h.0 h.1 h.2 (h.3).is)

fault_not_end : {X : Type 0} (f : TokenRule) → BreaksTokenRule f [] → X
fault_not_end BadByte h = absurd (h.0 refl)
fault_not_end TooBig h = not_empty h.0 h.1 h.3 (sym h.2)

-- two first tokens of a text, with what is behind them
one_begin : (end : ℕ) (text : Text) (t u : Spot) (w x v y : Text) → Begins end text t w x → Begins end text u v y → (t ≡ u) × (x ≡ y)
one_begin end text t u w x v y a b =
    let h = one_longest w v x y a.longest b.longest (sym a.split ∙ b.split) in
    let k : Some t.kind ≡ Some u.kind = sym a.kind ∙ ap kind_of h.0 ∙ b.kind in
    let kind : t.kind ≡ u.kind = cc in
    let from : t.from ≡ u.from = a.from ∙ ap (λ z. end - bytes z) (sym a.split ∙ b.split) ∙ sym b.from in
    let to : t.to ≡ u.to = a.to ∙ ap (λ z. end - bytes z) h.1 ∙ sym b.to in
    (same_spot t u kind from to, h.1)
  where
    same_spot : (t u : Spot) → t.kind ≡ u.kind → t.from ≡ u.from → t.to ≡ u.to → t ≡ u
    same_spot t u k f g =
        ap (λ z. let s : Spot = record { kind = z; from = t.from; to = t.to } in s) k
        ∙ ap (λ z. let s : Spot = record { kind = u.kind; from = z; to = t.to } in s) f
        ∙ ap (λ z. let s : Spot = record { kind = u.kind; from = u.from; to = z } in s) g

-- a text that begins with a token has something left behind spaces and comments
not_blank : {X : Type 0} (end : ℕ) (text : Text) (t : Spot) (w x : Text) → Begins end text t w x → skip false text ≡ [] → X
not_blank end text t w x b e = not_empty w x b.longest (sym b.split ∙ e)

-- A text has one list of tokens.
pub only_tokens : (end : ℕ) (text : Text) (ts us : List Spot) → AreTokens end text ts → AreTokens end text us → ts ≡ us
only_tokens end text [] [] a b = refl
only_tokens end text [] (u ∷ us) a (v, y, b, bs) = not_blank end text u v y b a
only_tokens end text (t ∷ ts) [] (w, x, a, as') b = not_blank end text t w x a b
only_tokens end text (t ∷ ts) (u ∷ us) (w, x, a, as') (v, y, b, bs) =
    let h = one_begin end text t u w x v y a b in
    let rest : ts ≡ us = only_tokens end x ts us as' (subst (λ z. AreTokens end z us) (sym h.1) bs) in
    ap (λ z. z ∷ ts) h.0 ∙ ap (λ z. u ∷ z) rest

-- A text has one first fault.
pub one_fault : (end : ℕ) (text : Text) (ts us : List Spot) (f g : TokenRule) (left right : Text) → FaultAfter end text ts f left → FaultAfter end text us g right → (f ≡ g) × (left ≡ right)
one_fault end text [] [] f g left right a b =
    let same : left ≡ right = sym a.0 ∙ b.0 in
    (same_fault f g right (subst (BreaksTokenRule f) same a.1) b.1, same)
one_fault end text [] (u ∷ us) f g left right a (v, y, b, bs) = no_token_there f left v y u.kind a.1 (sym a.0 ∙ b.split) b.longest b.kind
one_fault end text (t ∷ ts) [] f g left right (w, x, a, as') b = no_token_there g right w x t.kind b.1 (sym b.0 ∙ a.split) a.longest a.kind
one_fault end text (t ∷ ts) (u ∷ us) f g left right (w, x, a, as') (v, y, b, bs) =
    let h = one_begin end text t u w x v y a b in
    one_fault end x ts us f g left right as' (subst (λ z. FaultAfter end z us g right) (sym h.1) bs)

-- A text with tokens has no fault.
pub tokens_or_fault : (end : ℕ) (text : Text) (ts us : List Spot) (f : TokenRule) (left : Text) → AreTokens end text ts → FaultAfter end text us f left → ⊥
tokens_or_fault end text [] [] f left a b = fault_not_end f (subst (BreaksTokenRule f) (sym b.0 ∙ a) b.1)
tokens_or_fault end text [] (u ∷ us) f left a (v, y, b, bs) = not_blank end text u v y b a
tokens_or_fault end text (t ∷ ts) [] f left (w, x, a, as') b = no_token_there f left w x t.kind b.1 (sym b.0 ∙ a.split) a.longest a.kind
tokens_or_fault end text (t ∷ ts) (u ∷ us) f left (w, x, a, as') (v, y, b, bs) =
    let h = one_begin end text t u w x v y a b in
    tokens_or_fault end x ts us f left as' (subst (λ z. FaultAfter end z us f left) (sym h.1) bs)
