-- Tests of tokens by the number of their kind: what one test says of another is computed over all kinds.
use Rattle.std.proofs.Common.{◌≡◌, ℕ, zero, suc, ◌<◌, Bool, true, false, cond, eqb, List, [], ◌∷◌, ◌++◌, Option, refl, sym, ◌∙◌, subst, inl, inr, ◌⊎◌, arith}
use Rattle.std.specs.Prelude.{◌||◌, ◌&&◌, not}
use Rattle.std.proofs.lemmas.Bool.{eqb-true}
use Rattle.kernel_lexer.specs.declared.token.Keyword.{Keyword}
use Rattle.kernel_lexer.specs.declared.token.Keyword.TheVariants as w
use Rattle.kernel_lexer.specs.declared.token.Mark.{Mark}
use Rattle.kernel_lexer.specs.declared.token.Mark.TheVariants as m
use Rattle.kernel_lexer.specs.declared.token.TokenKind.{TokenKind}
use Rattle.kernel_lexer.specs.declared.token.TokenKind.TheVariants as k
use Rattle.kernel_lexer.specs.declared.token.Token.{Token}
use Rattle.kernel_syntax.specs.Tokens.{tag, keyword_tag, mark_tag, is, rank_of}
use Rattle.token_grammar.specs.declared.fault.GrammarFault.{GrammarFault}
use Rattle.token_grammar.specs.Phrases.{Phrase, One, Both, Made}
use Rattle.token_grammar.specs.Readers.{sees, one}
use Rattle.token_grammar.proofs.Parts.{Begins, Some_word}
use Rattle.token_grammar.proofs.Steps.{any, Step, step_one, Starts, begins_by}

-- a token of a kind
abbrev pub sample : TokenKind → Token
sample kind = record { kind = kind; from = 0; to = 0 }

pub one_step : (c : GrammarFault) (kind : TokenKind) → is kind (sample kind) ≡ true → Step c any (one (is kind)) (one (is kind)) (One (is kind)) (One (is kind)) (One (is kind))
one_step c kind e = step_one c (is kind) (sample kind) e

-- ---- all kinds at once

-- how many kinds there are
abbrev pub kinds : ℕ
kinds = 36

abbrev agrees : Bool → Bool → Bool
agrees true b = b
agrees false b = not b

agrees_same : (b x : Bool) → agrees b x ≡ true → x ≡ b
agrees_same true x e = e
agrees_same false true e = absurd (cc)
agrees_same false false e = refl

-- each number below n in the class has the test's answer b
abbrev pub implied : (ℕ → Bool) → (ℕ → Bool) → Bool → ℕ → Bool
implied class test b zero = true
implied class test b (suc n) = (not (class n) || agrees b (test n)) && implied class test b n

both_true : (a b : Bool) → (a && b) ≡ true → (a ≡ true) × (b ≡ true)
both_true true b e = (refl, e)
both_true false b e = absurd (cc)

when_in : (a b : Bool) → (not a || b) ≡ true → a ≡ true → b ≡ true
when_in true b e h = e
when_in false b e h = absurd (cc)

implied_at : (class test : ℕ → Bool) (b : Bool) (n : ℕ) → implied class test b n ≡ true → (i : ℕ) → i < n → class i ≡ true → test i ≡ b
implied_at class test b zero e i h c = absurd (omega arith)
implied_at class test b (suc n) e i h c =
    let x = both_true (not (class n) || agrees b (test n)) (implied class test b n) e in
    elim (same_or_below i n h) as (λ _. test i ≡ b) [
      | inl s ↦ agrees_same b (test i) (when_in (class i) (agrees b (test i)) (subst (λ z. (not (class z) || agrees b (test z)) ≡ true) (sym s) x.0) c)
      | inr s ↦ implied_at class test b n x.1 i s c
    ]
  where
    same_or_below : (i n : ℕ) → i < suc n → (i ≡ n) ⊎ (i < n)
    same_or_below i n h = grind arith

keyword_below : (word : Keyword) → keyword_tag word < kinds
keyword_below w.Kernel = omega arith
keyword_below w.Input = omega arith
keyword_below w.Output = omega arith
keyword_below w.Temp = omega arith
keyword_below w.Loop = omega arith
keyword_below w.Min = omega arith
keyword_below w.Max = omega arith
keyword_below w.Sel = omega arith
keyword_below w.Mad = omega arith
keyword_below w.If = omega arith
keyword_below w.Else = omega arith
keyword_below w.By = omega arith

mark_below : (mark : Mark) → mark_tag mark < kinds
mark_below m.OpenBrace = omega arith
mark_below m.CloseBrace = omega arith
mark_below m.OpenBracket = omega arith
mark_below m.CloseBracket = omega arith
mark_below m.OpenParen = omega arith
mark_below m.CloseParen = omega arith
mark_below m.Semicolon = omega arith
mark_below m.Comma = omega arith
mark_below m.Assign = omega arith
mark_below m.Dots = omega arith
mark_below m.Plus = omega arith
mark_below m.Minus = omega arith
mark_below m.Star = omega arith
mark_below m.And = omega arith
mark_below m.Or = omega arith
mark_below m.Xor = omega arith
mark_below m.Same = omega arith
mark_below m.Differs = omega arith
mark_below m.Less = omega arith
mark_below m.AtMost = omega arith
mark_below m.More = omega arith
mark_below m.AtLeast = omega arith

tag_below : (kind : TokenKind) → tag kind < kinds
tag_below k.Name = omega arith
tag_below (k.Number n) = omega arith
tag_below (k.Word word) = keyword_below word
tag_below (k.Sign mark) = mark_below mark

-- A token whose number is in a class.
abbrev pub In : (ℕ → Bool) → Token → Type 0
In class t = class (tag t.kind) ≡ true

-- what a token of a class is at a test
pub by_kind : (class test : ℕ → Bool) (b : Bool) → implied class test b kinds ≡ true → (t : Token) → In class t → test (tag t.kind) ≡ b
by_kind class test b e t c = implied_at class test b kinds e (tag t.kind) (tag_below t.kind) c

-- ---- ranks

-- the rank of an operator by the number of its kind
abbrev pub rank_at : ℕ → ℕ
rank_at n = cond (eqb n 26) 1 (cond (eqb n 24 || eqb n 25) 2 (cond (eqb n 27) 3 (cond (eqb n 29) 4 (cond (eqb n 28) 5 0))))

rank_by_keyword : (word : Keyword) → rank_of (k.Word word) ≡ rank_at (keyword_tag word)
rank_by_keyword w.Kernel = refl
rank_by_keyword w.Input = refl
rank_by_keyword w.Output = refl
rank_by_keyword w.Temp = refl
rank_by_keyword w.Loop = refl
rank_by_keyword w.Min = refl
rank_by_keyword w.Max = refl
rank_by_keyword w.Sel = refl
rank_by_keyword w.Mad = refl
rank_by_keyword w.If = refl
rank_by_keyword w.Else = refl
rank_by_keyword w.By = refl

rank_by_mark : (mark : Mark) → rank_of (k.Sign mark) ≡ rank_at (mark_tag mark)
rank_by_mark m.OpenBrace = refl
rank_by_mark m.CloseBrace = refl
rank_by_mark m.OpenBracket = refl
rank_by_mark m.CloseBracket = refl
rank_by_mark m.OpenParen = refl
rank_by_mark m.CloseParen = refl
rank_by_mark m.Semicolon = refl
rank_by_mark m.Comma = refl
rank_by_mark m.Assign = refl
rank_by_mark m.Dots = refl
rank_by_mark m.Plus = refl
rank_by_mark m.Minus = refl
rank_by_mark m.Star = refl
rank_by_mark m.And = refl
rank_by_mark m.Or = refl
rank_by_mark m.Xor = refl
rank_by_mark m.Same = refl
rank_by_mark m.Differs = refl
rank_by_mark m.Less = refl
rank_by_mark m.AtMost = refl
rank_by_mark m.More = refl
rank_by_mark m.AtLeast = refl

pub rank_by_tag : (kind : TokenKind) → rank_of kind ≡ rank_at (tag kind)
rank_by_tag k.Name = refl
rank_by_tag (k.Number n) = refl
rank_by_tag (k.Word word) = rank_by_keyword word
rank_by_tag (k.Sign mark) = rank_by_mark mark

-- a class without operators
pub no_rank : (class : ℕ → Bool) → implied class (λ n. eqb (rank_at n) 0) true kinds ≡ true → (t : Token) → In class t → rank_of t.kind ≡ 0
no_rank class e t c = rank_by_tag t.kind ∙ eqb-true (rank_at (tag t.kind)) 0 (by_kind class (λ n. eqb (rank_at n) 0) true e t c)

-- ---- first tokens

pub starts_in : {A : Type 0} (Q Q' : Token → Type 0) (R : Phrase Token A) → ((t : Token) → Q t → Q' t) → Starts Q R → Starts Q' R
starts_in Q Q' R h s u a r = let x = s u a r in (x.0, x.1, x.2, h x.0 x.3)

pub begins_in : {A : Type 0} (class test : ℕ → Bool) (b : Bool) (F : Option Token → Bool) (R : Phrase Token A) → implied class test b kinds ≡ true → Starts (In class) R → Begins (sees (λ t. test (tag t.kind))) b F R
begins_in class test b F R e s = begins_by (In class) R (sees (λ t. test (tag t.kind))) F b s (by_kind class test b e)

-- ---- some words

pub some_one : (passes : Token → Bool) (t : Token) → passes t ≡ true → Some_word (One passes)
some_one passes t e = (t ∷ [], t, (refl, e))

pub some_both : {A B : Type 0} (R : Phrase Token A) (S : Phrase Token B) → Some_word R → Some_word S → Some_word (Both R S)
some_both R S r s = (r.0 ++ s.0, (r.1, s.1), (r.0, s.0, refl, r.2, s.2))

-- a phrase with a given first token
pub opens_with : {A B : Type 0} (passes : Token → Bool) (f : Token × A → B) (S : Phrase Token A) → Some_word S → (t : Token) → passes t ≡ true → (more : List Token) × (b : B) × Made f (Both (One passes) S) (t ∷ more) b
opens_with passes f S s t e = (s.0, f (t, s.1), ((t, s.1), (t ∷ [], s.0, refl, (refl, e), s.2), refl))
