-- The kind of a number is found in a list of all kinds, so two kinds that have one number are one kind.
use Rattle.std.specs.Prelude.{◌≡◌, ℤ, pos, List, [], ◌∷◌, Some, slice_get, ◌⊎◌}
use Rattle.std.proofs.Common.{refl, sym, ap, ◌∙◌, inl, inr}
use Rattle.kernel_lexer.specs.declared.token.Keyword.{Keyword}
use Rattle.kernel_lexer.specs.declared.token.Keyword.TheVariants as w
use Rattle.kernel_lexer.specs.declared.token.Mark.{Mark}
use Rattle.kernel_lexer.specs.declared.token.Mark.TheVariants as m
use Rattle.kernel_lexer.specs.declared.token.TokenKind.{TokenKind}
use Rattle.kernel_lexer.specs.declared.token.TokenKind.TheVariants as k
use Rattle.kernel_syntax.specs.Tokens.{tag, keyword_tag, mark_tag}
use Rattle.kernel_syntax.proofs.laws.kinds_are_apart.Goals as goal

-- all kinds by their numbers
abbrev all_kinds : List TokenKind
all_kinds =
    k.Name ∷ k.Number (pos 0)
    ∷ k.Word w.Kernel ∷ k.Word w.Input ∷ k.Word w.Output ∷ k.Word w.Temp ∷ k.Word w.Loop ∷ k.Word w.Min
    ∷ k.Word w.Max ∷ k.Word w.Sel ∷ k.Word w.Mad ∷ k.Word w.If ∷ k.Word w.Else ∷ k.Word w.By
    ∷ k.Sign m.OpenBrace ∷ k.Sign m.CloseBrace ∷ k.Sign m.OpenBracket ∷ k.Sign m.CloseBracket ∷ k.Sign m.OpenParen ∷ k.Sign m.CloseParen
    ∷ k.Sign m.Semicolon ∷ k.Sign m.Comma ∷ k.Sign m.Assign ∷ k.Sign m.Dots ∷ k.Sign m.Plus ∷ k.Sign m.Minus ∷ k.Sign m.Star
    ∷ k.Sign m.And ∷ k.Sign m.Or ∷ k.Sign m.Xor ∷ k.Sign m.Same ∷ k.Sign m.Differs ∷ k.Sign m.Less ∷ k.Sign m.AtMost ∷ k.Sign m.More
    ∷ k.Sign m.AtLeast ∷ []

word_at : (word : Keyword) → slice_get all_kinds (keyword_tag word) ≡ Some (k.Word word)
word_at w.Kernel = refl
word_at w.Input = refl
word_at w.Output = refl
word_at w.Temp = refl
word_at w.Loop = refl
word_at w.Min = refl
word_at w.Max = refl
word_at w.Sel = refl
word_at w.Mad = refl
word_at w.If = refl
word_at w.Else = refl
word_at w.By = refl

sign_at : (mark : Mark) → slice_get all_kinds (mark_tag mark) ≡ Some (k.Sign mark)
sign_at m.OpenBrace = refl
sign_at m.CloseBrace = refl
sign_at m.OpenBracket = refl
sign_at m.CloseBracket = refl
sign_at m.OpenParen = refl
sign_at m.CloseParen = refl
sign_at m.Semicolon = refl
sign_at m.Comma = refl
sign_at m.Assign = refl
sign_at m.Dots = refl
sign_at m.Plus = refl
sign_at m.Minus = refl
sign_at m.Star = refl
sign_at m.And = refl
sign_at m.Or = refl
sign_at m.Xor = refl
sign_at m.Same = refl
sign_at m.Differs = refl
sign_at m.Less = refl
sign_at m.AtMost = refl
sign_at m.More = refl
sign_at m.AtLeast = refl

-- each kind is the one that its number finds, but that a number is found as 0
found : (kind : TokenKind) → (slice_get all_kinds (tag kind) ≡ Some kind) ⊎ ((n : ℤ) × (kind ≡ k.Number n))
found k.Name = inl refl
found (k.Number n) = inr (n, refl)
found (k.Word word) = inl (word_at word)
found (k.Sign mark) = inl (sign_at mark)

-- what the number of a number finds
at_number : (a b : TokenKind) (n : ℤ) → tag a ≡ tag b → b ≡ k.Number n → slice_get all_kinds (tag a) ≡ Some a → a ≡ k.Number (pos 0)
at_number a b n e is h =
    let found_there : slice_get all_kinds (tag a) ≡ Some (k.Number (pos 0)) = ap (slice_get all_kinds) (e ∙ ap tag is) in
    cc

pub returns : goal.returns
returns c a b e = elim (found a) as (λ _. (a ≡ b) ⊎ ((m : ℤ) × (n : ℤ) × (a ≡ k.Number m) × (b ≡ k.Number n))) [
  | inl f ↦ elim (found b) as (λ _. (a ≡ b) ⊎ ((m : ℤ) × (n : ℤ) × (a ≡ k.Number m) × (b ≡ k.Number n))) [
    | inl g ↦ let same : slice_get all_kinds (tag a) ≡ slice_get all_kinds (tag b) = ap (slice_get all_kinds) e in inl (cc)
    | inr g ↦ inr (pos 0, g.0, at_number a b g.0 e g.1 f, g.1)
  ]
  | inr f ↦ elim (found b) as (λ _. (a ≡ b) ⊎ ((m : ℤ) × (n : ℤ) × (a ≡ k.Number m) × (b ≡ k.Number n))) [
    | inl g ↦ inr (f.0, pos 0, f.1, at_number b a f.0 (sym e) f.1 g)
    | inr g ↦ inr (f.0, g.0, f.1, g.1)
  ]
]
