-- The readers of declarations and kernels are exact.
use Rattle.std.proofs.Common.{◌≡◌, ℕ, suc, true, false, eqb, List, Some, refl, inl, inr, ◌⊎◌}
use Rattle.std.specs.Prelude.{◌||◌, pos}
use Rattle.kernel_lexer.specs.declared.token.Keyword.TheVariants as w
use Rattle.kernel_lexer.specs.declared.token.Mark.TheVariants as m
use Rattle.kernel_lexer.specs.declared.token.TokenKind.TheVariants as k
use Rattle.kernel_lexer.specs.declared.token.Token.{Token}
use Rattle.kernel_syntax.specs.declared.raw.RawSize.{RawSize}
use Rattle.kernel_syntax.specs.declared.raw.RawDecl.{RawDecl}
use Rattle.kernel_syntax.specs.declared.raw.RawStmt.{RawStmt}
use Rattle.kernel_syntax.specs.Tokens.{tag, is_name, is_number, sign, is_role}
use Rattle.kernel_syntax.specs.Trees as tree
use Rattle.kernel_syntax.specs.Grammar.{Brackets, Statement, Size, Declared, Whole}
use Rattle.kernel_syntax.specs.Parsing.{size, declared, whole}
use Rattle.kernel_syntax.proofs.KindTests.{sample, one_step, In, by_kind}
use Rattle.kernel_syntax.proofs.Chains.{after_place, bracket_starts, bracket_step, brackets_step}
use Rattle.kernel_syntax.proofs.StatementSteps.{Rest, rest_step, StatementClass, statement_starts, statement_begins, statement_step}
use Rattle.token_grammar.specs.declared.fault.GrammarFault.{GrammarFault}
use Rattle.token_grammar.specs.Phrases.{Phrase, One, Both, Many}
use Rattle.token_grammar.specs.Readers.{sees}
use Rattle.token_grammar.proofs.Parts.{Begins, Leads, Ends, and_whole}
use Rattle.token_grammar.proofs.Steps.{any, Step, step_one, step_both, step_made, step_many, Starts, starts_one, starts_many, leads_by, Levels, free, first_begins}

-- ---- declarations

size_step : (c : GrammarFault) → Step c any size size Size Size Size
size_step c = bracket_step tree.size c any (free any (One (sign m.CloseBracket))) (one_step c (k.Number (pos 0)) refl)

size_starts : Starts (λ t. sign m.OpenBracket t ≡ true) Size
size_starts = bracket_starts tree.size (One is_number)

sizes_end : Leads after_place any (One (sign m.Semicolon))
sizes_end =
    leads_by (λ t. sign m.Semicolon t ≡ true) (One (sign m.Semicolon)) after_place any (starts_one (sign m.Semicolon))
    (λ t q. and_whole true (eqb (tag t.kind) 16) refl (by_kind (λ n. eqb n 20) (λ n. eqb n 16) false refl t q))

abbrev Sizes : Phrase Token (List RawSize × Token)
Sizes = Both (Brackets Size) (One (sign m.Semicolon))

pub declared_step : (c : GrammarFault) → Step c any declared declared Declared Declared Declared
declared_step c =
    let sizes = step_both sizes_end sizes_end (brackets_step c size_starts size_starts (size_step c)) (one_step c (k.Sign m.Semicolon) refl) in
    let named = step_both (free any Sizes) (free any Sizes) (one_step c k.Name refl) sizes in
    step_made tree.declare (step_both (free any (Both (One is_name) Sizes)) (free any (Both (One is_name) Sizes)) (step_one c is_role (sample (k.Word w.Input)) refl) named)

pub declared_begins : Begins (sees is_role) true any Declared
declared_begins = first_begins is_role tree.declare (Both (One is_name) Sizes)

-- ---- kernels

decls_end : (d : ℕ) → Leads (Ends any (sees is_role)) any (Rest (Statement d))
decls_end d =
    leads_by (λ t. In StatementClass t ⊎ (sign m.CloseBrace t ≡ true)) (Rest (Statement d)) (Ends any (sees is_role)) any
    (starts_many (In StatementClass) (λ t. sign m.CloseBrace t ≡ true) (Statement d) (One (sign m.CloseBrace)) (statement_starts d) (starts_one (sign m.CloseBrace))) kinds
  where
    kinds : (t : Token) → In StatementClass t ⊎ (sign m.CloseBrace t ≡ true) → Ends any (sees is_role) (Some t) ≡ true
    kinds t (inl h) = and_whole true (is_role t) refl (by_kind StatementClass (λ n. eqb n 3 || (eqb n 4 || eqb n 5)) false refl t h)
    kinds t (inr h) = and_whole true (is_role t) refl (by_kind (λ n. eqb n 15) (λ n. eqb n 3 || (eqb n 4 || eqb n 5)) false refl t h)

abbrev Parts : ℕ → Phrase Token (List RawDecl × (List RawStmt × Token))
Parts d = Both (Many Declared) (Rest (Statement d))

abbrev Braced : ℕ → Phrase Token (Token × (List RawDecl × (List RawStmt × Token)))
Braced d = Both (One (sign m.OpenBrace)) (Parts d)

pub whole_step : (c : GrammarFault) (d d' : ℕ) → Levels c d d' → Step c any (whole d) (whole d') (Whole d) (Whole d') (Whole (suc d))
whole_step c d d' h =
    let body = rest_step c (statement_begins d) (statement_begins d') (statement_step c d d' h) in
    let parts = step_both (decls_end d) (decls_end d') (step_many (sees is_role) refl declared_begins declared_begins (declared_step c)) body in
    let braced = step_both (free any (Parts d)) (free any (Parts d')) (one_step c (k.Sign m.OpenBrace) refl) parts in
    let named = step_both (free any (Braced d)) (free any (Braced d')) (one_step c k.Name refl) braced in
    step_made tree.kernel (step_both (free any (Both (One is_name) (Braced d))) (free any (Both (One is_name) (Braced d'))) (one_step c (k.Word w.Kernel) refl) named)
