-- What a function of the parser owes at its choices and in its loops.
use Rattle.std.proofs.Common.{◌≡◌, ℕ, zero, suc, ◌-◌, ◌<◌, ◌≤◌, Bool, true, false, cond, List, Option, refl, sym, ap, ◌∙◌, arith}
use Rattle.kernel_lexer.specs.declared.token.Keyword.TheVariants as w
use Rattle.kernel_lexer.specs.declared.token.Mark.TheVariants as m
use Rattle.kernel_lexer.specs.declared.token.Token.{Token}
use Rattle.kernel_syntax.specs.Tokens.{word, sign, is_pair, is_operator, opens_index, opens, opens_statement, is_role, starts}
use Rattle.kernel_syntax.specs.Trees as tree
use Rattle.kernel_syntax.specs.Grammar as rule
use Rattle.kernel_syntax.specs.Parsing.{linked, chained, ranked, index_leaf, index_opened, index_unary, leaf, negated, group, pair, triple, pair_by_arguments, triple_by_arguments, opened, unary, expr, assigned, looped, branched, nested, statement, declared}
use Rattle.kernel_syntax.proofs.Arguments.{pair_is, triple_is}
use Rattle.kernel_syntax.proofs.Chains.{After, after_place, any_passes, place_passes, ranked_step}
use Rattle.kernel_syntax.proofs.IndexSteps.{index_unary_step}
use Rattle.kernel_syntax.proofs.ExprSteps.{unary_step}
use Rattle.kernel_syntax.proofs.StatementSteps.{after_statement, statement_begins, statement_step}
use Rattle.kernel_syntax.proofs.KernelSteps.{declared_begins, declared_step}
use Rattle.token_grammar.specs.declared.fault.GrammarFault.TheVariants.{TooDeep}
use Rattle.token_grammar.specs.Readers.{Bad, Reader, first, sees, deep, either}
use Rattle.token_grammar.proofs.Parts.{Sound}
use Rattle.token_grammar.proofs.Steps.{any}
use Rattle.token_grammar.proofs.Loops.{Shrinks, sound_shrinks, link_shrinks as takes}

-- ---- choices

module _ {A : Type 0} (test : Option Token → Bool) (p q : Reader Token A) (ts : List Token) where
  either_first : test (first ts) ≡ true → either test p q ts ≡ p ts
  either_first e = ap (λ b. cond b (p ts) (q ts)) e

  either_second : test (first ts) ≡ false → either test p q ts ≡ q ts
  either_second e = ap (λ b. cond b (p ts) (q ts)) e

pub index_unary_leaf : (d : ℕ) (ts : List Token) → sees opens_index (first ts) ≡ false → index_unary d ts ≡ index_leaf ts
index_unary_leaf zero ts e = either_second (sees opens_index) deep index_leaf ts e
index_unary_leaf (suc d) ts e = either_second (sees opens_index) (index_opened (index_unary d)) index_leaf ts e

pub index_unary_deep : (ts : List Token) → sees opens_index (first ts) ≡ true → index_unary 0 ts ≡ Bad TooDeep ts
index_unary_deep ts e = either_first (sees opens_index) deep index_leaf ts e

pub index_unary_opened : (d : ℕ) (ts : List Token) → 0 < d → sees opens_index (first ts) ≡ true → index_unary d ts ≡ index_opened (index_unary (d - 1)) ts
index_unary_opened zero ts h e = absurd (omega arith)
index_unary_opened (suc d) ts h e =
    let same : suc d - 1 ≡ d = omega arith in
    either_first (sees opens_index) (index_opened (index_unary d)) index_leaf ts e ∙ ap (λ n. index_opened (index_unary n) ts) (sym same)

pub unary_leaf : (d : ℕ) (ts : List Token) → sees opens (first ts) ≡ false → unary d ts ≡ leaf d ts
unary_leaf zero ts e = either_second (sees opens) deep (leaf 0) ts e
unary_leaf (suc d) ts e = either_second (sees opens) (opened (unary d)) (leaf (suc d)) ts e

pub unary_deep : (ts : List Token) → sees opens (first ts) ≡ true → unary 0 ts ≡ Bad TooDeep ts
unary_deep ts e = either_first (sees opens) deep (leaf 0) ts e

pub unary_opened : (d : ℕ) (ts : List Token) → 0 < d → sees opens (first ts) ≡ true → unary d ts ≡ opened (unary (d - 1)) ts
unary_opened zero ts h e = absurd (omega arith)
unary_opened (suc d) ts h e =
    let same : suc d - 1 ≡ d = omega arith in
    either_first (sees opens) (opened (unary d)) (leaf (suc d)) ts e ∙ ap (λ n. opened (unary n) ts) (sym same)

-- a call of two arguments
pub opened_pair : (d : ℕ) (ts : List Token) → sees (sign m.Minus) (first ts) ≡ false → sees (sign m.OpenParen) (first ts) ≡ false → sees is_pair (first ts) ≡ true → opened (unary d) ts ≡ pair_by_arguments (expr d) ts
opened_pair d ts a b e =
    either_second (sees (sign m.Minus)) (negated (unary d)) (either (sees (sign m.OpenParen)) (group (expr d)) (either (sees is_pair) (pair (expr d)) (triple (expr d)))) ts a
    ∙ either_second (sees (sign m.OpenParen)) (group (expr d)) (either (sees is_pair) (pair (expr d)) (triple (expr d))) ts b
    ∙ either_first (sees is_pair) (pair (expr d)) (triple (expr d)) ts e
    ∙ pair_is (expr d) ts

-- a call of three arguments
pub opened_triple : (d : ℕ) (ts : List Token) → sees (sign m.Minus) (first ts) ≡ false → sees (sign m.OpenParen) (first ts) ≡ false → sees is_pair (first ts) ≡ false → opened (unary d) ts ≡ triple_by_arguments (expr d) ts
opened_triple d ts a b e =
    either_second (sees (sign m.Minus)) (negated (unary d)) (either (sees (sign m.OpenParen)) (group (expr d)) (either (sees is_pair) (pair (expr d)) (triple (expr d)))) ts a
    ∙ either_second (sees (sign m.OpenParen)) (group (expr d)) (either (sees is_pair) (pair (expr d)) (triple (expr d))) ts b
    ∙ either_second (sees is_pair) (pair (expr d)) (triple (expr d)) ts e
    ∙ triple_is (expr d) ts

pub statement_assigned : (d : ℕ) (ts : List Token) → sees opens_statement (first ts) ≡ false → statement d ts ≡ assigned d ts
statement_assigned zero ts e = either_second (sees opens_statement) deep (assigned 0) ts e
statement_assigned (suc d) ts e = either_second (sees opens_statement) (nested d (statement d)) (assigned (suc d)) ts e

pub statement_deep : (ts : List Token) → sees opens_statement (first ts) ≡ true → statement 0 ts ≡ Bad TooDeep ts
statement_deep ts e = either_first (sees opens_statement) deep (assigned 0) ts e

pub statement_nested : (d : ℕ) (ts : List Token) → 0 < d → sees opens_statement (first ts) ≡ true → statement d ts ≡ nested (d - 1) (statement (d - 1)) ts
statement_nested zero ts h e = absurd (omega arith)
statement_nested (suc d) ts h e =
    let same : suc d - 1 ≡ d = omega arith in
    either_first (sees opens_statement) (nested d (statement d)) (assigned (suc d)) ts e ∙ ap (λ n. nested n (statement n) ts) (sym same)

pub nested_looped : (d : ℕ) (ts : List Token) → sees (word w.Loop) (first ts) ≡ true → nested d (statement d) ts ≡ looped d (statement d) ts
nested_looped d ts e = either_first (sees (word w.Loop)) (looped d (statement d)) (branched d (statement d)) ts e

pub nested_branched : (d : ℕ) (ts : List Token) → sees (word w.Loop) (first ts) ≡ false → nested d (statement d) ts ≡ branched d (statement d) ts
nested_branched d ts e = either_second (sees (word w.Loop)) (looped d (statement d)) (branched d (statement d)) ts e

-- ---- levels of operators

module _ {E L : Type 0} (link : Token × E → L) (chain : E × List L → E) where
  -- the highest level of operators
  pub ranked_chained : (rank : ℕ) (p : Reader Token E) (ts : List Token) → 0 < rank → ranked link chain rank p ts ≡ chained link chain rank (ranked link chain (rank - 1) p) ts
  ranked_chained zero p ts h = absurd (omega arith)
  ranked_chained (suc rank) p ts h =
      let same : suc rank - 1 ≡ rank = omega arith in
      ap (λ n. chained link chain (suc rank) (ranked link chain n p) ts) (sym same)

pub index_ranked_sound : (rank d : ℕ) → rank ≤ 5 → Sound (After any rank) (ranked tree.index_link tree.index_chain rank (index_unary d)) (rule.Ranked tree.index_link tree.index_chain rank (rule.IndexUnary d))
index_ranked_sound rank d h = (ranked_step tree.index_link tree.index_chain TooDeep any any_passes rank h (index_unary_step TooDeep d d refl)).low.sound

pub ranked_sound : (rank d : ℕ) → rank ≤ 5 → Sound (After after_place rank) (ranked tree.link tree.chain rank (unary d)) (rule.Ranked tree.link tree.chain rank (rule.Unary d))
ranked_sound rank d h = (ranked_step tree.link tree.chain TooDeep after_place place_passes rank h (unary_step TooDeep d d refl)).low.sound

-- ---- lists

-- a link takes tokens
pub link_shrinks : (rank d : ℕ) → rank ≤ 5 → 0 < rank → Shrinks (linked tree.link rank (ranked tree.link tree.chain (rank - 1) (unary d)))
link_shrinks rank d h k =
    takes (is_operator rank) tree.link (After after_place (rank - 1)) (ranked tree.link tree.chain (rank - 1) (unary d)) (rule.Ranked tree.link tree.chain (rank - 1) (rule.Unary d))
    (ranked_sound (rank - 1) d (omega arith))

pub index_link_shrinks : (rank d : ℕ) → rank ≤ 5 → 0 < rank → Shrinks (linked tree.index_link rank (ranked tree.index_link tree.index_chain (rank - 1) (index_unary d)))
index_link_shrinks rank d h k =
    takes (is_operator rank) tree.index_link (After any (rank - 1)) (ranked tree.index_link tree.index_chain (rank - 1) (index_unary d)) (rule.Ranked tree.index_link tree.index_chain (rank - 1) (rule.IndexUnary d))
    (index_ranked_sound (rank - 1) d (omega arith))

pub statement_shrinks : (d : ℕ) → Shrinks (statement d)
statement_shrinks d = sound_shrinks (sees starts) after_statement (statement d) (rule.Statement d) refl (statement_begins d) (statement_step TooDeep d d refl).low.sound

pub declared_shrinks : Shrinks declared
declared_shrinks = sound_shrinks (sees is_role) any declared rule.Declared refl declared_begins (declared_step TooDeep).low.sound
