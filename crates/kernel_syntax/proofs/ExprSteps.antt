-- The readers of expressions are exact.
use Rattle.std.proofs.Common.{◌≡◌, ℕ, zero, suc, Bool, true, false, eqb, List, ◌∷◌, Option, refl, inl, inr, ◌⊎◌, ⊎_elim, arith}
use Rattle.std.specs.Prelude.{◌||◌, pos}
use Rattle.std.proofs.lemmas.Bool.{or_left, or_right, or_cases}
use Rattle.kernel_lexer.specs.declared.token.Keyword.TheVariants as w
use Rattle.kernel_lexer.specs.declared.token.Mark.{Mark}
use Rattle.kernel_lexer.specs.declared.token.Mark.TheVariants as m
use Rattle.kernel_lexer.specs.declared.token.TokenKind.TheVariants as k
use Rattle.kernel_lexer.specs.declared.token.Token.{Token}
use Rattle.kernel_syntax.specs.declared.raw.RawExpr.{RawExpr}
use Rattle.kernel_syntax.specs.declared.raw.RawExpr.TheVariants as node
use Rattle.kernel_syntax.specs.Tokens.{tag, is_number, sign, is_pair, is_triple, opens_index, opens}
use Rattle.kernel_syntax.specs.Trees as tree
use Rattle.kernel_syntax.specs.Grammar.{Place, Leaf, ExprOf, Negated, Group, Pair, Triple, Opened, Unary, Expr}
use Rattle.kernel_syntax.specs.Parsing.{last, leaf, expr_of, group, pair, triple, opened, unary, expr}
use Rattle.kernel_syntax.proofs.KindTests.{sample, one_step, In, starts_in, begins_in, some_one, some_both, opens_with}
use Rattle.kernel_syntax.proofs.Chains.{After, after_place, after_expr, place_passes, ranked_step, last_step}
use Rattle.kernel_syntax.proofs.IndexSteps.{place_starts, place_step}
use Rattle.token_grammar.specs.declared.fault.GrammarFault.{GrammarFault}
use Rattle.token_grammar.specs.declared.fault.GrammarFault.TheVariants.{Syntax}
use Rattle.token_grammar.specs.Phrases.{Phrase, One, Both, Either, Made}
use Rattle.token_grammar.specs.Readers.{Reader, sees, one, both, either}
use Rattle.token_grammar.proofs.Parts.{Begins, Leads, Some_word}
use Rattle.token_grammar.proofs.Steps.{Step, step_one, step_both, step_made, step_either, step_shut, step_shut_open, Starts, starts_one, starts_both, starts_made, starts_either, leads_by, Levels, levels_down, no_fewer, no_more_deep, free, first_starts, begins_by}

first_begins_at : {A B : Type 0} (passes : Token → Bool) (f : Token × A → B) (S : Phrase Token A) → Begins (sees passes) true after_place (Made f (Both (One passes) S))
first_begins_at passes f S = begins_by (λ t. passes t ≡ true) (Made f (Both (One passes) S)) (sees passes) after_place true (first_starts passes f S) (λ t q. q)

-- ---- operands

abbrev Numbered : Phrase Token RawExpr
Numbered = Made tree.number (One is_number)

abbrev Placed : ℕ → Phrase Token RawExpr
Placed d = Made node.Place (Place d)

numbered_starts : Starts (In (λ n. eqb n 1)) Numbered
numbered_starts = starts_made (λ t. is_number t ≡ true) tree.number (One is_number) (starts_one is_number)

placed_starts : (d : ℕ) → Starts (In (λ n. eqb n 0)) (Placed d)
placed_starts d = starts_made (In (λ n. eqb n 0)) node.Place (Place d) (place_starts d)

leaf_starts : (d : ℕ) → Starts (In (λ n. eqb n 1 || eqb n 0)) (Leaf d)
leaf_starts d =
    starts_in (λ t. In (λ n. eqb n 1) t ⊎ In (λ n. eqb n 0) t) (In (λ n. eqb n 1 || eqb n 0)) (Leaf d)
    (λ t h. ⊎_elim (λ x. or_left (eqb (tag t.kind) 1) (eqb (tag t.kind) 0) x) (λ x. or_right (eqb (tag t.kind) 1) (eqb (tag t.kind) 0) x) h)
    (starts_either (In (λ n. eqb n 1)) (In (λ n. eqb n 0)) Numbered (Placed d) numbered_starts (placed_starts d))

leaf_step : (c : GrammarFault) (d d' : ℕ) → Levels c d d' → Step c after_place (leaf d) (leaf d') (Leaf d) (Leaf d') (Leaf (suc d))
leaf_step c d d' h =
    let b : Begins (sees is_number) true after_place Numbered = begins_in (λ n. eqb n 1) (λ n. eqb n 1) true after_place Numbered refl numbered_starts in
    step_either (sees is_number) b b
    (begins_in (λ n. eqb n 0) (λ n. eqb n 1) false after_place (Placed d) refl (placed_starts d)) (begins_in (λ n. eqb n 0) (λ n. eqb n 1) false after_place (Placed d') refl (placed_starts d'))
    (step_made tree.number (last_step c is_number (sample (k.Number (pos 0))) refl)) (step_made node.Place (place_step c d d' h))

leaf_not_open : (d : ℕ) → Begins (sees opens) false after_place (Leaf d)
leaf_not_open d = begins_in (λ n. eqb n 1 || eqb n 0) (λ n. (eqb n 25 || eqb n 18) || ((eqb n 7 || eqb n 8) || (eqb n 9 || eqb n 10))) false after_place (Leaf d) refl (leaf_starts d)

-- ---- what stands behind an expression

pub expr_of_step : (c : GrammarFault) {p p' : Reader Token RawExpr} {R R' R⁺ : Phrase Token RawExpr} → Step c after_place p p' R R' R⁺ → Step c (After after_place 5) (expr_of p) (expr_of p') (ExprOf R) (ExprOf R') (ExprOf R⁺)
expr_of_step c x = ranked_step tree.link tree.chain c after_place place_passes 5 (omega arith) x

pub expr_close : (G : Option Token → Bool) → Leads (After after_place 5) G (One (sign m.CloseParen))
expr_close G = leads_by (λ t. sign m.CloseParen t ≡ true) (One (sign m.CloseParen)) (After after_place 5) G (starts_one (sign m.CloseParen)) (λ t q. after_expr (λ n. eqb n 19) refl refl 5 t q)

expr_comma : {B : Type 0} (G : Option Token → Bool) (S : Phrase Token B) → Leads (After after_place 5) G (Both (One (sign m.Comma)) S)
expr_comma G S = leads_by (λ t. sign m.Comma t ≡ true) (Both (One (sign m.Comma)) S) (After after_place 5) G (starts_both (λ t. sign m.Comma t ≡ true) (One (sign m.Comma)) S (starts_one (sign m.Comma))) (λ t q. after_expr (λ n. eqb n 21) refl refl 5 t q)

-- ---- parts that a token opens

abbrev Closed : Phrase Token RawExpr → Phrase Token (RawExpr × Token)
Closed R = Both R (One (sign m.CloseParen))

abbrev closed : Reader Token RawExpr → Reader Token (RawExpr × Token)
closed p = both p (last (sign m.CloseParen))

-- an expression, a comma and more
abbrev Listed : {B : Type 0} → Phrase Token RawExpr → Phrase Token B → Phrase Token (RawExpr × (Token × B))
Listed R S = Both R (Both (One (sign m.Comma)) S)

abbrev listed : {B : Type 0} → Reader Token RawExpr → Reader Token B → Reader Token (RawExpr × (Token × B))
listed p q = both p (both (one (sign m.Comma)) q)

-- a parenthesis and more
abbrev Parens : {B : Type 0} → Phrase Token B → Phrase Token (Token × B)
Parens S = Both (One (sign m.OpenParen)) S

abbrev parens : {B : Type 0} → Reader Token B → Reader Token (Token × B)
parens q = both (one (sign m.OpenParen)) q

module _ (c : GrammarFault) {p p' : Reader Token RawExpr} {R R' R⁺ : Phrase Token RawExpr} (x : Step c (After after_place 5) p p' R R' R⁺) where
  closed_step : Step c after_place (closed p) (closed p') (Closed R) (Closed R') (Closed R⁺)
  closed_step = step_both (expr_close after_place) (expr_close after_place) x (last_step c (sign m.CloseParen) (sample (k.Sign m.CloseParen)) refl)

  listed_step : {B : Type 0} {q q' : Reader Token B} {S S' S⁺ : Phrase Token B} → Step c after_place q q' S S' S⁺ → Step c after_place (listed p q) (listed p' q') (Listed R S) (Listed R' S') (Listed R⁺ S⁺)
  listed_step {S = S} {S' = S'} y = step_both (expr_comma after_place S) (expr_comma after_place S') x (step_both (free after_place S) (free after_place S') (one_step c (k.Sign m.Comma) refl) y)

parens_step : (c : GrammarFault) {B : Type 0} {q q' : Reader Token B} {S S' S⁺ : Phrase Token B} → Step c after_place q q' S S' S⁺ → Step c after_place (parens q) (parens q') (Parens S) (Parens S') (Parens S⁺)
parens_step c {S = S} {S' = S'} y = step_both (free after_place S) (free after_place S') (one_step c (k.Sign m.OpenParen) refl) y

abbrev PairRest : Phrase Token RawExpr → Phrase Token (Token × (RawExpr × (Token × (RawExpr × Token))))
PairRest R = Parens (Listed R (Closed R))

abbrev TripleRest : Phrase Token RawExpr → Phrase Token (Token × (RawExpr × (Token × (RawExpr × (Token × (RawExpr × Token))))))
TripleRest R = Parens (Listed R (Listed R (Closed R)))

negated_starts : (R : Phrase Token RawExpr) → Starts (In (λ n. eqb n 25)) (Negated R)
negated_starts R = first_starts (sign m.Minus) tree.minus R

group_starts : (R : Phrase Token RawExpr) → Starts (In (λ n. eqb n 18)) (Group R)
group_starts R = first_starts (sign m.OpenParen) tree.inside (Closed R)

pair_starts : (R : Phrase Token RawExpr) → Starts (In (λ n. eqb n 7 || eqb n 8)) (Pair R)
pair_starts R = first_starts is_pair tree.pair (PairRest R)

triple_starts : (R : Phrase Token RawExpr) → Starts (In (λ n. eqb n 9 || eqb n 10)) (Triple R)
triple_starts R = first_starts is_triple tree.triple (TripleRest R)

calls_starts : (R : Phrase Token RawExpr) → Starts (In (λ n. (eqb n 7 || eqb n 8) || (eqb n 9 || eqb n 10))) (Either (Pair R) (Triple R))
calls_starts R =
    starts_in (λ t. In (λ n. eqb n 7 || eqb n 8) t ⊎ In (λ n. eqb n 9 || eqb n 10) t) (In (λ n. (eqb n 7 || eqb n 8) || (eqb n 9 || eqb n 10))) (Either (Pair R) (Triple R))
    (λ t h. ⊎_elim (λ x. or_left (is_pair t) (is_triple t) x) (λ x. or_right (is_pair t) (is_triple t) x) h)
    (starts_either (In (λ n. eqb n 7 || eqb n 8)) (In (λ n. eqb n 9 || eqb n 10)) (Pair R) (Triple R) (pair_starts R) (triple_starts R))

abbrev AtomClass : ℕ → Bool
AtomClass n = eqb n 18 || ((eqb n 7 || eqb n 8) || (eqb n 9 || eqb n 10))

atoms_starts : (R : Phrase Token RawExpr) → Starts (In AtomClass) (Either (Group R) (Either (Pair R) (Triple R)))
atoms_starts R =
    starts_in (λ t. In (λ n. eqb n 18) t ⊎ In (λ n. (eqb n 7 || eqb n 8) || (eqb n 9 || eqb n 10)) t) (In AtomClass) (Either (Group R) (Either (Pair R) (Triple R)))
    (λ t h. ⊎_elim (λ x. or_left (sign m.OpenParen t) (is_pair t || is_triple t) x) (λ x. or_right (sign m.OpenParen t) (is_pair t || is_triple t) x) h)
    (starts_either (In (λ n. eqb n 18)) (In (λ n. (eqb n 7 || eqb n 8) || (eqb n 9 || eqb n 10))) (Group R) (Either (Pair R) (Triple R)) (group_starts R) (calls_starts R))

abbrev OpenedClass : ℕ → Bool
OpenedClass n = eqb n 25 || AtomClass n

opened_starts : (R : Phrase Token RawExpr) → Starts (In OpenedClass) (Opened R)
opened_starts R =
    starts_in (λ t. In (λ n. eqb n 25) t ⊎ In AtomClass t) (In OpenedClass) (Opened R)
    (λ t h. ⊎_elim (λ x. or_left (sign m.Minus t) (AtomClass (tag t.kind)) x) (λ x. or_right (sign m.Minus t) (AtomClass (tag t.kind)) x) h)
    (starts_either (In (λ n. eqb n 25)) (In AtomClass) (Negated R) (Either (Group (ExprOf R)) (Either (Pair (ExprOf R)) (Triple (ExprOf R)))) (negated_starts R) (atoms_starts (ExprOf R)))

opened_begins : (R : Phrase Token RawExpr) → Begins (sees opens) true after_place (Opened R)
opened_begins R = begins_in OpenedClass (λ n. (eqb n 25 || eqb n 18) || ((eqb n 7 || eqb n 8) || (eqb n 9 || eqb n 10))) true after_place (Opened R) refl (opened_starts R)

module _ (c : GrammarFault) {p p' : Reader Token RawExpr} {R R' R⁺ : Phrase Token RawExpr} (x : Step c (After after_place 5) p p' R R' R⁺) where
  group_step : Step c after_place (group p) (group p') (Group R) (Group R') (Group R⁺)
  group_step = step_made tree.inside (parens_step c (closed_step c x))

  pair_step : Step c after_place (pair p) (pair p') (Pair R) (Pair R') (Pair R⁺)
  pair_step = step_made tree.pair (step_both (free after_place (PairRest R)) (free after_place (PairRest R')) (step_one c is_pair (sample (k.Word w.Min)) refl) (parens_step c (listed_step c x (closed_step c x))))

  triple_step : Step c after_place (triple p) (triple p') (Triple R) (Triple R') (Triple R⁺)
  triple_step = step_made tree.triple (step_both (free after_place (TripleRest R)) (free after_place (TripleRest R')) (step_one c is_triple (sample (k.Word w.Sel)) refl) (parens_step c (listed_step c x (listed_step c x (closed_step c x)))))

  calls_step : Step c after_place (either (sees is_pair) (pair p) (triple p)) (either (sees is_pair) (pair p') (triple p')) (Either (Pair R) (Triple R)) (Either (Pair R') (Triple R')) (Either (Pair R⁺) (Triple R⁺))
  calls_step =
      step_either (sees is_pair) (first_begins_at is_pair tree.pair (PairRest R)) (first_begins_at is_pair tree.pair (PairRest R'))
      (begins_in (λ n. eqb n 9 || eqb n 10) (λ n. eqb n 7 || eqb n 8) false after_place (Triple R) refl (triple_starts R)) (begins_in (λ n. eqb n 9 || eqb n 10) (λ n. eqb n 7 || eqb n 8) false after_place (Triple R') refl (triple_starts R'))
      pair_step triple_step

  atoms_step : Step c after_place (either (sees (sign m.OpenParen)) (group p) (either (sees is_pair) (pair p) (triple p))) (either (sees (sign m.OpenParen)) (group p') (either (sees is_pair) (pair p') (triple p'))) (Either (Group R) (Either (Pair R) (Triple R))) (Either (Group R') (Either (Pair R') (Triple R'))) (Either (Group R⁺) (Either (Pair R⁺) (Triple R⁺)))
  atoms_step =
      step_either (sees (sign m.OpenParen)) (first_begins_at (sign m.OpenParen) tree.inside (Closed R)) (first_begins_at (sign m.OpenParen) tree.inside (Closed R'))
      (begins_in (λ n. (eqb n 7 || eqb n 8) || (eqb n 9 || eqb n 10)) (λ n. eqb n 18) false after_place (Either (Pair R) (Triple R)) refl (calls_starts R)) (begins_in (λ n. (eqb n 7 || eqb n 8) || (eqb n 9 || eqb n 10)) (λ n. eqb n 18) false after_place (Either (Pair R') (Triple R')) refl (calls_starts R'))
      group_step calls_step

opened_step : (c : GrammarFault) {p p' : Reader Token RawExpr} {R R' R⁺ : Phrase Token RawExpr} → Step c after_place p p' R R' R⁺ → Step c after_place (opened p) (opened p') (Opened R) (Opened R') (Opened R⁺)
opened_step c {R = R} {R' = R'} x =
    step_either (sees (sign m.Minus)) (first_begins_at (sign m.Minus) tree.minus R) (first_begins_at (sign m.Minus) tree.minus R')
    (begins_in AtomClass (λ n. eqb n 25) false after_place (Either (Group (ExprOf R)) (Either (Pair (ExprOf R)) (Triple (ExprOf R)))) refl (atoms_starts (ExprOf R))) (begins_in AtomClass (λ n. eqb n 25) false after_place (Either (Group (ExprOf R')) (Either (Pair (ExprOf R')) (Triple (ExprOf R')))) refl (atoms_starts (ExprOf R')))
    (step_made tree.minus (step_both (free after_place R) (free after_place R') (one_step c (k.Sign m.Minus) refl) x)) (atoms_step c (expr_of_step c x))

-- ---- levels

some_leaf : Some_word (Leaf 0)
some_leaf = (leaf_step Syntax 0 0 (omega arith)).low.some

some_expr : Some_word (ExprOf (Leaf 0))
some_expr = (expr_of_step Syntax (leaf_step Syntax 0 0 (omega arith))).low.some

some_sign : (mark : Mark) → sign mark (sample (k.Sign mark)) ≡ true → Some_word (One (sign mark))
some_sign mark e = some_one (sign mark) (sample (k.Sign mark)) e

some_closed : Some_word (Closed (ExprOf (Leaf 0)))
some_closed = some_both (ExprOf (Leaf 0)) (One (sign m.CloseParen)) some_expr (some_sign m.CloseParen refl)

some_listed : {B : Type 0} (S : Phrase Token B) → Some_word S → Some_word (Listed (ExprOf (Leaf 0)) S)
some_listed S s = some_both (ExprOf (Leaf 0)) (Both (One (sign m.Comma)) S) some_expr (some_both (One (sign m.Comma)) S (some_sign m.Comma refl) s)

some_parens : {B : Type 0} (S : Phrase Token B) → Some_word S → Some_word (Parens S)
some_parens S s = some_both (One (sign m.OpenParen)) S (some_sign m.OpenParen refl) s

-- a token that opened too deep goes on where there is one more level
opens_part : (t : Token) → opens t ≡ true → (more : List Token) × (a : RawExpr) × Opened (Leaf 0) (t ∷ more) a
opens_part t e =
    ⊎_elim
    (λ h. ⊎_elim (λ i. let x = opens_with (sign m.Minus) tree.minus (Leaf 0) some_leaf t i in (x.0, x.1, inl x.2))
    (λ i. let x = opens_with (sign m.OpenParen) tree.inside (Closed (ExprOf (Leaf 0))) some_closed t i in (x.0, x.1, inr (inl x.2)))
    (or_cases (sign m.Minus t) (sign m.OpenParen t) h))
    (λ h. ⊎_elim (λ i. let x = opens_with is_pair tree.pair (PairRest (ExprOf (Leaf 0))) (some_parens (Listed (ExprOf (Leaf 0)) (Closed (ExprOf (Leaf 0)))) (some_listed (Closed (ExprOf (Leaf 0))) some_closed)) t i in (x.0, x.1, inr (inr (inl x.2))))
    (λ i. let x = opens_with is_triple tree.triple (TripleRest (ExprOf (Leaf 0))) (some_parens (Listed (ExprOf (Leaf 0)) (Listed (ExprOf (Leaf 0)) (Closed (ExprOf (Leaf 0))))) (some_listed (Listed (ExprOf (Leaf 0)) (Closed (ExprOf (Leaf 0)))) (some_listed (Closed (ExprOf (Leaf 0))) some_closed))) t i in (x.0, x.1, inr (inr (inr x.2))))
    (or_cases (is_pair t) (is_triple t) h))
    (or_cases (opens_index t) (is_pair t || is_triple t) e)

pub unary_step : (c : GrammarFault) (d d' : ℕ) → Levels c d d' → Step c after_place (unary d) (unary d') (Unary d) (Unary d') (Unary (suc d))
unary_step c zero zero h = step_shut (sees opens) (Opened (Leaf 0)) refl (λ w t i. opens_part t i) (leaf_not_open 0) (leaf_not_open 0) (leaf_step c 0 0 h)
unary_step c zero (suc e) h =
    step_shut_open (sees opens) (Opened (Leaf 0)) refl (λ w t i. opens_part t i) (opened (unary e)) (Opened (Unary e)) (no_more_deep c e h)
    (opened_begins (Unary e)) (leaf_not_open 0) (leaf_not_open (suc e)) (opened_step Syntax (unary_step Syntax e e (omega arith))).low (leaf_step c 0 (suc e) h)
unary_step c (suc d) zero h = absurd (no_fewer c d h)
unary_step c (suc d) (suc e) h =
    step_either (sees opens) (opened_begins (Unary d)) (opened_begins (Unary e)) (leaf_not_open (suc d)) (leaf_not_open (suc e))
    (opened_step c (unary_step c d e (levels_down c d e h))) (leaf_step c (suc d) (suc e) h)

pub expr_step : (c : GrammarFault) (d d' : ℕ) → Levels c d d' → Step c (After after_place 5) (expr d) (expr d') (Expr d) (Expr d') (Expr (suc d))
expr_step c d d' h = expr_of_step c (unary_step c d d' h)
