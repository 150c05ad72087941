-- The readers of indices and places are exact.
use Rattle.std.proofs.Common.{◌≡◌, ℕ, zero, suc, true, false, eqb, List, ◌∷◌, refl, inl, inr, ◌⊎◌, ⊎_elim, arith}
use Rattle.std.specs.Prelude.{◌||◌, pos}
use Rattle.std.proofs.lemmas.Bool.{or_left, or_right, or_cases}
use Rattle.kernel_lexer.specs.declared.token.Mark.TheVariants as m
use Rattle.kernel_lexer.specs.declared.token.TokenKind.TheVariants as k
use Rattle.kernel_lexer.specs.declared.token.Token.{Token}
use Rattle.kernel_syntax.specs.declared.raw.RawIndex.{RawIndex}
use Rattle.kernel_syntax.specs.Tokens.{tag, is_name, is_number, sign, opens_index}
use Rattle.kernel_syntax.specs.Trees as tree
use Rattle.kernel_syntax.specs.Grammar.{Bracket, Brackets, IndexLeaf, IndexOf, IndexNegated, IndexGroup, IndexOpened, IndexUnary, Index, Place}
use Rattle.kernel_syntax.specs.Parsing.{bracket, index_leaf, index_of, index_opened, index_unary, index, place}
use Rattle.kernel_syntax.proofs.KindTests.{sample, one_step, In, starts_in, begins_in, some_one, some_both, opens_with}
use Rattle.kernel_syntax.proofs.Chains.{After, after_place, after_index, any_passes, ranked_step, bracket_starts, bracket_step, brackets_step}
use Rattle.token_grammar.specs.declared.fault.GrammarFault.{GrammarFault}
use Rattle.token_grammar.specs.declared.fault.GrammarFault.TheVariants.{Syntax}
use Rattle.token_grammar.specs.Phrases.{Phrase, One, Both, Made}
use Rattle.token_grammar.specs.Readers.{Reader, sees}
use Rattle.token_grammar.proofs.Parts.{Begins, Leads}
use Rattle.token_grammar.proofs.Steps.{any, Step, step_both, step_made, step_either, step_shut, step_shut_open, Starts, starts_one, starts_both, starts_made, starts_either, leads_by, Levels, levels_down, no_fewer, no_more_deep, free, first_starts}

-- ---- operands

abbrev Numbered : Phrase Token RawIndex
Numbered = Made tree.index_number (One is_number)

abbrev Named : Phrase Token RawIndex
Named = Made tree.index_name (One is_name)

numbered_starts : Starts (In (λ n. eqb n 1)) Numbered
numbered_starts = starts_made (λ t. is_number t ≡ true) tree.index_number (One is_number) (starts_one is_number)

named_starts : Starts (In (λ n. eqb n 0)) Named
named_starts = starts_made (λ t. is_name t ≡ true) tree.index_name (One is_name) (starts_one is_name)

leaf_starts : Starts (In (λ n. eqb n 1 || eqb n 0)) IndexLeaf
leaf_starts =
    starts_in (λ t. In (λ n. eqb n 1) t ⊎ In (λ n. eqb n 0) t) (In (λ n. eqb n 1 || eqb n 0)) IndexLeaf
    (λ t h. ⊎_elim (λ x. or_left (eqb (tag t.kind) 1) (eqb (tag t.kind) 0) x) (λ x. or_right (eqb (tag t.kind) 1) (eqb (tag t.kind) 0) x) h)
    (starts_either (In (λ n. eqb n 1)) (In (λ n. eqb n 0)) Numbered Named numbered_starts named_starts)

leaf_step : (c : GrammarFault) → Step c any index_leaf index_leaf IndexLeaf IndexLeaf IndexLeaf
leaf_step c =
    let b : Begins (sees is_number) true any Numbered = begins_in (λ n. eqb n 1) (λ n. eqb n 1) true any Numbered refl numbered_starts in
    let d : Begins (sees is_number) false any Named = begins_in (λ n. eqb n 0) (λ n. eqb n 1) false any Named refl named_starts in
    step_either (sees is_number) b b d d (step_made tree.index_number (one_step c (k.Number (pos 0)) refl)) (step_made tree.index_name (one_step c k.Name refl))

leaf_not_open : Begins (sees opens_index) false any IndexLeaf
leaf_not_open = begins_in (λ n. eqb n 1 || eqb n 0) (λ n. eqb n 25 || eqb n 18) false any IndexLeaf refl leaf_starts

-- ---- parts that a token opens

pub index_of_step : (c : GrammarFault) {p p' : Reader Token RawIndex} {R R' R⁺ : Phrase Token RawIndex} → Step c any p p' R R' R⁺ → Step c (After any 2) (index_of p) (index_of p') (IndexOf R) (IndexOf R') (IndexOf R⁺)
index_of_step c x = ranked_step tree.index_link tree.index_chain c any any_passes 2 (omega arith) x

group_end : Leads (After any 2) any (One (sign m.CloseParen))
group_end = leads_by (λ t. sign m.CloseParen t ≡ true) (One (sign m.CloseParen)) (After any 2) any (starts_one (sign m.CloseParen)) (λ t q. after_index (λ n. eqb n 19) refl 2 t q)

negated_starts : (R : Phrase Token RawIndex) → Starts (In (λ n. eqb n 25)) (IndexNegated R)
negated_starts R = first_starts (sign m.Minus) tree.index_minus R

group_starts : (R : Phrase Token RawIndex) → Starts (In (λ n. eqb n 18)) (IndexGroup R)
group_starts R = first_starts (sign m.OpenParen) tree.index_group (Both R (One (sign m.CloseParen)))

opened_begins : (R : Phrase Token RawIndex) → Begins (sees opens_index) true any (IndexOpened R)
opened_begins R =
    begins_in (λ n. eqb n 25 || eqb n 18) (λ n. eqb n 25 || eqb n 18) true any (IndexOpened R) refl
    (starts_in (λ t. In (λ n. eqb n 25) t ⊎ In (λ n. eqb n 18) t) (In (λ n. eqb n 25 || eqb n 18)) (IndexOpened R)
    (λ t h. ⊎_elim (λ x. or_left (eqb (tag t.kind) 25) (eqb (tag t.kind) 18) x) (λ x. or_right (eqb (tag t.kind) 25) (eqb (tag t.kind) 18) x) h)
    (starts_either (In (λ n. eqb n 25)) (In (λ n. eqb n 18)) (IndexNegated R) (IndexGroup (IndexOf R)) (negated_starts R) (group_starts (IndexOf R))))

opened_step : (c : GrammarFault) {p p' : Reader Token RawIndex} {R R' R⁺ : Phrase Token RawIndex} → Step c any p p' R R' R⁺ → Step c any (index_opened p) (index_opened p') (IndexOpened R) (IndexOpened R') (IndexOpened R⁺)
opened_step c {R = R} {R' = R'} x =
    let close = one_step c (k.Sign m.CloseParen) refl in
    let group = step_made tree.index_group (step_both (free any (Both (IndexOf R) (One (sign m.CloseParen)))) (free any (Both (IndexOf R') (One (sign m.CloseParen)))) (one_step c (k.Sign m.OpenParen) refl) (step_both group_end group_end (index_of_step c x) close)) in
    let negated = step_made tree.index_minus (step_both (free any R) (free any R') (one_step c (k.Sign m.Minus) refl) x) in
    step_either (sees (sign m.Minus))
    (begins_in (λ n. eqb n 25) (λ n. eqb n 25) true any (IndexNegated R) refl (negated_starts R)) (begins_in (λ n. eqb n 25) (λ n. eqb n 25) true any (IndexNegated R') refl (negated_starts R'))
    (begins_in (λ n. eqb n 18) (λ n. eqb n 25) false any (IndexGroup (IndexOf R)) refl (group_starts (IndexOf R))) (begins_in (λ n. eqb n 18) (λ n. eqb n 25) false any (IndexGroup (IndexOf R')) refl (group_starts (IndexOf R')))
    negated group

-- a token that opened too deep goes on where there is one more level
opens_part : (t : Token) → opens_index t ≡ true → (more : List Token) × (a : RawIndex) × IndexOpened IndexLeaf (t ∷ more) a
opens_part t e =
    ⊎_elim (λ h. let x = opens_with (sign m.Minus) tree.index_minus IndexLeaf (leaf_step Syntax).low.some t h in (x.0, x.1, inl x.2))
    (λ h. let x = opens_with (sign m.OpenParen) tree.index_group (Both (IndexOf IndexLeaf) (One (sign m.CloseParen)))
    (some_both (IndexOf IndexLeaf) (One (sign m.CloseParen)) (index_of_step Syntax (leaf_step Syntax)).low.some (some_one (sign m.CloseParen) (sample (k.Sign m.CloseParen)) refl)) t h in (x.0, x.1, inr x.2))
    (or_cases (sign m.Minus t) (sign m.OpenParen t) e)

pub index_unary_step : (c : GrammarFault) (d d' : ℕ) → Levels c d d' → Step c any (index_unary d) (index_unary d') (IndexUnary d) (IndexUnary d') (IndexUnary (suc d))
index_unary_step c zero zero h = step_shut (sees opens_index) (IndexOpened IndexLeaf) refl (λ w t i. opens_part t i) leaf_not_open leaf_not_open (leaf_step c)
index_unary_step c zero (suc e) h =
    step_shut_open (sees opens_index) (IndexOpened IndexLeaf) refl (λ w t i. opens_part t i) (index_opened (index_unary e)) (IndexOpened (IndexUnary e)) (no_more_deep c e h)
    (opened_begins (IndexUnary e)) leaf_not_open leaf_not_open (opened_step Syntax (index_unary_step Syntax e e (omega arith))).low (leaf_step c)
index_unary_step c (suc d) zero h = absurd (no_fewer c d h)
index_unary_step c (suc d) (suc e) h =
    step_either (sees opens_index) (opened_begins (IndexUnary d)) (opened_begins (IndexUnary e)) leaf_not_open leaf_not_open
    (opened_step c (index_unary_step c d e (levels_down c d e h))) (leaf_step c)

pub index_step : (c : GrammarFault) (d d' : ℕ) → Levels c d d' → Step c (After any 2) (index d) (index d') (Index d) (Index d') (Index (suc d))
index_step c d d' h = index_of_step c (index_unary_step c d d' h)

-- ---- places

bracket_end : Leads (After any 2) any (One (sign m.CloseBracket))
bracket_end = leads_by (λ t. sign m.CloseBracket t ≡ true) (One (sign m.CloseBracket)) (After any 2) any (starts_one (sign m.CloseBracket)) (λ t q. after_index (λ n. eqb n 17) refl 2 t q)

pub index_bracket_step : (c : GrammarFault) (d d' : ℕ) → Levels c d d' → Step c any (bracket tree.inside (index d)) (bracket tree.inside (index d')) (Bracket tree.inside (Index d)) (Bracket tree.inside (Index d')) (Bracket tree.inside (Index (suc d)))
index_bracket_step c d d' h = bracket_step tree.inside c (After any 2) bracket_end (index_step c d d' h)

pub place_starts : (d : ℕ) → Starts (In (λ n. eqb n 0)) (Place d)
place_starts d = starts_made (In (λ n. eqb n 0)) tree.place (Both (One is_name) (Brackets (Bracket tree.inside (Index d)))) (starts_both (λ t. is_name t ≡ true) (One is_name) (Brackets (Bracket tree.inside (Index d))) (starts_one is_name))

pub place_step : (c : GrammarFault) (d d' : ℕ) → Levels c d d' → Step c after_place (place d) (place d') (Place d) (Place d') (Place (suc d))
place_step c d d' h =
    let B = Brackets (Bracket tree.inside (Index d)) in
    let B' = Brackets (Bracket tree.inside (Index d')) in
    step_made tree.place (step_both (free after_place B) (free after_place B') (one_step c k.Name refl)
    (brackets_step c (bracket_starts tree.inside (Index d)) (bracket_starts tree.inside (Index d')) (index_bracket_step c d d' h)))
