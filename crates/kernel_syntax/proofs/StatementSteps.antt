-- The readers of statements are exact.
use Rattle.std.proofs.Common.{◌≡◌, ℕ, zero, suc, Bool, true, false, eqb, List, [], ◌∷◌, ◌++◌, Option, Some, None, refl, ◌⊎◌, ⊎_elim, inl, inr, arith}
use Rattle.std.specs.Prelude.{◌||◌}
use Rattle.std.proofs.lemmas.Bool.{or_left, or_right, or_cases}
use Rattle.kernel_lexer.specs.declared.token.Keyword.TheVariants as w
use Rattle.kernel_lexer.specs.declared.token.Mark.TheVariants as m
use Rattle.kernel_lexer.specs.declared.token.TokenKind.TheVariants as k
use Rattle.kernel_lexer.specs.declared.token.Token.{Token}
use Rattle.kernel_syntax.specs.declared.raw.RawIndex.{RawIndex}
use Rattle.kernel_syntax.specs.declared.raw.RawExpr.{RawExpr}
use Rattle.kernel_syntax.specs.declared.raw.RawStmt.{RawStmt}
use Rattle.kernel_syntax.specs.Tokens.{tag, is_name, word, sign, opens_statement, starts, is_relation}
use Rattle.kernel_syntax.specs.Trees as tree
use Rattle.kernel_syntax.specs.Grammar.{Index, Place, Expr, Assigned, Block, Step as By, Header, Looped, Condition, Otherwise, Branched, Nested, Statement}
use Rattle.kernel_syntax.specs.Parsing.{index, assigned, block, step, header, looped, condition, otherwise, branched, nested, statement}
use Rattle.kernel_syntax.proofs.KindTests.{sample, one_step, In, by_kind, starts_in, begins_in, some_one, some_both, opens_with}
use Rattle.kernel_syntax.proofs.Chains.{After, after_place, after_index, after_expr}
use Rattle.kernel_syntax.proofs.IndexSteps.{index_step, place_starts, place_step}
use Rattle.kernel_syntax.proofs.ExprSteps.{expr_step}
use Rattle.token_grammar.specs.declared.fault.GrammarFault.{GrammarFault}
use Rattle.token_grammar.specs.declared.fault.GrammarFault.TheVariants.{Syntax}
use Rattle.token_grammar.specs.Phrases.{Phrase, One, Both, Many, Maybe}
use Rattle.token_grammar.specs.Readers.{Reader, sees, one, both, many, maybe}
use Rattle.token_grammar.proofs.Parts.{Begins, Leads, Ends, Some_word, and_whole}
use Rattle.token_grammar.proofs.Steps.{any, Step, step_one, step_both, step_made, step_either, step_shut, step_shut_open, Starts, starts_one, starts_both, starts_made, starts_either, leads_by, Levels, levels_down, no_fewer, no_more_deep, free, first_starts, first_begins}
use Rattle.token_grammar.proofs.Options.{step_closed, step_and_maybe}
use Rattle.token_grammar.proofs.Lists.{step_until}

-- ---- what may follow

-- what may follow a statement: no `else`
abbrev pub after_statement : Option Token → Bool
after_statement = Ends any (sees (word w.Else))

-- what begins a statement may follow one
pub statement_passes : (o : Option Token) → sees starts o ≡ true → after_statement o ≡ true
statement_passes None e = refl
statement_passes (Some t) e = and_whole true (eqb (tag t.kind) 12) refl (by_kind (λ n. (eqb n 6 || eqb n 11) || eqb n 0) (λ n. eqb n 12) false refl t e)

-- what may follow an index with a step: no operator and no `by`
abbrev after_step : Option Token → Bool
after_step = Ends (After any 2) (sees (word w.By))

-- a step may follow an index
step_passes : (o : Option Token) → sees (word w.By) o ≡ true → After any 2 o ≡ true
step_passes None e = absurd (cc)
step_passes (Some t) e = after_index (λ n. eqb n 13) refl 2 t e

-- ---- assignments

abbrev Value : ℕ → Phrase Token (Token × (RawExpr × Token))
Value d = Both (One (sign m.Assign)) (Both (Expr d) (One (sign m.Semicolon)))

place_end : (d : ℕ) → Leads after_place after_statement (Value d)
place_end d =
    leads_by (λ t. sign m.Assign t ≡ true) (Value d) after_place after_statement (starts_both (λ t. sign m.Assign t ≡ true) (One (sign m.Assign)) (Both (Expr d) (One (sign m.Semicolon))) (starts_one (sign m.Assign)))
    (λ t q. and_whole true (eqb (tag t.kind) 16) refl (by_kind (λ n. eqb n 22) (λ n. eqb n 16) false refl t q))

value_end : Leads (After after_place 5) after_statement (One (sign m.Semicolon))
value_end = leads_by (λ t. sign m.Semicolon t ≡ true) (One (sign m.Semicolon)) (After after_place 5) after_statement (starts_one (sign m.Semicolon)) (λ t q. after_expr (λ n. eqb n 20) refl refl 5 t q)

assigned_step : (c : GrammarFault) (d d' : ℕ) → Levels c d d' → Step c after_statement (assigned d) (assigned d') (Assigned d) (Assigned d') (Assigned (suc d))
assigned_step c d d' h =
    step_made tree.assign (step_both (place_end d) (place_end d') (place_step c d d' h)
    (step_both (free after_statement (Both (Expr d) (One (sign m.Semicolon)))) (free after_statement (Both (Expr d') (One (sign m.Semicolon)))) (one_step c (k.Sign m.Assign) refl)
    (step_both value_end value_end (expr_step c d d' h) (step_closed (sees (word w.Else)) (one_step c (k.Sign m.Semicolon) refl)))))

assigned_starts : (d : ℕ) → Starts (In (λ n. eqb n 0)) (Assigned d)
assigned_starts d = starts_made (In (λ n. eqb n 0)) tree.assign (Both (Place d) (Value d)) (starts_both (In (λ n. eqb n 0)) (Place d) (Value d) (place_starts d))

assigned_not_nested : (d : ℕ) → Begins (sees opens_statement) false after_statement (Assigned d)
assigned_not_nested d = begins_in (λ n. eqb n 0) (λ n. eqb n 6 || eqb n 11) false after_statement (Assigned d) refl (assigned_starts d)

-- ---- blocks

pub body_end : (t : Token) → sign m.CloseBrace t ≡ true → Ends after_statement (sees starts) (Some t) ≡ true
body_end t q =
    and_whole (after_statement (Some t)) (starts t) (and_whole true (eqb (tag t.kind) 12) refl (by_kind (λ n. eqb n 15) (λ n. eqb n 12) false refl t q))
    (by_kind (λ n. eqb n 15) (λ n. (eqb n 6 || eqb n 11) || eqb n 0) false refl t q)

abbrev pub Rest : Phrase Token RawStmt → Phrase Token (List RawStmt × Token)
Rest R = Both (Many R) (One (sign m.CloseBrace))

abbrev pub rest : Reader Token RawStmt → Reader Token (List RawStmt × Token)
rest p = both (many (sees starts) p) (one (sign m.CloseBrace))

pub rest_step : (c : GrammarFault) {p p' : Reader Token RawStmt} {R R' R⁺ : Phrase Token RawStmt} → Begins (sees starts) true any R → Begins (sees starts) true any R' → Step c after_statement p p' R R' R⁺ → Step c any (rest p) (rest p') (Rest R) (Rest R') (Rest R⁺)
rest_step c b b' x = step_until (sees starts) (sign m.CloseBrace) (sample (k.Sign m.CloseBrace)) refl statement_passes body_end refl b b' x

block_step : (c : GrammarFault) {p p' : Reader Token RawStmt} {R R' R⁺ : Phrase Token RawStmt} → Begins (sees starts) true any R → Begins (sees starts) true any R' → Step c after_statement p p' R R' R⁺ → Step c any (block p) (block p') (Block R) (Block R') (Block R⁺)
block_step c {R = R} {R' = R'} b b' x = step_made tree.inside (step_both (free any (Rest R)) (free any (Rest R')) (one_step c (k.Sign m.OpenBrace) refl) (rest_step c b b' x))

block_starts : (R : Phrase Token RawStmt) → Starts (In (λ n. eqb n 14)) (Block R)
block_starts R = first_starts (sign m.OpenBrace) tree.inside (Rest R)

some_block : (R : Phrase Token RawStmt) → Some_word (Block R)
some_block R =
    let x = some_both (One (sign m.OpenBrace)) (Rest R) (some_one (sign m.OpenBrace) (sample (k.Sign m.OpenBrace)) refl)
    (some_both (Many R) (One (sign m.CloseBrace)) ([], [], refl) (some_one (sign m.CloseBrace) (sample (k.Sign m.CloseBrace)) refl)) in
    (x.0, tree.inside x.1, (x.1, x.2, refl))

-- ---- headers of loops

-- a second index, with the step behind it
abbrev End : ℕ → Phrase Token (RawIndex × Option RawIndex)
End d = Both (Index d) (Maybe (By d))

abbrev Bounds : ℕ → Phrase Token (RawIndex × (Token × (RawIndex × Option RawIndex)))
Bounds d = Both (Index d) (Both (One (sign m.Dots)) (End d))

abbrev HeaderRest : ℕ → Phrase Token (Token × (Token × (RawIndex × (Token × (RawIndex × Option RawIndex)))))
HeaderRest d = Both (One is_name) (Both (One (word w.Input)) (Bounds d))

abbrev header_rest : ℕ → Reader Token (Token × (Token × (RawIndex × (Token × (RawIndex × Option RawIndex)))))
header_rest d = both (one is_name) (both (one (word w.Input)) (both (index d) (both (one (sign m.Dots)) (both (index d) (maybe (sees (word w.By)) (step d))))))

by_begins : (d : ℕ) → Begins (sees (word w.By)) true any (By d)
by_begins d = first_begins (word w.By) tree.behind (Index d)

by_step : (c : GrammarFault) (d d' : ℕ) → Levels c d d' → Step c after_step (step d) (step d') (By d) (By d') (By (suc d))
by_step c d d' h =
    step_made tree.behind (step_both (free after_step (Index d)) (free after_step (Index d')) (one_step c (k.Word w.By) refl) (step_closed (sees (word w.By)) (index_step c d d' h)))

from_end : (d : ℕ) → Leads (After any 2) after_step (Both (One (sign m.Dots)) (End d))
from_end d =
    leads_by (λ t. sign m.Dots t ≡ true) (Both (One (sign m.Dots)) (End d)) (After any 2) after_step (starts_both (λ t. sign m.Dots t ≡ true) (One (sign m.Dots)) (End d) (starts_one (sign m.Dots)))
    (λ t q. after_index (λ n. eqb n 23) refl 2 t q)

header_rest_step : (c : GrammarFault) (d d' : ℕ) → Levels c d d' → Step c after_step (header_rest d) (header_rest d') (HeaderRest d) (HeaderRest d') (HeaderRest (suc d))
header_rest_step c d d' h =
    let x = index_step c d d' h in
    let end = step_and_maybe (sees (word w.By)) step_passes (by_begins d) (by_begins d') x (by_step c d d' h) in
    let to = step_both (free after_step (End d)) (free after_step (End d')) (one_step c (k.Sign m.Dots) refl) end in
    let bounds = step_both (from_end d) (from_end d') x to in
    let input = step_both (free after_step (Bounds d)) (free after_step (Bounds d')) (one_step c (k.Word w.Input) refl) bounds in
    step_both (free after_step (Both (One (word w.Input)) (Bounds d))) (free after_step (Both (One (word w.Input)) (Bounds d'))) (one_step c k.Name refl) input

header_step : (c : GrammarFault) (d d' : ℕ) → Levels c d d' → Step c after_step (header d) (header d') (Header d) (Header d') (Header (suc d))
header_step c d d' h = step_made tree.header (step_both (free after_step (HeaderRest d)) (free after_step (HeaderRest d')) (one_step c (k.Word w.Loop) refl) (header_rest_step c d d' h))

header_starts : (d : ℕ) → Starts (In (λ n. eqb n 6)) (Header d)
header_starts d = first_starts (word w.Loop) tree.header (HeaderRest d)

-- ---- loops

header_end : (R : Phrase Token RawStmt) → Leads after_step after_statement (Block R)
header_end R =
    leads_by (In (λ n. eqb n 14)) (Block R) after_step after_statement (block_starts R)
    (λ t q. and_whole (After any 2 (Some t)) (eqb (tag t.kind) 13) (after_index (λ n. eqb n 14) refl 2 t q) (by_kind (λ n. eqb n 14) (λ n. eqb n 13) false refl t q))

looped_step : (c : GrammarFault) (d d' : ℕ) → Levels c d d' → {p p' : Reader Token RawStmt} {R R' R⁺ : Phrase Token RawStmt} → Begins (sees starts) true any R → Begins (sees starts) true any R' → Step c after_statement p p' R R' R⁺ → Step c after_statement (looped d p) (looped d' p') (Looped d R) (Looped d' R') (Looped (suc d) R⁺)
looped_step c d d' h {R = R} {R' = R'} b b' x =
    step_made tree.loop (step_both (header_end R) (header_end R') (header_step c d d' h) (step_closed (sees (word w.Else)) (block_step c b b' x)))

looped_starts : (d : ℕ) (R : Phrase Token RawStmt) → Starts (In (λ n. eqb n 6)) (Looped d R)
looped_starts d R = starts_made (In (λ n. eqb n 6)) tree.loop (Both (Header d) (Block R)) (starts_both (In (λ n. eqb n 6)) (Header d) (Block R) (header_starts d))

-- ---- branches

abbrev Sides : ℕ → Phrase Token (RawIndex × (Token × RawIndex))
Sides d = Both (Index d) (Both (One is_relation) (Index d))

-- the kinds of the signs that compare
abbrev RelationClass : ℕ → Bool
RelationClass n = eqb n 30 || (eqb n 31 || (eqb n 32 || (eqb n 33 || (eqb n 34 || eqb n 35))))

left_end : (d : ℕ) → Leads (After any 2) (After any 2) (Both (One is_relation) (Index d))
left_end d =
    leads_by (λ t. is_relation t ≡ true) (Both (One is_relation) (Index d)) (After any 2) (After any 2) (starts_both (λ t. is_relation t ≡ true) (One is_relation) (Index d) (starts_one is_relation))
    (λ t q. after_index RelationClass refl 2 t q)

sides_step : (c : GrammarFault) (d d' : ℕ) → Levels c d d' → Step c (After any 2) (both (index d) (both (one is_relation) (index d))) (both (index d') (both (one is_relation) (index d'))) (Sides d) (Sides d') (Sides (suc d))
sides_step c d d' h =
    let x = index_step c d d' h in
    let right = step_both (free (After any 2) (Index d)) (free (After any 2) (Index d')) (step_one c is_relation (sample (k.Sign m.Same)) refl) x in
    step_both (left_end d) (left_end d') x right

condition_step : (c : GrammarFault) (d d' : ℕ) → Levels c d d' → Step c (After any 2) (condition d) (condition d') (Condition d) (Condition d') (Condition (suc d))
condition_step c d d' h = step_made tree.condition (step_both (free (After any 2) (Sides d)) (free (After any 2) (Sides d')) (one_step c (k.Word w.If) refl) (sides_step c d d' h))

condition_starts : (d : ℕ) → Starts (In (λ n. eqb n 11)) (Condition d)
condition_starts d = first_starts (word w.If) tree.condition (Sides d)

otherwise_begins : (R : Phrase Token RawStmt) → Begins (sees (word w.Else)) true any (Otherwise R)
otherwise_begins R = first_begins (word w.Else) tree.behind (Block R)

otherwise_step : (c : GrammarFault) {p p' : Reader Token RawStmt} {R R' R⁺ : Phrase Token RawStmt} → Step c any (block p) (block p') (Block R) (Block R') (Block R⁺) → Step c after_statement (otherwise p) (otherwise p') (Otherwise R) (Otherwise R') (Otherwise R⁺)
otherwise_step c {R = R} {R' = R'} x =
    step_made tree.behind (step_both (free after_statement (Block R)) (free after_statement (Block R')) (one_step c (k.Word w.Else) refl) (step_closed (sees (word w.Else)) x))

abbrev Bodies : Phrase Token RawStmt → Phrase Token (List RawStmt × Option (List RawStmt))
Bodies R = Both (Block R) (Maybe (Otherwise R))

condition_end : (R : Phrase Token RawStmt) → Leads (After any 2) after_statement (Bodies R)
condition_end R =
    leads_by (In (λ n. eqb n 14)) (Bodies R) (After any 2) after_statement (starts_both (In (λ n. eqb n 14)) (Block R) (Maybe (Otherwise R)) (block_starts R)) (λ t q. after_index (λ n. eqb n 14) refl 2 t q)

branched_step : (c : GrammarFault) (d d' : ℕ) → Levels c d d' → {p p' : Reader Token RawStmt} {R R' R⁺ : Phrase Token RawStmt} → Begins (sees starts) true any R → Begins (sees starts) true any R' → Step c after_statement p p' R R' R⁺ → Step c after_statement (branched d p) (branched d' p') (Branched d R) (Branched d' R') (Branched (suc d) R⁺)
branched_step c d d' h {R = R} {R' = R'} b b' x =
    let taken = block_step c b b' x in
    let bodies = step_and_maybe (sees (word w.Else)) (λ o e. refl) (otherwise_begins R) (otherwise_begins R') taken (otherwise_step c taken) in
    step_made tree.branch (step_both (condition_end R) (condition_end R') (condition_step c d d' h) bodies)

branched_starts : (d : ℕ) (R : Phrase Token RawStmt) → Starts (In (λ n. eqb n 11)) (Branched d R)
branched_starts d R = starts_made (In (λ n. eqb n 11)) tree.branch (Both (Condition d) (Bodies R)) (starts_both (In (λ n. eqb n 11)) (Condition d) (Bodies R) (condition_starts d))

-- ---- loops and branches

abbrev NestedClass : ℕ → Bool
NestedClass n = eqb n 6 || eqb n 11

nested_starts : (d : ℕ) (R : Phrase Token RawStmt) → Starts (In NestedClass) (Nested d R)
nested_starts d R =
    starts_in (λ t. In (λ n. eqb n 6) t ⊎ In (λ n. eqb n 11) t) (In NestedClass) (Nested d R)
    (λ t h. ⊎_elim (λ x. or_left (eqb (tag t.kind) 6) (eqb (tag t.kind) 11) x) (λ x. or_right (eqb (tag t.kind) 6) (eqb (tag t.kind) 11) x) h)
    (starts_either (In (λ n. eqb n 6)) (In (λ n. eqb n 11)) (Looped d R) (Branched d R) (looped_starts d R) (branched_starts d R))

nested_begins : (d : ℕ) (R : Phrase Token RawStmt) → Begins (sees opens_statement) true after_statement (Nested d R)
nested_begins d R = begins_in NestedClass NestedClass true after_statement (Nested d R) refl (nested_starts d R)

is_loop : (d : ℕ) (R : Phrase Token RawStmt) → Begins (sees (word w.Loop)) true after_statement (Looped d R)
is_loop d R = begins_in (λ n. eqb n 6) (λ n. eqb n 6) true after_statement (Looped d R) refl (looped_starts d R)

is_no_loop : (d : ℕ) (R : Phrase Token RawStmt) → Begins (sees (word w.Loop)) false after_statement (Branched d R)
is_no_loop d R = begins_in (λ n. eqb n 11) (λ n. eqb n 6) false after_statement (Branched d R) refl (branched_starts d R)

nested_step : (c : GrammarFault) (d d' : ℕ) → Levels c d d' → {p p' : Reader Token RawStmt} {R R' R⁺ : Phrase Token RawStmt} → Begins (sees starts) true any R → Begins (sees starts) true any R' → Step c after_statement p p' R R' R⁺ → Step c after_statement (nested d p) (nested d' p') (Nested d R) (Nested d' R') (Nested (suc d) R⁺)
nested_step c d d' h {R = R} {R' = R'} b b' x =
    step_either (sees (word w.Loop)) (is_loop d R) (is_loop d' R') (is_no_loop d R) (is_no_loop d' R') (looped_step c d d' h b b' x) (branched_step c d d' h b b' x)

-- ---- statements

abbrev pub StatementClass : ℕ → Bool
StatementClass n = (eqb n 6 || eqb n 11) || eqb n 0

pub statement_starts : (d : ℕ) → Starts (In StatementClass) (Statement d)
statement_starts zero = starts_in (In (λ n. eqb n 0)) (In StatementClass) (Assigned 0) (λ t h. or_right (eqb (tag t.kind) 6 || eqb (tag t.kind) 11) (eqb (tag t.kind) 0) h) (assigned_starts 0)
statement_starts (suc d) =
    starts_in (λ t. In NestedClass t ⊎ In (λ n. eqb n 0) t) (In StatementClass) (Statement (suc d))
    (λ t h. ⊎_elim (λ x. or_left (eqb (tag t.kind) 6 || eqb (tag t.kind) 11) (eqb (tag t.kind) 0) x) (λ x. or_right (eqb (tag t.kind) 6 || eqb (tag t.kind) 11) (eqb (tag t.kind) 0) x) h)
    (starts_either (In NestedClass) (In (λ n. eqb n 0)) (Nested d (Statement d)) (Assigned (suc d)) (nested_starts d (Statement d)) (assigned_starts (suc d)))

pub statement_begins : (d : ℕ) → Begins (sees starts) true any (Statement d)
statement_begins d = begins_in StatementClass StatementClass true any (Statement d) refl (statement_starts d)

-- a loop or a branch that was too deep goes on where there is one more level
opens_loop : (t : Token) → word w.Loop t ≡ true → (more : List Token) × (a : RawStmt) × Looped 0 (Statement 0) (t ∷ more) a
opens_loop t e =
    let x = opens_with (word w.Loop) tree.header (HeaderRest 0) (header_rest_step Syntax 0 0 (omega arith)).low.some t e in
    let y = some_block (Statement 0) in
    (x.0 ++ y.0, tree.loop (x.1, y.1), ((x.1, y.1), (t ∷ x.0, y.0, refl, x.2, y.2), refl))

opens_branch : (t : Token) → word w.If t ≡ true → (more : List Token) × (a : RawStmt) × Branched 0 (Statement 0) (t ∷ more) a
opens_branch t e =
    let x = opens_with (word w.If) tree.condition (Sides 0) (sides_step Syntax 0 0 (omega arith)).low.some t e in
    let y = some_both (Block (Statement 0)) (Maybe (Otherwise (Statement 0))) (some_block (Statement 0)) ([], None, refl) in
    (x.0 ++ y.0, tree.branch (x.1, y.1), ((x.1, y.1), (t ∷ x.0, y.0, refl, x.2, y.2), refl))

opens_nested : (t : Token) → opens_statement t ≡ true → (more : List Token) × (a : RawStmt) × Nested 0 (Statement 0) (t ∷ more) a
opens_nested t e =
    ⊎_elim (λ h. let x = opens_loop t h in (x.0, x.1, inl x.2)) (λ h. let x = opens_branch t h in (x.0, x.1, inr x.2)) (or_cases (word w.Loop t) (word w.If t) e)

pub statement_step : (c : GrammarFault) (d d' : ℕ) → Levels c d d' → Step c after_statement (statement d) (statement d') (Statement d) (Statement d') (Statement (suc d))
statement_step c zero zero h =
    step_shut (sees opens_statement) (Nested 0 (Statement 0)) refl (λ w t i. opens_nested t i) (assigned_not_nested 0) (assigned_not_nested 0) (assigned_step c 0 0 h)
statement_step c zero (suc e) h =
    let same : Levels Syntax e e = omega arith in
    step_shut_open (sees opens_statement) (Nested 0 (Statement 0)) refl (λ w t i. opens_nested t i) (nested e (statement e)) (Nested e (Statement e)) (no_more_deep c e h)
    (nested_begins e (Statement e)) (assigned_not_nested 0) (assigned_not_nested (suc e)) (nested_step Syntax e e same (statement_begins e) (statement_begins e) (statement_step Syntax e e same)).low (assigned_step c 0 (suc e) h)
statement_step c (suc d) zero h = absurd (no_fewer c d h)
statement_step c (suc d) (suc e) h =
    let down = levels_down c d e h in
    step_either (sees opens_statement) (nested_begins d (Statement d)) (nested_begins e (Statement e)) (assigned_not_nested (suc d)) (assigned_not_nested (suc e))
    (nested_step c d e down (statement_begins d) (statement_begins e) (statement_step c d e down)) (assigned_step c (suc d) (suc e) h)
