-- Levels of operators, and parts in brackets.
use Rattle.std.proofs.Common.{◌≡◌, ℕ, zero, suc, ◌≤◌, Bool, true, false, eqb, List, Option, Some, None, refl, ap, ◌∙◌, arith}
use Rattle.std.proofs.Math.Dec.{eqb-zero-suc}
use Rattle.std.proofs.lemmas.Bool.{eqb-true, ne_eqb}
use Rattle.kernel_lexer.specs.declared.token.Mark.TheVariants as m
use Rattle.kernel_lexer.specs.declared.token.TokenKind.TheVariants as k
use Rattle.kernel_lexer.specs.declared.token.Token.{Token}
use Rattle.kernel_syntax.specs.Tokens.{tag, sign, rank_of, is_operator}
use Rattle.kernel_syntax.specs.Trees as tree
use Rattle.kernel_syntax.specs.Grammar.{Linked, Ranked, Bracket, Brackets}
use Rattle.kernel_syntax.specs.Parsing.{linked, ranked, bracket, brackets, last}
use Rattle.kernel_syntax.proofs.KindTests.{kinds, sample, one_step, implied, In, by_kind, rank_at, no_rank}
use Rattle.token_grammar.specs.declared.fault.GrammarFault.{GrammarFault}
use Rattle.token_grammar.specs.Phrases.{Phrase, One, Both, Maybe}
use Rattle.token_grammar.specs.Readers.{Reader, sees}
use Rattle.token_grammar.proofs.Parts.{Begins, Leads, Ends, and_whole}
use Rattle.token_grammar.proofs.Steps.{any, Step, step_one, step_both, step_made, step_chain, Starts, starts_both, begins_by, free, first_starts, first_begins}
use Rattle.token_grammar.proofs.Options.{step_maybe, step_closed}

-- ---- what may follow

-- what may follow a chain up to a rank: what may follow its operands, and no operator up to the rank
abbrev pub After : (Option Token → Bool) → ℕ → Option Token → Bool
After F zero = F
After F (suc rank) = Ends (After F rank) (sees (is_operator (suc rank)))

-- what may follow a place: no bracket
abbrev pub after_place : Option Token → Bool
after_place = Ends any (sees (sign m.OpenBracket))

plain : (F : Option Token → Bool) (t : Token) → F (Some t) ≡ true → rank_of t.kind ≡ 0 → (rank : ℕ) → After F rank (Some t) ≡ true
plain F t f e zero = f
plain F t f e (suc rank) = and_whole (After F rank (Some t)) (eqb (rank_of t.kind) (suc rank)) (plain F t f e rank) (ap (λ n. eqb n (suc rank)) e ∙ eqb-zero-suc rank)

-- a token of a class without operators may follow each chain of an index, and of an expression where it is no bracket
pub after_index : (class : ℕ → Bool) → implied class (λ n. eqb (rank_at n) 0) true kinds ≡ true → (rank : ℕ) (t : Token) → In class t → After any rank (Some t) ≡ true
after_index class e rank t c = plain any t refl (no_rank class e t c) rank

pub after_expr : (class : ℕ → Bool) → implied class (λ n. eqb (rank_at n) 0) true kinds ≡ true → implied class (λ n. eqb n 16) false kinds ≡ true → (rank : ℕ) (t : Token) → In class t → After after_place rank (Some t) ≡ true
after_expr class e f rank t c = plain after_place t (and_whole true (eqb (tag t.kind) 16) refl (by_kind class (λ n. eqb n 16) false f t c)) (no_rank class e t c) rank

-- each operator may follow an operand
abbrev pub PassesOperators : (Option Token → Bool) → Type 0
PassesOperators F = (rank : ℕ) (o : Option Token) → sees (is_operator (suc rank)) o ≡ true → F o ≡ true

pub any_passes : PassesOperators any
any_passes rank o e = refl

pub place_passes : PassesOperators after_place
place_passes rank None e = refl
place_passes rank (Some t) e = and_whole true (eqb (tag t.kind) 16) refl (no_bracket (eqb (tag t.kind) 16) refl)
  where
    no_bracket : (b : Bool) → eqb (tag t.kind) 16 ≡ b → eqb (tag t.kind) 16 ≡ false
    no_bracket false h = h
    no_bracket true h =
        let z : rank_of t.kind ≡ 0 = no_rank (λ n. eqb n 16) refl t h in
        let s : rank_of t.kind ≡ suc rank = eqb-true (rank_of t.kind) (suc rank) e in
        absurd (omega arith)

after_operator : (F : Option Token → Bool) → PassesOperators F → (rank high : ℕ) → rank ≤ high → (o : Option Token) → sees (is_operator (suc high)) o ≡ true → After F rank o ≡ true
after_operator F h zero high l o e = h high o e
after_operator F h (suc rank) high l None e = absurd (cc)
after_operator F h (suc rank) high l (Some t) e =
    and_whole (After F rank (Some t)) (eqb (rank_of t.kind) (suc rank)) (after_operator F h rank high (omega arith) (Some t) e)
    (ap (λ n. eqb n (suc rank)) (eqb-true (rank_of t.kind) (suc high) e) ∙ ne_eqb (suc high) (suc rank) (λ s. omega arith))

-- ---- chains

-- an operator of each rank
operator : (rank : ℕ) → suc rank ≤ 5 → (t : Token) × (is_operator (suc rank) t ≡ true)
operator zero h = (sample (k.Sign m.Star), refl)
operator (suc zero) h = (sample (k.Sign m.Plus), refl)
operator (suc (suc zero)) h = (sample (k.Sign m.And), refl)
operator (suc (suc (suc zero))) h = (sample (k.Sign m.Xor), refl)
operator (suc (suc (suc (suc zero)))) h = (sample (k.Sign m.Or), refl)
operator (suc (suc (suc (suc (suc rank))))) h = absurd (omega arith)

module _ {E L : Type 0} (link : Token × E → L) (chain : E × List L → E) where
  linked_step : (c : GrammarFault) (rank : ℕ) → suc rank ≤ 5 → {F : Option Token → Bool} {p p' : Reader Token E} {R R' R⁺ : Phrase Token E} → Step c F p p' R R' R⁺ → Step c F (linked link (suc rank) p) (linked link (suc rank) p') (Linked link (suc rank) R) (Linked link (suc rank) R') (Linked link (suc rank) R⁺)
  linked_step c rank l {F = F} {R = R} {R' = R'} x = let o = operator rank l in step_made link (step_both (free F R) (free F R') (step_one c (is_operator (suc rank)) o.0 o.1) x)

  pub ranked_step : (c : GrammarFault) (F : Option Token → Bool) → PassesOperators F → (rank : ℕ) → rank ≤ 5 → {p p' : Reader Token E} {R R' R⁺ : Phrase Token E} → Step c F p p' R R' R⁺ → Step c (After F rank) (ranked link chain rank p) (ranked link chain rank p') (Ranked link chain rank R) (Ranked link chain rank R') (Ranked link chain rank R⁺)
  ranked_step c F h zero l x = x
  ranked_step c F h (suc rank) l {R = R} {R' = R'} x =
      let y = ranked_step c F h rank (omega arith) x in
      step_made chain (step_chain (sees (is_operator (suc rank))) refl (λ o e. after_operator F h rank rank (omega arith) o e)
      (first_begins (is_operator (suc rank)) link (Ranked link chain rank R)) (first_begins (is_operator (suc rank)) link (Ranked link chain rank R')) y (linked_step c rank l y))

-- ---- brackets

pub bracket_starts : {A B : Type 0} (make : Token × (A × Token) → B) (R : Phrase Token A) → Starts (λ t. sign m.OpenBracket t ≡ true) (Bracket make R)
bracket_starts make R = first_starts (sign m.OpenBracket) make (Both R (One (sign m.CloseBracket)))

pub bracket_step : {A B : Type 0} (make : Token × (A × Token) → B) (c : GrammarFault) (F : Option Token → Bool) → Leads F any (One (sign m.CloseBracket)) → {p p' : Reader Token A} {R R' R⁺ : Phrase Token A} → Step c F p p' R R' R⁺ → Step c any (bracket make p) (bracket make p') (Bracket make R) (Bracket make R') (Bracket make R⁺)
bracket_step make c F l {R = R} {R' = R'} x =
    step_made make (step_both (free any (Both R (One (sign m.CloseBracket)))) (free any (Both R' (One (sign m.CloseBracket)))) (one_step c (k.Sign m.OpenBracket) refl)
    (step_both l l x (one_step c (k.Sign m.CloseBracket) refl)))

module _ {A : Type 0} where
  abbrev Opens : Phrase Token A → Type 0
  Opens R = Starts (λ t. sign m.OpenBracket t ≡ true) R

  once : (R : Phrase Token A) → Opens R → Begins (sees (sign m.OpenBracket)) true any R
  once R s = begins_by (λ t. sign m.OpenBracket t ≡ true) R (sees (sign m.OpenBracket)) any true s (λ t q. q)

  twice : (R : Phrase Token A) → Opens R → Begins (sees (sign m.OpenBracket)) true any (Both R (Maybe R))
  twice R s = begins_by (λ t. sign m.OpenBracket t ≡ true) (Both R (Maybe R)) (sees (sign m.OpenBracket)) any true (starts_both (λ t. sign m.OpenBracket t ≡ true) R (Maybe R) s) (λ t q. q)

  pub brackets_step : (c : GrammarFault) {p p' : Reader Token A} {R R' R⁺ : Phrase Token A} → Opens R → Opens R' → Step c any p p' R R' R⁺ → Step c after_place (brackets p) (brackets p') (Brackets R) (Brackets R') (Brackets R⁺)
  brackets_step c {R = R} {R' = R'} s s' x =
      step_made tree.listed (step_maybe (sees (sign m.OpenBracket)) (twice R s) (twice R' s')
      (step_both (free after_place (Maybe R)) (free after_place (Maybe R')) x
      (step_maybe (sees (sign m.OpenBracket)) (once R s) (once R' s') (step_closed (sees (sign m.OpenBracket)) x))))

pub last_step : (c : GrammarFault) (passes : Token → Bool) (t : Token) → passes t ≡ true → Step c after_place (last passes) (last passes) (One passes) (One passes) (One passes)
last_step c passes t e = step_closed (sees (sign m.OpenBracket)) (step_one c passes t e)
