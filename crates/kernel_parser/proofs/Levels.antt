-- Chains as the grammar reads them: their operators are of one level, and they weigh at most the number of their tokens.
use Rattle.std.proofs.Common.{◌≡◌, ◌+◌, ◌≤◌, ◌&&◌, ◌==◌, ◌∷◌, ◌++◌, [], ℕ, zero, suc, Bool, true, List, map, sum, length, length-append, refl, ap, ◌∙◌, subst, arith, inl, inr, ◌⊎◌}
use Rattle.std.specs.List.{list_all}
use Rattle.std.proofs.lemmas.Bool.{le-leb, eqb-true, eq-eqb}
use Rattle.std.proofs.lemmas.List.Sums.{sum_by-cons}
use Rattle.comp_graph.specs.declared.operation.Op.{Op}
use Rattle.kernel_ast.specs.WellFormed.{level_of, are_of_one_level, all}
use Rattle.kernel_lexer.specs.declared.token.Mark.TheVariants as m
use Rattle.kernel_lexer.specs.declared.token.TokenKind.{TokenKind}
use Rattle.kernel_lexer.specs.declared.token.TokenKind.TheVariants as k
use Rattle.kernel_lexer.specs.declared.token.Token.{Token}
use Rattle.kernel_syntax.specs.Tokens.{rank_of, op_of, is_operator}
use Rattle.kernel_syntax.specs.Grammar.{Linked, Ranked}
use Rattle.kernel_parser.proofs.Spelled.{Spelled, spelled_before, spelled_behind}
use Rattle.token_grammar.specs.Phrases.{Phrase, Many}

-- What the phrase reads of spelled tokens is so, where the number is that of the tokens.
abbrev pub Gives : {A : Type 0} → List ℕ → Phrase Token A → (ℕ → A → Type 0) → Type 0
Gives {A} text R F = (word : List Token) (a : A) → Spelled text word → R word a → F (length word) a

-- a test and a weight of what is read
abbrev pub Fit : {A : Type 0} → (A → Bool) → (A → ℕ) → ℕ → A → Type 0
Fit fits weight n a = (fits a ≡ true) × (weight a ≤ n)

-- tokens of two parts
pub two_parts : (text : List ℕ) (word u v : List Token) → word ≡ u ++ v → Spelled text word → Spelled text u × Spelled text v × (length word ≡ length u + length v)
two_parts text word u v e s = let t = subst (Spelled text) e s in (spelled_before text u v t, spelled_behind text u v t, ap length e ∙ length-append u v)

pub sum_cons : (a : ℕ) (xs : List ℕ) → sum (a ∷ xs) ≡ a + sum xs
sum_cons a xs = sum_by-cons (λ x. x) a xs

-- the level of an operator by its rank
level_by_rank : (kind : TokenKind) → (rank_of kind ≡ 0) ⊎ (level_of (op_of kind) + rank_of kind ≡ 6)
level_by_rank (k.Sign m.Star) = inr refl
level_by_rank (k.Sign m.Plus) = inr refl
level_by_rank (k.Sign m.Minus) = inr refl
level_by_rank (k.Sign m.And) = inr refl
level_by_rank (k.Sign m.Xor) = inr refl
level_by_rank (k.Sign m.Or) = inr refl
level_by_rank _ = inl refl

level_at : (rank : ℕ) (t : Token) → is_operator (suc rank) t ≡ true → level_of (op_of t.kind) + rank ≡ 5
level_at rank t h =
    let e : rank_of t.kind ≡ suc rank = eqb-true (rank_of t.kind) (suc rank) h in
    elim (level_by_rank t.kind) as (λ _. level_of (op_of t.kind) + rank ≡ 5) [
      | inl z ↦ absurd (omega (arith, z, e))
      | inr s ↦ omega (arith, s, e)
    ]

-- operators of a rank, each with an operand that fits
abbrev OfRank : ℕ → List (Op × Bool) → Type 0
OfRank rank [] = Unit {0}
OfRank rank (p ∷ ps) = (level_of p.0 + rank ≡ 5) × (p.1 ≡ true) × OfRank rank ps

same_levels : (rank level : ℕ) (ps : List (Op × Bool)) → level + rank ≡ 5 → OfRank rank ps → (list_all (λ o. level_of o == level) (map (λ p. p.0) ps) ≡ true) × (all (map (λ p. p.1) ps) ≡ true)
same_levels rank level [] e h = (refl, refl)
same_levels rank level (p ∷ ps) e (l, f, more) =
    let rest = same_levels rank level ps e more in
    (ap (λ z. z && list_all (λ o. level_of o == level) (map (λ p. p.0) ps)) (eq-eqb (level_of p.0) level (omega (arith, l, e))) ∙ rest.0, ap (λ z. z && all (map (λ p. p.1) ps)) f ∙ rest.1)

one_level : (lowest rank : ℕ) (p : Op × Bool) (ps : List (Op × Bool)) → lowest + rank ≤ 5 → OfRank rank (p ∷ ps) → (are_of_one_level lowest (map (λ p. p.0) (p ∷ ps)) && all (map (λ p. p.1) (p ∷ ps))) ≡ true
one_level lowest rank p ps low (l, f, more) =
    let rest = same_levels rank (level_of p.0) ps l more in
    ap (λ z. (z && list_all (λ o. level_of o == level_of p.0) (map (λ p. p.0) ps)) && (p.1 && all (map (λ p. p.1) ps))) (le-leb lowest (level_of p.0) (omega (arith, low, l)))
    ∙ ap (λ z. z && (p.1 && all (map (λ p. p.1) ps))) rest.0 ∙ ap (λ z. z && all (map (λ p. p.1) ps)) f ∙ rest.1

-- what a chain of parts is made of, and how it fits and weighs
module _ (text : List ℕ) {E L : Type 0} (link : Token × E → L) (chain : E × List L → E) (lowest : ℕ)
    (fits : E → Bool) (weight : E → ℕ) (pair : L → Op × Bool) (heavy : L → ℕ)
    (link_is : (t : Token) (e : E) → pair (link (t, e)) ≡ (op_of t.kind, fits e))
    (link_weighs : (t : Token) (e : E) → heavy (link (t, e)) ≡ 1 + weight e)
    (alone : (e : E) → chain (e, []) ≡ e)
    (chain_fits : (e : E) (l : L) (ls : List L) → fits (chain (e, l ∷ ls)) ≡ (fits e && (are_of_one_level lowest (map (λ p. p.0) (map pair (l ∷ ls))) && all (map (λ p. p.1) (map pair (l ∷ ls))))))
    (chain_weighs : (e : E) (l : L) (ls : List L) → weight (chain (e, l ∷ ls)) ≡ weight e + sum (map heavy (l ∷ ls))) where
  record LinkFits (rank n : ℕ) (l : L) : Type 0 where
    level : level_of (pair l).0 + rank ≡ 5
    value : (pair l).1 ≡ true
    light : heavy l ≤ n

  abbrev LinksFit : ℕ → ℕ → List L → Type 0
  LinksFit rank n ls = OfRank rank (map pair ls) × (sum (map heavy ls) ≤ n)

  linked : (rank : ℕ) (R : Phrase Token E) → Gives text R (Fit fits weight) → Gives text (Linked link (suc rank) R) (LinkFits rank)
  linked rank R g word l s ((t, e), (u, v, w, (one, op), r), is) =
      let p = two_parts text word u v w s in
      let f = g v e p.1 r in
      let made : pair l ≡ (op_of t.kind, fits e) = ap pair is ∙ link_is t e in
      record {
        level = ap (λ q. level_of q.0 + rank) made ∙ level_at rank t op;
        value = ap (λ q. q.1) made ∙ f.0;
        light = omega (arith, ap heavy is, link_weighs t e, f.1, p.2, ap length one);
      }

  links : (rank : ℕ) (R : Phrase Token E) → Gives text R (Fit fits weight) → Gives text (Many (Linked link (suc rank) R)) (LinksFit rank)
  links rank R g word [] s e = (tt, omega arith)
  links rank R g word (l ∷ more) s (u, v, w, r, rs) =
      let p = two_parts text word u v w s in
      let here = linked rank R g u l p.0 r in
      let there = links rank R g v more p.1 rs in
      ((here.level, here.value, there.0), omega (arith, sum_cons (heavy l) (map heavy more), here.light, there.1, p.2))

  chained : (rank a b : ℕ) (e : E) (ls : List L) → lowest + rank ≤ 5 → Fit fits weight a e → LinksFit rank b ls → Fit fits weight (a + b) (chain (e, ls))
  chained rank a b e [] low f g = (ap fits (alone e) ∙ f.0, omega (arith, ap weight (alone e), f.1))
  chained rank a b e (l ∷ ls) low f g = (
    chain_fits e l ls ∙ ap (λ z. z && (are_of_one_level lowest (map (λ p. p.0) (map pair (l ∷ ls))) && all (map (λ p. p.1) (map pair (l ∷ ls))))) f.0 ∙ one_level lowest rank (pair l) (map pair ls) low g.0,
    omega (arith, chain_weighs e l ls, f.1, g.1),
  )

  pub ranked : (rank : ℕ) → lowest + rank ≤ 6 → (R : Phrase Token E) → Gives text R (Fit fits weight) → Gives text (Ranked link chain rank R) (Fit fits weight)
  ranked zero low R g word e s r = g word e s r
  ranked (suc rank) low R g word e s ((first, ls), (u, v, w, r, rs), is) =
      let below = ranked rank (omega arith) R g in
      let p = two_parts text word u v w s in
      let f = chained rank (length u) (length v) first ls (omega arith) (below u first p.0 r) (links rank (Ranked link chain rank R) below v ls p.1 rs) in
      (ap fits is ∙ f.0, omega (arith, ap weight is, f.1, p.2))
