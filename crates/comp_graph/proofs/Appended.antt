-- Lists of steps, each taken at what the steps before it lead to, one list after another: for any kind of state and of step.
use Rattle.std.proofs.Common.{◌≡◌, ℕ, ◌+◌, List, [], ◌∷◌, ◌++◌, sym, ap, ◌∙◌, subst, arith}

module _ {P S : Type 0} (next : P → S → P) (after : P → List S → P) (none : (p : P) → after p [] ≡ p)
    (more : (p : P) (s : S) (ss : List S) → after p (s ∷ ss) ≡ after (next p s) ss) where
  -- where two lists lead
  pub after_both : (p : P) (ss ts : List S) → after p (ss ++ ts) ≡ after (after p ss) ts
  after_both p [] ts = ap (λ q. after q ts) (sym (none p))
  after_both p (s ∷ ss) ts = more p s (ss ++ ts) ∙ after_both (next p s) ss ts ∙ ap (λ q. after q ts) (sym (more p s ss))

  -- both lists are allowed, the second where the first leads
  pub allowed_both : (Fits : P → S → Type 0) (Allowed : P → List S → Type 0)
      → ((p : P) (s : S) (ss : List S) → Allowed p (s ∷ ss) → Fits p s × Allowed (next p s) ss)
      → ((p : P) (s : S) (ss : List S) → Fits p s → Allowed (next p s) ss → Allowed p (s ∷ ss))
      → (p : P) (ss ts : List S) → Allowed p ss → Allowed (after p ss) ts → Allowed p (ss ++ ts)
  allowed_both Fits Allowed parts join p [] ts first second = subst (λ q. Allowed q ts) (none p) second
  allowed_both Fits Allowed parts join p (s ∷ ss) ts first second =
      let both = parts p s ss first in
      join p s (ss ++ ts) both.0 (allowed_both Fits Allowed parts join (next p s) ss ts both.1 (subst (λ q. Allowed q ts) (more p s ss) second))

  -- what two lists cost
  pub total_both : (price : P → S → ℕ) (total : P → List S → ℕ) → ((p : P) → total p [] ≡ 0)
      → ((p : P) (s : S) (ss : List S) → total p (s ∷ ss) ≡ price p s + total (next p s) ss)
      → (p : P) (ss ts : List S) → total p (ss ++ ts) ≡ total p ss + total (after p ss) ts
  total_both price total nothing first p [] ts = let at = ap (λ q. total q ts) (none p) in omega (arith, at, nothing p)
  total_both price total nothing first p (s ∷ ss) ts =
      let at = ap (λ q. total q ts) (more p s ss) in
      omega (arith, at, first p s ss, first p s (ss ++ ts), total_both price total nothing first (next p s) ss ts)
