-- A table is refused for one reason and by one row.
use Rattle.std.proofs.Common.{◌≡◌, ◌⊎◌, ℕ, zero, suc, ◌<◌, List, inl, inr, refl, sym, ap, ◌∙◌, subst, arith}
use Rattle.comp_graph.specs.Games.{PebbleGame}
use Rattle.potential_cert.specs.declared.tables.Row.{Row}
use Rattle.potential_cert.specs.Places.{IsAt}
use Rattle.potential_cert.specs.Table.{TableParts}
use Rattle.cert_checker.specs.declared.refusal.Reason.{Reason}
use Rattle.cert_checker.specs.declared.refusal.Reason.TheVariants as reasons
use Rattle.cert_checker.specs.Refusals.{GivesReason, IsFirstFall, IsFirstWithout, IsRefusal, Passes, RefusalIsOne, place_of_reason}
use Rattle.cert_checker.proofs.Checked.{fall_refutes}

-- ---- one row

abbrev pub Compared : ℕ → ℕ → Type 0
Compared a b = (a < b) ⊎ ((a ≡ b) ⊎ (b < a))

pub compared : (a b : ℕ) → Compared a b
compared zero zero = inr (inl refl)
compared zero (suc b) = inl (omega arith)
compared (suc a) zero = inr (inr (omega arith))
compared (suc a) (suc b) = elim (compared a b) [
  | inl less ↦ inl (omega (arith, less))
  | inr (inl same) ↦ inr (inl (ap suc same))
  | inr (inr more) ↦ inr (inr (omega (arith, more)))
]

pub one_lack : {X : Type 0} → (P : X → Type 0) (rows : List X) (j k : ℕ) → IsFirstWithout P rows j → IsFirstWithout P rows k → j ≡ k
one_lack P rows j k a b = elim (compared j k) [
  | inl less ↦ absurd (a.lacks (b.earlier j a.row less a.at))
  | inr (inl same) ↦ same
  | inr (inr more) ↦ absurd (b.lacks (a.earlier k b.row more b.at))
]

-- the fall at a place is none where each row before a later place rises
fall_before : {X : Type 0} (rows : List Row) (j k : ℕ) → IsFirstFall rows j → IsFirstFall rows k → j < k → X
fall_before rows j k a b less =
    let next = a.next in
    let rises = b.earlier a.before a.low a.high (omega arith) a.low_at (subst (λ n. IsAt a.high n rows) next a.high_at) in
    let falls = a.falls in
    absurd (grind arith)

pub one_fall : (rows : List Row) (j k : ℕ) → IsFirstFall rows j → IsFirstFall rows k → j ≡ k
one_fall rows j k a b = elim (compared j k) [
  | inl less ↦ fall_before rows j k a b less
  | inr (inl same) ↦ same
  | inr (inr more) ↦ fall_before rows k j b a more
]

one_row : (g : PebbleGame) (t : TableParts) (reason : Reason) (j k : ℕ) → GivesReason g t reason j → GivesReason g t reason k → j ≡ k
one_row g t reasons.Graph j k a b = a.0 ∙ sym b.0
one_row g t reasons.Slots j k a b = a.0 ∙ sym b.0
one_row g t reasons.Weights j k a b = a.0 ∙ sym b.0
one_row g t reasons.Order j k a b = one_fall t.rows j k a b
one_row g t reasons.Position j k a b = one_lack _ t.rows j k a b
one_row g t reasons.Start j k a b = a.0 ∙ sym b.0
one_row g t reasons.Cover j k a b = absurd a
one_row g t reasons.Step j k a b = one_lack _ t.rows j k a b
one_row g t reasons.Finish j k a b = one_lack _ t.rows j k a b

-- ---- one reason

-- a reason that a table gives is none that it passes
breaks_refute : (g : PebbleGame) (t : TableParts) (reason : Reason) (k : ℕ) → GivesReason g t reason k → Passes g t reason → ⊥
breaks_refute g t reasons.Graph k is passes = is.1 passes
breaks_refute g t reasons.Slots k is passes = is.1 passes
breaks_refute g t reasons.Weights k is passes = is.1 passes
breaks_refute g t reasons.Order k is passes = fall_refutes t.rows k is passes
breaks_refute g t reasons.Position k is passes = is.lacks (passes k is.row is.at)
breaks_refute g t reasons.Start k is passes = is.1 passes
breaks_refute g t reasons.Cover k is passes = is
breaks_refute g t reasons.Step k is passes = is.lacks (passes k is.row is.at)
breaks_refute g t reasons.Finish k is passes = is.lacks (passes k is.row is.at)

-- the reason at a place of the order
pub reason_at : ℕ → Reason
reason_at zero = reasons.Graph
reason_at (suc zero) = reasons.Slots
reason_at (suc (suc zero)) = reasons.Weights
reason_at (suc (suc (suc zero))) = reasons.Order
reason_at (suc (suc (suc (suc zero)))) = reasons.Position
reason_at (suc (suc (suc (suc (suc zero))))) = reasons.Start
reason_at (suc (suc (suc (suc (suc (suc zero)))))) = reasons.Cover
reason_at (suc (suc (suc (suc (suc (suc (suc zero))))))) = reasons.Step
reason_at (suc (suc (suc (suc (suc (suc (suc (suc n)))))))) = reasons.Finish

pub at_its_place : (reason : Reason) → reason_at (place_of_reason reason) ≡ reason
unfolding reason_at
at_its_place reasons.Graph = refl
at_its_place reasons.Slots = refl
at_its_place reasons.Weights = refl
at_its_place reasons.Order = refl
at_its_place reasons.Position = refl
at_its_place reasons.Start = refl
at_its_place reasons.Cover = refl
at_its_place reasons.Step = refl
at_its_place reasons.Finish = refl

one_reason : (g : PebbleGame) (t : TableParts) (a b : Reason) (j k : ℕ) → IsRefusal g t a j → IsRefusal g t b k → a ≡ b
one_reason g t a b j k is other = elim (compared (place_of_reason a) (place_of_reason b)) [
  | inl less ↦ absurd (breaks_refute g t a j is.gives (other.first a less))
  | inr (inl same) ↦ sym (at_its_place a) ∙ ap reason_at same ∙ at_its_place b
  | inr (inr more) ↦ absurd (breaks_refute g t b k other.gives (is.first b more))
]

pub refusal_is_one : RefusalIsOne
refusal_is_one g t a b j k is other =
    let same = one_reason g t a b j k is other in
    (same, one_row g t b j k (subst (λ r. GivesReason g t r j) same is.gives) other.gives)
