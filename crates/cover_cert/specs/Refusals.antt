-- Why a covered table is refused: the first reason in an order, and the least row that gives it.
use Rattle.std.specs.Prelude.{◌≡◌, ◌⊎◌, ℕ, ◌<◌}
use Rattle.comp_graph.specs.Dags.{IsDag}
use Rattle.comp_graph.specs.Games.{PebbleGame}
use Rattle.normal_steps.specs.Sound.{IsSound}
use Rattle.potential_cert.specs.Order.{precedes}
use Rattle.potential_cert.specs.Table.{IsRising, FinishHolds}
use Rattle.cert_checker.specs.declared.refusal.Reason.{Reason}
use Rattle.cert_checker.specs.declared.refusal.Reason.TheVariants.{Graph, Slots, Weights, Order, Position, Start, Cover, Step, Finish}
use Rattle.cert_checker.specs.Refusals.{EachRow, IsFirstFall, IsFirstWithout, place_of_reason}
use Rattle.cover_cert.specs.CoverTable.{CoverTableParts, IsCoverTableOf, NamesHold, StartHolds, StepsHold, plain, plain_rows}

-- the table does not give this reason
abbrev pub Passes : PebbleGame → CoverTableParts → Reason → Type 0
Passes g t Graph = t.vertices ≡ g.dag.count
Passes g t Slots = t.slots ≡ g.slots
Passes g t Weights = (t.load ≡ g.load) × (t.store ≡ g.store)
Passes g t Order = IsRising precedes (plain_rows t.rows)
Passes g t Position = EachRow (λ r. IsSound g r.position) t.rows
Passes g t Start = StartHolds g t.rows t.bound
Passes g t Cover = EachRow (NamesHold g t.rows) t.rows
Passes g t Step = EachRow (StepsHold g t.rows t.bound) t.rows
Passes g t Finish = EachRow (λ r. FinishHolds g t.bound (plain r)) t.rows

-- the table gives none of the first n reasons
abbrev pub PassesBefore : PebbleGame → CoverTableParts → ℕ → Type 0
PassesBefore g t n = (e : Reason) → place_of_reason e < n → Passes g t e

-- the table gives this reason, and row k is the least that does
abbrev pub GivesReason : PebbleGame → CoverTableParts → Reason → ℕ → Type 0
GivesReason g t Graph k = (k ≡ 0) × (Passes g t Graph → ⊥)
GivesReason g t Slots k = (k ≡ 0) × (Passes g t Slots → ⊥)
GivesReason g t Weights k = (k ≡ 0) × (Passes g t Weights → ⊥)
GivesReason g t Order k = IsFirstFall (plain_rows t.rows) k
GivesReason g t Position k = IsFirstWithout (λ r. IsSound g r.position) t.rows k
GivesReason g t Start k = (k ≡ 0) × (Passes g t Start → ⊥)
GivesReason g t Cover k = IsFirstWithout (NamesHold g t.rows) t.rows k
GivesReason g t Step k = IsFirstWithout (StepsHold g t.rows t.bound) t.rows k
GivesReason g t Finish k = IsFirstWithout (λ r. FinishHolds g t.bound (plain r)) t.rows k

-- the reason is the first that the table gives, and row k is the least that gives it
pub record IsCoverRefusal (g : PebbleGame) (t : CoverTableParts) (reason : Reason) (k : ℕ) : Type 0 where
  pub gives : GivesReason g t reason k
  pub first : PassesBefore g t (place_of_reason reason)

-- where a table is refused, it is no covered table of the game
abbrev pub RefusedIsNoCoverTable : Type 0
RefusedIsNoCoverTable = (g : PebbleGame) (t : CoverTableParts) (reason : Reason) (k : ℕ) → IsCoverRefusal g t reason k → IsCoverTableOf g t → ⊥

-- a table is refused for one reason and by one row
abbrev pub CoverRefusalIsOne : Type 0
CoverRefusalIsOne = (g : PebbleGame) (t : CoverTableParts) (a b : Reason) (j k : ℕ) → IsCoverRefusal g t a j → IsCoverRefusal g t b k → (a ≡ b) × (j ≡ k)

-- a table is a covered table of the game, or is refused
abbrev pub CoverTableIsJudged : PebbleGame → CoverTableParts → Type 0
CoverTableIsJudged g t = IsCoverTableOf g t ⊎ ((reason : Reason) × (k : ℕ) × IsCoverRefusal g t reason k)

abbrev pub CoverTableOrRefusal : Type 0
CoverTableOrRefusal = (g : PebbleGame) → IsDag g.dag → (t : CoverTableParts) → CoverTableIsJudged g t
