-- What the check has shown so far, and that a refusal is right and one.
use Rattle.std.proofs.Common.{◌≡◌, ℕ, inl, inr, sym, ◌∙◌, ap, subst, arith}
use Rattle.comp_graph.specs.Games.{PebbleGame}
use Rattle.normal_steps.specs.Sound.{IsSound}
use Rattle.potential_cert.proofs.Places.{at_in}
use Rattle.cert_checker.specs.declared.refusal.Reason.{Reason}
use Rattle.cert_checker.specs.declared.refusal.Reason.TheVariants.{Graph, Slots, Weights, Order, Position, Start, Cover, Step, Finish}
use Rattle.cert_checker.specs.declared.refusal.Refused.{Refused}
use Rattle.potential_cert.specs.Table.{FinishHolds}
use Rattle.cert_checker.specs.Refusals.{place_of_reason}
use Rattle.cert_checker.proofs.Checked.{each_in, fall_refutes}
use Rattle.cert_checker.proofs.OneRefusal.{at_its_place, compared, one_fall, one_lack, reason_at}
use Rattle.cover_cert.specs.CoverTable.{CoverTableParts, IsCoverTableOf, NamesHold, StepsHold, plain, plain_rows}
use Rattle.cover_cert.specs.Refusals.{GivesReason, CoverRefusalIsOne, IsCoverRefusal, Passes, PassesBefore, RefusedIsNoCoverTable}

-- ---- reasons in order

pub before_order : (g : PebbleGame) (t : CoverTableParts) → Passes g t Graph → Passes g t Slots → Passes g t Weights → PassesBefore g t 3
before_order g t vertices slots weights Graph l = vertices
before_order g t vertices slots weights Slots l = slots
before_order g t vertices slots weights Weights l = weights
before_order g t vertices slots weights e l = absurd (omega arith)

pub before_position : (g : PebbleGame) (t : CoverTableParts) → PassesBefore g t 3 → Passes g t Order → PassesBefore g t 4
before_position g t before here Order l = here
before_position g t before here e l = before e (omega arith)

pub before_start : (g : PebbleGame) (t : CoverTableParts) → PassesBefore g t 4 → Passes g t Position → PassesBefore g t 5
before_start g t before here Position l = here
before_start g t before here e l = before e (omega arith)

pub before_cover : (g : PebbleGame) (t : CoverTableParts) → PassesBefore g t 5 → Passes g t Start → PassesBefore g t 6
before_cover g t before here Start l = here
before_cover g t before here e l = before e (omega arith)

pub before_step : (g : PebbleGame) (t : CoverTableParts) → PassesBefore g t 6 → Passes g t Cover → PassesBefore g t 7
before_step g t before here Cover l = here
before_step g t before here e l = before e (omega arith)

pub before_finish : (g : PebbleGame) (t : CoverTableParts) → PassesBefore g t 7 → Passes g t Step → PassesBefore g t 8
before_finish g t before here Step l = here
before_finish g t before here e l = before e (omega arith)

-- a table that gives no reason is a covered table of the game
pub passes_all : (g : PebbleGame) (t : CoverTableParts) → PassesBefore g t 8 → Passes g t Finish → IsCoverTableOf g t
passes_all g t before finish = record {
  vertices = before Graph (omega arith);
  slots = before Slots (omega arith);
  load = (before Weights (omega arith)).0;
  store = (before Weights (omega arith)).1;
  holds = record {
    rise = before Order (omega arith);
    sound = each_in (λ r. IsSound g r.position) t.rows (before Position (omega arith));
    starts = before Start (omega arith);
    names = each_in (NamesHold g t.rows) t.rows (before Cover (omega arith));
    steps = each_in (StepsHold g t.rows t.bound) t.rows (before Step (omega arith));
    finishes = each_in (λ r. FinishHolds g t.bound (plain r)) t.rows finish;
  };
}

-- a refusal by its parts
pub refused_as : (g : PebbleGame) (t : CoverTableParts) (r : Refused) (reason : Reason) (k : ℕ) → r.reason ≡ reason → r.row ≡ k → IsCoverRefusal g t reason k → IsCoverRefusal g t r.reason r.row
refused_as g t r reason k reason_is row_is is = subst (IsCoverRefusal g t r.reason) (sym row_is) (subst (λ e. IsCoverRefusal g t e k) (sym reason_is) is)

-- ---- a table that gives a reason is none

pub refused_is_no_cover_table : RefusedIsNoCoverTable
refused_is_no_cover_table g t Graph k is table = is.gives.1 table.vertices
refused_is_no_cover_table g t Slots k is table = is.gives.1 table.slots
refused_is_no_cover_table g t Weights k is table = is.gives.1 (table.load, table.store)
refused_is_no_cover_table g t Order k is table = fall_refutes (plain_rows t.rows) k is.gives table.holds.rise
refused_is_no_cover_table g t Position k is table = is.gives.lacks (table.holds.sound is.gives.row (at_in is.gives.row k t.rows is.gives.at))
refused_is_no_cover_table g t Start k is table = is.gives.1 table.holds.starts
refused_is_no_cover_table g t Cover k is table = is.gives.lacks (table.holds.names is.gives.row (at_in is.gives.row k t.rows is.gives.at))
refused_is_no_cover_table g t Step k is table = is.gives.lacks (table.holds.steps is.gives.row (at_in is.gives.row k t.rows is.gives.at))
refused_is_no_cover_table g t Finish k is table = is.gives.lacks (table.holds.finishes is.gives.row (at_in is.gives.row k t.rows is.gives.at))

-- ---- one reason, one row

one_row : (g : PebbleGame) (t : CoverTableParts) (reason : Reason) (j k : ℕ) → GivesReason g t reason j → GivesReason g t reason k → j ≡ k
one_row g t Graph j k a b = a.0 ∙ sym b.0
one_row g t Slots j k a b = a.0 ∙ sym b.0
one_row g t Weights j k a b = a.0 ∙ sym b.0
one_row g t Order j k a b = one_fall (plain_rows t.rows) j k a b
one_row g t Position j k a b = one_lack _ t.rows j k a b
one_row g t Start j k a b = a.0 ∙ sym b.0
one_row g t Cover j k a b = one_lack _ t.rows j k a b
one_row g t Step j k a b = one_lack _ t.rows j k a b
one_row g t Finish j k a b = one_lack _ t.rows j k a b

-- a reason that a table gives is none that it passes
breaks_refute : (g : PebbleGame) (t : CoverTableParts) (reason : Reason) (k : ℕ) → GivesReason g t reason k → Passes g t reason → ⊥
breaks_refute g t Graph k is passes = is.1 passes
breaks_refute g t Slots k is passes = is.1 passes
breaks_refute g t Weights k is passes = is.1 passes
breaks_refute g t Order k is passes = fall_refutes (plain_rows t.rows) k is passes
breaks_refute g t Position k is passes = is.lacks (passes k is.row is.at)
breaks_refute g t Start k is passes = is.1 passes
breaks_refute g t Cover k is passes = is.lacks (passes k is.row is.at)
breaks_refute g t Step k is passes = is.lacks (passes k is.row is.at)
breaks_refute g t Finish k is passes = is.lacks (passes k is.row is.at)

one_reason : (g : PebbleGame) (t : CoverTableParts) (a b : Reason) (j k : ℕ) → IsCoverRefusal g t a j → IsCoverRefusal g t b k → a ≡ b
one_reason g t a b j k is other = elim (compared (place_of_reason a) (place_of_reason b)) [
  | inl less ↦ absurd (breaks_refute g t a j is.gives (other.first a less))
  | inr (inl same) ↦ sym (at_its_place a) ∙ ap reason_at same ∙ at_its_place b
  | inr (inr more) ↦ absurd (breaks_refute g t b k other.gives (is.first b more))
]

pub cover_refusal_is_one : CoverRefusalIsOne
cover_refusal_is_one g t a b j k is other =
    let same = one_reason g t a b j k is other in
    (same, one_row g t b j k (subst (λ r. GivesReason g t r j) same is.gives) other.gives)
