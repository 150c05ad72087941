-- What the check has shown so far.
use Rattle.std.proofs.Common.{◌≡◌, ℕ, zero, suc, ◌+◌, ◌-◌, ◌≤◌, ◌<◌, true, false, List, [], ◌∷◌, length, ◌⊎◌, inl, inr, refl, sym, ap, ◌∙◌, subst, arith}
use Rattle.std.specs.declared.cmp.Ordering.{Ordering}
use Rattle.std.specs.Ordering.{is_lt}
use Rattle.comp_graph.specs.Games.{PebbleGame}
use Rattle.pebble_rules.specs.declared.position.Position.{Position as Place}
use Rattle.pebble_rules.specs.Positions.{position_order}
use Rattle.comp_graph.specs.Lists.{IsIn}
use Rattle.potential_cert.specs.Order.{precedes}
use Rattle.potential_cert.proofs.Order.{precedes_is_strict}
use Rattle.potential_cert.specs.Places.{IsAt}
use Rattle.potential_cert.specs.declared.tables.Row.{Row}
use Rattle.potential_cert.specs.Table.{TableParts, IsRising, StepsHold, FinishHolds}
use Rattle.potential_cert.specs.GameTables.{IsTableOf}
use Rattle.potential_cert.proofs.Rising.{rising_is_distinct}
use Rattle.normal_steps.specs.Sound.{IsSound}
use Rattle.cert_checker.specs.Refusals.{EachRow, IsFirstWithout, IsFirstFall, IsRefusal, Passes, PassesBefore, RefusedIsNoTable}
use Rattle.cert_checker.specs.declared.refusal.Reason.{Reason}
use Rattle.cert_checker.specs.declared.refusal.Refused.{Refused}
use Rattle.cert_checker.specs.declared.refusal.Reason.TheVariants.{Graph, Slots, Weights, Order, Position, Start, Cover, Step, Finish}
use Rattle.potential_cert.proofs.Places.{at_in, in_at, at_below, at_one}
use Rattle.cert_checker.proofs.RowTests.{EachBefore}
use Rattle.potential_cert.proofs.RowSearch.{row_rise}

-- ---- rows one by one

pub each_row : {X : Type 0} → (P : X → Type 0) (rows : List X) (n : ℕ) → length rows ≤ n → EachBefore P rows n → EachRow P rows
each_row P rows n all each k r at = each k r (let below = at_below r k rows at in omega arith) at

pub first_without : {X : Type 0} → (P : X → Type 0) (rows : List X) (k : ℕ) (r : X) → IsAt r k rows → (P r → ⊥) → EachBefore P rows k → IsFirstWithout P rows k
first_without P rows k r at lacks each = record { row = r; at = at; lacks = lacks; earlier = each }

-- ---- neighbours

-- each row before place n comes after the one before it
abbrev pub RiseBefore : List Row → ℕ → Type 0
RiseBefore rows n = (j : ℕ) (q r : Row) → suc j < n → IsAt q j rows → IsAt r (suc j) rows → precedes q.position r.position ≡ true

head_rises : (r : Row) (rows : List Row) → RiseBefore (r ∷ rows) (length (r ∷ rows)) → IsRising precedes rows → (q : Row) → IsIn q rows → precedes r.position q.position ≡ true
head_rises r [] each rise q i = absurd i
head_rises r (x ∷ rows) each rise q i = by_case i
  where
    first : precedes r.position x.position ≡ true
    first = each zero r x (omega arith) refl refl

    by_case : (q ≡ x) ⊎ IsIn q rows → precedes r.position q.position ≡ true
    by_case (inl e) = subst (λ q. precedes r.position q.position ≡ true) (sym e) first
    by_case (inr i) = precedes_is_strict.transitive r.position x.position q.position first (rise.0 q i)

pub all_rise : (rows : List Row) → RiseBefore rows (length rows) → IsRising precedes rows
all_rise [] each = tt
all_rise (r ∷ rows) each =
    let rest = all_rise rows (λ j q x l a b. each (suc j) q x (omega arith) a b) in
    (head_rises r rows each rest, rest)

pub rise_end : (rows : List Row) (n : ℕ) → length rows ≤ n → RiseBefore rows n → IsRising precedes rows
rise_end rows n all each = all_rise rows (λ j q r l a b. each j q r (omega arith) a b)

pub rise_start : (rows : List Row) → RiseBefore rows 1
rise_start rows j q r l a b = absurd (omega arith)

pub rise_more : (rows : List Row) (n : ℕ) (q r : Row) → 1 ≤ n → IsAt q (n - 1) rows → IsAt r n rows → precedes q.position r.position ≡ true → RiseBefore rows n → RiseBefore rows (n + 1)
rise_more rows n q r some at_q at_r rises each j x y l a b = elim (less_or_here (suc j) n l) [
  | inl less ↦ each j x y less a b
  | inr here ↦
      let before : j ≡ n - 1 = omega arith in
      let low = at_one x q (n - 1) rows (subst (λ j. IsAt x j rows) before a) at_q in
      let high = at_one y r n rows (subst (λ k. IsAt y k rows) here b) at_r in
      subst (λ x. precedes x.position y.position ≡ true) (sym low) (subst (λ y. precedes q.position y.position ≡ true) (sym high) rises)
]
  where
    less_or_here : (k n : ℕ) → k < n + 1 → (k < n) ⊎ (k ≡ n)
    less_or_here k n h = grind arith

pub first_fall_at : (rows : List Row) (n : ℕ) (q r : Row) → 1 ≤ n → IsAt q (n - 1) rows → IsAt r n rows → precedes q.position r.position ≡ false → RiseBefore rows n → IsFirstFall rows n
first_fall_at rows n q r some at_q at_r falls each = record {
  before = n - 1;
  next = omega arith;
  low = q;
  high = r;
  low_at = at_q;
  high_at = at_r;
  falls = falls;
  earlier = each;
}

pub not_less : (p q : Place) (o : Ordering) → o ≡ position_order p q → is_lt o ≡ false → precedes p q ≡ false
unfolding precedes
not_less p q o is less = ap is_lt (sym is) ∙ less

-- ---- reasons in order

pub before_order : (g : PebbleGame) (t : TableParts) → Passes g t Graph → Passes g t Slots → Passes g t Weights → PassesBefore g t 3
before_order g t vertices slots weights Graph l = vertices
before_order g t vertices slots weights Slots l = slots
before_order g t vertices slots weights Weights l = weights
before_order g t vertices slots weights e l = absurd (omega arith)

pub before_position : (g : PebbleGame) (t : TableParts) → PassesBefore g t 3 → Passes g t Order → PassesBefore g t 4
before_position g t before here Order l = here
before_position g t before here e l = before e (omega arith)

pub before_start : (g : PebbleGame) (t : TableParts) → PassesBefore g t 4 → Passes g t Position → PassesBefore g t 5
before_start g t before here Position l = here
before_start g t before here e l = before e (omega arith)

pub before_step : (g : PebbleGame) (t : TableParts) → PassesBefore g t 5 → Passes g t Start → PassesBefore g t 7
before_step g t before here Start l = here
before_step g t before here Cover l = tt
before_step g t before here e l = before e (omega arith)

pub before_finish : (g : PebbleGame) (t : TableParts) → PassesBefore g t 7 → Passes g t Step → PassesBefore g t 8
before_finish g t before here Step l = here
before_finish g t before here e l = before e (omega arith)

pub each_in : {X : Type 0} → (P : X → Type 0) (rows : List X) → EachRow P rows → (r : X) → IsIn r rows → P r
each_in P rows each r i = let at = in_at r rows i in each at.0 r at.1

-- a table that gives no reason is one of the game
pub passes_all : (g : PebbleGame) (t : TableParts) → PassesBefore g t 8 → Passes g t Finish → IsTableOf g t
passes_all g t before finish = record {
  vertices = before Graph (omega arith);
  slots = before Slots (omega arith);
  load = (before Weights (omega arith)).0;
  store = (before Weights (omega arith)).1;
  rise = before Order (omega arith);
  valid = record {
    distinct = rising_is_distinct precedes precedes_is_strict t.rows (before Order (omega arith));
    sound = each_in (λ r. IsSound g r.position) t.rows (before Position (omega arith));
    begins = before Start (omega arith);
    steps = each_in (StepsHold g t.rows t.bound) t.rows (before Step (omega arith));
    finishes = each_in (FinishHolds g t.bound) t.rows finish;
  };
}

-- a refusal by its parts
pub refused_as : (g : PebbleGame) (t : TableParts) (r : Refused) (reason : Reason) (k : ℕ) → r.reason ≡ reason → r.row ≡ k → IsRefusal g t reason k → IsRefusal g t r.reason r.row
refused_as g t r reason k reason_is row_is is = subst (IsRefusal g t r.reason) (sym row_is) (subst (λ e. IsRefusal g t e k) (sym reason_is) is)

-- a table that gives a reason is none
pub fall_refutes : (rows : List Row) (k : ℕ) → IsFirstFall rows k → IsRising precedes rows → ⊥
fall_refutes rows k fall rise =
    let less = row_rise rows rise fall.before k fall.low fall.high (let next = fall.next in omega arith) fall.low_at fall.high_at in
    let falls = fall.falls in
    grind arith

pub refused_is_no_table : RefusedIsNoTable
refused_is_no_table g t Graph k is table = is.gives.1 table.vertices
refused_is_no_table g t Slots k is table = is.gives.1 table.slots
refused_is_no_table g t Weights k is table = is.gives.1 (table.load, table.store)
refused_is_no_table g t Order k is table = fall_refutes t.rows k is.gives table.rise
refused_is_no_table g t Position k is table = is.gives.lacks (table.valid.sound is.gives.row (at_in is.gives.row k t.rows is.gives.at))
refused_is_no_table g t Start k is table = is.gives.1 table.valid.begins
refused_is_no_table g t Cover k is table = is.gives
refused_is_no_table g t Step k is table = is.gives.lacks (table.valid.steps is.gives.row (at_in is.gives.row k t.rows is.gives.at))
refused_is_no_table g t Finish k is table = is.gives.lacks (table.valid.finishes is.gives.row (at_in is.gives.row k t.rows is.gives.at))
