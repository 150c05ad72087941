-- The parts that the calls test make sets a window.
use Rattle.std.proofs.Common.{◌≡◌, ℕ, ◌+◌, ◌≤◌, ◌<◌, ◌↔◌, ◌&&◌, Bool, true, false, IsTrue, length, ◌⊎◌, inl, inr, sym, ◌∙◌, subst, arith}
use Rattle.std.specs.Prelude.{slice_index_or}
use Rattle.std.proofs.Math.ListN.{get_or-eq_default}
use Rattle.std.specs.FinSet.{empty, union, intersection, difference}
use Rattle.comp_graph.specs.Sets.{membership}
use Rattle.comp_graph.specs.Vertices.{Vertices, ◌∈◌, ◌∉◌, IsWithin}
use Rattle.comp_graph.specs.Dags.{IsDag, live_of}
use Rattle.comp_graph.specs.Games.{PebbleGame}
use Rattle.comp_graph.proofs.DagLaws.{both, and-true}
use Rattle.comp_graph.proofs.Live.{has_live_of}
use Rattle.comp_graph.proofs.Sets.{both_parts, in_both, left_parts, in_difference}
use Rattle.window_game.specs.Windows.{Window, IsWindow}
use Rattle.window_steps.specs.declared.window_sets.WindowSets.{WindowSets}
use Rattle.window_steps.specs.Sets.{window_of}
use Rattle.window_floor.specs.WindowTests.{AreLoads, AreRequired}

pub parts_of_window : (g : PebbleGame) (w : Window) (a b c : Bool) → IsTrue a ↔ AreLoads g w → IsTrue b ↔ IsWithin w.stores w.tracked → IsTrue c ↔ AreRequired g w
    → IsTrue (a && (b && c)) ↔ IsWindow g w
parts_of_window g w a b c loads stores required = (
  λ h.
      let x = both a (b && c) h in
      let y = both b c x.1 in
      let are = loads.0 x.0 in
      let are_required = required.0 y.1 in
      record {
        loads_read = λ v q i. (both_parts (g.dag.preds v) w.tracked q (are v q i)).0;
        loads_tracked = λ v q i. (both_parts (g.dag.preds v) w.tracked q (are v q i)).1;
        stores_tracked = stores.0 y.0;
        required_live = are_required.live;
        required_computed = are_required.computed;
        required_uncharged = are_required.uncharged;
      },
  λ is. and-true a (b && c) (loads.1 (λ v q i. in_both (g.dag.preds v) w.tracked q (is.loads_read v q i) (is.loads_tracked v q i)))
      (and-true b c (stores.1 is.stores_tracked) (required.1 (record { live = is.required_live; computed = is.required_computed; uncharged = is.required_uncharged }))),
)

neither : (s t : Vertices) (q : ℕ) → q ∉ union s t → (q ∉ s) × (q ∉ t)
neither s t q h = (grind (arith, membership), grind (arith, membership))

outside_both : (s t : Vertices) (q : ℕ) → q ∉ s → q ∉ t → q ∉ union s t
outside_both s t q a b = grind (arith, membership)

pub required_within : (g : PebbleGame) → IsDag g.dag → (w : Window) (b : Bool) (able : Vertices) → able ≡ difference (live_of g.dag) (union g.dag.inputs w.stores)
    → IsTrue b ↔ IsWithin w.required able → IsTrue b ↔ AreRequired g w
required_within g dag w b able e tested = (
  λ h.
      let within : IsWithin w.required (difference (live_of g.dag) (union g.dag.inputs w.stores)) = subst (IsWithin w.required) e (tested.0 h) in
      record {
        live = λ v i. sym (has_live_of g.dag dag v) ∙ (left_parts (live_of g.dag) (union g.dag.inputs w.stores) v (within v i)).0;
        computed = λ v i. (neither g.dag.inputs w.stores v (left_parts (live_of g.dag) (union g.dag.inputs w.stores) v (within v i)).1).0;
        uncharged = λ v i. (neither g.dag.inputs w.stores v (left_parts (live_of g.dag) (union g.dag.inputs w.stores) v (within v i)).1).1;
      },
  λ are. tested.1 (subst (IsWithin w.required) (sym e) (λ v i.
      in_difference (live_of g.dag) (union g.dag.inputs w.stores) v (has_live_of g.dag dag v ∙ are.live v i)
      (outside_both g.dag.inputs w.stores v (are.computed v i) (are.uncharged v i)))),
)

-- ---- the loop over the vertices

-- so far charged loads are of tracked operands
abbrev pub AreLoadsBelow : PebbleGame → Window → ℕ → Type 0
AreLoadsBelow g w n = (v : ℕ) → v < n → IsWithin (w.loads v) (intersection (g.dag.preds v) w.tracked)

same_or_below : (v n : ℕ) → v < n + 1 → (v ≡ n) ⊎ (v < n)
same_or_below v n h = grind arith

below_or_past : (v n : ℕ) → (v < n) ⊎ (n ≤ v)
below_or_past v n = grind arith

pub loads_start : (g : PebbleGame) (w : Window) → AreLoadsBelow g w 0
loads_start g w v l = absurd (omega arith)

pub loads_more : (g : PebbleGame) (w : Window) (n : ℕ) → AreLoadsBelow g w n → IsWithin (w.loads n) (intersection (g.dag.preds n) w.tracked) → AreLoadsBelow g w (n + 1)
loads_more g w n before here v l = elim (same_or_below v n l) [
  | inl e ↦ subst (λ z. IsWithin (w.loads z) (intersection (g.dag.preds z) w.tracked)) (sym e) here
  | inr less ↦ before v less
]

-- no load by v is charged
abbrev pub IsFreeOfCharge : Window → ℕ → Type 0
IsFreeOfCharge w v = (q : ℕ) → q ∈ w.loads v → ⊥

pub loads_all : (g : PebbleGame) (w : Window) (n : ℕ) → AreLoadsBelow g w n → ((v : ℕ) → n ≤ v → IsFreeOfCharge w v) → AreLoads g w
loads_all g w n before none v q i = elim (below_or_past v n) [
  | inl less ↦ before v less q i
  | inr past ↦ absurd (none v past q i)
]

not_empty : (q : ℕ) (s : Vertices) → s ≡ empty → q ∈ s → ⊥
not_empty q s e h = let none = subst (λ s. q ∈ s) e h in grind (arith, membership)

-- no load by a number past the list is charged
pub past_free : (s : WindowSets) (n : ℕ) → length s.loads.now ≡ n → (v : ℕ) → n ≤ v → IsFreeOfCharge (window_of s) v
past_free s n e v past q h = not_empty q (slice_index_or s.loads.now v empty) (get_or-eq_default s.loads.now empty (let l : length s.loads.now ≤ v = omega (arith, e, past) in l)) h

-- ---- the three tests one after another

pub all_parts : (g : PebbleGame) (w : Window) (a b c : Bool) → IsTrue a ↔ AreLoads g w → IsTrue b ↔ IsWithin w.stores w.tracked → IsTrue c ↔ AreRequired g w
    → a ≡ true → b ≡ true → IsTrue c ↔ IsWindow g w
all_parts g w true true c loads stores required e f = parts_of_window g w true true c loads stores required
all_parts g w true false c loads stores required e f = absurd (grind arith)
all_parts g w false b c loads stores required e f = absurd (grind arith)

pub first_part : (g : PebbleGame) (w : Window) (a r : Bool) → IsTrue a ↔ AreLoads g w → a ≡ false → r ≡ false → IsTrue r ↔ IsWindow g w
first_part g w a r loads e f = (
  λ h. absurd (grind arith),
  λ is. absurd (let t = loads.1 (λ v q i. in_both (g.dag.preds v) w.tracked q (is.loads_read v q i) (is.loads_tracked v q i)) in grind arith),
)

pub second_part : (g : PebbleGame) (w : Window) (b r : Bool) → IsTrue b ↔ IsWithin w.stores w.tracked → b ≡ r → r ≡ false → IsTrue r ↔ IsWindow g w
second_part g w b r stores e f = (
  λ h. absurd (grind arith),
  λ is. absurd (let t = stores.1 is.stores_tracked in grind arith),
)

pub apart : (b : Bool) → b ≡ true → b ≡ false → ⊥
apart b t f = grind arith
