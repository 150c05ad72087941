-- Next uses: what they are, and how the calls find them.
use Rattle.std.proofs.Common.{◌≡◌, ℕ, ◌≤◌, ◌<◌, ◌⊎◌, inl, inr, Bool, true, false, ◌&&◌, ltb, refl, sym, ap, ◌∙◌, arith}
use Rattle.std.proofs.lemmas.Bool.Decides.{nat_tests}
use Rattle.std.specs.FinSet as set
use Rattle.comp_graph.specs.Vertices.{Vertices, ◌∈◌, ◌∉◌, AllBelow, IsLeast}
use Rattle.comp_graph.specs.Sets.{membership, has_set_below}
use Rattle.comp_graph.specs.Dags.{Dag, IsDag, is_live, live_of}
use Rattle.comp_graph.proofs.DagLaws.{live_vertex}
use Rattle.comp_graph.proofs.Live.{has_live_of}
use Rattle.first_plan.specs.Passing.{least_passing}
use Rattle.first_plan.specs.NextUses.{is_planned, planned_of, is_later_use, next_use}
use Rattle.first_plan.specs.Ready.{readers_of, AreAhead}
use Rattle.first_plan.specs.Laws.{IsNextUse, NextUseIsNext, NextUsesExist}
use Rattle.first_plan.proofs.Passing.{IsLeastFrom, least_from-is, least_from-by}

pub both : (a b : Bool) → (a && b) ≡ true → (a ≡ true) × (b ≡ true)
both a b h = grind arith

-- ---- vertices that the plan works on

pub wanted_live : (d : Dag) (v : ℕ) → is_planned d v ≡ true → is_live d v ≡ true
unfolding is_planned
wanted_live d v h = (both _ _ h).0

pub wanted_no_input : (d : Dag) (v : ℕ) → is_planned d v ≡ true → v ∉ d.inputs
unfolding is_planned
wanted_no_input d v h = grind arith

pub not_wanted : (d : Dag) (v : ℕ) → is_planned d v ≡ false → is_live d v ≡ true → v ∈ d.inputs
unfolding is_planned
not_wanted d v h live = grind arith

pub wanted_vertex : (d : Dag) → IsDag d → (v : ℕ) → is_planned d v ≡ true → v < d.count
wanted_vertex d dag v h = live_vertex d dag v (wanted_live d v h)

wanted_or : (b a : Bool) (v n : ℕ) → b ≡ (ltb v n && a) → (a ≡ true → v < n) → b ≡ a
wanted_or b a v n e h = grind (arith, nat_tests)

pub has_wanted : (d : Dag) → IsDag d → (v : ℕ) → set.contains (planned_of d) v ≡ is_planned d v
has_wanted d dag v = wanted_or _ (is_planned d v) v d.count (has_set_below (is_planned d) d.count v) (wanted_vertex d dag v)

-- the live vertices but for the inputs
pub wanted_is : (d : Dag) → IsDag d → (v : ℕ) → set.contains (set.difference (live_of d) d.inputs) v ≡ is_planned d v
unfolding is_planned
wanted_is d dag v = let live = has_live_of d dag v in grind (arith, membership)

-- ---- the next use

from_zero : (d : Dag) (v u w : ℕ) → IsNextUse d v u w → IsLeastFrom 0 d.count (is_later_use d v u) w
from_zero d v u w is = record {
  first = omega arith;
  most = let m = is.most in omega arith;
  passes = λ l. is.used (omega arith);
  none_before = λ x a b. is.none_before x b;
}

pub next_use_is_next : NextUseIsNext
unfolding next_use
next_use_is_next d v u w is = least_from-by 0 d.count (is_later_use d v u) w (from_zero d v u w is)

pub next_uses_exist : NextUsesExist
unfolding next_use
next_uses_exist d v u =
    let is = least_from-is 0 d.count (is_later_use d v u) in record {
      most = let m = is.most in omega arith;
      used = λ l. is.passes (omega arith);
      none_before = λ x b. is.none_before x (omega arith) b;
    }

later_use : (v w : ℕ) (a b : Bool) → v < w → a ≡ true → b ≡ true → (ltb v w && (a && b)) ≡ true
later_use v w a b l p q = grind (arith, nat_tests)

-- no reader lies before it
pub next_use_before : (d : Dag) → IsDag d → (v u w : ℕ) → v < w → is_planned d w ≡ true → u ∈ d.preds w → next_use d v u ≤ w
next_use_before d dag v u w after planned reads =
    elim (apart (next_use d v u) w) [
      | inl l ↦ l
      | inr l ↦ absurd (opposed (is_later_use d v u w) (later_use v w (is_planned d w) (set.contains (d.preds w) u) after planned reads) ((next_uses_exist d v u).none_before w l))
    ]
  where
    apart : (a b : ℕ) → (a ≤ b) ⊎ (b < a)
    apart a b = grind arith

    opposed : (b : Bool) → b ≡ true → b ≡ false → ⊥
    opposed b t f = let clash : true ≡ false = sym t ∙ f in cc

-- ---- the calls

readers_step : (in_ahead in_readers a w r less : Bool) → in_ahead ≡ (a && w) → in_readers ≡ (less && r) → (w ≡ true → less ≡ true) → (in_readers && in_ahead) ≡ (a && (w && r))
readers_step in_ahead in_readers true true r less h k l = grind arith
readers_step in_ahead in_readers true false r less h k l = grind arith
readers_step in_ahead in_readers false true r less h k l = grind arith
readers_step in_ahead in_readers false false r less h k l = grind arith

-- the readers of u that are ahead are its later uses
pub has_uses : (d : Dag) → IsDag d → (v u : ℕ) (readers ahead uses : Vertices) → readers ≡ readers_of d u → AreAhead d v ahead → uses ≡ set.intersection readers ahead
    → (w : ℕ) → set.contains uses w ≡ is_later_use d v u w
has_uses d dag v u readers ahead uses readers_are ahead_are uses_are w =
    ap (λ s. set.contains s w) uses_are
    ∙ (let has : set.contains (set.intersection readers ahead) w ≡ (set.contains readers w && set.contains ahead w) = grind (arith, membership) in has)
    ∙ readers_step (set.contains ahead w) (set.contains readers w) (ltb v w) (is_planned d w) (set.contains (d.preds w) u) (ltb w d.count)
    (ahead_are.members w)
    (ap (λ s. set.contains s w) readers_are ∙ has_set_below (λ w. set.contains (d.preds w) u) d.count w)
    (λ h. let l = wanted_vertex d dag w h in grind (arith, nat_tests))

pub uses_below : (d : Dag) → IsDag d → (v u : ℕ) (uses : Vertices) → ((w : ℕ) → set.contains uses w ≡ is_later_use d v u w) → AllBelow d.count uses
uses_below d dag v u uses are = record { below = λ w h. let is = are w in wanted_vertex d dag w (parts (ltb v w) (is_planned d w) (set.contains (d.preds w) u) (sym is ∙ h)) }
  where
    parts : (a b c : Bool) → (a && (b && c)) ≡ true → b ≡ true
    parts a b c h = grind arith

-- the least member of such a set, or the number of vertices
pub least_is_next : (d : Dag) (v u r : ℕ) (uses : Vertices) → ((w : ℕ) → set.contains uses w ≡ is_later_use d v u w) → r ≡ least_passing d.count (set.contains uses) → r ≡ next_use d v u
least_is_next d v u r uses are e =
    let is = least_from-is 0 d.count (set.contains uses) in
    e ∙ sym (next_use_is_next d v u (least_passing d.count (set.contains uses)) (record {
      most = let m = is.most in omega arith;
      used = λ l. sym (are _) ∙ is.passes (omega arith);
      none_before = λ x b. sym (are x) ∙ is.none_before x (omega arith) b;
    }))

pub least_found : (n v : ℕ) (s : Vertices) → AllBelow n s → IsLeast s v → v ≡ least_passing n (set.contains s)
least_found n v s below is = sym (least_from-by 0 n (set.contains s) v (record {
  first = omega arith;
  most = let b = below.below v is.member in omega arith;
  passes = λ l. is.member;
  none_before = λ x a b. none (set.contains s x) (λ h. absurd (let l = is.least x h in omega arith));
}))
  where
    none : (b : Bool) → (b ≡ true → ⊥) → b ≡ false
    none true h = absurd (h refl)
    none false h = refl

pub least_missing : (n : ℕ) (s : Vertices) → s ≡ set.empty → n ≡ least_passing n (set.contains s)
least_missing n s e = sym (least_from-by 0 n (set.contains s) n (record {
  first = omega arith;
  most = omega arith;
  passes = λ l. absurd (omega arith);
  none_before = λ x a b. ap (λ t. set.contains t x) e ∙ (let none : set.contains (set.empty) x ≡ false = grind (arith, membership) in none);
}))
