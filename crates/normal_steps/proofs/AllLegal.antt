-- The listed steps are the legal ones.
use Rattle.std.proofs.Common.{◌≡◌, ℕ, ◌+◌, ◌≤◌, ◌<◌, ◌↔◌, length, sym, ap, subst, arith}
use Rattle.std.specs.List.{Contains}
use Rattle.std.specs.FinSet.{contains, difference, empty}
use Rattle.std.proofs.lemmas.List.Elements.{All-contains}
use Rattle.comp_graph.proofs.Lists.{contains_in, in_contains}
use Rattle.comp_graph.specs.Vertices.{Vertices, ◌∈◌, ◌∉◌, IsWithin, AllBelow, size}
use Rattle.comp_graph.specs.Dags.{degree}
use Rattle.comp_graph.specs.Games.{PebbleGame}
use Rattle.comp_graph.specs.Sets.{membership}
use Rattle.comp_graph.proofs.Sets.{size_within, size_le_below, difference_first, difference_second}
use Rattle.pebble_rules.specs.declared.position.Position.{Position}
use Rattle.normal_steps.specs.declared.step.Step.{Step}
use Rattle.normal_steps.specs.declared.step.Step.TheVariants.{Work, Drop, Spill}
use Rattle.normal_steps.specs.Steps.{IsStep, CanDrop, CanSpill}
use Rattle.normal_steps.specs.LegalSteps.{AreWorkable, AreLegalSteps, listed}
use Rattle.normal_steps.proofs.Listed.{all_listed, work_listed, drop_listed, spill_listed, listed_in_order, length-listed}

-- the members are the vertices that may be dropped and spilled
pub record AreRemovable (g : PebbleGame) (p : Position) (drops spills : Vertices) : Type 0 where
  pub dropped : (u : ℕ) → (u ∈ drops) ↔ CanDrop g p u
  pub spilled : (u : ℕ) → (u ∈ spills) ↔ CanSpill g p u

pub listed_legal : (n : ℕ) (g : PebbleGame) (p : Position) (works drops spills : Vertices) → AreWorkable g p works → AllBelow n works → AllBelow n p.red → AreRemovable g p drops spills
    → AreLegalSteps g p (listed n works drops spills)
listed_legal n g p works drops spills are small small_red removable = record {
  legal = λ s. (
    λ i. All-contains (IsStep g p) (listed n works drops spills) s
        (all_listed n (IsStep g p) works drops spills (λ v h. (are.members v).0 h) (λ u h. (removable.dropped u).0 h) (λ u h. (removable.spilled u).0 h)) (in_contains s _ i),
    λ can. contains_in _ s (back s can),
  );
  in_order = listed_in_order n works drops spills;
}
  where
    back : (s : Step) → IsStep g p s → Contains (listed n works drops spills) s
    back (Work v) can = let h = (are.members v).1 can in work_listed n works drops spills v (small.below v h) h
    back (Drop u) can = drop_listed n works drops spills u (small_red.below u can.red) ((removable.dropped u).1 can)
    back (Spill u) can = spill_listed n works drops spills u (small_red.below u can.drop.red) ((removable.spilled u).1 can)

-- no red pebble is in the way
pub none_removable : (g : PebbleGame) (p : Position) (drops spills : Vertices) → drops ≡ empty → spills ≡ empty → (g.slots < size p.red + degree g.dag + 1 → ⊥) → AreRemovable g p drops spills
none_removable g p drops spills d s roomy = record {
  dropped = λ u. (
    λ h. absurd (in_none drops u d h),
    λ can. absurd (roomy can.crowded),
  );
  spilled = λ u. (
    λ h. absurd (in_none spills u s h),
    λ can. absurd (roomy can.drop.crowded),
  );
}
  where
    in_none : (s : Vertices) (u : ℕ) → s ≡ empty → u ∈ s → ⊥
    in_none s u e h = let at = ap (λ t. contains t u) e in grind (arith, membership)

-- each red pebble may be in the way
pub red_removable : (g : PebbleGame) (p : Position) (spills : Vertices) → spills ≡ difference p.red p.blue → g.slots < size p.red + degree g.dag + 1 → AreRemovable g p p.red spills
red_removable g p spills s crowded = record {
  dropped = λ u. (λ h. record { red = h; crowded = crowded }, λ can. can.red);
  spilled = λ u. (
    λ h.
        let is : u ∈ difference p.red p.blue = subst (λ t. u ∈ t) s h in
        record { drop = record { red = difference_first p.red p.blue u is; crowded = crowded }; not_blue = difference_second p.red p.blue u is },
    λ can. subst (λ t. u ∈ t) (sym s) (in_difference p.red p.blue u can.drop.red can.not_blue),
  );
}
  where
    in_difference : (s t : Vertices) (u : ℕ) → u ∈ s → u ∉ t → u ∈ difference s t
    in_difference s t u h k = grind (arith, membership)

-- there are at most 256 of Work, and as many of Drop and of Spill as there are red vertices
pub few_listed : (works drops spills red : Vertices) → AllBelow 256 works → AllBelow 256 red → IsWithin drops red → IsWithin spills red → size red ≤ 64 → length (listed 256 works drops spills) ≤ 384
few_listed works drops spills red small small_red d s few =
    let all = length-listed 256 works drops spills small (record { below = λ u h. small_red.below u (d u h) }) (record { below = λ u h. small_red.below u (s u h) }) in
    let w = size_le_below 256 works small in
    let a = size_within drops red d in
    let b = size_within spills red s in
    omega arith

pub none_within : (s t : Vertices) → s ≡ empty → IsWithin s t
none_within s t e u h = absurd (let at = ap (λ r. contains r u) e in grind (arith, membership))

pub difference_within : (s t r : Vertices) → r ≡ difference s t → IsWithin r s
difference_within s t r e u h = difference_first s t u (subst (λ q. u ∈ q) e h)
