-- Which vertices Work is legal for.
use Rattle.std.proofs.Common.{◌≡◌, ℕ, ◌⊎◌, inl, inr, ltb, leb, ◌&&◌, ◌+◌, ◌≤◌, ◌<◌, ◌↔◌, Bool, true, false, IsTrue, length, refl, sym, ap, ◌∙◌, subst, arith}
use Rattle.std.specs.FinSet.{contains, insert, union, empty}
use Rattle.std.proofs.lemmas.Bool.Decides.{nat_tests}
use Rattle.comp_graph.specs.Vertices.{Vertices, ◌∈◌, ◌∉◌, IsWithin, AllBelow, size}
use Rattle.comp_graph.specs.Dags.{is_live, live_of}
use Rattle.comp_graph.specs.Graphs.{IsGraph, dag_of}
use Rattle.comp_graph.specs.Games.{PebbleGame, GameParts, game_of}
use Rattle.comp_graph.specs.Sets.{membership}
use Rattle.comp_graph.proofs.Sets.{insert_cases, in_insert, in_insert_same}
use Rattle.comp_graph.proofs.Live.{has_live_of}
use Rattle.comp_graph.proofs.DagLaws.{live_vertex}
use Rattle.comp_graph.proofs.GraphLaws.{IsDag-dag_of}
use Rattle.pebble_rules.specs.declared.position.Position.{Position}
use Rattle.pebble_rules.proofs.Calls.{has_inputs}
use Rattle.normal_steps.specs.declared.step.Step.{Step}
use Rattle.normal_steps.specs.declared.step.Step.TheVariants.{Work}
use Rattle.normal_steps.specs.Steps.{CanWork, IsStep, worked}
use Rattle.normal_steps.specs.LegalSteps.{AreWorkable}

-- the members are the vertices below n that Work is legal for
pub record AreWorkableBelow (g : PebbleGame) (p : Position) (n : ℕ) (s : Vertices) : Type 0 where
  pub members : (v : ℕ) → (v ∈ s) ↔ ((v < n) × CanWork g p v)

pub workable_none : (g : PebbleGame) (p : Position) → AreWorkableBelow g p 0 empty
workable_none g p = record { members = λ v. (λ h. absurd (grind (arith, membership)), λ h. absurd (let below = h.0 in omega arith)) }

next_below : (v n : ℕ) → v < n + 1 → (v ≡ n) ⊎ (v < n)
next_below v n h = grind arith

-- one vertex more is looked at, and Work is legal for it
pub workable_more : (g : PebbleGame) (p : Position) (n : ℕ) (s : Vertices) → AreWorkableBelow g p n s → CanWork g p n → AreWorkableBelow g p (n + 1) (insert s n)
workable_more g p n s before can = record {
  members = λ v. (
    λ h. elim (insert_cases s n v h) [
      | inl e ↦ (omega arith, subst (CanWork g p) (sym e) can)
      | inr old ↦ let is = (before.members v).0 old in (let below = is.0 in omega arith, is.1)
    ],
    λ h. elim (next_below v n h.0) [
      | inl e ↦ subst (λ w. w ∈ insert s n) (sym e) (in_insert_same s n)
      | inr l ↦ in_insert s n v ((before.members v).1 (l, h.1))
    ],
  );
}

-- or it is not
pub workable_same : (g : PebbleGame) (p : Position) (n : ℕ) (s : Vertices) → AreWorkableBelow g p n s → (CanWork g p n → ⊥) → AreWorkableBelow g p (n + 1) s
workable_same g p n s before cannot = record {
  members = λ v. (
    λ h. let is = (before.members v).0 h in (let below = is.0 in omega arith, is.1),
    λ h. elim (next_below v n h.0) [
      | inl e ↦ absurd (cannot (subst (CanWork g p) e h.1))
      | inr l ↦ (before.members v).1 (l, h.1)
    ],
  );
}

-- all vertices are looked at
pub workable_all : (g : GameParts) → IsGraph g.graph → (p : Position) (n : ℕ) (s : Vertices) → AreWorkableBelow (game_of g) p n s → length g.graph.nodes ≤ n → AreWorkable (game_of g) p s
workable_all g ok p n s all many = record {
  members = λ v. (
    λ h. ((all.members v).0 h).1,
    λ (can : CanWork (game_of g) p v). let vertex = live_vertex (dag_of g.graph) (IsDag-dag_of g.graph ok) v can.live in (all.members v).1 (omega arith, can),
  );
}

-- a set whose members Work is legal for has vertices of the graph alone
pub workable_below : (g : GameParts) → IsGraph g.graph → (p : Position) (s : Vertices) → AreWorkable (game_of g) p s → AllBelow 256 s
workable_below g ok p s are = record {
  below = λ v h. let can = (are.members v).0 h in let vertex = live_vertex (dag_of g.graph) (IsDag-dag_of g.graph ok) v can.live in let few = ok.small in omega arith;
}

pub not_both : (b : Bool) → b ≡ true → b ≡ false → ⊥
not_both b t f = let both : true ≡ false = sym t ∙ f in cc

pub refused : (P : Type 0) → (P → ⊥) → IsTrue false ↔ P
refused P not = (λ h. absurd (not_both false h refl), λ p. absurd (not p))

-- ---- one vertex

-- Work is not legal for an input, a vertex that is not live, or a red one
pub not_for_input : (g : GameParts) → IsGraph g.graph → (p : Position) (v : ℕ) → v < length g.graph.names → CanWork (game_of g) p v → ⊥
not_for_input g ok p v early can = not_both (contains (dag_of g.graph).inputs v) (input_below (contains (dag_of g.graph).inputs v) v (length g.graph.names) (has_inputs g.graph ok v) early) can.no_input
  where
    input_below : (b : Bool) (v n : ℕ) → b ≡ (ltb v n && true) → v < n → b ≡ true
    input_below b v n e h = grind (arith, nat_tests)

pub not_for_dead : (g : GameParts) → IsGraph g.graph → (p : Position) (v : ℕ) (live : Vertices) → live ≡ live_of (dag_of g.graph) → v ∉ live → CanWork (game_of g) p v → ⊥
not_for_dead g ok p v live is dead can =
    not_both (is_live (dag_of g.graph) v) can.live (sym (has_live_of (dag_of g.graph) (IsDag-dag_of g.graph ok) v) ∙ ap (λ s. contains s v) (sym is) ∙ dead)

pub not_for_red : (g : GameParts) (p : Position) (v : ℕ) → v ∈ p.red → CanWork (game_of g) p v → ⊥
not_for_red g p v red can = not_both (contains p.red v) red can.not_red

-- nor where a predecessor has no pebble
pub not_for_bare : (g : GameParts) (p : Position) (v : ℕ) (preds held : Vertices) (within : Bool) → preds ≡ (dag_of g.graph).preds v → held ≡ union p.red p.blue
    → IsTrue within ↔ IsWithin preds held → within ≡ false → CanWork (game_of g) p v → ⊥
not_for_bare g p v preds held within preds_is held_is decided out can =
    not_both within (decided.1 (subst (IsWithin preds) (sym held_is) (subst (λ s. IsWithin s (union p.red p.blue)) (sym preds_is) can.preds_held))) out

pub leb_true : (a b : ℕ) → leb a b ≡ true → a ≤ b
leb_true a b h = grind arith

pub true_leb : (a b : ℕ) → a ≤ b → leb a b ≡ true
true_leb a b h = grind arith

-- where nothing else stands in the way, the slots decide
pub workable_by_room : (g : GameParts) → IsGraph g.graph → (p : Position) (v : ℕ) (live preds after : Vertices) (count slots : ℕ)
    → live ≡ live_of (dag_of g.graph) → v ∈ live → length g.graph.names ≤ v → v ∉ p.red
    → preds ≡ (dag_of g.graph).preds v → IsWithin preds (union p.red p.blue) → after ≡ insert (union p.red preds) v → count ≡ size after → slots ≡ g.slots
    → IsTrue (leb count slots) ↔ CanWork (game_of g) p v
workable_by_room g ok p v live preds after count slots live_is is past not_red preds_is held after_is counted slots_is =
    let grown : after ≡ worked (game_of g) p.red v = after_is ∙ ap (λ s. insert (union p.red s) v) preds_is in
    let many = counted ∙ ap size grown in (
      λ h. record {
        live = sym (has_live_of (dag_of g.graph) (IsDag-dag_of g.graph ok) v) ∙ ap (λ s. contains s v) (sym live_is) ∙ is;
        no_input = past_inputs (contains (dag_of g.graph).inputs v) v (length g.graph.names) (has_inputs g.graph ok v) past;
        not_red = not_red;
        preds_held = subst (λ s. IsWithin s (union p.red p.blue)) preds_is held;
        fits = let room = leb_true count slots h in omega arith;
      },
      λ (can : CanWork (game_of g) p v). true_leb count slots (let room = can.fits in omega arith),
    )
  where
    past_inputs : (b : Bool) (v n : ℕ) → b ≡ (ltb v n && true) → n ≤ v → b ≡ false
    past_inputs b v n e h = grind (arith, nat_tests)

-- a step of Work is on a vertex of the graph
pub work_vertex : (g : GameParts) → IsGraph g.graph → (p : Position) (s : Step) (v : ℕ) → s ≡ Work v → IsStep (game_of g) p s → v < length g.graph.nodes
work_vertex g ok p s v e is =
    let can : CanWork (game_of g) p v = subst (IsStep (game_of g) p) e is in
    live_vertex (dag_of g.graph) (IsDag-dag_of g.graph ok) v can.live

-- so it is not legal for another number
pub no_vertex : (g : GameParts) → IsGraph g.graph → (p : Position) (s : Step) (v n : ℕ) → s ≡ Work v → n ≡ length g.graph.nodes → n ≤ v → IsTrue (ltb v n) ↔ IsStep (game_of g) p s
no_vertex g ok p s v n e counted past = (
  λ h. absurd (not_below v n past h),
  λ is. absurd (let vertex = work_vertex g ok p s v e is in omega arith),
)
  where
    not_below : (v n : ℕ) → n ≤ v → ltb v n ≡ true → ⊥
    not_below v n past h = grind arith
