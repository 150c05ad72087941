-- What a covering position can do.
use Rattle.std.proofs.Common.{◌≡◌, ℕ, true, ◌↔◌, sym, ◌∙◌, subst, arith}
use Rattle.std.specs.FinSet.{intersection}
use Rattle.comp_graph.specs.Vertices.{Vertices, ◌∈◌}
use Rattle.comp_graph.specs.Dags.{IsDag, is_live, live_of}
use Rattle.comp_graph.specs.Games.{PebbleGame}
use Rattle.comp_graph.specs.Sets.{membership, has_set_below}
use Rattle.comp_graph.proofs.DagLaws.{both, and-true, live_vertex}
use Rattle.pebble_rules.specs.Rules.{start}
use Rattle.pebble_rules.specs.declared.position.Position.{Position}
use Rattle.normal_steps.specs.PlanMoves.{PlaysArePebblings, play_moves}
use Rattle.normal_steps.specs.Simulation.{no_debts, Follows, PlaysCostNoMore}
use Rattle.normal_steps.specs.Sound.{IsSound}
use Rattle.normal_steps.specs.StepTests.{is_within}
use Rattle.normal_steps.specs.Steps.{work_vertices}
use Rattle.normal_steps.specs.Subsequences.{IsSubsequence}
use Rattle.normal_steps.proofs.StepTestLaws.{within_true, true_within}
use Rattle.cover_cert.specs.Covers.{Covers, is_covered_by, CoversIsTested, HasPebbles, live_part}
use Rattle.cover_cert.specs.CoverLaws.{CoveringCostsNoMore}

-- ---- the live vertices

pub live_in : (g : PebbleGame) → IsDag g.dag → (v : ℕ) → is_live g.dag v ≡ true → v ∈ live_of g.dag
live_in g dag v live = let below = live_vertex g.dag dag v live in let has = has_set_below (is_live g.dag) g.dag.count v in grind (arith, has)

pub in_live : (g : PebbleGame) (v : ℕ) → v ∈ live_of g.dag → is_live g.dag v ≡ true
in_live g v h = (both _ (is_live g.dag v) (sym (has_set_below (is_live g.dag) g.dag.count v) ∙ h)).1

-- ---- the test

in_part : (s t : Vertices) (v : ℕ) → v ∈ s → v ∈ t → v ∈ intersection s t
in_part s t v a b = grind (arith, membership)

part_first : (s t : Vertices) (v : ℕ) → v ∈ intersection s t → v ∈ s
part_first s t v h = grind (arith, membership)

part_second : (s t : Vertices) (v : ℕ) → v ∈ intersection s t → v ∈ t
part_second s t v h = grind (arith, membership)

abbrev LiveWithin : PebbleGame → Vertices → Vertices → Type 0
LiveWithin g s t = (v : ℕ) → is_live g.dag v ≡ true → v ∈ s → v ∈ t

live_within_true : (g : PebbleGame) → IsDag g.dag → (s t : Vertices) → is_within (intersection s (live_of g.dag)) t ≡ true → LiveWithin g s t
live_within_true g dag s t h v live i = within_true _ _ h v (in_part s (live_of g.dag) v i (live_in g dag v live))

true_live_within : (g : PebbleGame) (s t : Vertices) → LiveWithin g s t → is_within (intersection s (live_of g.dag)) t ≡ true
true_live_within g s t h = true_within _ _ (λ v i. h v (in_live g v (part_second s (live_of g.dag) v i)) (part_first s (live_of g.dag) v i))

pub covers_is_tested : CoversIsTested
unfolding is_covered_by
covers_is_tested g dag p q = (
  λ h.
      let parts = both (is_within (intersection q.red (live_of g.dag)) p.red) _ h in
      record { red = live_within_true g dag q.red p.red parts.0; blue = live_within_true g dag q.blue p.blue parts.1 },
  λ c. and-true _ _ (true_live_within g q.red p.red c.red) (true_live_within g q.blue p.blue c.blue),
)

-- ---- the call

-- what covers has the live pebbles
pub covers_pebbles : (g : PebbleGame) → IsDag g.dag → (p q : Position) → Covers g p q ↔ HasPebbles p (live_part g q)
covers_pebbles g dag p q = (
  λ c. record {
    red = λ v i. c.red v (in_live g v (part_second q.red (live_of g.dag) v i)) (part_first q.red (live_of g.dag) v i);
    blue = λ v i. c.blue v (in_live g v (part_second q.blue (live_of g.dag) v i)) (part_first q.blue (live_of g.dag) v i);
  },
  λ h. record {
    red = λ v live i. h.red v (in_part q.red (live_of g.dag) v i (live_in g dag v live));
    blue = λ v live i. h.blue v (in_part q.blue (live_of g.dag) v i (live_in g dag v live));
  },
)

-- ---- a play from the covering position follows

pub covers_follows : (g : PebbleGame) (p q : Position) → Covers g p q → Follows g q p no_debts
covers_follows g p q c = record {
  stores_red = λ v h. absurd (grind (arith, membership));
  stores_not_blue = λ v h. absurd (grind (arith, membership));
  loads_blue = λ v h. absurd (grind (arith, membership));
  loads_not_red = λ v h. absurd (grind (arith, membership));
  red = λ v live h. let is = c.red v live h in grind (arith, membership);
  blue = λ v live h. let is = c.blue v live h in grind (arith, membership);
}

pub covering_costs_no_more : PlaysCostNoMore → PlaysArePebblings → CoveringCostsNoMore
covering_costs_no_more follow played g dag p q covers fits ss finishing =
    let moves = played g dag q fits ss finishing in
    let answer = follow g dag q p (covers_follows g p q covers) (play_moves g q ss) moves.complete in
    record {
      steps = answer.steps;
      finishing = answer.finishing;
      costs = let costs = answer.costs in let same = moves.costs in omega arith;
      works = subst (IsSubsequence (work_vertices answer.steps)) moves.computes answer.works;
    }

-- each sound position covers the start
pub covers_start : (g : PebbleGame) (p : Position) → IsSound g p → Covers g p (start g)
covers_start g p sound = record { red = λ v live h. absurd (grind (arith, membership)); blue = λ v live h. sound.inputs_blue v h }
