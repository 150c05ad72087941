-- A list of steps is played step by step.
use Rattle.std.proofs.Common.{◌≡◌, ℕ, zero, suc, ◌+◌, ◌≤◌, ◌<◌, List, [], ◌∷◌, length, take, get_or, inl, inr, sym, ap, ◌∙◌, subst, arith}
use Rattle.std.proofs.lemmas.List.{take_more, take_all}
use Rattle.std.specs.FinSet.{union}
use Rattle.comp_graph.specs.Vertices.{Vertices, ◌∈◌, ◌∉◌}
use Rattle.comp_graph.specs.Sets.{membership}
use Rattle.comp_graph.specs.Games.{PebbleGame}
use Rattle.pebble_rules.specs.Rules.{start}
use Rattle.pebble_rules.specs.declared.position.Position.{Position}
use Rattle.normal_steps.specs.declared.step.Step.{Step}
use Rattle.normal_steps.specs.Steps.{IsStep, stepped, step_cost, IsPlay, play_after, play_cost, CanFinish}
use Rattle.normal_steps.specs.Plans.{HasBareOutput, IsNoPlan}
use Rattle.normal_steps.proofs.Simulation.{append_after, append_play, append_cost}

-- the first steps of a list are played: they are a play that leads to p and costs this much
pub record IsUnderWay (g : PebbleGame) (ss : List Step) (n : ℕ) (p : Position) (total : ℕ) : Type 0 where
  pub play : IsPlay g (start g) (take n ss)
  pub position : p ≡ play_after g (start g) (take n ss)
  pub cost : total ≡ play_cost g (start g) (take n ss)

pub under_way_next : (g : PebbleGame) (ss : List Step) (n : ℕ) (p q : Position) (total cost more : ℕ) (d : Step) → IsUnderWay g ss n p total → n < length ss
    → IsStep g p (get_or ss n d) → q ≡ stepped g p (get_or ss n d) → cost ≡ step_cost g p (get_or ss n d) → more ≡ total + cost → IsUnderWay g ss (n + 1) q more
under_way_next g ss n p q total cost more d before there is_step after costs sum_is =
    let s = get_or ss n d in
    let grown = take_more ss n d there in
    let at = play_after g (start g) (take n ss) in
    record {
      play = subst (IsPlay g (start g)) (sym grown) (append_play g (start g) (take n ss) (s ∷ []) before.play (subst (λ p. IsStep g p s) before.position is_step, tt));
      position = after ∙ ap (λ p. stepped g p s) before.position ∙ sym (append_after g (start g) (take n ss) (s ∷ [])) ∙ ap (play_after g (start g)) (sym grown);
      cost =
          let sum = append_cost g (start g) (take n ss) (s ∷ []) in
          let whole = ap (play_cost g (start g)) grown in
          let here = ap (λ p. step_cost g p s) before.position in
          let old = before.cost in
          omega arith;
    }

-- a step of a play is legal where it stands
step_of_play : (g : PebbleGame) (p : Position) (ss : List Step) (n : ℕ) (d : Step) → n < length ss → IsPlay g p ss → IsStep g (play_after g p (take n ss)) (get_or ss n d)
step_of_play g p [] n d there h = absurd (omega arith)
step_of_play g p (s ∷ ss) zero d there h = h.0
step_of_play g p (s ∷ ss) (suc n) d there h = step_of_play g (stepped g p s) ss n d (omega arith) h.1

-- the first steps and one more cost no more than all of them
cost_of_first : (g : PebbleGame) (p : Position) (ss : List Step) (n : ℕ) (d : Step) → n < length ss
    → play_cost g p (take n ss) + step_cost g (play_after g p (take n ss)) (get_or ss n d) ≤ play_cost g p ss
cost_of_first g p [] n d there = absurd (omega arith)
cost_of_first g p (s ∷ ss) zero d there = omega arith
cost_of_first g p (s ∷ ss) (suc n) d there = let rest = cost_of_first g (stepped g p s) ss n d (omega arith) in omega arith

-- a step that is not legal where it stands ends it
pub no_step_no_plan : (g : PebbleGame) (ss : List Step) (n : ℕ) (p : Position) (total : ℕ) (d : Step) → IsUnderWay g ss n p total → n < length ss → (IsStep g p (get_or ss n d) → ⊥) → IsNoPlan g ss
no_step_no_plan g ss n p total d before there illegal =
    inl (λ f. illegal (subst (λ q. IsStep g q (get_or ss n d)) (sym before.position) (step_of_play g (start g) ss n d there f.play)))

-- so does a cost that is too great
pub dear_step_no_plan : (g : PebbleGame) (ss : List Step) (n : ℕ) (p : Position) (total cost : ℕ) (d : Step) → IsUnderWay g ss n p total → n < length ss
    → cost ≡ step_cost g p (get_or ss n d) → 4294967295 < total + cost → IsNoPlan g ss
dear_step_no_plan g ss n p total cost d before there costs dear =
    let first = cost_of_first g (start g) ss n d there in
    let here = ap (λ p. step_cost g p (get_or ss n d)) before.position in
    let old = before.cost in
    inr (omega arith)

out_of_union : (s t : Vertices) (v : ℕ) → v ∉ s → v ∉ t → v ∈ union s t → ⊥
out_of_union s t v a b h = grind (arith, membership)

-- all steps are played, and an output has no pebble
module _ (g : PebbleGame) (ss : List Step) (n : ℕ) (p : Position) (total : ℕ) (all : IsUnderWay g ss n p total) (many : length ss ≤ n) where
  whole : take n ss ≡ ss
  whole = take_all n ss many

  at_end : p ≡ play_after g (start g) ss
  at_end = all.position ∙ ap (play_after g (start g)) whole

  pub bare_no_plan : HasBareOutput g p → IsNoPlan g ss
  bare_no_plan bare = inl (λ f. out_of_union p.red p.blue bare.output bare.not_red bare.not_blue (subst (CanFinish g) (sym at_end) f.finishes bare.output bare.is_output))
