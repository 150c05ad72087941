-- Positions of plays are sound.
use Rattle.std.proofs.Common.{ℕ, ◌<◌, [], ◌∷◌, inl, inr, sym, subst, arith}
use Rattle.std.specs.FinSet.{remove}
use Rattle.comp_graph.specs.Vertices.{Vertices, ◌∈◌}
use Rattle.comp_graph.specs.Dags.{IsDag}
use Rattle.comp_graph.specs.Games.{PebbleGame}
use Rattle.pebble_rules.specs.declared.position.Position.{Position}
use Rattle.normal_steps.specs.Steps.{IsStep, CanWork, stepped, worked}
use Rattle.normal_steps.specs.Sound.{IsSound, PlaysKeepSound, StartIsSound}
use Rattle.normal_steps.specs.declared.step.Step.{Step}
use Rattle.normal_steps.specs.declared.step.Step.TheVariants.{Work, Drop, Spill}
use Rattle.comp_graph.proofs.Sets.{insert_cases, size_remove, size_empty, worked_cases}
use Rattle.comp_graph.specs.Sets.{membership}
use Rattle.comp_graph.proofs.DagLaws.{live_vertex}

work_below : (g : PebbleGame) → IsDag g.dag → (p : Position) → IsSound g p → (v : ℕ) → CanWork g p v → (q : ℕ) → q ∈ worked g p.red v → q < g.dag.count
work_below g dag p sound v can q h =
    let vertex = live_vertex g.dag dag v can.live in
    elim (worked_cases p.red (g.dag.preds v) v q h) [
      | inl e ↦ omega arith
      | inr (inl red) ↦ sound.red_below q red
      | inr (inr pred) ↦ let below = dag.preds_below v q pred in omega arith
    ]

pub in_remove : (s : Vertices) (k q : ℕ) → q ∈ remove s k → q ∈ s
in_remove s k q h = grind (arith, membership)

pub step_sound : (g : PebbleGame) → IsDag g.dag → (p : Position) → IsSound g p → (s : Step) → IsStep g p s → IsSound g (stepped g p s)
step_sound g dag p sound (Work v) can = record {
  red_below = work_below g dag p sound v can;
  blue_below = sound.blue_below;
  inputs_blue = sound.inputs_blue;
  fits = can.fits;
}
step_sound g dag p sound (Drop u) can = record {
  red_below = λ q h. sound.red_below q (in_remove p.red u q h);
  blue_below = sound.blue_below;
  inputs_blue = sound.inputs_blue;
  fits = let less = size_remove p.red u can.red in let fits = sound.fits in omega arith;
}
step_sound g dag p sound (Spill u) can = record {
  red_below = λ q h. sound.red_below q (in_remove p.red u q h);
  blue_below = λ q h. elim (insert_cases p.blue u q h) [
    | inl e ↦ subst (λ w. w < g.dag.count) (sym e) (sound.red_below u can.drop.red)
    | inr old ↦ sound.blue_below q old
  ];
  inputs_blue = λ q h. let old = sound.inputs_blue q h in grind (arith, membership);
  fits = let less = size_remove p.red u can.drop.red in let fits = sound.fits in omega arith;
}

pub plays_keep_sound : PlaysKeepSound
plays_keep_sound g dag p sound [] h = sound
plays_keep_sound g dag p sound (s ∷ ss) h = plays_keep_sound g dag (stepped g p s) (step_sound g dag p sound s h.0) ss h.1

pub start_is_sound : StartIsSound
start_is_sound g dag = record {
  red_below = λ v h. absurd (grind (arith, membership));
  blue_below = dag.inputs_are_vertices;
  inputs_blue = λ v h. h;
  fits = let none = size_empty in omega arith;
}
