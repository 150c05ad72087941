-- Positions of plays of a window are sound.
use Rattle.std.proofs.Common.{◌≡◌, ℕ, Bool, true, false, cond, [], ◌∷◌, inl, inr, sym, refl, subst, arith}
use Rattle.std.specs.FinSet.{contains, insert, intersection}
use Rattle.comp_graph.specs.Vertices.{Vertices, ◌∈◌, IsWithin}
use Rattle.comp_graph.specs.Sets.{membership}
use Rattle.comp_graph.specs.Games.{PebbleGame}
use Rattle.comp_graph.proofs.Sets.{size_within, size_empty, size_remove, insert_cases, in_insert, in_removed}
use Rattle.pebble_rules.specs.declared.position.Position.{Position}
use Rattle.normal_steps.specs.declared.step.Step.{Step}
use Rattle.normal_steps.specs.declared.step.Step.TheVariants.{Work, Drop, Spill}
use Rattle.normal_steps.specs.Steps.{worked}
use Rattle.window_game.specs.Windows.{Window, IsWindow, kept, known}
use Rattle.window_game.specs.Plays.{IsStepIn, stepped_in}
use Rattle.window_laws.specs.Sound.{IsSoundIn, StartIsSoundIn, PlaysKeepSoundIn}

second : (s t : Vertices) (q : ℕ) → q ∈ intersection s t → q ∈ t
second s t q h = grind (arith, membership)

first_within : (s t : Vertices) → IsWithin (intersection s t) s
first_within s t q h = grind (arith, membership)

kept_known : (w : Window) (q : ℕ) → q ∈ kept w → q ∈ known w
kept_known w q h = grind (arith, membership)

tracked_known : (w : Window) (q : ℕ) → q ∈ w.tracked → q ∈ known w
tracked_known w q h = grind (arith, membership)

kept_blue : (w : Window) (b : Vertices) → IsWithin b (known w) → (v : ℕ) → IsWithin (cond (contains (kept w) v) (insert b v) b) (known w)
kept_blue w b within v q = elim (contains (kept w) v) as (λ c. contains (kept w) v ≡ c → q ∈ cond c (insert b v) b → q ∈ known w) [
  | true ↦ λ is h. elim (insert_cases b v q h) [
    | inl e ↦ subst (λ x. x ∈ known w) (sym e) (kept_known w v is)
    | inr old ↦ within q old
  ]
  | false ↦ λ is h. within q h
] refl

kept_more : (c : Bool) (b i : Vertices) (v : ℕ) → IsWithin i b → IsWithin i (cond c (insert b v) b)
kept_more true b i v within q h = in_insert b v q (within q h)
kept_more false b i v within q h = within q h

pub step_sound_in : (g : PebbleGame) (w : Window) → IsWindow g w → (p : Position) → IsSoundIn g w p → (s : Step) → IsStepIn g w p s → IsSoundIn g w (stepped_in g w p s)
step_sound_in g w ok p sound (Work v) can = record {
  red_tracked = λ q h. second (worked g p.red v) w.tracked q h;
  blue_known = kept_blue w p.blue sound.blue_known v;
  inputs_blue = kept_more (contains (kept w) v) p.blue (intersection g.dag.inputs w.tracked) v sound.inputs_blue;
  fits = let less = size_within _ _ (first_within (worked g p.red v) w.tracked) in let fits = can.0.fits in omega arith;
}
step_sound_in g w ok p sound (Drop u) can = record {
  red_tracked = λ q h. sound.red_tracked q (in_removed p.red u q h);
  blue_known = sound.blue_known;
  inputs_blue = sound.inputs_blue;
  fits = let less = size_remove p.red u can.0 in let fits = sound.fits in omega arith;
}
step_sound_in g w ok p sound (Spill u) can = record {
  red_tracked = λ q h. sound.red_tracked q (in_removed p.red u q h);
  blue_known = λ q h. elim (insert_cases p.blue u q h) [
    | inl e ↦ subst (λ x. x ∈ known w) (sym e) (tracked_known w u (ok.stores_tracked u can.0.charged))
    | inr old ↦ sound.blue_known q old
  ];
  inputs_blue = λ q h. in_insert p.blue u q (sound.inputs_blue q h);
  fits = let less = size_remove p.red u can.0.red in let fits = sound.fits in omega arith;
}

pub plays_keep_sound_in : PlaysKeepSoundIn
plays_keep_sound_in g w ok p sound [] h = sound
plays_keep_sound_in g w ok p sound (s ∷ ss) h = plays_keep_sound_in g w ok (stepped_in g w p s) (step_sound_in g w ok p sound s h.0) ss h.1

pub start_is_sound_in : StartIsSoundIn
start_is_sound_in g w = record {
  red_tracked = λ q h. absurd (grind (arith, membership));
  blue_known = λ q h. tracked_known w q (second g.dag.inputs w.tracked q h);
  inputs_blue = λ q h. h;
  fits = let none = size_empty in omega arith;
}
