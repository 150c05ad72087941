-- What is needed in a window is worked on in each play that finishes.
use Rattle.std.proofs.Common.{◌≡◌, ℕ, Bool, true, false, cond, List, [], ◌∷◌, ◌⊎◌, inl, inr, ap, subst, arith}
use Rattle.std.specs.FinSet.{contains, insert, remove, union, intersection}
use Rattle.std.proofs.lemmas.Bool.{cases_Bool}
use Rattle.comp_graph.specs.Vertices.{Vertices, ◌∈◌, ◌∉◌, IsWithin}
use Rattle.comp_graph.specs.Sets.{membership}
use Rattle.comp_graph.specs.Games.{PebbleGame}
use Rattle.comp_graph.proofs.Sets.{either_two}
use Rattle.pebble_rules.specs.declared.position.Position.{Position}
use Rattle.normal_steps.specs.declared.step.Step.{Step}
use Rattle.normal_steps.specs.declared.step.Step.TheVariants.{Work, Drop, Spill}
use Rattle.normal_steps.specs.Steps.{worked}
use Rattle.forced_bounds.proofs.Paths.{IsPathOutside, point, edge}
use Rattle.forced_bounds.proofs.Sets.{needed_path}
use Rattle.window_game.specs.Windows.{Window, kept, known}
use Rattle.window_game.specs.Plays.{IsStepIn, stepped_in, IsPlayIn, play_after_in, CanFinishIn}
use Rattle.window_laws.specs.Entry.{known_dag, needed_in}

-- the play works on v
abbrev pub WorksOn : ℕ → List Step → Type 0
WorksOn v [] = ⊥
WorksOn v (Work y ∷ ss) = (v ≡ y) ⊎ WorksOn v ss
WorksOn v (Drop u ∷ ss) = WorksOn v ss
WorksOn v (Spill u ∷ ss) = WorksOn v ss

equal_or_not : (v y : ℕ) → (v ≡ y) ⊎ (v ≡ y → ⊥)
equal_or_not v y = grind arith

bare_parts : (r b : Vertices) (v : ℕ) → v ∉ union r b → (v ∉ r) × (v ∉ b)
bare_parts r b v h = (grind (arith, membership), grind (arith, membership))

bare_of : (r b : Vertices) (v : ℕ) → v ∉ r → v ∉ b → v ∉ union r b
bare_of r b v h k = grind (arith, membership)

not_worked : (r t p : Vertices) (v y : ℕ) → v ∉ r → (v ≡ y → ⊥) → v ∉ p → v ∉ intersection (insert (union r p) y) t
not_worked r t p v y a other c = grind (arith, membership)

not_kept : (c : Bool) (b : Vertices) (v y : ℕ) → v ∉ b → (v ≡ y → ⊥) → v ∉ cond c (insert b y) b
not_kept true b v y h other = grind (arith, membership)
not_kept false b v y h other = h

not_removed : (r : Vertices) (v u : ℕ) → v ∉ r → v ∉ remove r u
not_removed r v u h = grind (arith, membership)

not_stored : (r b : Vertices) (v u : ℕ) → v ∉ r → u ∈ r → v ∉ b → v ∉ insert b u
not_stored r b v u out red h = elim (equal_or_not v u) [
  | inl e ↦ absurd (let at = ap (contains r) e in grind arith)
  | inr other ↦ grind (arith, membership)
]

both_of : (s t : Vertices) (q : ℕ) → q ∈ s → q ∈ t → q ∈ intersection s t
both_of s t q a b = grind (arith, membership)

module _ (g : PebbleGame) (w : Window) where
  -- an operand that has no pebble cannot be read
  not_read : (p : Position) (v y : ℕ) → v ∈ known w → v ∉ union p.red p.blue → IsWithin (intersection (g.dag.preds y) (known w)) (union p.red p.blue) → v ∉ g.dag.preds y
  not_read p v y is bare held = elim (cases_Bool (contains (g.dag.preds y) v)) as (λ _. v ∉ g.dag.preds y) [
    | inl pred ↦ absurd (let on = held v (both_of (g.dag.preds y) (known w) v pred is) in grind arith)
    | inr out ↦ out
  ]

  bare_next : (p : Position) (v : ℕ) → v ∈ known w → v ∉ union p.red p.blue → (s : Step) → IsStepIn g w p s
      → WorksOn v (s ∷ []) ⊎ (v ∉ union (stepped_in g w p s).red (stepped_in g w p s).blue)
  bare_next p v is bare (Work y) can =
      let parts = bare_parts p.red p.blue v bare in
      elim (equal_or_not v y) [
        | inl e ↦ inl (inl e)
        | inr other ↦ inr (bare_of (intersection (worked g p.red y) w.tracked) (cond (contains (kept w) y) (insert p.blue y) p.blue) v
            (not_worked p.red w.tracked (g.dag.preds y) v y parts.0 other (not_read p v y is bare can.0.preds_held)) (not_kept (contains (kept w) y) p.blue v y parts.1 other))
      ]
  bare_next p v is bare (Drop u) can = let parts = bare_parts p.red p.blue v bare in inr (bare_of (remove p.red u) p.blue v (not_removed p.red v u parts.0) parts.1)
  bare_next p v is bare (Spill u) can =
      let parts = bare_parts p.red p.blue v bare in
      inr (bare_of (remove p.red u) (insert p.blue u) v (not_removed p.red v u parts.0) (not_stored p.red p.blue v u parts.0 can.0.red parts.1))

  works_first : (v : ℕ) (s : Step) (ss : List Step) → WorksOn v (s ∷ []) → WorksOn v (s ∷ ss)
  works_first v (Work y) ss (inl e) = inl e
  works_first v (Work y) ss (inr none) = absurd none
  works_first v (Drop u) ss none = absurd none
  works_first v (Spill u) ss none = absurd none

  works_later : (v : ℕ) (s : Step) (ss : List Step) → WorksOn v ss → WorksOn v (s ∷ ss)
  works_later v (Work y) ss h = inr h
  works_later v (Drop u) ss h = h
  works_later v (Spill u) ss h = h

  -- a vertex with no pebble that has one at the end was worked on
  works_by_end : (v : ℕ) → v ∈ known w → (p : Position) → v ∉ union p.red p.blue → (ss : List Step) → IsPlayIn g w p ss
      → v ∈ union (play_after_in g w p ss).red (play_after_in g w p ss).blue → WorksOn v ss
  works_by_end v is p bare [] play held = absurd (grind arith)
  works_by_end v is p bare (s ∷ ss) play held = elim (bare_next p v is bare s play.0) [
    | inl here ↦ works_first v s ss here
    | inr still ↦ works_later v s ss (works_by_end v is (stepped_in g w p s) still ss play.1 held)
  ]

  -- and so was one that is read
  works_by_read : (v x : ℕ) → v ∈ known w → v ∈ g.dag.preds x → (p : Position) → v ∉ union p.red p.blue → (ss : List Step) → IsPlayIn g w p ss → WorksOn x ss → WorksOn v ss
  works_by_read v x is pred p bare [] play h = absurd h
  works_by_read v x is pred p bare (Work y ∷ ss) play (inl e) = absurd (
      let here = subst (λ z. v ∈ g.dag.preds z) e pred in
      let out = not_read p v y is bare play.0.0.preds_held in
      grind arith)
  works_by_read v x is pred p bare (Work y ∷ ss) play (inr h) = elim (bare_next p v is bare (Work y) play.0) [
    | inl here ↦ works_first v (Work y) ss here
    | inr still ↦ inr (works_by_read v x is pred (stepped_in g w p (Work y)) still ss play.1 h)
  ]
  works_by_read v x is pred p bare (Drop u ∷ ss) play h = elim (bare_next p v is bare (Drop u) play.0) [
    | inl here ↦ absurd here
    | inr still ↦ works_by_read v x is pred (stepped_in g w p (Drop u)) still ss play.1 h
  ]
  works_by_read v x is pred p bare (Spill u ∷ ss) play h = elim (bare_next p v is bare (Spill u) play.0) [
    | inl here ↦ absurd here
    | inr still ↦ works_by_read v x is pred (stepped_in g w p (Spill u)) still ss play.1 h
  ]

  inside_two : (s t : Vertices) (q : ℕ) → q ∈ intersection s t → (q ∈ s) × (q ∈ t)
  inside_two s t q h = (grind (arith, membership), grind (arith, membership))

  tracked_known : (q : ℕ) → q ∈ w.tracked → q ∈ known w
  tracked_known q h = grind (arith, membership)

  required_known : (q : ℕ) → q ∈ w.required → q ∈ known w
  required_known q h = grind (arith, membership)

  right_of : (s t : Vertices) (q : ℕ) → q ∈ t → q ∈ union s t
  right_of s t q h = grind (arith, membership)

  works_along : (p : Position) (ss : List Step) → IsPlayIn g w p ss → CanFinishIn g w (play_after_in g w p ss) → (v o : ℕ)
      → IsPathOutside (known_dag g w) (union p.red p.blue) v o → o ∈ (known_dag g w).outputs → WorksOn v ss
  works_along p ss play finish v o (point bare) out = elim (either_two (intersection g.dag.outputs w.tracked) w.required v out) [
    | inl tracked ↦ works_by_end v (tracked_known v (inside_two g.dag.outputs w.tracked v tracked).1) p bare ss play (finish.outputs_held v tracked)
    | inr required ↦ works_by_end v (required_known v required) p bare ss play (right_of (play_after_in g w p ss).red (play_after_in g w p ss).blue v (finish.required_done v required))
  ]
  works_along p ss play finish v o (edge x bare pred rest) out =
      let parts = inside_two (g.dag.preds x) (known w) v pred in
      works_by_read v x parts.1 parts.0 p bare ss play (works_along p ss play finish x o rest out)

  pub needed_works : (p : Position) (ss : List Step) → IsPlayIn g w p ss → CanFinishIn g w (play_after_in g w p ss) → (v : ℕ) → v ∈ needed_in g w p → WorksOn v ss
  needed_works p ss play finish v h =
      let path = needed_path (known_dag g w) p v h in
      works_along p ss play finish v path.0 path.2 path.1
