-- Each list of moves is a complete pebbling or has a fault.
use Rattle.std.proofs.Common.{◌≡◌, ◌⊎◌, ◌<◌, ℕ, zero, suc, Bool, true, false, List, [], ◌∷◌, take, inl, inr, refl, sym, ◌∙◌, subst, arith}
use Rattle.std.specs.Prelude.{Some, slice_get}
use Rattle.std.specs.FinSet.{contains, difference, is_subset}
use Rattle.std.proofs.lemmas.Bool.{cases_lt, false≢true}
use Rattle.comp_graph.specs.Vertices.{Vertices, ◌∈◌, ◌∉◌, IsLeast, IsWithin, size}
use Rattle.comp_graph.specs.Sets.{membership, is_subset-IsWithin, IsWithin-is_subset}
use Rattle.comp_graph.specs.Dags.{IsDag}
use Rattle.comp_graph.specs.Games.{PebbleGame}
use Rattle.pebble_rules.specs.Rules.{start, CanCompute, Needs, IsMove, moved, IsPebbling, position_after}
use Rattle.pebble_rules.specs.Refusals.{vertex_of, rule_of, IsRefused}
use Rattle.pebble_rules.specs.declared.position.Position.{Position}
use Rattle.pebble_rules.specs.declared.moves.Move.{Move}
use Rattle.pebble_rules.specs.declared.moves.Move.TheVariants.{Load, Store, Compute, DropRed, DropBlue}
use Rattle.pebble_rules.specs.declared.refusal.Illegal.{Illegal}
use Rattle.pebble_rules.specs.declared.refusal.Rule.TheVariants.{RedPebbles}
use Rattle.pebble_rules.proofs.Possible.{true_or_false}
use Rattle.play_files.specs.declared.judging.PlayFault.TheVariants.{Bad, Incomplete}
use Rattle.play_files.specs.Judging.{CompleteOrFaulty}

-- ---- one move

-- it holds or it does not
abbrev IsTold : Type 0 → Type 0
IsTold P = P ⊎ (P → ⊥)

true_told : (b : Bool) → IsTold (b ≡ true)
true_told true = inl refl
true_told false = inr (λ e. false≢true e)

can_compute_told : (g : PebbleGame) (p : Position) (v : ℕ) → IsTold (CanCompute g p v)
can_compute_told g p v = elim (cases_lt v g.dag.count) [
  | inr past ↦ inr (λ can. let vertex = can.vertex in omega (arith, vertex, past))
  | inl vertex ↦ elim (true_or_false (contains g.dag.inputs v)) [
    | inl input ↦ inr (λ can. false≢true (sym can.no_input ∙ input))
    | inr no_input ↦ elim (true_or_false (is_subset (g.dag.preds v) p.red)) [
      | inl within ↦ inl (record { vertex = vertex; no_input = no_input; preds_red = is_subset-IsWithin (g.dag.preds v) p.red within })
      | inr not ↦ inr (λ can. false≢true (sym not ∙ IsWithin-is_subset (g.dag.preds v) p.red can.preds_red))
    ]
  ]
]

needs_told : (g : PebbleGame) (p : Position) (m : Move) → IsTold (Needs g p m)
needs_told g p (Load v) = true_told (contains p.blue v)
needs_told g p (Store v) = true_told (contains p.red v)
needs_told g p (Compute v) = can_compute_told g p v
needs_told g p (DropRed v) = true_told (contains p.red v)
needs_told g p (DropBlue v) = true_told (contains p.blue v)

-- a move is one of the game, or is refused
move_or_refused : (g : PebbleGame) (p : Position) (m : Move) → IsMove g p m ⊎ ((why : Illegal) × IsRefused g p m why)
move_or_refused g p m = elim (needs_told g p m) [
  | inr lacks ↦ inr (record { rule = rule_of m; vertex = vertex_of m }, record { vertex = refl; rule = inl (refl, lacks) })
  | inl needs ↦ elim (cases_lt g.slots (size (moved p m).red)) [
    | inl full ↦ inr (record { rule = RedPebbles; vertex = vertex_of m }, record { vertex = refl; rule = inr (refl, needs, full) })
    | inr fits ↦ inl (record { needs = needs; fits = omega (arith, fits) })
  ]
]

-- ---- all moves

-- the first move of the list that is none of the game where it stands
record HasBad (g : PebbleGame) (p : Position) (ms : List Move) : Type 0 where
  at : ℕ
  move : Move
  reason : Illegal
  is_there : slice_get ms at ≡ Some move
  before : IsPebbling g p (take at ms)
  why : IsRefused g (position_after p (take at ms)) move reason

pebbling_or_bad : (g : PebbleGame) (p : Position) (ms : List Move) → IsPebbling g p ms ⊎ HasBad g p ms
pebbling_or_bad g p [] = inl tt
pebbling_or_bad g p (m ∷ ms) = elim (move_or_refused g p m) [
  | inr bad ↦ inr (record { at = zero; move = m; reason = bad.0; is_there = refl; before = tt; why = bad.1 })
  | inl move ↦ elim (pebbling_or_bad g (moved p m) ms) [
    | inl rest ↦ inl (move, rest)
    | inr bad ↦ inr (record { at = suc bad.at; move = bad.move; reason = bad.reason; is_there = bad.is_there; before = (move, bad.before); why = bad.why })
  ]
]

-- ---- the outputs at the end

-- no member below n, or a least one
pub none_or_least : (s : Vertices) (n : ℕ) → ((u : ℕ) → u < n → u ∉ s) ⊎ ((v : ℕ) × IsLeast s v)
none_or_least s zero = inl (λ u h. absurd (omega arith))
none_or_least s (suc n) = elim (none_or_least s n) [
  | inr least ↦ inr least
  | inl below ↦ elim (true_or_false (contains s n)) [
    | inl here ↦ inr (n, record { member = here; least = λ u h. elim (cases_lt u n) [ inl less ↦ absurd (false≢true (sym (below u less) ∙ h)) | inr more ↦ more ] })
    | inr not ↦ inl (λ u h. elim (cases_lt u n) [ inl less ↦ below u less | inr more ↦ (let same : n ≡ u = omega arith in subst (λ w. w ∉ s) same not) ])
  ]
]

blue_or_left : (g : PebbleGame) → IsDag g.dag → (blue : Vertices) → IsWithin g.dag.outputs blue ⊎ ((v : ℕ) × IsLeast (difference g.dag.outputs blue) v)
blue_or_left g dag blue = elim (none_or_least (difference g.dag.outputs blue) g.dag.count) [
  | inr least ↦ inr least
  | inl none ↦ inl (λ v h. in_blue v h (none v (dag.outputs_are_vertices v h)))
]
  where
    in_blue : (v : ℕ) → v ∈ g.dag.outputs → v ∉ difference g.dag.outputs blue → v ∈ blue
    in_blue v h out = grind (arith, membership)

pub complete_or_faulty : CompleteOrFaulty
complete_or_faulty g dag ms = elim (pebbling_or_bad g (start g) ms) [
  | inr bad ↦ inr (
    Bad bad.at bad.reason.rule bad.reason.vertex,
    (record { at = bad.at; why = bad.reason }, record { move = bad.move; is_there = bad.is_there; before = bad.before; why = bad.why }, refl, refl, refl),
  )
  | inl pebbling ↦ elim (blue_or_left g dag (position_after (start g) ms).blue) [
    | inl blue ↦ inl (record { pebbling = pebbling; outputs_blue = blue })
    | inr left ↦ inr (Incomplete left.0, (pebbling, left.1))
  ]
]
