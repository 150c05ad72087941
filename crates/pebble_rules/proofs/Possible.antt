-- A complete pebbling exists exactly where there are more slots than the degree.
use Rattle.std.proofs.Common.{◌≡◌, ℕ, zero, suc, ◌≤◌, ◌<◌, Bool, true, false, List, [], ◌∷◌, ◌++◌, ◌⊎◌, inl, inr, sym, refl, ap, ◌∙◌, subst, arith}
use Rattle.std.specs.FinSet.{empty, contains, insert, remove}
use Rattle.comp_graph.specs.Vertices.{Vertices, ◌∈◌, ◌∉◌, IsWithin, size}
use Rattle.comp_graph.specs.Dags.{IsDag, leads_to_output, is_live, degree}
use Rattle.comp_graph.specs.Games.{PebbleGame}
use Rattle.pebble_rules.specs.declared.position.Position.{Position}
use Rattle.pebble_rules.specs.Rules.{start, IsMove, moved, IsPebbling, position_after, IsComplete}
use Rattle.pebble_rules.specs.Laws.{IsPossible, PossibleAboveDegree}
use Rattle.pebble_rules.specs.declared.moves.Move.{Move}
use Rattle.pebble_rules.specs.declared.moves.Move.TheVariants.{Load, Store, Compute, DropRed, DropBlue}
use Rattle.comp_graph.proofs.Appended.{after_both, allowed_both}
use Rattle.comp_graph.specs.Sets.{membership, same}
use Rattle.comp_graph.proofs.Sets.{by_insert, in_insert_same, in_insert, size_insert_new, size_insert_le, size_within, size_empty}
use Rattle.comp_graph.proofs.DagLaws.{leads_cases, live_before, live_output, live_vertex, degree_bounds, degree_some}

-- ---- too few slots

-- v has too many predecessors, or a vertex from which a path leads to it has
data IsStuck (g : PebbleGame) : ℕ → Type 0 where
  wide : {v : ℕ} → v ∉ g.dag.inputs → g.slots ≤ size (g.dag.preds v) → IsStuck g v
  above : {v : ℕ} (w : ℕ) → w ∈ g.dag.preds v → IsStuck g w → IsStuck g v

-- no stuck vertex has a pebble
record IsClear (g : PebbleGame) (p : Position) : Type 0 where
  red : (v : ℕ) → IsStuck g v → v ∉ p.red
  blue : (v : ℕ) → IsStuck g v → v ∉ p.blue

pub not_member : (b : Bool) → (b ≡ true → ⊥) → b ≡ false
not_member true h = absurd (h refl)
not_member false h = refl

pub no_preds : (s : Vertices) (w : ℕ) → s ≡ empty → w ∈ s → ⊥
no_preds s w e h = grind (arith, membership)

stuck_no_input : (g : PebbleGame) → IsDag g.dag → (v : ℕ) → IsStuck g v → v ∉ g.dag.inputs
stuck_no_input g dag v (wide source few) = source
stuck_no_input g dag v (above w h rest) = not_member _ (λ is. no_preds (g.dag.preds v) w (dag.inputs_have_no_preds v is) h)

start_clear : (g : PebbleGame) → IsDag g.dag → IsClear g (start g)
start_clear g dag = record { red = λ v h. grind (arith, membership); blue = λ v h. stuck_no_input g dag v h }

not_below_itself : (g : PebbleGame) → IsDag g.dag → (v : ℕ) → v ∉ g.dag.preds v
not_below_itself g dag v = not_member _ (λ h. let below = dag.preds_below v v h in omega arith)

insert_within : (s t : Vertices) (v : ℕ) → IsWithin s t → IsWithin (insert s v) (insert t v)
insert_within s t v h w i = let inside = h w in grind (arith, membership)

stuck_not_computed : (g : PebbleGame) → IsDag g.dag → (p : Position) → IsClear g p → (v : ℕ) → IsStuck g v → IsMove g p (Compute v) → ⊥
stuck_not_computed g dag p clear v (wide source few) move =
    let more = size_within _ _ (insert_within (g.dag.preds v) p.red v move.needs.preds_red) in
    let one = size_insert_new (g.dag.preds v) v (not_below_itself g dag v) in
    let fits = move.fits in
    omega arith
stuck_not_computed g dag p clear v (above w h rest) move =
    let red = move.needs.preds_red w h in let not_red = clear.red w rest in grind arith

clear_insert : (s : Vertices) (v w : ℕ) → w ∉ s → (w ≡ v → ⊥) → w ∉ insert s v
clear_insert s v w h ne = grind (arith, membership)

clear_remove : (s : Vertices) (v w : ℕ) → w ∉ s → w ∉ remove s v
clear_remove s v w h = grind (arith, membership)

apart : (s : Vertices) (v w : ℕ) → v ∈ s → w ∉ s → w ≡ v → ⊥
apart s v w h k e = grind arith

clear_moved : (g : PebbleGame) → IsDag g.dag → (p : Position) → IsClear g p → (m : Move) → IsMove g p m → IsClear g (moved p m)
clear_moved g dag p clear (Load v) move = record {
  red = λ w h. clear_insert p.red v w (clear.red w h) (apart p.blue v w move.needs (clear.blue w h));
  blue = clear.blue;
}
clear_moved g dag p clear (Store v) move = record {
  red = clear.red;
  blue = λ w h. clear_insert p.blue v w (clear.blue w h) (apart p.red v w move.needs (clear.red w h));
}
clear_moved g dag p clear (Compute v) move = record {
  red = λ w h. clear_insert p.red v w (clear.red w h) (λ e. stuck_not_computed g dag p clear v (subst (IsStuck g) e h) move);
  blue = clear.blue;
}
clear_moved g dag p clear (DropRed v) move = record { red = λ w h. clear_remove p.red v w (clear.red w h); blue = clear.blue }
clear_moved g dag p clear (DropBlue v) move = record { red = clear.red; blue = λ w h. clear_remove p.blue v w (clear.blue w h) }

clear_after : (g : PebbleGame) → IsDag g.dag → (p : Position) → IsClear g p → (ms : List Move) → IsPebbling g p ms → IsClear g (position_after p ms)
clear_after g dag p clear [] h = clear
clear_after g dag p clear (m ∷ ms) h = clear_after g dag (moved p m) (clear_moved g dag p clear m h.0) ms h.1

abbrev StuckOutput : PebbleGame → Type 0
StuckOutput g = (v : ℕ) × (v ∈ g.dag.outputs) × IsStuck g v

stuck_output : (g : PebbleGame) (k v : ℕ) → leads_to_output g.dag k v ≡ true → IsStuck g v → StuckOutput g
stuck_output g zero v leads stuck = (v, leads, stuck)
stuck_output g (suc k) v leads stuck =
    elim (leads_cases g.dag k v leads) [
      | inl out ↦ (v, out, stuck)
      | inr on ↦ stuck_output g k on.0 on.3 (above v on.2 stuck)
    ]

some_preds : (g : PebbleGame) → IsDag g.dag → (v : ℕ) → 0 < size (g.dag.preds v) → v ∉ g.dag.inputs
some_preds g dag v h = not_member _ (λ is. let none = ap size (dag.inputs_have_no_preds v is) in let zero = size_empty in grind arith)

too_few : (g : PebbleGame) → IsDag g.dag → 0 < g.slots → g.slots ≤ degree g.dag → (ms : List Move) → IsComplete g (start g) ms → ⊥
too_few g dag some few ms complete =
    let widest = degree_some g.dag (omega arith) in
    let stuck : IsStuck g widest.0 = wide (some_preds g dag widest.0 (omega arith)) (omega arith) in
    let out : StuckOutput g = stuck_output g g.dag.count widest.0 widest.1 stuck in
    let clear = clear_after g dag (start g) (start_clear g dag) ms complete.pebbling in
    let blue = complete.outputs_blue out.0 out.1 in
    let not_blue = clear.blue out.0 out.2 in
    grind arith

-- ---- enough slots

-- moves lead from p to a position of which P holds
record Reaches (g : PebbleGame) (p : Position) (P : Position → Type 0) : Type 0 where
  moves : List Move
  pebbling : IsPebbling g p moves
  holds : P (position_after p moves)

pub append_position : (p : Position) (ms ns : List Move) → position_after p (ms ++ ns) ≡ position_after (position_after p ms) ns
append_position = after_both moved position_after (λ p. refl) (λ p m ms. refl)

pub append_pebbling : (g : PebbleGame) (p : Position) (ms ns : List Move) → IsPebbling g p ms → IsPebbling g (position_after p ms) ns → IsPebbling g p (ms ++ ns)
append_pebbling g = allowed_both moved position_after (λ p. refl) (λ p m ms. refl) (IsMove g) (IsPebbling g) (λ p m ms both. both) (λ p m ms first rest. (first, rest))

here : (g : PebbleGame) (p : Position) (P : Position → Type 0) → P p → Reaches g p P
here g p P h = record { moves = []; pebbling = tt; holds = h }

by_move : (g : PebbleGame) (p : Position) (P : Position → Type 0) (m : Move) → IsMove g p m → Reaches g (moved p m) P → Reaches g p P
by_move g p P m h rest = record { moves = m ∷ rest.moves; pebbling = (h, rest.pebbling); holds = rest.holds }

go_on : (g : PebbleGame) (p : Position) (P Q : Position → Type 0) → Reaches g p P → ((q : Position) → P q → Reaches g q Q) → Reaches g p Q
go_on g p P Q first then =
    let second = then (position_after p first.moves) first.holds in
    record {
      moves = first.moves ++ second.moves;
      pebbling = append_pebbling g p first.moves second.moves first.pebbling second.pebbling;
      holds = subst Q (sym (append_position p first.moves second.moves)) second.holds;
    }

-- a position with these pebbles
record Has (red blue : Vertices) (p : Position) : Type 0 where
  red_is : p.red ≡ red
  blue_is : p.blue ≡ blue

load_all : (g : PebbleGame) (blue s : Vertices) → IsWithin s blue → size s ≤ g.slots → (p : Position) → Has empty blue p → Reaches g p (Has s blue)
load_all g blue = by_insert (λ s. IsWithin s blue → size s ≤ g.slots → (p : Position) → Has empty blue p → Reaches g p (Has s blue))
    (λ _ _ p h. here g p _ h)
    (λ s k new before within few p h.
    go_on g p (Has s blue) (Has (insert s k) blue)
    (before (λ w i. within w (in_insert s k w i)) (let more = size_insert_new s k new in omega arith) p h)
    (λ q is. by_move g q _ (Load k)
    (record {
      needs = subst (λ b. k ∈ b) (sym is.blue_is) (within k (in_insert_same s k));
      fits = subst (λ r. size (insert r k) ≤ g.slots) (sym is.red_is) few;
    })
    (here g _ _ (record { red_is = ap (λ r. insert r k) is.red_is; blue_is = is.blue_is }))))

remove_last : (s : Vertices) (k : ℕ) → k ∉ s → remove (insert s k) k ≡ s
remove_last s k new = same _ _ (λ q. grind (arith, membership))

drop_all : (g : PebbleGame) (blue s : Vertices) → size s ≤ g.slots → (p : Position) → Has s blue p → Reaches g p (Has empty blue)
drop_all g blue = by_insert (λ s. size s ≤ g.slots → (p : Position) → Has s blue p → Reaches g p (Has empty blue))
    (λ _ p h. here g p _ h)
    (λ s k new before few p h.
    let less = size_insert_new s k new in
    let left = ap (λ r. remove r k) h.red_is ∙ remove_last s k new in
    by_move g p _ (DropRed k)
    (record {
      needs = subst (λ r. k ∈ r) (sym h.red_is) (in_insert_same s k);
      fits = subst (λ r. size r ≤ g.slots) (sym left) (omega arith);
    })
    (before (omega arith) _ (record { red_is = left; blue_is = h.blue_is })))

-- no vertex is red, and each input and each live vertex below k is blue
record IsReady (g : PebbleGame) (k : ℕ) (p : Position) : Type 0 where
  none_red : p.red ≡ empty
  inputs_blue : IsWithin g.dag.inputs p.blue
  live_blue : (v : ℕ) → is_live g.dag v ≡ true → v < k → v ∈ p.blue

last_or_before : (v k : ℕ) → v < suc k → (v ≡ k) ⊎ (v < k)
last_or_before v k l = grind arith

ready_more : (g : PebbleGame) (k : ℕ) (p : Position) → IsReady g k p → (is_live g.dag k ≡ true → k ∈ p.blue) → IsReady g (suc k) p
ready_more g k p ready last = record {
  none_red = ready.none_red;
  inputs_blue = ready.inputs_blue;
  live_blue = λ v live l. elim (last_or_before v k l) [
    | inl e ↦ subst (λ w. w ∈ p.blue) (sym e) (last (subst (λ w. is_live g.dag w ≡ true) e live))
    | inr l ↦ ready.live_blue v live l
  ];
}

stored : (g : PebbleGame) (k : ℕ) (p q : Position) → IsReady g k p → Has empty (insert p.blue k) q → IsReady g (suc k) q
stored g k p q ready is = ready_more g k q
    (record {
      none_red = is.red_is;
      inputs_blue = λ v h. let old = ready.inputs_blue v h in subst (λ b. v ∈ b) (sym is.blue_is) (in_insert p.blue k v old);
      live_blue = λ v live l. let old = ready.live_blue v live l in subst (λ b. v ∈ b) (sym is.blue_is) (in_insert p.blue k v old);
    })
    (λ _. subst (λ b. k ∈ b) (sym is.blue_is) (in_insert_same p.blue k))

compute_one : (g : PebbleGame) → IsDag g.dag → degree g.dag < g.slots → (k : ℕ) (p : Position) → IsReady g k p → is_live g.dag k ≡ true → k ∉ g.dag.inputs → Reaches g p (IsReady g (suc k))
compute_one g dag enough k p ready live no_input =
    let few = degree_bounds g.dag dag k live in
    let one = size_insert_le (g.dag.preds k) k in
    let held : IsWithin (g.dag.preds k) p.blue = λ w h. ready.live_blue w (live_before g.dag dag w k h live) (dag.preds_below k w h) in
    let fit : size (insert (g.dag.preds k) k) ≤ g.slots = omega arith in
    go_on g p (Has (g.dag.preds k) p.blue) (IsReady g (suc k))
    (load_all g p.blue (g.dag.preds k) held (omega arith) p (record { red_is = ready.none_red; blue_is = refl }))
    (λ q is. by_move g q _ (Compute k)
    (record {
      needs = record { vertex = live_vertex g.dag dag k live; no_input = no_input; preds_red = λ w h. subst (λ r. w ∈ r) (sym is.red_is) h };
      fits = subst (λ r. size (insert r k) ≤ g.slots) (sym is.red_is) fit;
    })
    (by_move g _ _ (Store k)
    (record { needs = in_insert_same q.red k; fits = subst (λ r. size (insert r k) ≤ g.slots) (sym is.red_is) fit })
    (go_on g _ (Has empty (insert p.blue k)) (IsReady g (suc k))
    (drop_all g (insert p.blue k) (insert (g.dag.preds k) k) fit _
    (record { red_is = ap (λ r. insert r k) is.red_is; blue_is = ap (λ b. insert b k) is.blue_is }))
    (λ r has. here g r _ (stored g k p r ready has)))))

pub true_or_false : (b : Bool) → (b ≡ true) ⊎ (b ≡ false)
true_or_false true = inl refl
true_or_false false = inr refl

dead : (b : Bool) (P : Type 0) → b ≡ false → b ≡ true → P
dead b P f t = absurd (grind arith)

one_more : (g : PebbleGame) → IsDag g.dag → degree g.dag < g.slots → (k : ℕ) (p : Position) → IsReady g k p → Reaches g p (IsReady g (suc k))
one_more g dag enough k p ready =
    elim (true_or_false (is_live g.dag k)) [
      | inr not ↦ here g p _ (ready_more g k p ready (dead _ _ not))
      | inl live ↦ elim (true_or_false (contains g.dag.inputs k)) [
        | inl input ↦ here g p _ (ready_more g k p ready (λ _. ready.inputs_blue k input))
        | inr no_input ↦ compute_one g dag enough k p ready live no_input
      ]
    ]

all_of : (g : PebbleGame) → IsDag g.dag → degree g.dag < g.slots → (k : ℕ) → Reaches g (start g) (IsReady g k)
all_of g dag enough zero = here g (start g) _ (record { none_red = refl; inputs_blue = λ v h. h; live_blue = λ v live l. absurd (omega arith) })
all_of g dag enough (suc k) = go_on g (start g) (IsReady g k) (IsReady g (suc k)) (all_of g dag enough k) (λ p ready. one_more g dag enough k p ready)

enough_slots : (g : PebbleGame) → IsDag g.dag → degree g.dag < g.slots → IsPossible g
enough_slots g dag enough =
    let all = all_of g dag enough g.dag.count in (
      all.moves,
      record {
        pebbling = all.pebbling;
        outputs_blue = λ v h. all.holds.live_blue v (live_output g.dag v h) (dag.outputs_are_vertices v h);
      },
    )

pub possible_above_degree : PossibleAboveDegree
possible_above_degree g dag some = (too_few g dag some, enough_slots g dag)
