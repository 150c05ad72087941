-- No complete pebbling costs less than the forced loads and stores.
use Rattle.std.proofs.Common.{◌≡◌, ℕ, ◌+◌, ◌*◌, ◌≤◌, ◌&&◌, true, List, [], ◌∷◌, ◌⊎◌, inl, inr, sym, ap, ◌∙◌, subst, arith, mul-le-mul_left}
use Rattle.std.specs.FinSet.{empty, contains, insert, remove, contains-retain, nat_cmp-IsAntisymmetric}
use Rattle.comp_graph.specs.Vertices.{Vertices, ◌∈◌, ◌∉◌, IsWithin, size, any_below}
use Rattle.comp_graph.specs.Dags.{IsDag, IsPath, here, edge, is_live}
use Rattle.comp_graph.specs.Games.{PebbleGame}
use Rattle.pebble_rules.specs.declared.position.Position.{Position}
use Rattle.pebble_rules.specs.Rules.{start, IsMove, moved, move_cost, cost, IsPebbling, position_after}
use Rattle.pebble_rules.specs.FirstBound.{forced_loads, forced_stores, FirstBoundHolds}
use Rattle.pebble_rules.specs.declared.moves.Move.{Move}
use Rattle.pebble_rules.specs.declared.moves.Move.TheVariants.{Load, Store, Compute, DropRed, DropBlue}
use Rattle.comp_graph.specs.Sets.{membership}
use Rattle.comp_graph.proofs.Sets.{in_insert, in_insert_same, insert_cases, size_insert_le, size_within, size_empty, difference_first, difference_second}
use Rattle.comp_graph.proofs.DagLaws.{any_below_some, both, live_by_paths}
use Rattle.pebble_rules.proofs.Possible.{not_member, no_preds}

-- what was loaded and stored so far
abbrev loaded : Vertices → Move → Vertices
loaded l (Load v) = insert l v
loaded l (Store v) = l
loaded l (Compute v) = l
loaded l (DropRed v) = l
loaded l (DropBlue v) = l

abbrev stored : Vertices → Move → Vertices
stored s (Load v) = s
stored s (Store v) = insert s v
stored s (Compute v) = s
stored s (DropRed v) = s
stored s (DropBlue v) = s

abbrev all_loaded : Vertices → List Move → Vertices
all_loaded l [] = l
all_loaded l (m ∷ ms) = all_loaded (loaded l m) ms

abbrev all_stored : Vertices → List Move → Vertices
all_stored s [] = s
all_stored s (m ∷ ms) = all_stored (stored s m) ms

insert_costs : (s : Vertices) (k w : ℕ) → w * size (insert s k) ≤ w * size s + w
insert_costs s k w = let e = mul-le-mul_left w (size_insert_le s k) in omega arith

move_costs : (g : PebbleGame) (l s : Vertices) (m : Move) → g.store * size (stored s m) + g.load * size (loaded l m) ≤ g.store * size s + g.load * size l + move_cost g m
move_costs g l s (Load v) = let e = insert_costs l v g.load in omega arith
move_costs g l s (Store v) = let e = insert_costs s v g.store in omega arith
move_costs g l s (Compute v) = omega arith
move_costs g l s (DropRed v) = omega arith
move_costs g l s (DropBlue v) = omega arith

all_cost : (g : PebbleGame) (l s : Vertices) (ms : List Move) → g.store * size (all_stored s ms) + g.load * size (all_loaded l ms) ≤ g.store * size s + g.load * size l + cost g ms
all_cost g l s [] = omega arith
all_cost g l s (m ∷ ms) = omega (arith, move_costs g l s m, all_cost g (loaded l m) (stored s m) ms)

-- u is v, or reaches it through predecessors
data Feeds (g : PebbleGame) (u : ℕ) : ℕ → Type 0 where
  itself : Feeds g u u
  through : {v : ℕ} (w : ℕ) → w ∈ g.dag.preds v → Feeds g u w → Feeds g u v

-- each input that reaches v was loaded
abbrev IsFed : PebbleGame → Vertices → ℕ → Type 0
IsFed g l v = (u : ℕ) → u ∈ g.dag.inputs → Feeds g u v → u ∈ l

record IsForced (g : PebbleGame) (p : Position) (l s : Vertices) : Type 0 where
  red : (v : ℕ) → v ∈ p.red → IsFed g l v
  blue : (v : ℕ) → v ∈ p.blue → (v ∈ g.dag.inputs) ⊎ (IsFed g l v × (v ∈ s))

fed_more : (g : PebbleGame) (l : Vertices) (k v : ℕ) → IsFed g l v → IsFed g (insert l k) v
fed_more g l k v fed u input feeds = in_insert l k u (fed u input feeds)

in_remove : (s : Vertices) (k q : ℕ) → q ∈ remove s k → q ∈ s
in_remove s k q h = grind (arith, membership)

fed_input : (g : PebbleGame) → IsDag g.dag → (l : Vertices) (v u : ℕ) → v ∈ g.dag.inputs → Feeds g u v → u ∈ insert l v
fed_input g dag l v u input itself = in_insert_same l v
fed_input g dag l v u input (through w pred rest) = absurd (no_preds (g.dag.preds v) w (dag.inputs_have_no_preds v input) pred)

fed_computed : (g : PebbleGame) (p : Position) (l s : Vertices) → IsForced g p l s → (v : ℕ) → v ∉ g.dag.inputs → IsWithin (g.dag.preds v) p.red → (u : ℕ) → u ∈ g.dag.inputs → Feeds g u v → u ∈ l
fed_computed g p l s f v no_input preds u input itself = absurd (grind arith)
fed_computed g p l s f v no_input preds u input (through w pred rest) = f.red w (preds w pred) u input rest

blue_more : (g : PebbleGame) (l s : Vertices) (k v : ℕ) → (v ∈ g.dag.inputs) ⊎ (IsFed g l v × (v ∈ s)) → (v ∈ g.dag.inputs) ⊎ (IsFed g (insert l k) v × (v ∈ s))
blue_more g l s k v (inl input) = inl input
blue_more g l s k v (inr fed) = inr (fed_more g l k v fed.0, fed.1)

stored_more : (g : PebbleGame) (l s : Vertices) (k v : ℕ) → (v ∈ g.dag.inputs) ⊎ (IsFed g l v × (v ∈ s)) → (v ∈ g.dag.inputs) ⊎ (IsFed g l v × (v ∈ insert s k))
stored_more g l s k v (inl input) = inl input
stored_more g l s k v (inr fed) = inr (fed.0, in_insert s k v fed.1)

load_fed : (g : PebbleGame) → IsDag g.dag → (l s : Vertices) (v : ℕ) → (v ∈ g.dag.inputs) ⊎ (IsFed g l v × (v ∈ s)) → IsFed g (insert l v) v
load_fed g dag l s v (inl input) = λ u _ feeds. fed_input g dag l v u input feeds
load_fed g dag l s v (inr fed) = fed_more g l v v fed.0

forced_moved : (g : PebbleGame) → IsDag g.dag → (p : Position) (l s : Vertices) → IsForced g p l s → (m : Move) → IsMove g p m → IsForced g (moved p m) (loaded l m) (stored s m)
forced_moved g dag p l s f (Load v) move = record {
  red = λ w h. elim (insert_cases p.red v w h) [
    | inl e ↦ subst (IsFed g (insert l v)) (sym e) (load_fed g dag l s v (f.blue v move.needs))
    | inr old ↦ fed_more g l v w (f.red w old)
  ];
  blue = λ w h. blue_more g l s v w (f.blue w h);
}
forced_moved g dag p l s f (Store v) move = record {
  red = f.red;
  blue = λ w h. elim (insert_cases p.blue v w h) [
    | inl e ↦ subst (λ w. (w ∈ g.dag.inputs) ⊎ (IsFed g l w × (w ∈ insert s v))) (sym e) (inr (f.red v move.needs, in_insert_same s v))
    | inr old ↦ stored_more g l s v w (f.blue w old)
  ];
}
forced_moved g dag p l s f (Compute v) move = record {
  red = λ w h. elim (insert_cases p.red v w h) [
    | inl e ↦ subst (IsFed g l) (sym e) (fed_computed g p l s f v move.needs.no_input move.needs.preds_red)
    | inr old ↦ f.red w old
  ];
  blue = f.blue;
}
forced_moved g dag p l s f (DropRed v) move = record { red = λ w h. f.red w (in_remove p.red v w h); blue = f.blue }
forced_moved g dag p l s f (DropBlue v) move = record { red = f.red; blue = λ w h. f.blue w (in_remove p.blue v w h) }

forced_after : (g : PebbleGame) → IsDag g.dag → (p : Position) (l s : Vertices) → IsForced g p l s → (ms : List Move) → IsPebbling g p ms → IsForced g (position_after p ms) (all_loaded l ms) (all_stored s ms)
forced_after g dag p l s f [] h = f
forced_after g dag p l s f (m ∷ ms) h = forced_after g dag (moved p m) (loaded l m) (stored s m) (forced_moved g dag p l s f m h.0) ms h.1

start_forced : (g : PebbleGame) → IsForced g (start g) empty empty
start_forced g = record { red = λ v h. absurd (grind (arith, membership)); blue = λ v h. inl h }

-- ---- at the end

feeds_along : (g : PebbleGame) (u v o : ℕ) → Feeds g u v → IsPath g.dag v o → Feeds g u o
feeds_along g u v o feeds here = feeds
feeds_along g u v o feeds (edge w below pred rest) = feeds_along g u w o (through v pred feeds) rest

pub has_pred : (g : PebbleGame) → IsDag g.dag → (v w : ℕ) → w ∈ g.dag.preds v → v ∉ g.dag.inputs
has_pred g dag v w pred = not_member _ (λ input. no_preds (g.dag.preds v) w (dag.inputs_have_no_preds v input) pred)

pub path_to_no_input : (g : PebbleGame) → IsDag g.dag → (v o : ℕ) → v ∉ g.dag.inputs → IsPath g.dag v o → o ∉ g.dag.inputs
path_to_no_input g dag v o source here = source
path_to_no_input g dag v o source (edge w below pred rest) = path_to_no_input g dag w o (has_pred g dag w v pred) rest

pub forced_members : (g : PebbleGame) (u : ℕ) → u ∈ forced_loads g → (u ∈ g.dag.inputs) × (any_below g.dag.count (λ w. contains (g.dag.preds w) u && is_live g.dag w) ≡ true)
forced_members g u h =
    both _ _ (sym (contains-retain g.dag.inputs (λ u. any_below g.dag.count (λ w. contains (g.dag.preds w) u && is_live g.dag w)) u
    (λ x tie. ap (λ u. any_below g.dag.count (λ w. contains (g.dag.preds w) u && is_live g.dag w)) (sym (nat_cmp-IsAntisymmetric u x tie)))) ∙ h)

no_blue_input : (g : PebbleGame) (o : ℕ) (P : Type 0) → o ∉ g.dag.inputs → (o ∈ g.dag.inputs) ⊎ P → P
no_blue_input g o P not (inl input) = absurd (grind arith)
no_blue_input g o P not (inr h) = h

loads_forced : (g : PebbleGame) → IsDag g.dag → (p : Position) (l s : Vertices) → IsForced g p l s → IsWithin g.dag.outputs p.blue → IsWithin (forced_loads g) l
loads_forced g dag p l s f done u h =
    let is = forced_members g u h in
    let reader = any_below_some g.dag.count (λ w. contains (g.dag.preds w) u && is_live g.dag w) is.1 in
    let reads = both (contains (g.dag.preds reader.0) u) (is_live g.dag reader.0) reader.2 in
    let out = (live_by_paths g.dag dag reader.0).0 reads.1 in
    let not = path_to_no_input g dag reader.0 out.output (has_pred g dag reader.0 u reads.0) out.path in
    (no_blue_input g out.output _ not (f.blue out.output (done out.output out.is_output))).0 u is.0
    (feeds_along g u reader.0 out.output (through u reads.0 itself) out.path)

stores_forced : (g : PebbleGame) (p : Position) (l s : Vertices) → IsForced g p l s → IsWithin g.dag.outputs p.blue → IsWithin (forced_stores g) s
stores_forced g p l s f done v h =
    (no_blue_input g v _ (difference_second g.dag.outputs g.dag.inputs v h) (f.blue v (done v (difference_first g.dag.outputs g.dag.inputs v h)))).1

pub first_bound_holds : FirstBoundHolds
first_bound_holds g dag ms complete =
    let forced = forced_after g dag (start g) empty empty (start_forced g) ms complete.pebbling in
    let costs = all_cost g empty empty ms in
    let stores = mul-le-mul_left g.store (size_within _ _ (stores_forced g _ _ _ forced complete.outputs_blue)) in
    let loads = mul-le-mul_left g.load (size_within _ _ (loads_forced g dag _ _ _ forced complete.outputs_blue)) in
    let no_stores = ap (λ n. g.store * n) size_empty in
    let no_loads = ap (λ n. g.load * n) size_empty in
    omega arith
