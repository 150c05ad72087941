-- Which codes the faults of a walk have, and those of a graph where the walk has none.
use Rattle.std.proofs.Common.{if◌then◌else◌, ◌≡◌, ◌+◌, ◌++◌, ℕ, ℤ, pos, nat_le, nat_lt, Bool, true, false, List, [], ◌∷◌, map, length, drop, inl, inr, refl, sym, ◌∙◌, subst, Option, Some, None, Result, Ok, Err}
use Rattle.std.specs.Prelude.{⊤, int_le}
use Rattle.comp_graph.specs.declared.operation.Op.{Op}
use Rattle.comp_graph.specs.declared.operation.Op.TheVariants as op
use Rattle.comp_graph.specs.declared.node.Operand.{Operand}
use Rattle.comp_graph.specs.declared.node.Operand.TheVariants.{Vertex, Const}
use Rattle.comp_graph.specs.declared.node.Node.{Node}
use Rattle.comp_graph.specs.Graphs.{GraphParts}
use Rattle.kernel_ast.specs.declared.tree.Index.{Index}
use Rattle.kernel_ast.specs.declared.tree.Relation.{Relation}
use Rattle.kernel_ast.specs.declared.tree.Place.{Place}
use Rattle.kernel_ast.specs.declared.tree.Stmt.{Stmt, roll-Stmt}
use Rattle.kernel_ast.specs.declared.tree.Stmt.TheOpen.{Stmt-F, Assign, Loop, Branch}
use Rattle.kernel_ast.specs.declared.tree.Stmt.TheFolds.{ind-Stmt, map-Stmt}
use Rattle.kernel_ast.specs.declared.tree.DeclKind.TheVariants.{Input, Output}
use Rattle.kernel_ast.specs.declared.element.Fault.{Fault}
use Rattle.kernel_ast.specs.KernelParts.{KernelParts, Declared}
use Rattle.kernel_ast.specs.RunRules.{most_turns, most_vertices}
use Rattle.kernel_ast.specs.Steps.{and_then, in_turn, each}
use Rattle.kernel_ast.specs.Places.{big_index, bad_step, out_of_range, ok_or_fault, index_value, value_of_index, tested_step, step_of, loop_numbers, condition, indices_of, offset_of, sizes_of, located}
use Rattle.kernel_ast.specs.Weights.{assign_weight, loop_weight, branch_weight}
use Rattle.kernel_ast.specs.Walk.{Walk, walk, walk_all, walk_step, one_turn, count, all_at, look_at, places_of, too_many_turns}
use Rattle.kernel_ast.specs.Machine.{Elements, State, unset, output_unset, read_option, enter, held, no_elements}
use Rattle.kernel_ast.specs.Meaning.{too_many_vertices}
use Rattle.kernel_ast.proofs.Machines.{mapped}
use Rattle.kernel_ast.proofs.Trees.{walk_is}
use Rattle.loop_unroll.specs.declared.progress.Progress.{Progress}
use Rattle.loop_unroll.specs.declared.flat.Item.{Item}
use Rattle.loop_unroll.specs.declared.flat.Item.TheVariants.{Number, Read, Apply}
use Rattle.loop_unroll.specs.declared.flat.Flat.{Flat}
use Rattle.loop_unroll.specs.Flats.{flats, progress, unrolled_all}
use Rattle.loop_unroll.specs.Plays.{below, play, play_flat}
use Rattle.loop_unroll.proofs.Walks.{all_walked}
use Rattle.three_address.specs.declared.element.Element.{Element}
use Rattle.three_address.specs.LabelledElements.{elements_of}
use Rattle.three_address.specs.Lowering.{are_constants, append_node, operate, settle, lowering, input_node}
use Rattle.three_address.specs.Lowered.{Entering, entered, Leaving, left, lowered}
use Rattle.three_address.specs.Laws.{IsWalkFault, WalkFaultsHaveTheirCodes, IsValueFault, ValueFaultsHaveTheirCodes}
use Rattle.three_address.proofs.GraphLowered.{lowered_graph}

-- ---- a fault, if there is one, is one of these

abbrev FaultIs : {A : Type 0} → (Fault → Type 0) → Result A Fault → Type 0
FaultIs P (Ok a) = ⊤
FaultIs P (Err f) = P f

then_is : {A B : Type 0} (P : Fault → Type 0) (o : Result A Fault) (f : A → Result B Fault) → FaultIs P o → ((a : A) → FaultIs P (f a)) → FaultIs P (and_then o f)
then_is P (Ok a) f h k = k a
then_is P (Err x) f h k = h

one_is : {A : Type 0} (P : Fault → Type 0) (b : Bool) (x y : Result A Fault) → FaultIs P x → FaultIs P y → FaultIs P (if b then x else y)
one_is P true x y h k = h
one_is P false x y h k = k

option_is : {A : Type 0} (P : Fault → Type 0) (f : Fault) (o : Option A) → P f → FaultIs P (ok_or_fault f o)
option_is P f None h = h
option_is P f (Some a) h = tt

each_is : {A S : Type 0} (P : Fault → Type 0) (f : A → S → Result S Fault) → ((a : A) (s : S) → FaultIs P (f a s)) → (xs : List A) (s : S) → FaultIs P (each f xs s)
each_is P f h [] s = tt
each_is P f h (x ∷ xs) s = then_is P (f x s) (each f xs) (h x s) (each_is P f h xs)

-- ---- the walk

abbrev W : Fault → Type 0
W = IsWalkFault

count_is : (at more turns : ℕ) → FaultIs W (count at more turns)
count_is at more turns = one_is W (nat_le (turns + more) most_turns) (Ok (turns + more)) (Err (too_many_turns at)) tt (inr (inl refl))

index_is : (indices : List ℤ) (i : Index) → FaultIs W (value_of_index indices i)
index_is indices i = option_is W (big_index i.at) (index_value indices i.tree) (inr (inr (inl refl)))

step_is : (indices : List ℤ) (by : Option Index) → FaultIs W (step_of indices by)
step_is indices None = tt
step_is indices (Some by) =
    then_is W (value_of_index indices by) (tested_step by.at) (index_is indices by) (λ n. one_is W (int_le (pos 1) n) (Ok n) (Err (bad_step by.at)) tt (inr (inr (inr refl))))

numbers_is : (indices : List ℤ) (from to : Index) (by : Option Index) → FaultIs W (loop_numbers indices from to by)
unfolding loop_numbers
numbers_is indices from to by =
    then_is W (value_of_index indices from) _ (index_is indices from) (λ a.
    then_is W (value_of_index indices to) _ (index_is indices to) (λ b.
    then_is W (step_of indices by) _ (step_is indices by) (λ step. tt)))

condition_is : (indices : List ℤ) (left : Index) (rel : Relation) (right : Index) → FaultIs W (condition indices left rel right)
unfolding condition
condition_is indices left rel right =
    then_is W (value_of_index indices left) _ (index_is indices left) (λ a. then_is W (value_of_index indices right) _ (index_is indices right) (λ b. tt))

indices_is : (indices : List ℤ) (written : List Index) → FaultIs W (indices_of indices written)
indices_is indices [] = tt
indices_is indices (i ∷ []) = then_is W (value_of_index indices i) _ (index_is indices i) (λ m. tt)
indices_is indices (i ∷ j ∷ more) =
    then_is W (value_of_index indices i) _ (index_is indices i) (λ m. then_is W (value_of_index indices j) _ (index_is indices j) (λ n. tt))

located_is : (decls : List Declared) (indices : List ℤ) (p : Place) → FaultIs W (located decls indices p)
located_is decls indices p =
    then_is W (indices_of indices p.indices) _ (indices_is indices p.indices) (λ found.
    then_is W (ok_or_fault (out_of_range p.at) (offset_of (sizes_of decls p.decl) found)) _ (option_is W (out_of_range p.at) (offset_of (sizes_of decls p.decl) found) (inl refl)) (λ offset. tt))

look_is : (decls : List Declared) (indices : List ℤ) (p : Place) (turns : ℕ) → FaultIs W (look_at decls indices p turns)
look_is decls indices p turns = then_is W (located decls indices p) _ (located_is decls indices p) (λ c. tt)

module _ (decls : List Declared) where
  abbrev StmtIs : Stmt → Type 0
  StmtIs s = (indices : List ℤ) (turns : ℕ) → FaultIs W (walk decls s indices turns)

  body_is : (body : List ((s : Stmt) × StmtIs s)) (indices : List ℤ) (turns : ℕ) → FaultIs W (in_turn (all_at (map (walk decls) (map (λ e. e.0) body)) indices) turns)
  body_is [] indices turns = tt
  body_is (e ∷ body) indices turns = then_is W (walk decls e.0 indices turns) _ (e.1 indices turns) (body_is body indices)

  branch_is : (holds : Bool) (taken other : List ((s : Stmt) × StmtIs s)) (indices : List ℤ) (turns : ℕ)
      → FaultIs W (in_turn (all_at (if holds then map (walk decls) (map (λ e. e.0) taken) else map (walk decls) (map (λ e. e.0) other)) indices) turns)
  branch_is true taken other indices turns = body_is taken indices turns
  branch_is false taken other indices turns = body_is other indices turns

  turn_is : (body : List ((s : Stmt) × StmtIs s)) (at : ℕ) (indices : List ℤ) (i : ℤ) (turns : ℕ) → FaultIs W (one_turn (map (walk decls) (map (λ e. e.0) body)) at indices i turns)
  unfolding one_turn
  turn_is body at indices i turns = then_is W (count at 1 turns) _ (count_is at 1 turns) (body_is body (indices ++ i ∷ []))

  stmt_opened : (x : Stmt-F Stmt) → ((indices : List ℤ) (turns : ℕ) → FaultIs W (walk_step decls (map-Stmt Stmt Walk (walk decls) x) indices turns)) → StmtIs (roll-Stmt x)
  stmt_opened x h indices turns = subst (λ (o : Result ℕ Fault). FaultIs W o) (sym (walk_is decls x indices turns)) (h indices turns)

  stmt_parts : (y : Stmt-F ((s : Stmt) × StmtIs s)) → StmtIs (roll-Stmt (map-Stmt ((s : Stmt) × StmtIs s) Stmt (λ e. e.0) y))
  stmt_parts (Assign target value at) =
      stmt_opened (Assign target value at) (λ indices turns.
      then_is W (count at (assign_weight target value) turns) _ (count_is at (assign_weight target value) turns) (each_is W (look_at decls indices) (look_is decls indices) (places_of value ++ target ∷ [])))
  stmt_parts (Loop from to by body at) =
      stmt_opened (Loop from to by (map (λ e. e.0) body) at) (λ indices turns.
      then_is W (count at (loop_weight from to by) turns) _ (count_is at (loop_weight from to by) turns) (λ counted.
      then_is W (loop_numbers indices from to by) _ (numbers_is indices from to by) (λ ns.
      each_is W (one_turn (map (walk decls) (map (λ e. e.0) body)) at indices) (turn_is body at indices) ns counted)))
  stmt_parts (Branch left rel right taken other at) =
      stmt_opened (Branch left rel right (map (λ e. e.0) taken) (map (λ e. e.0) other) at) (λ indices turns.
      then_is W (count at (branch_weight left right) turns) _ (count_is at (branch_weight left right) turns) (λ counted.
      then_is W (condition indices left rel right) _ (condition_is indices left rel right) (λ holds. branch_is holds taken other indices counted)))

  stmt_is : (s : Stmt) → StmtIs s
  stmt_is = ind-Stmt StmtIs (λ x y same. subst (λ z. StmtIs (roll-Stmt z)) same (stmt_parts y))

  all_is : (body : List Stmt) (turns : ℕ) → FaultIs W (in_turn (all_at (map (walk decls) body) []) turns)
  all_is [] turns = tt
  all_is (s ∷ body) turns = then_is W (walk decls s [] turns) _ (stmt_is s [] turns) (all_is body)

pub walk_faults : WalkFaultsHaveTheirCodes
walk_faults decls body f e = subst (λ (o : Result ℕ Fault). FaultIs W o) e (all_is decls body 0)

-- ---- the values

abbrev V : Fault → Type 0
V = IsValueFault

append_is : (at : ℕ) (o : Op) (args : List Operand) (nodes : List Node) → FaultIs V (append_node at o args nodes)
append_is at o args nodes = one_is V (nat_lt (length nodes) most_vertices) (Ok _) (Err (too_many_vertices at)) tt (inr (inr refl))

operate_is : (o : Op) (at : ℕ) (args : List Operand) (nodes : List Node) → FaultIs V (operate o at args nodes)
operate_is o at args nodes = one_is V (are_constants args) (Ok _) (append_node at o args nodes) tt (append_is at o args nodes)

settle_is : (at : ℕ) (o : Operand) (nodes : List Node) → FaultIs V (settle at o nodes)
settle_is at (Vertex v) nodes = tt
settle_is at (Const n) nodes = append_is at op.Set (Const n ∷ []) nodes

read_is : (at : ℕ) (o : Option Operand) (nodes : List Node) → FaultIs V (read_option (unset at) o nodes)
read_is at None nodes = inl refl
read_is at (Some v) nodes = tt

held_is : (at : ℕ) (o : Option Operand) → FaultIs V (held (output_unset at) o)
held_is at None = inr (inl refl)
held_is at (Some v) = tt

play_is : (elements : Elements Operand) (i : Item) (r : List Operand × List Node) → FaultIs V (play lowering elements i r)
play_is elements (Number n) r = tt
play_is elements (Read c at) r = then_is V (read_option (unset at) (elements c) r.1) _ (read_is at (elements c) r.1) (λ v. tt)
play_is elements (Apply o at) r = then_is V (operate o at (drop (below o r.0) r.0) r.1) _ (operate_is o at (drop (below o r.0) r.0) r.1) (λ v. tt)

flat_is : (f : Flat) (s : State Operand (List Node)) → FaultIs V (play_flat lowering f s)
unfolding play_flat
flat_is f s = then_is V (each (play lowering s.0) f.items ([], s.1)) _ (each_is V (play lowering s.0) (play_is s.0) f.items ([], s.1)) (λ r. tt)

entered_is : (e : Element) (s : Entering) → FaultIs V (entered e s)
unfolding entered
entered_is e s =
    then_is V (enter input_node (e.at, e.cell) s.0) _ (then_is V (input_node e.at s.0.1) _ (append_is e.at op.Input [] s.0.1) (λ v. tt)) (λ next. tt)

left_is : (elements : Elements Operand) (e : Element) (r : Leaving) → FaultIs V (left elements e r)
unfolding left
left_is elements e r =
    then_is V (held (output_unset e.at) (elements e.cell)) _ (held_is e.at (elements e.cell)) (λ v. then_is V (settle e.at v r.1) _ (settle_is e.at v r.1) (λ w. tt))

lowered_is : (k : KernelParts) (fs : List Flat) → FaultIs V (lowered k fs)
unfolding lowered
lowered_is k fs =
    then_is V (each entered (elements_of Input 0 k.decls) ((no_elements, []), [])) _ (each_is V entered entered_is (elements_of Input 0 k.decls) ((no_elements, []), [])) (λ start.
    then_is V (each (play_flat lowering) fs start.0) _ (each_is V (play_flat lowering) flat_is fs start.0) (λ end.
    then_is V (each (left end.0) (elements_of Output 0 k.decls) ([], end.1)) _ (each_is V (left end.0) (left_is end.0) (elements_of Output 0 k.decls) ([], end.1)) (λ r. tt)))

-- where the walk has no fault, there are executed assignments
flats_there : (decls : List Declared) (body : List Stmt) (turns : ℕ) → walk_all decls body ≡ Ok turns → (fs : List Flat) × (flats decls body ≡ Ok fs)
flats_there decls body turns walked = known (unrolled_all decls body [] (progress 0 [])) (all_walked decls body (progress 0 []) ∙ walked)
  where
    known : (o : Result Progress Fault) → mapped (λ p. p.counted) o ≡ Ok turns → (fs : List Flat) × (and_then o (λ p. Ok p.flats) ≡ Ok fs)
    known (Ok p) e = (p.flats, refl)
    known (Err f) e = absurd (cc)

pub value_faults : ValueFaultsHaveTheirCodes
value_faults k turns f well walked e =
    let there : (fs : List Flat) × (flats k.decls k.body ≡ Ok fs) = flats_there k.decls k.body turns walked in
    subst (λ (o : Result GraphParts Fault). FaultIs V o) (lowered_graph k there.0 well there.1 ∙ e) (lowered_is k there.0)
