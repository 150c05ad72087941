-- The run of a trial kernel: the walk counts few turns, each element is set before it is read, and each statement is a vertex.
use Rattle.std.proofs.Common.{◌≡◌, ℕ, zero, suc, ◌+◌, ◌*◌, ◌≤◌, ◌<◌, Bool, true, false, cond, eqb, ltb, List, [], ◌∷◌, ◌++◌, length, map, sum, Option, Some, None, Result, Ok, Err, refl, sym, ap, ◌∙◌, subst, ⊎_elim, arith, le-leb, lt-ltb, eq-eqb, ltb-true, ltb-false, length-append}
use Rattle.std.specs.Prelude.{◌&&◌}
use Rattle.std.proofs.lemmas.List.{length-map}
use Rattle.comp_graph.specs.declared.operation.Op.{Op}
use Rattle.comp_graph.specs.declared.node.Operand.{Operand}
use Rattle.comp_graph.specs.declared.node.Operand.TheVariants.{Vertex, Const}
use Rattle.comp_graph.specs.Graphs.{GraphParts}
use Rattle.comp_graph.specs.Operations.{value_at}
use Rattle.kernel_ast.specs.declared.tree.DeclKind.TheVariants as role
use Rattle.kernel_ast.specs.declared.tree.Place.{Place}
use Rattle.kernel_ast.specs.declared.tree.Expr.{Expr, fold-Expr}
use Rattle.kernel_ast.specs.declared.tree.Expr.TheOpen as open_expr
use Rattle.kernel_ast.specs.declared.tree.Expr.TheOpen.{Expr-F, Link-F}
use Rattle.kernel_ast.specs.declared.tree.Expr.TheVariants as expr
use Rattle.kernel_ast.specs.declared.tree.Expr.TheFolds.{fold-Link, fold-roll-Expr, fold-roll-Link}
use Rattle.kernel_ast.specs.declared.tree.Link.{roll-Link}
use Rattle.kernel_ast.specs.declared.tree.Stmt.{Stmt}
use Rattle.kernel_ast.specs.declared.tree.Stmt.TheOpen.{Assign}
use Rattle.kernel_ast.specs.declared.tree.Stmt.TheVariants as stmt
use Rattle.kernel_ast.specs.declared.element.Cell.{Cell}
use Rattle.kernel_ast.specs.declared.element.Fault.{Fault}
use Rattle.kernel_ast.specs.KernelParts.{KernelParts}
use Rattle.kernel_ast.specs.Steps.{and_then, each, in_turn}
use Rattle.kernel_ast.specs.Places.{cell, located}
use Rattle.kernel_ast.specs.Weights as weights
use Rattle.kernel_ast.specs.Walk.{all_at, count, link_places, look_at, places_of, places_step, too_many_turns, walk}
use Rattle.kernel_ast.specs.Machine.{Elements, Run, State, assign, cells_of, cells_of_decl, chain, enter, evaluate, execute, execute_all, expr_step, held, is_cell, leave, link_step, no_elements, output_unset, put, read, read_option, run_all, unset}
use Rattle.kernel_ast.specs.Meaning.{Entry, Held, append_entry, constants, entry, fold_or_append, kernel_meaning, numbered, numbered_input, set_output, too_many_vertices, with_number}
use Rattle.kernel_ast.specs.KernelGraph.{graph_by, graph_of, node_of}
use Rattle.kernel_ast.proofs.Trees.{execute_is, walk_is}
use Rattle.kernel_lexer.proofs.Cuts.{two_ways}
use Rattle.kernel_lexer.proofs.Words.{both_true}
use Rattle.kernel_gen.proofs.Pool.{IsPlace, pool_cell, trial_decls}

-- ---- statements

-- two places with an operator between them
abbrev pub binary : Op → ℕ → Place → Place → Expr
binary op at p q = expr.Chain (expr.Cell p) (roll-Link (record { op = op; value = expr.Cell q; at = at }) ∷ [])

module _ (A B : Type 0) (f : Expr-F A B → A) (g : Link-F A B → B) where
  fold_cell : (p : Place) → fold-Expr A B f g (expr.Cell p) ≡ f (open_expr.Cell p)
  fold_cell p = ap (fold-Expr A B f g) (sym (expr.rolls-Cell p)) ∙ fold-roll-Expr A B f g (open_expr.Cell p)

  fold_binary : (op : Op) (at : ℕ) (p q : Place) → fold-Expr A B f g (binary op at p q) ≡ f (open_expr.Chain (f (open_expr.Cell p)) (g (record { op = op; value = f (open_expr.Cell q); at = at }) ∷ []))
  fold_binary op at p q =
      let l = roll-Link (record { op = op; value = expr.Cell q; at = at }) in
      let link : fold-Link A B f g l ≡ g (record { op = op; value = f (open_expr.Cell q); at = at }) = fold-roll-Link A B f g (record { op = op; value = expr.Cell q; at = at }) ∙ ap (λ v. g (record { op = op; value = v; at = at })) (fold_cell q) in
      ap (fold-Expr A B f g) (sym (expr.rolls-Chain (expr.Cell p) (l ∷ []))) ∙ fold-roll-Expr A B f g (open_expr.Chain (expr.Cell p) (l ∷ []))
      ∙ ap (λ z. f (open_expr.Chain z (fold-Link A B f g l ∷ []))) (fold_cell p) ∙ ap (λ z. f (open_expr.Chain (f (open_expr.Cell p)) (z ∷ []))) link

-- The statement sets a temporary from two elements of the pool before it.
pub record IsLine (s : Stmt) (i : ℕ) : Type 0 where
  pub target : Place
  pub left : Place
  pub right : Place
  pub op : Op
  pub sign_at : ℕ
  pub at : ℕ
  pub first : ℕ
  pub second : ℕ
  pub is : s ≡ stmt.Assign target (binary op sign_at left right) at
  pub target_is : IsPlace target (pool_cell (16 + i))
  pub left_is : IsPlace left (pool_cell first)
  pub right_is : IsPlace right (pool_cell second)
  pub first_before : first < 16 + i
  pub second_before : second < 16 + i

-- The statement sets the output from the last temporary.
pub record IsLast (s : Stmt) (n : ℕ) : Type 0 where
  pub target : Place
  pub value : Place
  pub at : ℕ
  pub is : s ≡ stmt.Assign target (expr.Cell value) at
  pub target_is : IsPlace target (cell 1 0)
  pub value_is : IsPlace value (pool_cell (15 + n))

-- so many of these statements from the i-th on, and then the last
abbrev pub AreLines : ℕ → ℕ → ℕ → List Stmt → Type 0
AreLines n i zero body = (s : Stmt) × (body ≡ s ∷ []) × IsLast s n
AreLines n i (suc more) body = (s : Stmt) × (rest : List Stmt) × (body ≡ s ∷ rest) × IsLine s i × AreLines n (i + 1) more rest

-- ---- the walk

looked : (p : Place) (c : Cell) (turns : ℕ) → IsPlace p c → look_at trial_decls [] p turns ≡ Ok turns
looked p c turns h = ap (λ r. and_then r (λ _. Ok turns)) h.found

look_next : (p : Place) (rest : List Place) (c : Cell) (turns : ℕ) → IsPlace p c → each (look_at trial_decls []) (p ∷ rest) turns ≡ each (look_at trial_decls []) rest turns
look_next p rest c turns h = ap (λ r. and_then r (each (look_at trial_decls []) rest)) (looked p c turns h)

counted : (at more turns : ℕ) → turns + more ≤ 65536 → count at more turns ≡ Ok (turns + more)
counted at more turns h = ap (λ b. cond b (Ok (turns + more)) (Err (too_many_turns at))) (le-leb (turns + more) 65536 h)

walk_assign : (p : Place) (e : Expr) (at turns : ℕ) → turns + weights.assign_weight p e ≤ 65536
    → walk trial_decls (stmt.Assign p e at) [] turns ≡ each (look_at trial_decls []) (places_of e ++ p ∷ []) (turns + weights.assign_weight p e)
walk_assign p e at turns h =
    ap (λ s. walk trial_decls s [] turns) (sym (stmt.rolls-Assign p e at)) ∙ walk_is trial_decls (Assign p e at) [] turns
    ∙ ap (λ r. and_then r (each (look_at trial_decls []) (places_of e ++ p ∷ []))) (counted at (weights.assign_weight p e) turns h)

-- a statement that is walked with at most 11 turns
abbrev pub Walked : Stmt → ℕ → Type 0
Walked s turns = (more : ℕ) × (more ≤ 11) × (walk trial_decls s [] turns ≡ Ok (turns + more))

line_walked : (s : Stmt) (i turns : ℕ) → turns + 11 ≤ 65536 → IsLine s i → Walked s turns
line_walked s i turns h l =
    let e = binary l.op l.sign_at l.left l.right in
    let w : weights.expr_weight e ≡ weights.place_weight l.left + sum ((1 + weights.place_weight l.right) ∷ []) = fold_binary ℕ ℕ weights.expr_weight_step weights.link_step l.op l.sign_at l.left l.right in
    let light : weights.assign_weight l.target e ≤ 11 = omega (arith, w, l.target_is.light, l.left_is.light, l.right_is.light) in
    let more = weights.assign_weight l.target e in
    let ps : places_of e ≡ l.left ∷ l.right ∷ [] = fold_binary (List Place) (List Place) places_step link_places l.op l.sign_at l.left l.right in (
      more,
      light,
      ap (λ s. walk trial_decls s [] turns) l.is ∙ walk_assign l.target e l.at turns (omega (arith, light))
          ∙ ap (λ z. each (look_at trial_decls []) (z ++ l.target ∷ []) (turns + more)) ps
          ∙ look_next l.left (l.right ∷ l.target ∷ []) (pool_cell l.first) (turns + more) l.left_is
          ∙ look_next l.right (l.target ∷ []) (pool_cell l.second) (turns + more) l.right_is
          ∙ look_next l.target [] (pool_cell (16 + i)) (turns + more) l.target_is,
    )

last_walked : (s : Stmt) (n turns : ℕ) → turns + 11 ≤ 65536 → IsLast s n → Walked s turns
last_walked s n turns h l =
    let e = expr.Cell l.value in
    let w : weights.expr_weight e ≡ weights.place_weight l.value = fold_cell ℕ ℕ weights.expr_weight_step weights.link_step l.value in
    let light : weights.assign_weight l.target e ≤ 11 = omega (arith, w, l.target_is.light, l.value_is.light) in
    let more = weights.assign_weight l.target e in
    let ps : places_of e ≡ l.value ∷ [] = fold_cell (List Place) (List Place) places_step link_places l.value in (
      more,
      light,
      ap (λ s. walk trial_decls s [] turns) l.is ∙ walk_assign l.target e l.at turns (omega (arith, light))
          ∙ ap (λ z. each (look_at trial_decls []) (z ++ l.target ∷ []) (turns + more)) ps
          ∙ look_next l.value (l.target ∷ []) (pool_cell (15 + n)) (turns + more) l.value_is
          ∙ look_next l.target [] (cell 1 0) (turns + more) l.target_is,
    )

-- the walk of statements from a number of turns on
abbrev pub WalkOf : List Stmt → ℕ → Type 0
WalkOf body turns = (end : ℕ) × (in_turn (all_at (map (walk trial_decls) body) []) turns ≡ Ok end)

one_walk : (s : Stmt) (rest : List Stmt) (turns : ℕ) (w : Walked s turns) → WalkOf rest (turns + w.0) → WalkOf (s ∷ rest) turns
one_walk s rest turns w r = (r.0, ap (λ z. and_then z (in_turn (all_at (map (walk trial_decls) rest) []))) w.2 ∙ r.1)

pub lines_walked : (n i more turns : ℕ) (body : List Stmt) → AreLines n i more body → turns + 11 * (more + 1) ≤ 65536 → WalkOf body turns
lines_walked n i zero turns body (s, e, l) h =
    subst (λ z. WalkOf z turns) (sym e) (one_walk s [] turns (last_walked s n turns (omega arith) l) (turns + (last_walked s n turns (omega arith) l).0, refl))
lines_walked n i (suc more) turns body (s, rest, e, l, ls) h =
    let w = line_walked s i turns (omega arith) l in
    let few : w.0 ≤ 11 = w.1 in
    subst (λ z. WalkOf z turns) (sym e) (one_walk s rest turns w (lines_walked n (i + 1) more (turns + w.0) rest ls (omega arith)))

-- ---- the values

-- an entry of the log
abbrev pub is_vertex : Operand → Bool
is_vertex (Vertex v) = true
is_vertex (Const n) = false

-- the element is set, and comes from an entry of the log
abbrev pub is_entry : Option Held → Bool
is_entry None = false
is_entry (Some h) = is_vertex h.origin

-- What an element holds that is an entry of the log.
record HoldsEntry (o : Option Held) : Type 0 where
  value : Held
  vertex : ℕ
  is : o ≡ Some value
  origin : value.origin ≡ Vertex vertex

entry_held : (o : Option Held) → is_entry o ≡ true → HoldsEntry o
entry_held None h = absurd (cc)
entry_held (Some x) h = step x.origin refl h
  where
    step : (o : Operand) → x.origin ≡ o → is_vertex o ≡ true → HoldsEntry (Some x)
    step (Vertex v) e h = record { value = x; vertex = v; is = refl; origin = e }
    step (Const n) e h = absurd (cc)

-- the elements of the pool below a number are set
abbrev Ready : Elements Held → ℕ → Type 0
Ready elements bound = (j : ℕ) → j < bound → is_entry (elements (pool_cell j)) ≡ true

abbrev Memory : Type 0
Memory = State Held (List Entry)

read_is : (elements : Elements Held) (log : List Entry) (p : Place) (c : Cell) (h : Held) → IsPlace p c → elements c ≡ Some h → read trial_decls [] elements p log ≡ Ok (h, log)
read_is elements log p c h l e =
    ap (λ r. and_then r (λ c. read_option (unset p.at) (elements c) log)) l.found ∙ ap (λ o. read_option (unset p.at) o log) e

-- an operation on an entry of the log is appended
operated : (op : Op) (at v : ℕ) (a b : Held) (log : List Entry) → a.origin ≡ Vertex v → length log < 256
    → numbered.operate op at (a ∷ b ∷ []) log ≡ Ok (record { number = λ values. value_at op (a.number values ∷ b.number values ∷ []); origin = Vertex (length log) }, log ++ entry op (a.origin ∷ b.origin ∷ []) ∷ [])
operated op at v a b log e h =
    let next = with_number (λ values. value_at op (a.number values ∷ b.number values ∷ [])) in
    let appended = append_entry at (entry op (a.origin ∷ b.origin ∷ [])) log in
    ap (λ o. and_then (fold_or_append op at (a.origin ∷ b.origin ∷ []) (constants (o ∷ b.origin ∷ [])) log) next) e
    ∙ ap (λ c. and_then (cond c (Ok (Vertex (length log), log ++ entry op (a.origin ∷ b.origin ∷ []) ∷ [])) (Err (too_many_vertices at))) next) (lt-ltb (length log) 256 h)

-- an assignment of a value that is known
assigned : (p : Place) (e : Expr) (at : ℕ) (s : Memory) (c : Cell) (r : Held × List Entry) → IsPlace p c → evaluate numbered trial_decls [] s.0 e s.1 ≡ Ok r
    → execute numbered trial_decls (stmt.Assign p e at) [] s ≡ Ok (put s.0 c r.0, r.1)
unfolding assign
assigned p e at s c r l is =
    ap (λ z. execute numbered trial_decls z [] s) (sym (stmt.rolls-Assign p e at)) ∙ execute_is numbered trial_decls (Assign p e at) [] s
    ∙ ap (λ z. and_then z (λ v. and_then (located trial_decls [] p) (λ c. Ok (put s.0 c v.0, v.1)))) is
    ∙ ap (λ z. and_then z (λ c. Ok (put s.0 c r.0, r.1))) l.found

cell_same : (c : Cell) → is_cell c c ≡ true
cell_same c = ap (λ b. b && eqb c.offset c.offset) (eq-eqb c.decl c.decl refl) ∙ eq-eqb c.offset c.offset refl

put_keeps : (b : Bool) (h : Held) (o : Option Held) → is_vertex h.origin ≡ true → is_entry o ≡ true → is_entry (cond b (Some h) o) ≡ true
put_keeps true h o e f = e
put_keeps false h o e f = f

ready_more : (elements : Elements Held) (n : ℕ) (h : Held) → Ready elements n → is_vertex h.origin ≡ true → Ready (put elements (pool_cell n) h) (n + 1)
ready_more elements n h r v j l =
    ⊎_elim (λ b. put_keeps (is_cell (pool_cell j) (pool_cell n)) h (elements (pool_cell j)) v (r j (ltb-true j n b)))
    (λ b. let g = ltb-false j n b in
    let same : j ≡ n = omega arith in
    ap (λ z. is_entry (cond (is_cell (pool_cell z) (pool_cell n)) (Some h) (elements (pool_cell z)))) same
    ∙ ap (λ z. is_entry (cond z (Some h) (elements (pool_cell n)))) (cell_same (pool_cell n)) ∙ v)
    (two_ways (ltb j n))

-- The elements of the pool below a number are set, and the log has as many entries.
record IsAt (s : Memory) (n : ℕ) : Type 0 where
  ready : Ready s.0 n
  count : length s.1 ≡ n

-- The statement leads to such a memory.
record Runs (s : Stmt) (before : Memory) (n : ℕ) : Type 0 where
  after : Memory
  is : execute numbered trial_decls s [] before ≡ Ok after
  at : IsAt after n

line_runs : (s : Stmt) (i : ℕ) (m : Memory) → i < 240 → IsLine s i → IsAt m (16 + i) → Runs s m (16 + i + 1)
line_runs s i m h l a =
    let elements = m.0 in
    let log = m.1 in
    let room : length log < 256 = omega (arith, a.count) in
    let x = entry_held (elements (pool_cell l.first)) (a.ready l.first l.first_before) in
    let y = entry_held (elements (pool_cell l.second)) (a.ready l.second l.second_before) in
    let e = binary l.op l.sign_at l.left l.right in
    let new : Held = record { number = λ values. value_at l.op (x.value.number values ∷ y.value.number values ∷ []); origin = Vertex (length log) } in
    let more = log ++ entry l.op (x.value.origin ∷ y.value.origin ∷ []) ∷ [] in
    let count : length more ≡ 16 + i + 1 = omega (arith, a.count, length-append log (entry l.op (x.value.origin ∷ y.value.origin ∷ []) ∷ [])) in
    let steps = expr_step numbered trial_decls [] elements in
    let links = ((l.op, l.sign_at), steps (open_expr.Cell l.right)) ∷ [] in
    let value : evaluate numbered trial_decls [] elements e log ≡ Ok (new, more)
    = ap (λ f. f log) (fold_binary (Run Held (List Entry)) ((Op × ℕ) × Run Held (List Entry)) steps link_step l.op l.sign_at l.left l.right)
    ∙ ap (λ r. and_then r (chain numbered links)) (read_is elements log l.left (pool_cell l.first) x.value l.left_is x.is)
    ∙ ap (λ r. and_then r (λ w. and_then (numbered.operate l.op l.sign_at (x.value ∷ w.0 ∷ []) w.1) (chain numbered []))) (read_is elements log l.right (pool_cell l.second) y.value l.right_is y.is)
    ∙ ap (λ r. and_then r (chain numbered [])) (operated l.op l.sign_at x.vertex x.value y.value log x.origin room) in
    record {
      after = (put elements (pool_cell (16 + i)) new, more);
      is = ap (λ z. execute numbered trial_decls z [] m) l.is ∙ assigned l.target e l.at m (pool_cell (16 + i)) (new, more) l.target_is value;
      at = record { ready = ready_more elements (16 + i) new a.ready refl; count = count };
    }

-- The statements lead to a memory in which the output is set, and the log has so many entries.
record Finishes (body : List Stmt) (before : Memory) (n : ℕ) : Type 0 where
  after : Memory
  is : in_turn (all_at (map (execute numbered trial_decls) body) []) before ≡ Ok after
  output : is_entry (after.0 (cell 1 0)) ≡ true
  count : length after.1 ≡ n

last_runs : (s : Stmt) (n : ℕ) (m : Memory) → IsLast s n → IsAt m (16 + n) → Finishes (s ∷ []) m (16 + n)
last_runs s n m l a =
    let elements = m.0 in
    let log = m.1 in
    let x = entry_held (elements (pool_cell (15 + n))) (a.ready (15 + n) (omega arith)) in
    let e = expr.Cell l.value in
    let steps = expr_step numbered trial_decls [] elements in
    let value : evaluate numbered trial_decls [] elements e log ≡ Ok (x.value, log)
    = ap (λ f. f log) (fold_cell (Run Held (List Entry)) ((Op × ℕ) × Run Held (List Entry)) steps link_step l.value)
    ∙ read_is elements log l.value (pool_cell (15 + n)) x.value l.value_is x.is in
    record {
      after = (put elements (cell 1 0) x.value, log);
      is = ap (λ z. and_then (execute numbered trial_decls z [] m) (λ s. Ok s)) l.is ∙ ap (λ z. and_then z (λ s. Ok s)) (assigned l.target e l.at m (cell 1 0) (x.value, log) l.target_is value);
      output = ap is_vertex x.origin;
      count = a.count;
    }

lines_run : (n i more : ℕ) (body : List Stmt) (m : Memory) → n ≡ i + more → n ≤ 200 → AreLines n i more body → IsAt m (16 + i) → Finishes body m (16 + n)
lines_run n i zero body m e h (s, is, l) a =
    let same : i ≡ n = omega arith in
    subst (λ z. Finishes z m (16 + n)) (sym is) (last_runs s n m l (subst (λ z. IsAt m (16 + z)) same a))
lines_run n i (suc more) body m e h (s, rest, is, l, ls) a =
    let r = line_runs s i m (omega arith) l a in
    let next : 16 + i + 1 ≡ 16 + (i + 1) = omega arith in
    let f = lines_run n (i + 1) more rest r.after (omega arith) h ls (subst (IsAt r.after) next r.at) in
    subst (λ z. Finishes z m (16 + n)) (sym is) (record {
      after = f.after;
      is = ap (λ z. and_then z (in_turn (all_at (map (execute numbered trial_decls) rest) []))) r.is ∙ f.is;
      output = f.output;
      count = f.count;
    })

-- ---- the inputs

-- the memory of a result
memory_of : Result Memory Fault → Memory
memory_of (Ok m) = m
memory_of (Err f) = (no_elements, [])

-- the memory in which the inputs are set
start : Memory
start = memory_of (each (enter numbered_input) (cells_of role.Input 0 trial_decls) (no_elements, []))

-- a test holds of all numbers below one
all_below : ℕ → (ℕ → Bool) → Bool
all_below zero p = true
all_below (suc n) p = p n && all_below n p

below : (n : ℕ) (p : ℕ → Bool) (j : ℕ) → all_below n p ≡ true → j < n → p j ≡ true
unfolding all_below
below zero p j h l = absurd (omega arith)
below (suc n) p j h l =
    ⊎_elim (λ b. below n p j (both_true (p n) (all_below n p) h).1 (ltb-true j n b))
    (λ b. let g = ltb-false j n b in let same : j ≡ n = omega arith in ap p same ∙ (both_true (p n) (all_below n p) h).0) (two_ways (ltb j n))

started : each (enter numbered_input) (cells_of role.Input 0 trial_decls) (no_elements, []) ≡ Ok start
unfolding start memory_of cells_of_decl
started = refl

start_at : IsAt start 16
unfolding start memory_of cells_of_decl all_below
start_at = record { ready = λ j l. below 16 (λ j. is_entry (start.0 (pool_cell j))) j refl l; count = refl }

-- ---- the whole run

-- The kernel has a graph of so many vertices.
pub record HasGraph (k : KernelParts) (n : ℕ) : Type 0 where
  pub graph : GraphParts
  pub is : graph_of k ≡ Ok graph
  pub count : length graph.nodes ≡ n

left : (m : Memory) → is_entry (m.0 (cell 1 0)) ≡ true → (r : List Held) × (each (leave numbered m.0) (cells_of role.Output 0 trial_decls) ([], m.1) ≡ Ok (r, m.1))
unfolding cells_of_decl
left m h =
    let x = entry_held (m.0 (cell 1 0)) h in
    let last = λ (w : Held × List Entry). each (leave numbered m.0) [] ([] ++ w.0 ∷ [], w.1) in (
      record { number = x.value.number; origin = Vertex x.vertex } ∷ [],
      ap (λ o. and_then (and_then (held (output_unset 29) o) (λ v. and_then (numbered.output 29 v m.1) (λ w. Ok ([] ++ w.0 ∷ [], w.1)))) (each (leave numbered m.0) [])) x.is
          ∙ ap (λ o. and_then (and_then (and_then (set_output 29 o m.1) (with_number x.value.number)) (λ w. Ok ([] ++ w.0 ∷ [], w.1))) (each (leave numbered m.0) [])) x.origin,
    )

pub trial_run : (n : ℕ) (title : List ℕ) (body : List Stmt) → n ≤ 200 → AreLines n 0 n body → HasGraph (record { title = title; decls = trial_decls; body = body }) (16 + n)
trial_run n title body h l =
    let k : KernelParts = record { title = title; decls = trial_decls; body = body } in
    let w = lines_walked n 0 n 0 body l (omega arith) in
    let f = lines_run n 0 n body start (omega arith) h l start_at in
    let o = left f.after f.output in
    let rest = λ (m : Memory). and_then (execute_all numbered trial_decls body m) (λ m. each (leave numbered m.0) (cells_of role.Output 0 trial_decls) ([], m.1)) in
    let run : run_all numbered numbered_input k [] ≡ Ok (o.0, f.after.1)
    = ap (λ r. and_then r rest) started ∙ ap (λ r. and_then r (λ m. each (leave numbered m.0) (cells_of role.Output 0 trial_decls) ([], m.1))) f.is ∙ o.1 in
    let means : kernel_meaning k ≡ Ok (o.0, f.after.1) = ap (λ r. and_then r (λ _. run_all numbered numbered_input k [])) w.1 ∙ run in
    let graph = graph_by k (map (λ h. h.origin) o.0, f.after.1) in
    record {
      graph = graph;
      is = ap (λ r. and_then r (λ r. Ok (graph_by k (map (λ h. h.origin) r.0, r.1)))) means;
      count = length-map f.after.1 node_of ∙ f.count;
    }
