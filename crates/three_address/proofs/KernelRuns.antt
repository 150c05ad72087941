-- The run of a well-formed kernel keeps its log a log, and its numbers the values of their origins: by the tree, for all values at once.
use Rattle.std.proofs.Common.{◌≡◌, ◌+◌, ◌++◌, ◌<◌, if◌then◌else◌, ℕ, suc, ℤ, pos, nat_lt, nat_le, Bool, true, false, ◌&&◌, ◌==◌, List, [], ◌∷◌, map, length, refl, sym, ap, subst, ◌∙◌, Option, Some, None, Result, Ok, Err, slice_index_or, arith}
use Rattle.std.specs.List.{All, list_all}
use Rattle.std.proofs.lemmas.Bool.{ltb-true, eqb-true, and_parts}
use Rattle.std.proofs.lemmas.List.{length_push, length-map}
use Rattle.std.proofs.lemmas.List.Elements.{All-nil, All-cons, All-push, All-weaker}
use Rattle.comp_graph.specs.declared.operation.Op.{Op}
use Rattle.comp_graph.specs.declared.operation.Op.TheVariants as op
use Rattle.comp_graph.specs.declared.node.Operand.TheVariants.{Vertex}
use Rattle.comp_graph.specs.Operations.{arity_of}
use Rattle.kernel_ast.specs.declared.tree.Expr.{Expr, roll-Expr}
use Rattle.kernel_ast.specs.declared.tree.Expr.TheOpen.{Expr-F, Link-F, Number, Turn, Minus, Chain, Call}
use Rattle.kernel_ast.specs.declared.tree.Expr.TheOpen as expr
use Rattle.kernel_ast.specs.declared.tree.Expr.TheFolds.{fold-Link, fold-roll-Expr, fold-roll-Link, ind-Expr, map-Expr, map-Link}
use Rattle.kernel_ast.specs.declared.tree.Link.{Link, roll-Link}
use Rattle.kernel_ast.specs.declared.tree.Stmt.{Stmt, roll-Stmt}
use Rattle.kernel_ast.specs.declared.tree.Stmt.TheOpen.{Stmt-F, Assign, Loop, Branch}
use Rattle.kernel_ast.specs.declared.tree.Stmt.TheFolds.{fold-roll-Stmt, ind-Stmt, map-Stmt}
use Rattle.kernel_ast.specs.declared.tree.DeclKind.TheVariants as kinds
use Rattle.kernel_ast.specs.declared.tree.Place.{Place}
use Rattle.kernel_ast.specs.declared.element.Cell.{Cell}
use Rattle.kernel_ast.specs.declared.element.Fault.{Fault}
use Rattle.kernel_ast.specs.KernelParts.{KernelParts, Declared}
use Rattle.kernel_ast.specs.Steps.{and_then, in_turn, each}
use Rattle.kernel_ast.specs.Places.{located, loop_numbers, condition, turn}
use Rattle.kernel_ast.specs.Walk.{all_at}
use Rattle.kernel_ast.specs.Machine.{Run, Elements, State, Execution, unset, output_unset, read_option, chain, arguments, expr_step, link_step, evaluate, assign, one_pass, stmt_step, execute, execute_all, enter, held, leave, cells_of, no_elements, run_all, put}
use Rattle.kernel_ast.specs.Meaning.{Held, Entry, entry, numbered, numbered_input, with_number, too_many_vertices}
use Rattle.kernel_ast.specs.WellFormed.{level_of, are_of_one_level, are_operators, is_function, all, expr_fits_step, expr_fits, stmt_fits_step, stmt_fits, body_fits, target_fits, index_fits, step_fits}
use Rattle.kernel_ast.specs.WellFormed as well
use Rattle.kernel_ast.specs.Weights.{assign_weight, loop_weight, branch_weight}
use Rattle.three_address.proofs.KernelLogs.{Valuation, IsStart, IsLog, IsSound, AreSound, Grows, grows_push, all_later, sound_later, elements_later, start_push, IsOperation, IsNode-input, Kept, kept_same, kept_err, kept_then, kept_after, each_kept, operated, IsPut, put_out, put_sound}

-- ---- the operations of a tree

-- an operator of a chain
abbrev pub is_operator : Op → Bool
is_operator o = nat_le 1 (level_of o)

two_operands : (o : Op) → is_operator o ≡ true → arity_of o ≡ 2
two_operands op.Add h = refl
two_operands op.Sub h = refl
two_operands op.Mul h = refl
two_operands op.And h = refl
two_operands op.Or h = refl
two_operands op.Xor h = refl
two_operands o h = absurd (cc)

IsOperation-operator : (o : Op) → is_operator o ≡ true → IsOperation o 2
IsOperation-operator o h = record {
  no_input = λ is. let clash : false ≡ true = ap is_operator (sym is) ∙ h in absurd (cc);
  no_set = λ is. let clash : false ≡ true = ap is_operator (sym is) ∙ h in absurd (cc);
  few = omega (arith, two_operands o h);
}

IsOperation-function : (o : Op) (n : ℕ) → is_function o ≡ true → n ≡ arity_of o → IsOperation o n
IsOperation-function o n h e = record {
  no_input = λ is. let clash : false ≡ true = ap is_function (sym is) ∙ h in absurd (cc);
  no_set = λ is. let clash : false ≡ true = ap is_function (sym is) ∙ h in absurd (cc);
  few = omega (arith, e);
}

IsOperation-minus : IsOperation op.Neg 1
IsOperation-minus = record { no_input = λ is. absurd (cc); no_set = λ is. absurd (cc); few = omega arith }

-- operators of one level are operators
same_level : (n : ℕ) (ops : List Op) → nat_le 1 n ≡ true → list_all (λ o. level_of o == n) ops ≡ true → list_all is_operator ops ≡ true
same_level n [] h e = refl
same_level n (o ∷ ops) h e =
    let parts = and_parts (level_of o == n) (list_all (λ o. level_of o == n) ops) e in
    let here : is_operator o ≡ true = ap (nat_le 1) (eqb-true (level_of o) n parts.0) ∙ h in
    ap (λ b. b && list_all is_operator ops) here ∙ same_level n ops h parts.1

pub operators : (ops : List Op) → are_operators ops ≡ true → list_all is_operator ops ≡ true
operators [] h = refl
operators (o ∷ ops) h =
    let parts = and_parts (nat_le 1 (level_of o)) (list_all (λ p. level_of p == level_of o) ops) h in
    ap (λ b. b && list_all is_operator ops) parts.0 ∙ same_level (level_of o) ops parts.0 parts.1

-- ---- expressions

module _ (z : Valuation) (decls : List Declared) (loops : ℕ) (indices : List ℤ) (elements : Elements Held) where
  abbrev link_run : Link → (Op × ℕ) × Run Held (List Entry)
  link_run = fold-Link (Run Held (List Entry)) ((Op × ℕ) × Run Held (List Entry)) (expr_step numbered decls indices elements) link_step

  abbrev link_fit : Link → Op × Bool
  link_fit = fold-Link Bool (Op × Bool) (expr_fits_step decls loops) well.link_step

  abbrev IsGood : Expr → Type 0
  IsGood e = expr_fits decls loops e ≡ true → (log : List Entry) → IsLog z log → AreSound z log elements → Kept z (IsSound z) log (evaluate numbered decls indices elements e log)

  record IsLinkGood (l : Link) : Type 0 where
    op : (link_run l).0.0 ≡ (link_fit l).0
    value : (link_fit l).1 ≡ true → (log : List Entry) → IsLog z log → AreSound z log elements → Kept z (IsSound z) log ((link_run l).1 log)

  opened : (x : Expr-F Expr Link)
      → (expr_fits_step decls loops (map-Expr Expr Link Bool (Op × Bool) (expr_fits decls loops) link_fit x) ≡ true → (log : List Entry) → IsLog z log → AreSound z log elements
      → Kept z (IsSound z) log (expr_step numbered decls indices elements (map-Expr Expr Link (Run Held (List Entry)) ((Op × ℕ) × Run Held (List Entry)) (evaluate numbered decls indices elements) link_run x) log))
      → IsGood (roll-Expr x)
  opened x e fit log l s =
      let fits = sym (fold-roll-Expr Bool (Op × Bool) (expr_fits_step decls loops) well.link_step x) ∙ fit in
      subst (λ (r : Run Held (List Entry)). Kept z (IsSound z) log (r log))
      (sym (fold-roll-Expr (Run Held (List Entry)) ((Op × ℕ) × Run Held (List Entry)) (expr_step numbered decls indices elements) link_step x)) (e fits log l s)

  constant_kept : (n : ℤ) (log : List Entry) → IsLog z log → Kept z (IsSound z) log (Ok (numbered.constant n, log))
  constant_kept n log l = kept_same z (IsSound z) log (numbered.constant n) l (record { below = tt; number = λ g. refl })

  read_kept : (place : Place) (c : Cell) (log : List Entry) → IsLog z log → AreSound z log elements → Kept z (IsSound z) log (read_option (unset place.at) (elements c) log)
  read_kept place c log l s = found (elements c) (s.sound c)
    where
      found : (o : Option Held) → ((a : Held) → o ≡ Some a → IsSound z log a) → Kept z (IsSound z) log (read_option (unset place.at) o log)
      found None h = kept_err z (IsSound z) log (unset place.at)
      found (Some a) h = kept_same z (IsSound z) log a l (h a refl)

  chain_good : (rest : List ((l : Link) × IsLinkGood l)) → list_all is_operator (map (λ l. l.0) (map link_fit (map (λ l. l.0) rest))) ≡ true
      → all (map (λ l. l.1) (map link_fit (map (λ l. l.0) rest))) ≡ true → (v : Held) (log : List Entry) → IsLog z log → AreSound z log elements → IsSound z log v
      → Kept z (IsSound z) log (chain numbered (map link_run (map (λ l. l.0) rest)) (v, log))
  chain_good [] ops fit v log l s good = kept_same z (IsSound z) log v l good
  chain_good (k ∷ rest) ops fit v log l s good =
      let signs = and_parts (is_operator (link_fit k.0).0) (list_all is_operator (map (λ l. l.0) (map link_fit (map (λ l. l.0) rest)))) ops in
      let fits = and_parts (link_fit k.0).1 (all (map (λ l. l.1) (map link_fit (map (λ l. l.0) rest)))) fit in
      let right : (link_run k.0).0.0 ≡ (link_fit k.0).0 = k.1.op in
      let is : IsOperation (link_run k.0).0.0 2 = subst (λ o. IsOperation o 2) (sym right) (IsOperation-operator (link_fit k.0).0 signs.0) in
      kept_then z (IsSound z) (IsSound z) log _ _ (k.1.value fits.0 log l s) (λ w next m g found.
      let both : All (IsSound z next) (v ∷ w ∷ []) = All-cons (IsSound z next) v (w ∷ []) (sound_later z log next v g good) (All-cons (IsSound z next) w [] found (All-nil (IsSound z next))) in
      kept_then z (IsSound z) (IsSound z) next _ _ (operated z (link_run k.0).0.0 (link_run k.0).0.1 (v ∷ w ∷ []) next is m both) (λ u last n h made.
      chain_good rest signs.1 fits.1 u last n (elements_later z next last elements h (elements_later z log next elements g s)) made))

  record AreArguments (count : ℕ) (log : List Entry) (values : List Held) : Type 0 where
    sound : All (IsSound z log) values
    counted : length values ≡ count

  arguments_good : (args : List ((e : Expr) × IsGood e)) → all (map (expr_fits decls loops) (map (λ e. e.0) args)) ≡ true
      → (vs : List Held) (log : List Entry) → IsLog z log → AreSound z log elements → All (IsSound z log) vs
      → Kept z (AreArguments (length vs + length args)) log (arguments (map (evaluate numbered decls indices elements) (map (λ e. e.0) args)) (vs, log))
  arguments_good [] fit vs log l s all_sound = kept_same z (AreArguments (length vs + 0)) log vs l (record { sound = all_sound; counted = omega arith })
  arguments_good (a ∷ args) fit vs log l s all_sound =
      let fits = and_parts (expr_fits decls loops a.0) (all (map (expr_fits decls loops) (map (λ e. e.0) args))) fit in
      kept_then z (IsSound z) (AreArguments (length vs + suc (length args))) log _ _ (a.1 fits.0 log l s) (λ v next m g found.
      let longer : length (vs ++ v ∷ []) ≡ length vs + 1 = length_push vs v in
      let count : length (vs ++ v ∷ []) + length args ≡ length vs + suc (length args) = omega (arith, longer) in
      subst (λ n. Kept z (AreArguments n) next (arguments (map (evaluate numbered decls indices elements) (map (λ e. e.0) args)) (vs ++ v ∷ [], next))) count
      (arguments_good args fits.1 (vs ++ v ∷ []) next m (elements_later z log next elements g s) (All-push (IsSound z next) vs v (all_later z log next vs g all_sound) found)))

  layer_parts : (y : Expr-F ((e : Expr) × IsGood e) ((l : Link) × IsLinkGood l))
      → IsGood (roll-Expr (map-Expr ((e : Expr) × IsGood e) ((l : Link) × IsLinkGood l) Expr Link (λ e. e.0) (λ l. l.0) y))
  layer_parts (Number n) = opened (Number n) (λ f log l s. constant_kept n log l)
  layer_parts (expr.Cell place) = opened (expr.Cell place) (λ f log l s. kept_after z (IsSound z) log (located decls indices place) _ (λ c. read_kept place c log l s))
  layer_parts (Turn t) = opened (Turn t) (λ f log l s. constant_kept (turn indices t) log l)
  layer_parts (Minus value at) =
      opened (Minus value.0 at) (λ f log l s. kept_then z (IsSound z) (IsSound z) log _ _ (value.1 f log l s) (λ v next m g found.
      operated z op.Neg at (v ∷ []) next IsOperation-minus m (All-cons (IsSound z next) v [] found (All-nil (IsSound z next)))))
  layer_parts (Chain first rest) =
      opened (Chain first.0 (map (λ l. l.0) rest)) (λ f log l s.
      let parts = and_parts (expr_fits decls loops first.0) (are_operators (map (λ l. l.0) (map link_fit (map (λ l. l.0) rest))) && all (map (λ l. l.1) (map link_fit (map (λ l. l.0) rest)))) f in
      let more = and_parts (are_operators (map (λ l. l.0) (map link_fit (map (λ l. l.0) rest)))) (all (map (λ l. l.1) (map link_fit (map (λ l. l.0) rest)))) parts.1 in
      kept_then z (IsSound z) (IsSound z) log _ _ (first.1 parts.0 log l s) (λ v next m g found.
      chain_good rest (operators (map (λ l. l.0) (map link_fit (map (λ l. l.0) rest))) more.0) more.1 v next m (elements_later z log next elements g s) found))
  layer_parts (Call o args at) =
      opened (Call o (map (λ e. e.0) args) at) (λ f log l s.
      let fits : List Bool = map (expr_fits decls loops) (map (λ e. e.0) args) in
      let parts = and_parts (is_function o) ((length fits == arity_of o) && all fits) f in
      let more = and_parts (length fits == arity_of o) (all fits) parts.1 in
      let long : length fits ≡ length args = length-map (map (λ (e : (e : Expr) × IsGood e). e.0) args) (expr_fits decls loops) ∙ length-map args (λ (e : (e : Expr) × IsGood e). e.0) in
      let count : length args ≡ arity_of o = sym long ∙ eqb-true (length fits) (arity_of o) more.0 in
      kept_then z (AreArguments (0 + length args)) (IsSound z) log _ _ (arguments_good args more.1 [] log l s (All-nil (IsSound z log))) (λ vs next m g found.
      let same : length vs ≡ arity_of o = omega (arith, found.counted, count) in
      operated z o at vs next (IsOperation-function o (length vs) parts.0 same) m found.sound))

  layer : (x : Expr-F Expr Link) (y : Expr-F ((e : Expr) × IsGood e) ((l : Link) × IsLinkGood l))
      → map-Expr ((e : Expr) × IsGood e) ((l : Link) × IsLinkGood l) Expr Link (λ e. e.0) (λ l. l.0) y ≡ x → IsGood (roll-Expr x)
  layer x y is = subst (λ w. IsGood (roll-Expr w)) is (layer_parts y)

  link_opened : (x : Link-F Expr Link) → IsGood x.value → IsLinkGood (roll-Link x)
  link_opened x e =
      let run : link_run (roll-Link x) ≡ ((x.op, x.at), evaluate numbered decls indices elements x.value) =
      fold-roll-Link (Run Held (List Entry)) ((Op × ℕ) × Run Held (List Entry)) (expr_step numbered decls indices elements) link_step x in
      let fit : link_fit (roll-Link x) ≡ (x.op, expr_fits decls loops x.value) = fold-roll-Link Bool (Op × Bool) (expr_fits_step decls loops) well.link_step x in
      record {
        op = ap (λ r. r.0.0) run ∙ sym (ap (λ r. r.0) fit);
        value = λ f log l s.
            subst (λ (r : (Op × ℕ) × Run Held (List Entry)). Kept z (IsSound z) log (r.1 log)) (sym run) (e (sym (ap (λ r. r.1) fit) ∙ f) log l s);
      }

  link_layer : (x : Link-F Expr Link) (y : Link-F ((e : Expr) × IsGood e) ((l : Link) × IsLinkGood l))
      → map-Link ((e : Expr) × IsGood e) ((l : Link) × IsLinkGood l) Expr Link (λ e. e.0) (λ l. l.0) y ≡ x → IsLinkGood (roll-Link x)
  link_layer x y is = subst (λ w. IsLinkGood (roll-Link w)) is (link_opened (map-Link ((e : Expr) × IsGood e) ((l : Link) × IsLinkGood l) Expr Link (λ e. e.0) (λ l. l.0) y) y.value.1)

  pub evaluate_good : (e : Expr) → IsGood e
  evaluate_good = ind-Expr IsGood IsLinkGood layer link_layer

-- ---- statements

module _ (z : Valuation) (decls : List Declared) where
  abbrev IsStep : (State Held (List Entry) → Result (State Held (List Entry)) Fault) → Type 0
  IsStep f = (elements : Elements Held) (log : List Entry) → IsLog z log → AreSound z log elements → Kept z (AreSound z) log (f (elements, log))

  abbrev IsStmtGood : Stmt → Type 0
  IsStmtGood s = (loops : ℕ) → stmt_fits decls s loops ≡ true → (indices : List ℤ) → IsStep (execute numbered decls s indices)

  stmt_opened : (x : Stmt-F Stmt)
      → ((loops : ℕ) → stmt_fits_step decls (map-Stmt Stmt (ℕ → Bool) (stmt_fits decls) x) loops ≡ true → (indices : List ℤ)
      → IsStep (stmt_step numbered decls (map-Stmt Stmt (Execution Held (List Entry)) (execute numbered decls) x) indices))
      → IsStmtGood (roll-Stmt x)
  stmt_opened x e loops fit indices elements log l s =
      let fits = sym (ap (λ (r : ℕ → Bool). r loops) (fold-roll-Stmt (ℕ → Bool) (stmt_fits_step decls) x)) ∙ fit in
      subst (λ (r : Execution Held (List Entry)). Kept z (AreSound z) log (r indices (elements, log)))
      (sym (fold-roll-Stmt (Execution Held (List Entry)) (stmt_step numbered decls) x)) (e loops fits indices elements log l s)

  assigned : (target : Place) (value : Expr) (loops : ℕ) → expr_fits decls loops value ≡ true → (indices : List ℤ) → IsStep (assign numbered decls target value indices)
  unfolding assign
  assigned target value loops fit indices elements log l s =
      kept_then z (IsSound z) (AreSound z) log _ _ (evaluate_good z decls loops indices elements value fit log l s) (λ v next m g found.
      kept_after z (AreSound z) next (located decls indices target) _ (λ c.
      kept_same z (AreSound z) next (put elements c v) m (put_sound z next elements c v (elements_later z log next elements g s) found)))

  body_good : (body : List ((s : Stmt) × IsStmtGood s)) (loops : ℕ) → well.all_at loops (map (stmt_fits decls) (map (λ e. e.0) body)) ≡ true
      → (indices : List ℤ) → IsStep (in_turn (all_at (map (execute numbered decls) (map (λ e. e.0) body)) indices))
  body_good [] loops fit indices elements log l s = kept_same z (AreSound z) log elements l s
  body_good (e ∷ body) loops fit indices elements log l s =
      let fits = and_parts (stmt_fits decls e.0 loops) (well.all_at loops (map (stmt_fits decls) (map (λ e. e.0) body))) fit in
      kept_then z (AreSound z) (AreSound z) log _ _ (e.1 loops fits.0 indices elements log l s) (λ after next m g found. body_good body loops fits.1 indices after next m found)

  branch_good : (holds : Bool) (taken other : List ((s : Stmt) × IsStmtGood s)) (loops : ℕ) → well.all_at loops (map (stmt_fits decls) (map (λ e. e.0) taken)) ≡ true → well.all_at loops (map (stmt_fits decls) (map (λ e. e.0) other)) ≡ true
      → (indices : List ℤ) → IsStep (in_turn (all_at (if holds then map (execute numbered decls) (map (λ e. e.0) taken) else map (execute numbered decls) (map (λ e. e.0) other)) indices))
  branch_good true taken other loops f g indices elements log l s = body_good taken loops f indices elements log l s
  branch_good false taken other loops f g indices elements log l s = body_good other loops g indices elements log l s

  pass_good : (body : List ((s : Stmt) × IsStmtGood s)) (loops : ℕ) → well.all_at loops (map (stmt_fits decls) (map (λ e. e.0) body)) ≡ true
      → (indices : List ℤ) (i : ℤ) → IsStep (one_pass (map (execute numbered decls) (map (λ e. e.0) body)) indices i)
  unfolding one_pass
  pass_good body loops fit indices i elements log l s = body_good body loops fit (indices ++ i ∷ []) elements log l s

  stmt_parts : (y : Stmt-F ((s : Stmt) × IsStmtGood s)) → IsStmtGood (roll-Stmt (map-Stmt ((s : Stmt) × IsStmtGood s) Stmt (λ e. e.0) y))
  stmt_parts (Assign target value at) =
      stmt_opened (Assign target value at) (λ loops f indices elements log l s.
      let parts = and_parts (target_fits decls loops target) (expr_fits decls loops value && nat_le (assign_weight target value) 65536) f in
      let more = and_parts (expr_fits decls loops value) (nat_le (assign_weight target value) 65536) parts.1 in
      assigned target value loops more.0 indices elements log l s)
  stmt_parts (Loop from to by body at) =
      stmt_opened (Loop from to by (map (λ e. e.0) body) at) (λ loops f indices elements log l s.
      let fits : Bool = well.all_at (suc loops) (map (stmt_fits decls) (map (λ e. e.0) body)) in
      let light : Bool = nat_le (loop_weight from to by) 65536 in
      let one = and_parts (nat_lt loops 32) (index_fits loops from && (index_fits loops to && (step_fits loops by && (light && fits)))) f in
      let two = and_parts (index_fits loops from) (index_fits loops to && (step_fits loops by && (light && fits))) one.1 in
      let three = and_parts (index_fits loops to) (step_fits loops by && (light && fits)) two.1 in
      let four = and_parts (step_fits loops by) (light && fits) three.1 in
      let five = and_parts light fits four.1 in
      kept_after z (AreSound z) log (loop_numbers indices from to by) _ (λ ns.
      each_kept z (AreSound z) (one_pass (map (execute numbered decls) (map (λ e. e.0) body)) indices) ns
      (λ i after next m found. pass_good body (suc loops) five.1 indices i after next m found) elements log l s))
  stmt_parts (Branch left rel right taken other at) =
      stmt_opened (Branch left rel right (map (λ e. e.0) taken) (map (λ e. e.0) other) at) (λ loops f indices elements log l s.
      let first : Bool = well.all_at loops (map (stmt_fits decls) (map (λ e. e.0) taken)) in
      let second : Bool = well.all_at loops (map (stmt_fits decls) (map (λ e. e.0) other)) in
      let light : Bool = nat_le (branch_weight left right) 65536 in
      let one = and_parts (index_fits loops left) (index_fits loops right && (light && (first && second))) f in
      let two = and_parts (index_fits loops right) (light && (first && second)) one.1 in
      let three = and_parts light (first && second) two.1 in
      let four = and_parts first second three.1 in
      kept_after z (AreSound z) log (condition indices left rel right) _ (λ holds. branch_good holds taken other loops four.0 four.1 indices elements log l s))

  stmt_layer : (x : Stmt-F Stmt) (y : Stmt-F ((s : Stmt) × IsStmtGood s)) → map-Stmt ((s : Stmt) × IsStmtGood s) Stmt (λ e. e.0) y ≡ x → IsStmtGood (roll-Stmt x)
  stmt_layer x y is = subst (λ w. IsStmtGood (roll-Stmt w)) is (stmt_parts y)

  pub execute_good : (s : Stmt) → IsStmtGood s
  execute_good = ind-Stmt IsStmtGood stmt_layer

  all_good : (body : List Stmt) → body_fits decls 0 body ≡ true → IsStep (execute_all numbered decls body)
  all_good [] fit elements log l s = kept_same z (AreSound z) log elements l s
  all_good (x ∷ body) fit elements log l s =
      let fits = and_parts (stmt_fits decls x 0) (body_fits decls 0 body) fit in
      kept_then z (AreSound z) (AreSound z) log _ _ (execute_good x 0 fits.0 [] elements log l s) (λ after next m g found. all_good body fits.1 after next m found)

-- ---- inputs

-- where the inputs end
pub record Entered (z : Valuation) (r : State Held (List Entry)) : Type 0 where
  pub is_log : IsLog z r.1
  pub sound : AreSound z r.1 r.0

-- what the next input element holds
abbrev input_held : List Entry → Held
input_held log = record { number = λ values. slice_index_or values (length log) (pos 0); origin = Vertex (length log) }

entered : (z : Valuation) (cs : List (ℕ × Cell)) (elements : Elements Held) (log : List Entry) → IsStart z log → AreSound z log elements → length log + length cs ≡ z.inputs
    → (r : State Held (List Entry)) → each (enter numbered_input) cs (elements, log) ≡ Ok r → Entered z r
entered z [] elements log l s count r e =
    let same : (elements, log) ≡ r = cc in
    let whole : IsLog z log = record { start = l; named = omega (arith, count) } in
    let here : Entered z (elements, log) = record { is_log = whole; sound = s } in
    subst (Entered z) same here
entered z (c ∷ cs) elements log l s count r e =
    tested (nat_lt (length log) 256) refl (λ start sound left f. entered z cs (put elements c.1 (input_held log)) (log ++ entry op.Input [] ∷ []) start sound left r f) e
  where
    tested : (b : Bool) → nat_lt (length log) 256 ≡ b
        → (IsStart z (log ++ entry op.Input [] ∷ []) → AreSound z (log ++ entry op.Input [] ∷ []) (put elements c.1 (input_held log)) → length (log ++ entry op.Input [] ∷ []) + length cs ≡ z.inputs
        → each (enter numbered_input) cs (put elements c.1 (input_held log), log ++ entry op.Input [] ∷ []) ≡ Ok r → Entered z r)
        → and_then (and_then (and_then (if b then Ok (Vertex (length log), log ++ entry op.Input [] ∷ []) else Err (too_many_vertices c.0)) (with_number (λ values. slice_index_or values (length log) (pos 0)))) (λ v. Ok (put elements c.1 v.0, v.1)))
        (each (enter numbered_input) cs) ≡ Ok r → Entered z r
    tested true is more f =
        let low : length log < z.inputs = omega (arith, count) in
        let longer : length (log ++ entry op.Input [] ∷ []) ≡ length log + 1 = length_push log (entry op.Input []) in
        let grows = grows_push z log (entry op.Input []) in
        let found : IsSound z (log ++ entry op.Input [] ∷ []) (input_held log) = record { below = omega (arith, longer); number = λ g. z.given (length log) low } in
        more (start_push z log (entry op.Input []) l (ltb-true (length log) 256 is) (IsNode-input z.inputs (length log) low))
        (put_sound z (log ++ entry op.Input [] ∷ []) elements c.1 (input_held log) (elements_later z log (log ++ entry op.Input [] ∷ []) elements grows s) found) (omega (arith, longer, count)) f
    tested false is more f = absurd (cc)

-- ---- outputs

-- the outputs so far, and all that elements hold
pub record Leaving (z : Valuation) (elements : Elements Held) (log : List Entry) (found : List Held) : Type 0 where
  pub sound : AreSound z log elements
  pub given_out : All (IsPut z log) found

put_later : (z : Valuation) (log next : List Entry) (found : List Held) → Grows z log next → All (IsPut z log) found → All (IsPut z next) found
put_later z log next found g s = All-weaker (IsPut z log) (IsPut z next) (λ a h. record { sound = sound_later z log next a g h.sound; vertex = h.vertex }) found s

left : (z : Valuation) (elements : Elements Held) (c : ℕ × Cell) (found : List Held) (log : List Entry) → IsLog z log → Leaving z elements log found
    → Kept z (Leaving z elements) log (leave numbered elements c (found, log))
left z elements c found log l s = is_set (elements c.1) (s.sound.sound c.1)
  where
    is_set : (o : Option Held) → ((a : Held) → o ≡ Some a → IsSound z log a)
        → Kept z (Leaving z elements) log (and_then (held (output_unset c.0) o) (λ v. and_then (numbered.output c.0 v log) (λ w. Ok (found ++ w.0 ∷ [], w.1))))
    is_set None h = kept_err z (Leaving z elements) log (output_unset c.0)
    is_set (Some v) h =
        kept_then z (IsPut z) (Leaving z elements) log _ _ (put_out z c.0 v log l (h v refl)) (λ w next m g is_put.
        kept_same z (Leaving z elements) next (found ++ w ∷ []) m (record {
          sound = elements_later z log next elements g s.sound;
          given_out = All-push (IsPut z next) found w (put_later z log next found g s.given_out) is_put;
        }))

pub ok_next : {A B : Type 0} (o : Result A Fault) (f : A → Result B Fault) (b : B) → and_then o f ≡ Ok b → (a : A) × (o ≡ Ok a) × (f a ≡ Ok b)
ok_next (Ok a) f b e = (a, refl, e)
ok_next (Err x) f b e = absurd (cc)

left_count : (elements : Elements Held) (cs : List (ℕ × Cell)) (from to : List Held × List Entry) → each (leave numbered elements) cs from ≡ Ok to → length to.0 ≡ length from.0 + length cs
left_count elements [] from to e = let same : from ≡ to = cc in let long : length from.0 ≡ length to.0 = ap (λ (r : List Held × List Entry). length r.0) same in omega (arith, long)
left_count elements (c ∷ cs) from to e =
    let one = ok_next (leave numbered elements c from) (each (leave numbered elements) cs) to e in
    let set = ok_next (held (output_unset c.0) (elements c.1)) (λ v. and_then (numbered.output c.0 v from.1) (λ w. Ok (from.0 ++ w.0 ∷ [], w.1))) one.0 one.1 in
    let out = ok_next (numbered.output c.0 set.0 from.1) (λ (w : Held × List Entry). Ok (from.0 ++ w.0 ∷ [], w.1)) one.0 set.2 in
    let more = left_count elements cs one.0 to one.2 in
    let wrote : (from.0 ++ (out.0).0 ∷ [], (out.0).1) ≡ one.0 = let f = out.2 in cc in
    let long : length (from.0 ++ (out.0).0 ∷ []) ≡ length (one.0).0 = ap (λ (r : List Held × List Entry). length r.0) wrote in
    let push : length (from.0 ++ (out.0).0 ∷ []) ≡ length from.0 + 1 = length_push from.0 (out.0).0 in
    omega (arith, more, long, push)

-- ---- whole runs

-- the end of a run: its log, and what the output elements hold
pub record Ended (z : Valuation) (k : KernelParts) (r : List Held × List Entry) : Type 0 where
  pub is_log : IsLog z r.1
  pub given_out : All (IsPut z r.1) r.0
  pub counted : length r.0 ≡ length (cells_of kinds.Output 0 k.decls)

nothing_sound : (z : Valuation) → AreSound z [] no_elements
nothing_sound z = record { sound = λ c a e. absurd (cc) }

nothing_logged : (z : Valuation) → IsStart z []
nothing_logged z = record { small = omega arith; nodes = λ v e at. absurd (cc) }

pub run_good : (z : Valuation) (k : KernelParts) (r : List Held × List Entry) → body_fits k.decls 0 k.body ≡ true → length (cells_of kinds.Input 0 k.decls) ≡ z.inputs
    → run_all numbered numbered_input k [] ≡ Ok r → Ended z k r
run_good z k r fit count e =
    let first = ok_next (each (enter numbered_input) (cells_of kinds.Input 0 k.decls) (no_elements, [])) (λ entered. and_then (execute_all numbered k.decls k.body entered) (λ left.
    each (leave numbered left.0) (cells_of kinds.Output 0 k.decls) ([], left.1))) r e in
    let last = ok_next (execute_all numbered k.decls k.body first.0) (λ (left : State Held (List Entry)). each (leave numbered left.0) (cells_of kinds.Output 0 k.decls) ([], left.1)) r first.2 in
    let start = entered z (cells_of kinds.Input 0 k.decls) no_elements [] (nothing_logged z) (nothing_sound z) (omega (arith, count)) first.0 first.1 in
    let after = (all_good z k.decls k.body fit (first.0).0 (first.0).1 start.is_log start.sound).next last.0 last.1 in
    let begun : Leaving z (last.0).0 (last.0).1 [] = record { sound = after.good; given_out = All-nil (IsPut z (last.0).1) } in
    let end = (each_kept z (Leaving z (last.0).0) (leave numbered (last.0).0) (cells_of kinds.Output 0 k.decls) (left z (last.0).0) [] (last.0).1 after.is_log begun).next r last.2 in
    let count_out : length r.0 ≡ 0 + length (cells_of kinds.Output 0 k.decls) = left_count (last.0).0 (cells_of kinds.Output 0 k.decls) ([], (last.0).1) r last.2 in
    record { is_log = end.is_log; given_out = end.good.given_out; counted = omega (arith, count_out) }
