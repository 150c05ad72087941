-- Evaluation over two machines, one of which is a picture of the other.
use Rattle.std.proofs.Common.{if◌then◌else◌, ◌≡◌, ℕ, ℤ, Bool, true, false, List, [], ◌∷◌, ◌++◌, map, refl, sym, ap, ◌∙◌, subst, Option, Some, None, Result, Ok, Err}
use Rattle.std.proofs.lemmas.List.{map-append}
use Rattle.comp_graph.specs.declared.operation.Op.{Op}
use Rattle.comp_graph.specs.declared.operation.Op.TheVariants.{Neg}
use Rattle.kernel_ast.specs.declared.tree.Expr.{Expr, roll-Expr}
use Rattle.kernel_ast.specs.declared.tree.Expr.TheOpen.{Expr-F, Link-F, Number, Turn, Minus, Chain, Call}
use Rattle.kernel_ast.specs.declared.tree.Expr.TheOpen as expr
use Rattle.kernel_ast.specs.declared.tree.Expr.TheFolds.{fold-Link, fold-roll-Expr, fold-roll-Link, ind-Expr, map-Expr, map-Link}
use Rattle.kernel_ast.specs.declared.tree.Link.{Link, roll-Link}
use Rattle.kernel_ast.specs.declared.tree.Stmt.{Stmt, roll-Stmt}
use Rattle.kernel_ast.specs.declared.tree.Stmt.TheOpen.{Stmt-F, Assign, Loop, Branch}
use Rattle.kernel_ast.specs.declared.tree.Stmt.TheFolds.{fold-roll-Stmt, ind-Stmt, map-Stmt}
use Rattle.kernel_ast.specs.declared.tree.DeclKind.TheVariants as kinds
use Rattle.kernel_ast.specs.declared.tree.Place.{Place}
use Rattle.kernel_ast.specs.KernelParts.{KernelParts, Declared}
use Rattle.kernel_ast.specs.declared.element.Cell.{Cell}
use Rattle.kernel_ast.specs.declared.element.Fault.{Fault}
use Rattle.kernel_ast.specs.Steps.{and_then, in_turn, each}
use Rattle.kernel_ast.specs.Places.{located, loop_numbers, condition, turn}
use Rattle.kernel_ast.specs.Walk.{all_at}
use Rattle.kernel_ast.specs.Machine.{Machine, Run, Elements, State, Execution, unset, read_option, chain, arguments, expr_step, link_step, evaluate, assign, one_pass, stmt_step, execute, execute_all, enter, held, output_unset, leave, cells_of, no_elements, run_all, put, is_cell}

abbrev pub mapped : {A B : Type 0} → (A → B) → Result A Fault → Result B Fault
mapped f (Ok a) = Ok (f a)
mapped f (Err e) = Err e

pub mapped-then : {A C B D : Type 0} (p : A → C) (q : B → D) (o : Result A Fault) (z : Result C Fault) (f : A → Result B Fault) (f' : C → Result D Fault)
    → mapped p o ≡ z → ((a : A) → mapped q (f a) ≡ f' (p a)) → mapped q (and_then o f) ≡ and_then z f'
mapped-then p q (Ok a) z f f' same e = e a ∙ ap (λ r. and_then r f') same
mapped-then p q (Err x) z f f' same e = ap (λ r. and_then r f') same

pub mapped-after : {A B D : Type 0} (q : B → D) (o : Result A Fault) (f : A → Result B Fault) (f' : A → Result D Fault)
    → ((a : A) → mapped q (f a) ≡ f' a) → mapped q (and_then o f) ≡ and_then o f'
mapped-after q (Ok a) f f' e = e a
mapped-after q (Err x) f f' e = refl

pub each_mapped : {A S T : Type 0} (q : S → T) (f : A → S → Result S Fault) (f' : A → T → Result T Fault) (xs : List A)
    → ((a : A) (s : S) → mapped q (f a s) ≡ f' a (q s)) → (s : S) → mapped q (each f xs s) ≡ each f' xs (q s)
each_mapped q f f' [] e s = refl
each_mapped q f f' (a ∷ xs) e s = mapped-then q q (f a s) (f' a (q s)) (each f xs) (each f' xs) (e a s) (each_mapped q f f' xs e)

abbrev pub option_map : {A B : Type 0} → (A → B) → Option A → Option B
option_map f None = None
option_map f (Some a) = Some (f a)

abbrev pub pictured : {X Y : Type 0} → (X → Y) → Elements X → Elements Y
pictured h elements = λ c. option_map h (elements c)

put_pictured : {X Y : Type 0} (h : X → Y) (elements : Elements X) (c : Cell) (v : X) → pictured h (put elements c v) ≡ put (pictured h elements) c (h v)
put_pictured {X} {Y} h elements c v = λ i other. tested (is_cell other c) (elements other) i
  where
    tested : (b : Bool) (o : Option X) → option_map h (if b then Some v else o) ≡ (if b then Some (h v) else option_map h o)
    tested true o = refl
    tested false o = refl

abbrev pub both : {X S Y T : Type 0} → (X → Y) → (S → T) → X × S → Y × T
both h g r = (h r.0, g r.1)

pub record Pictures {X S Y T : Type 0} (M : Machine X S) (N : Machine Y T) (h : X → Y) (g : S → T) : Type 0 where
  pub constant : (n : ℤ) → h (M.constant n) ≡ N.constant n
  pub operate : (op : Op) (at : ℕ) (vs : List X) (s : S) → mapped (both h g) (M.operate op at vs s) ≡ N.operate op at (map h vs) (g s)
  pub output : (at : ℕ) (v : X) (s : S) → mapped (both h g) (M.output at v s) ≡ N.output at (h v) (g s)

module _ {X S Y T : Type 0} (M : Machine X S) (N : Machine Y T) (h : X → Y) (g : S → T) (k : Pictures M N h g) (decls : List Declared) where
  module _ (indices : List ℤ) (elements : Elements X) where
    abbrev link_run : {J K2 : Type 0} → Machine J K2 → Elements J → Link → (Op × ℕ) × Run J K2
    link_run {J} {K2} m es = fold-Link (Run J K2) ((Op × ℕ) × Run J K2) (expr_step m decls indices es) link_step

    abbrev IsPictured : Expr → Type 0
    IsPictured e = (s : S) → mapped (both h g) (evaluate M decls indices elements e s) ≡ evaluate N decls indices (pictured h elements) e (g s)

    record IsLinkPictured (l : Link) : Type 0 where
      op : (link_run M elements l).0 ≡ (link_run N (pictured h elements) l).0
      value : (s : S) → mapped (both h g) ((link_run M elements l).1 s) ≡ (link_run N (pictured h elements) l).1 (g s)

    opened : (x : Expr-F Expr Link)
        → ((s : S) → mapped (both h g) (expr_step M decls indices elements (map-Expr Expr Link (Run X S) ((Op × ℕ) × Run X S) (evaluate M decls indices elements) (link_run M elements) x) s)
        ≡ expr_step N decls indices (pictured h elements) (map-Expr Expr Link (Run Y T) ((Op × ℕ) × Run Y T) (evaluate N decls indices (pictured h elements)) (link_run N (pictured h elements)) x) (g s))
        → IsPictured (roll-Expr x)
    opened x e s =
        ap (λ r. mapped (both h g) (r s)) (fold-roll-Expr (Run X S) ((Op × ℕ) × Run X S) (expr_step M decls indices elements) link_step x)
        ∙ e s ∙ sym (ap (λ r. r (g s)) (fold-roll-Expr (Run Y T) ((Op × ℕ) × Run Y T) (expr_step N decls indices (pictured h elements)) link_step x))

    found : (p : Place) (o : Option X) (s : S) → mapped (both h g) (read_option (unset p.at) o s) ≡ read_option (unset p.at) (option_map h o) (g s)
    found p None s = refl
    found p (Some v) s = refl

    chain_pictured : (rest : List ((l : Link) × IsLinkPictured l)) (r : X × S)
        → mapped (both h g) (chain M (map (link_run M elements) (map (λ l. l.0) rest)) r) ≡ chain N (map (link_run N (pictured h elements)) (map (λ l. l.0) rest)) (both h g r)
    chain_pictured [] r = refl
    chain_pictured (l ∷ ls) r =
        mapped-then (both h g) (both h g) _ _ _ _ (l.1.value r.1) (λ w.
        mapped-then (both h g) (both h g) _ _ _ _
        (k.operate (link_run M elements l.0).0.0 (link_run M elements l.0).0.1 (r.0 ∷ w.0 ∷ []) w.1 ∙ ap (λ o. N.operate o.0 o.1 (h r.0 ∷ h w.0 ∷ []) (g w.1)) l.1.op)
        (chain_pictured ls))

    abbrev lists : List X × S → List Y × T
    lists r = (map h r.0, g r.1)

    arguments_pictured : (args : List ((e : Expr) × IsPictured e)) (r : List X × S)
        → mapped lists (arguments (map (evaluate M decls indices elements) (map (λ e. e.0) args)) r) ≡ arguments (map (evaluate N decls indices (pictured h elements)) (map (λ e. e.0) args)) (lists r)
    arguments_pictured [] r = refl
    arguments_pictured (a ∷ more) r =
        mapped-then (both h g) lists _ _ _ _ (a.1 r.1) (λ v.
        arguments_pictured more (r.0 ++ v.0 ∷ [], v.1)
        ∙ ap (λ z. arguments (map (evaluate N decls indices (pictured h elements)) (map (λ e. e.0) more)) (z, g v.1)) (map-append h r.0 (v.0 ∷ [])))

    layer_parts : (y : Expr-F ((e : Expr) × IsPictured e) ((l : Link) × IsLinkPictured l))
        → IsPictured (roll-Expr (map-Expr ((e : Expr) × IsPictured e) ((l : Link) × IsLinkPictured l) Expr Link (λ e. e.0) (λ l. l.0) y))
    layer_parts (Number n) = opened (Number n) (λ s. ap (λ v. Ok (v, g s)) (k.constant n))
    layer_parts (expr.Cell place) = opened (expr.Cell place) (λ s. mapped-after (both h g) (located decls indices place) _ _ (λ c. found place (elements c) s))
    layer_parts (Turn t) = opened (Turn t) (λ s. ap (λ v. Ok (v, g s)) (k.constant (turn indices t)))
    layer_parts (Minus value at) = opened (Minus value.0 at) (λ s. mapped-then (both h g) (both h g) _ _ _ _ (value.1 s) (λ v. k.operate Neg at (v.0 ∷ []) v.1))
    layer_parts (Chain first rest) = opened (Chain first.0 (map (λ l. l.0) rest)) (λ s. mapped-then (both h g) (both h g) _ _ _ _ (first.1 s) (chain_pictured rest))
    layer_parts (Call op args at) =
        opened (Call op (map (λ e. e.0) args) at) (λ s. mapped-then lists (both h g) _ _ _ _ (arguments_pictured args ([], s)) (λ vs. k.operate op at vs.0 vs.1))

    layer : (x : Expr-F Expr Link) (y : Expr-F ((e : Expr) × IsPictured e) ((l : Link) × IsLinkPictured l))
        → map-Expr ((e : Expr) × IsPictured e) ((l : Link) × IsLinkPictured l) Expr Link (λ e. e.0) (λ l. l.0) y ≡ x → IsPictured (roll-Expr x)
    layer x y is = subst (λ z. IsPictured (roll-Expr z)) is (layer_parts y)

    link_opened : (x : Link-F Expr Link) → ((s : S) → mapped (both h g) (evaluate M decls indices elements x.value s) ≡ evaluate N decls indices (pictured h elements) x.value (g s)) → IsLinkPictured (roll-Link x)
    link_opened x e =
        let m : link_run M elements (roll-Link x) ≡ ((x.op, x.at), evaluate M decls indices elements x.value) = fold-roll-Link (Run X S) ((Op × ℕ) × Run X S) (expr_step M decls indices elements) link_step x in
        let n : link_run N (pictured h elements) (roll-Link x) ≡ ((x.op, x.at), evaluate N decls indices (pictured h elements) x.value) = fold-roll-Link (Run Y T) ((Op × ℕ) × Run Y T) (expr_step N decls indices (pictured h elements)) link_step x in
        record {
          op = ap (λ r. r.0) m ∙ sym (ap (λ r. r.0) n);
          value = λ s. ap (λ r. mapped (both h g) (r.1 s)) m ∙ e s ∙ sym (ap (λ r. r.1 (g s)) n);
        }

    link_layer : (x : Link-F Expr Link) (y : Link-F ((e : Expr) × IsPictured e) ((l : Link) × IsLinkPictured l))
        → map-Link ((e : Expr) × IsPictured e) ((l : Link) × IsLinkPictured l) Expr Link (λ e. e.0) (λ l. l.0) y ≡ x → IsLinkPictured (roll-Link x)
    link_layer x y is = subst (λ z. IsLinkPictured (roll-Link z)) is (link_opened (map-Link ((e : Expr) × IsPictured e) ((l : Link) × IsLinkPictured l) Expr Link (λ e. e.0) (λ l. l.0) y) y.value.1)

    pub evaluate_pictured : (e : Expr) (s : S) → mapped (both h g) (evaluate M decls indices elements e s) ≡ evaluate N decls indices (pictured h elements) e (g s)
    evaluate_pictured = ind-Expr IsPictured IsLinkPictured layer link_layer

  abbrev states : State X S → State Y T
  states s = (pictured h s.0, g s.1)

  abbrev IsExecuted : Stmt → Type 0
  IsExecuted s = (indices : List ℤ) (from : State X S) → mapped states (execute M decls s indices from) ≡ execute N decls s indices (states from)

  assigned : (target : Place) (value : Expr) (indices : List ℤ) (s : State X S) → mapped states (assign M decls target value indices s) ≡ assign N decls target value indices (states s)
  unfolding assign
  assigned target value indices s =
      mapped-then (both h g) states _ _ _ _ (evaluate_pictured indices s.0 value s.1) (λ v.
      mapped-after states (located decls indices target) _ _ (λ c. ap (λ z. Ok (z, g v.1)) (put_pictured h s.0 c v.0)))

  body_pictured : (body : List ((s : Stmt) × IsExecuted s)) (indices : List ℤ) (s : State X S)
      → mapped states (in_turn (all_at (map (execute M decls) (map (λ e. e.0) body)) indices) s) ≡ in_turn (all_at (map (execute N decls) (map (λ e. e.0) body)) indices) (states s)
  body_pictured [] indices s = refl
  body_pictured (e ∷ body) indices s = mapped-then states states _ _ _ _ (e.1 indices s) (body_pictured body indices)

  pass_pictured : (body : List ((s : Stmt) × IsExecuted s)) (indices : List ℤ) (i : ℤ) (s : State X S)
      → mapped states (one_pass (map (execute M decls) (map (λ e. e.0) body)) indices i s) ≡ one_pass (map (execute N decls) (map (λ e. e.0) body)) indices i (states s)
  unfolding one_pass
  pass_pictured body indices i s = body_pictured body (indices ++ i ∷ []) s

  branch_pictured : (holds : Bool) (taken other : List ((s : Stmt) × IsExecuted s)) (indices : List ℤ) (s : State X S)
      → mapped states (in_turn (all_at (if holds then map (execute M decls) (map (λ e. e.0) taken) else map (execute M decls) (map (λ e. e.0) other)) indices) s)
      ≡ in_turn (all_at (if holds then map (execute N decls) (map (λ e. e.0) taken) else map (execute N decls) (map (λ e. e.0) other)) indices) (states s)
  branch_pictured true taken other indices s = body_pictured taken indices s
  branch_pictured false taken other indices s = body_pictured other indices s

  stmt_opened : (x : Stmt-F Stmt)
      → ((indices : List ℤ) (s : State X S) → mapped states (stmt_step M decls (map-Stmt Stmt (Execution X S) (execute M decls) x) indices s) ≡ stmt_step N decls (map-Stmt Stmt (Execution Y T) (execute N decls) x) indices (states s))
      → IsExecuted (roll-Stmt x)
  stmt_opened x e indices s =
      ap (λ r. mapped states (r indices s)) (fold-roll-Stmt (Execution X S) (stmt_step M decls) x) ∙ e indices s ∙ sym (ap (λ r. r indices (states s)) (fold-roll-Stmt (Execution Y T) (stmt_step N decls) x))

  stmt_parts : (y : Stmt-F ((s : Stmt) × IsExecuted s)) → IsExecuted (roll-Stmt (map-Stmt ((s : Stmt) × IsExecuted s) Stmt (λ e. e.0) y))
  stmt_parts (Assign target value at) = stmt_opened (Assign target value at) (λ indices s. assigned target value indices s)
  stmt_parts (Loop from to by body at) =
      stmt_opened (Loop from to by (map (λ e. e.0) body) at) (λ indices s.
      mapped-after states (loop_numbers indices from to by) _ _ (λ ns. each_mapped states _ _ ns (pass_pictured body indices) s))
  stmt_parts (Branch left rel right taken other at) =
      stmt_opened (Branch left rel right (map (λ e. e.0) taken) (map (λ e. e.0) other) at) (λ indices s.
      mapped-after states (condition indices left rel right) _ _ (λ holds. branch_pictured holds taken other indices s))

  stmt_layer : (x : Stmt-F Stmt) (y : Stmt-F ((s : Stmt) × IsExecuted s)) → map-Stmt ((s : Stmt) × IsExecuted s) Stmt (λ e. e.0) y ≡ x → IsExecuted (roll-Stmt x)
  stmt_layer x y is = subst (λ z. IsExecuted (roll-Stmt z)) is (stmt_parts y)

  pub execute_pictured : (s : Stmt) (indices : List ℤ) (from : State X S) → mapped states (execute M decls s indices from) ≡ execute N decls s indices (states from)
  execute_pictured = ind-Stmt IsExecuted stmt_layer

  all_pictured : (body : List Stmt) (s : State X S) → mapped states (execute_all M decls body s) ≡ execute_all N decls body (states s)
  all_pictured [] s = refl
  all_pictured (x ∷ body) s = mapped-then states states _ _ _ _ (execute_pictured x [] s) (all_pictured body)

  entered : (input : ℕ → Run X S) (input' : ℕ → Run Y T) → ((at : ℕ) (s : S) → mapped (both h g) (input at s) ≡ input' at (g s))
      → (c : ℕ × Cell) (s : State X S) → mapped states (enter input c s) ≡ enter input' c (states s)
  entered input input' e c s = mapped-then (both h g) states _ _ _ _ (e c.0 s.1) (λ v. ap (λ z. Ok (z, g v.1)) (put_pictured h s.0 c.1 v.0))

  held_pictured : (f : Fault) (o : Option X) → mapped h (held f o) ≡ held f (option_map h o)
  held_pictured f None = refl
  held_pictured f (Some v) = refl

  abbrev ends : List X × S → List Y × T
  ends r = (map h r.0, g r.1)

  left : (elements : Elements X) (c : ℕ × Cell) (r : List X × S) → mapped ends (leave M elements c r) ≡ leave N (pictured h elements) c (ends r)
  left elements c r =
      mapped-then h ends _ _ _ _ (held_pictured (output_unset c.0) (elements c.1)) (λ v.
      mapped-then (both h g) ends _ _ _ _ (k.output c.0 v r.1) (λ w. ap (λ z. Ok (z, g w.1)) (map-append h r.0 (w.0 ∷ []))))

-- A whole run over the one machine is, seen through the picture, the run over the other.
pub run_pictured : {X S Y T : Type 0} (M : Machine X S) (N : Machine Y T) (h : X → Y) (g : S → T) → Pictures M N h g
    → (input : ℕ → Run X S) (input' : ℕ → Run Y T) → ((at : ℕ) (s : S) → mapped (both h g) (input at s) ≡ input' at (g s))
    → (k : KernelParts) (s : S) → mapped (λ r. (map h r.0, g r.1)) (run_all M input k s) ≡ run_all N input' k (g s)
run_pictured M N h g p input input' e k s =
    mapped-then (states M N h g p k.decls) (λ r. (map h r.0, g r.1)) _ _ _ _
    (each_mapped (states M N h g p k.decls) (enter input) (enter input') (cells_of kinds.Input 0 k.decls) (entered M N h g p k.decls input input' e) (no_elements, s))
    (λ from. mapped-then (states M N h g p k.decls) (λ r. (map h r.0, g r.1)) _ _ _ _ (all_pictured M N h g p k.decls k.body from)
    (λ to. each_mapped (λ r. (map h r.0, g r.1)) (leave M to.0) (leave N (pictured h to.0)) (cells_of kinds.Output 0 k.decls) (left M N h g p k.decls to.0) ([], to.1)))
