-- The constants of a well-formed kernel's graph have 64 bits: by the tree, for the origins of all that elements hold.
use Rattle.std.proofs.Common.{◌≡◌, ◌++◌, if◌then◌else◌, ℕ, zero, suc, ℤ, pos, negsuc, ◌+ℤ◌, ◌-ℤ◌, ◌≤ℤ◌, nat_lt, nat_le, Bool, true, false, cond, ◌&&◌, ◌==◌, List, [], ◌∷◌, map, length, refl, sym, ap, subst, ◌∙◌, Option, Some, None, Result, Ok, Err, slice_index_or, FitsSigned, neg_ℤ, arith}
use Rattle.std.specs.Int.{w64}
use Rattle.std.specs.List.{All}
use Rattle.std.specs.Prelude.{⊤, int_lt, int_le}
use Rattle.std.specs.Int.Bits.{and_lt}
use Rattle.std.proofs.Math.Facts.{sfits_lit, sfits_to_z, Fits-of_z}
use Rattle.std.proofs.lemmas.Bool.{and_parts}
use Rattle.std.proofs.lemmas.Int.{SFits-int_wrap, ints}
use Rattle.std.proofs.lemmas.Nat.{or_lt, xor_lt}
use Rattle.std.proofs.lemmas.List.Elements.{All-nil, All-cons, All-head, All-tail, All-push, All-map, All-take}
use Rattle.comp_graph.specs.declared.operation.Op.{Op}
use Rattle.comp_graph.specs.declared.operation.Op.TheVariants as op
use Rattle.comp_graph.specs.declared.node.Operand.{Operand}
use Rattle.comp_graph.specs.declared.node.Operand.TheVariants.{Vertex, Const}
use Rattle.comp_graph.specs.Graphs.{GraphParts}
use Rattle.comp_graph.specs.Operations.{value_of, arity_of, value_at}
use Rattle.kernel_ast.specs.declared.tree.Index.{Index}
use Rattle.kernel_ast.specs.declared.tree.IndexTree.{IndexTree, roll-IndexTree}
use Rattle.kernel_ast.specs.declared.tree.IndexTree.TheOpen as index
use Rattle.kernel_ast.specs.declared.tree.IndexTree.TheFolds.{fold-IndexLink, fold-roll-IndexTree, ind-IndexTree, map-IndexTree}
use Rattle.kernel_ast.specs.declared.tree.IndexLink.{IndexLink}
use Rattle.kernel_ast.specs.declared.tree.Expr.{Expr, roll-Expr}
use Rattle.kernel_ast.specs.declared.tree.Expr.TheOpen.{Expr-F, Link-F, Number, Turn, Minus, Chain, Call}
use Rattle.kernel_ast.specs.declared.tree.Expr.TheOpen as expr
use Rattle.kernel_ast.specs.declared.tree.Expr.TheFolds.{fold-Link, fold-roll-Expr, fold-roll-Link, ind-Expr, map-Expr, map-Link}
use Rattle.kernel_ast.specs.declared.tree.Link.{Link, roll-Link}
use Rattle.kernel_ast.specs.declared.tree.Stmt.{Stmt, roll-Stmt}
use Rattle.kernel_ast.specs.declared.tree.Stmt.TheOpen.{Stmt-F, Assign, Loop, Branch}
use Rattle.kernel_ast.specs.declared.tree.Stmt.TheFolds.{fold-roll-Stmt, ind-Stmt, map-Stmt}
use Rattle.kernel_ast.specs.declared.tree.DeclKind.TheVariants as kinds
use Rattle.kernel_ast.specs.declared.tree.Place.{Place}
use Rattle.kernel_ast.specs.declared.element.Cell.{Cell}
use Rattle.kernel_ast.specs.declared.element.Fault.{Fault}
use Rattle.kernel_ast.specs.KernelParts.{KernelParts, Declared}
use Rattle.kernel_ast.specs.Steps.{and_then, in_turn, each, rising, clipped, numbers}
use Rattle.kernel_ast.specs.Places.{located, loop_numbers, condition, turn, is_small, small, then_small, index_value_of, index_chain, index_step, index_link_step, index_value, ok_or_fault, big_index, value_of_index, bad_step, tested_step, step_of}
use Rattle.kernel_ast.specs.Walk.{all_at}
use Rattle.kernel_ast.specs.Machine.{Run, Elements, State, Execution, unset, output_unset, read_option, chain, arguments, expr_step, link_step, evaluate, assign, one_pass, stmt_step, execute, execute_all, enter, held, leave, cells_of, no_elements, run_all, put, is_cell}
use Rattle.kernel_ast.specs.Meaning.{Held, Entry, entry, numbered, numbered_input, with_number, too_many_vertices, append_entry, constants, add_constant, fold_or_append, set_output}
use Rattle.kernel_ast.specs.KernelGraph.{padded, node_of}
use Rattle.kernel_ast.specs.WellFormed.{is_number, are_operators, is_function, all, expr_fits_step, expr_fits, stmt_fits_step, stmt_fits, body_fits, target_fits, index_fits, step_fits, IsWellFormed}
use Rattle.kernel_ast.specs.WellFormed as well
use Rattle.kernel_ast.specs.Weights.{assign_weight, loop_weight, branch_weight}
use Rattle.three_address.specs.Laws.{HasSmallConstant, HasSmallConstants, ConstantsAreSmall}
use Rattle.three_address.proofs.KernelGraphLaws.{has_run}
use Rattle.three_address.proofs.KernelRuns.{ok_next}

-- ---- numbers of 64 bits

abbrev Fits : ℤ → Type 0
Fits = FitsSigned w64

zero_fits : Fits (pos 0)
zero_fits = sfits_lit tt

cond_fits : (b : Bool) (x y : ℤ) → Fits x → Fits y → Fits (cond b x y)
cond_fits true x y f g = f
cond_fits false x y f g = g

-- the value of an operation
value_fits : (o : Op) (a b c : ℤ) → Fits a → Fits b → Fits c → Fits (value_of o a b c)
value_fits op.Input a b c f g h = zero_fits
value_fits op.Set a b c f g h = f
value_fits op.Add a b c f g h = SFits-int_wrap w64 _
value_fits op.Sub a b c f g h = SFits-int_wrap w64 _
value_fits op.Mul a b c f g h = SFits-int_wrap w64 _
value_fits op.And a b c f g h = sfits_to_z (record { fits = and_lt 64 _ _ (Fits-of_z f).fits (Fits-of_z g).fits })
value_fits op.Or a b c f g h = sfits_to_z (record { fits = or_lt 64 _ _ (Fits-of_z f).fits (Fits-of_z g).fits })
value_fits op.Xor a b c f g h = sfits_to_z (record { fits = xor_lt 64 _ _ (Fits-of_z f).fits (Fits-of_z g).fits })
value_fits op.Neg a b c f g h = SFits-int_wrap w64 _
value_fits op.Min a b c f g h = cond_fits _ b a g f
value_fits op.Max a b c f g h = cond_fits _ a b f g
value_fits op.Sel a b c f g h = cond_fits _ c b h g
value_fits op.Mad a b c f g h = SFits-int_wrap w64 _

-- a number of a list, or 0
item_fits : (ns : List ℤ) (k : ℕ) → All Fits ns → Fits (slice_index_or ns k (pos 0))
item_fits [] k f = zero_fits
item_fits (n ∷ ns) zero f = All-head Fits n ns f
item_fits (n ∷ ns) (suc k) f = item_fits ns k (All-tail Fits n ns f)

-- a number of the text
number_fits : (n : ℤ) → is_number n ≡ true → Fits n
number_fits (pos k) h = let parts = and_parts (int_le (pos 0) (pos k)) (int_le (pos k) (pos 9223372036854775807)) h in record { sfits = grind (arith, ints) }
number_fits (negsuc k) h = absurd (cc)

-- a number between two others
between_fits : (a x b : ℤ) → Fits a → Fits b → a ≤ℤ x → x ≤ℤ b → Fits x
between_fits a x b f g low high = record { sfits = (let first = f.sfits in let last = g.sfits in grind (arith, ints)) }

-- a value of an index
small_fits : (n m : ℤ) → small n ≡ Some m → Fits m
small_fits n m h = tested (is_small n) refl h
  where
    tested : (b : Bool) → is_small n ≡ b → (if b then Some n else None) ≡ Some m → Fits m
    tested true is e =
        let same : n ≡ m = cc in
        let parts = and_parts (int_le (negsuc 999999) n) (int_le n (pos 1000000)) is in
        subst Fits same (between_fits (negsuc 999999) n (pos 1000000) (sfits_lit tt) (sfits_lit tt) (grind (arith, ints)) (grind (arith, ints)))
    tested false is e = absurd (cc)

-- ---- indices

module _ (turns : List ℤ) (open_fit : All Fits turns) where
  abbrev IsTreeGood : IndexTree → Type 0
  IsTreeGood t = (n : ℤ) → index_value turns t ≡ Some n → Fits n

  abbrev IsLinkGood : IndexLink → Type 0
  IsLinkGood l = ⊤

  abbrev link_value : IndexLink → Op × Option ℤ
  link_value = fold-IndexLink (Option ℤ) (Op × Option ℤ) (index_step turns) index_link_step

  chain_fits : (total : ℤ) (ls : List (Op × Option ℤ)) (n : ℤ) → Fits total → index_chain total ls ≡ Some n → Fits n
  chain_fits total [] n f e = let same : total ≡ n = cc in subst Fits same f
  chain_fits total (l ∷ ls) n f e = by_right l.1 (λ m fit more. chain_fits m ls n fit more) e
    where
      by_next : (next : Option ℤ) → ((m : ℤ) → next ≡ Some m → Fits m) → ((m : ℤ) → Fits m → index_chain m ls ≡ Some n → Fits n) → then_small next (λ m. index_chain m ls) ≡ Some n → Fits n
      by_next None fits rest e = absurd (cc)
      by_next (Some m) fits rest e = rest m (fits m refl) e

      by_right : (right : Option ℤ) → ((m : ℤ) → Fits m → index_chain m ls ≡ Some n → Fits n) → then_small right (λ m. then_small (small (index_value_of l.0 total m)) (λ next. index_chain next ls)) ≡ Some n → Fits n
      by_right None rest e = absurd (cc)
      by_right (Some m) rest e = by_next (small (index_value_of l.0 total m)) (λ k is. small_fits (index_value_of l.0 total m) k is) rest e

  layer_parts : (y : index.IndexTree-F ((t : IndexTree) × IsTreeGood t) ((l : IndexLink) × IsLinkGood l))
      → (n : ℤ) → index_step turns (map-IndexTree IndexTree IndexLink (Option ℤ) (Op × Option ℤ) (index_value turns) link_value
      (map-IndexTree ((t : IndexTree) × IsTreeGood t) ((l : IndexLink) × IsLinkGood l) IndexTree IndexLink (λ t. t.0) (λ l. l.0) y)) ≡ Some n → Fits n
  layer_parts (index.Number m) n e = small_fits m n e
  layer_parts (index.Turn k) n e = let same : turn turns k ≡ n = cc in subst Fits same (item_fits turns k open_fit)
  layer_parts (index.Minus value) n e = by_value (index_value turns value.0) e
    where
      by_value : (o : Option ℤ) → then_small o (λ m. small (neg_ℤ m)) ≡ Some n → Fits n
      by_value None e = absurd (cc)
      by_value (Some m) e = small_fits (neg_ℤ m) n e
  layer_parts (index.Chain first rest) n e = by_first (index_value turns first.0) first.1 e
    where
      links : List (Op × Option ℤ)
      links = map link_value (map (λ l. l.0) rest)

      by_first : (o : Option ℤ) → ((m : ℤ) → o ≡ Some m → Fits m) → then_small o (λ m. index_chain m links) ≡ Some n → Fits n
      by_first None fits e = absurd (cc)
      by_first (Some m) fits e = chain_fits m links n (fits m refl) e

  layer : (x : index.IndexTree-F IndexTree IndexLink) (y : index.IndexTree-F ((t : IndexTree) × IsTreeGood t) ((l : IndexLink) × IsLinkGood l))
      → map-IndexTree ((t : IndexTree) × IsTreeGood t) ((l : IndexLink) × IsLinkGood l) IndexTree IndexLink (λ t. t.0) (λ l. l.0) y ≡ x → IsTreeGood (roll-IndexTree x)
  layer x y is = subst (λ z. IsTreeGood (roll-IndexTree z)) is (λ n e.
      layer_parts y n (sym (fold-roll-IndexTree (Option ℤ) (Op × Option ℤ) (index_step turns) index_link_step
      (map-IndexTree ((t : IndexTree) × IsTreeGood t) ((l : IndexLink) × IsLinkGood l) IndexTree IndexLink (λ t. t.0) (λ l. l.0) y)) ∙ e))

  tree_fits : (t : IndexTree) → IsTreeGood t
  tree_fits = ind-IndexTree IsTreeGood IsLinkGood layer (λ x y is. tt)

  value_of_index_fits : (i : Index) (n : ℤ) → value_of_index turns i ≡ Ok n → Fits n
  value_of_index_fits i n e = by_value (index_value turns i.tree) (tree_fits i.tree) e
    where
      by_value : (o : Option ℤ) → ((m : ℤ) → o ≡ Some m → Fits m) → ok_or_fault (big_index i.at) o ≡ Ok n → Fits n
      by_value None fits e = absurd (cc)
      by_value (Some m) fits e = let same : m ≡ n = cc in subst Fits same (fits m refl)

  -- a step is at least 1
  tested_rises : (at : ℕ) (n m : ℤ) → tested_step at n ≡ Ok m → pos 1 ≤ℤ m
  tested_rises at n m e = tested (int_le (pos 1) n) refl e
    where
      tested : (b : Bool) → int_le (pos 1) n ≡ b → (if b then Ok n else Err (bad_step at)) ≡ Ok m → pos 1 ≤ℤ m
      tested true is e = let same : n ≡ m = cc in subst (λ k. pos 1 ≤ℤ k) same (grind (arith, ints))
      tested false is e = absurd (cc)

  step_rises : (by : Option Index) (n : ℤ) → step_of turns by ≡ Ok n → pos 1 ≤ℤ n
  step_rises None n e = let same : pos 1 ≡ n = cc in subst (λ k. pos 1 ≤ℤ k) same (omega (arith, ints))
  step_rises (Some by) n e = let value = ok_next (value_of_index turns by) (tested_step by.at) n e in tested_rises by.at value.0 n value.2

  -- the numbers from one to below another
  rising_fits : (n : ℕ) (first a b step : ℤ) → Fits first → Fits b → first ≤ℤ a → pos 1 ≤ℤ step → All Fits (rising n a b step)
  rising_fits zero first a b step f g low up = All-nil Fits
  rising_fits (suc n) first a b step f g low up =
      let next : first ≤ℤ (a +ℤ step) = omega (arith, ints, low, up) in
      tested (int_lt a b) refl (rising_fits n first (a +ℤ step) b step f g next up)
    where
      tested : (t : Bool) → int_lt a b ≡ t → All Fits (rising n (a +ℤ step) b step) → All Fits (if t then a ∷ rising n (a +ℤ step) b step else [])
      tested true is rest =
          let below : a ≤ℤ b = grind (arith, ints) in
          All-cons Fits a (rising n (a +ℤ step) b step) (between_fits first a b f g low below) rest
      tested false is rest = All-nil Fits

  numbers_fit : (a b step : ℤ) → Fits a → Fits b → pos 1 ≤ℤ step → All Fits (numbers a b step)
  unfolding numbers
  numbers_fit a b step f g up = rising_fits (clipped (b -ℤ a)) a a b step f g (omega (arith, ints)) up

  pub loop_numbers_fit : (from to : Index) (by : Option Index) (ns : List ℤ) → loop_numbers turns from to by ≡ Ok ns → All Fits ns
  unfolding loop_numbers
  loop_numbers_fit from to by ns e =
      let first = ok_next (value_of_index turns from) (λ a. and_then (value_of_index turns to) (λ b. and_then (step_of turns by) (λ step. Ok (numbers a b step)))) ns e in
      let last = ok_next (value_of_index turns to) (λ b. and_then (step_of turns by) (λ step. Ok (numbers first.0 b step))) ns first.2 in
      let step = ok_next (step_of turns by) (λ step. Ok (numbers first.0 last.0 step)) ns last.2 in
      let same : numbers first.0 last.0 step.0 ≡ ns = (let made = step.2 in cc) in
      subst (All Fits) same (numbers_fit first.0 last.0 step.0 (value_of_index_fits from first.0 first.1) (value_of_index_fits to last.0 last.1) (step_rises by step.0 step.1))

-- ---- a step, which keeps the log

-- each constant of an entry has 64 bits
abbrev IsSmallEntry : Entry → Type 0
IsSmallEntry e = All HasSmallConstant e.operands

abbrev IsSmallLog : List Entry → Type 0
IsSmallLog log = All IsSmallEntry log

-- what is held comes from a vertex or from such a constant
abbrev IsSmallHeld : Held → Type 0
IsSmallHeld a = HasSmallConstant a.origin

-- and so all that elements hold
record AreSmall (elements : Elements Held) : Type 0 where
  each : (c : Cell) (a : Held) → elements c ≡ Some a → IsSmallHeld a

-- if a step has no fault, it keeps the log, and what it gives is good
record Kept {B : Type 0} (Good : B → Type 0) (o : Result (B × List Entry) Fault) : Type 0 where
  next : (r : B × List Entry) → o ≡ Ok r → Good r.0 × IsSmallLog r.1

kept_ok : {B : Type 0} (Good : B → Type 0) (b : B) (log : List Entry) → Good b → IsSmallLog log → Kept Good (Ok (b, log))
kept_ok Good b log good l = record { next = λ r is. let same : (b, log) ≡ r = cc in subst (λ q. Good q.0 × IsSmallLog q.1) same (good, l) }

kept_err : {B : Type 0} (Good : B → Type 0) (f : Fault) → Kept {B = B} Good (Err f)
kept_err Good f = record { next = λ r is. absurd (cc) }

kept_then : {B C : Type 0} (G : B → Type 0) (H : C → Type 0) (o : Result (B × List Entry) Fault) (f : B × List Entry → Result (C × List Entry) Fault)
    → Kept G o → ((b : B) (log : List Entry) → G b → IsSmallLog log → Kept H (f (b, log))) → Kept H (and_then o f)
kept_then G H (Err x) f k e = kept_err H x
kept_then G H (Ok q) f k e = let one = k.next q refl in e q.0 q.1 one.0 one.1

kept_after : {A B : Type 0} (G : B → Type 0) (o : Result A Fault) (f : A → Result (B × List Entry) Fault) → ((a : A) → o ≡ Ok a → Kept G (f a)) → Kept G (and_then o f)
kept_after G (Ok a) f k = k a refl
kept_after G (Err x) f k = kept_err G x

each_kept : {A B : Type 0} (P : A → Type 0) (G : B → Type 0) (f : A → B × List Entry → Result (B × List Entry) Fault) (xs : List A) → All P xs
    → ((a : A) → P a → (b : B) (log : List Entry) → G b → IsSmallLog log → Kept G (f a (b, log))) → (b : B) (log : List Entry) → G b → IsSmallLog log → Kept G (each f xs (b, log))
each_kept P G f [] all step b log g l = kept_ok G b log g l
each_kept P G f (a ∷ xs) all step b log g l =
    kept_then G G (f a (b, log)) (each f xs) (step a (All-head P a xs all) b log g l) (λ c next h m. each_kept P G f xs (All-tail P a xs all) step c next h m)

-- ---- what the machine does

appended : (Good : Held → Type 0) (at : ℕ) (e : Entry) (number : List ℤ → ℤ) (log : List Entry) → IsSmallEntry e → IsSmallLog log
    → Good (record { number = number; origin = Vertex (length log) }) → Kept Good (and_then (append_entry at e log) (with_number number))
appended Good at e number log small l good = tested (nat_lt (length log) 256)
  where
    tested : (b : Bool) → Kept Good (and_then (if b then Ok (Vertex (length log), log ++ e ∷ []) else Err (too_many_vertices at)) (with_number number))
    tested true = kept_ok Good (record { number = number; origin = Vertex (length log) }) (log ++ e ∷ []) good (All-push IsSmallEntry log e l small)
    tested false = kept_err Good (too_many_vertices at)

constants_fit : (os : List Operand) (ns : List ℤ) → All HasSmallConstant os → constants os ≡ Some ns → All Fits ns
constants_fit [] ns s e = let same : [] ≡ ns = cc in subst (All Fits) same (All-nil Fits)
constants_fit (Vertex v ∷ os) ns s e = absurd (cc)
constants_fit (Const n ∷ os) ns s e = rest (constants os) (constants_fit os) e
  where
    rest : (c : Option (List ℤ)) → ((ms : List ℤ) → All HasSmallConstant os → c ≡ Some ms → All Fits ms) → add_constant (Const n) c ≡ Some ns → All Fits ns
    rest None more e = absurd (cc)
    rest (Some ms) more e =
        let same : n ∷ ms ≡ ns = cc in
        subst (All Fits) same (All-cons Fits n ms (All-head HasSmallConstant (Const n) os s) (more ms (All-tail HasSmallConstant (Const n) os s) refl))

-- an operation
operated : (o : Op) (at : ℕ) (args : List Held) (log : List Entry) → All IsSmallHeld args → IsSmallLog log → Kept IsSmallHeld (numbered.operate o at args log)
operated o at args log s l = known (constants (map (λ a. a.origin) args)) refl
  where
    origins_small : All HasSmallConstant (map (λ (a : Held). a.origin) args)
    origins_small = All-map HasSmallConstant (λ (a : Held). a.origin) args s

    known : (c : Option (List ℤ)) → constants (map (λ a. a.origin) args) ≡ c
        → Kept IsSmallHeld (and_then (fold_or_append o at (map (λ a. a.origin) args) c log) (with_number (λ values. value_at o (map (λ a. a.number values) args))))
    known None e = appended IsSmallHeld at (entry o (map (λ a. a.origin) args)) (λ values. value_at o (map (λ a. a.number values) args)) log origins_small l tt
    known (Some ns) e =
        let fit = constants_fit (map (λ a. a.origin) args) ns origins_small e in
        kept_ok IsSmallHeld _ log (value_fits o _ _ _ (item_fits ns 0 fit) (item_fits ns 1 fit) (item_fits ns 2 fit)) l

-- an output element
put_out : (at : ℕ) (v : Held) (log : List Entry) → IsSmallHeld v → IsSmallLog log → Kept IsSmallHeld (numbered.output at v log)
put_out at v log s l = known v.origin s
  where
    known : (o : Operand) → HasSmallConstant o → Kept IsSmallHeld (and_then (set_output at o log) (with_number v.number))
    known (Vertex k) s = kept_ok IsSmallHeld _ log tt l
    known (Const c) s = appended IsSmallHeld at (entry op.Set (Const c ∷ [])) v.number log (All-cons HasSmallConstant (Const c) [] s (All-nil HasSmallConstant)) l tt

-- an element is set
put_small : (elements : Elements Held) (c : Cell) (v : Held) → AreSmall elements → IsSmallHeld v → AreSmall (put elements c v)
put_small elements c v es s = record { each = λ other a. tested other a (is_cell other c) (elements other) (es.each other a) }
  where
    tested : (other : Cell) (a : Held) (b : Bool) (o : Option Held) → (o ≡ Some a → IsSmallHeld a) → (if b then Some v else o) ≡ Some a → IsSmallHeld a
    tested other a true o h e = let same : v ≡ a = cc in subst IsSmallHeld same s
    tested other a false o h e = h e

-- ---- expressions

module _ (decls : List Declared) (loops : ℕ) (indices : List ℤ) (open_fit : All Fits indices) (elements : Elements Held) (es : AreSmall elements) where
  abbrev link_run : Link → (Op × ℕ) × Run Held (List Entry)
  link_run = fold-Link (Run Held (List Entry)) ((Op × ℕ) × Run Held (List Entry)) (expr_step numbered decls indices elements) link_step

  abbrev link_fit : Link → Op × Bool
  link_fit = fold-Link Bool (Op × Bool) (expr_fits_step decls loops) well.link_step

  abbrev IsGood : Expr → Type 0
  IsGood e = expr_fits decls loops e ≡ true → (log : List Entry) → IsSmallLog log → Kept IsSmallHeld (evaluate numbered decls indices elements e log)

  record IsGoodLink (l : Link) : Type 0 where
    value : (link_fit l).1 ≡ true → (log : List Entry) → IsSmallLog log → Kept IsSmallHeld ((link_run l).1 log)

  opened : (x : Expr-F Expr Link)
      → (expr_fits_step decls loops (map-Expr Expr Link Bool (Op × Bool) (expr_fits decls loops) link_fit x) ≡ true → (log : List Entry) → IsSmallLog log
      → Kept IsSmallHeld (expr_step numbered decls indices elements (map-Expr Expr Link (Run Held (List Entry)) ((Op × ℕ) × Run Held (List Entry)) (evaluate numbered decls indices elements) link_run x) log))
      → IsGood (roll-Expr x)
  opened x e fit log l =
      let fits = sym (fold-roll-Expr Bool (Op × Bool) (expr_fits_step decls loops) well.link_step x) ∙ fit in
      subst (λ (r : Run Held (List Entry)). Kept IsSmallHeld (r log))
      (sym (fold-roll-Expr (Run Held (List Entry)) ((Op × ℕ) × Run Held (List Entry)) (expr_step numbered decls indices elements) link_step x)) (e fits log l)

  read_kept : (place : Place) (c : Cell) (log : List Entry) → IsSmallLog log → Kept IsSmallHeld (read_option (unset place.at) (elements c) log)
  read_kept place c log l = found (elements c) (es.each c)
    where
      found : (o : Option Held) → ((a : Held) → o ≡ Some a → IsSmallHeld a) → Kept IsSmallHeld (read_option (unset place.at) o log)
      found None h = kept_err IsSmallHeld (unset place.at)
      found (Some a) h = kept_ok IsSmallHeld a log (h a refl) l

  chain_good : (rest : List ((l : Link) × IsGoodLink l)) → all (map (λ l. l.1) (map link_fit (map (λ l. l.0) rest))) ≡ true → (v : Held) (log : List Entry) → IsSmallHeld v → IsSmallLog log
      → Kept IsSmallHeld (chain numbered (map link_run (map (λ l. l.0) rest)) (v, log))
  chain_good [] fit v log good l = kept_ok IsSmallHeld v log good l
  chain_good (k ∷ rest) fit v log good l =
      let fits = and_parts (link_fit k.0).1 (all (map (λ l. l.1) (map link_fit (map (λ l. l.0) rest)))) fit in
      kept_then IsSmallHeld IsSmallHeld _ _ (k.1.value fits.0 log l) (λ w next found m.
      let both : All IsSmallHeld (v ∷ w ∷ []) = All-cons IsSmallHeld v (w ∷ []) good (All-cons IsSmallHeld w [] found (All-nil IsSmallHeld)) in
      kept_then IsSmallHeld IsSmallHeld _ _ (operated (link_run k.0).0.0 (link_run k.0).0.1 (v ∷ w ∷ []) next both m) (λ u last made n.
      chain_good rest fits.1 u last made n))

  arguments_good : (args : List ((e : Expr) × IsGood e)) → all (map (expr_fits decls loops) (map (λ e. e.0) args)) ≡ true
      → (vs : List Held) (log : List Entry) → All IsSmallHeld vs → IsSmallLog log
      → Kept (All IsSmallHeld) (arguments (map (evaluate numbered decls indices elements) (map (λ e. e.0) args)) (vs, log))
  arguments_good [] fit vs log s l = kept_ok (All IsSmallHeld) vs log s l
  arguments_good (a ∷ args) fit vs log s l =
      let fits = and_parts (expr_fits decls loops a.0) (all (map (expr_fits decls loops) (map (λ e. e.0) args))) fit in
      kept_then IsSmallHeld (All IsSmallHeld) _ _ (a.1 fits.0 log l) (λ v next found m. arguments_good args fits.1 (vs ++ v ∷ []) next (All-push IsSmallHeld vs v s found) m)

  expr_parts : (y : Expr-F ((e : Expr) × IsGood e) ((l : Link) × IsGoodLink l))
      → IsGood (roll-Expr (map-Expr ((e : Expr) × IsGood e) ((l : Link) × IsGoodLink l) Expr Link (λ e. e.0) (λ l. l.0) y))
  expr_parts (Number n) = opened (Number n) (λ f log l. kept_ok IsSmallHeld (numbered.constant n) log (number_fits n f) l)
  expr_parts (expr.Cell place) = opened (expr.Cell place) (λ f log l. kept_after IsSmallHeld (located decls indices place) _ (λ c is. read_kept place c log l))
  expr_parts (Turn t) = opened (Turn t) (λ f log l. kept_ok IsSmallHeld (numbered.constant (turn indices t)) log (item_fits indices t open_fit) l)
  expr_parts (Minus value at) =
      opened (Minus value.0 at) (λ f log l. kept_then IsSmallHeld IsSmallHeld _ _ (value.1 f log l) (λ v next found m.
      operated op.Neg at (v ∷ []) next (All-cons IsSmallHeld v [] found (All-nil IsSmallHeld)) m))
  expr_parts (Chain first rest) =
      opened (Chain first.0 (map (λ l. l.0) rest)) (λ f log l.
      let parts = and_parts (expr_fits decls loops first.0) (are_operators (map (λ l. l.0) (map link_fit (map (λ l. l.0) rest))) && all (map (λ l. l.1) (map link_fit (map (λ l. l.0) rest)))) f in
      let more = and_parts (are_operators (map (λ l. l.0) (map link_fit (map (λ l. l.0) rest)))) (all (map (λ l. l.1) (map link_fit (map (λ l. l.0) rest)))) parts.1 in
      kept_then IsSmallHeld IsSmallHeld _ _ (first.1 parts.0 log l) (λ v next found m. chain_good rest more.1 v next found m))
  expr_parts (Call o args at) =
      opened (Call o (map (λ e. e.0) args) at) (λ f log l.
      let fits : List Bool = map (expr_fits decls loops) (map (λ e. e.0) args) in
      let parts = and_parts (is_function o) ((length fits == arity_of o) && all fits) f in
      let more = and_parts (length fits == arity_of o) (all fits) parts.1 in
      kept_then (All IsSmallHeld) IsSmallHeld _ _ (arguments_good args more.1 [] log (All-nil IsSmallHeld) l) (λ vs next found m. operated o at vs next found m))

  expr_layer : (x : Expr-F Expr Link) (y : Expr-F ((e : Expr) × IsGood e) ((l : Link) × IsGoodLink l))
      → map-Expr ((e : Expr) × IsGood e) ((l : Link) × IsGoodLink l) Expr Link (λ e. e.0) (λ l. l.0) y ≡ x → IsGood (roll-Expr x)
  expr_layer x y is = subst (λ z. IsGood (roll-Expr z)) is (expr_parts y)

  link_opened : (x : Link-F Expr Link) → IsGood x.value → IsGoodLink (roll-Link x)
  link_opened x good =
      let run : link_run (roll-Link x) ≡ ((x.op, x.at), evaluate numbered decls indices elements x.value) = fold-roll-Link (Run Held (List Entry)) ((Op × ℕ) × Run Held (List Entry)) (expr_step numbered decls indices elements) link_step x in
      let fit : link_fit (roll-Link x) ≡ (x.op, expr_fits decls loops x.value) = fold-roll-Link Bool (Op × Bool) (expr_fits_step decls loops) well.link_step x in
      record { value = λ fits log l. subst (λ (r : (Op × ℕ) × Run Held (List Entry)). Kept IsSmallHeld (r.1 log)) (sym run) (good (sym (ap (λ (r : Op × Bool). r.1) fit) ∙ fits) log l) }

  link_layer : (x : Link-F Expr Link) (y : Link-F ((e : Expr) × IsGood e) ((l : Link) × IsGoodLink l))
      → map-Link ((e : Expr) × IsGood e) ((l : Link) × IsGoodLink l) Expr Link (λ e. e.0) (λ l. l.0) y ≡ x → IsGoodLink (roll-Link x)
  link_layer x y is = subst (λ z. IsGoodLink (roll-Link z)) is (link_opened (map-Link ((e : Expr) × IsGood e) ((l : Link) × IsGoodLink l) Expr Link (λ e. e.0) (λ l. l.0) y) y.value.1)

  evaluate_good : (e : Expr) → IsGood e
  evaluate_good = ind-Expr IsGood IsGoodLink expr_layer link_layer

-- ---- statements

module _ (decls : List Declared) where
  abbrev IsStep : (State Held (List Entry) → Result (State Held (List Entry)) Fault) → Type 0
  IsStep f = (elements : Elements Held) (log : List Entry) → AreSmall elements → IsSmallLog log → Kept AreSmall (f (elements, log))

  abbrev IsStmtGood : Stmt → Type 0
  IsStmtGood s = (loops : ℕ) → stmt_fits decls s loops ≡ true → (indices : List ℤ) → All Fits indices → IsStep (execute numbered decls s indices)

  stmt_opened : (x : Stmt-F Stmt)
      → ((loops : ℕ) → stmt_fits_step decls (map-Stmt Stmt (ℕ → Bool) (stmt_fits decls) x) loops ≡ true → (indices : List ℤ) → All Fits indices
      → IsStep (stmt_step numbered decls (map-Stmt Stmt (Execution Held (List Entry)) (execute numbered decls) x) indices))
      → IsStmtGood (roll-Stmt x)
  stmt_opened x e loops fit indices open_fit elements log s l =
      let fits = sym (ap (λ (r : ℕ → Bool). r loops) (fold-roll-Stmt (ℕ → Bool) (stmt_fits_step decls) x)) ∙ fit in
      subst (λ (r : Execution Held (List Entry)). Kept AreSmall (r indices (elements, log)))
      (sym (fold-roll-Stmt (Execution Held (List Entry)) (stmt_step numbered decls) x)) (e loops fits indices open_fit elements log s l)

  assigned : (target : Place) (value : Expr) (loops : ℕ) → expr_fits decls loops value ≡ true → (indices : List ℤ) → All Fits indices → IsStep (assign numbered decls target value indices)
  unfolding assign
  assigned target value loops fit indices open_fit elements log s l =
      kept_then IsSmallHeld AreSmall _ _ (evaluate_good decls loops indices open_fit elements s value fit log l) (λ v next found m.
      kept_after AreSmall (located decls indices target) _ (λ c is. kept_ok AreSmall (put elements c v) next (put_small elements c v s found) m))

  body_good : (body : List ((s : Stmt) × IsStmtGood s)) (loops : ℕ) → well.all_at loops (map (stmt_fits decls) (map (λ e. e.0) body)) ≡ true
      → (indices : List ℤ) → All Fits indices → IsStep (in_turn (all_at (map (execute numbered decls) (map (λ e. e.0) body)) indices))
  body_good [] loops fit indices open_fit elements log s l = kept_ok AreSmall elements log s l
  body_good (e ∷ body) loops fit indices open_fit elements log s l =
      let fits = and_parts (stmt_fits decls e.0 loops) (well.all_at loops (map (stmt_fits decls) (map (λ e. e.0) body))) fit in
      kept_then AreSmall AreSmall _ _ (e.1 loops fits.0 indices open_fit elements log s l) (λ after next found m. body_good body loops fits.1 indices open_fit after next found m)

  branch_good : (holds : Bool) (taken other : List ((s : Stmt) × IsStmtGood s)) (loops : ℕ) → well.all_at loops (map (stmt_fits decls) (map (λ e. e.0) taken)) ≡ true → well.all_at loops (map (stmt_fits decls) (map (λ e. e.0) other)) ≡ true
      → (indices : List ℤ) → All Fits indices → IsStep (in_turn (all_at (if holds then map (execute numbered decls) (map (λ e. e.0) taken) else map (execute numbered decls) (map (λ e. e.0) other)) indices))
  branch_good true taken other loops f g indices open_fit elements log s l = body_good taken loops f indices open_fit elements log s l
  branch_good false taken other loops f g indices open_fit elements log s l = body_good other loops g indices open_fit elements log s l

  pass_good : (body : List ((s : Stmt) × IsStmtGood s)) (loops : ℕ) → well.all_at loops (map (stmt_fits decls) (map (λ e. e.0) body)) ≡ true
      → (indices : List ℤ) → All Fits indices → (i : ℤ) → Fits i → IsStep (one_pass (map (execute numbered decls) (map (λ e. e.0) body)) indices i)
  unfolding one_pass
  pass_good body loops fit indices open_fit i here elements log s l = body_good body loops fit (indices ++ i ∷ []) (All-push Fits indices i open_fit here) elements log s l

  stmt_parts : (y : Stmt-F ((s : Stmt) × IsStmtGood s)) → IsStmtGood (roll-Stmt (map-Stmt ((s : Stmt) × IsStmtGood s) Stmt (λ e. e.0) y))
  stmt_parts (Assign target value at) =
      stmt_opened (Assign target value at) (λ loops f indices open_fit elements log s l.
      let parts = and_parts (target_fits decls loops target) (expr_fits decls loops value && nat_le (assign_weight target value) 65536) f in
      let more = and_parts (expr_fits decls loops value) (nat_le (assign_weight target value) 65536) parts.1 in
      assigned target value loops more.0 indices open_fit elements log s l)
  stmt_parts (Loop from to by body at) =
      stmt_opened (Loop from to by (map (λ e. e.0) body) at) (λ loops f indices open_fit elements log s l.
      let fits : Bool = well.all_at (suc loops) (map (stmt_fits decls) (map (λ e. e.0) body)) in
      let light : Bool = nat_le (loop_weight from to by) 65536 in
      let one = and_parts (nat_lt loops 32) (index_fits loops from && (index_fits loops to && (step_fits loops by && (light && fits)))) f in
      let two = and_parts (index_fits loops from) (index_fits loops to && (step_fits loops by && (light && fits))) one.1 in
      let three = and_parts (index_fits loops to) (step_fits loops by && (light && fits)) two.1 in
      let four = and_parts (step_fits loops by) (light && fits) three.1 in
      let five = and_parts light fits four.1 in
      kept_after AreSmall (loop_numbers indices from to by) _ (λ ns is.
      each_kept Fits AreSmall (one_pass (map (execute numbered decls) (map (λ e. e.0) body)) indices) ns (loop_numbers_fit indices open_fit from to by ns is)
      (λ i here after next found m. pass_good body (suc loops) five.1 indices open_fit i here after next found m) elements log s l))
  stmt_parts (Branch left rel right taken other at) =
      stmt_opened (Branch left rel right (map (λ e. e.0) taken) (map (λ e. e.0) other) at) (λ loops f indices open_fit elements log s l.
      let first : Bool = well.all_at loops (map (stmt_fits decls) (map (λ e. e.0) taken)) in
      let second : Bool = well.all_at loops (map (stmt_fits decls) (map (λ e. e.0) other)) in
      let light : Bool = nat_le (branch_weight left right) 65536 in
      let one = and_parts (index_fits loops left) (index_fits loops right && (light && (first && second))) f in
      let two = and_parts (index_fits loops right) (light && (first && second)) one.1 in
      let three = and_parts light (first && second) two.1 in
      let four = and_parts first second three.1 in
      kept_after AreSmall (condition indices left rel right) _ (λ holds is. branch_good holds taken other loops four.0 four.1 indices open_fit elements log s l))

  stmt_layer : (x : Stmt-F Stmt) (y : Stmt-F ((s : Stmt) × IsStmtGood s)) → map-Stmt ((s : Stmt) × IsStmtGood s) Stmt (λ e. e.0) y ≡ x → IsStmtGood (roll-Stmt x)
  stmt_layer x y is = subst (λ w. IsStmtGood (roll-Stmt w)) is (stmt_parts y)

  execute_good : (s : Stmt) → IsStmtGood s
  execute_good = ind-Stmt IsStmtGood stmt_layer

  all_good : (body : List Stmt) → body_fits decls 0 body ≡ true → IsStep (execute_all numbered decls body)
  all_good [] fit elements log s l = kept_ok AreSmall elements log s l
  all_good (x ∷ body) fit elements log s l =
      let fits = and_parts (stmt_fits decls x 0) (body_fits decls 0 body) fit in
      kept_then AreSmall AreSmall _ _ (execute_good x 0 fits.0 [] (All-nil Fits) elements log s l) (λ after next found m. all_good body fits.1 after next found m)

-- ---- whole runs

-- an input element
entered : (c : ℕ × Cell) (elements : Elements Held) (log : List Entry) → AreSmall elements → IsSmallLog log → Kept AreSmall (enter numbered_input c (elements, log))
entered c elements log s l =
    kept_then IsSmallHeld AreSmall _ _ (appended IsSmallHeld c.0 (entry op.Input []) (λ values. slice_index_or values (length log) (pos 0)) log (All-nil HasSmallConstant) l tt) (λ v next found m.
    kept_ok AreSmall (put elements c.1 v) next (put_small elements c.1 v s found) m)

-- an output element
left : (elements : Elements Held) (s : AreSmall elements) (c : ℕ × Cell) (found : List Held) (log : List Entry) → ⊤ → IsSmallLog log → Kept (λ (held : List Held). ⊤) (leave numbered elements c (found, log))
left elements s c found log t l = is_set (elements c.1) (s.each c.1)
  where
    is_set : (o : Option Held) → ((a : Held) → o ≡ Some a → IsSmallHeld a)
        → Kept (λ (held : List Held). ⊤) (and_then (held (output_unset c.0) o) (λ v. and_then (numbered.output c.0 v log) (λ w. Ok (found ++ w.0 ∷ [], w.1))))
    is_set None h = kept_err (λ (held : List Held). ⊤) (output_unset c.0)
    is_set (Some v) h =
        kept_then IsSmallHeld (λ (held : List Held). ⊤) _ _ (put_out c.0 v log (h v refl) l) (λ w next is m. kept_ok (λ (held : List Held). ⊤) (found ++ w ∷ []) next tt m)

-- nothing is asked of the place of an element
abbrev IsCell : ℕ × Cell → Type 0
IsCell c = ⊤

any_cells : (cs : List (ℕ × Cell)) → All IsCell cs
any_cells [] = All-nil IsCell
any_cells (c ∷ cs) = All-cons IsCell c cs tt (any_cells cs)

nothing_small : AreSmall no_elements
nothing_small = record { each = λ c a e. absurd (cc) }

run_small : (k : KernelParts) (r : List Held × List Entry) → body_fits k.decls 0 k.body ≡ true → run_all numbered numbered_input k [] ≡ Ok r → IsSmallLog r.1
run_small k r fit e =
    let first = ok_next (each (enter numbered_input) (cells_of kinds.Input 0 k.decls) (no_elements, [])) (λ entered. and_then (execute_all numbered k.decls k.body entered) (λ left.
    each (leave numbered left.0) (cells_of kinds.Output 0 k.decls) ([], left.1))) r e in
    let last = ok_next (execute_all numbered k.decls k.body first.0) (λ (left : State Held (List Entry)). each (leave numbered left.0) (cells_of kinds.Output 0 k.decls) ([], left.1)) r first.2 in
    let start = (each_kept IsCell AreSmall (enter numbered_input) (cells_of kinds.Input 0 k.decls) (any_cells (cells_of kinds.Input 0 k.decls)) (λ c t elements log s l. entered c elements log s l)
    no_elements [] nothing_small (All-nil IsSmallEntry)).next first.0 first.1 in
    let after = (all_good k.decls k.body fit (first.0).0 (first.0).1 start.0 start.1).next last.0 last.1 in
    ((each_kept IsCell (λ (held : List Held). ⊤) (leave numbered (last.0).0) (cells_of kinds.Output 0 k.decls) (any_cells (cells_of kinds.Output 0 k.decls)) (λ c t found log u l. left (last.0).0 after.0 c found log u l)
    [] (last.0).1 tt after.1).next r last.2).1

-- ---- graphs

padded_small : (args : List Operand) → All HasSmallConstant args → All HasSmallConstant (padded args)
padded_small [] s = let P : Operand → Type 0 = HasSmallConstant in
    All-cons P (Const (pos 0)) (Const (pos 0) ∷ Const (pos 0) ∷ []) zero_fits (All-cons P (Const (pos 0)) (Const (pos 0) ∷ []) zero_fits (All-cons P (Const (pos 0)) [] zero_fits (All-nil P)))
padded_small (a ∷ []) s = let P : Operand → Type 0 = HasSmallConstant in
    All-cons P a (Const (pos 0) ∷ Const (pos 0) ∷ []) (All-head P a [] s) (All-cons P (Const (pos 0)) (Const (pos 0) ∷ []) zero_fits (All-cons P (Const (pos 0)) [] zero_fits (All-nil P)))
padded_small (a ∷ b ∷ []) s = let P : Operand → Type 0 = HasSmallConstant in
    All-cons P a (b ∷ Const (pos 0) ∷ []) (All-head P a (b ∷ []) s) (All-cons P b (Const (pos 0) ∷ []) (All-head P b [] (All-tail P a (b ∷ []) s)) (All-cons P (Const (pos 0)) [] zero_fits (All-nil P)))
padded_small (a ∷ b ∷ c ∷ more) s = All-take HasSmallConstant 3 (a ∷ b ∷ c ∷ more) s

nodes_small : (log : List Entry) → IsSmallLog log → All HasSmallConstants (map node_of log)
nodes_small [] s = All-nil HasSmallConstants
nodes_small (e ∷ log) s =
    All-cons HasSmallConstants (node_of e) (map node_of log) (padded_small e.operands (All-head IsSmallEntry e log s)) (nodes_small log (All-tail IsSmallEntry e log s))

-- the constants of a well-formed kernel's graph have 64 bits
pub constants_are_small : ConstantsAreSmall
constants_are_small k graph well e =
    let r = has_run k graph e in
    subst (λ (g : GraphParts). All HasSmallConstants g.nodes) r.is (nodes_small r.log (run_small k (r.found, r.log) well.body r.ran))
