-- To go through the executed assignments is to execute the statements.
use Rattle.std.proofs.lemmas.Bool.{and_parts}
use Rattle.std.proofs.Common.{suc, nat_lt, nat_le, ◌≡◌, ◌++◌, ℕ, ℤ, List, [], ◌∷◌, map, refl, sym, ap, ◌∙◌, subst, Result, Ok, Err, Bool, true, false, ◌&&◌, if◌then◌else◌}
use Rattle.kernel_ast.specs.declared.tree.Expr.{Expr}
use Rattle.kernel_ast.specs.declared.tree.Stmt.{Stmt, roll-Stmt}
use Rattle.kernel_ast.specs.declared.tree.Stmt.TheOpen.{Stmt-F, Assign, Loop, Branch}
use Rattle.kernel_ast.specs.declared.tree.Stmt.TheFolds.{fold-roll-Stmt, ind-Stmt, map-Stmt}
use Rattle.kernel_ast.specs.declared.tree.Place.{Place}
use Rattle.kernel_ast.specs.KernelParts.{Declared}
use Rattle.kernel_ast.specs.declared.element.Fault.{Fault}
use Rattle.kernel_ast.specs.declared.element.Cell.{Cell}
use Rattle.kernel_ast.specs.Steps.{and_then, in_turn, each}
use Rattle.kernel_ast.specs.Places.{located, loop_numbers, condition}
use Rattle.kernel_ast.specs.Walk.{all_at, count}
use Rattle.kernel_ast.specs.Weights.{assign_weight, loop_weight, branch_weight}
use Rattle.kernel_ast.specs.WellFormed.{expr_fits, stmt_fits_step, stmt_fits, body_fits, target_fits, index_fits, step_fits}
use Rattle.kernel_ast.specs.WellFormed as well
use Rattle.kernel_ast.specs.Machine.{Machine, Elements, State, Execution, evaluate, assign, one_pass, stmt_step, execute, execute_all, put}
use Rattle.loop_unroll.specs.declared.flat.Item.{Item}
use Rattle.loop_unroll.specs.declared.flat.Flat.{Flat}
use Rattle.loop_unroll.specs.declared.progress.Progress.{Progress}
use Rattle.loop_unroll.specs.Flats.{items_of, progress, counting, adding, flat, one_turn, unroll_step, unrolled, unrolled_all, flats, Unrolling}
use Rattle.loop_unroll.specs.Plays.{pushed, play, play_flat, bottom}
use Rattle.loop_unroll.proofs.Walks.{each-append}
use Rattle.loop_unroll.proofs.Played.{all_played}

module _ {K S : Type 0} (M : Machine K S) (decls : List Declared) where
  abbrev plays : List Flat → State K S → Result (State K S) Fault
  plays = each (play_flat M)

  abbrev Acts : (Progress → Result Progress Fault) → (State K S → Result (State K S) Fault) → Type 0
  Acts u x = (p : Progress) (s : State K S) → and_then (u p) (λ q. plays q.flats s) ≡ and_then (u p) (λ _. and_then (plays p.flats s) x)

  ended : {A : Type 0} (o : Result A Fault) → and_then o (λ a. Ok a) ≡ o
  ended (Ok a) = refl
  ended (Err x) = refl

  assoc : {A B C : Type 0} (o : Result A Fault) (f : A → Result B Fault) (g : B → Result C Fault) → and_then (and_then o f) g ≡ and_then o (λ a. and_then (f a) g)
  assoc (Ok a) f g = refl
  assoc (Err x) f g = refl

  acts_none : Acts (λ p. Ok p) (λ s. Ok s)
  acts_none p s = sym (ended (plays p.flats s))

  acts_then : (u v : Progress → Result Progress Fault) (x y : State K S → Result (State K S) Fault) → Acts u x → Acts v y → Acts (λ p. and_then (u p) v) (λ s. and_then (x s) y)
  acts_then u v x y a b p s = first (u p) (a p s)
    where
      first : (o : Result Progress Fault) → and_then o (λ q. plays q.flats s) ≡ and_then o (λ _. and_then (plays p.flats s) x)
          → and_then (and_then o v) (λ q. plays q.flats s) ≡ and_then (and_then o v) (λ _. and_then (plays p.flats s) (λ q. and_then (x q) y))
      first (Err e) same = refl
      first (Ok q) same = b q s ∙ ap (λ z. and_then (v q) (λ _. z)) (ap (λ z. and_then z y) same ∙ assoc (plays p.flats s) x y)

  acts_each : {A : Type 0} (f : A → Progress → Result Progress Fault) (x : A → State K S → Result (State K S) Fault) → ((a : A) → Acts (f a) (x a)) → (xs : List A) → Acts (each f xs) (each x xs)
  acts_each f x e [] = acts_none
  acts_each f x e (a ∷ xs) = acts_then (f a) (each f xs) (x a) (each x xs) (e a) (acts_each f x e xs)

  acts_after : {A : Type 0} (o : Result A Fault) (u : A → Progress → Result Progress Fault) (x : A → State K S → Result (State K S) Fault) → ((a : A) → Acts (u a) (x a))
      → Acts (λ p. and_then o (λ a. u a p)) (λ s. and_then o (λ a. x a s))
  acts_after (Ok a) u x e = e a
  acts_after (Err f) u x e = λ p s. refl

  acts_count : (at n : ℕ) → Acts (counting at n) (λ s. Ok s)
  unfolding counting
  acts_count at n p s = counted (count at n p.counted)
    where
      counted : (o : Result ℕ Fault) → and_then (and_then o (λ turns. Ok (progress turns p.flats))) (λ q. plays q.flats s) ≡ and_then (and_then o (λ turns. Ok (progress turns p.flats))) (λ _. and_then (plays p.flats s) (λ z. Ok z))
      counted (Ok turns) = sym (ended (plays p.flats s))
      counted (Err f) = refl

  abbrev finish : Cell → Elements K → List K × S → Result (State K S) Fault
  finish c elements r = Ok (put elements c (bottom M r.0), r.1)

  abbrev wrote : Cell → Elements K → K × S → Result (State K S) Fault
  wrote c elements v = Ok (put elements c v.0, v.1)

  only : (c : Cell) (elements : Elements K) (o : Result (K × S) Fault) → and_then (pushed [] o) (finish c elements) ≡ and_then o (wrote c elements)
  only c elements (Ok v) = refl
  only c elements (Err f) = refl

  flat_is : (c : Cell) (items : List Item) (s : State K S) (o : Result (K × S) Fault) → each (play M s.0) items ([], s.1) ≡ pushed [] o → play_flat M (flat c items) s ≡ and_then o (wrote c s.0)
  unfolding play_flat
  flat_is c items s o e = ap (λ (z : Result (List K × S) Fault). and_then z (finish c s.0)) e ∙ only c s.0 o

  acts_add : (target : Place) (value : Expr) (loops : ℕ) (indices : List ℤ) → expr_fits decls loops value ≡ true → Acts (adding decls indices target value) (assign M decls target value indices)
  unfolding adding assign
  acts_add target value loops indices h p s = two (items_of decls indices value []) (located decls indices target) (λ q. all_played M decls loops indices q.0 value h [] ([], q.1))
    where
      two : (o : Result (List Item) Fault) (t : Result Cell Fault)
          → ((q : State K S) → and_then o (λ items. each (play M q.0) items ([], q.1)) ≡ and_then o (λ _. pushed [] (evaluate M decls indices q.0 value q.1)))
          → and_then (and_then (and_then o (λ items. and_then t (λ c. Ok (flat c items)))) (λ f. Ok (progress p.counted (p.flats ++ f ∷ [])))) (λ q. plays q.flats s)
          ≡ and_then (and_then (and_then o (λ items. and_then t (λ c. Ok (flat c items)))) (λ f. Ok (progress p.counted (p.flats ++ f ∷ []))))
          (λ _. and_then (plays p.flats s) (λ q. and_then (evaluate M decls indices q.0 value q.1) (λ v. and_then t (λ c. Ok (put q.0 c v.0, v.1)))))
      two (Ok items) (Ok c) e =
          each-append (play_flat M) p.flats (flat c items ∷ []) s
          ∙ ap (and_then (plays p.flats s)) (λ i q. (ended (play_flat M (flat c items) q) ∙ flat_is c items q (evaluate M decls indices q.0 value q.1) (e q)) i)
      two (Ok items) (Err f) e = refl
      two (Err f) t e = refl

  IsPlayed : Stmt → Type 0
  IsPlayed s = (loops : ℕ) → stmt_fits decls s loops ≡ true → (indices : List ℤ) → Acts (unrolled decls s indices) (execute M decls s indices)

  opened : (x : Stmt-F Stmt)
      → ((loops : ℕ) → stmt_fits_step decls (map-Stmt Stmt (ℕ → Bool) (stmt_fits decls) x) loops ≡ true → (indices : List ℤ)
      → Acts (unroll_step decls (map-Stmt Stmt Unrolling (unrolled decls) x) indices) (stmt_step M decls (map-Stmt Stmt (Execution K S) (execute M decls) x) indices))
      → IsPlayed (roll-Stmt x)
  unfolding IsPlayed
  opened x e loops h indices =
      let fits = sym (ap (λ (r : ℕ → Bool). r loops) (fold-roll-Stmt (ℕ → Bool) (stmt_fits_step decls) x)) ∙ h in
      subst (λ (u : Unrolling). Acts (u indices) (execute M decls (roll-Stmt x) indices)) (sym (fold-roll-Stmt Unrolling (unroll_step decls) x))
      (subst (λ (y : Execution K S). Acts (unroll_step decls (map-Stmt Stmt Unrolling (unrolled decls) x) indices) (y indices)) (sym (fold-roll-Stmt (Execution K S) (stmt_step M decls) x))
      (e loops fits indices))

  abbrev SomeStmt : Type 0
  SomeStmt = (s : Stmt) × IsPlayed s

  abbrev some_stmts : List SomeStmt → List Stmt
  some_stmts ss = map (λ s. s.0) ss

  body_acts : (body : List SomeStmt) (loops : ℕ) → well.all_at loops (map (stmt_fits decls) (some_stmts body)) ≡ true → (indices : List ℤ)
      → Acts (in_turn (all_at (map (unrolled decls) (some_stmts body)) indices)) (in_turn (all_at (map (execute M decls) (some_stmts body)) indices))
  unfolding IsPlayed
  body_acts [] loops h indices = acts_none
  body_acts (e ∷ body) loops h indices =
      let fits = and_parts (stmt_fits decls e.0 loops) (well.all_at loops (map (stmt_fits decls) (some_stmts body))) h in
      acts_then (unrolled decls e.0 indices) _ (execute M decls e.0 indices) _ (e.1 loops fits.0 indices) (body_acts body loops fits.1 indices)

  branch_acts : (holds : Bool) (taken other : List SomeStmt) (loops : ℕ) → well.all_at loops (map (stmt_fits decls) (some_stmts taken)) ≡ true → well.all_at loops (map (stmt_fits decls) (some_stmts other)) ≡ true
      → (indices : List ℤ) → Acts (in_turn (all_at (if holds then map (unrolled decls) (some_stmts taken) else map (unrolled decls) (some_stmts other)) indices))
      (in_turn (all_at (if holds then map (execute M decls) (some_stmts taken) else map (execute M decls) (some_stmts other)) indices))
  branch_acts true taken other loops h k indices = body_acts taken loops h indices
  branch_acts false taken other loops h k indices = body_acts other loops k indices

  turn_acts : (body : List SomeStmt) (loops : ℕ) → well.all_at loops (map (stmt_fits decls) (some_stmts body)) ≡ true → (at : ℕ) (indices : List ℤ) (i : ℤ)
      → Acts (one_turn (map (unrolled decls) (some_stmts body)) at indices i) (one_pass (map (execute M decls) (some_stmts body)) indices i)
  unfolding one_turn one_pass
  turn_acts body loops h at indices i = acts_then (counting at 1) _ (λ s. Ok s) _ (acts_count at 1) (body_acts body loops h (indices ++ i ∷ []))

  parts : (y : Stmt-F SomeStmt) → IsPlayed (roll-Stmt (map-Stmt SomeStmt Stmt (λ e. e.0) y))
  parts (Assign target value at) =
      opened (Assign target value at) (λ loops h indices.
      let one = and_parts (target_fits decls loops target) (expr_fits decls loops value && nat_le (assign_weight target value) 65536) h in
      let more = and_parts (expr_fits decls loops value) (nat_le (assign_weight target value) 65536) one.1 in
      acts_then (counting at (assign_weight target value)) _ (λ s. Ok s) _ (acts_count at (assign_weight target value)) (acts_add target value loops indices more.0))
  parts (Loop from to by body at) =
      opened (Loop from to by (some_stmts body) at) (λ loops h indices.
      let fits : Bool = well.all_at (suc loops) (map (stmt_fits decls) (some_stmts body)) in
      let light : Bool = nat_le (loop_weight from to by) 65536 in
      let one = and_parts (nat_lt loops 32) (index_fits loops from && (index_fits loops to && (step_fits loops by && (light && fits)))) h in
      let two = and_parts (index_fits loops from) (index_fits loops to && (step_fits loops by && (light && fits))) one.1 in
      let three = and_parts (index_fits loops to) (step_fits loops by && (light && fits)) two.1 in
      let four = and_parts (step_fits loops by) (light && fits) three.1 in
      let five = and_parts light fits four.1 in
      acts_then (counting at (loop_weight from to by)) _ (λ s. Ok s) _ (acts_count at (loop_weight from to by))
      (acts_after (loop_numbers indices from to by) _ _ (λ ns. acts_each _ _ (turn_acts body (suc loops) five.1 at indices) ns)))
  parts (Branch left rel right taken other at) =
      opened (Branch left rel right (some_stmts taken) (some_stmts other) at) (λ loops h indices.
      let first : Bool = well.all_at loops (map (stmt_fits decls) (some_stmts taken)) in
      let second : Bool = well.all_at loops (map (stmt_fits decls) (some_stmts other)) in
      let light : Bool = nat_le (branch_weight left right) 65536 in
      let one = and_parts (index_fits loops left) (index_fits loops right && (light && (first && second))) h in
      let two = and_parts (index_fits loops right) (light && (first && second)) one.1 in
      let three = and_parts light (first && second) two.1 in
      let four = and_parts first second three.1 in
      acts_then (counting at (branch_weight left right)) _ (λ s. Ok s) _ (acts_count at (branch_weight left right))
      (acts_after (condition indices left rel right) _ _ (λ holds. branch_acts holds taken other loops four.0 four.1 indices)))

  stmt_acts : (s : Stmt) → IsPlayed s
  stmt_acts = ind-Stmt IsPlayed (λ x y is. subst (λ z. IsPlayed (roll-Stmt z)) is (parts y))

  all_acts : (body : List Stmt) → body_fits decls 0 body ≡ true → Acts (unrolled_all decls body []) (execute_all M decls body)
  unfolding IsPlayed
  all_acts [] h = acts_none
  all_acts (s ∷ body) h =
      let fits = and_parts (stmt_fits decls s 0) (body_fits decls 0 body) h in
      acts_then (unrolled decls s []) _ (execute M decls s []) _ (stmt_acts s 0 fits.0 []) (all_acts body fits.1)

  -- The executed assignments of a list of statements do what the statements do.
  pub flats_execute : (body : List Stmt) (fs : List Flat) (s : State K S) → body_fits decls 0 body ≡ true → flats decls body ≡ Ok fs → each (play_flat M) fs s ≡ execute_all M decls body s
  flats_execute body fs s h e = found (unrolled_all decls body [] (progress 0 [])) (all_acts body h (progress 0 []) s) e
    where
      found : (o : Result Progress Fault) → and_then o (λ q. plays q.flats s) ≡ and_then o (λ _. execute_all M decls body s) → and_then o (λ p. Ok p.flats) ≡ Ok fs → plays fs s ≡ execute_all M decls body s
      found (Ok q) a f = let same : q.flats ≡ fs = cc in subst (λ z. plays z s ≡ execute_all M decls body s) same a
      found (Err x) a f = absurd (cc)
