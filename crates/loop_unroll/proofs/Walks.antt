-- What is unrolled has the turns and the faults of the walk.
use Rattle.std.proofs.Common.{if◌then◌else◌, ◌≡◌, ◌+◌, ◌++◌, ℕ, ℤ, List, [], ◌∷◌, map, refl, sym, ap, ◌∙◌, subst, Result, Ok, Err, nat_le, Bool, true, false}
use Rattle.comp_graph.specs.declared.operation.Op.{Op}
use Rattle.kernel_ast.specs.declared.tree.Expr.{Expr, roll-Expr}
use Rattle.kernel_ast.specs.declared.tree.Expr.TheOpen.{Expr-F, Link-F, Number, Turn, Minus, Chain, Call}
use Rattle.kernel_ast.specs.declared.tree.Expr.TheOpen as expr
use Rattle.kernel_ast.specs.declared.tree.Expr.TheFolds.{fold-Link, fold-roll-Expr, fold-roll-Link, ind-Expr, map-Expr, map-Link}
use Rattle.kernel_ast.specs.declared.tree.Link.{Link, roll-Link}
use Rattle.kernel_ast.specs.declared.tree.Stmt.{Stmt, roll-Stmt}
use Rattle.kernel_ast.specs.declared.tree.Stmt.TheOpen.{Stmt-F, Assign, Loop, Branch}
use Rattle.kernel_ast.specs.declared.tree.Stmt.TheFolds.{fold-roll-Stmt, ind-Stmt, map-Stmt}
use Rattle.kernel_ast.specs.declared.tree.Place.{Place}
use Rattle.kernel_ast.specs.KernelParts.{Declared}
use Rattle.kernel_ast.specs.declared.element.Fault.{Fault}
use Rattle.kernel_ast.specs.declared.element.Cell.{Cell}
use Rattle.kernel_ast.specs.Steps.{and_then, in_turn, each}
use Rattle.kernel_ast.specs.Places.{fault, located, loop_numbers, condition}
use Rattle.kernel_ast.specs.Walk as walks
use Rattle.kernel_ast.specs.Walk.{Walk, walk, walk_all, walk_step, count, all_at, look_at, joined, places_of, places_step, too_many_turns}
use Rattle.kernel_ast.specs.Weights.{assign_weight, loop_weight, branch_weight}
use Rattle.kernel_ast.proofs.Machines.{mapped, mapped-then, mapped-after, each_mapped}
use Rattle.loop_unroll.specs.declared.progress.Progress.{Progress}
use Rattle.loop_unroll.specs.declared.flat.Item.{Item}
use Rattle.loop_unroll.specs.Flats.{Writer, items_of, items_step, items_link_step, link_of, link_items, progress, counting, adding, flat, one_turn, unroll_step, unrolled, unrolled_all, flats, Unrolling}
use Rattle.loop_unroll.specs.Ends.{Answers, Walked}
use Rattle.loop_unroll.specs.declared.flat.Flat.{Flat}
use Rattle.loop_unroll.specs.declared.flat.ShapeEnd.{ShapeEnd}
use Rattle.loop_unroll.specs.declared.flat.ShapeEnd.TheVariants as end

goes_on : {S : Type 0} (o : Result S Fault) (f g h : S → Result S Fault) → ((s : S) → h s ≡ and_then (f s) g) → and_then o h ≡ and_then (and_then o f) g
goes_on (Ok r) f g h e = e r
goes_on (Err x) f g h e = refl

pub each-append : {A S : Type 0} (f : A → S → Result S Fault) (xs ys : List A) (s : S) → each f (xs ++ ys) s ≡ and_then (each f xs s) (each f ys)
each-append f [] ys s = refl
each-append f (x ∷ xs) ys s = goes_on (f x s) (each f xs) (each f ys) (each f (xs ++ ys)) (each-append f xs ys)

module _ (decls : List Declared) where
  module _ (indices : List ℤ) where
    abbrev looks : List Place → ℕ → Result ℕ Fault
    looks = each (look_at decls indices)

    abbrev Looks : Writer → List Place → Type 0
    Looks w places = (found : List Item) (n : ℕ) → mapped (λ _. n) (w found) ≡ looks places n

    abbrev ExprLooks : Expr → Type 0
    ExprLooks e = Looks (items_of decls indices e) (places_of e)

    abbrev places_link : Link → List Place
    places_link = fold-Link (List Place) (List Place) places_step (λ l. l.value)

    abbrev LinkLooks : Link → Type 0
    LinkLooks l = Looks (link_of decls indices l).1 (places_link l)

    opened : (x : Expr-F Expr Link)
        → Looks (items_step decls indices (map-Expr Expr Link Writer ((Op × ℕ) × Writer) (items_of decls indices) (link_of decls indices) x)) (places_step (map-Expr Expr Link (List Place) (List Place) places_of places_link x))
        → ExprLooks (roll-Expr x)
    opened x e found n =
        ap (λ r. mapped (λ _. n) (r found)) (fold-roll-Expr Writer ((Op × ℕ) × Writer) (items_step decls indices) items_link_step x)
        ∙ e found n ∙ sym (ap (λ r. looks r n) (fold-roll-Expr (List Place) (List Place) places_step (λ l. l.value) x))

    link_opened : (x : Link-F Expr Link) → ExprLooks x.value → LinkLooks (roll-Link x)
    link_opened x e found n =
        ap (λ r. mapped (λ _. n) (r.1 found)) (fold-roll-Link Writer ((Op × ℕ) × Writer) (items_step decls indices) items_link_step x)
        ∙ e found n ∙ sym (ap (λ r. looks r n) (fold-roll-Link (List Place) (List Place) places_step (λ l. l.value) x))

    links_look : (ls : List ((l : Link) × LinkLooks l)) → Looks (link_items (map (link_of decls indices) (map (λ l. l.0) ls))) (joined (map places_link (map (λ l. l.0) ls)))
    links_look [] found n = refl
    links_look (l ∷ ls) found n =
        mapped-then (λ _. n) (λ _. n) _ _ _ _ (l.1 found n) (λ more. links_look ls _ n)
        ∙ sym (each-append (look_at decls indices) (places_link l.0) (joined (map places_link (map (λ l. l.0) ls))) n)

    args_look : (es : List ((e : Expr) × ExprLooks e)) → Looks (in_turn (map (items_of decls indices) (map (λ e. e.0) es))) (joined (map places_of (map (λ e. e.0) es)))
    args_look [] found n = refl
    args_look (e ∷ es) found n =
        mapped-then (λ _. n) (λ _. n) _ _ _ _ (e.1 found n) (λ more. args_look es more n)
        ∙ sym (each-append (look_at decls indices) (places_of e.0) (joined (map places_of (map (λ e. e.0) es))) n)

    after : (o : Result (List Item) Fault) (n : ℕ) (z : Result ℕ Fault) (f : List Item → List Item) → mapped (λ _. n) o ≡ z → mapped (λ _. n) (and_then o (λ more. Ok (f more))) ≡ z
    after (Ok more) n z f e = e
    after (Err x) n z f e = e

    cell_looks : (o : Result Cell Fault) (f : Cell → List Item) (n : ℕ) → mapped (λ _. n) (and_then o (λ c. Ok (f c))) ≡ and_then (and_then o (λ _. Ok n)) (λ m. Ok m)
    cell_looks (Ok c) f n = refl
    cell_looks (Err x) f n = refl

    parts : (y : Expr-F ((e : Expr) × ExprLooks e) ((l : Link) × LinkLooks l)) → ExprLooks (roll-Expr (map-Expr ((e : Expr) × ExprLooks e) ((l : Link) × LinkLooks l) Expr Link (λ e. e.0) (λ l. l.0) y))
    parts (Number m) = opened (Number m) (λ found n. refl)
    parts (expr.Cell p) = opened (expr.Cell p) (λ found n. cell_looks (located decls indices p) _ n)
    parts (Turn t) = opened (Turn t) (λ found n. refl)
    parts (Minus value at) = opened (Minus value.0 at) (λ found n. after _ n _ _ (value.1 found n))
    parts (Chain first rest) =
        opened (Chain first.0 (map (λ l. l.0) rest)) (λ found n.
        mapped-then (λ _. n) (λ _. n) _ _ _ _ (first.1 found n) (λ more. links_look rest more n)
        ∙ sym (each-append (look_at decls indices) (places_of first.0) (joined (map places_link (map (λ l. l.0) rest))) n))
    parts (Call o args at) = opened (Call o (map (λ e. e.0) args) at) (λ found n. after _ n _ _ (args_look args found n))

    pub items_look : (e : Expr) → ExprLooks e
    items_look = ind-Expr ExprLooks LinkLooks
        (λ x y is. subst (λ z. ExprLooks (roll-Expr z)) is (parts y))
        (λ x y is. subst (λ z. LinkLooks (roll-Link z)) is (link_opened (map-Link ((e : Expr) × ExprLooks e) ((l : Link) × LinkLooks l) Expr Link (λ e. e.0) (λ l. l.0) y) y.value.1))

  abbrev turns_of : Progress → ℕ
  turns_of p = p.counted

  abbrev IsWalked : Stmt → Type 0
  IsWalked s = (indices : List ℤ) (p : Progress) → mapped turns_of (unrolled decls s indices p) ≡ walk decls s indices p.counted

  counted : (at more : ℕ) (p : Progress) → mapped turns_of (counting at more p) ≡ count at more p.counted
  unfolding counting
  counted at more p = tested (nat_le (p.counted + more) 65536)
    where
      tested : (b : Bool) → mapped turns_of (and_then (if b then Ok (p.counted + more) else Err (too_many_turns at)) (λ turns. Ok (progress turns p.flats))) ≡ (if b then Ok (p.counted + more) else Err (too_many_turns at))
      tested true = refl
      tested false = refl

  added : (target : Place) (value : Expr) (indices : List ℤ) (p : Progress) → mapped turns_of (adding decls indices target value p) ≡ each (look_at decls indices) (places_of value ++ target ∷ []) p.counted
  unfolding adding
  added target value indices p =
      two (items_of decls indices value []) (each (look_at decls indices) (places_of value) p.counted) (located decls indices target) (items_look indices value [] p.counted)
      ∙ sym (each-append (look_at decls indices) (places_of value) (target ∷ []) p.counted)
    where
      two : (o : Result (List Item) Fault) (z : Result ℕ Fault) (t : Result Cell Fault) → mapped (λ _. p.counted) o ≡ z
          → mapped turns_of (and_then (and_then o (λ items. and_then t (λ c. Ok (flat c items)))) (λ f. Ok (progress p.counted (p.flats ++ f ∷ [])))) ≡ and_then z (λ n. and_then (and_then t (λ _. Ok n)) (λ m. Ok m))
      two (Ok items) z (Ok c) e = ap (λ r. and_then r (λ n. Ok n)) e
      two (Ok items) z (Err x) e = ap (λ r. and_then r (λ n. Err x)) e
      two (Err x) z t e = ap (λ r. and_then r (λ n. and_then (and_then t (λ _. Ok n)) (λ m. Ok m))) e

  body_walked : (body : List ((s : Stmt) × IsWalked s)) (indices : List ℤ) (p : Progress)
      → mapped turns_of (in_turn (all_at (map (unrolled decls) (map (λ e. e.0) body)) indices) p) ≡ in_turn (all_at (map (walk decls) (map (λ e. e.0) body)) indices) p.counted
  body_walked [] indices p = refl
  body_walked (e ∷ body) indices p = mapped-then turns_of turns_of _ _ _ _ (e.1 indices p) (body_walked body indices)

  branch_walked : (holds : Bool) (taken other : List ((s : Stmt) × IsWalked s)) (indices : List ℤ) (p : Progress)
      → mapped turns_of (in_turn (all_at (if holds then map (unrolled decls) (map (λ e. e.0) taken) else map (unrolled decls) (map (λ e. e.0) other)) indices) p)
      ≡ in_turn (all_at (if holds then map (walk decls) (map (λ e. e.0) taken) else map (walk decls) (map (λ e. e.0) other)) indices) p.counted
  branch_walked true taken other indices p = body_walked taken indices p
  branch_walked false taken other indices p = body_walked other indices p

  turn_walked : (body : List ((s : Stmt) × IsWalked s)) (at : ℕ) (indices : List ℤ) (i : ℤ) (p : Progress)
      → mapped turns_of (one_turn (map (unrolled decls) (map (λ e. e.0) body)) at indices i p) ≡ walks.one_turn (map (walk decls) (map (λ e. e.0) body)) at indices i p.counted
  unfolding one_turn walks.one_turn
  turn_walked body at indices i p = mapped-then turns_of turns_of _ _ _ _ (counted at 1 p) (body_walked body (indices ++ i ∷ []))

  stmt_opened : (x : Stmt-F Stmt)
      → ((indices : List ℤ) (p : Progress) → mapped turns_of (unroll_step decls (map-Stmt Stmt Unrolling (unrolled decls) x) indices p) ≡ walk_step decls (map-Stmt Stmt Walk (walk decls) x) indices p.counted)
      → IsWalked (roll-Stmt x)
  stmt_opened x e indices p =
      ap (λ r. mapped turns_of (r indices p)) (fold-roll-Stmt Unrolling (unroll_step decls) x) ∙ e indices p ∙ sym (ap (λ r. r indices p.counted) (fold-roll-Stmt Walk (walk_step decls) x))

  stmt_parts : (y : Stmt-F ((s : Stmt) × IsWalked s)) → IsWalked (roll-Stmt (map-Stmt ((s : Stmt) × IsWalked s) Stmt (λ e. e.0) y))
  stmt_parts (Assign target value at) =
      stmt_opened (Assign target value at) (λ indices p. mapped-then turns_of turns_of _ _ _ _ (counted at (assign_weight target value) p) (added target value indices))
  stmt_parts (Loop from to by body at) =
      stmt_opened (Loop from to by (map (λ e. e.0) body) at) (λ indices p.
      mapped-then turns_of turns_of _ _ _ _ (counted at (loop_weight from to by) p) (λ q.
      mapped-after turns_of (loop_numbers indices from to by) _ _ (λ ns. each_mapped turns_of _ _ ns (turn_walked body at indices) q)))
  stmt_parts (Branch left rel right taken other at) =
      stmt_opened (Branch left rel right (map (λ e. e.0) taken) (map (λ e. e.0) other) at) (λ indices p.
      mapped-then turns_of turns_of _ _ _ _ (counted at (branch_weight left right) p) (λ q.
      mapped-after turns_of (condition indices left rel right) _ _ (λ holds. branch_walked holds taken other indices q)))

  pub stmt_walked : (s : Stmt) → IsWalked s
  stmt_walked = ind-Stmt IsWalked (λ x y is. subst (λ z. IsWalked (roll-Stmt z)) is (stmt_parts y))

  -- The whole: the same turns, or the same fault.
  pub all_walked : (body : List Stmt) (p : Progress) → mapped turns_of (unrolled_all decls body [] p) ≡ in_turn (all_at (map (walk decls) body) []) p.counted
  all_walked [] p = refl
  all_walked (s ∷ body) p = mapped-then turns_of turns_of _ _ _ _ (stmt_walked s [] p) (all_walked body)

walked_flats : (o : Result Progress Fault) (w : Result ℕ Fault) (r : Result (List Flat) ShapeEnd) → mapped (λ p. p.counted) o ≡ w → Answers (and_then o (λ p. Ok p.flats)) r → Walked w r
walked_flats (Ok p) w (Ok fs) e a = (p.counted, sym e)
walked_flats (Err f) w (Ok fs) e a = absurd (cc)
walked_flats (Ok p) w (Err (end.Fault code at)) e a = absurd (cc)
walked_flats (Err g) w (Err (end.Fault code at)) e a = let same : g ≡ fault code at = cc in sym e ∙ ap (λ x. Err x) same
walked_flats o w (Err end.NoMemory) e a = tt

-- An answer about the executed assignments is one about the walk.
pub answers_walk : (decls : List Declared) (body : List Stmt) (r : Result (List Flat) ShapeEnd) → Answers (flats decls body) r → Walked (walk_all decls body) r
answers_walk decls body r a = walked_flats (unrolled_all decls body [] (progress 0 [])) (walk_all decls body) r (all_walked decls body (progress 0 [])) a

-- Where there are executed assignments, the walk has no fault.
pub flats_walked : (decls : List Declared) (body : List Stmt) (fs : List Flat) → flats decls body ≡ Ok fs → (turns : ℕ) × (walk_all decls body ≡ Ok turns)
flats_walked decls body fs is = answers_walk decls body (Ok fs) is
