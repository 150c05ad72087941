-- Places that name elements, one list after another.
use Rattle.std.proofs.Common.{◌≡◌, ℕ, ◌+◌, ◌<◌, ℤ, List, [], ◌∷◌, ◌++◌, map, drop, length, get_or, drop-cons, add-one, refl, sym, ap, ◌∙◌, Result, Ok, Err}
use Rattle.kernel_ast.specs.declared.element.Cell.{Cell}
use Rattle.kernel_ast.specs.declared.element.Fault.{Fault}
use Rattle.kernel_ast.specs.declared.tree.Expr.{Expr}
use Rattle.kernel_ast.specs.declared.tree.Expr.TheOpen as expr
use Rattle.kernel_ast.specs.declared.tree.Expr.TheVariants as variants
use Rattle.kernel_ast.specs.declared.tree.Expr.TheFolds.{fold-roll-Expr, fold_out-Link}
use Rattle.kernel_ast.specs.declared.tree.Link.{Link, out-Link}
use Rattle.kernel_ast.specs.declared.tree.Place.{Place}
use Rattle.kernel_ast.specs.KernelParts.{Declared}
use Rattle.kernel_ast.specs.Steps.{and_then, each}
use Rattle.kernel_ast.specs.Places.{located}
use Rattle.kernel_ast.specs.Walk.{look_at, joined, places_of, places_step, link_places}
use Rattle.kernel_walk.specs.PlacesLookedAt.{all_located, places_of_link}

-- the second list is looked at once the first has no fault
pub all_located_append : (decls : List Declared) (indices : List ℤ) (ps qs : List Place)
    → all_located decls indices (ps ++ qs) ≡ and_then (all_located decls indices ps) (λ _. all_located decls indices qs)
all_located_append decls indices [] qs = refl
all_located_append decls indices (p ∷ ps) qs = next (located decls indices p) (all_located_append decls indices ps qs)
  where
    next : (o : Result Cell Fault) → all_located decls indices (ps ++ qs) ≡ and_then (all_located decls indices ps) (λ _. all_located decls indices qs)
        → and_then o (λ _. all_located decls indices (ps ++ qs)) ≡ and_then (and_then o (λ _. all_located decls indices ps)) (λ _. all_located decls indices qs)
    next (Ok c) e = e
    next (Err f) e = refl

-- looking at places counts no turn
pub each_look_at : (decls : List Declared) (indices : List ℤ) (ps : List Place) (turns : ℕ)
    → each (look_at decls indices) ps turns ≡ and_then (all_located decls indices ps) (λ _. Ok turns)
each_look_at decls indices [] turns = refl
each_look_at decls indices (p ∷ ps) turns = next (located decls indices p) (each_look_at decls indices ps turns)
  where
    next : (o : Result Cell Fault) → each (look_at decls indices) ps turns ≡ and_then (all_located decls indices ps) (λ _. Ok turns)
        → and_then (and_then o (λ _. Ok turns)) (each (look_at decls indices) ps) ≡ and_then (and_then o (λ _. all_located decls indices ps)) (λ _. Ok turns)
    next (Ok c) e = e
    next (Err f) e = refl

-- what the first list stops, and what it lets go on
pub append_stopped : (decls : List Declared) (indices : List ℤ) (ps qs : List Place) (f : Fault)
    → Err f ≡ all_located decls indices ps → Err f ≡ all_located decls indices (ps ++ qs)
append_stopped decls indices ps qs f e = ap (λ o. and_then o (λ _. all_located decls indices qs)) e ∙ sym (all_located_append decls indices ps qs)

pub append_kept : (decls : List Declared) (indices : List ℤ) (ps qs : List Place) (u : Unit)
    → Ok u ≡ all_located decls indices ps → all_located decls indices qs ≡ all_located decls indices (ps ++ qs)
append_kept decls indices ps qs u e = ap (λ o. and_then o (λ _. all_located decls indices qs)) e ∙ sym (all_located_append decls indices ps qs)

-- the places of a list's members from one on
joined_from : {A : Type 0} (f : A → List Place) (xs : List A) (i : ℕ) (x : A) → i < length xs → x ≡ get_or xs i x
    → f x ++ joined (map f (drop (i + 1) xs)) ≡ joined (map f (drop i xs))
joined_from f xs i x lt is =
    let opened : drop i xs ≡ get_or xs i x ∷ drop (i + 1) xs = rw add-one (drop-cons xs i x lt) in
    ap (λ y. f y ++ joined (map f (drop (i + 1) xs))) is ∙ sym (ap (λ ys. joined (map f ys)) opened)

-- a loop over such a list
pub joined_stopped : {A : Type 0} (f : A → List Place) (decls : List Declared) (indices : List ℤ) (xs : List A) (i : ℕ) (x : A) (e : Fault)
    → i < length xs → x ≡ get_or xs i x → all_located decls indices (joined (map f (drop i xs))) ≡ all_located decls indices (joined (map f xs))
    → Err e ≡ all_located decls indices (f x) → Err e ≡ all_located decls indices (joined (map f xs))
joined_stopped f decls indices xs i x e lt is same h =
    append_stopped decls indices (f x) (joined (map f (drop (i + 1) xs))) e h ∙ ap (all_located decls indices) (joined_from f xs i x lt is) ∙ same

pub joined_kept : {A : Type 0} (f : A → List Place) (decls : List Declared) (indices : List ℤ) (xs : List A) (i : ℕ) (x : A) (u : Unit)
    → i < length xs → x ≡ get_or xs i x → all_located decls indices (joined (map f (drop i xs))) ≡ all_located decls indices (joined (map f xs))
    → Ok u ≡ all_located decls indices (f x) → all_located decls indices (joined (map f (drop (i + 1) xs))) ≡ all_located decls indices (joined (map f xs))
joined_kept f decls indices xs i x u lt is same h =
    append_kept decls indices (f x) (joined (map f (drop (i + 1) xs))) u h ∙ ap (all_located decls indices) (joined_from f xs i x lt is) ∙ same

-- the places of a chain, and of a link
pub places_of_chain : (first : Expr) (rest : List Link) → places_of (variants.Chain first rest) ≡ places_of first ++ joined (map places_of_link rest)
places_of_chain first rest =
    ap places_of (sym (variants.rolls-Chain first rest)) ∙ fold-roll-Expr (List Place) (List Place) places_step link_places (expr.Chain first rest)

pub places_of_operand : (l : Link) → places_of (out-Link l).value ≡ places_of_link l
places_of_operand l = sym (fold_out-Link (List Place) (List Place) places_step link_places l)
