-- Loops over the elements of a declaration, and over declarations.
use Rattle.std.proofs.Common.{◌≡◌, ◌+◌, ◌-◌, ◌<◌, ◌≤◌, ℕ, suc, List, [], ◌∷◌, ◌++◌, map, length, drop, get_or, drop-cons, add-one, slice_get, refl, sym, ap, ◌∙◌, Some, Result, Ok, Err, Bool, true, false, if◌then◌else◌, inl, inr, arith}
use Rattle.std.proofs.lemmas.List.{drop_all}
use Rattle.std.proofs.lemmas.Option.{slice_get_cases}
use Rattle.kernel_ast.specs.declared.tree.DeclKind.{DeclKind}
use Rattle.kernel_ast.specs.declared.element.Cell.{Cell}
use Rattle.kernel_ast.specs.declared.element.Fault.{Fault}
use Rattle.kernel_ast.specs.KernelParts.{Declared}
use Rattle.kernel_ast.specs.Steps.{and_then, each}
use Rattle.kernel_ast.specs.Places.{cell}
use Rattle.kernel_ast.specs.Machine.{cells_from, cells_of_decl, cells_of, element_count, is_kind}
use Rattle.kernel_walk.specs.ElementLoops.{cells_between, cells_if, each_of_decl, each_of_option, each_at, each_from}

-- ---- the elements of a declaration

cells_between_end : (at decl from to : ℕ) → to ≤ from → cells_between at decl from to ≡ []
unfolding cells_between
cells_between_end at decl from to h = let e : to - from ≡ 0 = omega arith in ap (λ n. map (λ (c : Cell). (at, c)) (cells_from decl from n)) e

cells_between_step : (at decl from to : ℕ) → from < to → cells_between at decl from to ≡ (at, cell decl from) ∷ cells_between at decl (from + 1) to
unfolding cells_between
cells_between_step at decl from to h = let e : to - from ≡ suc (to - (from + 1)) = omega arith in ap (λ n. map (λ (c : Cell). (at, c)) (cells_from decl from n)) e

-- one element more is done
pub cells_kept : {S : Type 0} (f : ℕ × Cell → S → Result S Fault) (at decl i next to : ℕ) (s after : S) (whole : Result S Fault)
    → i < to → next ≡ i + 1 → each f (cells_between at decl i to) s ≡ whole → f (at, cell decl i) s ≡ Ok after → each f (cells_between at decl next to) after ≡ whole
cells_kept f at decl i next to s after whole lt n e is =
    ap (λ k. each f (cells_between at decl k to) after) n
    ∙ sym (ap (λ cs. each f cs s) (cells_between_step at decl i to lt) ∙ ap (λ o. and_then o (each f (cells_between at decl (i + 1) to))) is) ∙ e

-- all elements are done
pub cells_ended : {S : Type 0} (f : ℕ × Cell → S → Result S Fault) (at decl i to : ℕ) (s : S) (whole : Result S Fault)
    → to ≤ i → each f (cells_between at decl i to) s ≡ whole → whole ≡ Ok s
cells_ended f at decl i to s whole ge e = sym e ∙ ap (λ cs. each f cs s) (cells_between_end at decl i to ge)

-- the fault of one element is that of all
pub cells_stopped : {S : Type 0} (f : ℕ × Cell → S → Result S Fault) (at decl i to : ℕ) (s : S) (stop : Fault) (whole : Result S Fault)
    → i < to → each f (cells_between at decl i to) s ≡ whole → f (at, cell decl i) s ≡ Err stop → whole ≡ Err stop
cells_stopped f at decl i to s stop whole lt e is =
    sym e ∙ ap (λ cs. each f cs s) (cells_between_step at decl i to lt) ∙ ap (λ o. and_then o (each f (cells_between at decl (i + 1) to))) is

-- the same elements as those of the meaning
cells_if_is : (kind : DeclKind) (decl : ℕ) (d : Declared) → cells_if (is_kind kind d.1.kind) decl d ≡ cells_of_decl kind decl d
unfolding cells_between cells_of_decl
cells_if_is kind decl d = tested (is_kind kind d.1.kind)
  where
    tested : (b : Bool) → cells_if b decl d ≡ (if b then map (λ c. (d.1.at, c)) (cells_from decl 0 (element_count d.1.sizes)) else [])
    tested true = let e : element_count d.1.sizes - 0 ≡ element_count d.1.sizes = omega arith in ap (λ n. map (λ (c : Cell). (d.1.at, c)) (cells_from decl 0 n)) e
    tested false = refl

-- ---- declarations

each_append : {A S : Type 0} (f : A → S → Result S Fault) (xs ys : List A) (s : S) → each f (xs ++ ys) s ≡ and_then (each f xs s) (each f ys)
each_append f [] ys s = refl
each_append {A} {S} f (x ∷ xs) ys s = next (f x s) (each_append f xs ys)
  where
    next : (o : Result S Fault) → ((r : S) → each f (xs ++ ys) r ≡ and_then (each f xs r) (each f ys)) → and_then o (each f (xs ++ ys)) ≡ and_then (and_then o (each f xs)) (each f ys)
    next (Ok r) e = e r
    next (Err x) e = refl

-- declaration by declaration, all elements of the kind are gone through
pub each_from_is : {S : Type 0} (f : ℕ × Cell → S → Result S Fault) (kind : DeclKind) (decl : ℕ) (ds : List Declared) (s : S)
    → each_from f kind decl ds s ≡ each f (cells_of kind decl ds) s
unfolding each_of_decl
each_from_is f kind decl [] s = refl
each_from_is f kind decl (d ∷ ds) s =
    ap (λ cs. and_then (each f cs s) (each_from f kind (decl + 1) ds)) (cells_if_is kind decl d)
    ∙ (λ i. and_then (each f (cells_of_decl kind decl d) s) (λ r. each_from_is f kind (decl + 1) ds r i))
    ∙ sym (each_append f (cells_of_decl kind decl d) (cells_of kind (decl + 1) ds) s)

-- the declaration of a number, and those behind it
opened_at : {S : Type 0} (f : ℕ × Cell → S → Result S Fault) (kind : DeclKind) (decls : List Declared) (i : ℕ) (s : S) (d : Declared)
    → i < length decls → slice_get decls i ≡ Some d → get_or decls i d ≡ d
    → each_from f kind i (drop i decls) s ≡ and_then (each_at f kind decls i s) (each_from f kind (i + 1) (drop (i + 1) decls))
opened_at f kind decls i s d lt found is =
    let cut : drop i decls ≡ get_or decls i d ∷ drop (i + 1) decls = rw add-one (drop-cons decls i d lt) in
    ap (λ ds. each_from f kind i ds s) (cut ∙ ap (λ x. x ∷ drop (i + 1) decls) is)
    ∙ ap (λ o. and_then (each_of_option f kind i o s) (each_from f kind (i + 1) (drop (i + 1) decls))) (sym found)

opened : {S : Type 0} (f : ℕ × Cell → S → Result S Fault) (kind : DeclKind) (decls : List Declared) (i : ℕ) (s : S)
    → i < length decls → each_from f kind i (drop i decls) s ≡ and_then (each_at f kind decls i s) (each_from f kind (i + 1) (drop (i + 1) decls))
opened f kind decls i s lt = elim (slice_get_cases decls i).1 [
  | inl c ↦ opened_at f kind decls i s c.0 lt c.2 c.3
  | inr c ↦ absurd (omega (arith, c.0, lt))
]

-- one declaration more is done
pub decls_kept : {S : Type 0} (f : ℕ × Cell → S → Result S Fault) (kind : DeclKind) (decls : List Declared) (i : ℕ) (s after : S) (whole : Result S Fault)
    → i < length decls → each_from f kind i (drop i decls) s ≡ whole → each_at f kind decls i s ≡ Ok after → each_from f kind (i + 1) (drop (i + 1) decls) after ≡ whole
decls_kept f kind decls i s after whole lt e is =
    sym (opened f kind decls i s lt ∙ ap (λ o. and_then o (each_from f kind (i + 1) (drop (i + 1) decls))) is) ∙ e

-- the fault of one declaration is that of all
pub decls_stopped : {S : Type 0} (f : ℕ × Cell → S → Result S Fault) (kind : DeclKind) (decls : List Declared) (i : ℕ) (s : S) (stop : Fault) (whole : Result S Fault)
    → i < length decls → each_from f kind i (drop i decls) s ≡ whole → each_at f kind decls i s ≡ Err stop → whole ≡ Err stop
decls_stopped f kind decls i s stop whole lt e is =
    sym e ∙ opened f kind decls i s lt ∙ ap (λ o. and_then o (each_from f kind (i + 1) (drop (i + 1) decls))) is

-- all declarations are done
pub decls_ended : {S : Type 0} (f : ℕ × Cell → S → Result S Fault) (kind : DeclKind) (decls : List Declared) (i : ℕ) (s : S) (whole : Result S Fault)
    → length decls ≤ i → each_from f kind i (drop i decls) s ≡ whole → whole ≡ Ok s
decls_ended f kind decls i s whole ge e = sym e ∙ ap (λ ds. each_from f kind i ds s) (drop_all i decls ge)
