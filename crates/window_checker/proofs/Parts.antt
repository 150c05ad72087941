-- The permutations of a part of a certificate, and its test.
use Rattle.std.proofs.Common.{◌≡◌, ℕ, ◌+◌, ◌<◌, zero, suc, Bool, IsTrue, ◌↔◌, List, [], ◌∷◌, ◌++◌, length, get_or, take, refl, sym, ap, ◌∙◌, subst, arith}
use Rattle.std.proofs.Math.Path.{fun_ext}
use Rattle.std.proofs.lemmas.List.{take_more}
use Rattle.std.specs.Prelude.{slice_index_or, Option, Some, MatchOption}
use Rattle.std.specs.FinSet as set
use Rattle.comp_graph.specs.Vertices.{Vertices}
use Rattle.comp_graph.specs.Games.{PebbleGame}
use Rattle.potential_cert.specs.declared.tables.Row.{Row}
use Rattle.window_game.specs.Windows.{Window, IsWindow}
use Rattle.window_laws.specs.Images.{Renaming, AreAutomorphisms}
use Rattle.window_images.specs.Permutations.{PermutationParts, IsRenamingBy, renaming, renamings}
use Rattle.window_cert.specs.Certs.{WindowParts}
use Rattle.window_checker.specs.ValidCerts.{window_by, load_sets, IsPermutationOf, ArePermutations, IsValidTable, IsValidPart}

-- ---- one permutation after another

pub at_place : (n : ℕ) (xss : List (List ℕ)) (ps : List PermutationParts) (i : ℕ) (xs : List ℕ) → ArePermutations n xss ps → i < length xss
    → xs ≡ get_or xss i xs → (p : PermutationParts) × IsPermutationOf n xs p
at_place n [] ps i xs are inside e = absurd (omega (arith, inside))
at_place n (y ∷ ys) [] i xs are inside e = absurd are
at_place n (y ∷ ys) (p ∷ ps) zero xs are inside e = (p, subst (λ l. IsPermutationOf n l p) (sym e) are.0)
at_place n (y ∷ ys) (p ∷ ps) (suc i) xs are inside e = at_place n ys ps i xs are.1 (omega (arith, inside)) e

added : (n : ℕ) (xss : List (List ℕ)) (ps : List PermutationParts) (xs : List ℕ) (p : PermutationParts) → ArePermutations n xss ps → IsPermutationOf n xs p
    → ArePermutations n (xss ++ xs ∷ []) (ps ++ p ∷ [])
added n [] [] xs p are is = (is, tt)
added n [] (q ∷ ps) xs p are is = absurd are
added n (y ∷ ys) [] xs p are is = absurd are
added n (y ∷ ys) (q ∷ ps) xs p are is = (are.0, added n ys ps xs p are.1 is)

take_next : (xss : List (List ℕ)) (i : ℕ) (xs : List ℕ) → i < length xss → xs ≡ get_or xss i xs → take (i + 1) xss ≡ take i xss ++ xs ∷ []
take_next xss i xs inside e = take_more xss i xs inside ∙ ap (λ x. take i xss ++ x ∷ []) (sym e)

pub next_permutation : (n : ℕ) (xss : List (List ℕ)) (ps qs : List PermutationParts) (i : ℕ) (xs : List ℕ) (p : PermutationParts)
    → ArePermutations n (take i xss) ps → i < length xss → xs ≡ get_or xss i xs → IsPermutationOf n xs p → qs ≡ ps ++ p ∷ []
    → ArePermutations n (take (i + 1) xss) qs
next_permutation n xss ps qs i xs p are inside e is pushed =
    subst (ArePermutations n (take (i + 1) xss)) (sym pushed)
    (subst (λ l. ArePermutations n l (ps ++ p ∷ [])) (sym (take_next xss i xs inside e)) (added n (take i xss) ps xs p are is))

-- ---- a list is one permutation

abbrev made : (ℕ → ℕ) → (ℕ → ℕ) → Renaming
made t b = record { there = t; back = b }

one_renaming : (xs : List ℕ) (p q : PermutationParts) → IsRenamingBy xs p → IsRenamingBy xs q → renaming p ≡ renaming q
one_renaming xs p q a b =
    let there : (renaming p).there ≡ (renaming q).there = fun_ext (λ v. a.there v ∙ sym (b.there v)) in
    let back : (renaming p).back ≡ (renaming q).back = fun_ext (λ v.
    sym (b.undone.back_there ((renaming p).back v))
    ∙ ap (renaming q).back (b.there ((renaming p).back v) ∙ sym (a.there ((renaming p).back v)) ∙ a.undone.there_back v)) in
    ap (λ t. made t (renaming p).back) there ∙ ap (made (renaming q).there) back

one_list : (n : ℕ) (xss : List (List ℕ)) (ps qs : List PermutationParts) → ArePermutations n xss ps → ArePermutations n xss qs → renamings ps ≡ renamings qs
one_list n [] [] [] a b = refl
one_list n [] [] (q ∷ qs) a b = absurd b
one_list n [] (p ∷ ps) qs a b = absurd a
one_list n (xs ∷ xss) [] qs a b = absurd a
one_list n (xs ∷ xss) (p ∷ ps) [] a b = absurd b
one_list n (xs ∷ xss) (p ∷ ps) (q ∷ qs) a b =
    ap (λ r. r ∷ renamings ps) (one_renaming xs p q a.0.renaming b.0.renaming) ∙ ap (λ rs. renaming q ∷ rs) (one_list n xss ps qs a.1 b.1)

-- ---- the test of a part

-- what the last test of a part says
abbrev pub IsProved : PebbleGame → Window → List PermutationParts → WindowParts → Type 0
IsProved g w ps x = AreAutomorphisms g w (renamings ps) × IsValidTable g w (renamings ps) x.rows x.bound

pub part_tested : (g : PebbleGame) (x : WindowParts) (w : Window) (ps : List PermutationParts) (b : Bool) → w ≡ window_by g x
    → length (load_sets g x.tracked x.charged) ≡ g.dag.count → IsWindow g w → ArePermutations g.dag.count x.renamings ps
    → IsTrue b ↔ IsProved g w ps x → IsTrue b ↔ IsValidPart g x
part_tested g x w ps b same many window are tested = (
  λ h.
      let proved = subst (λ w. IsProved g w ps x) same (tested.0 h) in
      record {
        many = many;
        window = subst (IsWindow g) same window;
        parts = ps;
        permutations = are;
        automorphisms = proved.0;
        table = proved.1;
      },
  λ valid.
      let rs = one_list g.dag.count x.renamings valid.parts ps valid.permutations are in
      tested.1 (subst (λ w. IsProved g w ps x) (sym same) (
        subst (AreAutomorphisms g (window_by g x)) rs valid.automorphisms,
        subst (λ rs. IsValidTable g (window_by g x) rs x.rows x.bound) rs valid.table,
      )),
)

-- the window of a part with given load sets
abbrev pub window_with : List Vertices → WindowParts → Window
window_with loads x = record {
  loads = λ v. slice_index_or loads v set.empty;
  stores = x.stores;
  tracked = x.tracked;
  required = x.required;
}

pub same_window : (g : PebbleGame) (x y : WindowParts) (loads : List Vertices) → loads ≡ load_sets g x.tracked x.charged → y ≡ x
    → window_with loads y ≡ window_by g x
same_window g x y loads is e = ap (window_with loads) e ∙ ap (λ l. window_with l x) is

pub from_some : {X : Type 0} → (N : Type 0) (Y : X → Type 0) (o : Option X) (x : X) → MatchOption o N Y → o ≡ Some x → Y x
from_some N Y o x h e = subst (λ o. MatchOption o N Y) e h

-- the same test of equal lists and bounds
pub tested_as : (g : PebbleGame) (w : Window) (ps qs : List PermutationParts) (rows others : List Row) (bound other : ℕ) (b : Bool)
    → ps ≡ qs → rows ≡ others → bound ≡ other
    → IsTrue b ↔ (AreAutomorphisms g w (renamings ps) × IsValidTable g w (renamings ps) rows bound)
    → IsTrue b ↔ (AreAutomorphisms g w (renamings qs) × IsValidTable g w (renamings qs) others other)
tested_as g w ps qs rows others bound other b e f h tested =
    subst (λ n. IsTrue b ↔ (AreAutomorphisms g w (renamings qs) × IsValidTable g w (renamings qs) others n)) h
    (subst (λ l. IsTrue b ↔ (AreAutomorphisms g w (renamings qs) × IsValidTable g w (renamings qs) l bound)) f
    (subst (λ l. IsTrue b ↔ (AreAutomorphisms g w (renamings l) × IsValidTable g w (renamings l) rows bound)) e tested))
