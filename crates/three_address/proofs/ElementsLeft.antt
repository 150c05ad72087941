-- The elements that are left, one by one.
use Rattle.std.proofs.Common.{if◌then◌else◌, ◌≡◌, ◌+◌, ◌-◌, ◌++◌, ◌<◌, ◌≤◌, ◌&&◌, ℕ, zero, suc, nat_lt, Bool, true, false, List, [], ◌∷◌, length, drop, get_or, refl, sym, ap, subst, ◌∙◌, ◌⊎◌, inl, inr, Option, Some, None, slice_get, arith}
use Rattle.std.specs.List.{All}
use Rattle.std.proofs.Math.Seq.{drop-cons}
use Rattle.std.proofs.lemmas.Bool.{and_parts, and_from}
use Rattle.std.proofs.lemmas.List.Elements.{All-head, All-tail}
use Rattle.std.proofs.lemmas.List.{drop_all}
use Rattle.std.proofs.lemmas.Option.{slice_get_within, get_or_from_slice_get, slice_get_cases}
use Rattle.std.proofs.lemmas.Bool.Decides.{nat_tests}
use Rattle.kernel_ast.specs.declared.tree.DeclKind.{DeclKind}
use Rattle.kernel_ast.specs.KernelParts.{Declared}
use Rattle.kernel_ast.specs.Machine.{element_count, is_kind}
use Rattle.kernel_ast.specs.WellFormed.{IsDeclared}
use Rattle.three_address.specs.Declarations.{is_sized, are_sized}
use Rattle.three_address.specs.LabelledElements.{element, elements_from, elements_of_decl, elements_of}
use Rattle.three_address.specs.ElementsLeft.{rest_of_decl, rest_from}

drop_at : {A : Type 0} (xs : List A) (i : ℕ) (x : A) → slice_get xs i ≡ Some x → drop i xs ≡ x ∷ drop (i + 1) xs
drop_at xs i x is =
    let within : i < length xs = slice_get_within xs i x is in
    let next : suc i ≡ i + 1 = omega arith in
    drop-cons xs i x within ∙ (λ k. get_or_from_slice_get xs i x x is k ∷ drop (next k) xs)

drop_none : {A : Type 0} (xs : List A) (i : ℕ) → slice_get xs i ≡ None → drop i xs ≡ []
drop_none {A} xs i is = known (slice_get_cases xs i).1
  where
    known : (((x : A) × (i < length xs) × (slice_get xs i ≡ Some x) × (get_or xs i x ≡ x)) ⊎ ((length xs ≤ i) × (slice_get xs i ≡ None))) → drop i xs ≡ []
    known (inl h) = absurd (let clash : None ≡ Some h.0 = sym is ∙ h.2 in cc)
    known (inr h) = drop_all i xs h.0

-- where no declaration is left, no element is
pub rest_ended : (kind : DeclKind) (decls : List Declared) (decl offset : ℕ) → slice_get decls decl ≡ None → rest_from kind decls decl offset ≡ []
unfolding rest_from
rest_ended kind decls decl offset is =
    let past : drop decl decls ≡ [] = drop_none decls decl is in
    ap (λ o. rest_of_decl kind decl offset o ++ elements_of kind (decl + 1) (drop (decl + 1) decls)) is ∙ ap (elements_of kind (decl + 1)) (all_past (slice_get_cases decls decl).1)
  where
    all_past : (((x : Declared) × (decl < length decls) × (slice_get decls decl ≡ Some x) × (get_or decls decl x ≡ x)) ⊎ ((length decls ≤ decl) × (slice_get decls decl ≡ None))) → drop (decl + 1) decls ≡ []
    all_past (inl h) = absurd (let clash : None ≡ Some h.0 = sym is ∙ h.2 in cc)
    all_past (inr h) = drop_all (decl + 1) decls (omega (arith, h.0))

-- from the first offset on, all elements of the declarations are left
pub rest_started : (kind : DeclKind) (decls : List Declared) (decl : ℕ) → rest_from kind decls decl 0 ≡ elements_of kind decl (drop decl decls)
unfolding rest_from elements_of_decl
rest_started kind decls decl = known (slice_get decls decl) refl
  where
    known : (o : Option Declared) → slice_get decls decl ≡ o → rest_from kind decls decl 0 ≡ elements_of kind decl (drop decl decls)
    known None is = rest_ended kind decls decl 0 is ∙ sym (ap (elements_of kind decl) (drop_none decls decl is))
    known (Some d) is =
        let all : element_count d.1.sizes - 0 ≡ element_count d.1.sizes = omega arith in
        ap (λ o. rest_of_decl kind decl 0 o ++ elements_of kind (decl + 1) (drop (decl + 1) decls)) is
        ∙ ap (λ n. (if is_kind kind d.1.kind then elements_from decl d 0 n else []) ++ elements_of kind (decl + 1) (drop (decl + 1) decls)) all
        ∙ sym (ap (elements_of kind decl) (drop_at decls decl d is))

-- a declaration with no element left is skipped
pub rest_skipped : (kind : DeclKind) (decls : List Declared) (decl offset : ℕ) (d : Declared) → slice_get decls decl ≡ Some d → (is_kind kind d.1.kind && nat_lt offset (element_count d.1.sizes)) ≡ false
    → rest_from kind decls (decl + 1) 0 ≡ rest_from kind decls decl offset
unfolding rest_from
rest_skipped kind decls decl offset d is none =
    rest_started kind decls (decl + 1)
    ∙ sym (ap (λ o. rest_of_decl kind decl offset o ++ elements_of kind (decl + 1) (drop (decl + 1) decls)) is ∙ ap (λ es. es ++ elements_of kind (decl + 1) (drop (decl + 1) decls)) (known (is_kind kind d.1.kind) none))
  where
    known : (b : Bool) → (b && nat_lt offset (element_count d.1.sizes)) ≡ false → (if b then elements_from decl d offset (element_count d.1.sizes - offset) else []) ≡ []
    known true h =
        let past : element_count d.1.sizes - offset ≡ 0 = grind (arith, nat_tests) in
        ap (elements_from decl d offset) past
    known false h = refl

-- the next element is taken
pub rest_taken : (kind : DeclKind) (decls : List Declared) (decl offset : ℕ) (d : Declared) → slice_get decls decl ≡ Some d → (is_kind kind d.1.kind && nat_lt offset (element_count d.1.sizes)) ≡ true
    → rest_from kind decls decl offset ≡ element decl d offset ∷ rest_from kind decls decl (offset + 1)
unfolding rest_from
rest_taken kind decls decl offset d is some =
    ap (λ o. rest_of_decl kind decl offset o ++ elements_of kind (decl + 1) (drop (decl + 1) decls)) is
    ∙ ap (λ es. es ++ elements_of kind (decl + 1) (drop (decl + 1) decls)) (known (is_kind kind d.1.kind) some)
    ∙ sym (ap (λ o. element decl d offset ∷ rest_of_decl kind decl (offset + 1) o ++ elements_of kind (decl + 1) (drop (decl + 1) decls)) is)
  where
    known : (b : Bool) → (b && nat_lt offset (element_count d.1.sizes)) ≡ true
        → (if b then elements_from decl d offset (element_count d.1.sizes - offset) else []) ≡ element decl d offset ∷ (if b then elements_from decl d (offset + 1) (element_count d.1.sizes - (offset + 1)) else [])
    known true h =
        let one : element_count d.1.sizes - offset ≡ suc (element_count d.1.sizes - (offset + 1)) = grind (arith, nat_tests) in
        ap (elements_from decl d offset) one
    known false h = absurd (cc)

-- the sizes of one of them are sizes
pub sizes_at : (decls : List Declared) (k : ℕ) (d : Declared) → slice_get decls k ≡ Some d → are_sized decls ≡ true → is_sized d ≡ true
sizes_at [] k d is h = absurd (cc)
sizes_at (x ∷ decls) zero d is h = let same : x ≡ d = cc in subst (λ z. is_sized z ≡ true) same (and_parts (is_sized x) (are_sized decls) h).0
sizes_at (x ∷ decls) (suc k) d is h = sizes_at decls k d is (and_parts (is_sized x) (are_sized decls) h).1

-- those of well-formed declarations are
pub sized_declared : (decls : List Declared) → All IsDeclared decls → are_sized decls ≡ true
sized_declared [] h = refl
sized_declared (d ∷ decls) h =
    let here : IsDeclared d = All-head IsDeclared d decls h in
    and_from (is_sized d) (are_sized decls) here.sizes (sized_declared decls (All-tail IsDeclared d decls h))
