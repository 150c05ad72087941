-- A label of a kernel's element is a label of code texts: a name and at most two indices, each below its size.
use Rattle.std.proofs.Common.{◌≡◌, ℕ, zero, suc, ◌+◌, ◌/◌, ◌%◌, ◌<◌, ◌≤◌, Bool, true, false, cond, ◌&&◌, List, [], ◌∷◌, ◌++◌, length, refl, sym, ap, ◌∙◌, arith, append-nil}
use Rattle.std.specs.List.{All, list_all}
use Rattle.std.specs.Str.{chars}
use Rattle.std.proofs.Math.Nat.{div-lt_iff_lt-mul}
use Rattle.std.proofs.lemmas.Bool.{leb-true}
use Rattle.std.proofs.lemmas.List.Elements.{All-nil, All-cons, All-head, All-tail, All-append}
use Rattle.kernel_ast.specs.declared.tree.DeclKind.{DeclKind}
use Rattle.kernel_ast.specs.KernelParts.{KernelParts, Declared}
use Rattle.kernel_ast.specs.Names as names
use Rattle.kernel_ast.specs.Machine.{element_count, is_kind}
use Rattle.kernel_ast.specs.WellFormed.{is_size, IsDeclared, IsWellFormed}
use Rattle.kernel_ast.specs.Labels as kernel_labels
use Rattle.kernel_ast.specs.Labels.{label_of, labels_from, labels_of_decl, labels_of}
use Rattle.kernel_lexer.specs.Spelling.{is_word}
use Rattle.scratch_code.specs.Labels.{IsName, bracketed, AreIndices, IsLabel}

word_same : (cs : List ℕ) → names.is_spelled cs ≡ is_word cs
word_same [] = refl
word_same (c ∷ cs) = refl

pub name_is_name : (bytes : List ℕ) → names.IsName bytes → IsName bytes
name_is_name bytes n = record { utf8 = n.utf8; word = sym (word_same (chars bytes)) ∙ n.spelled; short = n.short }

both : (a b : Bool) → (a && b) ≡ true → (a ≡ true) × (b ≡ true)
both true b h = (refl, h)
both false b h = absurd (cc)

size_bounds : (n : ℕ) → is_size n ≡ true → (1 ≤ n) × (n ≤ 64)
size_bounds n h = let w = both _ _ h in (leb-true 1 n w.0, leb-true n 64 w.1)

abbrev IsSmall : ℕ → Type 0
IsSmall i = i < 64

indices_of : (sizes : List ℕ) (offset : ℕ) → length sizes ≤ 2 → list_all is_size sizes ≡ true → offset < element_count sizes → AreIndices (kernel_labels.indices_text sizes offset)
indices_of [] offset few sized h = record { indices = []; few = omega arith; small = All-nil IsSmall; spelled = refl }
indices_of (m ∷ []) offset few sized h =
    let w = size_bounds m (both (is_size m) true sized).0 in
    record { indices = offset ∷ []; few = omega arith; small = All-cons IsSmall offset [] (omega arith) (All-nil IsSmall); spelled = sym (append-nil (bracketed offset)) }
indices_of (m ∷ n ∷ []) offset few sized h =
    let parts = both (is_size m) _ sized in
    let v = size_bounds m parts.0 in
    let w = size_bounds n (both (is_size n) true parts.1).0 in
    let row : offset / n < m = (div-lt_iff_lt-mul {k = n} {x = offset} {y = m} (omega arith)).1 h in
    let column : offset % n < n = omega arith in
    record {
      indices = offset / n ∷ offset % n ∷ [];
      few = omega arith;
      small = All-cons IsSmall (offset / n) (offset % n ∷ []) (omega arith) (All-cons IsSmall (offset % n) [] (omega arith) (All-nil IsSmall));
      spelled = ap (λ z. bracketed (offset / n) ++ z) (sym (append-nil (bracketed (offset % n))));
    }
indices_of (m ∷ n ∷ k ∷ more) offset few sized h = absurd (omega arith)

label_is_label : (d : Declared) (offset : ℕ) → IsDeclared d → offset < element_count d.1.sizes → IsLabel (label_of d offset)
label_is_label d offset ok h = record {
  name = d.0;
  rest = kernel_labels.indices_text d.1.sizes offset;
  name_is = name_is_name d.0 ok.name;
  indices = indices_of d.1.sizes offset ok.few ok.sizes h;
  split = refl;
}

labels_from_are : (d : Declared) (offset n : ℕ) → IsDeclared d → offset + n ≤ element_count d.1.sizes → All IsLabel (labels_from d offset n)
labels_from_are d offset zero ok h = All-nil IsLabel
labels_from_are d offset (suc n) ok h = All-cons IsLabel (label_of d offset) (labels_from d (offset + 1) n) (label_is_label d offset ok (omega arith)) (labels_from_are d (offset + 1) n ok (omega arith))

chosen : (b : Bool) (xs : List (List ℕ)) → All IsLabel xs → All IsLabel (cond b xs [])
chosen true xs all = all
chosen false xs all = All-nil IsLabel

labels_of_decl_are : (kind : DeclKind) (d : Declared) → IsDeclared d → All IsLabel (labels_of_decl kind d)
unfolding labels_of_decl
labels_of_decl_are kind d ok = chosen (is_kind kind d.1.kind) (labels_from d 0 (element_count d.1.sizes)) (labels_from_are d 0 (element_count d.1.sizes) ok (omega arith))

labels_of_are : (kind : DeclKind) (ds : List Declared) → All IsDeclared ds → All IsLabel (labels_of kind ds)
labels_of_are kind [] all = All-nil IsLabel
labels_of_are kind (d ∷ ds) all =
    All-append IsLabel (labels_of_decl kind d) (labels_of kind ds) (labels_of_decl_are kind d (All-head IsDeclared d ds all)) (labels_of_are kind ds (All-tail IsDeclared d ds all))

-- each label of an element of a well-formed kernel
pub labels_are_labels : (kernel : KernelParts) (kind : DeclKind) → IsWellFormed kernel → All IsLabel (labels_of kind kernel.decls)
labels_are_labels kernel kind ok = labels_of_are kind kernel.decls ok.decls
