-- What the operands looked at so far have shown.
use Rattle.std.proofs.Common.{◌≡◌, ℕ, ◌<◌, Bool, true, false, ◌&&◌, ◌||◌, List, [], refl, sym, ◌∙◌, subst, inl, inr, arith}
use Rattle.std.specs.FinSet.{contains, empty, insert}
use Rattle.comp_graph.specs.Vertices.{Vertices, ◌∈◌, ◌∉◌, IsWithin, IsOutside}
use Rattle.comp_graph.specs.Sets.{membership}
use Rattle.comp_graph.proofs.Sets.{insert_cases, in_insert, in_insert_same}
use Rattle.comp_graph.proofs.DagLaws.{both, either}
use Rattle.comp_graph.specs.Graphs.{vertices_of, IsOperandBelow}
use Rattle.comp_graph.specs.declared.node.Operand.{Operand}
use Rattle.comp_graph.specs.declared.node.Operand.TheVariants.{Vertex, Const}
use Rattle.std.specs.List.{All, slice_index_or}

-- whether all of these are in the set
pub record AreAllIn (s set : Vertices) (test : Bool) : Type 0 where
  pub within : test ≡ true → IsWithin s set
  pub outside : IsWithin s set → test ≡ true

-- whether one of these is in the set
pub record IsSomeIn (s set : Vertices) (test : Bool) : Type 0 where
  pub some : test ≡ true → (u : ℕ) × (u ∈ s) × (u ∈ set)
  pub none : test ≡ false → IsOutside s set

pub all_start : (set : Vertices) → AreAllIn (vertices_of []) set true
unfolding vertices_of
all_start set = record { within = λ e v h. absurd (none v h); outside = λ h. refl }
  where
    none : (v : ℕ) → v ∈ empty → ⊥
    none v h = grind (arith, membership)

pub some_start : (set : Vertices) → IsSomeIn (vertices_of []) set false
unfolding vertices_of
some_start set = record { some = λ e. absurd (grind arith); none = λ e v h. absurd (none v h) }
  where
    none : (v : ℕ) → v ∈ empty → ⊥
    none v h = grind (arith, membership)

all_true : (a b : Bool) → a ≡ true → b ≡ true → (a && b) ≡ true
all_true a b h k = grind arith

pub all_more : (s set : Vertices) (all here more : Bool) (u : ℕ) → AreAllIn s set all → here ≡ contains set u → more ≡ (all && here) → AreAllIn (insert s u) set more
all_more s set all here more u is at e = record {
  within = λ h v i. let parts = both all here (sym e ∙ h) in elim (insert_cases s u v i) [
    | inl same ↦ subst (λ v. v ∈ set) (sym same) (sym at ∙ parts.1)
    | inr old ↦ is.within parts.0 v old
  ];
  outside = λ h. e ∙ all_true all here (is.outside (λ v i. h v (in_insert s u v i))) (at ∙ h u (in_insert_same s u));
}

some_false : (a b : Bool) → (a || b) ≡ false → (a ≡ false) × (b ≡ false)
some_false a b h = (grind arith, grind arith)

pub some_more : (s set : Vertices) (some here more : Bool) (u : ℕ) → IsSomeIn s set some → here ≡ contains set u → more ≡ (some || here) → IsSomeIn (insert s u) set more
some_more s set some here more u is at e = record {
  some = λ h. elim (either some here (sym e ∙ h)) [
    | inl old ↦ let v = is.some old in (v.0, in_insert s u v.0 v.1, v.2)
    | inr new ↦ (u, in_insert_same s u, sym at ∙ new)
  ];
  none = λ h v i. let parts = some_false some here (sym e ∙ h) in elim (insert_cases s u v i) [
    | inl same ↦ subst (λ v. v ∉ set) (sym same) (sym at ∙ parts.1)
    | inr old ↦ is.none parts.0 v old
  ];
}

pub all_same : (s t set : Vertices) (a b : Bool) → s ≡ t → a ≡ b → AreAllIn s set a → AreAllIn t set b
all_same s t set a b e f is = subst (λ t. AreAllIn t set b) e (subst (λ b. AreAllIn s set b) f is)

pub some_same : (s t set : Vertices) (a b : Bool) → s ≡ t → a ≡ b → IsSomeIn s set a → IsSomeIn t set b
some_same s t set a b e f is = subst (λ t. IsSomeIn t set b) e (subst (λ b. IsSomeIn s set b) f is)

weaker : (v : ℕ) → v < 256 → (o : Operand) → IsOperandBelow v o → IsOperandBelow 256 o
weaker v l (Vertex u) h = omega arith
weaker v l (Const k) h = tt

pub all_weaker : (v : ℕ) (xs : List Operand) → v < 256 → All (IsOperandBelow v) xs → All (IsOperandBelow 256) xs
all_weaker v xs l all k d i = weaker v l (slice_index_or xs k d) (all k d i)
