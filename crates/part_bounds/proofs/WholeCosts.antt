-- Each vertex lies in one part, so the costs on the parts add up to the whole cost.
use Rattle.std.proofs.Common.{◌≡◌, ℕ, zero, suc, ◌+◌, ◌-◌, ◌*◌, ◌/◌, ◌≤◌, ◌<◌, Bool, true, false, cond, ltb, eqb, ◌&&◌, ◌⊎◌, List, [], ◌∷◌, length, inl, inr, sym, refl, ap, ◌∙◌, subst, arith, div-lt_iff_lt-mul, mul_comm, mul-lt-mul_of_pos_right}
use Rattle.std.proofs.lemmas.List.Elements.{All-head, All-tail}
use Rattle.std.proofs.lemmas.Bool.Decides.{nat_tests}
use Rattle.std.specs.FinSet.{contains}
use Rattle.comp_graph.specs.Vertices.{Vertices, ◌∈◌, ◌∉◌, AllBelow, sum_below, rising}
use Rattle.comp_graph.specs.Sets.{has_set_below}
use Rattle.comp_graph.specs.Graphs.{GraphParts, IsGraph, dag_of, preds_of}
use Rattle.comp_graph.specs.Games.{game_of}
use Rattle.comp_graph.proofs.Rising.{set_of_rising}
use Rattle.comp_graph.proofs.Sets.{set_of, in_insert_same, AllBelow-set_below}
use Rattle.comp_graph.proofs.Sums.{sum_below-add, sum_below-none}
use Rattle.pebble_rules.specs.Rules.{move_cost, cost}
use Rattle.pebble_rules.specs.Refusals.{vertex_of}
use Rattle.pebble_rules.specs.declared.moves.Move.{Move}
use Rattle.first_plan.specs.Ready.{readers_of}
use Rattle.part_bounds.specs.Cuts.{moves_on}
use Rattle.part_bounds.specs.Parts.{run_of, rising_readers, run_of_first, part_of, part, part_game}
use Rattle.part_bounds.specs.Laws.{PartsCostAll}
use Rattle.part_bounds.proofs.Costs.{no_cost, cost_on}
use Rattle.part_bounds.proofs.Calls.{reader_is_no_input}

-- ---- the part of a vertex is one of the parts

-- the first member in rising order is a member
first_rising : (n : ℕ) (s : Vertices) (w : ℕ) (ws : List ℕ) → AllBelow n s → rising n s ≡ w ∷ ws → w ∈ s
first_rising n s w ws below e =
    subst (λ t. w ∈ t) (set_of_rising n s below.below) (subst (λ xs. w ∈ set_of xs) (sym e) (in_insert_same (set_of ws) w))

quotient_below : (a d parts : ℕ) → a < d → 0 < parts → (a * parts) / d < parts
quotient_below a d parts less some =
    (div-lt_iff_lt-mul {k = d} {x = a * parts} {y = parts} (omega arith)).1
    (subst (λ n. a * parts < n) (mul_comm d parts) (mul-lt-mul_of_pos_right less some))

run_below : (g : GraphParts) (parts v : ℕ) → 0 < parts → length g.names ≤ v → v < length g.nodes → run_of g parts v < parts
run_below g parts v some no_input less = quotient_below (v - length g.names) (length g.nodes - length g.names) parts (omega arith) some

pub part_below : (g : GraphParts) → IsGraph g → (parts v : ℕ) → 0 < parts → v < length g.nodes → part_of g parts v < parts
part_below g valid parts v some less = by_test (ltb v (length g.names)) refl
  where
    readers : Vertices
    readers = readers_of (dag_of g) v

    below : AllBelow (length g.nodes) readers
    below = AllBelow-set_below _ _

    of_first : (ws : List ℕ) → rising_readers g v ≡ ws → run_of_first g parts ws < parts
    of_first [] e = some
    of_first (w ∷ ws) e =
        let member = first_rising (length g.nodes) readers w ws below e in
        run_below g parts w some
        (reader_is_no_input g v valid w (second (ltb w (length g.nodes)) (contains (preds_of g w) v) (sym (has_set_below (λ w. contains (preds_of g w) v) (length g.nodes) w) ∙ member)))
        (below.below w member)
      where
        second : (a b : Bool) → (a && b) ≡ true → b ≡ true
        second a b e = grind (arith, nat_tests)

    by_test : (b : Bool) → ltb v (length g.names) ≡ b → cond b (run_of_first g parts (rising_readers g v)) (run_of g parts v) < parts
    by_test true e = of_first (rising_readers g v) refl
    by_test false e = run_below g parts v some (above e) less
      where
        above : ltb v (length g.names) ≡ false → length g.names ≤ v
        above e = grind (arith, nat_tests)

-- ---- one part has a vertex

sum_below-same : (n : ℕ) (f h : ℕ → ℕ) → ((k : ℕ) → f k ≡ h k) → sum_below n f ≡ sum_below n h
sum_below-same zero f h e = refl
sum_below-same (suc n) f h e = let here = e n in let rest = sum_below-same n f h e in omega arith

sum_below-at : (n : ℕ) (test : ℕ → Bool) (c k : ℕ) → k < n → test k ≡ true → ((j : ℕ) → (j ≡ k → ⊥) → test j ≡ false) → sum_below n (λ j. cond (test j) c 0) ≡ c
sum_below-at zero test c k less passes others = absurd (omega arith)
sum_below-at (suc n) test c k less passes others = elim (last n k less) [
  | inl e ↦
      (let here = ap (λ b. cond b c 0) (ap test (sym e) ∙ passes) in
      let rest = sum_below-none n test c (λ j below. others j (λ same. omega arith)) in
      omega arith)
  | inr lower ↦
      (let here = ap (λ b. cond b c 0) (others n (λ same. omega arith)) in
      let rest = sum_below-at n test c k lower passes others in
      omega arith)
]
  where
    last : (n k : ℕ) → k < suc n → (k ≡ n) ⊎ (k < n)
    last n k h = grind arith

module _ (g : GraphParts) (parts v : ℕ) (less : v < length g.nodes) where
  in_own : v ∈ part g parts (part_of g parts v)
  in_own = has_set_below (λ w. eqb (part_of g parts w) (part_of g parts v)) (length g.nodes) v ∙ both (part_of g parts v)
    where
      both : (q : ℕ) → (ltb v (length g.nodes) && eqb q q) ≡ true
      both q = grind (arith, nat_tests)

  in_no_other : (k : ℕ) → (k ≡ part_of g parts v → ⊥) → v ∉ part g parts k
  in_no_other k other = has_set_below (λ w. eqb (part_of g parts w) k) (length g.nodes) v ∙ neither (part_of g parts v) other
    where
      neither : (q : ℕ) → (k ≡ q → ⊥) → (ltb v (length g.nodes) && eqb q k) ≡ false
      neither q apart = grind (arith, nat_tests)

abbrev IsOn : ℕ → Move → Type 0
IsOn n m = vertex_of m < n

pub parts_cost_all : PartsCostAll
parts_cost_all g valid parts some [] all = no_cost g parts parts
parts_cost_all g valid parts some (m ∷ ms) all =
    let low = All-head (IsOn (length g.graph.nodes)) m ms all in
    sum_below-same parts (λ k. cost (part_game g parts k) (moves_on (part g.graph parts k) (m ∷ ms)))
    (λ k. cond (contains (part g.graph parts k) (vertex_of m)) (move_cost (game_of g) m) 0 + cost (part_game g parts k) (moves_on (part g.graph parts k) ms))
    (λ k. cost_on (game_of g) (part g.graph parts k) m ms)
    ∙ sum_below-add parts (λ k. cond (contains (part g.graph parts k) (vertex_of m)) (move_cost (game_of g) m) 0) (λ k. cost (part_game g parts k) (moves_on (part g.graph parts k) ms))
    ∙ both (sum_below-at parts (λ k. contains (part g.graph parts k) (vertex_of m)) (move_cost (game_of g) m) (part_of g.graph parts (vertex_of m))
    (part_below g.graph valid parts (vertex_of m) some low) (in_own g.graph parts (vertex_of m) low) (in_no_other g.graph parts (vertex_of m) low))
    (parts_cost_all g valid parts some ms (All-tail (IsOn (length g.graph.nodes)) m ms all))
  where
    both : {a b x y : ℕ} → a ≡ x → b ≡ y → a + b ≡ x + y
    both e f = λ i. e i + f i
