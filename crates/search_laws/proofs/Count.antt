-- How many positions there are, and so how many rows at most.
use Rattle.std.proofs.Common.{◌≡◌, ℕ, zero, suc, ◌+◌, ◌-◌, ◌*◌, ◌^◌, ◌≤◌, ◌<◌, Bool, true, false, List, [], ◌∷◌, length, cond, ◌⊎◌, inl, inr, refl, sym, ap, ◌∙◌, subst, arith}
use Rattle.std.proofs.Math.Nat.{pow-succ'}
use Rattle.std.specs.FinSet.{empty, contains, insert}
use Rattle.comp_graph.specs.Vertices.{Vertices, ◌∈◌, ◌∉◌, IsWithin, set_below, size}
use Rattle.comp_graph.specs.Games.{PebbleGame}
use Rattle.comp_graph.specs.Dags.{IsDag}
use Rattle.pebble_rules.specs.declared.position.Position.{Position}
use Rattle.normal_steps.specs.Steps.{CanFinish}
use Rattle.normal_steps.specs.Sound.{IsSound}
use Rattle.comp_graph.specs.Sets.{membership, same}
use Rattle.comp_graph.proofs.Sets.{size_empty, size_insert_new, size_within, insert_cases, in_set_below, set_below_parts}
use Rattle.comp_graph.proofs.Rising.{cut, cut_all, has_cut}
use Rattle.pebble_rules.proofs.Possible.{not_member}
use Rattle.comp_graph.specs.Lists.{IsIn}
use Rattle.forced_bounds.specs.FloorLaws.{FloorOfFinish}
use Rattle.potential_cert.specs.declared.tables.Row.{Row}
use Rattle.potential_cert.specs.Table.{AreDistinct}
use Rattle.search_laws.specs.Search.{searched, rows_searched}
use Rattle.search_laws.specs.SearchLaws.{EnoughBudgetIsOptimal}
use Rattle.search_laws.proofs.Entries.{rows_apart}
use Rattle.search_laws.proofs.Turns.{played_sound}
use Rattle.search_laws.proofs.Results.{search_has, row_reached, row_unfinished, few_rows_are_optimal}

-- ---- a number for each position

abbrev bit : Bool → ℕ
bit b = cond b 1 0

-- the pebbles on the vertices below k as the digits of a number; inputs have a blue one
abbrev code : PebbleGame → Position → ℕ → ℕ
code g p zero = 0
code g p (suc k) =
    cond (contains g.dag.inputs k) (2 * code g p k + bit (contains p.red k)) (4 * code g p k + 2 * bit (contains p.red k) + bit (contains p.blue k))

abbrev digits : PebbleGame → ℕ → ℕ
digits g zero = 0
digits g (suc k) = digits g k + cond (contains g.dag.inputs k) 1 2

twice : (n : ℕ) → 2 ^ (n + 1) ≡ 2 * 2 ^ n
twice n = ap (λ m. 2 ^ m) (one_more n) ∙ pow-succ' 2 n
  where
    one_more : (n : ℕ) → n + 1 ≡ suc n
    one_more n = omega arith

four_times : (n : ℕ) → 2 ^ (n + 2) ≡ 4 * 2 ^ n
four_times n =
    let e : n + 2 ≡ n + 1 + 1 = omega arith in
    let a = ap (λ m. 2 ^ m) e ∙ twice (n + 1) in
    let b = twice n in
    omega arith

bit_small : (b : Bool) → bit b ≤ 1
bit_small true = omega arith
bit_small false = omega arith

code_small_by : (c e : ℕ) (red blue input : Bool) → c < 2 ^ e → cond input (2 * c + bit red) (4 * c + 2 * bit red + bit blue) < 2 ^ (e + cond input 1 2)
code_small_by c e red blue true less = let small = bit_small red in let more = twice e in omega arith
code_small_by c e red blue false less = let small = bit_small red in let also = bit_small blue in let more = four_times e in omega arith

code_small : (g : PebbleGame) (p : Position) (k : ℕ) → code g p k < 2 ^ digits g k
code_small g p zero = omega arith
code_small g p (suc k) = code_small_by (code g p k) (digits g k) (contains p.red k) (contains p.blue k) (contains g.dag.inputs k) (code_small g p k)

digits_by : (s : Vertices) (k d : ℕ) (b : Bool) → contains s k ≡ b → k ∉ cut k s → d + size (cut k s) ≡ 2 * k → d + cond b 1 2 + size (cond b (insert (cut k s) k) (cut k s)) ≡ 2 * suc k
digits_by s k d true h new before = let one = size_insert_new (cut k s) k new in omega arith
digits_by s k d false h new before = omega arith

last_not_in_cut : (k : ℕ) (s : Vertices) → k ∉ cut k s
last_not_in_cut k s = let has = has_cut k s k in grind (arith, membership)

digits_and_inputs : (g : PebbleGame) (k : ℕ) → digits g k + size (cut k g.dag.inputs) ≡ 2 * k
digits_and_inputs g zero = let none = size_empty in omega arith
digits_and_inputs g (suc k) = digits_by g.dag.inputs k (digits g k) (contains g.dag.inputs k) refl (last_not_in_cut k g.dag.inputs) (digits_and_inputs g k)

all_digits : (g : PebbleGame) → IsDag g.dag → digits g g.dag.count ≡ 2 * g.dag.count - size g.dag.inputs
all_digits g dag =
    let whole = digits_and_inputs g g.dag.count in
    let all = ap size (cut_all g.dag.count g.dag.inputs dag.inputs_are_vertices) in
    omega arith

-- ---- positions of one number are one

two_parts : (c d : ℕ) (a b : Bool) → 2 * c + bit a ≡ 2 * d + bit b → (c ≡ d) × (a ≡ b)
two_parts c d true true h = (omega arith, refl)
two_parts c d true false h = absurd (omega arith)
two_parts c d false true h = absurd (omega arith)
two_parts c d false false h = (omega arith, refl)

four_parts : (c d : ℕ) (a b x y : Bool) → 4 * c + 2 * bit a + bit b ≡ 4 * d + 2 * bit x + bit y → (c ≡ d) × (a ≡ x) × (b ≡ y)
four_parts c d a b x y h =
    let outer = two_parts (2 * c + bit a) (2 * d + bit x) b y (omega arith) in
    let inner = two_parts c d a x outer.0 in
    (inner.0, inner.1, outer.1)

abbrev SameAt : Position → Position → ℕ → Type 0
SameAt p q v = (contains p.red v ≡ contains q.red v) × (contains p.blue v ≡ contains q.blue v)

abbrev SameBelow : Position → Position → ℕ → Type 0
SameBelow p q k = (v : ℕ) → v < k → SameAt p q v

last_or_less : (v k : ℕ) → v < suc k → (v ≡ k) ⊎ (v < k)
last_or_less v k h = grind arith

one_below : (p q : Position) (k : ℕ) → SameBelow p q k → SameAt p q k → SameBelow p q (suc k)
one_below p q k before last v l = elim (last_or_less v k l) [ inl e ↦ subst (SameAt p q) (sym e) last | inr less ↦ before v less ]

code_one_by : (g : PebbleGame) (p q : Position) → IsSound g p → IsSound g q → (k : ℕ) (input : Bool) → contains g.dag.inputs k ≡ input
    → (code g p k ≡ code g q k → SameBelow p q k)
    → cond input (2 * code g p k + bit (contains p.red k)) (4 * code g p k + 2 * bit (contains p.red k) + bit (contains p.blue k))
    ≡ cond input (2 * code g q k + bit (contains q.red k)) (4 * code g q k + 2 * bit (contains q.red k) + bit (contains q.blue k))
    → SameBelow p q (suc k)
code_one_by g p q sp sq k true h before e =
    let parts = two_parts (code g p k) (code g q k) (contains p.red k) (contains q.red k) e in
    one_below p q k (before parts.0) (parts.1, sp.inputs_blue k h ∙ sym (sq.inputs_blue k h))
code_one_by g p q sp sq k false h before e =
    let parts = four_parts (code g p k) (code g q k) (contains p.red k) (contains p.blue k) (contains q.red k) (contains q.blue k) e in
    one_below p q k (before parts.0) (parts.1, parts.2)

code_one : (g : PebbleGame) (p q : Position) → IsSound g p → IsSound g q → (k : ℕ) → code g p k ≡ code g q k → SameBelow p q k
code_one g p q sp sq zero e = λ v l. absurd (omega arith)
code_one g p q sp sq (suc k) e = code_one_by g p q sp sq k (contains g.dag.inputs k) refl (λ h. code_one g p q sp sq k h) e

below_or_not : (v n : ℕ) → (v < n) ⊎ (n ≤ v)
below_or_not v n = grind arith

outside : (s : Vertices) (n v : ℕ) → ((q : ℕ) → q ∈ s → q < n) → n ≤ v → v ∉ s
outside s n v below far = not_member _ (λ h. let less = below v h in omega arith)

sets_one : (s t : Vertices) (n : ℕ) → ((q : ℕ) → q ∈ s → q < n) → ((q : ℕ) → q ∈ t → q < n) → ((v : ℕ) → v < n → contains s v ≡ contains t v) → s ≡ t
sets_one s t n below_s below_t equal = same s t (λ v. elim (below_or_not v n) [
  | inl less ↦ equal v less
  | inr far ↦ outside s n v below_s far ∙ sym (outside t n v below_t far)
])

abbrev position_of : Vertices → Vertices → Position
position_of red blue = record { red = red; blue = blue }

positions_one : (g : PebbleGame) (p q : Position) → IsSound g p → IsSound g q → code g p g.dag.count ≡ code g q g.dag.count → p ≡ q
positions_one g p q sp sq e =
    let equal = code_one g p q sp sq g.dag.count e in
    ap (λ red. position_of red p.blue) (sets_one p.red q.red g.dag.count sp.red_below sq.red_below (λ v l. (equal v l).0))
    ∙ ap (position_of q.red) (sets_one p.blue q.blue g.dag.count sp.blue_below sq.blue_below (λ v l. (equal v l).1))

-- ---- rows have different numbers

record HasCodes (g : PebbleGame) (rows : List Row) : Type 0 where
  codes : Vertices
  many : size codes ≡ length rows
  from : (c : ℕ) → c ∈ codes → (r : Row) × IsIn r rows × (c ≡ code g r.position g.dag.count)

has_codes : (g : PebbleGame) (rows : List Row) → AreDistinct rows → ((r : Row) → IsIn r rows → IsSound g r.position) → HasCodes g rows
has_codes g [] distinct sound = record { codes = empty; many = size_empty; from = λ c i. absurd (grind (arith, membership)) }
has_codes g (r ∷ rows) distinct sound = more (has_codes g rows distinct.1 (λ q i. sound q (inr i)))
  where
    more : HasCodes g rows → HasCodes g (r ∷ rows)
    more rest =
        let new : code g r.position g.dag.count ∉ rest.codes = not_member _ (λ old.
        let q = rest.from (code g r.position g.dag.count) old in
        distinct.0 q.0 q.1 (sym (positions_one g r.position q.0.position (sound r (inl refl)) (sound q.0 (inr q.1)) q.2))) in
        record {
          codes = insert rest.codes (code g r.position g.dag.count);
          many = let one = size_insert_new rest.codes (code g r.position g.dag.count) new in let many = rest.many in omega arith;
          from = λ c i. elim (insert_cases rest.codes (code g r.position g.dag.count) c i) [
            | inl e ↦ (r, inl refl, e)
            | inr old ↦ let q = rest.from c old in (q.0, inr q.1, q.2)
          ];
        }

numbers_below : (n : ℕ) → size (set_below (λ _. true) n) ≡ n
unfolding set_below
numbers_below zero = size_empty
numbers_below (suc n) =
    let before = numbers_below n in
    let one = size_insert_new (set_below (λ _. true) n) n (not_member _ (λ h. let less = (set_below_parts n (λ _. true) n h).0 in omega arith)) in
    omega arith

pub few_positions : (g : PebbleGame) → IsDag g.dag → (rows : List Row) → AreDistinct rows → ((r : Row) → IsIn r rows → IsSound g r.position) → length rows ≤ 2 ^ (2 * g.dag.count - size g.dag.inputs)
few_positions g dag rows distinct sound =
    let has = has_codes g rows distinct sound in
    let within : IsWithin has.codes (set_below (λ _. true) (2 ^ digits g g.dag.count)) = λ c i.
    let r = has.from c i in
    let small = code_small g r.0.position g.dag.count in
    in_set_below (2 ^ digits g g.dag.count) (λ _. true) c (subst (λ c. c < 2 ^ digits g g.dag.count) (sym r.2) small) refl in
    let few = size_within _ _ within in
    let all = numbers_below (2 ^ digits g g.dag.count) in
    let many = has.many in
    let exponent = ap (λ n. 2 ^ n) (all_digits g dag) in
    omega arith

-- ---- the position in which each vertex is blue

abbrev all_blue : PebbleGame → Position
all_blue g = record { red = empty; blue = set_below (λ _. true) g.dag.count }

all_blue_sound : (g : PebbleGame) → IsDag g.dag → IsSound g (all_blue g)
all_blue_sound g dag = record {
  red_below = λ v h. absurd (grind (arith, membership));
  blue_below = λ v h. (set_below_parts g.dag.count (λ _. true) v h).0;
  inputs_blue = λ v h. in_set_below g.dag.count (λ _. true) v (dag.inputs_are_vertices v h) refl;
  fits = let none = size_empty in omega arith;
}

all_blue_finishes : (g : PebbleGame) → IsDag g.dag → CanFinish g (all_blue g)
all_blue_finishes g dag v out = let blue = in_set_below g.dag.count (λ _. true) v (dag.outputs_are_vertices v out) refl in grind (arith, membership)

-- positions of which none can finish are fewer
pub fewer_unfinished : (g : PebbleGame) → IsDag g.dag → (rows : List Row) → AreDistinct rows → ((r : Row) → IsIn r rows → IsSound g r.position)
    → ((r : Row) → IsIn r rows → CanFinish g r.position → ⊥) → length rows < 2 ^ (2 * g.dag.count - size g.dag.inputs)
fewer_unfinished g dag rows distinct sound unfinished =
    let most = few_positions g dag (record { position = all_blue g; cost = 0 } ∷ rows)
    (λ q i at. unfinished q i (subst (CanFinish g) (sym at) (all_blue_finishes g dag)), distinct)
    (λ r i. sound_by r i) in
    omega arith
  where
    sound_by : (r : Row) → (r ≡ record { position = all_blue g; cost = 0 }) ⊎ IsIn r rows → IsSound g r.position
    sound_by r (inl e) = subst (λ r. IsSound g r.position) (sym e) (all_blue_sound g dag)
    sound_by r (inr i) = sound r i

pub enough_budget_is_optimal : FloorOfFinish → EnoughBudgetIsOptimal
enough_budget_is_optimal ends g dag plan finishing budget enough bound support =
    let stands = (search_has ends g dag plan finishing budget).stands in
    let fewer = fewer_unfinished g dag (rows_searched g plan budget) (rows_apart (searched g plan budget).entries stands.kept.apart)
    (λ r i. let reached = row_reached g dag _ (searched g plan budget) stands r i in played_sound g dag r.position r.cost reached.0 reached.1)
    (row_unfinished g dag _ (searched g plan budget) stands) in
    (few_rows_are_optimal ends g dag plan finishing budget).fewer (omega arith) bound support
