-- Laws of the members of a set in rising order.
use Rattle.std.proofs.Common.{◌≡◌, ℕ, zero, suc, ◌≤◌, ◌<◌, ltb, Bool, true, false, ◌&&◌, List, [], ◌∷◌, ◌++◌, length, cond, sym, refl, ap, ◌∙◌, subst, inl, inr, arith, length-append, append-nil}
use Rattle.std.specs.FinSet as set
use Rattle.std.specs.FinSet.{from_list_push, nat_cmp-IsAntisymmetric}
use Rattle.std.specs.Cmp.{nat_cmp_total}
use Rattle.std.specs.List.{All}
use Rattle.std.proofs.lemmas.Bool.{cases_Bool, cases_lt, false_from_ne_true}
use Rattle.std.proofs.lemmas.List.Elements.{All-push, All-weaker, All-nil}
use Rattle.comp_graph.specs.Vertices.{Vertices, ◌∈◌, ◌∉◌, size, rising, IsLeast}
use Rattle.comp_graph.specs.Sets.{same, membership}
use Rattle.comp_graph.proofs.Sets.{size_empty, size_insert_new, set_of}

-- the members below n
abbrev pub cut : ℕ → Vertices → Vertices
cut zero s = set.empty
cut (suc n) s = cond (set.contains s n) (set.insert (cut n s) n) (cut n s)

has_cut_step : (s below : Vertices) (n q : ℕ) (here : Bool) → set.contains s n ≡ here → set.contains below q ≡ (set.contains s q && ltb q n)
    → set.contains (cond here (set.insert below n) below) q ≡ (set.contains s q && ltb q (suc n))
has_cut_step s below n q true h before = grind (arith, membership)
has_cut_step s below n q false h before = grind (arith, membership)

pub has_cut : (n : ℕ) (s : Vertices) (q : ℕ) → set.contains (cut n s) q ≡ (set.contains s q && ltb q n)
has_cut zero s q = grind (arith, membership)
has_cut (suc n) s q = has_cut_step s (cut n s) n q (set.contains s n) refl (has_cut n s q)

last_not_in_cut : (n : ℕ) (s : Vertices) → n ∉ cut n s
last_not_in_cut n s = let has = has_cut n s n in grind (arith, membership)

pub cut_all : (n : ℕ) (s : Vertices) → ((q : ℕ) → q ∈ s → q < n) → cut n s ≡ s
cut_all n s below = same _ _ (λ q. let has = has_cut n s q in let less = below q in grind (arith, membership))

length_step : (xs : List ℕ) (below : Vertices) (n : ℕ) (here : Bool) → n ∉ below → length xs ≡ size below
    → length (xs ++ cond here (n ∷ []) []) ≡ size (cond here (set.insert below n) below)
length_step xs below n true new before = length-append xs (n ∷ []) ∙ (let one = size_insert_new below n new in omega arith)
length_step xs below n false new before = length-append xs [] ∙ omega arith

length-cut : (n : ℕ) (s : Vertices) → length (rising n s) ≡ size (cut n s)
unfolding rising
length-cut zero s = sym size_empty
length-cut (suc n) s = length_step (rising n s) (cut n s) n (set.contains s n) (last_not_in_cut n s) (length-cut n s)

-- as many as the set has members
pub length-rising : (n : ℕ) (s : Vertices) → ((q : ℕ) → q ∈ s → q < n) → length (rising n s) ≡ size s
length-rising n s below = length-cut n s ∙ ap size (cut_all n s below)

set_step : (xs : List ℕ) (below : Vertices) (n : ℕ) (here : Bool) → set_of xs ≡ below → set_of (xs ++ cond here (n ∷ []) []) ≡ cond here (set.insert below n) below
set_step xs below n true before = from_list_push nat_cmp_total nat_cmp-IsAntisymmetric xs n ∙ ap (λ s. set.insert s n) before
set_step xs below n false before = ap set_of (append-nil xs) ∙ before

set_of_cut : (n : ℕ) (s : Vertices) → set_of (rising n s) ≡ cut n s
unfolding rising
set_of_cut zero s = refl
set_of_cut (suc n) s = set_step (rising n s) (cut n s) n (set.contains s n) (set_of_cut n s)

-- the set of them is the set
pub set_of_rising : (n : ℕ) (s : Vertices) → ((q : ℕ) → q ∈ s → q < n) → set_of (rising n s) ≡ s
set_of_rising n s below = set_of_cut n s ∙ cut_all n s below

rising-none : (s : Vertices) (n : ℕ) → ((u : ℕ) → u < n → set.contains s u ≡ false) → rising n s ≡ []
unfolding rising
rising-none s zero out = refl
rising-none s (suc n) out = λ i. rising-none s n (λ u h. out u (omega arith)) i ++ cond (out n (omega arith) i) (n ∷ []) []

rising-same : (s t : Vertices) (n : ℕ) → ((u : ℕ) → u < n → set.contains s u ≡ set.contains t u) → rising n s ≡ rising n t
unfolding rising
rising-same s t zero alike = refl
rising-same s t (suc n) alike = λ i. rising-same s t n (λ u h. alike u (omega arith)) i ++ cond (alike n (omega arith) i) (n ∷ []) []

-- the least member comes first, and the rest is that of the set without it
pub rising-least : (s : Vertices) (v n : ℕ) → IsLeast s v → v < n → rising n s ≡ v ∷ rising n (set.remove s v)
unfolding rising
rising-least s v zero is h = absurd (omega arith)
rising-least s v (suc n) is h = elim (cases_lt v n) [
  | inl l ↦
      let other : set.contains (set.remove s v) n ≡ set.contains s n = grind (arith, membership) in
      ap (λ xs. xs ++ cond (set.contains s n) (n ∷ []) []) (rising-least s v n is l)
      ∙ ap (λ b. v ∷ (rising n (set.remove s v) ++ cond b (n ∷ []) [])) (sym other)
  | inr g ↦
      let same : v ≡ n = omega arith in
      let first : rising n s ≡ [] = rising-none s n (λ u l. false_from_ne_true _ (λ e. absurd (omega (arith, is.least u e)))) in
      let member : set.contains s n ≡ true = sym (ap (set.contains s) same) ∙ is.member in
      let rest : rising n (set.remove s v) ≡ [] = rising-none (set.remove s v) n (λ u l. let out = false_from_ne_true (set.contains s u) (λ e. absurd (omega (arith, is.least u e))) in grind (arith, membership)) in
      let gone : set.contains (set.remove s v) n ≡ false = grind (arith, membership) in
      (λ i. first i ++ cond (member i) (n ∷ []) []) ∙ (λ i. sym same i ∷ (sym rest i ++ cond (sym gone i) (n ∷ []) []))
]

pub rising-empty : (n : ℕ) → rising n set.empty ≡ []
rising-empty n = rising-none set.empty n (λ u h. grind (arith, membership))

last_below : (b : Bool) (xs : List ℕ) (n : ℕ) → All (λ x. x < n) xs → All (λ x. x < suc n) (xs ++ cond b (n ∷ []) [])
last_below true xs n all = All-push (λ x. x < suc n) xs n (All-weaker (λ x. x < n) (λ x. x < suc n) (λ x h. omega arith) xs all) (omega arith)
last_below false xs n all = subst (All (λ x. x < suc n)) (sym (append-nil xs)) (All-weaker (λ x. x < n) (λ x. x < suc n) (λ x h. omega arith) xs all)

pub All-rising : (n : ℕ) (s : Vertices) → All (λ x. x < n) (rising n s)
unfolding rising
All-rising zero s = All-nil (λ x. x < 0)
All-rising (suc n) s = last_below (set.contains s n) (rising n s) n (All-rising n s)

-- a list of rising members, a number at a time
pub rising-zero : (s : Vertices) → rising zero s ≡ []
unfolding rising
rising-zero s = refl

pub rising-in : (n : ℕ) (s : Vertices) → n ∈ s → rising (suc n) s ≡ rising n s ++ n ∷ []
unfolding rising
rising-in n s h = ap (λ b. rising n s ++ cond b (n ∷ []) []) h

pub rising-out : (n : ℕ) (s : Vertices) → n ∉ s → rising (suc n) s ≡ rising n s
unfolding rising
rising-out n s h = ap (λ b. rising n s ++ cond b (n ∷ []) []) h ∙ append-nil (rising n s)

-- members below m are all members
pub rising-past : (s : Vertices) (m : ℕ) → ((v : ℕ) → v ∈ s → v < m) → (n : ℕ) → m ≤ n → rising n s ≡ rising m s
rising-past s m below zero less = ap (λ k. rising k s) (let e : zero ≡ m = omega arith in e)
rising-past s m below (suc n) less = elim (cases_lt n m) [
  | inl within ↦ ap (λ k. rising k s) (let e : suc n ≡ m = omega arith in e)
  | inr past ↦ rising-out n s (false_from_ne_true (set.contains s n) (λ h. absurd (omega (arith, below n h)))) ∙ rising-past s m below n past
]

-- there are no more of them than numbers
pub length-rising_le : (n : ℕ) (s : Vertices) → length (rising n s) ≤ n
length-rising_le zero s = let e = ap length (rising-zero s) in omega arith
length-rising_le (suc n) s =
    let rest = length-rising_le n s in
    elim (cases_Bool (set.contains s n)) [
      | inl h ↦ let e = ap length (rising-in n s h) in let sum = length-append (rising n s) (n ∷ []) in omega arith
      | inr h ↦ let e = ap length (rising-out n s h) in omega arith
    ]
