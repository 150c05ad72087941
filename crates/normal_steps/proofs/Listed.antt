-- The steps on the vertices of three sets, in order.
use Rattle.std.proofs.Common.{◌≡◌, ℕ, zero, suc, ◌+◌, ◌<◌, Bool, true, false, cond, List, [], ◌∷◌, ◌++◌, map, length, length-append, ◌⊎◌, inl, inr, refl, sym, ap, ◌∙◌, subst, arith}
use Rattle.std.specs.List.{All, AllPairs, Contains}
use Rattle.std.specs.FinSet.{contains, empty, remove}
use Rattle.std.specs.Iterator.{MakesProgress, item_count}
use Rattle.std.specs.Prelude.{Some}
use Rattle.std.proofs.Math.ListN.{get_or-map}
use Rattle.std.proofs.lemmas.List.{map-append, append-nil, length-map}
use Rattle.std.proofs.lemmas.List.Kept.{AllPairs-cons}
use Rattle.std.proofs.lemmas.List.Elements.{All-map, All-weaker, All-append, All-head, All-tail, All-nil, All-cons, Contains-append_left, Contains-append_right, Contains-push}
use Rattle.comp_graph.specs.Vertices.{Vertices, ◌∈◌, size, AllBelow, IsLeast, rising}
use Rattle.comp_graph.proofs.Rising.{All-rising, rising-least, rising-empty, length-rising}
use Rattle.normal_steps.specs.declared.step.Step.{Step}
use Rattle.normal_steps.specs.declared.step.Step.TheVariants.{Work, Drop, Spill}
use Rattle.normal_steps.specs.LegalSteps.{Precedes, listed}

-- ---- the first step and the others

pub listed-work : (n : ℕ) (works drops spills : Vertices) (v : ℕ) → IsLeast works v → v < n → listed n works drops spills ≡ Work v ∷ listed n (remove works v) drops spills
unfolding listed
listed-work n works drops spills v is small =
    ap (λ vs. map Work vs ++ (map Drop (rising n drops) ++ map Spill (rising n spills))) (rising-least works v n is small)

pub listed-drop : (n : ℕ) (drops spills : Vertices) (u : ℕ) → IsLeast drops u → u < n → listed n empty drops spills ≡ Drop u ∷ listed n empty (remove drops u) spills
unfolding listed
listed-drop n drops spills u is small =
    (λ i. map Work (rising-empty n i) ++ (map Drop (rising-least drops u n is small i) ++ map Spill (rising n spills)))
    ∙ (λ i. Drop u ∷ (map Work (sym (rising-empty n) i) ++ (map Drop (rising n (remove drops u)) ++ map Spill (rising n spills))))

pub listed-spill : (n : ℕ) (spills : Vertices) (u : ℕ) → IsLeast spills u → u < n → listed n empty empty spills ≡ Spill u ∷ listed n empty empty (remove spills u)
unfolding listed
listed-spill n spills u is small =
    (λ i. map Work (rising-empty n i) ++ (map Drop (rising-empty n i) ++ map Spill (rising-least spills u n is small i)))
    ∙ (λ i. Spill u ∷ (map Work (sym (rising-empty n) i) ++ (map Drop (sym (rising-empty n) i) ++ map Spill (rising n (remove spills u)))))

pub listed-empty : (n : ℕ) → listed n empty empty empty ≡ []
unfolding listed
listed-empty n = λ i. map Work (rising-empty n i) ++ (map Drop (rising-empty n i) ++ map Spill (rising-empty n i))

-- a list that goes on without its first step is shorter
pub goes_on : (can : List Step → Type 0) (s t : List Step) (x : Step) → can t → s ≡ x ∷ t → MakesProgress can (item_count (λ rest. rest)) s (Some x) t
goes_on can s t x may e =
    let shorter = ap length e in
    record { on = λ finite. (may, finite, omega arith); keeps = may; rests = λ finite. tt }

-- ---- members

rising_members : (n : ℕ) (s : Vertices) → All (λ v. v ∈ s) (rising n s)
unfolding rising
rising_members zero s = All-nil (λ v. v ∈ s)
rising_members (suc n) s = All-append (λ v. v ∈ s) (rising n s) _ (rising_members n s) (last (contains s n) refl)
  where
    last : (b : Bool) → contains s n ≡ b → All (λ v. v ∈ s) (cond b (n ∷ []) [])
    last true e = All-cons (λ v. v ∈ s) n [] e (All-nil (λ v. v ∈ s))
    last false e = All-nil (λ v. v ∈ s)

-- a fact of each member's step holds of each step that is listed
pub all_listed : (n : ℕ) (P : Step → Type 0) (works drops spills : Vertices) → ((v : ℕ) → v ∈ works → P (Work v)) → ((u : ℕ) → u ∈ drops → P (Drop u))
    → ((u : ℕ) → u ∈ spills → P (Spill u)) → All P (listed n works drops spills)
unfolding listed
all_listed n P works drops spills w d s =
    let each = λ (F : ℕ → Step) (xs : Vertices) (h : (v : ℕ) → v ∈ xs → P (F v)). All-map P F (rising n xs) (All-weaker (λ v. v ∈ xs) (λ v. P (F v)) h (rising n xs) (rising_members n xs)) in
    All-append P (map Work (rising n works)) _ (each Work works w) (All-append P (map Drop (rising n drops)) _ (each Drop drops d) (each Spill spills s))

member_rises : (n : ℕ) (s : Vertices) (v : ℕ) → v < n → v ∈ s → Contains (rising n s) v
unfolding rising
member_rises zero s v h is = absurd (omega arith)
member_rises (suc n) s v h is = elim (last_or_before v n h) [
  | inl e ↦ subst (λ b. Contains (rising n s ++ cond b (n ∷ []) []) v) (sym (subst (λ u. u ∈ s) e is)) (subst (λ u. Contains (rising n s ++ n ∷ []) u) (sym e) (Contains-push (rising n s) n))
  | inr l ↦ Contains-append_left (rising n s) (cond (contains s n) (n ∷ []) []) v (member_rises n s v l is)
]
  where
    last_or_before : (v n : ℕ) → v < suc n → (v ≡ n) ⊎ (v < n)
    last_or_before v n h = grind arith

contains_map : (F : ℕ → Step) (xs : List ℕ) (v : ℕ) → Contains xs v → Contains (map F xs) (F v)
contains_map F xs v (k, below, is) = (k, (let same = length-map xs F in omega arith), get_or-map F xs k v ∙ ap F is)

pub work_listed : (n : ℕ) (works drops spills : Vertices) (v : ℕ) → v < n → v ∈ works → Contains (listed n works drops spills) (Work v)
unfolding listed
work_listed n works drops spills v small is = Contains-append_left (map Work (rising n works)) _ (Work v) (contains_map Work (rising n works) v (member_rises n works v small is))

pub drop_listed : (n : ℕ) (works drops spills : Vertices) (u : ℕ) → u < n → u ∈ drops → Contains (listed n works drops spills) (Drop u)
unfolding listed
drop_listed n works drops spills u small is =
    Contains-append_right (map Work (rising n works)) _ (Drop u) (Contains-append_left (map Drop (rising n drops)) _ (Drop u) (contains_map Drop (rising n drops) u (member_rises n drops u small is)))

pub spill_listed : (n : ℕ) (works drops spills : Vertices) (u : ℕ) → u < n → u ∈ spills → Contains (listed n works drops spills) (Spill u)
unfolding listed
spill_listed n works drops spills u small is =
    Contains-append_right (map Work (rising n works)) _ (Spill u) (Contains-append_right (map Drop (rising n drops)) _ (Spill u) (contains_map Spill (rising n spills) u (member_rises n spills u small is)))

-- ---- order

pairs_append : {X : Type 0} (R : X → X → Type 0) (xs ys : List X) → AllPairs R xs → AllPairs R ys → All (λ x. All (R x) ys) xs → AllPairs R (xs ++ ys)
pairs_append R [] ys first second cross = second
pairs_append R (x ∷ xs) ys first second cross =
    AllPairs-cons R x (xs ++ ys)
    (All-append (R x) xs ys (λ k d h. first 0 (suc k) d (omega arith) (omega arith)) (All-head (λ x. All (R x) ys) x xs cross))
    (pairs_append R xs ys (λ i j d l h. first (suc i) (suc j) d (omega arith) (omega arith)) second (All-tail (λ x. All (R x) ys) x xs cross))

one_pair : (x : Step) → AllPairs Precedes (x ∷ [])
one_pair x i j d l h = absurd (omega arith)

pairs_last : (F : ℕ → Step) → ((v w : ℕ) → v < w → Precedes (F v) (F w)) → (n : ℕ) (xs : List ℕ) (b : Bool) → All (λ v. v < n) xs → AllPairs Precedes (map F xs)
    → AllPairs Precedes (map F (xs ++ cond b (n ∷ []) []))
pairs_last F rises n xs true below before =
    let after : All (λ x. All (Precedes x) (F n ∷ [])) (map F xs) =
    All-map (λ x. All (Precedes x) (F n ∷ [])) F xs
    (All-weaker (λ v. v < n) (λ v. All (Precedes (F v)) (F n ∷ [])) (λ v h. All-cons (Precedes (F v)) (F n) [] (rises v n h) (All-nil (Precedes (F v)))) xs below) in
    subst (AllPairs Precedes) (sym (map-append F xs (n ∷ []))) (pairs_append Precedes (map F xs) (F n ∷ []) before (one_pair (F n)) after)
pairs_last F rises n xs false below before = subst (λ ys. AllPairs Precedes (map F ys)) (sym (append-nil xs)) before

pairs_rising : (F : ℕ → Step) → ((v w : ℕ) → v < w → Precedes (F v) (F w)) → (n : ℕ) (s : Vertices) → AllPairs Precedes (map F (rising n s))
unfolding rising
pairs_rising F rises zero s = λ i j d l h. absurd (omega arith)
pairs_rising F rises (suc n) s = pairs_last F rises n (rising n s) (contains s n) (All-rising n s) (pairs_rising F rises n s)

all_of : (P : Step → Type 0) (F : ℕ → Step) → ((v : ℕ) → P (F v)) → (vs : List ℕ) → All P (map F vs)
all_of P F h vs = All-map P F vs (λ k d l. h _)

-- Work comes before Drop, and Drop before Spill
drops_first : (ds ss : List ℕ) → All (λ x. All (Precedes x) (map Spill ss)) (map Drop ds)
drops_first ds ss = all_of (λ x. All (Precedes x) (map Spill ss)) Drop (λ v. all_of (Precedes (Drop v)) Spill (λ w. tt) ss) ds

works_first : (ws ds ss : List ℕ) → All (λ x. All (Precedes x) (map Drop ds ++ map Spill ss)) (map Work ws)
works_first ws ds ss = all_of (λ x. All (Precedes x) (map Drop ds ++ map Spill ss)) Work
    (λ v. All-append (Precedes (Work v)) (map Drop ds) (map Spill ss) (all_of (Precedes (Work v)) Drop (λ w. tt) ds) (all_of (Precedes (Work v)) Spill (λ w. tt) ss)) ws

pub listed_in_order : (n : ℕ) (works drops spills : Vertices) → AllPairs Precedes (listed n works drops spills)
unfolding listed
listed_in_order n works drops spills =
    pairs_append Precedes (map Work (rising n works)) (map Drop (rising n drops) ++ map Spill (rising n spills))
    (pairs_rising Work (λ v w h. h) n works)
    (pairs_append Precedes (map Drop (rising n drops)) (map Spill (rising n spills)) (pairs_rising Drop (λ v w h. h) n drops) (pairs_rising Spill (λ v w h. h) n spills)
    (drops_first (rising n drops) (rising n spills)))
    (works_first (rising n works) (rising n drops) (rising n spills))

-- ---- how many

pub length-listed : (n : ℕ) (works drops spills : Vertices) → AllBelow n works → AllBelow n drops → AllBelow n spills
    → length (listed n works drops spills) ≡ size works + (size drops + size spills)
unfolding listed
length-listed n works drops spills w d s =
    let many = λ (F : ℕ → Step) (xs : Vertices) (h : AllBelow n xs). length-map (rising n xs) F ∙ length-rising n xs (λ q i. h.below q i) in
    omega (
      arith,
      length-append (map Work (rising n works)) (map Drop (rising n drops) ++ map Spill (rising n spills)),
      length-append (map Drop (rising n drops)) (map Spill (rising n spills)),
      many Work works w,
      many Drop drops d,
      many Spill spills s,
    )
