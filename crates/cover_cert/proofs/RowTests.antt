-- What the tests of a row have shown so far.
use Rattle.std.proofs.Common.{◌≡◌, ℕ, zero, suc, ◌+◌, ◌≤◌, ◌<◌, eqb, IsTrue, ◌↔◌, List, [], ◌∷◌, length, ◌⊎◌, inl, inr, refl, sym, ap, ◌∙◌, subst, arith}
use Rattle.std.specs.List.{slice_index_or}
use Rattle.comp_graph.specs.Vertices.{size}
use Rattle.comp_graph.specs.Dags.{IsDag}
use Rattle.comp_graph.specs.Games.{PebbleGame, GameParts, IsGame, game_of}
use Rattle.comp_graph.proofs.GraphLaws.{IsDag-dag_of}
use Rattle.pebble_rules.specs.declared.position.Position.{Position}
use Rattle.normal_steps.specs.Steps.{IsStep, stepped, step_cost}
use Rattle.cover_cert.specs.Covers.{Covers}
use Rattle.normal_steps.specs.Sound.{IsSound}
use Rattle.normal_steps.specs.LegalSteps.{AreLegalSteps}
use Rattle.normal_steps.specs.StepTests.{legal_steps}
use Rattle.normal_steps.specs.declared.step.Step.{Step}
use Rattle.normal_steps.proofs.StepTestLaws.{legal_steps_are_listed, legal_steps_are_one_list}
use Rattle.potential_cert.specs.Places.{IsAt}
use Rattle.cover_cert.specs.declared.tables.Cover.{Cover}
use Rattle.cover_cert.specs.CoverTable.{CoverRowParts, PlacesRise, CanBeNamed, IsNamed, IsCoveredBy, NamesHold, StepHolds, StepsHold, HasFreeRow}
use Rattle.potential_cert.proofs.Places.{at_in, in_at, at_below, at_one, index_at}

-- ---- places

-- no element before place n has P
abbrev pub NoneBefore : {X : Type 0} → (X → Type 0) → List X → ℕ → Type 0
NoneBefore {X} P xs n = (k : ℕ) (x : X) → k < n → IsAt x k xs → P x → ⊥

less_or_here : (k n : ℕ) → k < n + 1 → (k < n) ⊎ (k ≡ n)
less_or_here k n h = grind arith

pub none_more : {X : Type 0} → (P : X → Type 0) (xs : List X) (n : ℕ) (y : X) → IsAt y n xs → (P y → ⊥) → NoneBefore P xs n → NoneBefore P xs (n + 1)
none_more P xs n y at fails none k x l h p = elim (less_or_here k n l) [
  | inl less ↦ none k x less h p
  | inr here ↦ fails (subst P (at_one x y n xs (subst (λ k. IsAt x k xs) here h) at) p)
]

-- from place k on these are left
abbrev pub IsFrom : {X : Type 0} → ℕ → List X → List X → Type 0
IsFrom zero rest xs = rest ≡ xs
IsFrom (suc k) rest [] = ⊥
IsFrom (suc k) rest (x ∷ xs) = IsFrom k rest xs

pub from_at : {X : Type 0} → (k : ℕ) (x : X) (rest xs : List X) → IsFrom k (x ∷ rest) xs → IsAt x k xs
from_at zero x rest xs h = subst (IsAt x zero) h refl
from_at (suc k) x rest [] h = absurd h
from_at (suc k) x rest (y ∷ ys) h = from_at k x rest ys h

from_next : {X : Type 0} → (k : ℕ) (x : X) (rest xs : List X) → IsFrom k (x ∷ rest) xs → IsFrom (suc k) rest xs
from_next zero x rest xs h = subst (λ ys. IsFrom 1 rest ys) h refl
from_next (suc k) x rest [] h = absurd h
from_next (suc k) x rest (y ∷ ys) h = from_next k x rest ys h

pub from_more : {X : Type 0} → (k : ℕ) (x : X) (rest xs : List X) → IsFrom k (x ∷ rest) xs → IsFrom (k + 1) rest xs
from_more k x rest xs h = let same : suc k ≡ k + 1 = omega arith in subst (λ n. IsFrom n rest xs) same (from_next k x rest xs h)

pub from_end : {X : Type 0} → (k : ℕ) (xs : List X) → IsFrom k [] xs → length xs ≡ k
from_end zero xs h = sym (ap length h)
from_end (suc k) [] h = absurd h
from_end (suc k) (y ∷ ys) h = let rest = from_end k ys h in omega arith

-- ---- free rows, names

pub free_row : (rows : List CoverRowParts) (k : ℕ) (r : CoverRowParts) → IsAt r k rows → r.cost ≡ 0 → HasFreeRow rows
free_row rows k r at free = (r, at_in r k rows at, free)

pub no_free_row : (rows : List CoverRowParts) (n : ℕ) → length rows ≤ n → NoneBefore (λ r. r.cost ≡ 0) rows n → HasFreeRow rows → ⊥
no_free_row rows n all none free =
    let at = in_at free.0 rows free.1 in
    let below = at_below free.0 at.0 rows at.1 in
    none at.0 free.0 (omega arith) at.1 free.2

pub name_here : (names : List Cover) (k place : ℕ) (n : Cover) → IsAt n k names → n.step ≡ place → IsNamed names place
name_here names k place n at is = (n, at_in n k names at, is)

pub no_name : (names : List Cover) (n place : ℕ) → length names ≤ n → NoneBefore (λ m. m.step ≡ place) names n → IsNamed names place → ⊥
no_name names n place all none named =
    let at = in_at named.0 names named.1 in
    let below = at_below named.0 at.0 names at.1 in
    none at.0 named.0 (omega arith) at.1 named.2

-- ---- the legal steps

pub same_legal : (g : PebbleGame) → IsDag g.dag → (p : Position) → IsSound g p → (ss : List Step) → AreLegalSteps g p ss → ss ≡ legal_steps g p
same_legal g dag p sound ss are = legal_steps_are_one_list g p ss (legal_steps g p) are (legal_steps_are_listed g dag p sound.red_below)

pub legal_at : (g : PebbleGame) → IsDag g.dag → (p : Position) → IsSound g p → (s : Step) (k : ℕ) → IsAt s k (legal_steps g p) → IsStep g p s
legal_at g dag p sound s k at = ((legal_steps_are_listed g dag p sound.red_below).legal s).0 (at_in s k (legal_steps g p) at)

-- ---- names that rise

rise_at : (ns : List Cover) → PlacesRise ns → (i j : ℕ) (m n : Cover) → i < j → IsAt m i ns → IsAt n j ns → m.step < n.step
rise_at [] rise i j m n l a b = absurd a
rise_at (x ∷ ns) rise zero zero m n l a b = absurd (omega arith)
rise_at (x ∷ ns) rise zero (suc j) m n l a b = let less = rise.0 n (at_in n j ns b) in let same = ap (λ m. m.step) a in omega arith
rise_at (x ∷ ns) rise (suc i) zero m n l a b = absurd (omega arith)
rise_at (x ∷ ns) rise (suc i) (suc j) m n l a b = rise_at ns rise.1 i j m n (omega arith) a b

rise_by_places : (ns : List Cover) → ((i j : ℕ) (m n : Cover) → i < j → IsAt m i ns → IsAt n j ns → m.step < n.step) → PlacesRise ns
rise_by_places [] less = tt
rise_by_places (x ∷ ns) less = (
  λ m i. let at = in_at m ns i in less zero (suc at.0) x m (omega arith) refl at.1,
  rise_by_places ns (λ i j m n l a b. less (suc i) (suc j) m n (omega arith) a b),
)

-- the names before `next` are those of steps before `place`, and they are good
pub record NamesSoFar (g : PebbleGame) (rows : List CoverRowParts) (r : CoverRowParts) (rest : List Step) (next place : ℕ) : Type 0 where
  pub from : IsFrom place rest (legal_steps g r.position)
  pub within : next ≤ length r.names
  pub rise : (i j : ℕ) (m n : Cover) → i < j → j < next → IsAt m i r.names → IsAt n j r.names → m.step < n.step
  pub before : (i : ℕ) (n : Cover) → i < next → IsAt n i r.names → n.step < place
  pub covered : (i : ℕ) (n : Cover) → i < next → IsAt n i r.names → (s : Step) → IsAt s n.step (legal_steps g r.position) → IsCoveredBy g rows r s n.row
  pub waits : NamesHold g rows r → (n : Cover) → IsAt n next r.names → place ≤ n.step

pub names_begin : (g : PebbleGame) (rows : List CoverRowParts) (r : CoverRowParts) (steps : List Step) → steps ≡ legal_steps g r.position → NamesSoFar g rows r steps 0 0
names_begin g rows r steps same = record {
  from = same;
  within = omega arith;
  rise = λ i j m n l k. absurd (omega arith);
  before = λ i n l. absurd (omega arith);
  covered = λ i n l. absurd (omega arith);
  waits = λ hold n at. omega arith;
}

module _ (g : PebbleGame) (rows : List CoverRowParts) (r : CoverRowParts) (s : Step) (rest : List Step) (next place : ℕ) (is : NamesSoFar g rows r (s ∷ rest) next place) where
  -- the next name is that of the step at hand
  pub name_good : (n : Cover) → IsAt n next r.names → n.step ≡ place → IsCoveredBy g rows r s n.row → NamesSoFar g rows r rest (next + 1) (place + 1)
  name_good n at here covers = record {
    from = from_more place s rest (legal_steps g r.position) is.from;
    within = let below = at_below n next r.names at in omega arith;
    rise = λ i j m x l k a b. elim (less_or_here j next k) [
      | inl less ↦ is.rise i j m x l less a b
      | inr last ↦
          let same = ap (λ n. n.step) (at_one x n next r.names (subst (λ j. IsAt x j r.names) last b) at) in
          let before = is.before i m (omega arith) a in
          omega arith
    ];
    before = λ i x l a. elim (less_or_here i next l) [
      | inl less ↦ let before = is.before i x less a in omega arith
      | inr last ↦ let same = ap (λ n. n.step) (at_one x n next r.names (subst (λ i. IsAt x i r.names) last a) at) in omega arith
    ];
    covered = λ i x l a. elim (less_or_here i next l) [
      | inl less ↦ is.covered i x less a
      | inr last ↦ λ t b.
          let same = at_one x n next r.names (subst (λ i. IsAt x i r.names) last a) at in
          let place_is : x.step ≡ place = ap (λ n. n.step) same ∙ here in
          let step : t ≡ s = at_one t s place (legal_steps g r.position) (subst (λ k. IsAt t k (legal_steps g r.position)) place_is b)
          (from_at place s rest (legal_steps g r.position) is.from) in
          subst (λ t. IsCoveredBy g rows r t x.row) (sym step) (subst (λ n. IsCoveredBy g rows r s n.row) (sym same) covers)
    ];
    waits = λ hold x a. let less = rise_at r.names hold.rise next (next + 1) n x (omega arith) at a in omega arith;
  }

  pub name_bad : (n : Cover) → IsAt n next r.names → n.step ≡ place → (IsCoveredBy g rows r s n.row → ⊥) → NamesHold g rows r → ⊥
  name_bad n at here not hold =
      not (hold.covered n (at_in n next r.names at) s (subst (λ k. IsAt s k (legal_steps g r.position)) (sym here) (from_at place s rest (legal_steps g r.position) is.from)))

  -- the step at hand has no name
  pub name_later : ((n : Cover) → IsAt n next r.names → n.step ≡ place → ⊥) → NamesSoFar g rows r rest next (place + 1)
  name_later other = record {
    from = from_more place s rest (legal_steps g r.position) is.from;
    within = is.within;
    rise = is.rise;
    before = λ i n l a. let before = is.before i n l a in omega arith;
    covered = is.covered;
    waits = λ hold n at. above place n.step (is.waits hold n at) (other n at);
  }
    where
      above : (a b : ℕ) → a ≤ b → (b ≡ a → ⊥) → a + 1 ≤ b
      above a b l ne = elim (equal_or_more a b l) [ inl e ↦ absurd (ne e) | inr more ↦ more ]
        where
          equal_or_more : (a b : ℕ) → a ≤ b → (b ≡ a) ⊎ (a + 1 ≤ b)
          equal_or_more a b l = grind arith

-- where no step is left
pub names_end : (g : PebbleGame) (rows : List CoverRowParts) (r : CoverRowParts) (next place : ℕ) → NamesSoFar g rows r [] next place → (next ≡ length r.names) ↔ NamesHold g rows r
names_end g rows r next place is = (
  λ all. record {
    rise = rise_by_places r.names (λ i j m n l a b. let below = at_below n j r.names b in is.rise i j m n l (omega arith) a b);
    below = λ n i.
        let at = in_at n r.names i in
        let below = at_below n at.0 r.names at.1 in
        let before = is.before at.0 n (omega arith) at.1 in
        let many = from_end place (legal_steps g r.position) is.from in
        omega arith;
    covered = λ n i. let at = in_at n r.names i in let below = at_below n at.0 r.names at.1 in is.covered at.0 n (omega arith) at.1;
  },
  λ hold. elim (all_or_less next (length r.names) is.within) [
    | inl all ↦ all
    | inr less ↦ absurd (
        let n = element next r.names less in
        let after = is.waits hold n.0 n.1 in
        let below = hold.below n.0 (at_in n.0 next r.names n.1) in
        let many = from_end place (legal_steps g r.position) is.from in
        omega arith)
  ],
)
  where
    all_or_less : (a b : ℕ) → a ≤ b → (a ≡ b) ⊎ (a < b)
    all_or_less a b l = grind arith

    element : (k : ℕ) (ns : List Cover) → k < length ns → (n : Cover) × IsAt n k ns
    element k [] l = absurd (omega arith)
    element zero (n ∷ ns) l = (n, refl)
    element (suc k) (n ∷ ns) l = element k ns (omega arith)

-- ---- steps without names

-- the steps before `place` that have no name are good
pub record StepsSoFar (g : PebbleGame) (rows : List CoverRowParts) (bound : ℕ) (r : CoverRowParts) (rest : List Step) (place : ℕ) : Type 0 where
  pub from : IsFrom place rest (legal_steps g r.position)
  pub good : (k : ℕ) (s : Step) → k < place → IsAt s k (legal_steps g r.position) → (IsNamed r.names k → ⊥) → StepHolds g rows bound r s

pub steps_begin : (g : PebbleGame) (rows : List CoverRowParts) (bound : ℕ) (r : CoverRowParts) (steps : List Step) → steps ≡ legal_steps g r.position → StepsSoFar g rows bound r steps 0
steps_begin g rows bound r steps same = record { from = same; good = λ k s l. absurd (omega arith) }

pub steps_more : (g : PebbleGame) (rows : List CoverRowParts) (bound : ℕ) (r : CoverRowParts) (s : Step) (rest : List Step) (place : ℕ) → StepsSoFar g rows bound r (s ∷ rest) place
    → ((IsNamed r.names place → ⊥) → StepHolds g rows bound r s) → StepsSoFar g rows bound r rest (place + 1)
steps_more g rows bound r s rest place is here = record {
  from = from_more place s rest (legal_steps g r.position) is.from;
  good = λ k t l at none. elim (less_or_here k place l) [
    | inl less ↦ is.good k t less at none
    | inr last ↦
        let same = at_one t s place (legal_steps g r.position) (subst (λ k. IsAt t k (legal_steps g r.position)) last at) (from_at place s rest (legal_steps g r.position) is.from) in
        subst (StepHolds g rows bound r) (sym same) (here (subst (λ k. IsNamed r.names k → ⊥) last none))
  ];
}

pub step_bad : (g : PebbleGame) (rows : List CoverRowParts) (bound : ℕ) (r : CoverRowParts) (s : Step) (rest : List Step) (place : ℕ) → StepsSoFar g rows bound r (s ∷ rest) place
    → (IsNamed r.names place → ⊥) → (StepHolds g rows bound r s → ⊥) → StepsHold g rows bound r → ⊥
step_bad g rows bound r s rest place is none not hold = not (hold place s (from_at place s rest (legal_steps g r.position) is.from) none)

pub steps_end : (g : PebbleGame) (rows : List CoverRowParts) (bound : ℕ) (r : CoverRowParts) (place : ℕ) → StepsSoFar g rows bound r [] place → StepsHold g rows bound r
steps_end g rows bound r place is k s at none =
    let below = at_below s k (legal_steps g r.position) at in
    let many = from_end place (legal_steps g r.position) is.from in
    is.good k s (omega arith) at none

-- ---- a step with a name

pub covered_by : (g : PebbleGame) (rows : List CoverRowParts) (r : CoverRowParts) (s : Step) (number : ℕ) (by : CoverRowParts) → IsAt by number rows → CanBeNamed s
    → Covers g by.position (stepped g r.position s) → (by.cost ≤ r.cost + step_cost g r.position s) ↔ IsCoveredBy g rows r s number
covered_by g rows r s number by at can covers = (
  λ few. record { can_be_named = can; row = by; at = at; covers = covers; costs = few },
  λ is. let same = ap (λ r. r.cost) (at_one by is.row number rows at is.at) in let few = is.costs in omega arith,
)

pub not_covered : (g : PebbleGame) (rows : List CoverRowParts) (r : CoverRowParts) (s : Step) (number : ℕ) (by : CoverRowParts) → IsAt by number rows
    → (Covers g by.position (stepped g r.position s) → ⊥) → IsCoveredBy g rows r s number → ⊥
not_covered g rows r s number by at fails is = fails (subst (λ r'. Covers g r'.position (stepped g r.position s)) (at_one is.row by number rows is.at at) is.covers)

pub is_equal_true : (a b b' : ℕ) (P : Type 0) → b ≡ b' → (a ≡ b') ↔ P → IsTrue (eqb a b) ↔ P
is_equal_true a b b' P e same = (λ h. same.0 (grind arith), λ p. let is = same.1 p in grind arith)

-- a sound position has at most 384 legal steps
pub few_legal : (game : GameParts) → IsGame game → (p : Position) → IsSound (game_of game) p → (ss : List Step) → AreLegalSteps (game_of game) p ss
    → (size p.red ≤ 64 → length ss ≤ 384) → length (legal_steps (game_of game) p) ≤ 384
few_legal game is p sound ss are few =
    let same = ap length (same_legal (game_of game) (IsDag-dag_of game.graph is.valid) p sound ss are) in
    let most = is.most in
    let fits = sound.fits in
    let short = few (omega arith) in
    omega arith

-- an element by its index, in a list that is the names
pub name_at : (ns ms : List Cover) (k : ℕ) → ns ≡ ms → k < length ns → IsAt (slice_index_or ns k (record { step = 0; row = 0 })) k ms
name_at ns ms k e l = subst (λ ms. IsAt (slice_index_or ns k (record { step = 0; row = 0 })) k ms) e (index_at _ (record { step = 0; row = 0 }) k ns l refl)
