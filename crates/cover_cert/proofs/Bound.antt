-- The bound of a covered table: an induction on the number of Work steps that a play from a row still makes, then on the number of live
-- vertices that are not blue in the row, then on the number of red vertices.
use Rattle.std.proofs.Common.{◌≡◌, ℕ, zero, suc, ◌+◌, ◌≤◌, ◌<◌, true, false, ◌==◌, List, [], ◌∷◌, length, ◌⊎◌, inl, inr, refl, sym, ap, ◌∙◌, subst, arith}
use Rattle.std.specs.FinSet.{insert, remove, difference}
use Rattle.comp_graph.specs.Vertices.{◌∈◌, ◌∉◌, size}
use Rattle.comp_graph.specs.Dags.{IsDag, is_live, live_of}
use Rattle.comp_graph.specs.Games.{PebbleGame}
use Rattle.comp_graph.specs.Sets.{membership}
use Rattle.comp_graph.proofs.Sets.{size_remove, size_within, insert_cases}
use Rattle.pebble_rules.specs.Rules.{start, IsComplete, cost}
use Rattle.pebble_rules.specs.declared.moves.Move.{Move}
use Rattle.pebble_rules.specs.declared.position.Position.{Position}
use Rattle.pebble_rules.proofs.Possible.{true_or_false}
use Rattle.normal_steps.specs.Steps.{IsStep, stepped, step_cost, IsFinishing, total_cost, work_vertices}
use Rattle.normal_steps.specs.Subsequences.{IsSubsequence, none, left_out, kept}
use Rattle.normal_steps.specs.Simulation.{PlaysCostNoMore}
use Rattle.normal_steps.specs.PlanMoves.{PlaysArePebblings}
use Rattle.normal_steps.specs.Sound.{IsSound}
use Rattle.normal_steps.specs.StepTests.{legal_steps}
use Rattle.normal_steps.specs.declared.step.Step.{Step}
use Rattle.normal_steps.specs.declared.step.Step.TheVariants.{Work, Drop, Spill}
use Rattle.normal_steps.proofs.Simulation.{start_follows}
use Rattle.normal_steps.proofs.Sound.{step_sound}
use Rattle.normal_steps.proofs.StepTestLaws.{legal_steps_are_listed}
use Rattle.comp_graph.specs.Lists.{IsIn}
use Rattle.forced_bounds.specs.FloorLaws.{FloorIsBelowPlays}
use Rattle.cover_cert.specs.Covers.{Covers}
use Rattle.potential_cert.specs.Places.{IsAt}
use Rattle.cover_cert.specs.declared.tables.Cover.{Cover}
use Rattle.cover_cert.specs.CoverTable.{CoverRowParts, IsNamed, IsCoveredBy, IsCoverTable, StepHolds, plain}
use Rattle.cover_cert.specs.CoverLaws.{CoverBoundIsBelowPlays, CoverBoundIsBelowPebblings}
use Rattle.cover_cert.proofs.Covered.{live_in, in_live, covers_follows, covers_start, covering_costs_no_more}
use Rattle.potential_cert.proofs.Places.{at_in, in_at}
use Rattle.search_laws.proofs.Lists.{map_in}

-- ---- what gets less

pub shorter : (xs ys : List ℕ) → IsSubsequence xs ys → length xs ≤ length ys
shorter xs ys none = omega arith
shorter xs ys (left_out y h) = let rest = shorter _ _ h in omega arith
shorter xs ys (kept x h) = let rest = shorter _ _ h in omega arith

abbrev pub works : List Step → ℕ
works ss = length (work_vertices ss)

-- the number of live vertices that are not blue
abbrev pub unsaved : PebbleGame → Position → ℕ
unsaved g p = size (difference (live_of g.dag) p.blue)

-- a play from p before a play from q, in the order of the induction
abbrev IsLess : PebbleGame → Position → List Step → Position → List Step → Type 0
IsLess g p ss q ts =
    (works ss < works ts)
    ⊎ ((works ss ≤ works ts) × ((unsaved g p < unsaved g q) ⊎ ((unsaved g p ≤ unsaved g q) × (size p.red < size q.red))))

unsaved_less : (g : PebbleGame) (p q : Position) → ((v : ℕ) → is_live g.dag v ≡ true → v ∈ q.blue → v ∈ p.blue) → unsaved g p ≤ unsaved g q
unsaved_less g p q more = size_within _ _ (λ v h. here v (in_live g v (live_part v h)) h)
  where
    live_part : (v : ℕ) → v ∈ difference (live_of g.dag) p.blue → v ∈ live_of g.dag
    live_part v h = grind (arith, membership)

    here : (v : ℕ) → is_live g.dag v ≡ true → v ∈ difference (live_of g.dag) p.blue → v ∈ difference (live_of g.dag) q.blue
    here v live h = let old = more v live in grind (arith, membership)

-- where a live vertex is blue in p and not in q
unsaved_one : (g : PebbleGame) → IsDag g.dag → (p q : Position) (u : ℕ) → ((v : ℕ) → is_live g.dag v ≡ true → v ∈ insert q.blue u → v ∈ p.blue)
    → is_live g.dag u ≡ true → u ∉ q.blue → unsaved g p < unsaved g q
unsaved_one g dag p q u more live not_blue =
    let one = size_remove (difference (live_of g.dag) q.blue) u (missing (live_in g dag u live)) in
    let few = size_within (difference (live_of g.dag) p.blue) (remove (difference (live_of g.dag) q.blue) u) (λ v h. here v (in_live g v (live_part v h)) h) in
    omega arith
  where
    missing : u ∈ live_of g.dag → u ∈ difference (live_of g.dag) q.blue
    missing h = grind (arith, membership)

    live_part : (v : ℕ) → v ∈ difference (live_of g.dag) p.blue → v ∈ live_of g.dag
    live_part v h = grind (arith, membership)

    here : (v : ℕ) → is_live g.dag v ≡ true → v ∈ difference (live_of g.dag) p.blue → v ∈ remove (difference (live_of g.dag) q.blue) u
    here v is h = let old = more v is in grind (arith, membership)

-- ---- names

abbrev FindsName : List Cover → ℕ → Type 0
FindsName names k = IsNamed names k ⊎ (IsNamed names k → ⊥)

same_or_not : (a b : ℕ) → (a ≡ b) ⊎ (a ≡ b → ⊥)
same_or_not a b = elim (true_or_false (a == b)) [ inl e ↦ inl (grind arith) | inr ne ↦ inr (λ e. grind arith) ]

named_or_not : (names : List Cover) (k : ℕ) → FindsName names k
named_or_not [] k = inr (λ h. h.1)
named_or_not (n ∷ ns) k = elim (same_or_not n.step k) [
  | inl e ↦ inl (n, inl refl, e)
  | inr ne ↦ elim (named_or_not ns k) [
    | inl h ↦ inl (h.0, inr h.1, h.2)
    | inr no_name ↦ inr (λ h. elsewhere n ns k ne no_name h.0 h.1 h.2)
  ]
]
  where
    elsewhere : (n : Cover) (ns : List Cover) (k : ℕ) → (n.step ≡ k → ⊥) → (IsNamed ns k → ⊥) → (m : Cover) → (m ≡ n) ⊎ IsIn m ns → m.step ≡ k → ⊥
    elsewhere n ns k ne no_name m (inl e) at = ne (sym (ap (λ n. n.step) e) ∙ at)
    elsewhere n ns k ne no_name m (inr i) at = no_name (m, i, at)

-- the place of a legal step
place_of : (g : PebbleGame) → IsDag g.dag → (p : Position) → IsSound g p → (s : Step) → IsStep g p s → (k : ℕ) × IsAt s k (legal_steps g p)
place_of g dag p sound s step = in_at s (legal_steps g p) (((legal_steps_are_listed g dag p sound.red_below).legal s).1 step)

-- each step comes before the play that begins with it
less_after : (g : PebbleGame) (p : Position) (s : Step) (ss : List Step) → IsStep g p s → IsLess g (stepped g p s) ss p (s ∷ ss)
less_after g p (Work v) ss can = inl (omega arith)
less_after g p (Drop u) ss can = inr (omega arith, inr (omega arith, (let one = size_remove p.red u can.red in omega arith)))
less_after g p (Spill u) ss can =
    inr (omega arith, inr (unsaved_less g (stepped g p (Spill u)) p (λ v live h. grind (arith, membership)), (let one = size_remove p.red u can.drop.red in omega arith)))

-- a Drop in place of a Spill of a dead vertex
dead_follows : (g : PebbleGame) (p : Position) (u : ℕ) → is_live g.dag u ≡ false → Covers g (stepped g p (Drop u)) (stepped g p (Spill u))
dead_follows g p u dead = record { red = λ v live h. h; blue = λ v live h. other v live (insert_cases p.blue u v h) }
  where
    other : (v : ℕ) → is_live g.dag v ≡ true → (v ≡ u) ⊎ (v ∈ p.blue) → v ∈ p.blue
    other v live (inl e) = absurd (let also = ap (λ v. is_live g.dag v) e in grind arith)
    other v live (inr h) = h

module _ (below : FloorIsBelowPlays) (follow : PlaysCostNoMore) (played : PlaysArePebblings)
    (g : PebbleGame) (dag : IsDag g.dag) (rows : List CoverRowParts) (bound : ℕ) (valid : IsCoverTable g rows bound) where
  abbrev IsBounded : CoverRowParts → List Step → Type 0
  IsBounded r ss = IsFinishing g r.position ss → bound ≤ r.cost + total_cost g r.position ss

  -- each play from a row that comes before is bounded
  abbrev AllBefore : CoverRowParts → List Step → Type 0
  AllBefore r ss = (q : CoverRowParts) → IsIn q rows → (ts : List Step) → IsLess g q.position ts r.position ss → IsBounded q ts

  -- what a play from q does, a play from p does at no greater cost and with no more Work
  record Answer (q : Position) (ss : List Step) (p : Position) : Type 0 where
    plays : List Step
    finishing : IsFinishing g p plays
    costs : total_cost g p plays ≤ total_cost g q ss
    few : works plays ≤ works ss

  answered : (q : Position) → size q.red ≤ g.slots → (ss : List Step) → IsFinishing g q ss → (p : Position) → Covers g p q → Answer q ss p
  answered q fits ss finishing p covers =
      let answer = covering_costs_no_more follow played g dag p q covers fits ss finishing in
      record { plays = answer.steps; finishing = answer.finishing; costs = answer.costs; few = shorter _ _ answer.works }

  -- the rest of a play
  rest_finishes : (p : Position) (s : Step) (ss : List Step) → IsFinishing g p (s ∷ ss) → IsFinishing g (stepped g p s) ss
  rest_finishes p s ss finishing = record { play = finishing.play.1; finishes = finishing.finishes }

  -- a step without a name, and a play from where it leads
  by_step : (r : CoverRowParts) (s : Step) (ts : List Step) → IsFinishing g (stepped g r.position s) ts
      → ((q : CoverRowParts) → IsIn q rows → q.position ≡ stepped g r.position s → IsBounded q ts)
      → StepHolds g rows bound r s
      → bound ≤ r.cost + step_cost g r.position s + total_cost g (stepped g r.position s) ts
  by_step r s ts finishing before (inl q) =
      let x = map_in plain q.0 rows q.1 in
      let here : x.0.position ≡ stepped g r.position s = sym (ap (λ r. r.position) x.2) ∙ q.2 in
      let most = before x.0 x.1 here (subst (λ p. IsFinishing g p ts) (sym here) finishing) in
      let same = ap (λ p. total_cost g p ts) here in
      let costs = ap (λ r. r.cost) x.2 in
      let few = q.3 in
      omega arith
  by_step r s ts finishing before (inr most) = let least = below g dag (stepped g r.position s) ts finishing in omega arith

  -- a step with a name
  by_name : (r : CoverRowParts) → IsIn r rows → (s : Step) (ss : List Step) → IsFinishing g r.position (s ∷ ss) → (number : ℕ) (by : IsCoveredBy g rows r s number)
      → ((ts : List Step) → works ts ≤ works ss → IsLess g by.row.position ts r.position (s ∷ ss))
      → AllBefore r (s ∷ ss) → bound ≤ r.cost + total_cost g r.position (s ∷ ss)
  by_name r i s ss finishing number by less before =
      let sound = step_sound g dag r.position (valid.sound r i) s finishing.play.0 in
      let answer = answered (stepped g r.position s) sound.fits ss (rest_finishes r.position s ss finishing) by.row.position by.covers in
      let most = before by.row (at_in by.row number rows by.at) answer.plays (less answer.plays answer.few) answer.finishing in
      let costs = by.costs in
      let plays = answer.costs in
      omega arith

  -- a Spill of a dead vertex: the play goes on as after a Drop
  by_drop : (r : CoverRowParts) → IsIn r rows → (u : ℕ) (ss : List Step) → is_live g.dag u ≡ false → IsFinishing g r.position (Spill u ∷ ss)
      → AllBefore r (Spill u ∷ ss) → bound ≤ r.cost + total_cost g r.position (Spill u ∷ ss)
  by_drop r i u ss dead finishing before =
      let can = finishing.play.0.drop in
      let sound = step_sound g dag r.position (valid.sound r i) (Spill u) finishing.play.0 in
      let answer = answered (stepped g r.position (Spill u)) sound.fits ss (rest_finishes r.position (Spill u) ss finishing) (stepped g r.position (Drop u)) (dead_follows g r.position u dead) in
      let at = place_of g dag r.position (valid.sound r i) (Drop u) can in
      let offered = valid.steps r i at.0 (Drop u) at.1 (λ n. ((valid.names r i).covered n.0 n.1 (Drop u) (subst (λ k. IsAt (Drop u) k (legal_steps g r.position)) (sym n.2) at.1)).can_be_named) in
      let most = by_step r (Drop u) answer.plays answer.finishing (λ q j e. before q j answer.plays (less q e answer.plays answer.few)) offered in
      let plays = answer.costs in
      omega arith
    where
      less : (q : CoverRowParts) → q.position ≡ stepped g r.position (Drop u) → (ts : List Step) → works ts ≤ works ss → IsLess g q.position ts r.position (Spill u ∷ ss)
      less q e ts few = inr (
        omega arith,
        inr (
          (let same = ap (unsaved g) e in omega arith),
          (let one = size_remove r.position.red u finishing.play.0.drop.red in let same = ap (λ p. size p.red) e in omega arith),
        ),
      )

  named_bounded : (r : CoverRowParts) → IsIn r rows → (s : Step) (ss : List Step) → IsFinishing g r.position (s ∷ ss) → (number : ℕ) → IsCoveredBy g rows r s number
      → AllBefore r (s ∷ ss) → bound ≤ r.cost + total_cost g r.position (s ∷ ss)
  named_bounded r i (Work v) ss finishing number by before = by_name r i (Work v) ss finishing number by (λ ts few. inl (omega arith)) before
  named_bounded r i (Drop u) ss finishing number by before = absurd by.can_be_named
  named_bounded r i (Spill u) ss finishing number by before = elim (true_or_false (is_live g.dag u)) [
    | inl live ↦ by_name r i (Spill u) ss finishing number by
        (λ ts few. inr (omega arith, inl (unsaved_one g dag by.row.position r.position u by.covers.blue live finishing.play.0.not_blue))) before
    | inr dead ↦ by_drop r i u ss dead finishing before
  ]

  step_bounded : (r : CoverRowParts) → IsIn r rows → (s : Step) (ss : List Step) → AllBefore r (s ∷ ss) → IsBounded r (s ∷ ss)
  step_bounded r i s ss before finishing =
      let at = place_of g dag r.position (valid.sound r i) s finishing.play.0 in
      elim (named_or_not r.names at.0) [
        | inl n ↦ named_bounded r i s ss finishing n.0.row ((valid.names r i).covered n.0 n.1 s (subst (λ k. IsAt s k (legal_steps g r.position)) (sym n.2) at.1)) before
        | inr no_name ↦
            let most = by_step r s ss (rest_finishes r.position s ss finishing)
            (λ q j e. before q j ss (subst (λ p. IsLess g p ss r.position (s ∷ ss)) (sym e) (less_after g r.position s ss finishing.play.0)))
            (valid.steps r i at.0 s at.1 no_name) in
            omega arith
      ]

  one_bounded : (r : CoverRowParts) → IsIn r rows → (ss : List Step) → AllBefore r ss → IsBounded r ss
  one_bounded r i [] before finishing = let most = valid.finishes r i finishing.finishes in omega arith
  one_bounded r i (s ∷ ss) before finishing = step_bounded r i s ss before finishing

  -- ---- the induction

  abbrev FewerWorks : ℕ → Type 0
  FewerWorks w = (r : CoverRowParts) → IsIn r rows → (ss : List Step) → works ss < w → IsBounded r ss

  abbrev FewerUnsaved : ℕ → ℕ → Type 0
  FewerUnsaved w k = (r : CoverRowParts) → IsIn r rows → (ss : List Step) → works ss < w → unsaved g r.position < k → IsBounded r ss

  abbrev FewerRed : ℕ → ℕ → ℕ → Type 0
  FewerRed w k m = (r : CoverRowParts) → IsIn r rows → (ss : List Step) → works ss < w → unsaved g r.position < k → size r.position.red < m → IsBounded r ss

  before_by : (w k m : ℕ) → FewerWorks w → FewerUnsaved (suc w) k → FewerRed (suc w) (suc k) m
      → (r : CoverRowParts) (ss : List Step) → works ss < suc w → unsaved g r.position < suc k → size r.position.red < suc m → AllBefore r ss
  before_by w k m few less fewer r ss a b c q j ts (inl x) = few q j ts (omega arith)
  before_by w k m few less fewer r ss a b c q j ts (inr x) = elim x.1 [
    | inl y ↦ less q j ts (omega (arith, x.0)) (omega arith)
    | inr y ↦ fewer q j ts (omega (arith, x.0)) (omega (arith, y.0)) (omega (arith, y.1))
  ]

  by_red : (w k : ℕ) → FewerWorks w → FewerUnsaved (suc w) k → (m : ℕ) → FewerRed (suc w) (suc k) m
  by_red w k few less zero r i ss a b c = absurd (omega arith)
  by_red w k few less (suc m) r i ss a b c = one_bounded r i ss (before_by w k m few less (by_red w k few less m) r ss a b c)

  by_unsaved : (w : ℕ) → FewerWorks w → (k : ℕ) → FewerUnsaved (suc w) k
  by_unsaved w few zero r i ss a b = absurd (omega arith)
  by_unsaved w few (suc k) r i ss a b = by_red w k few (by_unsaved w few k) (suc (size r.position.red)) r i ss a b (omega arith)

  by_works : (w : ℕ) → FewerWorks w
  by_works zero r i ss a = absurd (omega arith)
  by_works (suc w) r i ss a = by_unsaved w (by_works w) (suc (unsaved g r.position)) r i ss a (omega arith)

  rows_bounded : (r : CoverRowParts) → IsIn r rows → (ss : List Step) → IsBounded r ss
  rows_bounded r i ss = by_works (suc (works ss)) r i ss (omega arith)

  bound_below : (ms : List Move) → IsComplete g (start g) ms → bound ≤ cost g ms
  bound_below ms complete = elim valid.starts [
    | inl most ↦
        let answer = follow g dag (start g) (start g) (start_follows g) ms complete in
        let least = below g dag (start g) answer.steps answer.finishing in
        let costs = answer.costs in
        omega arith
    | inr row ↦
        let answer = follow g dag (start g) row.0.position (covers_follows g row.0.position (start g) (covers_start g row.0.position (valid.sound row.0 row.1))) ms complete in
        let most = rows_bounded row.0 row.1 answer.steps answer.finishing in
        let costs = answer.costs in
        let none = row.2 in
        omega arith
  ]

pub cover_bound_is_below_plays : FloorIsBelowPlays → PlaysCostNoMore → PlaysArePebblings → CoverBoundIsBelowPlays
cover_bound_is_below_plays below follow played g dag rows bound valid r i ss finishing = rows_bounded below follow played g dag rows bound valid r i ss finishing

pub cover_bound_is_below_pebblings : FloorIsBelowPlays → PlaysCostNoMore → PlaysArePebblings → CoverBoundIsBelowPebblings
cover_bound_is_below_pebblings below follow played g dag rows bound valid ms complete = bound_below below follow played g dag rows bound valid ms complete
