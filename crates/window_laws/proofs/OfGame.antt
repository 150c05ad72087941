-- A play of the whole graph as a window is a play of the game.
use Rattle.std.proofs.Common.{◌≡◌, ℕ, ◌+◌, ◌*◌, ◌≤◌, ◌<◌, ltb, Bool, true, false, cond, ◌||◌, List, [], ◌∷◌, ◌⊎◌, inl, inr, sym, refl, ap, ◌∙◌, subst, arith}
use Rattle.std.specs.FinSet.{empty, contains, insert, remove, union, intersection, difference}
use Rattle.std.proofs.lemmas.Bool.{cases_Bool}
use Rattle.std.proofs.lemmas.Bool.Decides.{nat_tests}
use Rattle.comp_graph.specs.Vertices.{Vertices, ◌∈◌, ◌∉◌, IsWithin, size}
use Rattle.comp_graph.specs.Sets.{same, membership}
use Rattle.comp_graph.specs.Dags.{IsDag, is_live, live_of, degree}
use Rattle.comp_graph.specs.Games.{PebbleGame}
use Rattle.comp_graph.proofs.Sets.{some_member, left_parts, in_both, worked_cases}
use Rattle.comp_graph.proofs.Live.{has_live_of}
use Rattle.comp_graph.proofs.DagLaws.{live_before}
use Rattle.pebble_rules.specs.Rules.{start}
use Rattle.pebble_rules.specs.declared.position.Position.{Position}
use Rattle.normal_steps.specs.declared.step.Step.{Step}
use Rattle.normal_steps.specs.declared.step.Step.TheVariants.{Work, Drop, Spill}
use Rattle.normal_steps.specs.Steps.{IsStep, stepped, step_cost, worked, IsPlay, play_after, CanFinish, total_cost}
use Rattle.window_game.specs.Windows.{whole, kept}
use Rattle.window_game.specs.Plays.{start_in, is_useful, IsStepIn, stepped_in, step_cost_in, IsPlayIn, play_after_in, CanFinishIn, total_cost_in}
use Rattle.window_laws.specs.Whole.{WholeIsGame}
use Rattle.window_laws.proofs.WholeWindow.{same_loads, AllLive, live_next, outputs_live}

none_kept : (l : Vertices) (v : ℕ) → v ∉ union empty (difference l l)
none_kept l v = elim (cases_Bool (contains l v)) as (λ _. v ∉ union empty (difference l l)) [
  | inl is ↦ grind (arith, membership)
  | inr out ↦ grind (arith, membership)
]

three : (a b : Bool) (n : ℕ) → (a || (b || ltb 0 n)) ≡ true → (a ≡ true) ⊎ ((b ≡ true) ⊎ (0 < n))
three a b n e = grind (arith, nat_tests)

inner_live : (r l : Vertices) → IsWithin r l → intersection r l ≡ r
inner_live r l within = same _ _ (λ q. let at = within q in grind (arith, membership))

left_of : (s t : Vertices) (q : ℕ) → q ∈ s → q ∈ union s t
left_of s t q h = grind (arith, membership)

held_or : (r b c : Vertices) (q : ℕ) → q ∈ union r b → contains b q ≡ contains c q → q ∈ union r c
held_or r b c q h e = grind (arith, membership)

insert_both : (b c : Vertices) (u q : ℕ) → contains b q ≡ contains c q → contains (insert b u) q ≡ contains (insert c u) q
insert_both b c u q e = grind (arith, membership)

open_outputs : (o l b c : Vertices) → IsWithin o l → ((q : ℕ) → q ∈ l → contains b q ≡ contains c q) → difference (intersection o l) b ≡ difference o c
open_outputs o l b c within alike = same _ _ (λ q. let at = within q in let e = alike q in grind (arith, membership))

start_blue : (i l : Vertices) (q : ℕ) → q ∈ l → contains (intersection i l) q ≡ contains i q
start_blue i l q h = grind (arith, membership)

kept_none : (c : Bool) (b : Vertices) (v : ℕ) → c ≡ false → cond c (insert b v) b ≡ b
kept_none c b v e = ap (λ t. cond t (insert b v) b) e

module _ (g : PebbleGame) (dag : IsDag g.dag) where
  abbrev live : Vertices
  live = live_of g.dag

  -- q of the window and p of the game: the same red pebbles, which are on live vertices, and the same blue ones on live vertices
  record Alike (p q : Position) : Type 0 where
    red : q.red ≡ p.red
    red_live : AllLive g dag p.red
    blue : (x : ℕ) → x ∈ live → contains q.blue x ≡ contains p.blue x

  in_live : (x : ℕ) → is_live g.dag x ≡ true → x ∈ live
  in_live x h = has_live_of g.dag dag x ∙ h

  -- a useful Work is on a vertex that is not red
  not_red : (q : Position) (v : ℕ) → is_live g.dag v ≡ true → is_useful g (whole g) q v ≡ true → v ∉ q.red
  not_red q v is useful = elim (three _ _ _ useful) [
    | inl new ↦ (left_parts live q.red v new).1
    | inr (inl new) ↦ absurd (let out = none_kept live v in let is_in = (left_parts (kept (whole g)) q.blue v new).0 in grind arith)
    | inr (inr some) ↦ absurd (
        let m = some_member _ some in
        none_free (g.dag.preds v) live q.red m.0 m.1)
  ]
    where
      none_free : (p l r : Vertices) (x : ℕ) → x ∈ difference (intersection p l) (union (intersection p l) r) → ⊥
      none_free p l r x h = absurd (grind (arith, membership))

  record IsAlsoStep (p q : Position) (s : Step) : Type 0 where
    step : IsStep g p s
    alike : Alike (stepped g p s) (stepped_in g (whole g) q s)
    costs : step_cost g p s ≡ step_cost_in g (whole g) q s

  worked_live : (r : Vertices) (v : ℕ) → AllLive g dag r → is_live g.dag v ≡ true → IsWithin (worked g r v) live
  worked_live r v all is x h = elim (worked_cases r (g.dag.preds v) v x h) [
    | inl e ↦ in_live x (subst (λ y. is_live g.dag y ≡ true) (sym e) is)
    | inr (inl red) ↦ in_live x (all x red)
    | inr (inr pred) ↦ in_live x (live_before g.dag dag x v pred is)
  ]

  also_step : (p q : Position) → Alike p q → (s : Step) → IsStepIn g (whole g) q s → IsAlsoStep p q s
  also_step p q is (Work v) can =
      let live_v = can.0.live in
      let can_work : IsStep g p (Work v) = record {
        live = live_v;
        no_input = can.0.no_input;
        not_red = subst (λ r. v ∉ r) is.red (not_red q v live_v can.1);
        preds_held = λ x h.
            let lives = in_live x (live_before g.dag dag x v h live_v) in
            held_or p.red q.blue p.blue x
            (subst (λ r. x ∈ union r q.blue) is.red (can.0.preds_held x (in_both (g.dag.preds v) (union live empty) x h (left_of live empty x lives)))) (is.blue x lives);
        fits = subst (λ r. size (worked g r v) ≤ g.slots) is.red can.0.fits;
      } in
      record {
        step = can_work;
        alike = record {
          red = ap (λ r. intersection (worked g r v) live) is.red ∙ inner_live (worked g p.red v) live (worked_live p.red v is.red_live live_v);
          red_live = live_next g dag p is.red_live (Work v) can_work;
          blue = λ x h. ap (λ b. contains b x) (kept_none (contains (kept (whole g)) v) q.blue v (none_kept live v)) ∙ is.blue x h;
        };
        costs =
            sym (ap (λ r. g.load * size (difference (intersection (g.dag.preds v) live) r)) is.red
            ∙ ap (λ s. g.load * size s) (same_loads (g.dag.preds v) live p.red (λ x h. in_live x (live_before g.dag dag x v h live_v))));
      }
  also_step p q is (Drop u) can =
      let can_drop : IsStep g p (Drop u) = record { red = subst (λ r. u ∈ r) is.red can.0; crowded = subst (λ r. g.slots < size r + degree g.dag + 1) is.red can.1 } in
      record {
        step = can_drop;
        alike = record { red = ap (λ r. remove r u) is.red; red_live = live_next g dag p is.red_live (Drop u) can_drop; blue = is.blue };
        costs = refl;
      }
  also_step p q is (Spill u) can =
      let red = subst (λ r. u ∈ r) is.red can.0.red in
      let can_spill : IsStep g p (Spill u) = record {
        drop = record { red = red; crowded = subst (λ r. g.slots < size r + degree g.dag + 1) is.red can.1 };
        not_blue = sym (is.blue u (in_live u (is.red_live u red))) ∙ can.0.not_blue;
      } in
      record {
        step = can_spill;
        alike = record {
          red = ap (λ r. remove r u) is.red;
          red_live = live_next g dag p is.red_live (Spill u) can_spill;
          blue = λ x h. insert_both q.blue p.blue u x (is.blue x h);
        };
        costs = refl;
      }

  record IsAlsoPlay (p q : Position) (ss : List Step) : Type 0 where
    play : IsPlay g p ss
    finishes : CanFinish g (play_after g p ss)
    costs : total_cost g p ss ≡ total_cost_in g (whole g) q ss

  also_play : (ss : List Step) (p q : Position) → Alike p q → IsPlayIn g (whole g) q ss → CanFinishIn g (whole g) (play_after_in g (whole g) q ss) → IsAlsoPlay p q ss
  also_play [] p q is play finish = record {
    play = tt;
    finishes = λ x h.
        let lives = outputs_live g dag x h in
        held_or p.red q.blue p.blue x (subst (λ r. x ∈ union r q.blue) is.red (finish.outputs_held x (in_both g.dag.outputs live x h lives))) (is.blue x lives);
    costs = let sets = ap (λ s. g.store * size s) (open_outputs g.dag.outputs live q.blue p.blue (outputs_live g dag) is.blue) in omega arith;
  }
  also_play (s ∷ ss) p q is play finish =
      let here = also_step p q is s play.0 in
      let rest = also_play ss (stepped g p s) (stepped_in g (whole g) q s) here.alike play.1 finish in
      record {
        play = (here.step, rest.play);
        finishes = rest.finishes;
        costs = let a = here.costs in let b = rest.costs in omega arith;
      }

  from_start : (ss : List Step) → IsPlayIn g (whole g) (start_in g (whole g)) ss → CanFinishIn g (whole g) (play_after_in g (whole g) (start_in g (whole g)) ss)
      → IsAlsoPlay (start g) (start_in g (whole g)) ss
  from_start ss play finish = also_play ss (start g) (start_in g (whole g)) (record {
    red = refl;
    red_live = λ x h. absurd (grind (arith, membership));
    blue = λ x h. start_blue g.dag.inputs live x h;
  }) play finish

pub whole_is_game : WholeIsGame
whole_is_game g dag ss finishing =
    let also = from_start g dag ss finishing.play finishing.finishes in
    record { finishing = record { play = also.play; finishes = also.finishes }; total = also.costs }
