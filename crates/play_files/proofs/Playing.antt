-- A whole pebbling is followed, and the play finishes at its end.
use Rattle.std.proofs.Common.{◌≡◌, ℕ, suc, ◌+◌, ◌*◌, ◌≤◌, ◌<◌, List, [], ◌∷◌, ◌++◌, length, drop, get_or, sym, refl, ap, ◌∙◌, subst, arith, append-nil, append_assoc, drop-cons, inl, inr}
use Rattle.std.proofs.lemmas.List.{drop_all}
use Rattle.std.specs.Prelude.{Option, Some, None, IfNone, IsSome}
use Rattle.std.specs.FinSet.{remove}
use Rattle.comp_graph.specs.Vertices.{Vertices, ◌∉◌, IsLeast, size}
use Rattle.comp_graph.specs.Sets.{membership}
use Rattle.comp_graph.specs.Games.{PebbleGame, GameParts, AreWeights, game_of}
use Rattle.comp_graph.proofs.Sets.{size_empty, size_remove}
use Rattle.pebble_rules.specs.Rules.{start, IsMove, moved, move_cost, cost, IsPebbling, IsComplete, position_after, computed_by, computed}
use Rattle.pebble_rules.specs.declared.moves.Move.{Move}
use Rattle.pebble_rules.specs.declared.moves.Move.TheVariants.{Load, Store, Compute, DropRed, DropBlue}
use Rattle.normal_steps.specs.Steps.{CanFinish, finish_cost, total_cost, CanDrop, work_vertices, worked}
use Rattle.normal_steps.specs.Subsequences.{IsSubsequence}
use Rattle.normal_steps.specs.Plans.{PlanParts, IsPlan, IsNoPlan}
use Rattle.normal_steps.specs.declared.step.Step.{Step}
use Rattle.normal_steps.proofs.Simulation.{finish_paid, can_finish, computed_append, start_follows}
use Rattle.play_files.specs.Followed.{MakesRoom, leaves, AreFollowed, AreStepsOf, IsFollowed, in_the_way, removed}
use Rattle.play_files.specs.Tidying.{Following, AreTidied, first_following, IsFollowing, Answers, AnswersMove}
use Rattle.play_files.proofs.Answering.{same_debts, then_answers}

-- ---- room for one Work

-- victims leave before Compute(v): so far the play answers nothing, and v is neither red nor owed
pub record IsMakingRoom (g : PebbleGame) (v : ℕ) (before now : Following) : Type 0 where
  pub raw : now.raw ≡ before.raw
  pub answers : Answers g before.raw before now 0 []
  pub not_red : v ∉ now.normal.red
  pub not_owed : v ∉ now.debts.loads
  pub keeps : (after : Following) → MakesRoom g v after now → MakesRoom g v after before

pub room_begins : (g : PebbleGame) (v : ℕ) (f : Following) → IsFollowing g f → v ∉ f.normal.red → v ∉ f.debts.loads → IsMakingRoom g v f f
room_begins g v f following not_red not_owed = record {
  raw = refl;
  answers = same_debts g f.raw f f 0 [] refl refl refl following;
  not_red = not_red;
  not_owed = not_owed;
  keeps = λ after more. more;
}

still_out : (s : Vertices) (u v : ℕ) → v ∉ s → v ∉ remove s u
still_out s u v h = grind (arith, membership)

pub room_follows : (g : PebbleGame) (v : ℕ) (before now : Following) → IsMakingRoom g v before now → IsFollowing g now
room_follows g v before now making = subst (λ r. IsFollowing g (record now { raw = r })) (sym making.raw) making.answers.follows

pub room_goes_on : (g : PebbleGame) (v u : ℕ) (before now after : Following) → IsMakingRoom g v before now
    → after.raw ≡ now.raw → after.normal.red ≡ remove now.normal.red u → after.debts.loads ≡ now.debts.loads → Answers g now.raw now after 0 []
    → g.slots < size (worked g now.normal.red v) → IsLeast (in_the_way g now v) u → after ≡ removed g now u → IsMakingRoom g v before after
room_goes_on g v u before now after making raw red loads answers full least is = record {
  raw = raw ∙ making.raw;
  answers = then_answers g before.raw before.raw before now after 0 0 0 [] [] [] making.answers (subst (λ r. Answers g r now after 0 []) making.raw answers) refl refl;
  not_red = subst (λ s. v ∉ s) (sym red) (still_out now.normal.red u v making.not_red);
  not_owed = subst (λ s. v ∉ s) (sym loads) making.not_owed;
  keeps = λ last more. making.keeps last (leaves u full least (subst (MakesRoom g v last) is more));
}

pub room_answers : (g : PebbleGame) (v : ℕ) (before now after : Following) → IsMakingRoom g v before now → AnswersMove g (Compute v) now after → AnswersMove g (Compute v) before after
room_answers g v before now after making answers =
    then_answers g before.raw (moved before.raw (Compute v)) before now after 0 0 0 [] (v ∷ []) (v ∷ []) making.answers
    (subst (λ r. Answers g (moved r (Compute v)) now after 0 (v ∷ [])) making.raw answers) refl refl

pub fewer_red : (g : PebbleGame) (now after : Following) (u : ℕ) → CanDrop g now.normal u → after.normal.red ≡ remove now.normal.red u → size after.normal.red < size now.normal.red
fewer_red g now after u can e = let less = size_remove now.normal.red u can.red in let is = ap size e in omega arith

-- ---- all moves

-- the first n moves are followed, at the cost `paid`; they compute `vertices`
pub record IsOnTheWay (g : PebbleGame) (ms : List Move) (n : ℕ) (now : Following) : Type 0 where
  pub paid : ℕ
  pub vertices : List ℕ
  pub answers : Answers g now.raw (first_following g) now paid vertices
  pub rest : IsPebbling g now.raw (drop n ms)
  pub ends : position_after now.raw (drop n ms) ≡ position_after (start g) ms
  pub costs : paid + cost g (drop n ms) ≡ cost g ms
  pub computes : vertices ++ computed (drop n ms) ≡ computed ms
  pub goes_on : (after : Following) → AreFollowed g (drop n ms) now after → AreFollowed g ms (first_following g) after

pub way_follows : (g : PebbleGame) (ms : List Move) (n : ℕ) (now : Following) → IsOnTheWay g ms n now → IsFollowing g now
way_follows g ms n now way = way.answers.follows

pub way_begins : (g : PebbleGame) (ms : List Move) (now : Following) → IsPebbling g (start g) ms → now ≡ first_following g → IsOnTheWay g ms 0 now
way_begins g ms now pebbling e = subst (IsOnTheWay g ms 0) (sym e) (record {
  paid = 0;
  vertices = [];
  answers = same_debts g (start g) (first_following g) (first_following g) 0 [] refl refl refl (start_follows g);
  rest = pebbling;
  ends = refl;
  costs = omega arith;
  computes = refl;
  goes_on = λ after rest. rest;
})

module _ (g : PebbleGame) (ms : List Move) (n : ℕ) (d : Move) (there : n < length ms) where
  abbrev next : Move
  next = get_or ms n d

  opened : drop n ms ≡ next ∷ drop (n + 1) ms
  opened = drop-cons ms n d there ∙ ap (λ k. next ∷ drop k ms) (let e : suc n ≡ n + 1 = omega arith in e)

  pub way_is_move : (now : Following) → IsOnTheWay g ms n now → IsMove g now.raw next
  way_is_move now way = (subst (IsPebbling g now.raw) opened way.rest).0

  pub way_goes_on : (now after : Following) → IsOnTheWay g ms n now → after.raw ≡ moved now.raw next → AnswersMove g next now after → IsFollowed g next now after → IsOnTheWay g ms (n + 1) after
  way_goes_on now after way raw answers followed = record {
    paid = way.paid + move_cost g next;
    vertices = way.vertices ++ computed_by next [];
    answers = then_answers g now.raw after.raw (first_following g) now after way.paid (move_cost g next) (way.paid + move_cost g next)
        way.vertices (computed_by next []) (way.vertices ++ computed_by next []) way.answers
        (subst (λ r. Answers g r now after (move_cost g next) (computed_by next [])) (sym raw) answers) refl refl;
    rest = subst (λ r. IsPebbling g r (drop (n + 1) ms)) (sym raw) (subst (IsPebbling g now.raw) opened way.rest).1;
    ends = ap (λ r. position_after r (drop (n + 1) ms)) raw ∙ sym (ap (position_after now.raw) opened) ∙ way.ends;
    costs = let e = ap (cost g) opened in let old = way.costs in omega arith;
    computes =
        append_assoc way.vertices (computed_by next []) (computed (drop (n + 1) ms))
        ∙ ap (λ vs. way.vertices ++ vs) (computed_append next (computed (drop (n + 1) ms)))
        ∙ sym (ap (λ rest. way.vertices ++ computed rest) opened)
        ∙ way.computes;
    goes_on = λ last rest. way.goes_on last (subst (λ left. AreFollowed g left now last) (sym opened) (after, followed, rest));
  }

-- ---- the end

-- a play that answers a complete pebbling can finish, and has not cost more
pub answered_is_tidied : (g : PebbleGame) (ms : List Move) (now : Following) → IsComplete g (start g) ms → Answers g (position_after (start g) ms) (first_following g) now (cost g ms) (computed ms)
    → AreTidied g ms now.steps
answered_is_tidied g ms now complete answers = subst (AreTidied g ms) (sym answers.grown) (record {
  finishing = record {
    play = answers.play;
    finishes = subst (CanFinish g) answers.leads (can_finish g (position_after (start g) ms) now.normal now.debts answers.follows complete.outputs_blue);
  };
  costs =
      let finish = finish_paid g (position_after (start g) ms) now.normal now.debts answers.follows complete.outputs_blue in
      let at = ap (finish_cost g) answers.leads in
      let costs = answers.costs in
      let stores = ap (λ n. g.store * n) size_empty in
      let loads = ap (λ n. g.load * n) size_empty in
      omega arith;
  works = answers.works;
})

-- so does the play that follows all moves
module _ (g : PebbleGame) (ms : List Move) (n : ℕ) (now : Following) (complete : IsComplete g (start g) ms) (all : length ms ≤ n) (way : IsOnTheWay g ms n now) where
  nothing_left : drop n ms ≡ []
  nothing_left = drop_all n ms all

  at_end : now.raw ≡ position_after (start g) ms
  at_end = sym (ap (position_after now.raw) nothing_left) ∙ way.ends

  paid_all : way.paid ≡ cost g ms
  paid_all = let e = ap (cost g) nothing_left in let old = way.costs in omega arith

  computes_all : way.vertices ≡ computed ms
  computes_all = sym (append-nil way.vertices) ∙ sym (ap (λ rest. way.vertices ++ computed rest) nothing_left) ∙ way.computes

  pub way_steps : AreStepsOf g ms now.steps
  way_steps = (now, way.goes_on now (subst (λ left. AreFollowed g left now now) (sym nothing_left) refl), refl)

  pub way_ends : AreTidied g ms now.steps
  way_ends =
      answered_is_tidied g ms now complete
      (subst (λ p. Answers g p (first_following g) now (cost g ms) (computed ms)) at_end
      (subst (λ paid. Answers g now.raw (first_following g) now paid (computed ms)) paid_all
      (subst (λ vs. Answers g now.raw (first_following g) now way.paid vs) computes_all way.answers)))

-- ---- the plan

-- a move costs at most 16
pub cost_few : (game : GameParts) → AreWeights game.weights → (ms : List Move) → cost (game_of game) ms ≤ 16 * length ms
cost_few game w [] = omega arith
cost_few game w (Load v ∷ ms) = let rest = cost_few game w ms in let most = w.load_most in omega arith
cost_few game w (Store v ∷ ms) = let rest = cost_few game w ms in let most = w.store_most in omega arith
cost_few game w (Compute v ∷ ms) = let rest = cost_few game w ms in omega arith
cost_few game w (DropRed v ∷ ms) = let rest = cost_few game w ms in omega arith
cost_few game w (DropBlue v ∷ ms) = let rest = cost_few game w ms in omega arith

pub tidied_is_plan : (game : GameParts) (ms : List Move) (ss : List Step) → AreWeights game.weights → length ms ≤ 250000000 → AreTidied (game_of game) ms ss → IsNoPlan (game_of game) ss → ⊥
tidied_is_plan game ms ss w few tidied (inl not) = not tidied.finishing
tidied_is_plan game ms ss w few tidied (inr dear) = let cheap = cost_few game w ms in let costs = tidied.costs in omega arith

pub tidied_costs : (game : GameParts) (ms : List Move) (ss : List Step) (plan : PlanParts) → AreTidied (game_of game) ms ss → IsPlan plan → plan.game ≡ game → plan.steps ≡ ss → plan.total ≤ cost (game_of game) ms
tidied_costs game ms ss plan tidied is same_game same_steps =
    let costs = tidied.costs in
    let total = is.costs in
    let at = ap (λ h. total_cost (game_of h) (start (game_of h)) plan.steps) same_game in
    let as_tidied = ap (total_cost (game_of game) (start (game_of game))) same_steps in
    omega arith

pub tidied_works : (g : PebbleGame) (ms : List Move) (ss ts : List Step) → AreTidied g ms ss → ts ≡ ss → IsSubsequence (work_vertices ts) (computed ms)
tidied_works g ms ss ts tidied e = subst (λ steps. IsSubsequence (work_vertices steps) (computed ms)) (sym e) tidied.works

pub some_unless : {T : Type 0} (P : Type 0) (r : Option T) → IfNone r P → (P → ⊥) → IsSome r
some_unless P None h refuted = absurd (refuted h)
some_unless P (Some x) h refuted = refl
