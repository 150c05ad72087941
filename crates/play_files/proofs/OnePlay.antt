-- One normal play follows each complete pebbling.
use Rattle.std.proofs.Common.{◌≡◌, ◌⊎◌, ◌<◌, ◌≤◌, ℕ, zero, suc, Bool, true, false, cond, List, [], ◌∷◌, inl, inr, refl, sym, ap, ◌∙◌, subst, arith}
use Rattle.std.specs.FinSet.{contains, insert, remove, union}
use Rattle.std.proofs.lemmas.Bool.{cases_lt, false≢true}
use Rattle.comp_graph.specs.Vertices.{◌∈◌, ◌∉◌, IsLeast, size}
use Rattle.comp_graph.specs.Sets.{membership}
use Rattle.comp_graph.specs.Dags.{IsDag, is_live}
use Rattle.comp_graph.specs.Games.{PebbleGame}
use Rattle.comp_graph.proofs.Sets.{difference_first, difference_second, member_outside}
use Rattle.pebble_rules.specs.Rules.{IsMove, moved, move_cost, cost, IsPebbling, position_after, computed_by, computed}
use Rattle.pebble_rules.specs.declared.position.Position.{Position}
use Rattle.pebble_rules.specs.declared.moves.Move.{Move}
use Rattle.pebble_rules.specs.declared.moves.Move.TheVariants.{Load, Store, Compute, DropRed, DropBlue}
use Rattle.pebble_rules.proofs.Possible.{true_or_false}
use Rattle.normal_steps.specs.Steps.{worked, stepped}
use Rattle.normal_steps.specs.declared.step.Step.TheVariants.{Drop, Spill}
use Rattle.normal_steps.proofs.Simulation.{computed_append, start_follows}
use Rattle.play_files.specs.Tidying.{Following, first_following, IsFollowing, Answers, AnswersMove}
use Rattle.play_files.specs.Followed.{owing, removal_of, removed, in_the_way, MakesRoom, is_room, leaves, worked_on, IsComputed, passed_over, works, IsReply, IsFollowed, AreFollowed, OnePlay, EachIsFollowed}
use Rattle.play_files.proofs.Answering.{same_debts, load_answered, load_ignored, store_answered, store_ignored, compute_ignored, drop_red_answered, drop_blue_answered, removal_answers, victim_can_go, work_answers, then_answers, out_of_first, out_of_second}
use Rattle.play_files.proofs.Playing.{IsMakingRoom, room_begins, room_follows, room_goes_on, room_answers, fewer_red, answered_is_tidied}
use Rattle.play_files.proofs.Judged.{one_least}
use Rattle.play_files.proofs.Verdicts.{none_or_least}

-- ---- there is one at most

one_room : (g : PebbleGame) (v : ℕ) (a b f : Following) → MakesRoom g v a f → MakesRoom g v b f → a ≡ b
one_room g v a b f (is_room fits a_is) (is_room less b_is) = a_is ∙ sym b_is
one_room g v a b f (is_room fits a_is) (leaves u full least more) = absurd (omega (arith, fits, full))
one_room g v a b f (leaves u full least more) (is_room fits b_is) = absurd (omega (arith, fits, full))
one_room g v a b f (leaves u full least more) (leaves w tight lowest rest) =
    one_room g v a b (removed g f u) more (subst (λ x. MakesRoom g v b (removed g f x)) (sym (one_least (in_the_way g f v) u w least lowest)) rest)

over_or_not : {X : Type 0} (g : PebbleGame) (v : ℕ) (f : Following) → (is_live g.dag v ≡ false) ⊎ (v ∈ union f.normal.red f.debts.loads) → is_live g.dag v ≡ true → v ∉ union f.normal.red f.debts.loads → X
over_or_not g v f (inl dead) live out = absurd (false≢true (sym dead ∙ live))
over_or_not g v f (inr held) live out = absurd (false≢true (sym out ∙ held))

one_computed : (g : PebbleGame) (v : ℕ) (f a b : Following) → IsComputed g v f a → IsComputed g v f b → a ≡ b
one_computed g v f a b (passed_over why a_is) (passed_over other b_is) = a_is ∙ sym b_is
one_computed g v f a b (passed_over why a_is) (works s live out space b_is) = over_or_not g v f why live out
one_computed g v f a b (works r live out room a_is) (passed_over why b_is) = over_or_not g v f why live out
one_computed g v f a b (works r live out room a_is) (works s alive off space b_is) = a_is ∙ ap (λ x. worked_on g x v) (one_room g v r s f room space) ∙ sym b_is

one_reply : (g : PebbleGame) (m : Move) (f a b : Following) → IsReply g m f a → IsReply g m f b → a ≡ b
one_reply g (Load v) f a b x y = x ∙ sym y
one_reply g (Store v) f a b x y = x ∙ sym y
one_reply g (Compute v) f a b x y = one_computed g v f a b x y
one_reply g (DropRed v) f a b x y = x ∙ sym y
one_reply g (DropBlue v) f a b x y = x ∙ sym y

-- the pebbling makes its move
abbrev on_to : Position → Following → Following
on_to raw f = record { raw = raw; normal = f.normal; debts = f.debts; steps = f.steps }

one_followed : (g : PebbleGame) (m : Move) (f a b : Following) → IsFollowed g m f a → IsFollowed g m f b → a ≡ b
one_followed g m f a b x y = x.2 ∙ ap (on_to (moved f.raw m)) (one_reply g m f x.0 y.0 x.1 y.1) ∙ sym y.2

one_end : (g : PebbleGame) (ms : List Move) (f a b : Following) → AreFollowed g ms f a → AreFollowed g ms f b → a ≡ b
one_end g [] f a b x y = x ∙ sym y
one_end g (m ∷ ms) f a b x y = one_end g ms x.0 a b x.2 (subst (λ next. AreFollowed g ms next b) (sym (one_followed g m f x.0 y.0 x.1 y.1)) y.2)

pub one_play : OnePlay
one_play g ms some others x y = x.2 ∙ ap (λ (f : Following). f.steps) (one_end g ms (first_following g) x.0 y.0 x.1 y.1) ∙ sym y.2

-- ---- there is one

removal_red : (g : PebbleGame) (p : Position) (u : ℕ) (spills : Bool) → (stepped g p (cond spills (Spill u) (Drop u))).red ≡ remove p.red u
removal_red g p u true = refl
removal_red g p u false = refl

-- room is made for Work(v)
record HasRoom (g : PebbleGame) (v : ℕ) (before now : Following) : Type 0 where
  roomy : Following
  made : MakesRoom g v roomy now
  making : IsMakingRoom g v before roomy
  fits : size (worked g roomy.normal.red v) ≤ g.slots

module _ (g : PebbleGame) (dag : IsDag g.dag) (v : ℕ) (live : is_live g.dag v ≡ true) (before : Following) (move : IsMove g before.raw (Compute v)) where
  move_at : (now : Following) → now.raw ≡ before.raw → IsMove g now.raw (Compute v)
  move_at now raw = subst (λ p. IsMove g p (Compute v)) (sym raw) move

  -- where there are too few slots, some vertex is in the way, and one of them is the least
  some_victim : (now : Following) → IsMakingRoom g v before now → g.slots < size (worked g now.normal.red v) → (u : ℕ) × IsLeast (in_the_way g now v) u
  some_victim now making full =
      let needed = (move_at now making.raw).fits in
      let some = member_outside (insert now.raw.red v) (worked g now.normal.red v) (omega (arith, needed, full)) in
      by_least some.0 (both some.0 some.1 some.2) (none_or_least (in_the_way g now v) (suc some.0))
    where
      both : (u : ℕ) → u ∈ worked g now.normal.red v → u ∉ insert now.raw.red v → u ∈ in_the_way g now v
      both u a b = grind (arith, membership)

      by_least : (u : ℕ) → u ∈ in_the_way g now v → ((w : ℕ) → w < suc u → w ∉ in_the_way g now v) ⊎ ((w : ℕ) × IsLeast (in_the_way g now v) w) → (w : ℕ) × IsLeast (in_the_way g now v) w
      by_least u member (inl none) = absurd (false≢true (sym (none u (omega arith)) ∙ member))
      by_least u member (inr least) = least

  -- it is removed, and there is one red vertex less
  victim_leaves : (now : Following) → IsMakingRoom g v before now → g.slots < size (worked g now.normal.red v) → (u : ℕ) → IsLeast (in_the_way g now v) u
      → IsMakingRoom g v before (removed g now u) × (size (removed g now u).normal.red < size now.normal.red)
  victim_leaves now making full u least =
      let can = victim_can_go g dag now.raw v live (move_at now making.raw) now.normal full u (difference_first _ _ u least.member) (difference_second _ _ u least.member) in
      let answers = removal_answers g now (removed g now u) u (removal_of now.debts u) (room_follows g v before now making) can.0 can.1 refl refl refl refl in
      let red = removal_red g now.normal u (contains now.debts.stores u) in
      (room_goes_on g v u before now (removed g now u) making refl red refl answers full least refl, fewer_red g now (removed g now u) u can.0 red)

  -- room is there, or a victim leaves
  abbrev Leaves : Following → Type 0
  Leaves now = (u : ℕ) × (g.slots < size (worked g now.normal.red v)) × IsLeast (in_the_way g now v) u × IsMakingRoom g v before (removed g now u) × (size (removed g now u).normal.red < size now.normal.red)

  room_or_victim : (now : Following) → IsMakingRoom g v before now → HasRoom g v before now ⊎ Leaves now
  room_or_victim now making = elim (cases_lt g.slots (size (worked g now.normal.red v))) [
    | inr fits ↦ inl (record { roomy = now; made = is_room (omega (arith, fits)) refl; making = making; fits = omega (arith, fits) })
    | inl full ↦
        let least = some_victim now making full in
        let left = victim_leaves now making full least.0 least.1 in
        inr (least.0, full, least.1, left.0, left.1)
  ]

  has_room : (n : ℕ) (now : Following) → size now.normal.red ≤ n → IsMakingRoom g v before now → HasRoom g v before now
  has_room zero now few making = elim (room_or_victim now making) [
    | inl room ↦ room
    | inr left ↦ absurd (let fewer = left.4 in omega (arith, few, fewer))
  ]
  has_room (suc n) now few making = elim (room_or_victim now making) [
    | inl room ↦ room
    | inr left ↦
        let rest = has_room n (removed g now left.0) (let fewer = left.4 in omega (arith, few, fewer)) left.3 in
        record { roomy = rest.roomy; made = leaves left.0 left.1 left.2 rest.made; making = rest.making; fits = rest.fits }
  ]

-- the reply to a move, where the pebbling stays
record HasReply (g : PebbleGame) (f : Following) (m : Move) : Type 0 where
  after : Following
  reply : IsReply g m f after
  raw : after.raw ≡ f.raw
  answers : AnswersMove g m f after

load_replied : (g : PebbleGame) (f : Following) → IsFollowing g f → (v : ℕ) → v ∈ f.raw.blue → HasReply g f (Load v)
load_replied g f following v here = elim (true_or_false (contains f.normal.blue v)) [
  | inr not ↦ record { after = f; reply = sym (λ i. cond (not i) (cond (contains f.normal.red v) f (owing f f.debts.stores (insert f.debts.loads v))) f); raw = refl; answers = load_ignored g f f following v refl refl here (inl not) refl }
  | inl blue ↦ elim (true_or_false (contains f.normal.red v)) [
    | inl red ↦ record { after = f; reply = sym (λ i. cond (blue i) (cond (red i) f (owing f f.debts.stores (insert f.debts.loads v))) f); raw = refl; answers = load_ignored g f f following v refl refl here (inr red) refl }
    | inr not ↦ record {
      after = owing f f.debts.stores (insert f.debts.loads v);
      reply = sym (λ i. cond (blue i) (cond (not i) f (owing f f.debts.stores (insert f.debts.loads v))) f);
      raw = refl;
      answers = load_answered g f (owing f f.debts.stores (insert f.debts.loads v)) following v refl refl here blue not refl;
    }
  ]
]

store_replied : (g : PebbleGame) (f : Following) → IsFollowing g f → (v : ℕ) → v ∈ f.raw.red → HasReply g f (Store v)
store_replied g f following v here = elim (true_or_false (contains f.normal.red v)) [
  | inr not ↦ record { after = f; reply = sym (λ i. cond (not i) (cond (contains f.normal.blue v) f (owing f (insert f.debts.stores v) f.debts.loads)) f); raw = refl; answers = store_ignored g f f following v refl refl here (inl not) refl }
  | inl red ↦ elim (true_or_false (contains f.normal.blue v)) [
    | inl blue ↦ record { after = f; reply = sym (λ i. cond (red i) (cond (blue i) f (owing f (insert f.debts.stores v) f.debts.loads)) f); raw = refl; answers = store_ignored g f f following v refl refl here (inr blue) refl }
    | inr not ↦ record {
      after = owing f (insert f.debts.stores v) f.debts.loads;
      reply = sym (λ i. cond (red i) (cond (not i) f (owing f (insert f.debts.stores v) f.debts.loads)) f);
      raw = refl;
      answers = store_answered g f (owing f (insert f.debts.stores v) f.debts.loads) following v refl refl here red not refl;
    }
  ]
]

compute_replied : (g : PebbleGame) → IsDag g.dag → (f : Following) → IsFollowing g f → (v : ℕ) → IsMove g f.raw (Compute v) → HasReply g f (Compute v)
compute_replied g dag f following v move = elim (true_or_false (is_live g.dag v)) [
  | inr dead ↦ record { after = f; reply = passed_over (inl dead) refl; raw = refl; answers = compute_ignored g f f following v refl refl (inl dead) refl }
  | inl live ↦ elim (true_or_false (contains (union f.normal.red f.debts.loads) v)) [
    | inl held ↦ record { after = f; reply = passed_over (inr held) refl; raw = refl; answers = compute_ignored g f f following v refl refl (inr held) refl }
    | inr out ↦
        let room = has_room g dag v live f move (size f.normal.red) f (omega arith) (room_begins g v f following (out_of_first _ _ v out) (out_of_second _ _ v out)) in
        let making = room.making in
        let at = move_at g dag v live f move room.roomy making.raw in
        let answers = work_answers g dag room.roomy (worked_on g room.roomy v) v live at (room_follows g v f room.roomy making) making.not_red making.not_owed room.fits refl refl refl in
        record {
          after = worked_on g room.roomy v;
          reply = works room.roomy live out room.made refl;
          raw = making.raw;
          answers = room_answers g v f room.roomy (worked_on g room.roomy v) making answers;
        }
  ]
]

replied : (g : PebbleGame) → IsDag g.dag → (f : Following) → IsFollowing g f → (m : Move) → IsMove g f.raw m → HasReply g f m
replied g dag f following (Load v) move = load_replied g f following v move.needs
replied g dag f following (Store v) move = store_replied g f following v move.needs
replied g dag f following (Compute v) move = compute_replied g dag f following v move
replied g dag f following (DropRed v) move = record { after = f; reply = refl; raw = refl; answers = drop_red_answered g f f following v refl refl refl }
replied g dag f following (DropBlue v) move = record { after = f; reply = refl; raw = refl; answers = drop_blue_answered g f f following v refl refl refl }

-- an answer says nothing of where the pebbling then stands
moved_on : (g : PebbleGame) (raw other : Position) (before after : Following) (paid : ℕ) (vertices : List ℕ) → Answers g raw before after paid vertices → Answers g raw before (on_to other after) paid vertices
moved_on g raw other before after paid vertices a = record { more = a.more; grown = a.grown; play = a.play; leads = a.leads; follows = a.follows; costs = a.costs; works = a.works }

-- the play that follows all moves
record HasEnd (g : PebbleGame) (ms : List Move) (f : Following) : Type 0 where
  after : Following
  followed : AreFollowed g ms f after
  answers : Answers g (position_after f.raw ms) f after (cost g ms) (computed ms)

has_end : (g : PebbleGame) → IsDag g.dag → (ms : List Move) (f : Following) → IsFollowing g f → IsPebbling g f.raw ms → HasEnd g ms f
has_end g dag [] f following pebbling = record { after = f; followed = refl; answers = same_debts g f.raw f f 0 [] refl refl refl following }
has_end g dag (m ∷ ms) f following pebbling =
    let one = replied g dag f following m pebbling.0 in
    let next = on_to (moved f.raw m) one.after in
    let answers : AnswersMove g m f next = moved_on g (moved f.raw m) (moved f.raw m) f one.after (move_cost g m) (computed_by m []) one.answers in
    let rest = has_end g dag ms next answers.follows pebbling.1 in
    record {
      after = rest.after;
      followed = (next, (one.after, one.reply, refl), rest.followed);
      answers = then_answers g (moved f.raw m) (position_after (moved f.raw m) ms) f next rest.after (move_cost g m) (cost g ms) (cost g (m ∷ ms)) (computed_by m []) (computed ms) (computed (m ∷ ms)) answers rest.answers refl (computed_append m (computed ms));
    }

pub each_is_followed : EachIsFollowed
each_is_followed g dag ms complete =
    let end = has_end g dag ms (first_following g) (start_follows g) complete.pebbling in
    (end.after.steps, (end.after, end.followed, refl), answered_is_tidied g ms end.after complete end.answers)
