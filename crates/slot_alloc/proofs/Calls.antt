-- What the loops over steps and over the members of a set keep, and the code that is put together at the end.
use Rattle.std.proofs.Common.{◌≡◌, ℕ, ◌+◌, ◌≤◌, ◌<◌, true, false, cond, List, [], ◌∷◌, ◌++◌, length, map, drop, get_or, sym, ap, ◌∙◌, subst, add-one, append_assoc, append-nil}
use Rattle.std.proofs.lemmas.List.{map-append, at_drop_more, drop_all}
use Rattle.std.specs.FinSet.{contains}
use Rattle.comp_graph.specs.Vertices.{Vertices, rising}
use Rattle.comp_graph.specs.Graphs.{GraphParts, IsGraph, dag_of}
use Rattle.comp_graph.specs.Games.{GameParts, game_of}
use Rattle.comp_graph.proofs.GraphLaws.{IsDag-dag_of}
use Rattle.comp_graph.proofs.DagLaws.{live_vertex}
use Rattle.pebble_rules.specs.Rules.{start}
use Rattle.pebble_rules.specs.declared.position.Position.{Position}
use Rattle.pebble_rules.specs.declared.moves.Move.{Move}
use Rattle.normal_steps.specs.declared.step.Step.{Step}
use Rattle.normal_steps.specs.Steps.{IsStep, CanWork, stepped, IsFinishing}
use Rattle.normal_steps.specs.PlanMoves.{step_moves, finish_moves, play_moves}
use Rattle.normal_steps.specs.Plans.{PlanParts, IsPlan}
use Rattle.scratch_machine.specs.declared.code.Instr.{Instr}
use Rattle.scratch_machine.specs.declared.code.OutWord.{OutWord}
use Rattle.scratch_machine.specs.Codes.{CodeParts}
use Rattle.slot_alloc.specs.Emitted.{Layout, emitted, layout_after_all, first_layout, output_words, code_of}
use Rattle.slot_alloc.specs.PlanCode.{plan_moves}

-- ---- a move for each member of a set, in rising number

rising-next : (s : Vertices) (n : ℕ) → rising (n + 1) s ≡ rising n s ++ cond (contains s n) (n ∷ []) []
unfolding rising
rising-next s n = ap (λ k. rising k s) (add-one n)

pub each_first : (make : ℕ → Move) (s : Vertices) (xs : List Move) → xs ≡ xs ++ map make (rising 0 s)
unfolding rising
each_first make s xs = sym (append-nil xs)

pub each_more : (make : ℕ → Move) (s : Vertices) (n : ℕ) (xs now : List Move) → contains s n ≡ true → now ≡ xs ++ map make (rising n s) → now ++ make n ∷ [] ≡ xs ++ map make (rising (n + 1) s)
each_more make s n xs now member before =
    ap (λ ms. ms ++ make n ∷ []) before
    ∙ append_assoc xs (map make (rising n s)) (make n ∷ [])
    ∙ ap (λ ms. xs ++ ms) (sym (map-append make (rising n s) (n ∷ [])))
    ∙ ap (λ ks. xs ++ map make ks) (sym (rising-next s n ∙ ap (λ b. rising n s ++ cond b (n ∷ []) []) member))

pub each_passed : (make : ℕ → Move) (s : Vertices) (n : ℕ) (xs now : List Move) → contains s n ≡ false → now ≡ xs ++ map make (rising n s) → now ≡ xs ++ map make (rising (n + 1) s)
each_passed make s n xs now out before =
    before ∙ ap (λ ks. xs ++ map make ks) (sym (rising-next s n ∙ ap (λ b. rising n s ++ cond b (n ∷ []) []) out ∙ append-nil (rising n s)))

-- ---- the steps of a plan, one after another

pub work_vertex : (g : GameParts) → IsGraph g.graph → (p : Position) (v : ℕ) → CanWork (game_of g) p v → v < length g.graph.nodes
work_vertex g is p v can = live_vertex (dag_of g.graph) (IsDag-dag_of g.graph is) v can.live

-- the moves of the first k steps are listed and lead to p, and the other steps finish from there
pub record IsListed (plan : PlanParts) (k : ℕ) (p : Position) (moves : List Move) : Type 0 where
  pub finishing : IsFinishing (game_of plan.game) p (drop k plan.steps)
  pub moves_are : moves ++ play_moves (game_of plan.game) p (drop k plan.steps) ≡ plan_moves plan

pub listed_first : (plan : PlanParts) → IsPlan plan → (p : Position) (moves : List Move) → p ≡ start (game_of plan.game) → moves ≡ [] → IsListed plan 0 p moves
listed_first plan ok p moves e none =
    subst (λ q. IsListed plan 0 q moves) (sym e) (record { finishing = ok.finishing; moves_are = ap (λ xs. xs ++ plan_moves plan) none })

module _ (plan : PlanParts) (k : ℕ) (p : Position) (moves : List Move) (so : IsListed plan k p moves) (d : Step) (within : k < length plan.steps) where
  rest_is : drop k plan.steps ≡ get_or plan.steps k d ∷ drop (k + 1) plan.steps
  rest_is = at_drop_more (λ xs. xs) plan.steps k d within

  finishing_now : IsFinishing (game_of plan.game) p (get_or plan.steps k d ∷ drop (k + 1) plan.steps)
  finishing_now = subst (IsFinishing (game_of plan.game) p) rest_is so.finishing

  pub listed_step : IsStep (game_of plan.game) p (get_or plan.steps k d)
  listed_step = finishing_now.play.0

  pub listed_more : (q : Position) (more : List Move) → q ≡ stepped (game_of plan.game) p (get_or plan.steps k d)
      → more ≡ moves ++ step_moves (game_of plan.game) p (get_or plan.steps k d) → IsListed plan (k + 1) q more
  listed_more q more e f =
      subst (λ r. IsListed plan (k + 1) r more) (sym e) (record {
        finishing = record { play = finishing_now.play.1; finishes = finishing_now.finishes };
        moves_are =
            ap (λ xs. xs ++ play_moves (game_of plan.game) (stepped (game_of plan.game) p (get_or plan.steps k d)) (drop (k + 1) plan.steps)) f
            ∙ append_assoc moves (step_moves (game_of plan.game) p (get_or plan.steps k d)) _
            ∙ ap (λ xs. moves ++ play_moves (game_of plan.game) p xs) (sym rest_is)
            ∙ so.moves_are;
      })

pub listed_done : (plan : PlanParts) (k : ℕ) (p : Position) (moves all : List Move) → IsListed plan k p moves → length plan.steps ≤ k
    → all ≡ moves ++ finish_moves (game_of plan.game) p → all ≡ plan_moves plan
listed_done plan k p moves all so h e =
    e ∙ ap (λ xs. moves ++ play_moves (game_of plan.game) p xs) (sym (drop_all k plan.steps h)) ∙ so.moves_are

-- ---- the code that is put together

-- a code of these parts
abbrev made : ℕ → ℕ → List (List ℕ) → List OutWord → List Instr → CodeParts
made slots words inputs outputs code = record { slots = slots; words = words; inputs = inputs; outputs = outputs; instructions = code }

-- it is the code of the moves, where its parts are those of the emitted code
pub code_made : (g : GraphParts) (slots : ℕ) (ms : List Move) (l : Layout) (inputs : List (List ℕ)) (outputs : List OutWord) (code : List Instr)
    → l ≡ layout_after_all (first_layout g slots) ms → inputs ≡ g.names → outputs ≡ output_words l g.outputs → code ≡ emitted g (first_layout g slots) ms
    → made slots l.words inputs outputs code ≡ code_of g slots ms
code_made g slots ms l inputs outputs code e names words is =
    let named = words ∙ ap (λ k. output_words k g.outputs) e in
    λ i. record { slots = slots; words = (e i).words; inputs = names i; outputs = named i; instructions = is i }
