-- `judge` and `tidy` have one answer to each accepted kernel with enough slots and each file that is there.
use Rattle.std.proofs.Common.{◌≡◌, ◌⊎◌, ◌<◌, ◌≤◌, ◌^◌, ℕ, List, length, inl, inr, refl, sym, ap, ◌∙◌, subst, arith}
use Rattle.std.specs.Prelude.{None, Option, Some}
use Rattle.std.proofs.lemmas.Bool.{cases_lt}
use Rattle.comp_graph.specs.Dags.{degree}
use Rattle.comp_graph.specs.Games.{GameParts, IsGame, game_of}
use Rattle.comp_graph.specs.Graphs.{GraphParts, IsGraph, dag_of}
use Rattle.comp_graph.proofs.GraphLaws.{IsDag-dag_of}
use Rattle.desk_io.specs.Known.{ToldFile, TellsFile}
use Rattle.kernel_ast.specs.KernelParts.{KernelParts}
use Rattle.normal_steps.specs.Plans.{PlanParts}
use Rattle.normal_steps.specs.Steps.{total_cost}
use Rattle.pebble_rules.specs.Rules.{start, IsComplete, cost as moves_cost}
use Rattle.pebble_rules.specs.declared.moves.Move.{Move}
use Rattle.play_files.specs.Judging.{IsPlayFault}
use Rattle.play_files.proofs.Decided.{always_one}
use Rattle.play_files.proofs.Judged.{faults_are_of_no_pebbling, one_fault}
use Rattle.play_files.proofs.OnePlay.{each_is_followed, one_play}
use Rattle.play_files.proofs.Playing.{cost_few}
use Rattle.play_files.proofs.Reader.{never_both, one_bad_line, one_reading}
use Rattle.play_files.proofs.Verdicts.{complete_or_faulty}
use Rattle.slot_alloc.specs.PlanCode.{plan_code}
use Rattle.slot_alloc.proofs.Right.{plan_code_is_right}
use Rattle.command_answers.specs.declared.status.Status.{Status}
use Rattle.command_answers.specs.declared.status.Status.TheVariants.{Done, Play}
use Rattle.command_answers.specs.Accepted.{IsAccepted}
use Rattle.command_answers.specs.PlayAnswers.{HoldsPlay, HoldsNoPlay, too_long, no_text, faulty, IsNoPlay, IsPlayFile, IsTidyPlan, Judges, Tidies, bad_line_text, complete_text, game_judged, play_fault_text, tidied_text}
use Rattle.command_answers.specs.RightCodes.{IsRightCode}
use Rattle.command_answers.proofs.Accepting.{accepted_graph, accepted_once}
use Rattle.command_answers.proofs.PlayedFiles.{few_moves}
use Rattle.command_answers.proofs.RightCodes.{right_code}
use Rattle.command_answers.proofs.ToldBytes.{told_bytes}

-- ---- what bytes hold

-- bytes are one play file at most
one_file : (game : GameParts) → length game.graph.nodes < 2 ^ 16 → (bytes : List ℕ) (ms ns : List Move) → IsPlayFile game bytes ms → IsPlayFile game bytes ns → ms ≡ ns
one_file game small bytes ms ns a b = one_reading (length game.graph.nodes) bytes ms ns small a.reads b.reads

-- they hold one complete pebbling at most
pub one_pebbling : (game : GameParts) → length game.graph.nodes < 2 ^ 16 → (bytes : List ℕ) (ms ns : List Move) (c d : ℕ) → HoldsPlay game bytes ms c → HoldsPlay game bytes ns d → (ms ≡ ns) × (c ≡ d)
one_pebbling game small bytes ms ns c d a b =
    let same = one_file game small bytes ms ns a.file b.file in
    (same, a.costs ∙ ap (moves_cost (game_of game)) same ∙ sym b.costs)

-- and where they hold one, nothing says why they hold none
pub pebbling_or_line : {X : Type 0} (game : GameParts) → length game.graph.nodes < 2 ^ 16 → (bytes printed : List ℕ) (ms : List Move) (c : ℕ) → HoldsPlay game bytes ms c → HoldsNoPlay game bytes printed → X
pebbling_or_line game small bytes printed ms c holds (too_long long is) = absurd (let short = holds.file.short in omega (arith, long, short))
pebbling_or_line game small bytes printed ms c holds (no_text line short bad is) = absurd (never_both (length game.graph.nodes) bytes ms line holds.file.reads bad)
pebbling_or_line game small bytes printed ms c holds (faulty ns fault file is_fault is) =
    absurd (faults_are_of_no_pebbling (game_of game) ns fault is_fault (subst (IsComplete (game_of game) (start (game_of game))) (one_file game small bytes ms ns holds.file file) holds.complete))

-- one line says why
pub one_line : (game : GameParts) → length game.graph.nodes < 2 ^ 16 → (bytes p q : List ℕ) → HoldsNoPlay game bytes p → HoldsNoPlay game bytes q → p ≡ q
one_line game small bytes p q (too_long long p_is) (too_long more q_is) = p_is ∙ sym q_is
one_line game small bytes p q (too_long long p_is) (no_text line short bad q_is) = absurd (omega (arith, long, short))
one_line game small bytes p q (too_long long p_is) (faulty ms fault file is_fault q_is) = absurd (let short = file.short in omega (arith, long, short))
one_line game small bytes p q (no_text line short bad p_is) (too_long long q_is) = absurd (omega (arith, long, short))
one_line game small bytes p q (no_text line short bad p_is) (no_text other few worse q_is) =
    p_is ∙ ap bad_line_text (one_bad_line (length game.graph.nodes) bytes line other bad worse) ∙ sym q_is
one_line game small bytes p q (no_text line short bad p_is) (faulty ms fault file is_fault q_is) = absurd (never_both (length game.graph.nodes) bytes ms line file.reads bad)
one_line game small bytes p q (faulty ms fault file is_fault p_is) (too_long long q_is) = absurd (let short = file.short in omega (arith, long, short))
one_line game small bytes p q (faulty ms fault file is_fault p_is) (no_text line short bad q_is) = absurd (never_both (length game.graph.nodes) bytes ms line file.reads bad)
one_line game small bytes p q (faulty ms fault file is_fault p_is) (faulty ns other held is_other q_is) =
    p_is ∙ ap play_fault_text (one_fault (game_of game) ns fault other (subst (λ xs. IsPlayFault (game_of game) xs fault) (one_file game small bytes ms ns file held) is_fault) is_other) ∙ sym q_is

-- bytes hold a complete pebbling, or a line says why they hold none
abbrev pub Outcome : GameParts → List ℕ → Type 0
Outcome game bytes = ((ms : List Move) × HoldsPlay game bytes ms (moves_cost (game_of game) ms)) ⊎ ((printed : List ℕ) × HoldsNoPlay game bytes printed)

by_moves : (game : GameParts) → IsGraph game.graph → (bytes : List ℕ) (ms : List Move) → IsPlayFile game bytes ms → Outcome game bytes
by_moves game valid bytes ms file = elim (complete_or_faulty (game_of game) (IsDag-dag_of game.graph valid) ms) [
  | inl complete ↦ inl (ms, record { file = file; complete = complete; costs = refl })
  | inr fault ↦ inr (play_fault_text fault.0, faulty ms fault.0 file fault.1 refl)
]

pub play_or_none : (game : GameParts) → IsGraph game.graph → (bytes : List ℕ) → Outcome game bytes
play_or_none game valid bytes = elim (cases_lt 20000000 (length bytes)) [
  | inl long ↦ inr (bad_line_text 0, too_long long refl)
  | inr short ↦ elim (always_one (length game.graph.nodes) bytes (let small = valid.small in omega (arith, small))) [
    | inl read ↦ by_moves game valid bytes read.0 (record { short = omega (arith, short); reads = read.1 })
    | inr bad ↦ inr (bad_line_text bad.0, no_text bad.0 (omega (arith, short)) bad.1 refl)
  ]
]

-- ---- the plan

-- a plan of a game is known by its steps
one_plan : (game : GameParts) (ms : List Move) (p q : PlanParts) → IsTidyPlan game ms p → IsTidyPlan game ms q → p ≡ q
one_plan game ms p q a b =
    let games : p.game ≡ q.game = a.of_game ∙ sym b.of_game in
    let steps : p.steps ≡ q.steps = one_play (game_of game) ms p.steps q.steps a.steps b.steps in
    let total : p.total ≡ q.total = a.valid.costs ∙ (λ i. total_cost (game_of (games i)) (start (game_of (games i))) (steps i)) ∙ sym b.valid.costs in
    λ i. record { game = games i; steps = steps i; total = total i }

-- each complete pebbling that a file holds has one
pub some_plan : (game : GameParts) → IsGame game → (bytes : List ℕ) (ms : List Move) (c : ℕ) → HoldsPlay game bytes ms c → (plan : PlanParts) × IsTidyPlan game ms plan
some_plan game is bytes ms c holds =
    let g = game_of game in
    let made = each_is_followed g (IsDag-dag_of game.graph is.valid) ms holds.complete in
    let few = few_moves game bytes ms holds.file in
    let cheap = cost_few game is.weights ms in
    let costs = made.2.costs in (
      record { game = game; steps = made.0; total = total_cost g (start g) made.0 },
      record {
        of_game = refl;
        valid = record { finishing = made.2.finishing; costs = refl; fits = omega (arith, few, cheap, costs) };
        no_more = costs;
        works = made.2.works;
        steps = made.1;
      },
    )

-- ---- one answer

-- what holds of the game and the bytes of one answer holds of those of another to the same text and file
moved : (P : GameParts → List ℕ → Type 0) (slots : ℕ) (text : List ℕ) (k j : KernelParts) (g h : GraphParts) (bytes held : List ℕ) → IsAccepted text k g → IsAccepted text j h → bytes ≡ held
    → P (game_judged g slots) bytes → P (game_judged h slots) held
moved P slots text k j g h bytes held a b same holds =
    subst (λ x. P (game_judged h slots) x) same (subst (λ x. P (game_judged x slots) bytes) (accepted_once text k j g h a b).1 holds)

-- the vertices of an accepted kernel are few
few_vertices : {text : List ℕ} {kernel : KernelParts} {graph : GraphParts} → IsAccepted text kernel graph → length graph.nodes < 2 ^ 16
few_vertices {text} {kernel} {graph} accepted = let small = (accepted_graph accepted).small in omega (arith, small)

module _ (slots : ℕ) (text : List ℕ) (file : ToldFile) (held : Option (List ℕ)) (told : file ≡ Some held) where
  -- the same status, text and table
  abbrev pub IsSame : Status → Status → List ℕ → List ℕ → Option (List ℕ) → Option (List ℕ) → Type 0
  IsSame s t p q a b = (s ≡ t) × (p ≡ q) × (a ≡ b)

  no_play_once : (s t : Status) (p q : List ℕ) (a b : Option (List ℕ)) → IsNoPlay slots text file s p a → IsNoPlay slots text file t q b → IsSame s t p q a b
  no_play_once s t p q a b h k =
      let here = moved (λ game bytes. HoldsNoPlay game bytes p) slots text h.kernel k.kernel h.graph k.graph h.bytes k.bytes h.accepted k.accepted (told_bytes file held h.bytes k.bytes told h.held k.held) h.holds_none in
      (h.ends ∙ sym k.ends, one_line (game_judged k.graph slots) (few_vertices k.accepted) k.bytes p q here k.holds_none, h.none ∙ sym k.none)

  pub judged_once : (s t : Status) (p q : List ℕ) (a b : Option (List ℕ)) → Judges slots text file s p a → Judges slots text file t q b → IsSame s t p q a b
  judged_once s t p q a b (inl h) (inl k) =
      let here = moved (λ game bytes. HoldsPlay game bytes h.moves h.cost) slots text h.kernel k.kernel h.graph k.graph h.bytes k.bytes h.accepted k.accepted (told_bytes file held h.bytes k.bytes told h.held k.held) h.holds in
      let one = one_pebbling (game_judged k.graph slots) (few_vertices k.accepted) k.bytes h.moves k.moves h.cost k.cost here k.holds in
      (h.ends ∙ sym k.ends, h.line ∙ ap complete_text one.1 ∙ sym k.line, h.none ∙ sym k.none)
  judged_once s t p q a b (inl h) (inr k) =
      pebbling_or_line (game_judged k.graph slots) (few_vertices k.accepted) k.bytes q h.moves h.cost
      (moved (λ game bytes. HoldsPlay game bytes h.moves h.cost) slots text h.kernel k.kernel h.graph k.graph h.bytes k.bytes h.accepted k.accepted (told_bytes file held h.bytes k.bytes told h.held k.held) h.holds)
      k.holds_none
  judged_once s t p q a b (inr h) (inl k) =
      pebbling_or_line (game_judged h.graph slots) (few_vertices h.accepted) h.bytes p k.moves k.cost
      (moved (λ game bytes. HoldsPlay game bytes k.moves k.cost) slots text k.kernel h.kernel k.graph h.graph k.bytes h.bytes k.accepted h.accepted (told_bytes file held k.bytes h.bytes told k.held h.held) k.holds)
      h.holds_none
  judged_once s t p q a b (inr h) (inr k) = no_play_once s t p q a b h k

  pub tidied_once : (s t : Status) (p q : List ℕ) (a b : Option (List ℕ)) → Tidies slots text file s p a → Tidies slots text file t q b → IsSame s t p q a b
  tidied_once s t p q a b (inl h) (inl k) =
      let bytes = told_bytes file held h.bytes k.bytes told h.held k.held in
      let here = moved (λ game bytes. HoldsPlay game bytes h.moves h.cost) slots text h.kernel k.kernel h.graph k.graph h.bytes k.bytes h.accepted k.accepted bytes h.holds in
      let one = one_pebbling (game_judged k.graph slots) (few_vertices k.accepted) k.bytes h.moves k.moves h.cost k.cost here k.holds in
      let tidy = moved (λ game _. IsTidyPlan game h.moves h.plan) slots text h.kernel k.kernel h.graph k.graph h.bytes k.bytes h.accepted k.accepted bytes h.tidy in
      let plan = one_plan (game_judged k.graph slots) k.moves h.plan k.plan (subst (λ ms. IsTidyPlan (game_judged k.graph slots) ms h.plan) one.0 tidy) k.tidy in
      (h.ends ∙ sym k.ends, h.lines ∙ (λ i. tidied_text (one.1 i) (plan i)) ∙ sym k.lines, h.none ∙ sym k.none)
  tidied_once s t p q a b (inl h) (inr k) =
      pebbling_or_line (game_judged k.graph slots) (few_vertices k.accepted) k.bytes q h.moves h.cost
      (moved (λ game bytes. HoldsPlay game bytes h.moves h.cost) slots text h.kernel k.kernel h.graph k.graph h.bytes k.bytes h.accepted k.accepted (told_bytes file held h.bytes k.bytes told h.held k.held) h.holds)
      k.holds_none
  tidied_once s t p q a b (inr h) (inl k) =
      pebbling_or_line (game_judged h.graph slots) (few_vertices h.accepted) h.bytes p k.moves k.cost
      (moved (λ game bytes. HoldsPlay game bytes k.moves k.cost) slots text k.kernel h.kernel k.graph h.graph k.bytes h.bytes k.accepted h.accepted (told_bytes file held k.bytes h.bytes told k.held h.held) k.holds)
      h.holds_none
  tidied_once s t p q a b (inr h) (inr k) = no_play_once s t p q a b h k

-- ---- there is an answer

module _ (slots : ℕ) (text bytes : List ℕ) (file : ToldFile) (kernel : KernelParts) (graph : GraphParts) (accepted : IsAccepted text kernel graph)
    (room : degree (dag_of graph) < slots) (held : TellsFile file bytes) where
  -- a status, a text and a table that are so related
  abbrev pub HasAnswer : (Status → List ℕ → Option (List ℕ) → Type 0) → Type 0
  HasAnswer R = (status : Status) × (printed : List ℕ) × (table : Option (List ℕ)) × R status printed table

  pub no_play_some : (printed : List ℕ) → HoldsNoPlay (game_judged graph slots) bytes printed → IsNoPlay slots text file Play printed None
  no_play_some printed none = record { kernel = kernel; graph = graph; accepted = accepted; room = room; bytes = bytes; held = held; holds_none = none; ends = refl; none = refl }

  pub judged_some : HasAnswer (Judges slots text file)
  judged_some = elim (play_or_none (game_judged graph slots) (accepted_graph accepted) bytes) [
    | inr none ↦ (Play, none.0, None, inr (no_play_some none.0 none.1))
    | inl play ↦ (
      Done,
      complete_text (moves_cost (game_of (game_judged graph slots)) play.0),
      None,
      inl (record {
        kernel = kernel;
        graph = graph;
        accepted = accepted;
        room = room;
        bytes = bytes;
        held = held;
        moves = play.0;
        cost = moves_cost (game_of (game_judged graph slots)) play.0;
        holds = play.1;
        ends = refl;
        line = refl;
        none = refl;
      }),
    )
  ]

  pub tidied_some : slots ≤ 64 → HasAnswer (Tidies slots text file)
  tidied_some most = elim (play_or_none (game_judged graph slots) (accepted_graph accepted) bytes) [
    | inr none ↦ (Play, none.0, None, inr (no_play_some none.0 none.1))
    | inl play ↦ by_play play.0 (moves_cost (game_of (game_judged graph slots)) play.0) play.1
  ]
    where
      game : IsGame (game_judged graph slots)
      game = record {
        valid = accepted_graph accepted;
        most = most;
        room = room;
        weights = record { load_some = omega arith; load_most = omega arith; store_some = omega arith; store_most = omega arith };
      }

      by_play : (ms : List Move) (c : ℕ) → HoldsPlay (game_judged graph slots) bytes ms c → HasAnswer (Tidies slots text file)
      by_play ms c holds =
          let made = some_plan (game_judged graph slots) game bytes ms c holds in
          let plan = made.0 in
          let of_game : plan.game ≡ game_judged graph slots = made.1.of_game in
          let code = right_code plan text kernel (plan_code_is_right plan (subst IsGame (sym of_game) game) made.1.valid) (subst (λ (g : GameParts). IsAccepted text kernel g.graph) (sym of_game) accepted) in (
            Done,
            tidied_text c plan,
            None,
            inl (record {
              kernel = kernel;
              graph = graph;
              accepted = accepted;
              room = room;
              bytes = bytes;
              held = held;
              moves = ms;
              cost = c;
              holds = holds;
              plan = plan;
              tidy = made.1;
              code = subst (λ g. IsRightCode kernel g (plan_code plan) plan.total) of_game code;
              ends = refl;
              lines = refl;
              none = refl;
            }),
          )
