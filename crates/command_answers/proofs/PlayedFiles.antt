-- What `judge` and `tidy` answer to what a file holds.
use Rattle.std.proofs.Common.{◌≡◌, ◌<◌, ◌≤◌, ℕ, List, length, Result, Ok, Err, IfOk, inl, sym, ◌∙◌, subst, arith}
use Rattle.std.specs.Prelude.{None, Vec}
use Rattle.std.specs.declared.alloc.Global.{Global}
use Rattle.comp_graph.specs.Dags.{degree}
use Rattle.comp_graph.specs.Games.{GameParts, unit_weights}
use Rattle.comp_graph.specs.Graphs.{dag_of}
use Rattle.desk_io.specs.Known.{ToldFile, file_items}
use Rattle.kernel_ast.specs.KernelParts.{KernelParts}
use Rattle.line_texts.specs.BadLines.{IsBadLine}
use Rattle.normal_steps.specs.Plans.{PlanParts}
use Rattle.pebble_rules.specs.declared.moves.Move.{Move}
use Rattle.play_files.specs.declared.reading.PlayEnd.{PlayEnd}
use Rattle.play_files.specs.declared.reading.PlayEnd.TheVariants.{BadLine}
use Rattle.play_files.specs.PlayTexts.{ArePlayLines, ReadsAs}
use Rattle.play_files.specs.Reading.{IsReadAnswer}
use Rattle.play_files.proofs.Reader.{plays_are_short}
use Rattle.slot_alloc.specs.PlanCode.{IsPlanCode, plan_code}
use Rattle.command_answers.specs.declared.answer.Answer.{Answer}
use Rattle.command_answers.specs.declared.answer.FileBytes.{FileBytes}
use Rattle.command_answers.specs.declared.play.FilePlay.{FilePlay}
use Rattle.command_answers.specs.declared.play.FilePlay.TheVariants.{Complete, NoPlay}
use Rattle.command_answers.specs.declared.status.Status.TheVariants.{Done}
use Rattle.command_answers.specs.Accepted.{IsAccepted}
use Rattle.command_answers.specs.MadeAnswers.{Meets, IsFileOf, IsFilePlay, RefusesPlay}
use Rattle.command_answers.specs.PlayAnswers.{HoldsPlay, IsNoPlay, IsPlayFile, IsTidyPlan, Judges, Tidies, complete_text, game_judged, tidied_text}
use Rattle.command_answers.specs.RightCodes.{IsRightCode}
use Rattle.command_answers.proofs.RightCodes.{right_code}

-- ---- the file

-- bytes that read as moves on the vertices of a game are a play file
pub is_play_file : (game : GameParts) (n : ℕ) (bytes : List ℕ) (moves : List Move) → n ≡ length game.graph.nodes → length bytes ≤ 20000000 → ReadsAs n bytes moves → IsPlayFile game bytes moves
is_play_file game n bytes moves same short reads = record { short = short; reads = subst (λ k. ReadsAs k bytes moves) same reads }

-- where the reader answers a bad line, it is that of the bytes
pub bad_line_answered : (game : GameParts) (n : ℕ) (bytes : List ℕ) (end : PlayEnd) (line : ℕ) → n ≡ length game.graph.nodes → end ≡ BadLine line → IsReadAnswer {Z = Global} n (Err end) bytes
    → IsBadLine (ArePlayLines (length game.graph.nodes)) bytes line
bad_line_answered game n bytes end line same is answered =
    subst (λ k. IsBadLine (ArePlayLines k) bytes line) same (subst (λ e. IsReadAnswer {Z = Global} n (Err e) bytes) is answered)

-- a play file has few moves
pub few_moves : (game : GameParts) (bytes : List ℕ) (moves : List Move) → IsPlayFile game bytes moves → length moves ≤ 250000000
few_moves game bytes moves file =
    let less = plays_are_short (length game.graph.nodes) bytes moves file.reads in
    let short = file.short in
    omega (arith, less, short)

-- the game of these commands is that of its graph and slots
pub is_judged : (game : GameParts) → game.weights ≡ unit_weights → game ≡ game_judged game.graph game.slots
is_judged game weights = λ i. record { graph = game.graph; slots = game.slots; weights = weights i }

-- ---- the answers

module _ (game : GameParts) (weights : game.weights ≡ unit_weights) (room : degree (dag_of game.graph) < game.slots) (file : FileBytes) where
  -- what an answer of `judge` says
  abbrev pub JudgesFile : Answer → Type 0
  JudgesFile answer = (text : List ℕ) (kernel : KernelParts) (held : ToldFile) → IsAccepted text kernel game.graph → IsFileOf held 20000000 file → Meets (Judges game.slots text held) answer

  -- what an answer of `tidy` says
  abbrev pub TidiesFile : Answer → Type 0
  TidiesFile answer = (text : List ℕ) (kernel : KernelParts) (held : ToldFile) → IsAccepted text kernel game.graph → IsFileOf held 20000000 file → Meets (Tidies game.slots text held) answer

  -- the file holds this
  abbrev pub Holds : FilePlay → Type 0
  Holds play = (held : ToldFile) → IsFileOf held 20000000 file → IsFilePlay game held play

  -- the bytes and the moves of a complete pebbling that it holds
  pub played : (moves : Vec Move Global) (cost : ℕ) (xs : List Move) → xs ≡ moves.items → Holds (Complete moves cost) → (held : ToldFile) → IsFileOf held 20000000 file
      → (bytes : List ℕ) × HoldsPlay game bytes xs cost
  played moves cost xs same holds held of_file =
      let is = holds held of_file in
      (is.0, subst (λ ms. HoldsPlay game is.0 ms cost) (sym same) is.2)

  -- the answer where the file holds no complete pebbling
  pub refused : (answer : Answer) → Holds (NoPlay answer) → (text : List ℕ) (kernel : KernelParts) (held : ToldFile) → IsAccepted text kernel game.graph → IsFileOf held 20000000 file
      → Meets (IsNoPlay game.slots text held) answer
  refused answer holds text kernel held accepted of_file =
      let is = holds held of_file in
      record {
        kernel = kernel;
        graph = game.graph;
        accepted = accepted;
        room = room;
        bytes = is.0;
        held = is.1;
        holds_none = (subst (λ g. Meets (RefusesPlay g is.0) answer) (is_judged game weights) is.2).holds_none;
        ends = is.2.ends;
        none = is.2.none;
      }

  -- the answer of `judge` where it holds one
  pub judged : {E : Type 0} (r : Result Answer E) (moves : Vec Move Global) (cost : ℕ) → IfOk r (λ a. a.status ≡ Done) → IfOk r (λ a. a.text.items ≡ complete_text cost) → IfOk r (λ a. file_items a.table ≡ None)
      → Holds (Complete moves cost) → IfOk r JudgesFile
  judged (Ok a) moves cost ends line none holds = λ text kernel held accepted of_file.
      let is = holds held of_file in
      inl (record {
        kernel = kernel;
        graph = game.graph;
        accepted = accepted;
        room = room;
        bytes = is.0;
        held = is.1;
        moves = moves.items;
        cost = cost;
        holds = subst (λ g. HoldsPlay g is.0 moves.items cost) (is_judged game weights) is.2;
        ends = ends;
        line = line;
        none = none;
      })
  judged (Err e) moves cost ends line none holds = tt

  -- the answer of `tidy` where it holds one
  pub tidied : {E : Type 0} (r : Result Answer E) (moves : Vec Move Global) (cost : ℕ) (xs : List Move) → xs ≡ moves.items → IfOk r (λ a. a.status ≡ Done)
      → IfOk r (λ a. (plan : PlanParts) × IsTidyPlan game xs plan × IsPlanCode plan × (a.text.items ≡ tidied_text cost plan)) → IfOk r (λ a. file_items a.table ≡ None)
      → Holds (Complete moves cost) → IfOk r TidiesFile
  tidied (Ok a) moves cost xs same ends made none holds = λ text kernel held accepted of_file.
      let is = holds held of_file in
      let plan = made.0 in
      let code = right_code plan text kernel made.2 (subst (λ (g : GameParts). IsAccepted text kernel g.graph) (sym made.1.of_game) accepted) in
      inl (record {
        kernel = kernel;
        graph = game.graph;
        accepted = accepted;
        room = room;
        bytes = is.0;
        held = is.1;
        moves = moves.items;
        cost = cost;
        holds = subst (λ g. HoldsPlay g is.0 moves.items cost) (is_judged game weights) is.2;
        plan = plan;
        tidy = subst (λ g. IsTidyPlan g moves.items plan) (is_judged game weights) (subst (λ ms. IsTidyPlan game ms plan) same made.1);
        code = subst (λ g. IsRightCode kernel g (plan_code plan) plan.total) (made.1.of_game ∙ is_judged game weights) code;
        ends = ends;
        lines = made.3;
        none = none;
      })
  tidied (Err e) moves cost xs same ends made none holds = tt
