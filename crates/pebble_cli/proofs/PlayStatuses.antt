-- The laws of the answers of `judge` and `tidy`: where their statuses stand.
use Rattle.std.proofs.Common.{◌≡◌, ℕ, ◌<◌, List, Option, Some, None, inl, inr, refl, sym}
use Rattle.comp_graph.specs.Dags.{degree}
use Rattle.comp_graph.specs.Graphs.{GraphParts, dag_of}
use Rattle.kernel_ast.specs.KernelParts.{KernelParts}
use Rattle.command_words.specs.declared.commands.Command.TheVariants.{Judge, Tidy}
use Rattle.command_answers.specs.declared.status.Status.{Status}
use Rattle.command_answers.specs.declared.status.Status.TheVariants.{Done, Play}
use Rattle.command_answers.specs.Accepted.{IsAccepted}
use Rattle.command_answers.specs.PlayAnswers.{IsJudged, Judges, Tidies, complete_text}
use Rattle.desk_io.specs.Known.{ToldFile}
use Rattle.pebble_cli.specs.Answers.{Answers}
use Rattle.pebble_cli.specs.PlayLaws.{JudgeStatuses, JudgedWherePlayed, JudgedWhereNot, TidyStatuses, TidiedWherePlayed, TidiedWhereNot, PlayedOrNot}
use Rattle.command_answers.proofs.PlayedOnce.{judged_once, tidied_once, no_play_some, play_or_none}
use Rattle.pebble_cli.proofs.Slotted.{refused_or, own_answer}

-- ---- judge

pub judge_statuses : JudgeStatuses
judge_statuses slots input file status printed table h = refused_or (Judge slots) slots input file status printed table refl refl h (λ k. elim k [
  | inl judged ↦ inl (judged.ends, judged)
  | inr none ↦ inr (none.ends, none)
])

judged : (slots : ℕ) (input : List ℕ) (file : ToldFile) (status : Status) (printed : List ℕ) (table : Option (List ℕ)) (kernel : KernelParts) (graph : GraphParts)
    → Answers (Some (Judge slots)) input file status printed table → IsAccepted input kernel graph → degree (dag_of graph) < slots → Judges slots input file status printed table
judged slots input file status printed table kernel graph h accepted room =
    own_answer (Judge slots) slots input file status printed table kernel graph refl refl h accepted room

pub judged_where_played : JudgedWherePlayed
judged_where_played slots input bytes status printed table kernel graph h accepted room moves cost holds =
    let held = Some (Some bytes) in
    let is : IsJudged slots input held Done (complete_text cost) None = record {
      kernel = kernel;
      graph = graph;
      accepted = accepted;
      room = room;
      bytes = bytes;
      held = refl;
      moves = moves;
      cost = cost;
      holds = holds;
      ends = refl;
      line = refl;
      none = refl;
    } in
    let one = judged_once slots input held (Some bytes) refl status Done printed (complete_text cost) table None
    (judged slots input held status printed table kernel graph h accepted room) (inl is) in
    (one.0, one.1)

pub judged_where_not : JudgedWhereNot
judged_where_not slots input bytes status printed table kernel graph h accepted room line none =
    let held = Some (Some bytes) in
    let one = judged_once slots input held (Some bytes) refl status Play printed line table None
    (judged slots input held status printed table kernel graph h accepted room) (inr (no_play_some slots input bytes held kernel graph accepted room refl line none)) in
    (one.0, one.1)

-- ---- tidy

pub tidy_statuses : TidyStatuses
tidy_statuses slots input file status printed table h = refused_or (Tidy slots) slots input file status printed table refl refl h (λ k. elim k [
  | inl tidied ↦ inl (tidied.ends, tidied)
  | inr none ↦ inr (none.ends, none)
])

tidied : (slots : ℕ) (input : List ℕ) (file : ToldFile) (status : Status) (printed : List ℕ) (table : Option (List ℕ)) (kernel : KernelParts) (graph : GraphParts)
    → Answers (Some (Tidy slots)) input file status printed table → IsAccepted input kernel graph → degree (dag_of graph) < slots → Tidies slots input file status printed table
tidied slots input file status printed table kernel graph h accepted room =
    own_answer (Tidy slots) slots input file status printed table kernel graph refl refl h accepted room

-- a file that holds a complete pebbling is tidied, for it is judged so
pub tidied_where_played : TidiedWherePlayed
tidied_where_played slots input bytes status printed table kernel graph h accepted room moves cost holds =
    by_kind (tidied slots input (Some (Some bytes)) status printed table kernel graph h accepted room)
  where
    by_kind : Tidies slots input (Some (Some bytes)) status printed table → status ≡ Done
    by_kind (inl k) = k.ends
    by_kind (inr k) =
        let held = Some (Some bytes) in
        let is : IsJudged slots input held Done (complete_text cost) None = record {
          kernel = kernel;
          graph = graph;
          accepted = accepted;
          room = room;
          bytes = bytes;
          held = refl;
          moves = moves;
          cost = cost;
          holds = holds;
          ends = refl;
          line = refl;
          none = refl;
        } in
        sym (judged_once slots input held (Some bytes) refl Done status (complete_text cost) printed None table (inl is) (inr k)).0

pub tidied_where_not : TidiedWhereNot
tidied_where_not slots input bytes status printed table kernel graph h accepted room line none =
    let held = Some (Some bytes) in
    let one = tidied_once slots input held (Some bytes) refl status Play printed line table None
    (tidied slots input held status printed table kernel graph h accepted room) (inr (no_play_some slots input bytes held kernel graph accepted room refl line none)) in
    (one.0, one.1)

-- ---- each file

pub played_or_not : PlayedOrNot
played_or_not game valid bytes = elim (play_or_none game valid bytes) [
  | inl play ↦ inl (play.0, _, play.1)
  | inr none ↦ inr none
]
