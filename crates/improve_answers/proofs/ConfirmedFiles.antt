-- What `confirm` answers to what a file proves.
use Rattle.std.proofs.Common.{◌≡◌, ◌<◌, ℕ, List, Result, Ok, Err, IfOk, inl, inr, refl, ap, ◌∙◌}
use Rattle.std.specs.Prelude.{None, Option}
use Rattle.comp_graph.specs.Dags.{degree}
use Rattle.comp_graph.specs.Graphs.{GraphParts, dag_of}
use Rattle.comp_graph.proofs.GraphLaws.{IsDag-dag_of}
use Rattle.desk_io.specs.Known.{ToldFile, file_items}
use Rattle.forced_bounds.proofs.Below.{floor_is_below_plays}
use Rattle.kernel_ast.specs.KernelParts.{KernelParts}
use Rattle.normal_steps.proofs.Simulation.{plays_from_start_cost_no_more}
use Rattle.potential_cert.proofs.Bound.{bound_is_below_pebblings}
use Rattle.command_words.specs.declared.commands.Checking.{Checking}
use Rattle.command_answers.specs.declared.answer.Answer.{Answer}
use Rattle.command_answers.specs.declared.answer.FileBytes.{FileBytes}
use Rattle.command_answers.specs.declared.check.Checked.TheVariants as checks
use Rattle.command_answers.specs.declared.status.Status.TheVariants.{Done, Refused}
use Rattle.command_answers.specs.Accepted.{IsAccepted}
use Rattle.command_answers.specs.CheckAnswers.{IsCheckOfFile, accepted_text, refused_text}
use Rattle.command_answers.specs.MadeAnswers.{Meets, IsFileOf}
use Rattle.command_answers.specs.PlayedGames.{played_on}
use Rattle.command_answers.proofs.Accepting.{accepted_graph}
use Rattle.command_answers.proofs.TableFiles.{is_refused_file}
use Rattle.improve_answers.specs.Confirms.{Confirms, confirmed_text}

-- the answer to a file that proves a bound
pub confirmed_file : {E : Type 0} (r : Result Answer E) (asked : Checking) (graph : GraphParts) (file : FileBytes) (bound : ℕ)
    → IfOk r (λ a. a.status ≡ Done) → IfOk r (λ a. a.text.items ≡ confirmed_text bound) → IfOk r (λ a. file_items a.table ≡ None)
    → ((told : ToldFile) → IsFileOf told 20000000 file → IsCheckOfFile (played_on graph asked.slots asked.weights) told (checks.Accepted bound)) → degree (dag_of graph) < asked.slots
    → IfOk r (λ a. (text : List ℕ) (kernel : KernelParts) (told : ToldFile) → IsAccepted text kernel graph → IsFileOf told 20000000 file → Meets (Confirms asked text told) a)
confirmed_file (Ok a) asked graph file bound is line none proves room = λ text kernel told accepted of_file.
    let found = proves told of_file in
    let table = found.proves in
    let g = played_on graph asked.slots asked.weights in
    inl (record {
      accepted = accepted_text table.certificate.bound;
      certified = record {
        kernel = kernel;
        graph = graph;
        accepted = accepted;
        room = room;
        bytes = found.bytes;
        held = found.held;
        certificate = table.certificate;
        certifies = table.certifies;
        lowest = bound_is_below_pebblings floor_is_below_plays plays_from_start_cost_no_more g (IsDag-dag_of graph (accepted_graph accepted)) table.certificate.rows table.certificate.bound table.certifies.of_game.valid;
        ends = is;
        line = refl;
        none = none;
      };
      line = line ∙ ap confirmed_text table.same;
    })
confirmed_file (Err e) asked graph file bound is line none proves room = tt

-- the answer to a file that is refused
pub not_confirmed : {E : Type 0} (r : Result Answer E) (asked : Checking) (graph : GraphParts) (file : FileBytes) (reason row : ℕ)
    → IfOk r (λ a. a.status ≡ Refused) → IfOk r (λ a. a.text.items ≡ refused_text reason row) → IfOk r (λ a. file_items a.table ≡ None)
    → ((told : ToldFile) → IsFileOf told 20000000 file → IsCheckOfFile (played_on graph asked.slots asked.weights) told (checks.Refused reason row)) → degree (dag_of graph) < asked.slots
    → IfOk r (λ a. (text : List ℕ) (kernel : KernelParts) (told : ToldFile) → IsAccepted text kernel graph → IsFileOf told 20000000 file → Meets (Confirms asked text told) a)
not_confirmed (Ok a) asked graph file reason row is line none proves room = λ text kernel told accepted of_file.
    inr (is_refused_file asked text told kernel graph reason row a.status a.text.items (file_items a.table) is line none (proves told of_file) room accepted)
not_confirmed (Err e) asked graph file reason row is line none proves room = tt
