-- The own answers of `graph`: one to each accepted kernel.
use Rattle.std.proofs.Common.{◌≡◌, ℕ, List, Option, None, refl, sym, ap, ◌∙◌, subst}
use Rattle.comp_graph.specs.Graphs.{GraphParts}
use Rattle.kernel_ast.specs.KernelParts.{KernelParts}
use Rattle.plan_report.specs.GraphText.{graph_text}
use Rattle.command_words.specs.declared.commands.Command.TheVariants.{Graph}
use Rattle.command_answers.specs.declared.status.Status.{Status}
use Rattle.command_answers.specs.declared.status.Status.TheVariants.{Done}
use Rattle.command_answers.specs.Accepted.{IsAccepted}
use Rattle.pebble_cli.specs.Answers.{IsAdmitted, kernel_with_room, code_input}
use Rattle.command_answers.specs.GraphAnswers.{IsDrawn}
use Rattle.command_answers.specs.Status.{is_own}
use Rattle.desk_io.specs.Known.{ToldFile}
use Rattle.command_answers.proofs.Accepting.{accepted_once}
use Rattle.pebble_cli.proofs.OwnAnswers.{IsKept, HasOwn, AreKept, AreOne}

-- an accepted kernel is admitted
pub admits : (input : List ℕ) (kernel : KernelParts) (graph : GraphParts) → IsAccepted input kernel graph → IsAdmitted Graph input
admits input kernel graph accepted = kernel_with_room input refl (record { kernel = kernel; graph = graph; accepted = accepted; room = λ count e. absurd (cc) })

kept : (input : List ℕ) (file : ToldFile) (status : Status) (printed : List ℕ) (table : Option (List ℕ))
    → IsDrawn input status printed table → IsKept Graph input file status printed table
kept input file status printed table h = record {
  admitted = admits input h.kernel h.graph h.accepted;
  last = ap is_own h.ends;
  untold = λ e. h.none;
  held = λ e. absurd (cc);
}

once : (text : List ℕ) (s t : Status) (p q : List ℕ) (a b : Option (List ℕ)) → IsDrawn text s p a → IsDrawn text t q b → AreOne s t p q a b
once text s t p q a b h k =
    let same : h.graph ≡ k.graph = (accepted_once text h.kernel k.kernel h.graph k.graph h.accepted k.accepted).1 in
    (h.ends ∙ sym k.ends, h.lines ∙ ap graph_text same ∙ sym k.lines, h.none ∙ sym k.none)

some : (input : List ℕ) (file : ToldFile) → IsAdmitted Graph input → HasOwn Graph input file
some input file (kernel_with_room text e h) =
    let same : text ≡ input = cc in
    record {
      status = Done;
      printed = graph_text h.graph;
      table = None;
      answer = record { kernel = h.kernel; graph = h.graph; accepted = subst (λ t. IsAccepted t h.kernel h.graph) same h.accepted; ends = refl; lines = refl; none = refl };
    }
some input file (code_input code is h) = absurd (cc)

pub graph_kept : AreKept Graph
graph_kept = record {
  each = kept;
  once = λ input file s t p q a b told h k. once input s t p q a b h k;
  some = λ input file limits held admitted. some input file admitted;
}
