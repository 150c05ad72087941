-- Which inputs are admitted to a command that plays on the kernel in the input with a number of slots.
use Rattle.std.proofs.Common.{◌≡◌, ◌<◌, ℕ, List, Some, ap, subst}
use Rattle.comp_graph.specs.Dags.{degree}
use Rattle.comp_graph.specs.Graphs.{GraphParts, dag_of}
use Rattle.kernel_ast.specs.KernelParts.{KernelParts}
use Rattle.command_words.specs.declared.commands.Command.{Command}
use Rattle.command_words.specs.declared.commands.Subject.TheVariants.{InputKernel}
use Rattle.command_words.specs.Commands.{subject, slots_of}
use Rattle.command_answers.specs.Accepted.{IsAccepted}
use Rattle.command_answers.specs.Subjects.{kernel_text}
use Rattle.pebble_cli.specs.Answers.{IsAdmitted, kernel_with_room, code_input}

-- the text is accepted, and its slots are enough for it
pub record IsAcceptedWithRoom (slots : ℕ) (text : List ℕ) : Type 0 where
  pub kernel : KernelParts
  pub graph : GraphParts
  pub accepted : IsAccepted text kernel graph
  pub room : degree (dag_of graph) < slots

-- the text of the kernel in the input is the input
pub text_is_input : (asked : Command) (input text : List ℕ) → subject asked ≡ InputKernel → kernel_text (subject asked) input ≡ Some text → text ≡ input
text_is_input asked input text works e =
    let read : kernel_text (subject asked) input ≡ Some input = ap (λ s. kernel_text s input) works in
    cc

-- the slots of a command are more than the degree
pub room_of : (asked : Command) (slots : ℕ) (graph : GraphParts) → slots_of asked ≡ Some slots → degree (dag_of graph) < slots
    → (count : ℕ) → slots_of asked ≡ Some count → degree (dag_of graph) < count
room_of asked slots graph has room count other = let same : slots ≡ count = cc in subst (λ n. degree (dag_of graph) < n) same room

-- an accepted kernel with enough slots is admitted
pub admits : (asked : Command) (slots : ℕ) (input : List ℕ) (kernel : KernelParts) (graph : GraphParts) → subject asked ≡ InputKernel → slots_of asked ≡ Some slots
    → IsAccepted input kernel graph → degree (dag_of graph) < slots → IsAdmitted asked input
admits asked slots input kernel graph works has accepted room =
    kernel_with_room input (ap (λ s. kernel_text s input) works) (record { kernel = kernel; graph = graph; accepted = accepted; room = room_of asked slots graph has room })

-- nothing else is
pub admitted : (asked : Command) (slots : ℕ) (input : List ℕ) → subject asked ≡ InputKernel → slots_of asked ≡ Some slots → IsAdmitted asked input → IsAcceptedWithRoom slots input
admitted asked slots input works has (kernel_with_room text e h) =
    let same = text_is_input asked input text works e in
    record { kernel = h.kernel; graph = h.graph; accepted = subst (λ t. IsAccepted t h.kernel h.graph) same h.accepted; room = h.room slots has }
admitted asked slots input works has (code_input code is h) = absurd (cc)
