-- What each maker promises is what is said of the command.
use Rattle.std.proofs.Common.{◌≡◌, ℕ, List, Some, IfOk, refl, sym, ap, ◌∙◌, subst}
use Rattle.command_words.specs.declared.commands.Command.{Command}
use Rattle.command_words.specs.declared.commands.Command.TheVariants.{CoverCheck, Judge, Tidy}
use Rattle.command_words.specs.Commands.{slots_of}
use Rattle.command_answers.specs.Accepted.{IsAccepted}
use Rattle.command_answers.specs.MadeAnswers.{Meets, IsFileOf}
use Rattle.desk_io.specs.Known.{ToldFile}
use Rattle.kernel_ast.specs.KernelParts.{KernelParts}
use Rattle.pebble_cli.specs.Answers.{OwnAnswers}
use Rattle.pebble_cli.proofs.prepare.file_answer.Goals as goal

-- a command with a number of slots is the one with the slots of the game
of_game : (make : ℕ → Command) (command : Command) (slots of_command : ℕ) → command ≡ make of_command → slots_of (make of_command) ≡ Some of_command → slots_of command ≡ Some slots
    → make slots ≡ command
of_game make command slots of_command is made has =
    let same : Some of_command ≡ Some slots = sym made ∙ sym (ap slots_of is) ∙ has in
    let count : of_command ≡ slots = cc in
    ap make (sym count) ∙ sym is

pub returns-in-Check : goal.returns-in-Check
returns-in-Check c =
    subst (λ k. IfOk c.check_answer.result (λ answer. (text : List ℕ) (kernel : KernelParts) (told : ToldFile) → IsAccepted text kernel c.args.game.now.graph
    → IsFileOf told 20000000 c.args.file.now → Meets (OwnAnswers k text told) answer)) (sym c.in-Check.is) c.check_answer.ensures

pub returns-in-Judge : goal.returns-in-Judge
returns-in-Judge c =
    subst (λ k. IfOk c.judge_answer.result (λ answer. (text : List ℕ) (kernel : KernelParts) (told : ToldFile) → IsAccepted text kernel c.args.game.now.graph
    → IsFileOf told 20000000 c.args.file.now → Meets (OwnAnswers k text told) answer))
    (of_game Judge c.args.command c.args.game.now.slots _ c.in-Judge.is refl c.requires.slots) c.judge_answer.ensures

pub returns-in-Tidy : goal.returns-in-Tidy
returns-in-Tidy c =
    subst (λ k. IfOk c.tidy_answer.result (λ answer. (text : List ℕ) (kernel : KernelParts) (told : ToldFile) → IsAccepted text kernel c.args.game.now.graph
    → IsFileOf told 20000000 c.args.file.now → Meets (OwnAnswers k text told) answer))
    (of_game Tidy c.args.command c.args.game.now.slots _ c.in-Tidy.is refl c.requires.slots) c.tidy_answer.ensures

pub returns-in-CoverCheck : goal.returns-in-CoverCheck
returns-in-CoverCheck c =
    subst (λ k. IfOk c.cover_check_answer.result (λ answer. (text : List ℕ) (kernel : KernelParts) (told : ToldFile) → IsAccepted text kernel c.args.game.now.graph
    → IsFileOf told 20000000 c.args.file.now → Meets (OwnAnswers k text told) answer))
    (of_game CoverCheck c.args.command c.args.game.now.slots _ c.in-CoverCheck.is refl c.requires.slots) c.cover_check_answer.ensures
