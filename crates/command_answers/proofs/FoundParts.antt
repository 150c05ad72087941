-- What the searches of the parts find answers the text.
use Rattle.std.proofs.Common.{◌≡◌, ℕ, List, Some, refl, subst}
use Rattle.comp_graph.specs.Games.{GameParts, IsGame}
use Rattle.kernel_ast.specs.KernelParts.{KernelParts}
use Rattle.part_bounds.specs.declared.searching.PartBound.{PartBound}
use Rattle.part_bounds.specs.Bounds.{ArePartBounds, AreSpellings}
use Rattle.command_words.specs.declared.commands.PartPlanning.{PartPlanning}
use Rattle.command_answers.specs.declared.status.Status.{Status}
use Rattle.command_answers.specs.declared.status.Status.TheVariants.{Done}
use Rattle.command_answers.specs.Accepted.{IsAccepted}
use Rattle.command_answers.specs.PartAnswers.{IsParted, bounds_text, game_in_parts}

pub found_is_parted : (asked : PartPlanning) (game : GameParts) (found : List PartBound) (text : List ℕ) (kernel : KernelParts) (status : Status) (printed bytes : List ℕ)
    → game ≡ game_in_parts asked game.graph → IsGame game → ArePartBounds game asked.parts asked.budget found → IsAccepted text kernel game.graph → status ≡ Done
    → printed ≡ bounds_text found → AreSpellings bytes found → IsParted asked text status printed (Some bytes)
found_is_parted asked game found text kernel status printed bytes played valid are accepted ends lines spelled =
    let is : IsGame (game_in_parts asked game.graph) = subst IsGame played valid in
    let bounds : ArePartBounds (game_in_parts asked game.graph) asked.parts asked.budget found = subst (λ g. ArePartBounds g asked.parts asked.budget found) played are in
    record {
      kernel = kernel;
      graph = game.graph;
      accepted = accepted;
      room = is.room;
      bounds = found;
      found = bounds;
      lowest = bounds.bound;
      ends = ends;
      lines = lines;
      bytes = bytes;
      written = refl;
      spelled = spelled;
    }
