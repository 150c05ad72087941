-- One text has at most one answer of `parts`.
use Rattle.std.proofs.Common.{◌≡◌, ℕ, suc, List, [], ◌∷◌, length, Option, Some, refl, sym, ap, ◌∙◌, subst, arith}
use Rattle.std.specs.Prelude.{slice_get, flat_map}
use Rattle.comp_graph.specs.Games.{PebbleGame, GameParts}
use Rattle.potential_cert.specs.Order.{precedes}
use Rattle.potential_cert.specs.Table.{IsSupport}
use Rattle.potential_cert.specs.TableBytes.{table_bytes}
use Rattle.potential_cert.proofs.Order.{precedes_is_strict}
use Rattle.potential_cert.proofs.Rising.{rising_is_one}
use Rattle.potential_cert.proofs.SupportLaws.{support_is_one}
use Rattle.part_bounds.specs.declared.searching.PartBound.{PartBound}
use Rattle.part_bounds.specs.Bounds.{IsPartBound, ArePartBounds}
use Rattle.part_bounds.specs.Parts.{part_game}
use Rattle.command_words.specs.declared.commands.PartPlanning.{PartPlanning}
use Rattle.command_answers.specs.declared.status.Status.{Status}
use Rattle.command_answers.specs.PartAnswers.{IsParted, bounds_text, game_in_parts}
use Rattle.command_answers.proofs.Accepting.{accepted_once}

-- a game and a budget have one table and one cost
part_bound_is_one : (g : PebbleGame) (budget : ℕ) (a b : PartBound) → IsPartBound g budget a → IsPartBound g budget b → a ≡ b
part_bound_is_one g budget a b h k =
    let costs : a.cost ≡ b.cost = h.searched_cost ∙ sym k.searched_cost in
    let rows : a.table.rows ≡ b.table.rows = rising_is_one precedes precedes_is_strict a.table.rows b.table.rows h.table.of_game.rise k.table.of_game.rise
    (λ r. (λ i. (k.table.rows r).0 ((h.table.rows r).1 i), λ i. (h.table.rows r).0 ((k.table.rows r).1 i))) in
    let support : IsSupport g b.table.rows b.cost a.table.bound =
    subst (λ c. IsSupport g b.table.rows c a.table.bound) costs (subst (λ rs. IsSupport g rs a.cost a.table.bound) rows h.table.support) in
    let bounds : a.table.bound ≡ b.table.bound = support_is_one g b.table.rows b.cost a.table.bound b.table.bound support k.table.support in
    λ i. record {
      cost = costs i;
      table = record {
        slots = (h.table.of_game.slots ∙ sym k.table.of_game.slots) i;
        vertices = (h.table.of_game.vertices ∙ sym k.table.of_game.vertices) i;
        load = (h.table.of_game.load ∙ sym k.table.of_game.load) i;
        store = (h.table.of_game.store ∙ sym k.table.of_game.store) i;
        bound = bounds i;
        rows = rows i;
      };
    }

-- lists with the same elements at all places are the same
same_lists : {A : Type 0} (xs ys : List A) → length xs ≡ length ys → ((k : ℕ) (x y : A) → slice_get xs k ≡ Some x → slice_get ys k ≡ Some y → x ≡ y) → xs ≡ ys
same_lists [] [] e same = refl
same_lists [] (y ∷ ys) e same = absurd (omega arith)
same_lists (x ∷ xs) [] e same = absurd (omega arith)
same_lists (x ∷ xs) (y ∷ ys) e same = let rest = same_lists xs ys (omega arith) (λ k. same (suc k)) in let first = same 0 x y refl refl in λ i. first i ∷ rest i

-- so what is found of the parts of a game is one
pub parts_are_one : (g : GameParts) (parts budget : ℕ) (found others : List PartBound) → ArePartBounds g parts budget found → ArePartBounds g parts budget others → found ≡ others
parts_are_one g parts budget found others h k =
    same_lists found others (h.count ∙ sym k.count) (λ n a b x y. part_bound_is_one (part_game g parts n) budget a b (h.each n a x) (k.each n b y))

-- and the answer too
pub parted_is_one : (asked : PartPlanning) (text : List ℕ) (s t : Status) (p q : List ℕ) (a b : Option (List ℕ)) → IsParted asked text s p a → IsParted asked text t q b
    → (s ≡ t) × (p ≡ q) × (a ≡ b)
parted_is_one asked text s t p q a b h k =
    let graphs : h.graph ≡ k.graph = (accepted_once text h.kernel k.kernel h.graph k.graph h.accepted k.accepted).1 in
    let found : ArePartBounds (game_in_parts asked k.graph) asked.parts asked.budget h.bounds =
    subst (λ g. ArePartBounds (game_in_parts asked g) asked.parts asked.budget h.bounds) graphs h.found in
    let same : h.bounds ≡ k.bounds = parts_are_one (game_in_parts asked k.graph) asked.parts asked.budget h.bounds k.bounds found k.found in (
      h.ends ∙ sym k.ends,
      h.lines ∙ ap bounds_text same ∙ sym k.lines,
      h.written ∙ ap Some (h.spelled.bytes_are ∙ ap (flat_map (λ (one : PartBound). table_bytes one.table)) same ∙ sym k.spelled.bytes_are) ∙ sym k.written,
    )
