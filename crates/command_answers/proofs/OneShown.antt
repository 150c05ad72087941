-- One graph and one planning have one table and one row of numbers that are shown.
use Rattle.std.proofs.Common.{◌≡◌, ◌↔◌, Bool, true, false, length, refl, sym, ap, ◌∙◌, subst}
use Rattle.comp_graph.specs.Graphs.{GraphParts}
use Rattle.potential_cert.specs.Table.{IsSupport, TableParts}
use Rattle.potential_cert.specs.Order.{precedes}
use Rattle.potential_cert.proofs.Order.{precedes_is_strict}
use Rattle.potential_cert.proofs.Rising.{rising_is_one}
use Rattle.potential_cert.proofs.SupportLaws.{support_is_one}
use Rattle.command_words.specs.declared.commands.Planning.{Planning}
use Rattle.command_answers.specs.PlanAnswers.{PlanNumbers, IsShown}
use Rattle.command_answers.specs.PlayedGames.{played_for}

-- two truths that follow from one fact are the same
pub one_truth : {P : Type 0} (a b : Bool) → (a ≡ true) ↔ P → (b ≡ true) ↔ P → a ≡ b
one_truth true b f h = sym (h.1 (f.0 refl))
one_truth false true f h = f.1 (h.0 refl)
one_truth false false f h = refl

pub shown_is_one : (graph : GraphParts) (asked : Planning) (n m : PlanNumbers) (t u : TableParts) → IsShown graph asked n t → IsShown graph asked m u → (n ≡ m) × (t ≡ u)
shown_is_one graph asked n m t u a b =
    let g = played_for asked graph in
    let costs : n.cost ≡ m.cost = a.cost ∙ sym b.cost in
    let rows : t.rows ≡ u.rows = rising_is_one precedes precedes_is_strict t.rows u.rows a.tabled.rise b.tabled.rise
    (λ r. (λ i. (b.rows r).0 ((a.rows r).1 i), λ i. (a.rows r).0 ((b.rows r).1 i))) in
    let support : IsSupport g u.rows m.cost n.bound = subst (λ c. IsSupport g u.rows c n.bound) costs (subst (λ rs. IsSupport g rs n.cost n.bound) rows a.support) in
    let bounds : n.bound ≡ m.bound = support_is_one g u.rows m.cost n.bound m.bound support b.support in
    let optimal : n.optimal ≡ m.optimal = one_truth n.optimal m.optimal a.is_optimal
    (λ e. bounds ∙ b.is_optimal.0 e ∙ sym costs, λ e. b.is_optimal.1 (sym bounds ∙ e ∙ costs)) in (
      λ i. record {
        first = (a.first ∙ sym b.first) i;
        cost = costs i;
        bound = bounds i;
        expanded = (sym a.expanded ∙ ap length rows ∙ b.expanded) i;
        optimal = optimal i;
      },
      λ i. record {
        slots = (a.tabled.slots ∙ sym b.tabled.slots) i;
        vertices = (a.tabled.vertices ∙ sym b.tabled.vertices) i;
        load = (a.tabled.load ∙ sym b.tabled.load) i;
        store = (a.tabled.store ∙ sym b.tabled.store) i;
        bound = (a.bound ∙ bounds ∙ sym b.bound) i;
        rows = rows i;
      },
    )
