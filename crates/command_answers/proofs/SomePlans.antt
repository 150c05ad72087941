-- There is an answer for each game and each budget, by the definitions alone: the plan that the search finds, with a table of its rows.
use Rattle.std.proofs.Common.{◌≡◌, ℕ, zero, suc, ◌+◌, ◌≤◌, ◌<◌, ◌⊎◌, Bool, true, false, List, [], ◌∷◌, length, inl, inr, refl, sym, ap, ◌∙◌, subst, arith}
use Rattle.std.proofs.lemmas.Bool.{cases_lt}
use Rattle.comp_graph.specs.Dags.{IsDag}
use Rattle.comp_graph.specs.Graphs.{GraphParts}
use Rattle.comp_graph.specs.Games.{PebbleGame, IsGame}
use Rattle.comp_graph.proofs.GraphLaws.{IsDag-dag_of}
use Rattle.pebble_rules.specs.Rules.{start}
use Rattle.normal_steps.specs.Steps.{total_cost}
use Rattle.first_plan.specs.FirstPlan.{first_steps}
use Rattle.comp_graph.specs.Lists.{IsIn}
use Rattle.forced_bounds.specs.Floor.{floor}
use Rattle.forced_bounds.proofs.Ends.{floor_of_finish}
use Rattle.potential_cert.specs.declared.tables.Row.{Row}
use Rattle.potential_cert.specs.Table.{AreDistinct, IsSupport, TableParts}
use Rattle.potential_cert.specs.TableBytes.{IsSpelling, table_bytes}
use Rattle.potential_cert.specs.TableLaws.{HaveSameMembers}
use Rattle.potential_cert.specs.Order.{precedes}
use Rattle.potential_cert.proofs.Order.{precedes_is_strict}
use Rattle.potential_cert.proofs.Rising.{rising_is_distinct}
use Rattle.potential_cert.proofs.SupportLaws.{support_ignores_order}
use Rattle.search_laws.specs.Search.{Entry, Search, is_waiting, is_beaten, begun, expand, search_on, rows_of}
use Rattle.search_laws.specs.Standing.{Stands, row_of}
use Rattle.search_laws.proofs.Tests.{true_leb}
use Rattle.search_laws.proofs.Entries.{rows_apart}
use Rattle.search_laws.proofs.Turns.{HasExpanded, played_sound, has_expanded, settled_of, settles, search_stops, search_goes, search_ends}
use Rattle.search_laws.proofs.Results.{begun_rows, begun_stands, search_has, row_reached, searched_table_is_valid, few_rows_are_optimal, open_fills_budget}
use Rattle.search_laws.proofs.Shortcut.{support_is_least_waiting}
use Rattle.branch_bound.specs.Founds.{IsSearchedTable}
use Rattle.branch_bound.proofs.FoundLaws.{length_within}
use Rattle.branch_bound.proofs.RowLaws.{IsSmall}
use Rattle.command_words.specs.declared.commands.Planning.{Planning}
use Rattle.command_answers.specs.PlanAnswers.{plan_asked, rows_asked, search_asked}
use Rattle.command_answers.specs.PlayedGames.{game_asked, played_for}
use Rattle.command_answers.proofs.FirstPlans.{first_plan_valid}
use Rattle.command_answers.proofs.FoundPlans.{first_finishes, found_no_worse, found_plan_valid}
use Rattle.command_answers.proofs.RisingRows.{in_order, order_keeps, order_rises}

-- ---- the bound

-- a least of a cost and of what plays through the waiting entries cost at least
pub record HasLeast (g : PebbleGame) (cost : ℕ) (es : List Entry) : Type 0 where
  pub least : ℕ
  pub within_cost : least ≤ cost
  pub within_waiting : (e : Entry) → IsIn e es → is_waiting e.mark ≡ true → least ≤ e.cost + floor g e.position
  pub is_met : (least ≡ cost) ⊎ ((e : Entry) × IsIn e es × (is_waiting e.mark ≡ true) × (least ≡ e.cost + floor g e.position))

pub least_of : (g : PebbleGame) (cost : ℕ) (es : List Entry) → HasLeast g cost es
least_of g cost [] = record { least = cost; within_cost = omega arith; within_waiting = λ e none. absurd none; is_met = inl refl }
least_of g cost (e ∷ es) = by_mark (is_waiting e.mark) refl (least_of g cost es)
  where
    Met : ℕ → List Entry → Type 0
    Met least fs = (least ≡ cost) ⊎ ((f : Entry) × IsIn f fs × (is_waiting f.mark ≡ true) × (least ≡ f.cost + floor g f.position))

    still_met : (least : ℕ) → Met least es → Met least (e ∷ es)
    still_met least (inl same) = inl same
    still_met least (inr f) = inr (f.0, inr f.1, f.2, f.3)

    passed : (rest : HasLeast g cost es) → ((f : Entry) → f ≡ e → is_waiting f.mark ≡ true → rest.least ≤ f.cost + floor g f.position) → HasLeast g cost (e ∷ es)
    passed rest first = record {
      least = rest.least;
      within_cost = rest.within_cost;
      within_waiting = λ f i waits. elim i [ inl same ↦ first f same waits | inr j ↦ rest.within_waiting f j waits ];
      is_met = still_met rest.least rest.is_met;
    }

    taken : (rest : HasLeast g cost es) → is_waiting e.mark ≡ true → e.cost + floor g e.position < rest.least → HasLeast g cost (e ∷ es)
    taken rest is less = record {
      least = e.cost + floor g e.position;
      within_cost = let most = rest.within_cost in omega (arith, less, most);
      within_waiting = λ f i waits. elim i [
        | inl same ↦ subst (λ (x : Entry). e.cost + floor g e.position ≤ x.cost + floor g x.position) (sym same) (omega arith)
        | inr j ↦ let most = rest.within_waiting f j waits in omega (arith, less, most)
      ];
      is_met = inr (e, inl refl, is, refl);
    }

    by_mark : (b : Bool) → is_waiting e.mark ≡ b → HasLeast g cost es → HasLeast g cost (e ∷ es)
    by_mark false is rest = passed rest (λ f same waits. absurd (let untrue = sym waits ∙ ap (λ (x : Entry). is_waiting x.mark) same ∙ is in cc))
    by_mark true is rest = elim (cases_lt (e.cost + floor g e.position) rest.least) [
      | inl less ↦ taken rest is less
      | inr more ↦ passed rest (λ f same waits. subst (λ (x : Entry). rest.least ≤ x.cost + floor g x.position) (sym same) (omega (arith, more)))
    ]

-- ---- the costs of the rows

-- a search adds only rows that cost less than the first plan
added_are_cheap : (g : PebbleGame) → IsDag g.dag → (first budget : ℕ) (t : Search) → Stands g first t → (r : Row) → IsIn r (rows_of (search_on g budget t).entries)
    → IsIn r (rows_of t.entries) ⊎ (r.cost < first)
added_are_cheap g dag first zero t stands r i = inl (subst (λ u. IsIn r (rows_of u.entries)) (search_ends g t) i)
added_are_cheap g dag first (suc budget) t stands r i =
    let given = settles g dag first t stands in
    elim given.goes_on [
      | inl none ↦ inl (subst (λ rows. IsIn r rows) given.rows (subst (λ u. IsIn r (rows_of u.entries)) (search_stops g budget t none.0) i))
      | inr e ↦
          let made = has_expanded floor_of_finish g dag first (settled_of g t) given.stands e.0 e.2 in
          one_more e.0 given.rows given.stands e.3 made
          (added_are_cheap g dag first budget (expand g e.0 (settled_of g t)) made.stands r (subst (λ u. IsIn r (rows_of u.entries)) (search_goes g budget t e.0 e.1) i))
    ]
  where
    cheap : (e : Entry) (u : Search) → u.cost ≤ first → is_beaten g u e ≡ false → r ≡ row_of e → r.cost < first
    cheap e u most beaten same = elim (cases_lt (e.cost + floor g e.position) u.cost) [
      | inl less ↦ let cost = ap (λ (q : Row). q.cost) same in omega (arith, less, most, cost)
      | inr more ↦ absurd (let true_here = true_leb u.cost (e.cost + floor g e.position) (omega (arith, more)) in cc)
    ]

    one_more : (e : Entry) → rows_of (settled_of g t).entries ≡ rows_of t.entries → Stands g first (settled_of g t) → is_beaten g (settled_of g t) e ≡ false
        → HasExpanded g first (settled_of g t) e (expand g e (settled_of g t)) → IsIn r (rows_of (expand g e (settled_of g t)).entries) ⊎ (r.cost < first)
        → IsIn r (rows_of t.entries) ⊎ (r.cost < first)
    one_more e rows given beaten made (inr less) = inr less
    one_more e rows given beaten made (inl row) = elim (made.after r row) [
      | inl new ↦ inr (cheap e (settled_of g t) given.kept.no_more beaten new)
      | inr old ↦ inl (subst (λ rows. IsIn r rows) rows old)
    ]

-- ---- the table

module _ (asked : Planning) (graph : GraphParts) (game : IsGame (game_asked asked graph)) where
  abbrev g : PebbleGame
  g = played_for asked graph

  dag : IsDag g.dag
  dag = IsDag-dag_of graph game.valid

  has : (r : Row) → IsIn r (rows_asked asked graph) → r.cost < total_cost g (start g) (first_steps g)
  has r i = elim (added_are_cheap g dag _ asked.budget (begun g (first_steps g)) (begun_stands g dag (first_steps g) (first_finishes asked graph game.valid game.room)) r i) [
    | inl old ↦ absurd (subst (λ rows. IsIn r rows) (begun_rows g (first_steps g)) old)
    | inr less ↦ less
  ]

  stands : Stands g (total_cost g (start g) (first_steps g)) (search_asked asked graph)
  stands = (search_has floor_of_finish g dag (first_steps g) (first_finishes asked graph game.valid game.room) asked.budget).stands

  distinct : AreDistinct (rows_asked asked graph)
  distinct = rows_apart (search_asked asked graph).entries stands.kept.apart

  small : (r : Row) → IsIn r (rows_asked asked graph) → IsSmall r.position
  small r i =
      let reached = row_reached g dag _ (search_asked asked graph) stands r i in
      let sound = played_sound g dag r.position r.cost reached.0 reached.1 in
      let few = game.valid.small in
      record {
        red = record { below = λ v m. let less = sound.red_below v m in omega (arith, few, less) };
        blue = record { below = λ v m. let less = sound.blue_below v m in omega (arith, few, less) };
      }

  pub least : HasLeast g (search_asked asked graph).cost (search_asked asked graph).entries
  least = least_of g (search_asked asked graph).cost (search_asked asked graph).entries

  -- a table of the search
  abbrev pub table_asked : TableParts
  table_asked = record {
    slots = asked.slots;
    vertices = length graph.nodes;
    load = (game_asked asked graph).weights.load;
    store = (game_asked asked graph).weights.store;
    bound = least.least;
    rows = in_order (rows_asked asked graph);
  }

  members : HaveSameMembers (rows_asked asked graph) table_asked.rows
  members = order_keeps (rows_asked asked graph)

  support : IsSupport g (rows_asked asked graph) (search_asked asked graph).cost least.least
  support = support_is_least_waiting floor_of_finish g dag (first_steps g) (first_finishes asked graph game.valid game.room) asked.budget least.least
      (record { within_cost = least.within_cost; within_waiting = least.within_waiting; is_met = least.is_met })

  table_support : IsSupport g table_asked.rows (search_asked asked graph).cost least.least
  table_support = support_ignores_order g (rows_asked asked graph) table_asked.rows (search_asked asked graph).cost least.least members support

  table_distinct : AreDistinct table_asked.rows
  table_distinct = rising_is_distinct precedes precedes_is_strict table_asked.rows (order_rises (rows_asked asked graph) small distinct)

  as_many : length table_asked.rows ≡ length (rows_asked asked graph)
  as_many =
      let a = length_within table_asked.rows (rows_asked asked graph) table_distinct (λ r. (members r).1) in
      let z = length_within (rows_asked asked graph) table_asked.rows distinct (λ r. (members r).0) in
      omega (arith, a, z)

  pub is_searched : IsSearchedTable g (first_steps g) asked.budget (plan_asked asked graph).total table_asked
  is_searched =
      let finishing = first_finishes asked graph game.valid game.room in
      let costs = (found_no_worse asked graph game.valid game.room).costs in
      let few = (few_rows_are_optimal floor_of_finish g dag (first_steps g) finishing asked.budget).few in
      record {
        of_game = record {
          vertices = refl;
          slots = refl;
          load = refl;
          store = refl;
          rise = order_rises (rows_asked asked graph) small distinct;
          valid = searched_table_is_valid floor_of_finish g dag (first_steps g) finishing asked.budget table_asked.rows table_distinct members least.least table_support;
        };
        rows = members;
        few = omega (arith, as_many, few);
        support = subst (λ cost. IsSupport g table_asked.rows cost least.least) (sym costs) table_support;
        fills = λ less. as_many ∙ open_fills_budget floor_of_finish g dag (first_steps g) finishing asked.budget least.least support (omega (arith, costs, less));
      }

  -- its spelling
  pub is_spelled : asked.budget ≤ 150000 → 1 ≤ asked.slots → IsSpelling (table_bytes table_asked) table_asked
  is_spelled budget some_slots =
      let few = is_searched.few in
      let most = is_searched.support.within_cost in
      let fits = (found_plan_valid asked graph game).fits in
      let weights = game.weights in
      let first = (first_plan_valid (game_asked asked graph) game).fits in
      record {
        fits = record {
          numbers = record {
            vertices = game.valid.small;
            some_slots = some_slots;
            slots = game.most;
            some_load = omega (arith, weights.load_some);
            load = weights.load_most;
            some_store = omega (arith, weights.store_some);
            store = weights.store_most;
            bound = omega (arith, most, fits);
            rows = omega (arith, few, budget);
          };
          rows = λ r i.
              let sound = is_searched.of_game.valid.sound r i in
              let less = has r ((members r).1 i) in
              record {
                cost = omega (arith, less, first);
                red = record { below = λ v m. let low = sound.red_below v m in omega (arith, low) };
                blue = record { below = λ v m. let low = sound.blue_below v m in omega (arith, low) };
              };
        };
        bytes_are = refl;
      }
