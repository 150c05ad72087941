-- The moves on a part play the game on it.
use Rattle.std.proofs.Common.{◌≡◌, ℕ, cond, List, [], ◌∷◌, inl, inr, sym, refl, ap, ◌∙◌, subst, arith}
use Rattle.std.specs.FinSet.{contains}
use Rattle.comp_graph.specs.Vertices.{Vertices, ◌∈◌, ◌∉◌, AllBelow, size}
use Rattle.comp_graph.specs.Games.{PebbleGame, game_of}
use Rattle.comp_graph.proofs.Sets.{AllBelow-set_below}
use Rattle.pebble_rules.specs.Rules.{start, CanCompute, Needs, IsMove, moved, position_after, IsPebbling, IsComplete}
use Rattle.pebble_rules.specs.Refusals.{vertex_of}
use Rattle.pebble_rules.specs.declared.position.Position.{Position}
use Rattle.pebble_rules.specs.declared.moves.Move.{Move}
use Rattle.pebble_rules.specs.declared.moves.Move.TheVariants.{Load, Store, Compute, DropRed, DropBlue}
use Rattle.std.proofs.lemmas.Bool.{cases_Bool, cases_lt}
use Rattle.part_bounds.specs.Cuts.{place, vertex_at, cut, cut_game, cut_position, renumbered, moves_on}
use Rattle.part_bounds.specs.Parts.{part}
use Rattle.part_bounds.specs.Laws.{CutsAreDags, CutsArePebbled, PartsArePebbled}
use Rattle.comp_graph.proofs.Sets.{count_below-less}
use Rattle.part_bounds.proofs.Places.{IsAt, is_at, vertex_at_place, vertex_at_past, cut_below, cut_vertex, has_cut_place, cut_within, cut_empty, cut_insert, cut_remove, cut_insert_other, cut_remove_other, size_cut}

-- ---- the graph

pub cuts_are_dags : CutsAreDags
cuts_are_dags d dag s below = record {
  preds_below = λ v w h.
      let at : IsAt s d.count w (vertex_at s d.count w) = is_at s d.count w (cut_below s d.count _ w h) in
      let less = dag.preds_below _ _ (cut_vertex s d.count _ w h) in
      elim (cases_lt v (place s d.count)) [
        | inl low ↦
            let over : IsAt s d.count v (vertex_at s d.count v) = is_at s d.count v low in
            let placed = count_below-less s _ _ at.member less in
            let here = at.placed in
            let there = over.placed in
            omega arith
        | inr past ↦ absurd (let none = vertex_at_past s d.count v past in omega arith)
      ];
  inputs_are_vertices = λ v h. cut_below s d.count _ v h;
  outputs_are_vertices = λ v h. cut_below s d.count _ v h;
  inputs_have_no_preds = λ v h. ap (cut s d.count) (dag.inputs_have_no_preds _ (cut_vertex s d.count _ v h)) ∙ cut_empty s d.count;
}

-- ---- one move

abbrev at_position : Vertices → Vertices → Position
at_position r b = record { red = r; blue = b }

module _ (g : PebbleGame) (part : Vertices) (below : AllBelow g.dag.count part) where
  pub cut_moved : (p : Position) (m : Move) → vertex_of m ∈ part → cut_position part g.dag.count (moved p m) ≡ moved (cut_position part g.dag.count p) (renumbered part m)
  cut_moved p (Load v) h = ap (λ r. at_position r (cut part g.dag.count p.blue)) (cut_insert part g.dag.count p.red v h (below.below v h))
  cut_moved p (Store v) h = ap (λ b. at_position (cut part g.dag.count p.red) b) (cut_insert part g.dag.count p.blue v h (below.below v h))
  cut_moved p (Compute v) h = ap (λ r. at_position r (cut part g.dag.count p.blue)) (cut_insert part g.dag.count p.red v h (below.below v h))
  cut_moved p (DropRed v) h = ap (λ r. at_position r (cut part g.dag.count p.blue)) (cut_remove part g.dag.count p.red v h (below.below v h))
  cut_moved p (DropBlue v) h = ap (λ b. at_position (cut part g.dag.count p.red) b) (cut_remove part g.dag.count p.blue v h (below.below v h))

  pub cut_kept : (p : Position) (m : Move) → vertex_of m ∉ part → cut_position part g.dag.count (moved p m) ≡ cut_position part g.dag.count p
  cut_kept p (Load v) h = ap (λ r. at_position r (cut part g.dag.count p.blue)) (cut_insert_other part g.dag.count p.red v h)
  cut_kept p (Store v) h = ap (λ b. at_position (cut part g.dag.count p.red) b) (cut_insert_other part g.dag.count p.blue v h)
  cut_kept p (Compute v) h = ap (λ r. at_position r (cut part g.dag.count p.blue)) (cut_insert_other part g.dag.count p.red v h)
  cut_kept p (DropRed v) h = ap (λ r. at_position r (cut part g.dag.count p.blue)) (cut_remove_other part g.dag.count p.red v h)
  cut_kept p (DropBlue v) h = ap (λ b. at_position (cut part g.dag.count p.red) b) (cut_remove_other part g.dag.count p.blue v h)

  held : (s : Vertices) (v : ℕ) → v ∈ part → v ∈ s → place part v ∈ cut part g.dag.count s
  held s v h is = has_cut_place part g.dag.count s v h (below.below v h) ∙ is

  cut_computed : (p : Position) (v : ℕ) → v ∈ part → CanCompute g p v → CanCompute (cut_game g part) (cut_position part g.dag.count p) (place part v)
  cut_computed p v h can = record {
    vertex = count_below-less part v g.dag.count h (below.below v h);
    no_input = has_cut_place part g.dag.count g.dag.inputs v h (below.below v h) ∙ can.no_input;
    preds_red = λ w in_preds.
        cut_within part g.dag.count (g.dag.preds v) p.red can.preds_red w
        (subst (λ u. w ∈ cut part g.dag.count (g.dag.preds u)) (vertex_at_place part g.dag.count v h (below.below v h)) in_preds);
  }

  cut_needs : (p : Position) (m : Move) → vertex_of m ∈ part → Needs g p m → Needs (cut_game g part) (cut_position part g.dag.count p) (renumbered part m)
  cut_needs p (Load v) h needs = held p.blue v h needs
  cut_needs p (Store v) h needs = held p.red v h needs
  cut_needs p (Compute v) h needs = cut_computed p v h needs
  cut_needs p (DropRed v) h needs = held p.red v h needs
  cut_needs p (DropBlue v) h needs = held p.blue v h needs

  pub cut_is_move : (p : Position) (m : Move) → vertex_of m ∈ part → IsMove g p m → IsMove (cut_game g part) (cut_position part g.dag.count p) (renumbered part m)
  cut_is_move p m h move = record {
    needs = cut_needs p m h move.needs;
    fits =
        let e = ap (λ q. size q.red) (cut_moved p m h) in
        let less = size_cut part g.dag.count below (moved p m).red in
        let fits = move.fits in
        omega arith;
  }

  -- ---- all moves

  -- these moves are a pebbling of the part's game from q, and lead to r
  abbrev PlaysTo : Position → Position → List Move → Type 0
  PlaysTo q r ms = IsPebbling (cut_game g part) q ms × (position_after q ms ≡ r)

  moves_cut : (p : Position) (ms : List Move) → IsPebbling g p ms → PlaysTo (cut_position part g.dag.count p) (cut_position part g.dag.count (position_after p ms)) (moves_on part ms)
  moves_cut p [] h = (tt, refl)
  moves_cut p (m ∷ ms) h =
      let rest = moves_cut (moved p m) ms h.1 in
      elim (cases_Bool (contains part (vertex_of m))) [
        | inl member ↦
            let at = cut_moved p m member in
            let play = subst (λ q. PlaysTo q (cut_position part g.dag.count (position_after (moved p m) ms)) (moves_on part ms)) at rest in
            subst (PlaysTo (cut_position part g.dag.count p) (cut_position part g.dag.count (position_after (moved p m) ms)))
            (sym (ap (λ b. cond b (renumbered part m ∷ moves_on part ms) (moves_on part ms)) member))
            ((cut_is_move p m member h.0, play.0), play.1)
        | inr other ↦
            let at = cut_kept p m other in
            let play = subst (λ q. PlaysTo q (cut_position part g.dag.count (position_after (moved p m) ms)) (moves_on part ms)) at rest in
            subst (PlaysTo (cut_position part g.dag.count p) (cut_position part g.dag.count (position_after (moved p m) ms)))
            (sym (ap (λ b. cond b (renumbered part m ∷ moves_on part ms) (moves_on part ms)) other))
            play
      ]

  cut_start : cut_position part g.dag.count (start g) ≡ start (cut_game g part)
  cut_start = ap (λ r. at_position r (cut part g.dag.count g.dag.inputs)) (cut_empty part g.dag.count)

  pub cut_complete : (ms : List Move) → IsComplete g (start g) ms → IsComplete (cut_game g part) (start (cut_game g part)) (moves_on part ms)
  cut_complete ms complete =
      let play = subst (λ q. PlaysTo q (cut_position part g.dag.count (position_after (start g) ms)) (moves_on part ms)) cut_start (moves_cut (start g) ms complete.pebbling) in
      record {
        pebbling = play.0;
        outputs_blue = λ v h.
            subst (λ q. v ∈ q.blue) (sym play.1)
            (cut_within part g.dag.count g.dag.outputs (position_after (start g) ms).blue complete.outputs_blue v h);
      }

pub cuts_are_pebbled : CutsArePebbled
cuts_are_pebbled g dag s below ms complete = cut_complete g s below ms complete

pub parts_are_pebbled : PartsArePebbled
parts_are_pebbled g valid parts k ms complete = cut_complete (game_of g) (part g.graph parts k) (AllBelow-set_below _ _) ms complete
