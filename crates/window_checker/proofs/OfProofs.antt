-- A valid certificate as a list of windows with tables that proves a bound.
use Rattle.std.proofs.Common.{◌≡◌, ℕ, ◌≤◌, List, [], ◌∷◌, map, inl, inr, refl, sym, ap, ◌∙◌, subst}
use Rattle.comp_graph.specs.Dags.{IsDag}
use Rattle.comp_graph.specs.Games.{PebbleGame}
use Rattle.comp_graph.specs.Lists.{IsIn}
use Rattle.pebble_rules.specs.declared.position.Position.{Position}
use Rattle.pebble_rules.specs.Rules.{cost}
use Rattle.potential_cert.specs.declared.tables.Row.{Row}
use Rattle.cert_checker.proofs.Checked.{each_in}
use Rattle.window_game.specs.Windows.{Window}
use Rattle.window_game.specs.Bounds.{AreAllApart, total}
use Rattle.window_laws.specs.Images.{Renaming}
use Rattle.window_laws.specs.Floors.{IsFloorAt}
use Rattle.window_laws.specs.Tables.{IsSettled, IsValidIn}
use Rattle.window_laws.specs.Proofs.{WindowTable, AreProofs, windows_of, bounds_of, ProofsBoundPebblings}
use Rattle.window_floor.specs.GreedyCones.{window_floor, WindowFloorHolds}
use Rattle.window_images.specs.Permutations.{renamings}
use Rattle.window_images.specs.LeastImages.{least_image}
use Rattle.window_cert.specs.Certs.{WindowParts}
use Rattle.window_checker.specs.ValidCerts.{window_by, IsSettledBy, StepsSettle, FinishReaches, IsValidTable, IsValidPart, CertsBoundPebblings}

settled : (g : PebbleGame) (w : Window) → ((p : Position) → IsFloorAt g w p (window_floor g w p)) → (rs : List Renaming) (rows : List Row) (bound : ℕ)
    → (p : Position) (paid : ℕ) → IsSettledBy g w rs rows bound p paid → IsSettled g w rs rows bound p paid
settled g w floors rs rows bound p paid is = (
  least_image rs p,
  is.turned,
  elim is.settled [
    | inl has ↦ inl has
    | inr reaches ↦ inr (window_floor g w (least_image rs p), floors (least_image rs p), reaches)
  ],
)

valid_in : (g : PebbleGame) (w : Window) → ((p : Position) → IsFloorAt g w p (window_floor g w p)) → (rs : List Renaming) (rows : List Row) (bound : ℕ)
    → IsValidTable g w rs rows bound → IsValidIn g w rs rows bound
valid_in g w floors rs rows bound table = record {
  begins = settled g w floors rs rows bound _ _ table.begins;
  steps = λ r i s legal. settled g w floors rs rows bound _ _ (each_in (StepsSettle g w rs rows bound) rows table.steps r i s legal);
  finishes = λ r i. each_in (FinishReaches g w bound) rows table.finishes r i;
}

-- the windows of the certificate with their tables
record AreTables (g : PebbleGame) (xs : List WindowParts) : Type 0 where
  tables : List WindowTable
  proofs : AreProofs g tables
  windows : map (window_by g) xs ≡ windows_of tables
  bounds : map (λ x. x.bound) xs ≡ bounds_of tables

tables_of : (g : PebbleGame) → IsDag g.dag → WindowFloorHolds → (xs : List WindowParts) → ((x : WindowParts) → IsIn x xs → IsValidPart g x) → AreTables g xs
tables_of g dag floors [] valid = record { tables = []; proofs = tt; windows = refl; bounds = refl }
tables_of g dag floors (x ∷ xs) valid =
    let w = window_by g x in
    let is = valid x (inl refl) in
    let rest = tables_of g dag floors xs (λ y i. valid y (inr i)) in
    let table : WindowTable = record { window = w; renamings = renamings is.parts; rows = x.rows; bound = x.bound } in
    record {
      tables = table ∷ rest.tables;
      proofs = (
        record {
          window = is.window;
          automorphisms = is.automorphisms;
          valid = valid_in g w (floors g dag w is.window) (renamings is.parts) x.rows x.bound is.table;
        },
        rest.proofs,
      );
      windows = ap (λ ws. w ∷ ws) rest.windows;
      bounds = ap (λ bs. x.bound ∷ bs) rest.bounds;
    }

pub certs_bound_pebblings : ProofsBoundPebblings → WindowFloorHolds → CertsBoundPebblings
certs_bound_pebblings add_up floors g dag c is ms complete =
    let made = tables_of g dag floors c.windows is.parts in
    subst (λ n. n ≤ cost g ms) (sym (is.sum ∙ ap total made.bounds))
    (add_up g dag made.tables made.proofs (subst AreAllApart made.windows is.apart) ms complete)
