-- What the test of an automorphism says.
use Rattle.std.proofs.Common.{◌≡◌, ℕ, ◌+◌, ◌<◌, ◌≤◌, ◌↔◌, zero, suc, IsTrue, Bool, true, false, List, [], ◌∷◌, length, get_or, inl, inr, refl, sym, ◌∙◌, subst, arith}
use Rattle.std.proofs.lemmas.Bool.{cases_lt}
use Rattle.std.proofs.lemmas.List.{get_or_default}
use Rattle.comp_graph.specs.Lists.{IsIn}
use Rattle.comp_graph.specs.Vertices.{Vertices, ◌∈◌}
use Rattle.comp_graph.specs.Sets.{same, same_members, same_members-true, same_members-itself}
use Rattle.comp_graph.specs.Graphs.{IsGraph, dag_of}
use Rattle.comp_graph.specs.Games.{GameParts, game_of}
use Rattle.comp_graph.proofs.DagLaws.{live_vertex}
use Rattle.comp_graph.proofs.GraphLaws.{IsDag-dag_of}
use Rattle.window_game.specs.Windows.{Window}
use Rattle.window_laws.specs.Entry.{IsWorker}
use Rattle.window_laws.specs.Images.{Renaming, IsImage, IsAutomorphism}
use Rattle.window_floor.specs.Workers.{AreWorkers}
use Rattle.window_images.specs.Permutations.{PermutationParts, IsUndone, renaming, renamings}
use Rattle.window_images.specs.Automorphisms.{KeepsSets, KeepsWork}

-- the set that is compared with the image is it
pub takes_decided : (r : Renaming) (s t image : Vertices) (b : Bool) → IsImage r s image → b ≡ same_members image t → IsTrue b ↔ IsImage r s t
takes_decided r s t image b is e = (
  λ h. subst (IsImage r s) (same_members-true image t (sym e ∙ h)) is,
  λ other.
      let one : image ≡ t = same image t (λ v. is v ∙ sym (other v)) in
      e ∙ subst (λ u. same_members image u ≡ true) one (same_members-itself image),
)

-- ---- a test after another

pub then_both : {P Q : Type 0} → (a b v : Bool) → (IsTrue a ↔ P) → (IsTrue b ↔ Q) → a ≡ true → v ≡ b → IsTrue v ↔ (P × Q)
then_both a b v one two is e = (λ h. (one.0 is, two.0 (sym e ∙ h)), λ h. e ∙ two.1 h.1)

pub else_both : {P Q : Type 0} → (a v : Bool) → (IsTrue a ↔ P) → a ≡ false → v ≡ false → IsTrue v ↔ (P × Q)
else_both a v one not e = (λ h. absurd (apart v h e), λ h. absurd (apart a (one.1 h.0) not))
  where
    apart : (b : Bool) → b ≡ true → b ≡ false → ⊥
    apart b t f = let clash : true ≡ false = sym t ∙ f in cc

-- ---- workers

pub worker_vertex : (g : GameParts) → IsGraph g.graph → (w : Window) (workers : Vertices) → AreWorkers (game_of g) w workers
    → (v : ℕ) → v ∈ workers → v < length g.graph.nodes
worker_vertex g valid w workers are v member = live_vertex (dag_of g.graph) (IsDag-dag_of g.graph valid) v ((are v).0 member).live

module _ (g : GameParts) (valid : IsGraph g.graph) (w : Window) (workers : Vertices) (are : AreWorkers (game_of g) w workers) (r : Renaming) where
  -- each of the workers below n is kept
  abbrev pub AreKeptBelow : ℕ → Type 0
  AreKeptBelow n = (u : ℕ) → u < n → u ∈ workers → KeepsWork (game_of g) w workers r u

  pub none_kept : AreKeptBelow 0
  none_kept u h = absurd (omega (arith, h))

  pub one_kept : (n : ℕ) → AreKeptBelow n → (n ∈ workers → KeepsWork (game_of g) w workers r n) → AreKeptBelow (n + 1)
  one_kept n before here u h member = elim (cases_lt u n) [
    | inl l ↦ before u l member
    | inr g' ↦ let e : n ≡ u = omega (arith, h, g') in subst (KeepsWork (game_of g) w workers r) e (here (subst (λ x. x ∈ workers) (sym e) member))
  ]

  pub all_kept : (n : ℕ) → AreKeptBelow n → length g.graph.nodes ≤ n → (v : ℕ) → v ∈ workers → KeepsWork (game_of g) w workers r v
  all_kept n below past v member = below v (omega (arith, worker_vertex g valid w workers are v member, past)) member

  pub to_automorphism : IsUndone r → KeepsSets (game_of g) w r → ((v : ℕ) → v ∈ workers → KeepsWork (game_of g) w workers r v)
      → IsAutomorphism (game_of g) w r
  to_automorphism undone sets all =
      let at = λ (v : ℕ) (work : IsWorker (game_of g) w v). all v ((are v).1 work) in
      record {
        there_back = undone.there_back;
        back_there = undone.back_there;
        tracked = sets.tracked;
        required = sets.required;
        stores = sets.stores;
        inputs = sets.inputs;
        outputs = sets.outputs;
        workers = λ v work. (are (r.there v)).0 (at v work).worker;
        operands = λ v work. (at v work).like.operands;
        loads = λ v work. (at v work).like.loads;
        rest = λ v work. (at v work).like.rest;
      }

  pub automorphism_sets : IsAutomorphism (game_of g) w r → KeepsSets (game_of g) w r
  automorphism_sets auto = record {
    tracked = auto.tracked;
    required = auto.required;
    stores = auto.stores;
    inputs = auto.inputs;
    outputs = auto.outputs;
  }

  pub automorphism_work : IsAutomorphism (game_of g) w r → (v : ℕ) → v ∈ workers → KeepsWork (game_of g) w workers r v
  automorphism_work auto v member =
      let work = (are v).0 member in
      record {
        worker = (are (r.there v)).1 (auto.workers v work);
        like = record { operands = auto.operands v work; loads = auto.loads v work; rest = auto.rest v work };
      }

  -- both tests, one after the other
  pub automorphism_decided : IsUndone r → (b : Bool) → IsTrue b ↔ (KeepsSets (game_of g) w r × ((v : ℕ) → v ∈ workers → KeepsWork (game_of g) w workers r v))
      → IsTrue b ↔ IsAutomorphism (game_of g) w r
  automorphism_decided undone b both = (
    λ h. let parts = both.0 h in to_automorphism undone parts.0 parts.1,
    λ auto. both.1 (automorphism_sets auto, automorphism_work auto),
  )

-- ---- the permutations of a list

pub at_places : (P : Renaming → Type 0) (ps : List PermutationParts) → ((k : ℕ) (d : PermutationParts) → k < length ps → P (renaming (get_or ps k d)))
    → (r : Renaming) → IsIn r (renamings ps) → P r
at_places P [] all r h = absurd h
at_places P (p ∷ ps) all r (inl e) = subst P (sym e) (all 0 p (omega arith))
at_places P (p ∷ ps) all r (inr h) = at_places P ps (λ k d l. all (suc k) d (omega (arith, l))) r h

pub in_renamings : (ps : List PermutationParts) (k : ℕ) (d : PermutationParts) → k < length ps → IsIn (renaming (get_or ps k d)) (renamings ps)
in_renamings [] k d h = absurd (omega (arith, h))
in_renamings (p ∷ ps) zero d h = inl refl
in_renamings (p ∷ ps) (suc k) d h = inr (in_renamings ps k d (omega (arith, h)))

pub one_more_place : (P : Renaming → Type 0) (ps : List PermutationParts) (n : ℕ) (p : PermutationParts) → ((k : ℕ) (d : PermutationParts) → k < n → P (renaming (get_or ps k d)))
    → n < length ps → p ≡ get_or ps n p → P (renaming p) → (k : ℕ) (d : PermutationParts) → k < n + 1 → P (renaming (get_or ps k d))
one_more_place P ps n p before inside is here k d h = elim (cases_lt k n) [
  | inl l ↦ before k d l
  | inr g ↦
      let e : n ≡ k = omega (arith, h, g) in
      subst (λ j. P (renaming (get_or ps j d))) e (subst (λ q. P (renaming q)) (is ∙ get_or_default ps n p d inside) here)
]
