-- The least of some images, and the rounds that go from one to the next.
use Rattle.std.proofs.Common.{◌≡◌, ℕ, ◌+◌, ◌<◌, ◌≤◌, zero, suc, Bool, true, false, cond, List, [], ◌∷◌, ◌++◌, length, drop, get_or, ◌⊎◌, inl, inr, refl, sym, ap, ◌∙◌, subst, arith}
use Rattle.std.specs.declared.cmp.Ordering.{Ordering}
use Rattle.std.specs.declared.cmp.Ordering.TheVariants.{Less, Equal, Greater}
use Rattle.std.specs.Ordering.{nat_cmp, is_lt, is_gt, ordering_then}
use Rattle.std.specs.Cmp.Lexicographic.{slice_cmp}
use Rattle.std.proofs.lemmas.List.{drop_more, drop_all}
use Rattle.comp_graph.specs.Lists.{IsIn}
use Rattle.comp_graph.specs.Vertices.{Vertices}
use Rattle.comp_graph.specs.Words.{words_of}
use Rattle.pebble_rules.specs.declared.position.Position.{Position}
use Rattle.pebble_rules.specs.Positions.{position_order}
use Rattle.potential_cert.specs.Order.{precedes}
use Rattle.window_laws.specs.Images.{Renaming, IsImageOf, IsTurnedTo, stays, turned}
use Rattle.window_images.specs.Permutations.{PermutationParts, renaming, renamings, set_image, position_image}
use Rattle.window_images.specs.LeastImages.{lesser, least_among, least_of, rounds}
use Rattle.window_images.proofs.Tested.{in_renamings}

-- ---- the order of positions, red vertices first

then_assoc : (a b c : Ordering) → ordering_then a (ordering_then b c) ≡ ordering_then (ordering_then a b) c
then_assoc Less b c = refl
then_assoc Equal b c = refl
then_assoc Greater b c = refl

cmp_append : (xs ys us vs : List ℕ) → length xs ≡ length ys
    → slice_cmp nat_cmp (xs ++ us) (ys ++ vs) ≡ ordering_then (slice_cmp nat_cmp xs ys) (slice_cmp nat_cmp us vs)
cmp_append [] [] us vs e = refl
cmp_append [] (y ∷ ys) us vs e = absurd (omega (arith, e))
cmp_append (x ∷ xs) [] us vs e = absurd (omega (arith, e))
cmp_append (x ∷ xs) (y ∷ ys) us vs e =
    ap (ordering_then (nat_cmp x y)) (cmp_append xs ys us vs (omega (arith, e)))
    ∙ then_assoc (nat_cmp x y) (slice_cmp nat_cmp xs ys) (slice_cmp nat_cmp us vs)

-- if its red words come after the others, so does a position
red_decides : (p q : Position) → is_gt (slice_cmp nat_cmp (words_of p.red) (words_of q.red)) ≡ true → precedes p q ≡ false
unfolding precedes
red_decides p q h =
    ap is_lt (cmp_append (words_of p.red) (words_of q.red) (words_of p.blue) (words_of q.blue) refl)
    ∙ by_red (slice_cmp nat_cmp (words_of p.red) (words_of q.red)) (slice_cmp nat_cmp (words_of p.blue) (words_of q.blue)) h
  where
    by_red : (o x : Ordering) → is_gt o ≡ true → is_lt (ordering_then o x) ≡ false
    by_red Less x h = absurd (let clash : true ≡ false = sym h in cc)
    by_red Equal x h = absurd (let clash : true ≡ false = sym h in cc)
    by_red Greater x h = refl

tested : (p q : Position) (o : Ordering) (b : Bool) → o ≡ position_order p q → b ≡ is_lt o → precedes p q ≡ b
unfolding precedes
tested p q o b is e = sym (e ∙ ap is_lt is)

-- ---- the lesser of two

pub skipped : (r : Renaming) (p best : Position) (red : Vertices) (b : Bool) → red ≡ set_image r p.red
    → b ≡ is_gt (slice_cmp nat_cmp (words_of red) (words_of best.red)) → b ≡ true → best ≡ lesser best (position_image r p)
skipped r p best red b is e h =
    let after = sym (ap (λ s. is_gt (slice_cmp nat_cmp (words_of s) (words_of best.red))) is) ∙ sym e ∙ h in
    ap (λ t. cond t (position_image r p) best) (sym (red_decides (position_image r p) best after))

pub chosen : (r : Renaming) (p best image : Position) (o : Ordering) (b : Bool) → image ≡ position_image r p → o ≡ position_order image best
    → b ≡ is_lt o → b ≡ true → image ≡ lesser best (position_image r p)
chosen r p best image o b is compared e h =
    let before : precedes (position_image r p) best ≡ true = ap (λ q. precedes q best) (sym is) ∙ tested image best o b compared e ∙ h in
    is ∙ ap (λ t. cond t (position_image r p) best) (sym before)

pub kept : (r : Renaming) (p best image : Position) (o : Ordering) (b : Bool) → image ≡ position_image r p → o ≡ position_order image best
    → b ≡ is_lt o → b ≡ false → best ≡ lesser best (position_image r p)
kept r p best image o b is compared e h =
    let after : precedes (position_image r p) best ≡ false = ap (λ q. precedes q best) (sym is) ∙ tested image best o b compared e ∙ h in
    ap (λ t. cond t (position_image r p) best) (sym after)

-- ---- the least of some images, one renaming after another

-- the best so far, if the renamings from place i on are still to come
pub record IsBest (ps : List PermutationParts) (p : Position) (i : ℕ) (best : Position) : Type 0 where
  pub value : least_among (renamings (drop i ps)) p best ≡ least_of (renamings ps) p
  pub reached : IsTurnedTo (renamings ps) p best

pub first_best : (ps : List PermutationParts) (p : Position) → IsBest ps p 0 p
first_best ps p = record { value = refl; reached = stays }

pub next_best : (ps : List PermutationParts) (p best next : Position) (i : ℕ) (item : PermutationParts) → IsBest ps p i best → i < length ps → item ≡ get_or ps i item
    → next ≡ lesser best (position_image (renaming item) p) → (next ≡ best) ⊎ IsImageOf (renaming item) p next → IsBest ps p (i + 1) next
next_best ps p best next i item is inside at chosen either = record {
  value =
      ap (least_among (renamings (drop (i + 1) ps)) p) (chosen ∙ ap (λ x. lesser best (position_image (renaming x) p)) at)
      ∙ sym (ap (λ xs. least_among (renamings xs) p best) (drop_more ps i item inside))
      ∙ is.value;
  reached = elim either [
    | inl same ↦ subst (IsTurnedTo (renamings ps) p) (sym same) is.reached
    | inr image ↦ turned (renaming item) next (subst (λ x. IsIn (renaming x) (renamings ps)) (sym at) (in_renamings ps i item inside)) image stays
  ];
}

pub last_best : (ps : List PermutationParts) (p best : Position) (i : ℕ) → IsBest ps p i best → length ps ≤ i → best ≡ least_of (renamings ps) p
last_best ps p best i is past = sym (ap (λ xs. least_among (renamings xs) p best) (drop_all i ps past)) ∙ is.value

-- ---- rounds

pub turned_join : (rs : List Renaming) (p q t : Position) → IsTurnedTo rs p q → IsTurnedTo rs q t → IsTurnedTo rs p t
turned_join rs _ _ t (stays {p = p}) more = more
turned_join rs _ _ t (turned {p = p} {q = q} r next is image rest) more = turned r next is image (turned_join rs next q t rest more)

-- the position after so many rounds, if `left` more may come
pub record IsReached (rs : List Renaming) (p : Position) (left : ℕ) (q : Position) : Type 0 where
  pub value : rounds left rs q ≡ rounds 256 rs p
  pub reached : IsTurnedTo rs p q

pub first_round : (rs : List Renaming) (p : Position) → IsReached rs p 256 p
first_round rs p = record { value = refl; reached = stays }

no_more : (n : ℕ) (rs : List Renaming) (q : Position) → precedes (least_of rs q) q ≡ false → rounds n rs q ≡ q
no_more zero rs q h = refl
no_more (suc n) rs q h = ap (λ b. cond b (rounds n rs (least_of rs q)) q) h

-- no image is less
pub stopped : (rs : List Renaming) (p q least : Position) (left : ℕ) (o : Ordering) (b : Bool) → IsReached rs p left q → least ≡ least_of rs q
    → o ≡ position_order least q → b ≡ is_lt o → b ≡ false → q ≡ rounds 256 rs p
stopped rs p q least left o b is found compared e h =
    let after : precedes (least_of rs q) q ≡ false = ap (λ t. precedes t q) (sym found) ∙ tested least q o b compared e ∙ h in
    sym (no_more left rs q after) ∙ is.value

pub next_round : (rs : List Renaming) (p q least : Position) (left fewer : ℕ) (o : Ordering) (b : Bool) → IsReached rs p left q → left ≡ suc fewer
    → least ≡ least_of rs q → IsTurnedTo rs q least → o ≡ position_order least q → b ≡ is_lt o → b ≡ true → IsReached rs p fewer least
next_round rs p q least left fewer o b is one found turned_to compared e h =
    let before : precedes (least_of rs q) q ≡ true = ap (λ t. precedes t q) (sym found) ∙ tested least q o b compared e ∙ h in
    record {
      value =
          ap (rounds fewer rs) found
          ∙ sym (ap (λ n. rounds n rs q) one ∙ ap (λ t. cond t (rounds fewer rs (least_of rs q)) q) before)
          ∙ is.value;
      reached = turned_join rs p q least is.reached turned_to;
    }

-- all rounds are over
pub last_round : (rs : List Renaming) (p q : Position) (left : ℕ) → IsReached rs p left q → left ≡ 0 → q ≡ rounds 256 rs p
last_round rs p q left is none = sym (ap (λ n. rounds n rs q) none) ∙ is.value
