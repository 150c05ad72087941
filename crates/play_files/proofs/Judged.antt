-- A list of moves has one fault at most, and where it has one it is no complete pebbling.
use Rattle.std.proofs.Common.{◌≡◌, ℕ, zero, suc, List, [], ◌∷◌, inl, inr, take, refl, sym, ap, ◌∙◌, subst, arith}
use Rattle.std.specs.Prelude.{Some, slice_get}
use Rattle.std.specs.FinSet.{contains, difference, empty}
use Rattle.comp_graph.specs.Vertices.{Vertices, ◌∈◌, ◌∉◌, IsLeast}
use Rattle.comp_graph.specs.Sets.{membership}
use Rattle.comp_graph.specs.Games.{PebbleGame}
use Rattle.comp_graph.proofs.Sets.{difference_first, difference_second}
use Rattle.pebble_rules.specs.Rules.{start, IsMove, moved, IsPebbling, IsComplete, position_after}
use Rattle.pebble_rules.specs.Refusals.{vertex_of, Breaks, IsFirstBad}
use Rattle.pebble_rules.specs.declared.position.Position.{Position}
use Rattle.pebble_rules.specs.declared.moves.Move.{Move}
use Rattle.pebble_rules.specs.declared.refusal.Rule.{Rule}
use Rattle.pebble_rules.specs.declared.replaying.BadMove.{BadMove}
use Rattle.play_files.specs.declared.judging.PlayFault.TheVariants.{Bad, Incomplete}
use Rattle.play_files.specs.Judging.{FaultsAreOfNoPebbling, OneFault}

-- each move of a pebbling is one of the game where it stands
pub move_of_pebbling : (g : PebbleGame) (p : Position) (ms : List Move) (n : ℕ) (m : Move) → slice_get ms n ≡ Some m → IsPebbling g p ms → IsMove g (position_after p (take n ms)) m
move_of_pebbling g p [] n m there h = cc
move_of_pebbling g p (k ∷ ms) zero m there h = subst (IsMove g p) (let e : k ≡ m = cc in e) h.0
move_of_pebbling g p (k ∷ ms) (suc n) m there h = move_of_pebbling g (moved p k) ms n m there h.1

-- a move that breaks a rule is none of the game
pub no_rule_broken : (g : PebbleGame) (p : Position) (m : Move) (rule : Rule) → Breaks g p m rule → IsMove g p m → ⊥
no_rule_broken g p m rule (inl lacks) move = lacks.1 move.needs
no_rule_broken g p m rule (inr full) move = let fits = move.fits in let more = full.2 in omega arith

out_of : (s : Vertices) (v : ℕ) → v ∈ s → v ∉ s → ⊥
out_of s v a b = cc

pub faults_are_of_no_pebbling : FaultsAreOfNoPebbling
faults_are_of_no_pebbling g ms (Bad at rule vertex) fault complete =
    let bad = fault.1 in
    no_rule_broken g _ bad.move _ bad.why.rule (move_of_pebbling g (start g) ms fault.0.at bad.move bad.is_there complete.pebbling)
faults_are_of_no_pebbling g ms (Incomplete vertex) fault complete =
    let member = fault.1.member in
    out_of _ vertex (complete.outputs_blue vertex (difference_first _ _ vertex member)) (difference_second _ _ vertex member)

-- a pebbling that leaves no output without a blue pebble is complete
pub complete_at_end : (g : PebbleGame) (ms : List Move) (blue : Vertices) → IsPebbling g (start g) ms → blue ≡ (position_after (start g) ms).blue
    → (outputs left : Vertices) → outputs ≡ g.dag.outputs → left ≡ difference outputs blue → left ≡ empty → IsComplete g (start g) ms
complete_at_end g ms blue pebbling blue_is outputs left outputs_are left_is none = record {
  pebbling = pebbling;
  outputs_blue = λ v h. subst (λ s. v ∈ s) blue_is (in_blue v (subst (λ s. v ∈ s) (sym outputs_are) h));
}
  where
    in_blue : (v : ℕ) → v ∈ outputs → v ∈ blue
    in_blue v h = let gone = ap (λ s. contains s v) (sym left_is ∙ none) in grind (arith, membership)

-- ---- one fault

-- the first move that is none of the game has one place
first_place : (g : PebbleGame) (p : Position) (ms : List Move) (i j : ℕ) (m k : Move)
    → slice_get ms i ≡ Some m → IsPebbling g p (take i ms) → (IsMove g (position_after p (take i ms)) m → ⊥)
    → slice_get ms j ≡ Some k → IsPebbling g p (take j ms) → (IsMove g (position_after p (take j ms)) k → ⊥)
    → i ≡ j
first_place g p [] i j m k at_i before_i bad_i at_j before_j bad_j = absurd (cc)
first_place g p (x ∷ ms) zero zero m k at_i before_i bad_i at_j before_j bad_j = refl
first_place g p (x ∷ ms) zero (suc j) m k at_i before_i bad_i at_j before_j bad_j = absurd (bad_i (subst (IsMove g p) (let e : x ≡ m = cc in e) before_j.0))
first_place g p (x ∷ ms) (suc i) zero m k at_i before_i bad_i at_j before_j bad_j = absurd (bad_j (subst (IsMove g p) (let e : x ≡ k = cc in e) before_i.0))
first_place g p (x ∷ ms) (suc i) (suc j) m k at_i before_i bad_i at_j before_j bad_j =
    ap suc (first_place g (moved p x) ms i j m k at_i before_i.1 bad_i at_j before_j.1 bad_j)

-- and it breaks one rule
one_rule : (g : PebbleGame) (p : Position) (m : Move) (rule other : Rule) → Breaks g p m rule → Breaks g p m other → rule ≡ other
one_rule g p m rule other (inl a) (inl b) = a.0 ∙ sym b.0
one_rule g p m rule other (inl a) (inr b) = absurd (a.1 b.1)
one_rule g p m rule other (inr a) (inl b) = absurd (b.1 a.1)
one_rule g p m rule other (inr a) (inr b) = a.0 ∙ sym b.0

same_place : (g : PebbleGame) (ms : List Move) (a b : BadMove) → IsFirstBad g ms a → IsFirstBad g ms b → a.at ≡ b.at
same_place g ms a b x y =
    first_place g (start g) ms a.at b.at x.move y.move
    x.is_there x.before (no_rule_broken g _ x.move _ x.why.rule)
    y.is_there y.before (no_rule_broken g _ y.move _ y.why.rule)

same_move : (g : PebbleGame) (ms : List Move) (a b : BadMove) (x : IsFirstBad g ms a) (y : IsFirstBad g ms b) → x.move ≡ y.move
same_move g ms a b x y = some_same x.move y.move (sym x.is_there ∙ ap (slice_get ms) (same_place g ms a b x y) ∙ y.is_there)
  where
    some_same : (m k : Move) → Some m ≡ Some k → m ≡ k
    some_same m k e = cc

-- why the one is refused is why the other is
same_refusal : (g : PebbleGame) (ms : List Move) (a b : BadMove) (x : IsFirstBad g ms a) (y : IsFirstBad g ms b)
    → Breaks g (position_after (start g) (take b.at ms)) y.move a.why.rule
same_refusal g ms a b x y =
    subst (λ m. Breaks g (position_after (start g) (take b.at ms)) m a.why.rule) (same_move g ms a b x y)
    (subst (λ n. Breaks g (position_after (start g) (take n ms)) x.move a.why.rule) (same_place g ms a b x y) x.why.rule)

same_vertex : (g : PebbleGame) (ms : List Move) (a b : BadMove) → IsFirstBad g ms a → IsFirstBad g ms b → a.why.vertex ≡ b.why.vertex
same_vertex g ms a b x y = x.why.vertex ∙ ap vertex_of (same_move g ms a b x y) ∙ sym y.why.vertex

-- a list of moves with a bad one is no pebbling
bad_is_none : (g : PebbleGame) (ms : List Move) (bad : BadMove) → IsFirstBad g ms bad → IsPebbling g (start g) ms → ⊥
bad_is_none g ms bad is pebbling = no_rule_broken g _ is.move _ is.why.rule (move_of_pebbling g (start g) ms bad.at is.move is.is_there pebbling)

pub one_least : (s : Vertices) (u v : ℕ) → IsLeast s u → IsLeast s v → u ≡ v
one_least s u v a b = let below = a.least v b.member in let above = b.least u a.member in omega arith

-- a first bad move makes one fault
as_bad : (at some : ℕ) (rule other : Rule) (vertex third : ℕ) → at ≡ some → rule ≡ other → vertex ≡ third → Bad at rule vertex ≡ Bad some other third
as_bad at some rule other vertex third a r v = (λ i. Bad (a i) (r i) (v i))

pub one_fault : OneFault
one_fault g ms (Bad at rule vertex) (Bad some other third) h k =
    as_bad at some rule other vertex third
    (h.2 ∙ same_place g ms h.0 k.0 h.1 k.1 ∙ sym k.2)
    (h.3 ∙ one_rule g _ k.1.move h.0.why.rule k.0.why.rule (same_refusal g ms h.0 k.0 h.1 k.1) k.1.why.rule ∙ sym k.3)
    (h.4 ∙ same_vertex g ms h.0 k.0 h.1 k.1 ∙ sym k.4)
one_fault g ms (Bad at rule vertex) (Incomplete other) h k = absurd (bad_is_none g ms h.0 h.1 k.0)
one_fault g ms (Incomplete vertex) (Bad at rule other) h k = absurd (bad_is_none g ms k.0 k.1 h.0)
one_fault g ms (Incomplete vertex) (Incomplete other) h k = ap Incomplete (one_least _ vertex other h.1 k.1)
