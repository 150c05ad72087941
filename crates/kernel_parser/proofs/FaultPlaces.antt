-- Where the faults of names stand: within the places of the tokens that were read, and in their order. One law for each form of a phrase.
use Rattle.std.proofs.Common.{◌≡◌, ◌<◌, ◌≤◌, ◌∷◌, ◌++◌, [], ℕ, zero, suc, Bool, List, map, Some, None, append-nil, sym, ap, ◌∙◌, subst, arith, inl, inr}
use Rattle.kernel_ast.specs.Walk.{joined}
use Rattle.kernel_lexer.specs.declared.token.Token.{Token}
use Rattle.kernel_parser.specs.NameFaults.{NameFault}
use Rattle.kernel_parser.specs.NameOrder.{StandsBeforeAll, AreInOrder}
use Rattle.kernel_syntax.specs.Tokens.{is_operator}
use Rattle.kernel_syntax.specs.Trees as tree
use Rattle.kernel_syntax.specs.Grammar.{Linked, Ranked, Brackets}
use Rattle.token_grammar.specs.Phrases.{Phrase, One, Both, Either, Made, Many, Maybe}

-- ---- faults

-- faults stand from one place on to before another
abbrev pub Between : ℕ → ℕ → List NameFault → Type 0
Between lo hi [] = Unit {0}
Between lo hi (f ∷ more) = (lo ≤ f.at) × (f.at < hi) × Between lo hi more

-- they stand there, and in order
abbrev pub Within : ℕ → ℕ → List NameFault → Type 0
Within lo hi fs = AreInOrder fs × Between lo hi fs

before_later : (f : NameFault) (mid hi : ℕ) (gs : List NameFault) → f.at < mid → Between mid hi gs → StandsBeforeAll f gs
before_later f mid hi [] l h = tt
before_later f mid hi (g ∷ gs) l (a, b, h) = (inl (omega (arith, l, a)), before_later f mid hi gs l h)

before_both : (f : NameFault) (fs gs : List NameFault) → StandsBeforeAll f fs → StandsBeforeAll f gs → StandsBeforeAll f (fs ++ gs)
before_both f [] gs h k = k
before_both f (x ∷ fs) gs (b, h) k = (b, before_both f fs gs h k)

between_wider : (low lo hi high : ℕ) (fs : List NameFault) → low ≤ lo → hi ≤ high → Between lo hi fs → Between low high fs
between_wider low lo hi high [] l h b = tt
between_wider low lo hi high (f ∷ fs) l h (a, b, k) = (omega (arith, l, a), omega (arith, h, b), between_wider low lo hi high fs l h k)

between_both : (lo hi : ℕ) (fs gs : List NameFault) → Between lo hi fs → Between lo hi gs → Between lo hi (fs ++ gs)
between_both lo hi [] gs f g = g
between_both lo hi (x ∷ fs) gs (a, b, f) g = (a, b, between_both lo hi fs gs f g)

in_order : (lo mid hi : ℕ) (fs gs : List NameFault) → Within lo mid fs → Within mid hi gs → AreInOrder (fs ++ gs)
in_order lo mid hi [] gs f g = g.0
in_order lo mid hi (x ∷ fs) gs ((b, o), (a, c, h)) g = (before_both x fs gs b (before_later x mid hi gs c g.1), in_order lo mid hi fs gs (o, h) g)

pub wider : (low lo hi high : ℕ) (fs : List NameFault) → low ≤ lo → hi ≤ high → Within lo hi fs → Within low high fs
wider low lo hi high fs l h w = (w.0, between_wider low lo hi high fs l h w.1)

-- the faults of one part, and then those of the next
pub within_both : (lo mid hi : ℕ) (fs gs : List NameFault) → lo ≤ mid → mid ≤ hi → Within lo mid fs → Within mid hi gs → Within lo hi (fs ++ gs)
within_both lo mid hi fs gs l h f g = (in_order lo mid hi fs gs f g, between_both lo hi fs gs (between_wider lo lo mid hi fs (omega arith) h f.1) (between_wider lo mid hi hi gs l (omega arith) g.1))

-- ---- tokens

-- tokens stand from one place on to before another, each behind those before it
abbrev pub Rise : ℕ → ℕ → List Token → Type 0
Rise lo hi [] = lo ≤ hi
Rise lo hi (t ∷ ts) = (lo ≤ t.from) × Rise (suc t.from) hi ts

rise_bounds : (lo hi : ℕ) (ts : List Token) → Rise lo hi ts → lo ≤ hi
rise_bounds lo hi [] h = h
rise_bounds lo hi (t ∷ ts) (a, h) = let r = rise_bounds (suc t.from) hi ts h in omega (arith, a, r)

-- tokens of two parts: the first stand before a place, and the others from it on
pub record Parts (lo hi : ℕ) (u v : List Token) : Type 0 where
  pub mid : ℕ
  pub front : Rise lo mid u
  pub behind : Rise mid hi v
  pub low : lo ≤ mid
  pub high : mid ≤ hi

parts_of : (lo hi : ℕ) (u v : List Token) → Rise lo hi (u ++ v) → Parts lo hi u v
parts_of lo hi [] v h = record { mid = lo; front = omega arith; behind = h; low = omega arith; high = rise_bounds lo hi v h }
parts_of lo hi (t ∷ u) v (a, h) =
    let r = parts_of (suc t.from) hi u v h in
    record { mid = r.mid; front = (a, r.front); behind = r.behind; low = omega (arith, a, r.low); high = r.high }

pub parts : (lo hi : ℕ) (word u v : List Token) → word ≡ u ++ v → Rise lo hi word → Parts lo hi u v
parts lo hi word u v e h = parts_of lo hi u v (subst (Rise lo hi) e h)

-- ---- phrases

-- What the phrase reads of tokens has faults within their places, in order.
abbrev pub Stand : {A : Type 0} → Phrase Token A → (A → List NameFault) → Type 0
Stand {A} R faults = (lo hi : ℕ) (word : List Token) (a : A) → Rise lo hi word → R word a → Within lo hi (faults a)

pub same_stand : {A : Type 0} (R : Phrase Token A) (f g : A → List NameFault) → ((a : A) → f a ≡ g a) → Stand R g → Stand R f
same_stand R f g e x lo hi word a h r = subst (Within lo hi) (sym (e a)) (x lo hi word a h r)

pub made_stand : {A B : Type 0} (make : A → B) (R : Phrase Token A) (f : B → List NameFault) → Stand R (λ a. f (make a)) → Stand (Made make R) f
made_stand make R f x lo hi word b h (a, r, is) = subst (λ z. Within lo hi (f z)) (sym is) (x lo hi word a h r)

pub either_stand : {A : Type 0} (R S : Phrase Token A) (f : A → List NameFault) → Stand R f → Stand S f → Stand (Either R S) f
either_stand R S f x y lo hi word a h (inl r) = x lo hi word a h r
either_stand R S f x y lo hi word a h (inr s) = y lo hi word a h s

pub one_stand : (passes : Token → Bool) (f : Token → List NameFault) → ((t : Token) → Within t.from (suc t.from) (f t)) → Stand (One passes) f
one_stand passes f x lo hi word t h (one, p) = let r = subst (Rise lo hi) one h in wider lo t.from (suc t.from) hi (f t) r.0 r.1 (x t)

-- the faults of both parts, where those of the second hang on what the first is
pub both_stand : {A B : Type 0} (R : Phrase Token A) (S : Phrase Token B) (f : A → List NameFault) (g : A → B → List NameFault) → Stand R f → ((a : A) → Stand S (g a)) → Stand (Both R S) (λ p. f p.0 ++ g p.0 p.1)
both_stand R S f g x y lo hi word (a, b) h (u, v, w, r, s) =
    let p = parts lo hi word u v w h in
    within_both lo p.mid hi (f a) (g a b) p.low p.high (x lo p.mid u a p.front r) (y a p.mid hi v b p.behind s)

-- the first part alone has faults
pub front_stand : {A B : Type 0} (R : Phrase Token A) (S : Phrase Token B) (f : A → List NameFault) → Stand R f → Stand (Both R S) (λ p. f p.0)
front_stand R S f x lo hi word (a, b) h (u, v, w, r, s) =
    let p = parts lo hi word u v w h in
    wider lo lo p.mid hi (f a) (omega arith) p.high (x lo p.mid u a p.front r)

-- the second part alone has faults
pub behind_stand : {A B : Type 0} (R : Phrase Token A) (S : Phrase Token B) (g : B → List NameFault) → Stand S g → Stand (Both R S) (λ p. g p.1)
behind_stand R S g y lo hi word (a, b) h (u, v, w, r, s) =
    let p = parts lo hi word u v w h in
    wider lo p.mid hi hi (g b) p.low (omega arith) (y p.mid hi v b p.behind s)

pub many_stand : {A : Type 0} (R : Phrase Token A) (f : A → List NameFault) → Stand R f → Stand (Many R) (λ found. joined (map f found))
many_stand R f x lo hi word [] h e = (tt, tt)
many_stand R f x lo hi word (a ∷ more) h (u, v, w, r, rs) =
    let p = parts lo hi word u v w h in
    within_both lo p.mid hi (f a) (joined (map f more)) p.low p.high (x lo p.mid u a p.front r) (many_stand R f x p.mid hi v more p.behind rs)

-- none, one or two in brackets
pub brackets_stand : {A : Type 0} (R : Phrase Token A) (f : A → List NameFault) (g : List A → List NameFault) → g [] ≡ [] → ((a : A) (more : List A) → g (a ∷ more) ≡ f a ++ g more) → Stand R f → Stand (Brackets R) g
brackets_stand {A} R f g nil cons x = made_stand tree.listed (Maybe (Both R (Maybe R))) g at_most_two
  where
    alone : (a : A) → g (a ∷ []) ≡ f a
    alone a = cons a [] ∙ ap (λ z. f a ++ z) nil ∙ append-nil (f a)

    at_most_two : Stand (Maybe (Both R (Maybe R))) (λ o. g (tree.listed o))
    at_most_two lo hi word None h e = subst (Within lo hi) (sym nil) (tt, tt)
    at_most_two lo hi word (Some (a, None)) h (u, v, w, r, e) =
        let p = parts lo hi word u v w h in
        subst (Within lo hi) (sym (alone a)) (wider lo lo p.mid hi (f a) (omega arith) p.high (x lo p.mid u a p.front r))
    at_most_two lo hi word (Some (a, Some b)) h (u, v, w, r, q) =
        let p = parts lo hi word u v w h in
        subst (Within lo hi) (sym (cons a (b ∷ []) ∙ ap (λ z. f a ++ z) (alone b)))
        (within_both lo p.mid hi (f a) (f b) p.low p.high (x lo p.mid u a p.front r) (x p.mid hi v b p.behind q))

-- ---- chains

module _ {E L : Type 0} (link : Token × E → L) (chain : E × List L → E) (faults : E → List NameFault) (link_faults : L → List NameFault)
    (link_is : (t : Token) (e : E) → link_faults (link (t, e)) ≡ faults e)
    (alone : (e : E) → chain (e, []) ≡ e)
    (chain_is : (e : E) (l : L) (ls : List L) → faults (chain (e, l ∷ ls)) ≡ faults e ++ joined (map link_faults (l ∷ ls))) where
  pub linked_stand : (rank : ℕ) (R : Phrase Token E) → Stand R faults → Stand (Linked link rank R) link_faults
  linked_stand rank R x =
      made_stand link (Both (One (is_operator rank)) R) link_faults
      (same_stand (Both (One (is_operator rank)) R) (λ p. link_faults (link p)) (λ p. faults p.1) (λ p. link_is p.0 p.1) (behind_stand (One (is_operator rank)) R faults x))

  chained_is : (p : E × List L) → faults (chain p) ≡ faults p.0 ++ joined (map link_faults p.1)
  chained_is (e, []) = ap faults (alone e) ∙ sym (append-nil (faults e))
  chained_is (e, l ∷ ls) = chain_is e l ls

  pub ranked_stand : (rank : ℕ) (R : Phrase Token E) → Stand R faults → Stand (Ranked link chain rank R) faults
  ranked_stand zero R x = x
  ranked_stand (suc rank) R x =
      let below = ranked_stand rank R x in
      made_stand chain (Both (Ranked link chain rank R) (Many (Linked link (suc rank) (Ranked link chain rank R)))) faults
      (same_stand (Both (Ranked link chain rank R) (Many (Linked link (suc rank) (Ranked link chain rank R)))) (λ p. faults (chain p)) (λ p. faults p.0 ++ joined (map link_faults p.1)) chained_is
      (both_stand (Ranked link chain rank R) (Many (Linked link (suc rank) (Ranked link chain rank R))) faults (λ e ls. joined (map link_faults ls)) below
      (λ e. many_stand (Linked link (suc rank) (Ranked link chain rank R)) link_faults (linked_stand (suc rank) (Ranked link chain rank R) below))))
