-- A reader with its phrase, at one number of levels and at two.
use Rattle.std.proofs.Common.{◌≡◌, ℕ, suc, ◌≤◌, Bool, true, false, cond, eqb, List, [], ◌∷◌, ◌++◌, length, Option, Some, None, refl, sym, ap, ◌∙◌, inl, inr, ◌⊎◌, ⊎_elim, arith, length-append}
use Rattle.std.proofs.lemmas.Bool.{eqb-true}
use Rattle.token_grammar.specs.declared.fault.GrammarFault.{GrammarFault}
use Rattle.token_grammar.specs.declared.fault.GrammarFault.TheVariants.{Syntax, TooDeep}
use Rattle.token_grammar.specs.Phrases.{Phrase, One, Both, Either, Made, Many}
use Rattle.token_grammar.specs.Readers.{Read, Got, Bad, Reader, first, sees, one, deep, both, made, either, many}
use Rattle.token_grammar.proofs.Parts.{Sound, Complete, Stopping, Deeper, Within, Leads, Begins, Some_word, Ends, chosen, first_same, one_sound, one_complete, one_stops, both_sound, both_complete, both_within, both_stops, made_sound, made_complete, made_stops, made_within, either_sound, either_complete, either_stops, either_within, many_sound, many_complete, many_stops, many_within, follows}

abbrev pub any : {T : Type 0} → Option T → Bool
any o = true

pub record Exact {T A : Type 0} (F : Option T → Bool) (p : Reader T A) (R : Phrase T A) : Type 0 where
  pub sound : Sound F p R
  pub complete : Complete F p R
  pub some : Some_word R

pub exact_one : {T : Type 0} (passes : T → Bool) (t : T) → passes t ≡ true → Exact any (one passes) (One passes)
exact_one passes t is = record { sound = one_sound any passes (λ o. refl); complete = one_complete any passes; some = (t ∷ [], t, (refl, is)) }

pub exact_both : {T A B : Type 0} (F G : Option T → Bool) (p : Reader T A) (q : Reader T B) (R : Phrase T A) (S : Phrase T B) → Leads F G S → Exact F p R → Exact G q S → Exact G (both p q) (Both R S)
exact_both F G p q R S l x y = record {
  sound = both_sound F G p q R S x.sound (λ ts a rest h e. y.sound ts a rest e);
  complete = both_complete F G p q R S l x.complete y.complete;
  some = (x.some.0 ++ y.some.0, (x.some.1, y.some.1), (x.some.0, y.some.0, refl, x.some.2, y.some.2));
}

pub exact_made : {T A B : Type 0} (f : A → B) (F : Option T → Bool) (p : Reader T A) (R : Phrase T A) → Exact F p R → Exact F (made f p) (Made f R)
exact_made f F p R x = record { sound = made_sound f F p p R R x.sound; complete = made_complete f F p p R R x.complete; some = (x.some.0, f x.some.1, (x.some.1, x.some.2, refl)) }

pub exact_either : {T A : Type 0} (test F : Option T → Bool) (p q : Reader T A) (R S : Phrase T A) → Begins test true F R → Begins test false F S → Exact F p R → Exact F q S → Exact F (either test p q) (Either R S)
exact_either test F p q R S b c x y = record {
  sound = either_sound test F p p q q R R S S x.sound y.sound;
  complete = either_complete test F p p q q R R S S b c x.complete y.complete;
  some = (y.some.0, y.some.1, inr y.some.2);
}

-- a rule that may not be opened
pub exact_shut : {T A : Type 0} (test F : Option T → Bool) (q : Reader T A) (S : Phrase T A) → Begins test false F S → Exact F q S → Exact F (either test deep q) S
exact_shut test F q S b y = record {
  sound = λ ts a rest e. ⊎_elim (λ h. absurd (cc)) (λ h. y.sound ts a rest h.1) (chosen (test (first ts)) (Bad TooDeep ts) (q ts) (Got a rest) e);
  complete = λ u a rest r f. ap (λ z. cond z (Bad TooDeep (u ++ rest)) (q (u ++ rest))) (b u a rest r f) ∙ y.complete u a rest r f;
  some = y.some;
}

pub exact_many : {T A : Type 0} (test : Option T → Bool) (p : Reader T A) (R : Phrase T A) → test None ≡ false → Begins test true any R → Exact any p R → Exact (Ends any test) (many test p) (Many R)
exact_many test p R end b x = record {
  sound = λ ts found rest e. many_sound test any p p R R R end (λ o h. refl) b x.sound (length ts) ts found rest (omega arith) refl e;
  complete = λ u found rest r f. many_complete test any p p R R R end (λ o h. refl) b x.complete (length (u ++ rest)) u found rest (omega (arith, length-append u rest)) r f;
  some = ([], [], refl);
}

-- one part, and then links
pub exact_chain : {T A B : Type 0} (test F : Option T → Bool) (p : Reader T A) (q : Reader T B) (R : Phrase T A) (S : Phrase T B) → test None ≡ false → ((o : Option T) → test o ≡ true → F o ≡ true) → Begins test true any S → Exact F p R → Exact F q S → Exact (Ends F test) (both p (many test q)) (Both R (Many S))
exact_chain test F p q R S end on b x y = record {
  sound = both_sound F (Ends F test) p (many test q) R (Many S) x.sound (λ ts found rest h e. many_sound test F q q S S S end on b y.sound (length ts) ts found rest (omega arith) h e);
  complete = both_complete F (Ends F test) p (many test q) R (Many S) (λ v found rest m g. follows test F q q S S S end on b v rest found m g) x.complete
      (λ u found rest r f. many_complete test F q q S S S end on b y.complete (length (u ++ rest)) u found rest (omega (arith, length-append u rest)) r f);
  some = (x.some.0 ++ [], (x.some.1, []), (x.some.0, [], refl, x.some.2, refl));
}

-- ---- two numbers of levels

pub record Step {T A : Type 0} (c : GrammarFault) (F : Option T → Bool) (p p' : Reader T A) (R R' R⁺ : Phrase T A) : Type 0 where
  pub low : Exact F p R
  pub high : Exact F p' R'
  pub within : Within R R'
  pub up : Within R R⁺
  pub stops : Stopping c p p' R R⁺

some_up : {T A : Type 0} (R R⁺ : Phrase T A) → Within R R⁺ → Some_word R → Some_word R⁺
some_up R R⁺ w s = (s.0, s.1, w s.0 s.1 s.2)

pub step_one : {T : Type 0} (c : GrammarFault) (passes : T → Bool) (t : T) → passes t ≡ true → Step c any (one passes) (one passes) (One passes) (One passes) (One passes)
step_one c passes t is = record { low = exact_one passes t is; high = exact_one passes t is; within = λ u a r. r; up = λ u a r. r; stops = one_stops c passes t is }

module _ {T A B : Type 0} {c : GrammarFault} {F G : Option T → Bool} {p p' : Reader T A} {q q' : Reader T B} {R R' R⁺ : Phrase T A} {S S' S⁺ : Phrase T B} where
  pub step_both : Leads F G S → Leads F G S' → Step c F p p' R R' R⁺ → Step c G q q' S S' S⁺ → Step c G (both p q) (both p' q') (Both R S) (Both R' S') (Both R⁺ S⁺)
  step_both l l' x y = record {
    low = exact_both F G p q R S l x.low y.low;
    high = exact_both F G p' q' R' S' l' x.high y.high;
    within = both_within R R' S S' x.within y.within;
    up = both_within R R⁺ S S⁺ x.up y.up;
    stops = both_stops F c p p' q q' R R' R⁺ S S⁺ x.low.sound x.within x.high.complete (some_up S S⁺ y.up y.low.some) y.low.some x.stops x.up y.stops;
  }

module _ {T A B : Type 0} {c : GrammarFault} {F : Option T → Bool} {p p' : Reader T A} {R R' R⁺ : Phrase T A} where
  pub step_made : (f : A → B) → Step c F p p' R R' R⁺ → Step c F (made f p) (made f p') (Made f R) (Made f R') (Made f R⁺)
  step_made f x = record {
    low = exact_made f F p R x.low;
    high = exact_made f F p' R' x.high;
    within = made_within f R R' x.within;
    up = made_within f R R⁺ x.up;
    stops = made_stops f F p p' R R⁺ c x.stops;
  }

module _ {T A : Type 0} {c : GrammarFault} {F : Option T → Bool} {p p' q q' : Reader T A} {R R' R⁺ S S' S⁺ : Phrase T A} where
  pub step_either : (test : Option T → Bool) → Begins test true F R → Begins test true F R' → Begins test false F S → Begins test false F S' → Step c F p p' R R' R⁺ → Step c F q q' S S' S⁺ → Step c F (either test p q) (either test p' q') (Either R S) (Either R' S') (Either R⁺ S⁺)
  step_either test b b' d d' x y = record {
    low = exact_either test F p q R S b d x.low y.low;
    high = exact_either test F p' q' R' S' b' d' x.high y.high;
    within = either_within R R' S S' x.within y.within;
    up = either_within R R⁺ S S⁺ x.up y.up;
    stops = either_stops test F p p' q q' R R⁺ S S⁺ c x.stops y.stops;
  }

module _ {T A : Type 0} {c : GrammarFault} {p p' : Reader T A} {R R' R⁺ : Phrase T A} where
  pub step_many : (test : Option T → Bool) → test None ≡ false → Begins test true any R → Begins test true any R' → Step c any p p' R R' R⁺ → Step c (Ends any test) (many test p) (many test p') (Many R) (Many R') (Many R⁺)
  step_many test end b b' x = record {
    low = exact_many test p R end b x.low;
    high = exact_many test p' R' end b' x.high;
    within = many_within R R' x.within;
    up = many_within R R⁺ x.up;
    stops = many_stops test any p p' R R' R⁺ end (λ o h. refl) c b x.low.sound x.within x.high.complete x.up x.stops;
  }

module _ {T A B : Type 0} {c : GrammarFault} {F : Option T → Bool} {p p' : Reader T A} {q q' : Reader T B} {R R' R⁺ : Phrase T A} {S S' S⁺ : Phrase T B} where
  pub step_chain : (test : Option T → Bool) → test None ≡ false → ((o : Option T) → test o ≡ true → F o ≡ true) → Begins test true any S → Begins test true any S' → Step c F p p' R R' R⁺ → Step c F q q' S S' S⁺ → Step c (Ends F test) (both p (many test q)) (both p' (many test q')) (Both R (Many S)) (Both R' (Many S')) (Both R⁺ (Many S⁺))
  step_chain test end on b b' x y = record {
    low = exact_chain test F p q R S end on b x.low y.low;
    high = exact_chain test F p' q' R' S' end on b' x.high y.high;
    within = both_within R R' (Many S) (Many S') x.within (many_within S S' y.within);
    up = both_within R R⁺ (Many S) (Many S⁺) x.up (many_within S S⁺ y.up);
    stops = both_stops F c p p' (many test q) (many test q') R R' R⁺ (Many S) (Many S⁺) x.low.sound x.within x.high.complete ([], [], refl) ([], [], refl) x.stops x.up
        (many_stops test F q q' S S' S⁺ end on c b y.low.sound y.within y.high.complete y.up y.stops);
  }

-- ---- parts that may not be opened

shut_again : {T A : Type 0} (c : GrammarFault) (test : Option T → Bool) (p' q' : Reader T A) (ts rest rest' : List T) → ◌≡◌ {A = Read T A} (Bad TooDeep ts) (Bad c rest) → test (first ts) ≡ true → (c ≡ TooDeep → (x : List T) → p' x ≡ Bad TooDeep x) → first rest' ≡ first rest → either test p' q' rest' ≡ Bad c rest'
shut_again {T = T} {A = A} c test p' q' ts rest rest' e t shut same =
    let k : c ≡ TooDeep = cc in
    let w : ts ≡ rest = cc in
    let tested : test (first rest') ≡ true = ap test (same ∙ ap first (sym w)) ∙ t in
    ap (λ z. cond z (p' rest') (q' rest')) tested ∙ shut k rest' ∙ ap (λ z. Bad z rest') (sym k)

next_token : {T A : Type 0} (test : Option T → Bool) (R⁺ : Phrase T A) (ts rest : List T) → test None ≡ false → ts ≡ rest → test (first ts) ≡ true → ((t : T) → test (Some t) ≡ true → (more : List T) × (a : A) × R⁺ (t ∷ more) a) → Deeper R⁺ [] rest
next_token test R⁺ [] rest end w h opens = absurd (cc)
next_token test R⁺ (t ∷ ts) rest end w h opens =
    let x = opens t h in
    record { token = t; after = ts; is = sym w; more = x.0; value = x.1; alive = x.2 }

module _ {T A : Type 0} (c : GrammarFault) (test : Option T → Bool) (q q' : Reader T A) (P⁺ S S⁺ : Phrase T A) (end : test None ≡ false) (opens : c ≡ TooDeep → (t : T) → test (Some t) ≡ true → (more : List T) × (a : A) × P⁺ (t ∷ more) a) where
  shut_stops : (p' : Reader T A) → (c ≡ TooDeep → (x : List T) → p' x ≡ Bad TooDeep x) → Some_word S → Stopping c q q' S S⁺ → Stopping c (either test deep q) (either test p' q') S (Either P⁺ S⁺)
  shut_stops p' shut some hq ts rest e =
      ⊎_elim
      (λ h. let w : ts ≡ rest = cc in
      record {
        seen = [];
        split = w;
        more = some.0;
        value = some.1;
        alive = some.2;
        deeper = λ k. next_token test (Either P⁺ S⁺) ts rest end w h.0 (λ t i. let x = opens k t i in (x.0, x.1, inl x.2));
        again = λ rest' same. shut_again c test p' q' ts rest rest' h.1 h.0 shut same;
      })
      (λ h. let s = hq ts rest h.1 in
      let t : test (first (s.seen ++ rest)) ≡ false = ap (λ z. test (first z)) (sym s.split) ∙ h.0 in
      record {
        seen = s.seen;
        split = s.split;
        more = s.more;
        value = s.value;
        alive = s.alive;
        deeper = λ k. let d = s.deeper k in record { token = d.token; after = d.after; is = d.is; more = d.more; value = d.value; alive = inr d.alive };
        again = λ rest' same. ap (λ x. cond x (p' (s.seen ++ rest')) (q' (s.seen ++ rest'))) (ap test (first_same s.seen rest rest' same) ∙ t) ∙ s.again rest' same;
      })
      (chosen (test (first ts)) (Bad TooDeep ts) (q ts) (Bad c rest) e)

module _ {T A : Type 0} {c : GrammarFault} {F : Option T → Bool} {q q' : Reader T A} {S S' S⁺ : Phrase T A} (test : Option T → Bool) (P⁺ : Phrase T A) (end : test None ≡ false) (opens : c ≡ TooDeep → (t : T) → test (Some t) ≡ true → (more : List T) × (a : A) × P⁺ (t ∷ more) a) where
  pub step_shut : Begins test false F S → Begins test false F S' → Step c F q q' S S' S⁺ → Step c F (either test deep q) (either test deep q') S S' (Either P⁺ S⁺)
  step_shut b b' y = record {
    low = exact_shut test F q S b y.low;
    high = exact_shut test F q' S' b' y.high;
    within = y.within;
    up = λ u a r. inr (y.up u a r);
    stops = shut_stops c test q q' P⁺ S S⁺ end opens deep (λ k x. refl) y.low.some y.stops;
  }

  pub step_shut_open : (p' : Reader T A) (P' : Phrase T A) → (c ≡ TooDeep → ⊥) → Begins test true F P' → Begins test false F S → Begins test false F S' → Exact F p' P' → Step c F q q' S S' S⁺ → Step c F (either test deep q) (either test p' q') S (Either P' S') (Either P⁺ S⁺)
  step_shut_open p' P' never b d d' x y = record {
    low = exact_shut test F q S d y.low;
    high = exact_either test F p' q' P' S' b d' x y.high;
    within = λ u a r. inr (y.within u a r);
    up = λ u a r. inr (y.up u a r);
    stops = shut_stops c test q q' P⁺ S S⁺ end opens p' (λ k. absurd (never k)) y.low.some y.stops;
  }

-- ---- what a phrase begins with

abbrev pub Starts : {T A : Type 0} → (T → Type 0) → Phrase T A → Type 0
Starts {T = T} {A = A} Q R = (u : List T) (a : A) → R u a → (t : T) × (v : List T) × (u ≡ t ∷ v) × Q t

pub starts_one : {T : Type 0} (passes : T → Bool) → Starts (λ t. passes t ≡ true) (One passes)
starts_one passes u t r = (t, [], r.0, r.1)

pub starts_both : {T A B : Type 0} (Q : T → Type 0) (R : Phrase T A) (S : Phrase T B) → Starts Q R → Starts Q (Both R S)
starts_both Q R S s u p r = let x = s r.0 p.0 r.3 in (x.0, x.1 ++ r.1, r.2 ∙ ap (λ z. z ++ r.1) x.2, x.3)

pub starts_made : {T A B : Type 0} (Q : T → Type 0) (f : A → B) (R : Phrase T A) → Starts Q R → Starts Q (Made f R)
starts_made Q f R s u b r = s u r.0 r.1

pub starts_either : {T A : Type 0} (Q Q' : T → Type 0) (R S : Phrase T A) → Starts Q R → Starts Q' S → Starts (λ t. Q t ⊎ Q' t) (Either R S)
starts_either Q Q' R S s s' u a r = ⊎_elim (λ h. let x = s u a h in (x.0, x.1, x.2, inl x.3)) (λ h. let x = s' u a h in (x.0, x.1, x.2, inr x.3)) r

starts_list : {T A B : Type 0} (Q Q' : T → Type 0) (R : Phrase T A) (S : Phrase T B) → Starts Q R → Starts Q' S → (found : List A) (v w u : List T) (b : B) → u ≡ v ++ w → Many R v found → S w b → (t : T) × (x : List T) × (u ≡ t ∷ x) × (Q t ⊎ Q' t)
starts_list Q Q' R S s s' [] v w u b e m r = let x = s' w b r in (x.0, x.1, e ∙ ap (λ z. z ++ w) m ∙ x.2, inr x.3)
starts_list Q Q' R S s s' (a ∷ found) v w u b e m r =
    let x = s m.0 a m.3 in
    (x.0, (x.1 ++ m.1) ++ w, e ∙ ap (λ z. z ++ w) (m.2 ∙ ap (λ z. z ++ m.1) x.2), inl x.3)

pub starts_many : {T A B : Type 0} (Q Q' : T → Type 0) (R : Phrase T A) (S : Phrase T B) → Starts Q R → Starts Q' S → Starts (λ t. Q t ⊎ Q' t) (Both (Many R) S)
starts_many Q Q' R S s s' u p r = starts_list Q Q' R S s s' p.0 r.0 r.1 u p.1 r.2 r.3 r.4

-- what begins a phrase passes a test, or does not
pub begins_by : {T A : Type 0} (Q : T → Type 0) (R : Phrase T A) (test F : Option T → Bool) (b : Bool) → Starts Q R → ((t : T) → Q t → test (Some t) ≡ b) → Begins test b F R
begins_by Q R test F b s h u a rest r f = let x = s u a r in ap (λ z. test (first (z ++ rest))) x.2 ∙ h x.0 x.3

pub leads_by : {T A : Type 0} (Q : T → Type 0) (R : Phrase T A) (F G : Option T → Bool) → Starts Q R → ((t : T) → Q t → F (Some t) ≡ true) → Leads F G R
leads_by Q R F G s h v b rest r g = let x = s v b r in ap (λ z. F (first (z ++ rest))) x.2 ∙ h x.0 x.3

-- ---- levels

-- With the same number of levels a fault is the same. With more, a fault of syntax is.
abbrev pub Levels : GrammarFault → ℕ → ℕ → Type 0
Levels Syntax d d' = d ≤ d'
Levels TooDeep d d' = d' ≡ d

pub levels_down : (c : GrammarFault) (d d' : ℕ) → Levels c (suc d) (suc d') → Levels c d d'
levels_down Syntax d d' h = omega arith
levels_down TooDeep d d' h = omega arith

pub no_fewer : (c : GrammarFault) (d : ℕ) → Levels c (suc d) 0 → ⊥
no_fewer Syntax d h = omega arith
no_fewer TooDeep d h = omega arith

pub no_more_deep : (c : GrammarFault) (d : ℕ) → Levels c 0 (suc d) → c ≡ TooDeep → ⊥
no_more_deep Syntax d h e = cc
no_more_deep TooDeep d h e = omega arith

-- ---- first tokens by the number of their kind

pub apart : (n a b : ℕ) → eqb n a ≡ true → eqb a b ≡ false → eqb n b ≡ false
apart n a b e f = ap (λ z. eqb z b) (eqb-true n a e) ∙ f

-- what a token of a kind is at any other test on kinds
pub at_kind : (n a : ℕ) (test : ℕ → Bool) (b : Bool) → eqb n a ≡ true → test a ≡ b → test n ≡ b
at_kind n a test b e f = ap test (eqb-true n a e) ∙ f

-- anything may follow
pub free : {T B : Type 0} (G : Option T → Bool) (S : Phrase T B) → Leads any G S
free G S v b rest s h = refl

-- a phrase that begins with one token of a test
pub first_starts : {T A B : Type 0} (passes : T → Bool) (f : T × A → B) (S : Phrase T A) → Starts (λ t. passes t ≡ true) (Made f (Both (One passes) S))
first_starts passes f S = starts_made (λ t. passes t ≡ true) f (Both (One passes) S) (starts_both (λ t. passes t ≡ true) (One passes) S (starts_one passes))

pub first_begins : {T A B : Type 0} (passes : T → Bool) (f : T × A → B) (S : Phrase T A) → Begins (sees passes) true any (Made f (Both (One passes) S))
first_begins passes f S = begins_by (λ t. passes t ≡ true) (Made f (Both (One passes) S)) (sees passes) any true (first_starts passes f S) (λ t q. q)
