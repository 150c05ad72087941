-- Each way to put readers together keeps what a reader owes.
use Rattle.std.proofs.Common.{◌≡◌, ℕ, zero, suc, ◌+◌, ◌≤◌, Bool, true, false, cond, List, [], ◌∷◌, ◌++◌, length, Option, None, refl, sym, ap, ◌∙◌, subst, inl, inr, ◌⊎◌, ⊎_elim, arith, append_assoc, length-append, append-nil}
use Rattle.std.specs.Prelude.{◌&&◌, not}
use Rattle.token_grammar.specs.declared.fault.GrammarFault.{GrammarFault}
use Rattle.token_grammar.specs.declared.fault.GrammarFault.TheVariants.{Syntax, TooDeep}
use Rattle.token_grammar.specs.Phrases.{Phrase, One, Both, Either, Made, Many}
use Rattle.token_grammar.specs.Readers.{Read, Got, Bad, Reader, first, and_then, one, both, made, either, many_by, many}

-- ---- what a reader owes

-- What is read is a phrase, and what follows it may follow.
abbrev pub Sound : {T A : Type 0} → (Option T → Bool) → Reader T A → Phrase T A → Type 0
Sound {T = T} {A = A} F p R = (ts : List T) (a : A) (rest : List T) → p ts ≡ Got a rest → (u : List T) × (ts ≡ u ++ rest) × R u a × (F (first rest) ≡ true)

-- The same of what is read of these tokens.
abbrev pub SoundAt : {T A : Type 0} → (Option T → Bool) → Reader T A → Phrase T A → List T → Type 0
SoundAt {T = T} {A = A} F p R ts = (a : A) (rest : List T) → p ts ≡ Got a rest → (u : List T) × (ts ≡ u ++ rest) × R u a × (F (first rest) ≡ true)

-- A phrase is read where what follows it may follow.
abbrev pub Complete : {T A : Type 0} → (Option T → Bool) → Reader T A → Phrase T A → Type 0
Complete {T = T} {A = A} F p R = (u : List T) (a : A) (rest : List T) → R u a → F (first rest) ≡ true → p (u ++ rest) ≡ Got a rest

-- The next token goes on in a phrase of more levels.
pub record Deeper {T A : Type 0} (R⁺ : Phrase T A) (seen rest : List T) : Type 0 where
  pub token : T
  pub after : List T
  pub is : rest ≡ token ∷ after
  pub more : List T
  pub value : A
  pub alive : R⁺ (seen ++ token ∷ more) value

-- The tokens before a fault begin a phrase, and the fault stands whatever comes after its token.
pub record Stops {T A : Type 0} (c : GrammarFault) (p' : Reader T A) (R R⁺ : Phrase T A) (ts rest : List T) : Type 0 where
  pub seen : List T
  pub split : ts ≡ seen ++ rest
  pub more : List T
  pub value : A
  pub alive : R (seen ++ more) value
  pub again : (rest' : List T) → first rest' ≡ first rest → p' (seen ++ rest') ≡ Bad c rest'
  pub deeper : c ≡ TooDeep → Deeper R⁺ seen rest

abbrev pub Stopping : {T A : Type 0} → GrammarFault → Reader T A → Reader T A → Phrase T A → Phrase T A → Type 0
Stopping {T = T} c p p' R R⁺ = (ts rest : List T) → p ts ≡ Bad c rest → Stops c p' R R⁺ ts rest

abbrev pub Within : {T A : Type 0} → Phrase T A → Phrase T A → Type 0
Within {T = T} {A = A} R S = (u : List T) (a : A) → R u a → S u a

-- ---- cases

pub got : {T A B : Type 0} (o : Read T A) (f : A → Reader T B) (b : B) (rest : List T) → and_then o f ≡ Got b rest → (a : A) × (mid : List T) × (o ≡ Got a mid) × (f a mid ≡ Got b rest)
got (Got a mid) f b rest e = (a, mid, refl, e)
got (Bad c r) f b rest e = absurd (cc)

pub bad : {T A B : Type 0} (o : Read T A) (f : A → Reader T B) (c : GrammarFault) (rest : List T) → and_then o f ≡ Bad c rest → (o ≡ Bad c rest) ⊎ ((a : A) × (mid : List T) × (o ≡ Got a mid) × (f a mid ≡ Bad c rest))
bad (Got a mid) f c rest e = inr (a, mid, refl, e)
bad (Bad c' r) f c rest e = inl (cc)

pub chosen : {A : Type 0} (b : Bool) (x y z : A) → cond b x y ≡ z → ((b ≡ true) × (x ≡ z)) ⊎ ((b ≡ false) × (y ≡ z))
chosen true x y z e = inl (refl, e)
chosen false x y z e = inr (refl, e)

pub either_bool : (b : Bool) → (b ≡ true) ⊎ (b ≡ false)
either_bool true = inl refl
either_bool false = inr refl

pub not_both : {A : Type 0} (b : Bool) → b ≡ true → b ≡ false → A
not_both b e f = absurd (cc)

pub first_same : {T : Type 0} (s r r' : List T) → first r' ≡ first r → first (s ++ r') ≡ first (s ++ r)
first_same [] r r' e = e
first_same (t ∷ s) r r' e = refl

pub none_first : {T : Type 0} (r : List T) → first r ≡ None → r ≡ []
none_first [] e = refl
none_first (t ∷ r) e = absurd (cc)

-- ---- one token

pub one_sound : {T : Type 0} (F : Option T → Bool) (passes : T → Bool) → ((o : Option T) → F o ≡ true) → Sound F (one passes) (One passes)
one_sound F passes all [] a rest e = absurd (cc)
one_sound F passes all (t ∷ ts) a rest e =
    ⊎_elim (λ h. (t ∷ [], let f : ts ≡ rest = cc in ap (λ r. t ∷ r) f, (let f : t ≡ a = cc in ap (λ x. x ∷ []) f, let f : t ≡ a = cc in sym (ap passes f) ∙ h.0), all (first rest)))
    (λ h. absurd (cc)) (chosen (passes t) (Got t ts) (Bad Syntax (t ∷ ts)) (Got a rest) e)

pub one_complete : {T : Type 0} (F : Option T → Bool) (passes : T → Bool) → Complete F (one passes) (One passes)
one_complete F passes u a rest r f = rw (r.0) (rw (r.1) refl)

-- ---- one phrase and then another

-- what may follow the first allows all that can come: the second, or what follows it
abbrev pub Leads : {T B : Type 0} → (Option T → Bool) → (Option T → Bool) → Phrase T B → Type 0
Leads {T = T} {B = B} F G S = (v : List T) (b : B) (rest : List T) → S v b → G (first rest) ≡ true → F (first (v ++ rest)) ≡ true

-- Sound where what may follow the first comes first
abbrev pub SoundAfter : {T A : Type 0} → (Option T → Bool) → (Option T → Bool) → Reader T A → Phrase T A → Type 0
SoundAfter {T = T} {A = A} F G p R = (ts : List T) (a : A) (rest : List T) → F (first ts) ≡ true → p ts ≡ Got a rest → (u : List T) × (ts ≡ u ++ rest) × R u a × (G (first rest) ≡ true)

pub both_sound : {T A B : Type 0} (F G : Option T → Bool) (p : Reader T A) (q : Reader T B) (R : Phrase T A) (S : Phrase T B) → Sound F p R → SoundAfter F G q S → Sound G (both p q) (Both R S)
both_sound F G p q R S sp sq ts ab rest e =
    let x = got (p ts) (λ a mid. and_then (q mid) (λ b r. Got (a, b) r)) ab rest e in
    let y = got (q x.1) (λ b r. Got (x.0, b) r) ab rest x.3 in
    let u = sp ts x.0 x.1 x.2 in
    let v = sq x.1 y.0 y.1 u.3 y.2 in
    let same : ab ≡ (x.0, y.0) = cc in
    let last : y.1 ≡ rest = cc in
    let split : ts ≡ (u.0 ++ v.0) ++ rest = u.1 ∙ ap (λ r. u.0 ++ r) (v.1 ∙ ap (λ r. v.0 ++ r) last) ∙ sym (append_assoc u.0 v.0 rest) in
    let both_are : Both R S (u.0 ++ v.0) ab = subst (λ z. Both R S (u.0 ++ v.0) z) (sym same) (u.0, v.0, refl, u.2, v.2) in
    let after : G (first rest) ≡ true = subst (λ z. G (first z) ≡ true) last v.3 in
    (u.0 ++ v.0, split, both_are, after)

pub both_complete : {T A B : Type 0} (F G : Option T → Bool) (p : Reader T A) (q : Reader T B) (R : Phrase T A) (S : Phrase T B) → Leads F G S → Complete F p R → Complete G q S → Complete G (both p q) (Both R S)
both_complete F G p q R S l kp kq w ab rest r f =
    let one_read : p (r.0 ++ (r.1 ++ rest)) ≡ Got ab.0 (r.1 ++ rest) = kp r.0 ab.0 (r.1 ++ rest) r.3 (l r.1 ab.1 rest r.4 f) in
    let two_read : q (r.1 ++ rest) ≡ Got ab.1 rest = kq r.1 ab.1 rest r.4 f in
    let regroup : w ++ rest ≡ r.0 ++ (r.1 ++ rest) = ap (λ z. z ++ rest) r.2 ∙ append_assoc r.0 r.1 rest in
    ap (both p q) regroup ∙ ap (λ o. and_then o (λ a mid. and_then (q mid) (λ b z. Got (a, b) z))) one_read ∙ ap (λ o. and_then o (λ b z. Got (ab.0, b) z)) two_read

pub both_within : {T A B : Type 0} (R R' : Phrase T A) (S S' : Phrase T B) → Within R R' → Within S S' → Within (Both R S) (Both R' S')
both_within R R' S S' f g w ab r = (r.0, r.1, r.2, f r.0 ab.0 r.3, g r.1 ab.1 r.4)

-- some word of a phrase
abbrev pub Some_word : {T A : Type 0} → Phrase T A → Type 0
Some_word {T = T} {A = A} R = (u : List T) × (a : A) × R u a

module _ {T A B : Type 0} (F : Option T → Bool) (c : GrammarFault) (p p' : Reader T A) (q q' : Reader T B) (R R' R⁺ : Phrase T A) (S S⁺ : Phrase T B) where
  both_stops_second : (ts : List T) → SoundAt F p R ts → Within R R' → Complete F p' R' → Within R R⁺ → Stopping c q q' S S⁺ → (rest : List T) (a : A) (mid : List T) → p ts ≡ Got a mid → q mid ≡ Bad c rest → Stops c (both p' q') (Both R S) (Both R⁺ S⁺) ts rest
  both_stops_second ts sp w kp up hq rest a mid e f =
      let u = sp a mid e in
      let s = hq mid rest f in
      let split : ts ≡ (u.0 ++ s.seen) ++ rest = u.1 ∙ ap (λ r. u.0 ++ r) s.split ∙ sym (append_assoc u.0 s.seen rest) in
      let alive : Both R S ((u.0 ++ s.seen) ++ s.more) (a, s.value) = (u.0, s.seen ++ s.more, append_assoc u.0 s.seen s.more, u.2, s.alive) in
      record {
        seen = u.0 ++ s.seen;
        split = split;
        more = s.more;
        value = (a, s.value);
        alive = alive;
        deeper = λ k. let d = s.deeper k in
            record { token = d.token; after = d.after; is = d.is; more = d.more; value = (a, d.value); alive = (u.0, s.seen ++ d.token ∷ d.more, append_assoc u.0 s.seen (d.token ∷ d.more), up u.0 a u.2, d.alive) };
        again = λ rest' same.
            let here : first (s.seen ++ rest') ≡ first mid = first_same s.seen rest rest' same ∙ ap first (sym s.split) in
            let may : F (first (s.seen ++ rest')) ≡ true = ap F here ∙ u.3 in
            let one_read : p' (u.0 ++ (s.seen ++ rest')) ≡ Got a (s.seen ++ rest') = kp u.0 a (s.seen ++ rest') (w u.0 a u.2) may in
            ap (both p' q') (append_assoc u.0 s.seen rest') ∙ ap (λ o. and_then {B = A × B} o (λ x m. and_then {B = A × B} (q' m) (λ y z. Got (x, y) z))) one_read ∙ ap (λ o. and_then {B = A × B} o (λ y z. Got (a, y) z)) (s.again rest' same);
      }

  both_stops_first : Some_word S⁺ → Some_word S → Stopping c p p' R R⁺ → (ts rest : List T) → p ts ≡ Bad c rest → Stops c (both p' q') (Both R S) (Both R⁺ S⁺) ts rest
  both_stops_first some⁺ some hp ts rest h =
      let s = hp ts rest h in
      let alive : Both R S (s.seen ++ (s.more ++ some.0)) (s.value, some.1) = (s.seen ++ s.more, some.0, sym (append_assoc s.seen s.more some.0), s.alive, some.2) in
      record {
        seen = s.seen;
        split = s.split;
        more = s.more ++ some.0;
        value = (s.value, some.1);
        alive = alive;
        deeper = λ k. let d = s.deeper k in
            record { token = d.token; after = d.after; is = d.is; more = d.more ++ some⁺.0; value = (d.value, some⁺.1); alive = (s.seen ++ d.token ∷ d.more, some⁺.0, sym (append_assoc s.seen (d.token ∷ d.more) some⁺.0), d.alive, some⁺.2) };
        again = λ rest' same. ap (λ o. and_then {B = A × B} o (λ a mid. and_then {B = A × B} (q' mid) (λ b z. Got (a, b) z))) (s.again rest' same);
      }

  -- at tokens of which the first part is sound
  pub both_stops_at : (ts : List T) → SoundAt F p R ts → Within R R' → Complete F p' R' → Some_word S⁺ → Some_word S → Stopping c p p' R R⁺ → Within R R⁺ → Stopping c q q' S S⁺ → (rest : List T) → both p q ts ≡ Bad c rest → Stops c (both p' q') (Both R S) (Both R⁺ S⁺) ts rest
  both_stops_at ts sp w kp some⁺ some hp up hq rest e =
      ⊎_elim (λ h. both_stops_first some⁺ some hp ts rest h)
      (λ h. ⊎_elim (λ f. both_stops_second ts sp w kp up hq rest h.0 h.1 h.2 f) (λ x. absurd (cc))
      (bad {B = A × B} (q h.1) (λ b z. Got (h.0, b) z) c rest h.3))
      (bad {B = A × B} (p ts) (λ a mid. and_then (q mid) (λ b z. Got (a, b) z)) c rest e)

  pub both_stops : Sound F p R → Within R R' → Complete F p' R' → Some_word S⁺ → Some_word S → Stopping c p p' R R⁺ → Within R R⁺ → Stopping c q q' S S⁺ → Stopping c (both p q) (both p' q') (Both R S) (Both R⁺ S⁺)
  both_stops sp w kp some⁺ some hp up hq ts rest e = both_stops_at ts (sp ts) w kp some⁺ some hp up hq rest e

-- ---- what is made of a phrase

module _ {T A B : Type 0} (f : A → B) (F : Option T → Bool) (p p' : Reader T A) (R R⁺ : Phrase T A) where
  pub made_sound : Sound F p R → Sound F (made f p) (Made f R)
  made_sound sp ts b rest e =
      let x = got (p ts) (λ a z. Got (f a) z) b rest e in
      let u = sp ts x.0 x.1 x.2 in
      let last : x.1 ≡ rest = cc in
      let is : b ≡ f x.0 = cc in
      (u.0, u.1 ∙ ap (λ r. u.0 ++ r) last, (x.0, u.2, is), subst (λ z. F (first z) ≡ true) last u.3)

  pub made_complete : Complete F p R → Complete F (made f p) (Made f R)
  made_complete kp u b rest r h =
      ap (λ o. and_then o (λ a z. Got (f a) z)) (kp u r.0 rest r.1 h) ∙ ap (λ v. Got v rest) (sym r.2)

  pub made_stops : (c : GrammarFault) → Stopping c p p' R R⁺ → Stopping c (made f p) (made f p') (Made f R) (Made f R⁺)
  made_stops c hp ts rest e =
      ⊎_elim (λ h. let s = hp ts rest h in
      record {
        seen = s.seen;
        split = s.split;
        more = s.more;
        value = f s.value;
        alive = (s.value, s.alive, refl);
        deeper = λ k. let d = s.deeper k in record { token = d.token; after = d.after; is = d.is; more = d.more; value = f d.value; alive = (d.value, d.alive, refl) };
        again = λ rest' same. ap (λ o. and_then {B = B} o (λ a z. Got (f a) z)) (s.again rest' same);
      })
      (λ h. absurd (cc)) (bad {B = B} (p ts) (λ a z. Got (f a) z) c rest e)

pub made_within : {T A B : Type 0} (f : A → B) (R R' : Phrase T A) → Within R R' → Within (Made f R) (Made f R')
made_within f R R' w u b r = (r.0, w u r.0 r.1, r.2)

-- ---- one of two phrases, by the next token

-- The test tells them apart: it is b at whatever begins the phrase.
abbrev pub Begins : {T A : Type 0} → (Option T → Bool) → Bool → (Option T → Bool) → Phrase T A → Type 0
Begins {T = T} {A = A} test b F R = (u : List T) (a : A) (rest : List T) → R u a → F (first rest) ≡ true → test (first (u ++ rest)) ≡ b

module _ {T A : Type 0} (test : Option T → Bool) (F : Option T → Bool) (p p' q q' : Reader T A) (R R⁺ S S⁺ : Phrase T A) where
  pub either_sound : Sound F p R → Sound F q S → Sound F (either test p q) (Either R S)
  either_sound sp sq ts a rest e =
      ⊎_elim (λ h. let u = sp ts a rest h.1 in (u.0, u.1, inl u.2, u.3)) (λ h. let u = sq ts a rest h.1 in (u.0, u.1, inr u.2, u.3))
      (chosen (test (first ts)) (p ts) (q ts) (Got a rest) e)

  pub either_complete : Begins test true F R → Begins test false F S → Complete F p R → Complete F q S → Complete F (either test p q) (Either R S)
  either_complete br bs kp kq u a rest r f =
      ⊎_elim (λ h. ap (λ b. cond b (p (u ++ rest)) (q (u ++ rest))) (br u a rest h f) ∙ kp u a rest h f)
      (λ h. ap (λ b. cond b (p (u ++ rest)) (q (u ++ rest))) (bs u a rest h f) ∙ kq u a rest h f) r

  either_again : (b : Bool) (c : GrammarFault) (seen rest rest' : List T) → test (first (seen ++ rest)) ≡ b → first rest' ≡ first rest → cond b (p' (seen ++ rest')) (q' (seen ++ rest')) ≡ Bad c rest' → either test p' q' (seen ++ rest') ≡ Bad c rest'
  either_again b c seen rest rest' t same e =
      ap (λ x. cond x (p' (seen ++ rest')) (q' (seen ++ rest'))) (ap test (first_same seen rest rest' same) ∙ t) ∙ e

  pub either_stops : (c : GrammarFault) → Stopping c p p' R R⁺ → Stopping c q q' S S⁺ → Stopping c (either test p q) (either test p' q') (Either R S) (Either R⁺ S⁺)
  either_stops c hp hq ts rest e =
      ⊎_elim
      (λ h. let s = hp ts rest h.1 in
      let t : test (first (s.seen ++ rest)) ≡ true = ap (λ z. test (first z)) (sym s.split) ∙ h.0 in
      record {
        seen = s.seen;
        split = s.split;
        more = s.more;
        value = s.value;
        alive = inl s.alive;
        deeper = λ k. let d = s.deeper k in record { token = d.token; after = d.after; is = d.is; more = d.more; value = d.value; alive = inl d.alive };
        again = λ rest' same. either_again true c s.seen rest rest' t same (s.again rest' same);
      })
      (λ h. let s = hq ts rest h.1 in
      let t : test (first (s.seen ++ rest)) ≡ false = ap (λ z. test (first z)) (sym s.split) ∙ h.0 in
      record {
        seen = s.seen;
        split = s.split;
        more = s.more;
        value = s.value;
        alive = inr s.alive;
        deeper = λ k. let d = s.deeper k in record { token = d.token; after = d.after; is = d.is; more = d.more; value = d.value; alive = inr d.alive };
        again = λ rest' same. either_again false c s.seen rest rest' t same (s.again rest' same);
      })
      (chosen (test (first ts)) (p ts) (q ts) (Bad c rest) e)

pub either_within : {T A : Type 0} (R R' S S' : Phrase T A) → Within R R' → Within S S' → Within (Either R S) (Either R' S')
either_within R R' S S' f g u a r = ⊎_elim (λ h. inl (f u a h)) (λ h. inr (g u a h)) r

-- ---- one token, where it is missing

pub one_again : {T : Type 0} (passes : T → Bool) (c : GrammarFault) (ts rest rest' : List T) → one passes ts ≡ Bad c rest → first rest' ≡ first ts → one passes rest' ≡ Bad c rest'
one_again passes c [] rest [] e same = let f : Syntax ≡ c = cc in ap (λ x. Bad x []) f
one_again passes c [] rest (b ∷ r) e same = absurd (cc)
one_again passes c (a ∷ ts) rest [] e same = absurd (cc)
one_again passes c (a ∷ ts) rest (b ∷ r) e same =
    let f : b ≡ a = cc in
    ⊎_elim (λ h. absurd (cc)) (λ h. let k : Syntax ≡ c = cc in
    ap (λ x. cond x (Got b r) (Bad Syntax (b ∷ r))) (ap passes f ∙ h.0) ∙ ap (λ x. Bad x (b ∷ r)) k)
    (chosen (passes a) (Got a ts) (Bad Syntax (a ∷ ts)) (Bad c rest) e)

pub one_whole : {T : Type 0} (passes : T → Bool) (c : GrammarFault) (ts rest : List T) → one passes ts ≡ Bad c rest → ts ≡ rest
one_whole passes c [] rest e = cc
one_whole passes c (a ∷ ts) rest e = ⊎_elim (λ h. absurd (cc)) (λ h. cc) (chosen (passes a) (Got a ts) (Bad Syntax (a ∷ ts)) (Bad c rest) e)

pub not_deep : {T X : Type 0} (passes : T → Bool) (c : GrammarFault) (ts rest : List T) → one passes ts ≡ Bad c rest → c ≡ TooDeep → X
not_deep passes c [] rest e k = absurd (cc)
not_deep passes c (a ∷ ts) rest e k = absurd (⊎_elim (λ h. cc) (λ h. cc) (chosen (passes a) (Got a ts) (Bad Syntax (a ∷ ts)) (Bad c rest) e))

pub one_stops : {T : Type 0} (c : GrammarFault) (passes : T → Bool) (t : T) → passes t ≡ true → Stopping c (one passes) (one passes) (One passes) (One passes)
one_stops c passes t is ts rest e =
    record {
      seen = [];
      split = one_whole passes c ts rest e;
      more = t ∷ [];
      value = t;
      alive = (refl, is);
      deeper = λ k. not_deep passes c ts rest e k;
      again = λ rest' same. one_again passes c ts rest rest' e (same ∙ sym (ap first (one_whole passes c ts rest e)));
    }

-- ---- any number of phrases, by the next token

pub and_parts : (a b : Bool) → (a && not b) ≡ true → (a ≡ true) × (b ≡ false)
and_parts true true e = absurd (cc)
and_parts true false e = (refl, refl)
and_parts false b e = absurd (cc)

pub and_whole : (a b : Bool) → a ≡ true → b ≡ false → (a && not b) ≡ true
and_whole a b e f = rw (e) (rw (f) refl)

-- what may follow a list: what may follow its last member, and begins none
abbrev pub Ends : {T : Type 0} → (Option T → Bool) → (Option T → Bool) → Option T → Bool
Ends F test o = F o && not (test o)

module _ {T A : Type 0} (test F : Option T → Bool) (p p' : Reader T A) (R R' R⁺ : Phrase T A) (end : test None ≡ false) (on : (o : Option T) → test o ≡ true → F o ≡ true) where
  no_more : (x : List T) → length x ≤ 0 → test (first x) ≡ true → ⊥
  no_more [] h e = not_both (test None) e end
  no_more (t ∷ x) h e = omega arith

  filled : (R1 : Phrase T A) → Begins test true (λ _. true) R1 → (u : List T) (a : A) → R1 u a → 1 ≤ length u
  filled R1 b [] a r = not_both (test None) (b [] a [] r refl) end
  filled R1 b (t ∷ u) a r = omega arith

  finished : (ts : List T) (found : List A) (rest : List T) → test (first ts) ≡ false → F (first ts) ≡ true → Got [] ts ≡ Got found rest → (u : List T) × (ts ≡ u ++ rest) × Many R u found × (Ends F test (first rest) ≡ true)
  finished ts found rest t f e =
      let same : ts ≡ rest = cc in
      let none : [] ≡ found = cc in
      ([], same, subst (λ z. Many R [] z) none refl, subst (λ z. Ends F test (first z) ≡ true) same (and_whole (F (first ts)) (test (first ts)) f t))

  joined : (u v : List T) (a : A) (others found : List A) (ts mid rest r : List T) → ts ≡ u ++ mid → R u a → mid ≡ v ++ r → Many R v others → Ends F test (first r) ≡ true → Got (a ∷ others) r ≡ Got found rest → (w : List T) × (ts ≡ w ++ rest) × Many R w found × (Ends F test (first rest) ≡ true)
  joined u v a others found ts mid rest r e ra f m g h =
      let same : r ≡ rest = cc in
      let all : a ∷ others ≡ found = cc in
      let split : ts ≡ (u ++ v) ++ r = e ∙ ap (λ z. u ++ z) f ∙ sym (append_assoc u v r) in
      (u ++ v, split ∙ ap (λ z. (u ++ v) ++ z) same, subst (λ z. Many R (u ++ v) z) all (u, v, refl, ra, m), subst (λ z. Ends F test (first z) ≡ true) same g)

  shorter : (u mid ts : List T) → 1 ≤ length u → ts ≡ u ++ mid → (n : ℕ) → length ts ≤ suc n → length mid ≤ n
  shorter u mid ts h e n l = let k : length ts ≡ length u + length mid = ap length e ∙ length-append u mid in omega arith

  pub many_sound : Begins test true (λ _. true) R → Sound F p R → (n : ℕ) (ts : List T) (found : List A) (rest : List T) → length ts ≤ n → F (first ts) ≡ true → many_by n test p ts ≡ Got found rest → (u : List T) × (ts ≡ u ++ rest) × Many R u found × (Ends F test (first rest) ≡ true)
  many_sound b sp zero ts found rest fuel f e =
      ⊎_elim (λ t. absurd (no_more ts fuel t)) (λ t. finished ts found rest t f e) (either_bool (test (first ts)))
  many_sound b sp (suc n) ts found rest fuel f e =
      ⊎_elim
      (λ h. let x = got (p ts) (λ a mid. and_then (many_by n test p mid) (λ others z. Got (a ∷ others) z)) found rest h.1 in
      let y = got (many_by n test p x.1) (λ others z. Got (x.0 ∷ others) z) found rest x.3 in
      let u = sp ts x.0 x.1 x.2 in
      let v = many_sound b sp n x.1 y.0 y.1 (shorter u.0 x.1 ts (filled R b u.0 x.0 u.2) u.1 n fuel) u.3 y.2 in
      joined u.0 v.0 x.0 y.0 found ts x.1 rest y.1 u.1 u.2 v.1 v.2 v.3 y.3)
      (λ h. finished ts found rest h.0 f h.1)
      (chosen (test (first ts)) (and_then (p ts) (λ a mid. and_then (many_by n test p mid) (λ others z. Got (a ∷ others) z))) (Got [] ts) (Got found rest) e)

  -- what follows a member of a list may follow it
  pub follows : Begins test true (λ _. true) R → (v rest : List T) (others : List A) → Many R v others → Ends F test (first rest) ≡ true → F (first (v ++ rest)) ≡ true
  follows b v rest [] m g = rw (m) ((and_parts (F (first rest)) (test (first rest)) g).0)
  follows b v rest (a ∷ others) m g =
      on (first (v ++ rest)) (ap (λ z. test (first z)) (ap (λ z. z ++ rest) m.2 ∙ append_assoc m.0 m.1 rest) ∙ b m.0 a (m.1 ++ rest) m.3 refl)

  turn : (n : ℕ) (x : List T) (a : A) (mid : List T) (others : List A) (rest : List T) → test (first x) ≡ true → p x ≡ Got a mid → many_by n test p mid ≡ Got others rest → many_by (suc n) test p x ≡ Got (a ∷ others) rest
  turn n x a mid others rest t e f = rw (t) (rw (e) (rw (f) refl))

  pub many_complete : Begins test true (λ _. true) R → Complete F p R → (n : ℕ) (w : List T) (found : List A) (rest : List T) → length w ≤ n → Many R w found → Ends F test (first rest) ≡ true → many_by n test p (w ++ rest) ≡ Got found rest
  many_complete b kp zero w [] rest fuel m g = rw (m) refl
  many_complete b kp (suc n) w [] rest fuel m g =
      let t : test (first rest) ≡ false = (and_parts (F (first rest)) (test (first rest)) g).1 in
      rw (m) (rw (t) refl)
  many_complete b kp zero w (a ∷ others) rest fuel m g =
      let l : length w ≡ length m.0 + length m.1 = ap length m.2 ∙ length-append m.0 m.1 in
      let one_at_least : 1 ≤ length m.0 = filled R b m.0 a m.3 in
      absurd (omega arith)
  many_complete b kp (suc n) w (a ∷ others) rest fuel m g =
      let l : length w ≡ length m.0 + length m.1 = ap length m.2 ∙ length-append m.0 m.1 in
      let one_at_least : 1 ≤ length m.0 = filled R b m.0 a m.3 in
      let regroup : w ++ rest ≡ m.0 ++ (m.1 ++ rest) = ap (λ z. z ++ rest) m.2 ∙ append_assoc m.0 m.1 rest in
      let t : test (first (m.0 ++ (m.1 ++ rest))) ≡ true = b m.0 a (m.1 ++ rest) m.3 refl in
      let read : p (m.0 ++ (m.1 ++ rest)) ≡ Got a (m.1 ++ rest) = kp m.0 a (m.1 ++ rest) m.3 (follows b m.1 rest others m.4 g) in
      let others_read : many_by n test p (m.1 ++ rest) ≡ Got others rest = many_complete b kp n m.1 others rest (omega arith) m.4 g in
      ap (many_by (suc n) test p) regroup ∙ turn n (m.0 ++ (m.1 ++ rest)) a (m.1 ++ rest) others rest t read others_read

  -- a list stops where one of its members does
  record ListStops (c : GrammarFault) (ts rest : List T) : Type 0 where
    seen : List T
    split : ts ≡ seen ++ rest
    more : List T
    value : List A
    alive : Many R (seen ++ more) value
    deeper : c ≡ TooDeep → Deeper (Many R⁺) seen rest
    again : (n : ℕ) (rest' : List T) → length (seen ++ rest') ≤ n → first rest' ≡ first rest → many_by n test p' (seen ++ rest') ≡ Bad c rest'

  bad_here : (c : GrammarFault) (n : ℕ) (x r : List T) → length x ≤ n → test (first x) ≡ true → p' x ≡ Bad c r → many_by n test p' x ≡ Bad c r
  bad_here c zero x r l t e = absurd (no_more x l t)
  bad_here c (suc n) x r l t e = rw (t) (rw (e) refl)

  bad_later : (c : GrammarFault) (n : ℕ) (x : List T) (a : A) (mid r : List T) → length x ≤ n → (u : List T) → 1 ≤ length u → x ≡ u ++ mid → test (first x) ≡ true → p' x ≡ Got a mid → ((m : ℕ) → length mid ≤ m → many_by m test p' mid ≡ Bad c r) → many_by n test p' x ≡ Bad c r
  bad_later c zero x a mid r l u k d t e h = absurd (no_more x l t)
  bad_later c (suc n) x a mid r l u k d t e h = rw (t) (rw (e) (rw (h n (shorter u mid x k d n l)) refl))

  stops_here : (c : GrammarFault) (ts rest : List T) → test (first ts) ≡ true → Stops c p' R R⁺ ts rest → ListStops c ts rest
  stops_here c ts rest t s =
      record {
        seen = s.seen;
        split = s.split;
        more = s.more;
        value = s.value ∷ [];
        alive = (s.seen ++ s.more, [], sym (append-nil (s.seen ++ s.more)), s.alive, refl);
        deeper = λ k. let d = s.deeper k in record { token = d.token; after = d.after; is = d.is; more = d.more; value = d.value ∷ []; alive = (s.seen ++ d.token ∷ d.more, [], sym (append-nil (s.seen ++ d.token ∷ d.more)), d.alive, refl) };
        again = λ n rest' l same. bad_here c n (s.seen ++ rest') rest' l (ap test (first_same s.seen rest rest' same ∙ ap first (sym s.split)) ∙ t) (s.again rest' same);
      }

  stops_later : (c : GrammarFault) (ts rest : List T) (u : List T) (a : A) (mid : List T) → test (first ts) ≡ true → 1 ≤ length u → ts ≡ u ++ mid → R u a → F (first mid) ≡ true → Within R R' → Complete F p' R' → Within R R⁺ → ListStops c mid rest → ListStops c ts rest
  stops_later c ts rest u a mid t k d ra f w kp up s =
      let split : ts ≡ (u ++ s.seen) ++ rest = d ∙ ap (λ z. u ++ z) s.split ∙ sym (append_assoc u s.seen rest) in
      record {
        seen = u ++ s.seen;
        split = split;
        more = s.more;
        value = a ∷ s.value;
        alive = (u, s.seen ++ s.more, append_assoc u s.seen s.more, ra, s.alive);
        deeper = λ k. let d = s.deeper k in record { token = d.token; after = d.after; is = d.is; more = d.more; value = a ∷ d.value; alive = (u, s.seen ++ d.token ∷ d.more, append_assoc u s.seen (d.token ∷ d.more), up u a ra, d.alive) };
        again = λ n rest' l same.
            let here : first (s.seen ++ rest') ≡ first mid = first_same s.seen rest rest' same ∙ ap first (sym s.split) in
            let read : p' (u ++ (s.seen ++ rest')) ≡ Got a (s.seen ++ rest') = kp u a (s.seen ++ rest') (w u a ra) (ap F here ∙ f) in
            let regroup : (u ++ s.seen) ++ rest' ≡ u ++ (s.seen ++ rest') = append_assoc u s.seen rest' in
            let tested : test (first (u ++ (s.seen ++ rest'))) ≡ true = ap (λ z. test (first z)) (sym regroup) ∙ ap test (first_same (u ++ s.seen) rest rest' same ∙ ap first (sym split)) ∙ t in
            ap (many_by n test p') regroup ∙ bad_later c n (u ++ (s.seen ++ rest')) a (s.seen ++ rest') rest' (subst (λ z. length z ≤ n) regroup l) u k refl tested read (λ m h. s.again m rest' h same);
      }

  list_stops : (c : GrammarFault) → Begins test true (λ _. true) R → Sound F p R → Within R R' → Complete F p' R' → Within R R⁺ → Stopping c p p' R R⁺ → (n : ℕ) (ts rest : List T) → many_by n test p ts ≡ Bad c rest → ListStops c ts rest
  list_stops c b sp w kp up hp zero ts rest e = absurd (cc)
  list_stops c b sp w kp up hp (suc n) ts rest e =
      ⊎_elim
      (λ h. ⊎_elim (λ x. stops_here c ts rest h.0 (hp ts rest x))
      (λ x. ⊎_elim
      (λ y. let u = sp ts x.0 x.1 x.2 in
      stops_later c ts rest u.0 x.0 x.1 h.0 (filled R b u.0 x.0 u.2) u.1 u.2 u.3 w kp up (list_stops c b sp w kp up hp n x.1 rest y))
      (λ y. absurd (cc))
      (bad {B = List A} (many_by n test p x.1) (λ others z. Got (x.0 ∷ others) z) c rest x.3))
      (bad {B = List A} (p ts) (λ a mid. and_then (many_by n test p mid) (λ others z. Got (a ∷ others) z)) c rest h.1))
      (λ h. absurd (cc))
      (chosen (test (first ts)) (and_then {B = List A} (p ts) (λ a mid. and_then (many_by n test p mid) (λ others z. Got (a ∷ others) z))) (Got [] ts) (Bad c rest) e)

  pub many_stops : (c : GrammarFault) → Begins test true (λ _. true) R → Sound F p R → Within R R' → Complete F p' R' → Within R R⁺ → Stopping c p p' R R⁺ → Stopping c (many test p) (many test p') (Many R) (Many R⁺)
  many_stops c b sp w kp up hp ts rest e =
      let s = list_stops c b sp w kp up hp (length ts) ts rest e in
      record { seen = s.seen; split = s.split; more = s.more; value = s.value; alive = s.alive; deeper = s.deeper; again = λ rest' same. s.again (length (s.seen ++ rest')) rest' (omega arith) same }

pub many_within : {T A : Type 0} (R S : Phrase T A) → Within R S → (u : List T) (found : List A) → Many R u found → Many S u found
many_within R S w u [] m = m
many_within R S w u (a ∷ others) m = (m.0, m.1, m.2, w m.0 a m.3, many_within R S w m.1 others m.4)
