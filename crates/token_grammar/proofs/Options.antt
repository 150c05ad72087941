-- Parts that may be left out, and parts behind which some tokens may not stand.
use Rattle.std.proofs.Common.{◌≡◌, Bool, true, cond, List, [], ◌++◌, Option, Some, None, refl, sym, ap, ◌∙◌, subst, ⊎_elim, append-nil}
use Rattle.token_grammar.specs.declared.fault.GrammarFault.{GrammarFault}
use Rattle.token_grammar.specs.declared.fault.GrammarFault.TheVariants.{Syntax}
use Rattle.token_grammar.specs.Phrases.{Phrase, Both, Maybe}
use Rattle.token_grammar.specs.Readers.{Read, Got, Bad, Reader, first, and_then, both, maybe, closed}
use Rattle.token_grammar.proofs.Parts.{Sound, SoundAfter, Complete, Stops, Stopping, Within, Begins, Ends, Leads, chosen, got, bad, first_same, and_parts, and_whole, both_sound, both_complete, both_stops, both_within}
use Rattle.token_grammar.proofs.Steps.{any, Exact, Step}

-- ---- what may not be followed by a token of the test

module _ {T A : Type 0} (test F : Option T → Bool) (p p' : Reader T A) (R R' R⁺ : Phrase T A) where
  closed_sound : Sound F p R → Sound (Ends F test) (closed test p) R
  closed_sound s ts a rest e =
      let x = got (p ts) (λ b r. cond (test (first r)) (Bad Syntax r) (Got b r)) a rest e in
      ⊎_elim (λ h. absurd (cc))
      (λ h. let u = s ts x.0 x.1 x.2 in
      let value : x.0 ≡ a = let g = h.1 in cc in
      let last : x.1 ≡ rest = let g = h.1 in cc in
      let after : Ends F test (first x.1) ≡ true = and_whole (F (first x.1)) (test (first x.1)) u.3 h.0 in
      (u.0, u.1 ∙ ap (λ z. u.0 ++ z) last, subst (R u.0) value u.2, subst (λ z. Ends F test (first z) ≡ true) last after))
      (chosen (test (first x.1)) (Bad Syntax x.1) (Got x.0 x.1) (Got a rest) x.3)

  closed_complete : Complete F p R → Complete (Ends F test) (closed test p) R
  closed_complete k u a rest r f =
      ap (λ o. and_then {B = A} o (λ b z. cond (test (first z)) (Bad Syntax z) (Got b z))) (k u a rest r (and_parts (F (first rest)) (test (first rest)) f).0)
      ∙ ap (λ b. cond b (Bad Syntax rest) (Got a rest)) (and_parts (F (first rest)) (test (first rest)) f).1

  closed_late : (c : GrammarFault) (ts rest : List T) (a : A) (mid : List T) → Sound F p R → Within R R' → Complete F p' R' → p ts ≡ Got a mid → test (first mid) ≡ true → ◌≡◌ {A = Read T A} (Bad Syntax mid) (Bad c rest) → Stops c (closed test p') R R⁺ ts rest
  closed_late c ts rest a mid s w k e t g =
      let u = s ts a mid e in
      let same : mid ≡ rest = cc in
      let code : Syntax ≡ c = cc in
      record {
        seen = u.0;
        split = u.1 ∙ ap (λ z. u.0 ++ z) same;
        more = [];
        value = a;
        alive = subst (λ z. R z a) (sym (append-nil u.0)) u.2;
        deeper = λ d. absurd (cc);
        again = λ rest' h.
            let tested : test (first rest') ≡ true = ap test (h ∙ ap first (sym same)) ∙ t in
            ap (λ o. and_then {B = A} o (λ b z. cond (test (first z)) (Bad Syntax z) (Got b z))) (k u.0 a rest' (w u.0 a u.2) (ap F (h ∙ ap first (sym same)) ∙ u.3))
            ∙ ap (λ b. cond b (Bad Syntax rest') (Got a rest')) tested ∙ ap (λ z. Bad z rest') code;
      }

  closed_stops : (c : GrammarFault) → Sound F p R → Within R R' → Complete F p' R' → Stopping c p p' R R⁺ → Stopping c (closed test p) (closed test p') R R⁺
  closed_stops c s w k hp ts rest e =
      ⊎_elim
      (λ h. let x = hp ts rest h in
      record {
        seen = x.seen;
        split = x.split;
        more = x.more;
        value = x.value;
        alive = x.alive;
        deeper = x.deeper;
        again = λ rest' same. ap (λ o. and_then {B = A} o (λ b z. cond (test (first z)) (Bad Syntax z) (Got b z))) (x.again rest' same);
      })
      (λ h. ⊎_elim (λ g. closed_late c ts rest h.0 h.1 s w k h.2 g.0 g.1) (λ g. absurd (cc))
      (chosen (test (first h.1)) (Bad Syntax h.1) (Got h.0 h.1) (Bad c rest) h.3))
      (bad {B = A} (p ts) (λ b z. cond (test (first z)) (Bad Syntax z) (Got b z)) c rest e)

module _ {T A : Type 0} {c : GrammarFault} {F : Option T → Bool} {p p' : Reader T A} {R R' R⁺ : Phrase T A} where
  pub step_closed : (test : Option T → Bool) → Step c F p p' R R' R⁺ → Step c (Ends F test) (closed test p) (closed test p') R R' R⁺
  step_closed test x = record {
    low = record { sound = closed_sound test F p p R R R x.low.sound; complete = closed_complete test F p p R R R x.low.complete; some = x.low.some };
    high = record { sound = closed_sound test F p' p' R' R' R' x.high.sound; complete = closed_complete test F p' p' R' R' R' x.high.complete; some = x.high.some };
    within = x.within;
    up = x.up;
    stops = closed_stops test F p p' R R' R⁺ c x.low.sound x.within x.high.complete x.stops;
  }

-- ---- a phrase, or nothing

module _ {T A : Type 0} (test F : Option T → Bool) (p p' : Reader T A) (R R⁺ : Phrase T A) where
  maybe_sound : Sound (Ends F test) p R → SoundAfter F (Ends F test) (maybe test p) (Maybe R)
  maybe_sound s ts o rest may e =
      ⊎_elim
      (λ h. let x = got (p ts) (λ a z. Got (Some a) z) o rest h.1 in
      let u = s ts x.0 x.1 x.2 in
      let value : Some x.0 ≡ o = let g = x.3 in cc in
      let last : x.1 ≡ rest = let g = x.3 in cc in
      (u.0, u.1 ∙ ap (λ z. u.0 ++ z) last, subst (Maybe R u.0) value u.2, subst (λ z. Ends F test (first z) ≡ true) last u.3))
      (λ h. let value : None ≡ o = let g = h.1 in cc in
      let last : ts ≡ rest = let g = h.1 in cc in
      ([], last, subst (Maybe R []) value refl, subst (λ z. Ends F test (first z) ≡ true) last (and_whole (F (first ts)) (test (first ts)) may h.0)))
      (chosen (test (first ts)) (and_then (p ts) (λ a z. Got (Some a) z)) (Got None ts) (Got o rest) e)

  maybe_complete : Begins test true any R → Complete (Ends F test) p R → Complete (Ends F test) (maybe test p) (Maybe R)
  maybe_complete b k u None rest r f =
      ap (λ z. maybe test p (z ++ rest)) r ∙ ap (λ z. cond z (and_then (p rest) (λ a y. Got (Some a) y)) (Got None rest)) (and_parts (F (first rest)) (test (first rest)) f).1
  maybe_complete b k u (Some a) rest r f =
      ap (λ z. cond z (and_then (p (u ++ rest)) (λ x y. Got (Some x) y)) (Got None (u ++ rest))) (b u a rest r refl)
      ∙ ap (λ o. and_then o (λ x y. Got (Some x) y)) (k u a rest r f)

  maybe_stops : (c : GrammarFault) → Stopping c p p' R R⁺ → Stopping c (maybe test p) (maybe test p') (Maybe R) (Maybe R⁺)
  maybe_stops c hp ts rest e =
      ⊎_elim
      (λ h. ⊎_elim
      (λ g. let x = hp ts rest g in
      let t : test (first (x.seen ++ rest)) ≡ true = ap (λ z. test (first z)) (sym x.split) ∙ h.0 in
      record {
        seen = x.seen;
        split = x.split;
        more = x.more;
        value = Some x.value;
        alive = x.alive;
        deeper = λ d. let y = x.deeper d in record { token = y.token; after = y.after; is = y.is; more = y.more; value = Some y.value; alive = y.alive };
        again = λ rest' same.
            ap (λ z. cond z (and_then {B = Option A} (p' (x.seen ++ rest')) (λ a y. Got (Some a) y)) (Got None (x.seen ++ rest'))) (ap test (first_same x.seen rest rest' same) ∙ t)
            ∙ ap (λ o. and_then {B = Option A} o (λ a y. Got (Some a) y)) (x.again rest' same);
      })
      (λ g. absurd (cc))
      (bad {B = Option A} (p ts) (λ a z. Got (Some a) z) c rest h.1))
      (λ h. absurd (cc))
      (chosen (test (first ts)) (and_then {B = Option A} (p ts) (λ a z. Got (Some a) z)) (Got None ts) (Bad c rest) e)

maybe_within : {T A : Type 0} (R S : Phrase T A) → Within R S → Within (Maybe R) (Maybe S)
maybe_within R S w u None r = r
maybe_within R S w u (Some a) r = w u a r

module _ {T A : Type 0} {c : GrammarFault} {p p' : Reader T A} {R R' R⁺ : Phrase T A} where
  pub step_maybe : (test : Option T → Bool) → Begins test true any R → Begins test true any R' → Step c (Ends any test) p p' R R' R⁺ → Step c (Ends any test) (maybe test p) (maybe test p') (Maybe R) (Maybe R') (Maybe R⁺)
  step_maybe test b b' x = record {
    low = record { sound = λ ts o rest e. maybe_sound test any p p R R x.low.sound ts o rest refl e; complete = maybe_complete test any p p R R b x.low.complete; some = ([], None, refl) };
    high = record { sound = λ ts o rest e. maybe_sound test any p' p' R' R' x.high.sound ts o rest refl e; complete = maybe_complete test any p' p' R' R' b' x.high.complete; some = ([], None, refl) };
    within = maybe_within R R' x.within;
    up = maybe_within R R⁺ x.up;
    stops = maybe_stops test any p p' R R⁺ c x.stops;
  }

-- ---- a part, and then maybe another

-- what may follow the first part: what begins the second, or what may follow both
maybe_leads : {T B : Type 0} (test F : Option T → Bool) (S : Phrase T B) → ((o : Option T) → test o ≡ true → F o ≡ true) → Begins test true any S → Leads F (Ends F test) (Maybe S)
maybe_leads test F S on b v None rest m g = ap (λ z. F (first (z ++ rest))) m ∙ (and_parts (F (first rest)) (test (first rest)) g).0
maybe_leads test F S on b v (Some a) rest m g = on (first (v ++ rest)) (b v a rest m refl)

exact_and_maybe : {T A B : Type 0} (test F : Option T → Bool) (p : Reader T A) (q : Reader T B) (R : Phrase T A) (S : Phrase T B) → ((o : Option T) → test o ≡ true → F o ≡ true) → Begins test true any S → Exact F p R → Exact (Ends F test) q S → Exact (Ends F test) (both p (maybe test q)) (Both R (Maybe S))
exact_and_maybe test F p q R S on b x y = record {
  sound = both_sound F (Ends F test) p (maybe test q) R (Maybe S) x.sound (maybe_sound test F q q S S y.sound);
  complete = both_complete F (Ends F test) p (maybe test q) R (Maybe S) (maybe_leads test F S on b) x.complete (maybe_complete test F q q S S b y.complete);
  some = (x.some.0 ++ [], (x.some.1, None), (x.some.0, [], refl, x.some.2, refl));
}

module _ {T A B : Type 0} {c : GrammarFault} {F : Option T → Bool} {p p' : Reader T A} {q q' : Reader T B} {R R' R⁺ : Phrase T A} {S S' S⁺ : Phrase T B} where
  pub step_and_maybe : (test : Option T → Bool) → ((o : Option T) → test o ≡ true → F o ≡ true) → Begins test true any S → Begins test true any S' → Step c F p p' R R' R⁺ → Step c (Ends F test) q q' S S' S⁺ → Step c (Ends F test) (both p (maybe test q)) (both p' (maybe test q')) (Both R (Maybe S)) (Both R' (Maybe S')) (Both R⁺ (Maybe S⁺))
  step_and_maybe test on b b' x y = record {
    low = exact_and_maybe test F p q R S on b x.low y.low;
    high = exact_and_maybe test F p' q' R' S' on b' x.high y.high;
    within = both_within R R' (Maybe S) (Maybe S') x.within (maybe_within S S' y.within);
    up = both_within R R⁺ (Maybe S) (Maybe S⁺) x.up (maybe_within S S⁺ y.up);
    stops = both_stops F c p p' (maybe test q) (maybe test q') R R' R⁺ (Maybe S) (Maybe S⁺) x.low.sound x.within x.high.complete ([], None, refl) ([], None, refl) x.stops x.up
        (maybe_stops test F q q' S S⁺ c y.stops);
  }
