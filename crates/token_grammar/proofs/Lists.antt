-- Lists of items that a token ends. An item may be followed by all that begins an item and by that token, but not by any token.
use Rattle.std.proofs.Common.{◌≡◌, Bool, true, false, List, [], ◌∷◌, ◌++◌, length, Option, Some, None, refl, sym, ap, ◌∙◌, ⊎_elim, arith, length-append}
use Rattle.token_grammar.specs.declared.fault.GrammarFault.{GrammarFault}
use Rattle.token_grammar.specs.Phrases.{Phrase, One, Both, Many}
use Rattle.token_grammar.specs.Readers.{Got, Bad, Reader, first, and_then, one, both, many}
use Rattle.token_grammar.proofs.Parts.{Sound, Complete, Stops, Stopping, Within, Begins, Ends, Leads, bad, either_bool, one_sound, one_complete, one_stops, one_again, one_whole, not_deep, both_sound, both_complete, both_stops_at, both_within, many_sound, many_complete, many_stops, many_within}
use Rattle.token_grammar.proofs.Steps.{any, Exact, Step}

-- where no item begins, none is read
nothing_read : {T A : Type 0} (test : Option T → Bool) (p : Reader T A) (ts : List T) → test (first ts) ≡ false → many test p ts ≡ Got [] ts
nothing_read test p [] t = refl
nothing_read test p (a ∷ ts) t = rw (t) refl

module _ {T A : Type 0} (test F : Option T → Bool) (passes : T → Bool) (last : T) (end : test None ≡ false) (on : (o : Option T) → test o ≡ true → F o ≡ true) (ending : (t : T) → passes t ≡ true → Ends F test (Some t) ≡ true) (is : passes last ≡ true) where
  items_complete : (p : Reader T A) (R : Phrase T A) → Begins test true any R → Complete F p R → Complete (Ends F test) (many test p) (Many R)
  items_complete p R b k u found rest r f = many_complete test F p p R R R end on b k (length (u ++ rest)) u found rest (omega (arith, length-append u rest)) r f

  exact_until : (p : Reader T A) (R : Phrase T A) → Begins test true any R → Exact F p R → Exact any (both (many test p) (one passes)) (Both (Many R) (One passes))
  exact_until p R b x =
      let weak : Sound any p R = λ ts a rest e. let u = x.sound ts a rest e in (u.0, u.1, u.2, refl) in
      let items : Sound (Ends any test) (many test p) (Many R) = λ ts found rest e. many_sound test any p p R R R end (λ o h. refl) b weak (length ts) ts found rest (omega arith) refl e in
      let leads : Leads (Ends F test) any (One passes) = λ v t rest r g. ap (λ z. Ends F test (first (z ++ rest))) r.0 ∙ ending t r.1 in
      record {
        sound = both_sound (Ends any test) any (many test p) (one passes) (Many R) (One passes) items (λ ts a rest h e. one_sound any passes (λ o. refl) ts a rest e);
        complete = both_complete (Ends F test) any (many test p) (one passes) (Many R) (One passes) leads (items_complete p R b x.complete) (one_complete any passes);
        some = (last ∷ [], ([], last), ([], last ∷ [], refl, refl, (refl, is)));
      }

  module _ (c : GrammarFault) (p p' : Reader T A) (R R' R⁺ : Phrase T A) where
    -- no item begins, and the token is not the last one
    missing : (ts rest : List T) → test (first ts) ≡ false → one passes ts ≡ Bad c rest → Stops c (both (many test p') (one passes)) (Both (Many R) (One passes)) (Both (Many R⁺) (One passes)) ts rest
    missing ts rest t e =
        let whole : ts ≡ rest = one_whole passes c ts rest e in
        record {
          seen = [];
          split = whole;
          more = last ∷ [];
          value = ([], last);
          alive = ([], last ∷ [], refl, refl, (refl, is));
          deeper = λ k. not_deep passes c ts rest e k;
          again = λ rest' same.
              let tested : test (first rest') ≡ false = ap test (same ∙ ap first (sym whole)) ∙ t in
              ap (λ o. and_then {B = List A × T} o (λ found mid. and_then {B = List A × T} (one passes mid) (λ l z. Got (found, l) z))) (nothing_read test p' rest' tested)
              ∙ ap (λ o. and_then {B = List A × T} o (λ l z. Got ([], l) z)) (one_again passes c ts rest rest' e (same ∙ sym (ap first whole)));
        }

    until_stops : Begins test true any R → Begins test true any R' → Sound F p R → Within R R' → Complete F p' R' → Within R R⁺ → Stopping c p p' R R⁺ → Stopping c (both (many test p) (one passes)) (both (many test p') (one passes)) (Both (Many R) (One passes)) (Both (Many R⁺) (One passes))
    until_stops b b' s w k up h ts rest e = ⊎_elim (λ t. later t) (λ t. here t) (either_bool (test (first ts)))
      where
        later : test (first ts) ≡ true → Stops c (both (many test p') (one passes)) (Both (Many R) (One passes)) (Both (Many R⁺) (One passes)) ts rest
        later t =
            both_stops_at (Ends F test) c (many test p) (many test p') (one passes) (one passes) (Many R) (Many R') (Many R⁺) (One passes) (One passes) ts
            (λ found r f. many_sound test F p p R R R end on b s (length ts) ts found r (omega arith) (on (first ts) t) f)
            (many_within R R' w) (items_complete p' R' b' k) (last ∷ [], last, (refl, is)) (last ∷ [], last, (refl, is))
            (many_stops test F p p' R R' R⁺ end on c b s w k up h) (many_within R R⁺ up) (one_stops c passes last is) rest e

        here : test (first ts) ≡ false → Stops c (both (many test p') (one passes)) (Both (Many R) (One passes)) (Both (Many R⁺) (One passes)) ts rest
        here t =
            let none : and_then {B = List A × T} (one passes ts) (λ l z. Got ([], l) z) ≡ Bad c rest =
            sym (ap (λ o. and_then {B = List A × T} o (λ found mid. and_then {B = List A × T} (one passes mid) (λ l z. Got (found, l) z))) (nothing_read test p ts t)) ∙ e in
            ⊎_elim (λ f. missing ts rest t f) (λ f. absurd (cc)) (bad {B = List A × T} (one passes ts) (λ l z. Got ([], l) z) c rest none)

-- items, and then the token that ends them
module _ {T A : Type 0} {c : GrammarFault} {F : Option T → Bool} {p p' : Reader T A} {R R' R⁺ : Phrase T A} where
  pub step_until : (test : Option T → Bool) (passes : T → Bool) (last : T) → test None ≡ false → ((o : Option T) → test o ≡ true → F o ≡ true) → ((t : T) → passes t ≡ true → Ends F test (Some t) ≡ true) → passes last ≡ true
      → Begins test true any R → Begins test true any R' → Step c F p p' R R' R⁺ → Step c any (both (many test p) (one passes)) (both (many test p') (one passes)) (Both (Many R) (One passes)) (Both (Many R') (One passes)) (Both (Many R⁺) (One passes))
  step_until test passes last end on ending is b b' x = record {
    low = exact_until test F passes last end on ending is p R b x.low;
    high = exact_until test F passes last end on ending is p' R' b' x.high;
    within = both_within (Many R) (Many R') (One passes) (One passes) (many_within R R' x.within) (λ u t r. r);
    up = both_within (Many R) (Many R⁺) (One passes) (One passes) (many_within R R⁺ x.up) (λ u t r. r);
    stops = until_stops test F passes last end on ending is c p p' R R' R⁺ b b' x.low.sound x.within x.high.complete x.up x.stops;
  }
