-- A loop reads a list: what was found before a turn, with the list that is still to be read, is the whole list.
use Rattle.std.proofs.Common.{◌≡◌, ℕ, zero, suc, ◌+◌, ◌<◌, ◌≤◌, Bool, true, false, cond, List, [], ◌∷◌, ◌++◌, length, Option, None, refl, sym, ap, ◌∙◌, ⊎_elim, arith, append_assoc, length-append, append-nil}
use Rattle.token_grammar.specs.declared.fault.GrammarFault.{GrammarFault}
use Rattle.token_grammar.specs.declared.fault.GrammarFault.TheVariants.{Syntax}
use Rattle.token_grammar.specs.Phrases.{Phrase}
use Rattle.token_grammar.specs.Readers.{Read, Got, Bad, Reader, first, and_then, one, both, made, many_by, many, with_front}
use Rattle.token_grammar.proofs.Parts.{Sound, Begins, not_both, chosen, got}
use Rattle.token_grammar.proofs.Steps.{any}

-- each member takes a token
abbrev pub Shrinks : {T A : Type 0} → Reader T A → Type 0
Shrinks {T = T} {A = A} p = (ts : List T) (a : A) (mid : List T) → p ts ≡ Got a mid → length mid < length ts

module _ {T A : Type 0} (test : Option T → Bool) (p : Reader T A) (end : test None ≡ false) where
  front : (found : List A) (a : A) (o : Read T (List A)) → with_front found (and_then o (λ others rest. Got (a ∷ others) rest)) ≡ with_front (found ++ a ∷ []) o
  front found a (Got more rest) = ap (λ x. Got x rest) (sym (append_assoc found (a ∷ []) more))
  front found a (Bad c rest) = refl

  turned : Shrinks p → (n m : ℕ) (ts : List T) → length ts ≤ suc n → length ts ≤ suc m → ((x : List T) → length x ≤ n → length x ≤ m → many_by n test p x ≡ many_by m test p x) → (o : Read T A) → p ts ≡ o → and_then o (λ a mid. and_then (many_by n test p mid) (λ others rest. Got (a ∷ others) rest)) ≡ and_then o (λ a mid. and_then (many_by m test p mid) (λ others rest. Got (a ∷ others) rest))
  turned s n m ts h k same (Got a mid) e = let less = s ts a mid e in ap (λ o. and_then o (λ others rest. Got (a ∷ others) rest)) (same mid (omega arith) (omega arith))
  turned s n m ts h k same (Bad c rest) e = refl

  enough : Shrinks p → (n m : ℕ) (ts : List T) → length ts ≤ n → length ts ≤ m → many_by n test p ts ≡ many_by m test p ts
  enough s zero zero ts h k = refl
  enough s zero (suc m) [] h k = rw (end) refl
  enough s zero (suc m) (t ∷ ts) h k = absurd (omega arith)
  enough s (suc n) zero [] h k = rw (end) refl
  enough s (suc n) zero (t ∷ ts) h k = absurd (omega arith)
  enough s (suc n) (suc m) ts h k = ap (λ o. cond (test (first ts)) o (Got [] ts)) (turned s n m ts h k (enough s n m) (p ts) refl)

  pub many_turn : Shrinks p → (found : List A) (ts : List T) (a : A) (mid : List T) → test (first ts) ≡ true → p ts ≡ Got a mid → with_front found (many test p ts) ≡ with_front (found ++ a ∷ []) (many test p mid)
  many_turn s found [] a mid t e = not_both (test None) t end
  many_turn s found (u ∷ ts) a mid t e =
      let less : length mid ≤ length ts = omega (arith, s (u ∷ ts) a mid e) in
      rw (t) (rw (e) (front found a (many_by (length ts) test p mid) ∙ ap (with_front (found ++ a ∷ [])) (enough s (length ts) (length mid) mid less (omega arith))))

  pub many_done : (found : List A) (ts : List T) → test (first ts) ≡ false → with_front found (many test p ts) ≡ Got found ts
  many_done found [] t = ap (λ x. Got x []) (append-nil found)
  many_done found (u ∷ ts) t = rw (t) (ap (λ x. Got x (u ∷ ts)) (append-nil found))

  pub many_failed : (found : List A) (ts : List T) (c : GrammarFault) (rest : List T) → test (first ts) ≡ true → p ts ≡ Bad c rest → with_front found (many test p ts) ≡ Bad c rest
  many_failed found [] c rest t e = not_both (test None) t end
  many_failed found (u ∷ ts) c rest t e = rw (t) (rw (e) refl)

-- ---- readers that take a token

pub one_shrinks : {T : Type 0} (passes : T → Bool) → Shrinks (one passes)
one_shrinks passes [] a mid e = absurd (cc)
one_shrinks passes (t ∷ ts) a mid e = ⊎_elim (λ h. let f : ts ≡ mid = cc in omega (arith, ap length f)) (λ h. absurd (cc)) (chosen (passes t) (Got t ts) (Bad Syntax (t ∷ ts)) (Got a mid) e)

pub sound_falls : {T A : Type 0} (F : Option T → Bool) (p : Reader T A) (R : Phrase T A) → Sound F p R → (ts : List T) (a : A) (mid : List T) → p ts ≡ Got a mid → length mid ≤ length ts
sound_falls F p R s ts a mid e = let u = s ts a mid e in omega (arith, ap length u.1 ∙ length-append u.0 mid)

not_nothing : {T : Type 0} (test : Option T → Bool) → test None ≡ false → (u : List T) → test (first (u ++ [])) ≡ true → 1 ≤ length u
not_nothing test end [] h = not_both (test None) h end
not_nothing test end (t ∷ u) h = omega arith

pub sound_shrinks : {T A : Type 0} (test F : Option T → Bool) (p : Reader T A) (R : Phrase T A) → test None ≡ false → Begins test true any R → Sound F p R → Shrinks p
sound_shrinks test F p R end b s ts a mid e =
    let u = s ts a mid e in
    let l : length ts ≡ length u.0 + length mid = ap length u.1 ∙ length-append u.0 mid in
    let some : 1 ≤ length u.0 = not_nothing test end u.0 (b u.0 a [] u.2 refl) in
    omega arith

-- ---- links: a token of a test, and then a part

-- A link takes its sign.
module _ {T A L : Type 0} (passes : T → Bool) (f : T × A → L) (F : Option T → Bool) (p : Reader T A) (R : Phrase T A) (s : Sound F p R) where
  pub link_shrinks : Shrinks (made f (both (one passes) p))
  link_shrinks ts l rest e =
      let x = got (both (one passes) p ts) (λ a z. Got (f a) z) l rest e in
      let y = got (one passes ts) (λ a mid. and_then (p mid) (λ b z. Got (a, b) z)) x.0 x.1 x.2 in
      let z = got (p y.1) (λ b r. Got (y.0, b) r) x.0 x.1 y.3 in
      let here : x.1 ≡ rest = cc in
      let there : z.1 ≡ x.1 = cc in
      omega (arith, one_shrinks passes ts y.0 y.1 y.2, sound_falls F p R s y.1 z.0 z.1 z.2, ap length here, ap length there)

pub link_read : {T A L : Type 0} (passes : T → Bool) (f : T × A → L) (p : Reader T A) (ts mid rest : List T) (t : T) (e : A) → one passes ts ≡ Got t mid → p mid ≡ Got e rest → made f (both (one passes) p) ts ≡ Got (f (t, e)) rest
link_read passes f p ts mid rest t e h k = rw (h) (rw (k) refl)
