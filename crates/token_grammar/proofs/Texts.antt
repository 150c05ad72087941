-- A text has one value or one first fault, and the reader of whole texts finds it. The rules may have levels.
use Rattle.std.proofs.Common.{◌≡◌, ℕ, suc, ◌≤◌, max, List, [], ◌∷◌, ◌++◌, refl, sym, ap, ◌∙◌, subst, inl, inr, ◌⊎◌, ⊎_elim, arith, append_assoc, append-nil}
use Rattle.std.proofs.lemmas.List.{append_cancel_right}
use Rattle.token_grammar.specs.declared.fault.GrammarFault.{GrammarFault}
use Rattle.token_grammar.specs.declared.fault.GrammarFault.TheVariants.{Syntax, TooDeep}
use Rattle.token_grammar.specs.Phrases.{Phrase}
use Rattle.token_grammar.specs.Readers.{Read, Got, Bad, Reader, first, ended}
use Rattle.token_grammar.specs.Faults.{IsFrontOfWord, IsFaultAt, IsGrammarFault}
use Rattle.token_grammar.proofs.Parts.{Stopping}
use Rattle.token_grammar.proofs.Steps.{any, Step, Levels}

-- ---- the end of a text

module _ {T A : Type 0} where
  ended_got : (o : Read T A) (a : A) (rest : List T) → ended o ≡ Got a rest → (o ≡ Got a []) × (rest ≡ [])
  ended_got (Got b []) a rest e = (cc, cc)
  ended_got (Got b (t ∷ ts)) a rest e = absurd (cc)
  ended_got (Bad c ts) a rest e = absurd (cc)

  ended_bad : (o : Read T A) (c : GrammarFault) (rest : List T) → ended o ≡ Bad c rest → (o ≡ Bad c rest) ⊎ ((a : A) × (t : T) × (ts : List T) × (o ≡ Got a (t ∷ ts)) × (c ≡ Syntax) × (rest ≡ t ∷ ts))
  ended_bad (Got b []) c rest e = absurd (cc)
  ended_bad (Got b (t ∷ ts)) c rest e = inr (b, t, ts, refl, cc, cc)
  ended_bad (Bad d ts) c rest e = inl e

  ended_more : (a : A) (t : T) (rest' ts : List T) → first rest' ≡ first (t ∷ ts) → ended (Got a rest') ≡ Bad Syntax rest'
  ended_more a t [] ts e = absurd (cc)
  ended_more a t (u ∷ r) ts e = refl

  got_or_bad : (o : Read T A) → ((a : A) × (rest : List T) × (o ≡ Got a rest)) ⊎ ((c : GrammarFault) × (rest : List T) × (o ≡ Bad c rest))
  got_or_bad (Got a rest) = inl (a, rest, refl)
  got_or_bad (Bad c rest) = inr (c, rest, refl)

  not_two : {X : Type 0} (o : Read T A) (a : A) (c : GrammarFault) (r rest : List T) → o ≡ Got a r → o ≡ Bad c rest → X
  not_two o a c r rest e f = absurd (cc)

level_same : (c : GrammarFault) (d : ℕ) → Levels c d d
level_same Syntax d = omega arith
level_same TooDeep d = refl

-- ---- the definitions alone

module _ {T A : Type 0} (R : ℕ → Phrase T A) where
  begins_front : (d : ℕ) (seen more : List T) → IsFrontOfWord R d (seen ++ more) → IsFrontOfWord R d seen
  begins_front d seen more b = (more ++ b.0, b.1, subst (λ z. R d z b.1) (append_assoc seen more b.0) b.2)

  -- what begins a word within the limit goes past no fault
  not_past : {X : Type 0} (d : ℕ) (c : GrammarFault) (seen : List T) (t : T) (rest more : List T) → IsFaultAt R d c seen (t ∷ rest) → IsFrontOfWord R d (seen ++ t ∷ more) → X
  not_past d Syntax seen t rest more f b = absurd (f d (begins_front d (seen ++ t ∷ []) more (subst (IsFrontOfWord R d) (sym (append_assoc seen (t ∷ []) more)) b)))
  not_past d TooDeep seen t rest more f b = absurd (f.1 (begins_front d (seen ++ t ∷ []) more (subst (IsFrontOfWord R d) (sym (append_assoc seen (t ∷ []) more)) b)))

  same_code : (d : ℕ) (c e : GrammarFault) (seen rest : List T) → IsFaultAt R d c seen rest → IsFaultAt R d e seen rest → c ≡ e
  same_code d Syntax Syntax seen rest f g = refl
  same_code d TooDeep TooDeep seen rest f g = refl
  same_code d Syntax TooDeep seen [] f g = absurd g
  same_code d TooDeep Syntax seen [] f g = absurd f
  same_code d Syntax TooDeep seen (t ∷ rest) f g = absurd (f g.0.0 g.0.1)
  same_code d TooDeep Syntax seen (t ∷ rest) f g = absurd (g f.0.0 f.0.1)

  front_first : (d : ℕ) (c e : GrammarFault) (x y r s : List T) → IsFaultAt R d c x r → IsFaultAt R d e y s → IsFrontOfWord R d y → (m : List T) → y ≡ x ++ m → r ≡ m ++ s → (c ≡ e) × (r ≡ s)
  front_first d c e x y r s f g b [] p q =
      let here : x ≡ y = sym (p ∙ append-nil x) in
      (same_code d c e y s (subst (λ z. IsFaultAt R d c y z) q (subst (λ z. IsFaultAt R d c z r) here f)) g, q)
  front_first d c e x y r s f g b (t ∷ m) p q =
      not_past d c x t (m ++ s) m (subst (IsFaultAt R d c x) q f) (subst (IsFrontOfWord R d) p b)

both_tokens : {T : Type 0} (t u : T) (r s : List T) → t ∷ r ≡ u ∷ s → (t ≡ u) × (r ≡ s)
both_tokens t u r s e = (cc, cc)

-- of two fronts of one text, one begins the other
two_fronts : {T : Type 0} (x y r s : List T) → x ++ r ≡ y ++ s → ((m : List T) × (y ≡ x ++ m) × (r ≡ m ++ s)) ⊎ ((m : List T) × (x ≡ y ++ m) × (s ≡ m ++ r))
two_fronts [] y r s e = inl (y, refl, e)
two_fronts (a ∷ x) [] r s e = inr (a ∷ x, refl, sym e)
two_fronts (a ∷ x) (b ∷ y) r s e =
    let h = both_tokens a b (x ++ r) (y ++ s) e in
    ⊎_elim (λ m. let p : b ∷ y ≡ (a ∷ x) ++ m.0 = ap (λ z. z ∷ y) (sym h.0) ∙ ap (λ z. a ∷ z) m.1 in inl (m.0, p, m.2))
    (λ m. let p : a ∷ x ≡ (b ∷ y) ++ m.0 = ap (λ z. z ∷ x) h.0 ∙ ap (λ z. b ∷ z) m.1 in inr (m.0, p, m.2))
    (two_fronts x y r s h.1)

-- A text has at most one first fault.
pub one_fault : {T A : Type 0} (R : ℕ → Phrase T A) (d : ℕ) (c e : GrammarFault) (ts r s : List T) → IsGrammarFault R d c ts r → IsGrammarFault R d e ts s → (c ≡ e) × (r ≡ s)
one_fault R d c e ts r s f g =
    ⊎_elim (λ m. front_first R d c e f.seen g.seen r s f.here g.here g.before m.0 m.1 m.2)
    (λ m. let h = front_first R d e c g.seen f.seen s r g.here f.here f.before m.0 m.1 m.2 in (sym h.0, sym h.1))
    (two_fronts f.seen g.seen r s (sym f.split ∙ g.split))

-- No text with a fault is a word within the limit.
fault_or_word : {T A : Type 0} (R : ℕ → Phrase T A) (d : ℕ) (c : GrammarFault) (seen rest : List T) (a : A) → IsFaultAt R d c seen rest → R d (seen ++ rest) a → ⊥
fault_or_word R d Syntax seen [] a f r = f d a (subst (λ z. R d z a) (append-nil seen) r)
fault_or_word R d TooDeep seen [] a f r = f
fault_or_word R d Syntax seen (t ∷ rest) a f r = f d (rest, a, subst (λ z. R d z a) (sym (append_assoc seen (t ∷ []) rest)) r)
fault_or_word R d TooDeep seen (t ∷ rest) a f r = f.1 (rest, a, subst (λ z. R d z a) (sym (append_assoc seen (t ∷ []) rest)) r)

pub never_both : {T A : Type 0} (R : ℕ → Phrase T A) (d : ℕ) (ts : List T) (a : A) (c : GrammarFault) (rest : List T) → R d ts a → IsGrammarFault R d c ts rest → ⊥
never_both R d ts a c rest r f = fault_or_word R d c f.seen rest a f.here (subst (λ z. R d z a) f.split r)

-- ---- a reader whose steps are known

module _ {T A : Type 0} (p : ℕ → Reader T A) (R : ℕ → Phrase T A) (step : (c : GrammarFault) (d d' : ℕ) → Levels c d d' → Step c any (p d) (p d') (R d) (R d') (R (suc d))) where
  -- What is read is the text's value.
  pub reads : (d : ℕ) (ts : List T) (a : A) (rest : List T) → ended (p d ts) ≡ Got a rest → R d ts a
  reads d ts a rest e =
      let x = ended_got (p d ts) a rest e in
      let u = (step TooDeep d d refl).low.sound ts a [] x.0 in
      subst (λ z. R d z a) (sym (u.1 ∙ append-nil u.0)) u.2

  -- A word is read.
  pub read : (d : ℕ) (ts : List T) (a : A) → R d ts a → ended (p d ts) ≡ Got a []
  read d ts a r =
      let e : p d (ts ++ []) ≡ Got a [] = (step TooDeep d d refl).low.complete ts a [] r refl in
      ap ended (ap (p d) (sym (append-nil ts)) ∙ e)

  pub more_levels : (d e : ℕ) (ts : List T) (a : A) → d ≤ e → R d ts a → R e ts a
  more_levels d e ts a h r = (step Syntax d e h).within ts a r

  -- One text has one value, with any number of levels.
  pub only_reading : (d e : ℕ) (ts : List T) (a b : A) → R d ts a → R e ts b → a ≡ b
  only_reading d e ts a b r s =
      let x = read (max d e) ts a (more_levels d (max d e) ts a (omega arith) r) in
      let y = read (max d e) ts b (more_levels e (max d e) ts b (omega arith) s) in
      cc

  -- a fault, seen by the tokens alone
  stopped : (c : GrammarFault) (d d' : ℕ) → Levels c d d' → Stopping c (λ ts. ended (p d ts)) (λ ts. ended (p d' ts)) (R d) (R (suc d))
  stopped c d d' h ts rest e =
      ⊎_elim
      (λ b. let s = (step c d d' h).stops ts rest b in
      record { seen = s.seen; split = s.split; more = s.more; value = s.value; alive = s.alive; deeper = s.deeper; again = λ rest' same. ap ended (s.again rest' same) })
      (λ x.
      let u = (step c d d' h).low.sound ts x.0 (x.1 ∷ x.2) x.3 in
      let split : ts ≡ u.0 ++ rest = u.1 ∙ ap (λ z. u.0 ++ z) (sym x.5) in
      let again : (rest' : List T) → first rest' ≡ first rest → ended (p d' (u.0 ++ rest')) ≡ Bad c rest' =
      λ rest' same. ap ended ((step c d d' h).high.complete u.0 x.0 rest' ((step c d d' h).within u.0 x.0 u.2) refl) ∙ ended_more x.0 x.1 rest' x.2 (same ∙ ap first x.5) ∙ ap (λ z. Bad z rest') (sym x.4) in
      record { seen = u.0; split = split; more = []; value = x.0; alive = subst (λ z. R d z x.0) (sym (append-nil u.0)) u.2; deeper = λ k. absurd (cc); again = again })
      (ended_bad (p d ts) c rest e)

  -- A fault forbids a word, whatever follows its token.
  no_word : (c : GrammarFault) (d m levels : ℕ) → Levels c d m → levels ≤ m → (ts rest seen : List T) → ended (p d ts) ≡ Bad c rest → ts ≡ seen ++ rest → (rest' : List T) (a : A) → first rest' ≡ first rest → R levels (seen ++ rest') a → ⊥
  no_word c d m levels l k ts rest seen e w rest' a same r =
      let s = stopped c d m l ts rest e in
      let here : s.seen ≡ seen = append_cancel_right s.seen seen rest (sym s.split ∙ w) in
      let again : ended (p m (seen ++ rest')) ≡ Bad c rest' = ap (λ z. ended (p m (z ++ rest'))) (sym here) ∙ s.again rest' same in
      not_two (ended (p m (seen ++ rest'))) a c [] rest' (read m (seen ++ rest') a (more_levels levels m (seen ++ rest') a k r)) again

  no_word_begins : (c : GrammarFault) (d m levels : ℕ) → Levels c d m → levels ≤ m → (ts : List T) (t : T) (rest seen : List T) → ended (p d ts) ≡ Bad c (t ∷ rest) → ts ≡ seen ++ t ∷ rest → IsFrontOfWord R levels (seen ++ t ∷ []) → ⊥
  no_word_begins c d m levels l k ts t rest seen e w b =
      no_word c d m levels l k ts (t ∷ rest) seen e w (t ∷ b.0) b.1 refl (subst (λ z. R levels z b.1) (append_assoc seen (t ∷ []) b.0) b.2)

  goes_deeper : (d : ℕ) (ts : List T) (t : T) (rest seen : List T) → ended (p d ts) ≡ Bad TooDeep (t ∷ rest) → ts ≡ seen ++ t ∷ rest → (levels : ℕ) × IsFrontOfWord R levels (seen ++ t ∷ [])
  goes_deeper d ts t rest seen e w =
      let s = stopped TooDeep d d refl ts (t ∷ rest) e in
      let x = s.deeper refl in
      let here : s.seen ≡ seen = append_cancel_right s.seen seen (t ∷ rest) (sym s.split ∙ w) in
      let same : x.token ≡ t = let f = x.is in cc in
      let word : s.seen ++ x.token ∷ x.more ≡ (seen ++ t ∷ []) ++ x.more = ap (λ z. z ++ x.token ∷ x.more) here ∙ ap (λ z. seen ++ z ∷ x.more) same ∙ sym (append_assoc seen (t ∷ []) x.more) in
      (suc d, (x.more, x.value, subst (λ z. R (suc d) z x.value) word x.alive))

  not_at_end : (d : ℕ) (ts : List T) → ended (p d ts) ≡ Bad TooDeep [] → ⊥
  not_at_end d ts e = let x = (stopped TooDeep d d refl ts [] e).deeper refl in let f = x.is in cc

  fault_at : (d : ℕ) (c : GrammarFault) (ts rest seen : List T) → ended (p d ts) ≡ Bad c rest → ts ≡ seen ++ rest → IsFaultAt R d c seen rest
  fault_at d Syntax ts [] seen e w = λ levels a r. no_word Syntax d (max d levels) levels (omega arith) (omega arith) ts [] seen e w [] a refl (subst (λ z. R levels z a) (sym (append-nil seen)) r)
  fault_at d Syntax ts (t ∷ rest) seen e w = λ levels b. no_word_begins Syntax d (max d levels) levels (omega arith) (omega arith) ts t rest seen e w b
  fault_at d TooDeep ts [] seen e w = not_at_end d ts e
  fault_at d TooDeep ts (t ∷ rest) seen e w = (goes_deeper d ts t rest seen e w, λ b. no_word_begins TooDeep d d d refl (omega arith) ts t rest seen e w b)

  -- Where the reader stops is the first fault.
  pub exact_fault : (d : ℕ) (c : GrammarFault) (ts rest : List T) → ended (p d ts) ≡ Bad c rest → IsGrammarFault R d c ts rest
  exact_fault d c ts rest e =
      let s = stopped c d d (level_same c d) ts rest e in
      record { seen = s.seen; split = s.split; before = (s.more, s.value, s.alive); here = fault_at d c ts rest s.seen e s.split }

  -- Each text has a value or a fault.
  pub word_or_fault : (d : ℕ) (ts : List T) → ((a : A) × R d ts a) ⊎ ((c : GrammarFault) × (rest : List T) × IsGrammarFault R d c ts rest)
  word_or_fault d ts =
      ⊎_elim (λ x. inl (x.0, reads d ts x.0 x.1 x.2)) (λ x. inr (x.0, x.1, exact_fault d x.0 ts x.1 x.2)) (got_or_bad (ended (p d ts)))
