-- The support from the places.
use Rattle.std.proofs.Common.{Bool, false, cond, ltb, length, length-append, zero, suc, ◌-◌, ◌≡◌, ℕ, ◌+◌, ◌≤◌, ◌<◌, true, ◌⊎◌, inl, inr, refl, sym, ap, ◌∙◌, subst, arith, List, [], ◌∷◌, ◌++◌, ◌↔◌}
use Rattle.pebble_rules.proofs.Possible.{true_or_false}
use Rattle.search_laws.proofs.Queues.{decide}
use Rattle.comp_graph.specs.Lists.{IsIn}
use Rattle.comp_graph.specs.Games.{PebbleGame}
use Rattle.comp_graph.specs.Dags.{IsDag}
use Rattle.pebble_rules.specs.Rules.{start}
use Rattle.normal_steps.specs.Steps.{IsFinishing}
use Rattle.normal_steps.specs.declared.step.Step.{Step}
use Rattle.forced_bounds.specs.Floor.{floor}
use Rattle.forced_bounds.specs.FloorLaws.{FloorOfFinish}
use Rattle.potential_cert.specs.declared.tables.Row.{Row}
use Rattle.potential_cert.specs.Table.{IsSupport}
use Rattle.search_laws.specs.Search.{is_waiting, is_expanded, rows_of, Search, searched, rows_searched}
use Rattle.search_laws.specs.Standing.{row_of}
use Rattle.search_laws.proofs.Entries.{rows_in, in_rows}
use Rattle.search_laws.specs.Packing.{Store, Best, entry_at, Packs}
use Rattle.search_laws.specs.Turning.{IsDone}
use Rattle.search_laws.specs.Shortcut.{IsLeastWaiting, IsLeastPlace}
use Rattle.search_laws.proofs.Shortcut.{support_is_least_waiting}

least_waiting : (g : PebbleGame) (first : List Step) (s : Store) (b : Best) (plays : ℕ → List Step) (t : Search) → Packs g first s b plays t → (least : ℕ) → IsLeastPlace s b.cost least s.size → IsLeastWaiting g t least
least_waiting g first s b plays t packs least is = record {
  within_cost = let cost = packs.cost in let most = is.within_cost in omega arith;
  within_waiting = λ e i waits.
      let x = packs.entered e i in
      let below = is.within_places x.0 x.1 (ap (λ e. is_waiting e.mark) (sym x.2) ∙ waits) in
      let floors = packs.floors x.0 x.1 in
      let cost = ap (λ e. e.cost) x.2 in
      let at = ap (λ e. floor g e.position) x.2 in
      omega arith;
  is_met = elim is.is_met [
    | inl same ↦ inl (same ∙ sym packs.cost)
    | inr k ↦ let floors = packs.floors k.0 k.1 in inr (entry_at s plays k.0, packs.placed k.0 k.1, k.2, k.3 ∙ ap (λ f. (s.at k.0).cost + f) floors)
  ];
}

-- the least over the places is the support of the search's rows
pub bound_is_support : FloorOfFinish → (g : PebbleGame) → IsDag g.dag → (first : List Step) → IsFinishing g (start g) first → (budget : ℕ) (s : Store) (b : Best) → IsDone g first budget s b
    → (least : ℕ) → IsLeastPlace s b.cost least s.size → IsSupport g (rows_searched g first budget) (searched g first budget).cost least
bound_is_support ends g dag first finishing budget s b done least is =
    support_is_least_waiting ends g dag first finishing budget least (least_waiting g first s b done.plays (searched g first budget) done.packs least is)

-- ---- the rows

abbrev pub row_at : Store → ℕ → Row
row_at s k = record { position = (s.at k).position; cost = (s.at k).cost }

abbrev pub IsRowPlace : Store → Row → Type 0
IsRowPlace s r = (k : ℕ) × (k < s.size) × (is_expanded (s.at k).mark ≡ true) × (r ≡ row_at s k)

-- the rows are the places that are marked so
pub row_places : (g : PebbleGame) (first : List Step) (s : Store) (b : Best) (plays : ℕ → List Step) (t : Search) → Packs g first s b plays t → (r : Row) → IsIn r (rows_of t.entries) ↔ IsRowPlace s r
row_places g first s b plays t packs r = (from_entry, to_entry)
  where
    from_entry : IsIn r (rows_of t.entries) → IsRowPlace s r
    from_entry i =
        let e = rows_in r t.entries i in
        let x = packs.entered e.0 e.1 in
        (x.0, x.1, ap (λ e. is_expanded e.mark) (sym x.2) ∙ e.2, e.3 ∙ ap row_of x.2)

    to_entry : IsRowPlace s r → IsIn r (rows_of t.entries)
    to_entry k = subst (λ r. IsIn r (rows_of t.entries)) (sym k.3) (in_rows (entry_at s plays k.0) t.entries (packs.placed k.0 k.1) k.2)

-- what is read back along the parents from a row is its play
pub parent_play : (g : PebbleGame) (first : List Step) (s : Store) (b : Best) (plays : ℕ → List Step) (t : Search) → Packs g first s b plays t → (k : ℕ) → k < s.size → (later : List Step) → 0 < k
    → plays k ++ later ≡ plays (s.at k).parent ++ ((s.at k).step ∷ later)
parent_play g first s b plays t packs k within later some = ap (λ play. play ++ later) (packs.child k some within).play ∙ assoc (plays (s.at k).parent) ((s.at k).step ∷ []) later
  where
    assoc : (xs ys zs : List Step) → (xs ++ ys) ++ zs ≡ xs ++ (ys ++ zs)
    assoc [] ys zs = refl
    assoc (x ∷ xs) ys zs = ap (λ xs. x ∷ xs) (assoc xs ys zs)

-- ---- a play is shorter than the number of places

squeeze : (ℕ → ℕ) → ℕ → ℕ → ℕ
squeeze f n k = cond (ltb (f k) (f n)) (f k) (f k - 1)

squeeze_less : (f : ℕ → ℕ) (n k : ℕ) → f k < f n → squeeze f n k ≡ f k
unfolding squeeze
squeeze_less f n k h = let less : ltb (f k) (f n) ≡ true = grind arith in ap (λ b. cond b (f k) (f k - 1)) less

squeeze_more : (f : ℕ → ℕ) (n k : ℕ) → f n ≤ f k → squeeze f n k ≡ f k - 1
unfolding squeeze
squeeze_more f n k h = let less : ltb (f k) (f n) ≡ false = grind arith in ap (λ b. cond b (f k) (f k - 1)) less

last_or_below : (k n : ℕ) → k < suc n → (k ≡ n → ⊥) → k < n
last_or_below k n h other = elim (decide k n) [ inl same ↦ absurd (other same) | inr differ ↦ omega arith ]

abbrev Meets : ℕ → (ℕ → ℕ) → ℕ → Type 0
Meets n f m = (k : ℕ) × (k < n) × (f k ≡ m)

-- n places take at most n values
pub pigeons : (n most : ℕ) (f : ℕ → ℕ) → ((m : ℕ) → m ≤ most → Meets n f m) → most < n
pigeons zero most f h = absurd (let x = h 0 (omega arith) in let less = x.1 in omega arith)
pigeons (suc n) zero f h = omega arith
pigeons (suc n) (suc most) f h = let rest = pigeons n most (squeeze f n) (λ m le. by_case m le (true_or_false (ltb m (f n)))) in omega arith
  where
    low : (m : ℕ) → m < f n → Meets (suc n) f m → Meets n (squeeze f n) m
    low m less x =
        let is = x.2 in
        (x.0, last_or_below x.0 n x.1 (λ same. let at = ap f same in omega arith), squeeze_less f n x.0 (omega arith) ∙ x.2)

    high : (m : ℕ) → f n ≤ m → Meets (suc n) f (m + 1) → Meets n (squeeze f n) m
    high m more x =
        let is = x.2 in
        (x.0, last_or_below x.0 n x.1 (λ same. let at = ap f same in omega arith), squeeze_more f n x.0 (omega arith) ∙ omega (arith, is))

    by_case : (m : ℕ) → m ≤ most → (ltb m (f n) ≡ true) ⊎ (ltb m (f n) ≡ false) → Meets n (squeeze f n) m
    by_case m le (inl is) = low m (grind arith) (h m (omega arith))
    by_case m le (inr is) = high m (grind arith) (h (m + 1) (omega arith))

module _ (g : PebbleGame) (first : List Step) (s : Store) (b : Best) (plays : ℕ → List Step) (t : Search) (packs : Packs g first s b plays t) where
  first_length : length (plays 0) ≡ 0
  first_length = ap length packs.begins

  pub parent_length : (k : ℕ) → 0 < k → k < s.size → length (plays k) ≡ length (plays (s.at k).parent) + 1
  parent_length k some within = ap length (packs.child k some within).play ∙ length-append (plays (s.at k).parent) ((s.at k).step ∷ [])

  not_zero : (k n : ℕ) → length (plays k) ≡ suc n → 0 < k
  not_zero k n h = elim (decide k 0) [ inl same ↦ absurd (let at = ap (λ k. length (plays k)) same in let none = first_length in omega arith) | inr other ↦ above k other ]
    where
      above : (k : ℕ) → (k ≡ 0 → ⊥) → 0 < k
      above zero other = absurd (other refl)
      above (suc k) other = omega arith

  -- places of each shorter length
  ancestors : (n k : ℕ) → k < s.size → length (plays k) ≡ n → (m : ℕ) → m ≤ n → Meets s.size (λ k. length (plays k)) m
  ancestors zero k within is m le = (k, within, omega (arith, is))
  ancestors (suc n) k within is m le = by_case (decide m (suc n)) (λ less. ancestors n (s.at k).parent (packs.child k (not_zero k n is) within).parent (let one = parent_length k (not_zero k n is) within in omega (arith, is)) m less)
    where
      by_case : (m ≡ suc n) ⊎ (m ≡ suc n → ⊥) → (m ≤ n → Meets s.size (λ k. length (plays k)) m) → Meets s.size (λ k. length (plays k)) m
      by_case (inl same) rest = (k, within, is ∙ sym same)
      by_case (inr other) rest = rest (below m other le)
        where
          below : (m : ℕ) → (m ≡ suc n → ⊥) → m ≤ suc n → m ≤ n
          below m other le = omega arith

  pub short_play : (k : ℕ) → k < s.size → length (plays k) < s.size
  short_play k within = pigeons s.size (length (plays k)) (λ k. length (plays k)) (ancestors (length (plays k)) k within refl)
