-- The turns of a search.
use Rattle.std.proofs.Common.{◌≡◌, ℕ, zero, suc, ◌+◌, ◌≤◌, Bool, true, false, List, length, cond, ◌⊎◌, inl, inr, refl, sym, ap, ◌∙◌, subst, arith}
use Rattle.std.specs.Prelude.{fold, Some, None}
use Rattle.comp_graph.specs.Games.{PebbleGame}
use Rattle.comp_graph.specs.Dags.{IsDag}
use Rattle.pebble_rules.specs.declared.position.Position.{Position}
use Rattle.pebble_rules.specs.Rules.{start}
use Rattle.normal_steps.specs.Steps.{IsStep, CanFinish}
use Rattle.normal_steps.specs.Sound.{IsSound}
use Rattle.normal_steps.specs.declared.step.Step.{Step}
use Rattle.normal_steps.proofs.Sound.{plays_keep_sound, start_is_sound}
use Rattle.comp_graph.specs.Lists.{IsIn}
use Rattle.forced_bounds.specs.Floor.{floor}
use Rattle.forced_bounds.specs.FloorLaws.{FloorOfFinish}
use Rattle.potential_cert.specs.declared.tables.Row.{Row}
use Rattle.normal_steps.specs.StepTests.{legal_steps}
use Rattle.search_laws.specs.Search.{Mark, waiting, expanded, given_up, is_waiting, is_expanded, Entry, Search, next_waiting, marked_at, step_tried, becomes_row, expand, is_beaten, give_up, if_next, settle, search_on, rows_of}
use Rattle.search_laws.specs.Standing.{HasEntryWithin, IsFresh, IsKept, IsNext, IsReachedBy, IsSettled, Stands, row_of, start_row}
use Rattle.search_laws.proofs.Tests.{legal_steps_legal, legal_steps_are_all, leb_true}
use Rattle.search_laws.proofs.Entries.{NoneWaits, NextCases, next_cases, apart_same, MarkCases, marked_in, in_marked, mark_keeps, apart_marked, rows_in, in_rows, NoRowAt, rows_marked, one_row_more, how_many_wait, wait_within, fewer_wait, none_wait}
use Rattle.search_laws.proofs.Kept.{AreTried, all_tried}

pub waiting_no_row : (m : Mark) → is_waiting m ≡ true → is_expanded m ≡ false
waiting_no_row waiting h = refl
waiting_no_row expanded h = absurd (grind arith)
waiting_no_row given_up h = refl

-- an entry within a cost stays one when marks change
pub within_marked : (m : Mark) (p : Position) (es : List Entry) (q : Position) (h : ℕ) → HasEntryWithin es q h → HasEntryWithin (marked_at m p es) q h
within_marked m p es q h has =
    let f = in_marked m p es has.0 has.1 in
    let keeps = mark_keeps m p has.0 f.0 f.2 (λ f. (f.position ≡ q) × (f.cost ≤ h)) (has.2, has.3) (λ k. k) in
    (f.0, f.1, keeps.0, keeps.1)

-- the position of a play is sound
pub played_sound : (g : PebbleGame) → IsDag g.dag → (p : Position) (c : ℕ) (ss : List Step) → IsReachedBy g p c ss → IsSound g p
played_sound g dag p c ss is = subst (IsSound g) is.ends (plays_keep_sound g dag (start g) (start_is_sound g dag) ss is.play)

module _ (g : PebbleGame) (dag : IsDag g.dag) (first : ℕ) (t : Search) (kept : IsKept g first t) (e : Entry) (next : IsNext t.entries e) where
  -- ---- the next entry becomes a row

  abbrev marked : List Entry
  marked = marked_at expanded e.position t.entries

  pub rows_after : (r : Row) → IsIn r (rows_of marked) → (r ≡ row_of e) ⊎ IsIn r (rows_of t.entries)
  rows_after r i =
      let f = rows_in r marked i in
      let x = marked_in expanded e.position t.entries f.0 f.1 in
      cases f.0 x.0 x.1 f.2 f.3 x.2
    where
      cases : (f x : Entry) → IsIn x t.entries → is_expanded f.mark ≡ true → r ≡ row_of f → MarkCases expanded e.position x f → (r ≡ row_of e) ⊎ IsIn r (rows_of t.entries)
      cases f x j row same (inl is) = inl (same ∙ ap row_of is.1 ∙ ap row_of (apart_same t.entries kept.apart x e j next.member is.0))
      cases f x j row same (inr is) =
          inr (subst (λ r. IsIn r (rows_of t.entries)) (sym (same ∙ ap row_of is.1)) (in_rows x t.entries j (subst (λ f. is_expanded f.mark ≡ true) is.1 row)))

  pub rows_before : (r : Row) → IsIn r (rows_of t.entries) → IsIn r (rows_of marked)
  rows_before r i =
      let x = rows_in r t.entries i in
      let f = in_marked expanded e.position t.entries x.0 x.1 in
      let keeps = mark_keeps expanded e.position x.0 f.0 f.2 (λ f. (is_expanded f.mark ≡ true) × (row_of f ≡ row_of x.0)) (x.2, refl) (λ k. (refl, refl)) in
      subst (λ r. IsIn r (rows_of marked)) (keeps.1 ∙ sym x.3) (in_rows f.0 marked f.1 keeps.0)

  pub row_new : IsIn (row_of e) (rows_of marked)
  row_new =
      let f = in_marked expanded e.position t.entries e next.member in
      let keeps = marks f.0 f.2 in
      subst (λ r. IsIn r (rows_of marked)) keeps.1 (in_rows f.0 marked f.1 keeps.0)
    where
      marks : (f : Entry) → MarkCases expanded e.position e f → (is_expanded f.mark ≡ true) × (row_of f ≡ row_of e)
      marks f (inl is) = (ap (λ f. is_expanded f.mark) is.1, ap row_of is.1)
      marks f (inr is) = absurd (is.0 refl)

  pub started : IsIn (start_row g) (rows_of marked)
  started = elim kept.begins [
    | inl row ↦ rows_before (start_row g) row
    | inr fresh ↦ subst (λ r. IsIn r (rows_of marked)) (fresh.starts e next.member) row_new
  ]

  each_marked : (m : Mark) (P : Entry → Type 0) → ((x : Entry) → IsIn x t.entries → P x) → ((x : Entry) → IsIn x t.entries → x.position ≡ e.position → P x → P (record x { mark = m }))
      → (f : Entry) → IsIn f (marked_at m e.position t.entries) → P f
  each_marked m P old new f i = let x = marked_in m e.position t.entries f i in cases x.0 x.1 x.2
    where
      cases : (x : Entry) → IsIn x t.entries → MarkCases m e.position x f → P f
      cases x j (inl is) = subst P (sym is.1) (new x j is.0 (old x j))
      cases x j (inr is) = subst P (sym is.1) (old x j)

  pub becomes_row_kept : IsKept g first (becomes_row e t)
  becomes_row_kept = record {
    finishing = kept.finishing;
    costs = kept.costs;
    no_more = kept.no_more;
    played = each_marked expanded (λ f. IsReachedBy g f.position f.cost f.play) kept.played (λ x j same h. h);
    unfinished = each_marked expanded (λ f. CanFinish g f.position → ⊥) kept.unfinished (λ x j same h. h);
    apart = apart_marked expanded e.position t.entries kept.apart;
    beaten = each_marked expanded (λ f. is_waiting f.mark ≡ false → is_expanded f.mark ≡ false → t.cost ≤ f.cost + floor g f.position) kept.beaten (λ x j same h w y. absurd (grind arith));
    order = λ f i w r j. each_marked expanded (λ f. is_waiting f.mark ≡ true → r.cost ≤ f.cost)
        (λ x k w. order_by x k w r (rows_after r j)) (λ x k same h w. absurd (grind arith)) f i w;
    begins = inl started;
  }
    where
      order_by : (x : Entry) → IsIn x t.entries → is_waiting x.mark ≡ true → (r : Row) → (r ≡ row_of e) ⊎ IsIn r (rows_of t.entries) → r.cost ≤ x.cost
      order_by x k w r (inl same) = let least = next.least x k w in let costs = ap (λ r. r.cost) same in omega arith
      order_by x k w r (inr old) = kept.order x k w r old

  pub rows_below : (r : Row) → IsIn r (rows_of marked) → r.cost ≤ e.cost
  rows_below r i = elim (rows_after r i) [
    | inl same ↦ let costs = ap (λ r. r.cost) same in omega arith
    | inr old ↦ kept.order e next.member next.waits r old
  ]

  -- ---- the next entry is given up

  pub no_row_here : NoRowAt e.position t.entries
  no_row_here x i same = subst (λ x. is_expanded x.mark ≡ false) (sym (apart_same t.entries kept.apart x e i next.member same)) (waiting_no_row e.mark next.waits)

  pub same_rows : rows_of (marked_at given_up e.position t.entries) ≡ rows_of t.entries
  same_rows = rows_marked given_up e.position t.entries refl no_row_here

  pub given_up_kept : is_beaten g t e ≡ true → IsKept g first (give_up e t)
  given_up_kept why = record {
    finishing = kept.finishing;
    costs = kept.costs;
    no_more = kept.no_more;
    played = each_marked given_up (λ f. IsReachedBy g f.position f.cost f.play) kept.played (λ x j same h. h);
    unfinished = each_marked given_up (λ f. CanFinish g f.position → ⊥) kept.unfinished (λ x j same h. h);
    apart = apart_marked given_up e.position t.entries kept.apart;
    beaten = each_marked given_up (λ f. is_waiting f.mark ≡ false → is_expanded f.mark ≡ false → t.cost ≤ f.cost + floor g f.position) kept.beaten
        (λ x j same h w y. subst (λ x. t.cost ≤ x.cost + floor g x.position) (sym (apart_same t.entries kept.apart x e j next.member same)) (leb_true _ _ why));
    order = λ f i w r j. each_marked given_up (λ f. is_waiting f.mark ≡ true → r.cost ≤ f.cost)
        (λ x k w. kept.order x k w r (subst (λ rows. IsIn r rows) same_rows j)) (λ x k same h w. absurd (grind arith)) f i w;
    begins = begins kept.begins;
  }
    where
      begins : IsIn (start_row g) (rows_of t.entries) ⊎ IsFresh g t → IsIn (start_row g) (rows_of (marked_at given_up e.position t.entries)) ⊎ IsFresh g (give_up e t)
      begins (inl row) = inl (subst (λ rows. IsIn (start_row g) rows) (sym same_rows) row)
      begins (inr fresh) = inr (record {
        no_rows = same_rows ∙ fresh.no_rows;
        starts = each_marked given_up (λ f. row_of f ≡ start_row g) fresh.starts (λ x j same h. h);
        some = inr (let f = in_marked given_up e.position t.entries e next.member in (f.0, f.1));
      })

-- ---- expanding

pub record HasExpanded (g : PebbleGame) (first : ℕ) (t : Search) (e : Entry) (u : Search) : Type 0 where
  pub stands : Stands g first u
  pub after : (r : Row) → IsIn r (rows_of u.entries) → (r ≡ row_of e) ⊎ IsIn r (rows_of t.entries)
  pub before : (r : Row) → IsIn r (rows_of t.entries) → IsIn r (rows_of u.entries)
  pub count : length (rows_of u.entries) ≡ length (rows_of t.entries) + 1

pub has_expanded : FloorOfFinish → (g : PebbleGame) → IsDag g.dag → (first : ℕ) (t : Search) → Stands g first t → (e : Entry) → IsNext t.entries e → HasExpanded g first t e (expand g e t)
unfolding expand
has_expanded ends g dag first t stands e next =
    let played = stands.kept.played e next.member in
    let all = all_tried ends g dag first e played (legal_steps g e.position)
    (legal_steps_legal g dag e.position (played_sound g dag e.position e.cost e.play played)) (becomes_row e t)
    (becomes_row_kept g dag first t stands.kept e next) (rows_below g dag first t stands.kept e next) (started g dag first t stands.kept e next) in
    record {
      stands = record {
        kept = all.kept;
        settled = λ r i s step. settled_by r s step all (rows_after g dag first t stands.kept e next r (subst (λ rows. IsIn r rows) all.rows i));
      };
      after = λ r i. rows_after g dag first t stands.kept e next r (subst (λ rows. IsIn r rows) all.rows i);
      before = λ r i. subst (λ rows. IsIn r rows) (sym all.rows) (rows_before g dag first t stands.kept e next r i);
      count = ap length all.rows ∙ one_row_more e t.entries stands.kept.apart next.member (waiting_no_row e.mark next.waits);
    }
  where
    settled_by : (r : Row) (s : Step) → IsStep g r.position s → AreTried g first e (becomes_row e t) (legal_steps g e.position) (fold (step_tried g e) (becomes_row e t) (legal_steps g e.position))
        → (r ≡ row_of e) ⊎ IsIn r (rows_of t.entries) → IsSettled g (fold (step_tried g e) (becomes_row e t) (legal_steps g e.position)) r s
    settled_by r s step all (inl same) =
        let here = subst (λ r. IsStep g r.position s) same step in
        let sound = played_sound g dag e.position e.cost e.play (stands.kept.played e next.member) in
        subst (λ r. IsSettled g (fold (step_tried g e) (becomes_row e t) (legal_steps g e.position)) r s) (sym same)
        (all.settled s ((legal_steps_are_all g dag e.position sound s).0 here))
    settled_by r s step all (inr old) = elim (stands.settled r old s step) [
      | inl beaten ↦ let lower = all.lower in inl (omega arith)
      | inr has ↦ inr (all.stay _ _ (within_marked expanded e.position t.entries _ _ has))
    ]

-- ---- giving up

pub given_up_stands : (g : PebbleGame) → IsDag g.dag → (first : ℕ) (t : Search) → Stands g first t → (e : Entry) → IsNext t.entries e → is_beaten g t e ≡ true → Stands g first (give_up e t)
given_up_stands g dag first t stands e next why = record {
  kept = given_up_kept g dag first t stands.kept e next why;
  settled = λ r i s step. settled_by r s (stands.settled r (subst (λ rows. IsIn r rows) (same_rows g dag first t stands.kept e next) i) s step);
}
  where
    settled_by : (r : Row) (s : Step) → IsSettled g t r s → IsSettled g (give_up e t) r s
    settled_by r s (inl beaten) = inl beaten
    settled_by r s (inr has) = inr (within_marked given_up e.position t.entries _ _ has)

-- no entry waits, or the next one is not beaten
abbrev pub CanGoOn : PebbleGame → Search → Type 0
CanGoOn g u = ((next_waiting u.entries ≡ None) × NoneWaits u.entries) ⊎ ((e : Entry) × (next_waiting u.entries ≡ Some e) × IsNext u.entries e × (is_beaten g u e ≡ false))

pub record HasGivenUp (g : PebbleGame) (first : ℕ) (t u : Search) : Type 0 where
  pub stands : Stands g first u
  pub rows : rows_of u.entries ≡ rows_of t.entries
  pub goes_on : CanGoOn g u

pub nothing_next : (t : Search) → NoneWaits t.entries → NextCases t.entries (next_waiting t.entries) → next_waiting t.entries ≡ None
nothing_next t none (inl is) = is.0
nothing_next t none (inr e) = absurd (none e.0 e.2.member e.2.waits)

pub stays_as_it_is : (g : PebbleGame) (first : ℕ) (t u : Search) → Stands g first t → CanGoOn g t → u ≡ t → HasGivenUp g first t u
stays_as_it_is g first t u stands on same = subst (HasGivenUp g first t) (sym same) (record { stands = stands; rows = refl; goes_on = on })

pub has_given_up : (g : PebbleGame) → IsDag g.dag → (first : ℕ) (n : ℕ) (t : Search) → Stands g first t → how_many_wait t.entries ≤ n → HasGivenUp g first t (settle g n t)
unfolding settle
has_given_up g dag first zero t stands few =
    let none = none_wait t.entries (omega arith) in
    record { stands = stands; rows = refl; goes_on = inl (nothing_next t none (next_cases t.entries), none) }
has_given_up g dag first (suc n) t stands few =
    elim (next_cases t.entries) [
      | inl none ↦ stays_as_it_is g first t _ stands (inl none) (ap (λ o. if_next o t (λ e. cond (is_beaten g t e) (settle g n (give_up e t)) t)) none.0)
      | inr e ↦
          by_case e.0 e.1 e.2 (is_beaten g t e.0) refl
          (λ why.
          let fewer = fewer_wait e.0 t.entries e.2.member e.2.waits in
          has_given_up g dag first n (give_up e.0 t) (given_up_stands g dag first t stands e.0 e.2 why) (omega arith))
    ]
  where
    by_case : (e : Entry) → next_waiting t.entries ≡ Some e → IsNext t.entries e → (b : Bool) → is_beaten g t e ≡ b
        → (is_beaten g t e ≡ true → HasGivenUp g first (give_up e t) (settle g n (give_up e t))) → HasGivenUp g first t (settle g (suc n) t)
    by_case e is next true why rest =
        let given = rest why in
        let same : settle g (suc n) t ≡ settle g n (give_up e t) =
        ap (λ o. if_next o t (λ e. cond (is_beaten g t e) (settle g n (give_up e t)) t)) is ∙ ap (λ b. cond b (settle g n (give_up e t)) t) why in
        subst (HasGivenUp g first t) (sym same)
        (record { stands = given.stands; rows = given.rows ∙ same_rows g dag first t stands.kept e next; goes_on = given.goes_on })
    by_case e is next false why rest =
        stays_as_it_is g first t _ stands (inr (e, is, next, why))
        (ap (λ o. if_next o t (λ e. cond (is_beaten g t e) (settle g n (give_up e t)) t)) is ∙ ap (λ b. cond b (settle g n (give_up e t)) t) why)

pub settle_still : (g : PebbleGame) (n : ℕ) (t : Search) → next_waiting t.entries ≡ None → settle g n t ≡ t
unfolding settle
settle_still g zero t none = refl
settle_still g (suc n) t none = ap (λ o. if_next o t (λ e. cond (is_beaten g t e) (settle g n (give_up e t)) t)) none

pub nothing_next_waits : (t : Search) → NoneWaits t.entries → next_waiting t.entries ≡ None
nothing_next_waits t none = nothing_next t none (next_cases t.entries)

abbrev pub settled_of : PebbleGame → Search → Search
settled_of g t = settle g (length t.entries) t

pub settles : (g : PebbleGame) → IsDag g.dag → (first : ℕ) (t : Search) → Stands g first t → HasGivenUp g first t (settled_of g t)
settles g dag first t stands = has_given_up g dag first (length t.entries) t stands (wait_within t.entries)

-- ---- searching

pub record HasSearched (g : PebbleGame) (first budget : ℕ) (t u : Search) : Type 0 where
  pub stands : Stands g first u
  pub count : (length (rows_of u.entries) ≡ length (rows_of t.entries) + budget) ⊎ ((length (rows_of u.entries) ≤ length (rows_of t.entries) + budget) × NoneWaits u.entries)

pub search_stops : (g : PebbleGame) (budget : ℕ) (t : Search) → next_waiting (settled_of g t).entries ≡ None → search_on g (suc budget) t ≡ settled_of g t
unfolding search_on
search_stops g budget t none = ap (λ o. if_next o (settled_of g t) (λ e. search_on g budget (expand g e (settled_of g t)))) none

pub search_goes : (g : PebbleGame) (budget : ℕ) (t : Search) (e : Entry) → next_waiting (settled_of g t).entries ≡ Some e → search_on g (suc budget) t ≡ search_on g budget (expand g e (settled_of g t))
unfolding search_on
search_goes g budget t e is = ap (λ o. if_next o (settled_of g t) (λ e. search_on g budget (expand g e (settled_of g t)))) is

pub search_ends : (g : PebbleGame) (t : Search) → search_on g zero t ≡ t
unfolding search_on
search_ends g t = refl

pub has_searched : FloorOfFinish → (g : PebbleGame) → IsDag g.dag → (first budget : ℕ) (t : Search) → Stands g first t → HasSearched g first budget t (search_on g budget t)
has_searched ends g dag first zero t stands = subst (HasSearched g first zero t) (sym (search_ends g t)) (record { stands = stands; count = inl (omega arith) })
has_searched ends g dag first (suc budget) t stands =
    let given = settles g dag first t stands in
    elim given.goes_on [
      | inl none ↦
          subst (HasSearched g first (suc budget) t) (sym (search_stops g budget t none.0))
          (record { stands = given.stands; count = inr (let same = ap length given.rows in omega arith, none.1) })
      | inr e ↦
          let made = has_expanded ends g dag first (settled_of g t) given.stands e.0 e.2 in
          subst (HasSearched g first (suc budget) t) (sym (search_goes g budget t e.0 e.1))
          (one_more e.0 made given.rows (has_searched ends g dag first budget (expand g e.0 (settled_of g t)) made.stands))
    ]
  where
    one_more : (e : Entry) → HasExpanded g first (settled_of g t) e (expand g e (settled_of g t)) → rows_of (settled_of g t).entries ≡ rows_of t.entries
        → HasSearched g first budget (expand g e (settled_of g t)) (search_on g budget (expand g e (settled_of g t)))
        → HasSearched g first (suc budget) t (search_on g budget (expand g e (settled_of g t)))
    one_more e made rows rest = record {
      stands = rest.stands;
      count = elim rest.count [
        | inl all ↦ inl (let same = ap length rows in let count = made.count in omega arith)
        | inr few ↦ inr (let same = ap length rows in let count = made.count in omega (arith, few.0), few.1)
      ];
    }
