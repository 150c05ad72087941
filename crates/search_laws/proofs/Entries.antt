-- Laws of the list of entries.
use Rattle.std.proofs.Common.{◌≡◌, ℕ, ◌+◌, ◌≤◌, ◌<◌, ltb, Bool, true, false, not, List, [], ◌∷◌, ◌++◌, length, cond, ◌⊎◌, inl, inr, refl, sym, ap, ◌∙◌, subst, arith}
use Rattle.std.specs.Prelude.{filter, Option, Some, None, ⊤}
use Rattle.pebble_rules.specs.declared.position.Position.{Position}
use Rattle.comp_graph.specs.Lists.{IsIn}
use Rattle.potential_cert.specs.declared.tables.Row.{Row}
use Rattle.potential_cert.specs.Table.{AreDistinct}
use Rattle.search_laws.specs.Steps.{same_position}
use Rattle.search_laws.specs.Search.{Mark, expanded, given_up, is_waiting, is_expanded, Entry, sooner, next_waiting, marked_at, without, rows_of}
use Rattle.search_laws.specs.Standing.{AreApart, IsNext, row_of}
use Rattle.search_laws.proofs.Lists.{in_map, map_in, filter_in, append_cases}
use Rattle.search_laws.proofs.Tests.{same_position_true, true_same_position}

-- ---- the next entry

abbrev pub NoneWaits : List Entry → Type 0
NoneWaits es = (f : Entry) → IsIn f es → is_waiting f.mark ≡ true → ⊥

abbrev pub NextCases : List Entry → Option Entry → Type 0
NextCases es o = ((o ≡ None) × NoneWaits es) ⊎ ((e : Entry) × (o ≡ Some e) × IsNext es e)

only_next : (e : Entry) (es : List Entry) → is_waiting e.mark ≡ true → NoneWaits es → IsNext (e ∷ es) e
only_next e es waits none = record { member = inl refl; waits = waits; least = least }
  where
    least : (f : Entry) → IsIn f (e ∷ es) → is_waiting f.mark ≡ true → e.cost ≤ f.cost
    least f (inl same) w = let costs = ap (λ x. x.cost) same in omega arith
    least f (inr rest) w = absurd (none f rest w)

sooner_next : (e f : Entry) (es : List Entry) → is_waiting e.mark ≡ true → IsNext es f → (b : Bool) → ltb f.cost e.cost ≡ b → IsNext (e ∷ es) (cond b f e)
sooner_next e f es waits next true h = record { member = inr next.member; waits = next.waits; least = least }
  where
    least : (x : Entry) → IsIn x (e ∷ es) → is_waiting x.mark ≡ true → f.cost ≤ x.cost
    least x (inl same) w = let costs = ap (λ x. x.cost) same in grind arith
    least x (inr rest) w = next.least x rest w
sooner_next e f es waits next false h = record { member = inl refl; waits = waits; least = least }
  where
    least : (x : Entry) → IsIn x (e ∷ es) → is_waiting x.mark ≡ true → e.cost ≤ x.cost
    least x (inl same) w = let costs = ap (λ x. x.cost) same in omega arith
    least x (inr rest) w = let more = next.least x rest w in grind arith

later_next : (e f : Entry) (es : List Entry) → is_waiting e.mark ≡ false → IsNext es f → IsNext (e ∷ es) f
later_next e f es not_e next = record { member = inr next.member; waits = next.waits; least = least }
  where
    least : (x : Entry) → IsIn x (e ∷ es) → is_waiting x.mark ≡ true → f.cost ≤ x.cost
    least x (inl same) w = absurd (let marks = ap (λ x. is_waiting x.mark) same in grind arith)
    least x (inr rest) w = next.least x rest w

none_more : (e : Entry) (es : List Entry) → is_waiting e.mark ≡ false → NoneWaits es → NoneWaits (e ∷ es)
none_more e es not_e none x (inl same) w = absurd (let marks = ap (λ x. is_waiting x.mark) same in grind arith)
none_more e es not_e none x (inr rest) w = none x rest w

next_by : (e : Entry) (es : List Entry) (o : Option Entry) (b : Bool) → is_waiting e.mark ≡ b → NextCases es o → NextCases (e ∷ es) (cond b (Some (sooner e o)) o)
next_by e es o true h (inl none) = inr (e, ap (λ o. Some (sooner e o)) none.0, only_next e es h none.1)
next_by e es o true h (inr f) = inr (cond (ltb f.0.cost e.cost) f.0 e, ap (λ o. Some (sooner e o)) f.1, sooner_next e f.0 es h f.2 (ltb f.0.cost e.cost) refl)
next_by e es o false h (inl none) = inl (none.0, none_more e es h none.1)
next_by e es o false h (inr f) = inr (f.0, f.1, later_next e f.0 es h f.2)

pub next_cases : (es : List Entry) → NextCases es (next_waiting es)
next_cases [] = inl (refl, λ f i w. absurd i)
next_cases (e ∷ es) = next_by e es (next_waiting es) (is_waiting e.mark) refl (next_cases es)

-- ---- distinct positions

pub apart_same : (es : List Entry) → AreApart es → (e f : Entry) → IsIn e es → IsIn f es → e.position ≡ f.position → e ≡ f
apart_same [] apart e f i j same = absurd i
apart_same (x ∷ es) apart e f (inl a) (inl b) same = a ∙ sym b
apart_same (x ∷ es) apart e f (inl a) (inr j) same = absurd (apart.0 f j (sym same ∙ ap (λ x. x.position) a))
apart_same (x ∷ es) apart e f (inr i) (inl b) same = absurd (apart.0 e i (same ∙ ap (λ x. x.position) b))
apart_same (x ∷ es) apart e f (inr i) (inr j) same = apart_same es apart.1 e f i j same

pub apart_push : (es : List Entry) (e : Entry) → AreApart es → ((f : Entry) → IsIn f es → f.position ≡ e.position → ⊥) → AreApart (es ++ e ∷ [])
apart_push [] e apart new = (λ f i same. absurd i, tt)
apart_push (x ∷ es) e apart new = (head, apart_push es e apart.1 (λ f i. new f (inr i)))
  where
    last_in : (f : Entry) → IsIn f (e ∷ []) → f ≡ e
    last_in f (inl a) = a
    last_in f (inr i) = absurd i

    head : (f : Entry) → IsIn f (es ++ e ∷ []) → f.position ≡ x.position → ⊥
    head f i same = elim (append_cases f es (e ∷ []) i) [
      | inl old ↦ apart.0 f old same
      | inr last ↦ new x (inl refl) (sym same ∙ ap (λ x. x.position) (last_in f last))
    ]

apart_filter_by : (test : Entry → Bool) (e : Entry) (es : List Entry) (b : Bool) → ((f : Entry) → IsIn f es → f.position ≡ e.position → ⊥) → AreApart (filter test es) → AreApart (cond b (e ∷ filter test es) (filter test es))
apart_filter_by test e es true head rest = (λ f i. head f (filter_in test f es i).0, rest)
apart_filter_by test e es false head rest = rest

pub apart_filter : (test : Entry → Bool) (es : List Entry) → AreApart es → AreApart (filter test es)
apart_filter test [] apart = tt
apart_filter test (e ∷ es) apart = apart_filter_by test e es (test e) apart.0 (apart_filter test es apart.1)

-- ---- marks

abbrev pub mark_one : Mark → Position → Entry → Entry
mark_one m p e = cond (same_position e.position p) (record e { mark = m }) e

-- an entry after marking: it is marked anew, or it is as it was and stands elsewhere
abbrev pub MarkCases : Mark → Position → Entry → Entry → Type 0
MarkCases m p e f = ((e.position ≡ p) × (f ≡ record e { mark = m })) ⊎ ((e.position ≡ p → ⊥) × (f ≡ e))

mark_by : (m : Mark) (p : Position) (e : Entry) (b : Bool) → same_position e.position p ≡ b → MarkCases m p e (cond b (record e { mark = m }) e)
mark_by m p e true h = inl (same_position_true e.position p h, refl)
mark_by m p e false h = inr (λ same. let is = true_same_position e.position p same in grind arith, refl)

pub mark_cases : (m : Mark) (p : Position) (e : Entry) → MarkCases m p e (mark_one m p e)
mark_cases m p e = mark_by m p e (same_position e.position p) refl

-- an entry of the marked list comes from one of the list
pub marked_in : (m : Mark) (p : Position) (es : List Entry) (f : Entry) → IsIn f (marked_at m p es) → (e : Entry) × IsIn e es × MarkCases m p e f
marked_in m p es f h =
    let e = map_in (mark_one m p) f es h in
    (e.0, e.1, subst (MarkCases m p e.0) (sym e.2) (mark_cases m p e.0))

-- and the other way round
pub in_marked : (m : Mark) (p : Position) (es : List Entry) (e : Entry) → IsIn e es → (f : Entry) × IsIn f (marked_at m p es) × MarkCases m p e f
in_marked m p es e h = (mark_one m p e, in_map (mark_one m p) e es h, mark_cases m p e)

-- position, cost and play stay
pub mark_keeps : (m : Mark) (p : Position) (e f : Entry) → MarkCases m p e f → (P : Entry → Type 0) → P e → (P e → P (record e { mark = m })) → P f
mark_keeps m p e f (inl is) P h more = subst P (sym is.1) (more h)
mark_keeps m p e f (inr is) P h more = subst P (sym is.1) h

pub apart_marked : (m : Mark) (p : Position) (es : List Entry) → AreApart es → AreApart (marked_at m p es)
apart_marked m p [] apart = tt
apart_marked m p (e ∷ es) apart = (head, apart_marked m p es apart.1)
  where
    head : (f : Entry) → IsIn f (marked_at m p es) → f.position ≡ (mark_one m p e).position → ⊥
    head f i same =
        let x = marked_in m p es f i in
        let place : f.position ≡ x.0.position = mark_keeps m p x.0 f x.2 (λ f. f.position ≡ x.0.position) refl (λ h. h) in
        let here : (mark_one m p e).position ≡ e.position = mark_keeps m p e (mark_one m p e) (mark_cases m p e) (λ f. f.position ≡ e.position) refl (λ h. h) in
        apart.0 x.0 x.1 (sym place ∙ same ∙ here)

-- ---- rows

abbrev pub FromEntry : Row → List Entry → Type 0
FromEntry r es = (e : Entry) × IsIn e es × (is_expanded e.mark ≡ true) × (r ≡ row_of e)

rows_in_by : (r : Row) (e : Entry) (es : List Entry) (b : Bool) → is_expanded e.mark ≡ b → (IsIn r (rows_of es) → FromEntry r es) → IsIn r (cond b (row_of e ∷ rows_of es) (rows_of es)) → FromEntry r (e ∷ es)
rows_in_by r e es true h before (inl same) = (e, inl refl, h, same)
rows_in_by r e es true h before (inr i) = let x = before i in (x.0, inr x.1, x.2, x.3)
rows_in_by r e es false h before i = let x = before i in (x.0, inr x.1, x.2, x.3)

pub rows_in : (r : Row) (es : List Entry) → IsIn r (rows_of es) → FromEntry r es
rows_in r [] h = absurd h
rows_in r (e ∷ es) h = rows_in_by r e es (is_expanded e.mark) refl (λ i. rows_in r es i) h

in_rows_by : (e x : Entry) (es : List Entry) (b : Bool) → is_expanded x.mark ≡ b → is_expanded e.mark ≡ true → (e ≡ x) ⊎ IsIn (row_of e) (rows_of es) → IsIn (row_of e) (cond b (row_of x ∷ rows_of es) (rows_of es))
in_rows_by e x es true h pass (inl same) = inl (ap row_of same)
in_rows_by e x es true h pass (inr i) = inr i
in_rows_by e x es false h pass (inl same) = absurd (let marks = ap (λ x. is_expanded x.mark) same in grind arith)
in_rows_by e x es false h pass (inr i) = i

pub in_rows : (e : Entry) (es : List Entry) → IsIn e es → is_expanded e.mark ≡ true → IsIn (row_of e) (rows_of es)
in_rows e [] h pass = absurd h
in_rows e (x ∷ es) (inl same) pass = in_rows_by e x es (is_expanded x.mark) refl pass (inl same)
in_rows e (x ∷ es) (inr h) pass = in_rows_by e x es (is_expanded x.mark) refl pass (inr (in_rows e es h pass))

rows_apart_by : (e : Entry) (es : List Entry) (b : Bool) → ((f : Entry) → IsIn f es → f.position ≡ e.position → ⊥) → AreDistinct (rows_of es) → AreDistinct (cond b (row_of e ∷ rows_of es) (rows_of es))
rows_apart_by e es true head rest = (λ q i same. let x = rows_in q es i in head x.0 x.1 (sym (ap (λ r. r.position) x.3) ∙ same), rest)
rows_apart_by e es false head rest = rest

pub rows_apart : (es : List Entry) → AreApart es → AreDistinct (rows_of es)
rows_apart [] apart = tt
rows_apart (e ∷ es) apart = rows_apart_by e es (is_expanded e.mark) apart.0 (rows_apart es apart.1)

-- a last entry that is no row adds none
pub rows_push : (es : List Entry) (e : Entry) → is_expanded e.mark ≡ false → rows_of (es ++ e ∷ []) ≡ rows_of es
rows_push [] e h = ap (λ b. cond b (row_of e ∷ []) []) h
rows_push (x ∷ es) e h = ap (λ rows. cond (is_expanded x.mark) (row_of x ∷ rows) rows) (rows_push es e h)

abbrev pub NoRowAt : Position → List Entry → Type 0
NoRowAt p es = (e : Entry) → IsIn e es → e.position ≡ p → is_expanded e.mark ≡ false

-- entries that are no rows leave without a change of the rows
rows_without_by : (q : Position) (e : Entry) (es : List Entry) (b : Bool) → not (same_position e.position q) ≡ b → (e.position ≡ q → is_expanded e.mark ≡ false)
    → rows_of (without es q) ≡ rows_of es → rows_of (cond b (e ∷ without es q) (without es q)) ≡ cond (is_expanded e.mark) (row_of e ∷ rows_of es) (rows_of es)
rows_without_by q e es true h none rest = ap (λ rows. cond (is_expanded e.mark) (row_of e ∷ rows) rows) rest
rows_without_by q e es false h none rest = rest ∙ ap (λ b. cond b (row_of e ∷ rows_of es) (rows_of es)) (sym (none (same_position_true e.position q (false_not _ h))))
  where
    false_not : (b : Bool) → not b ≡ false → b ≡ true
    false_not true h = refl
    false_not false h = absurd (grind arith)

pub rows_without : (q : Position) (es : List Entry) → NoRowAt q es → rows_of (without es q) ≡ rows_of es
rows_without q [] none = refl
rows_without q (e ∷ es) none = rows_without_by q e es (not (same_position e.position q)) refl (none e (inl refl)) (rows_without q es (λ f i. none f (inr i)))

-- marking an entry that is no row, and shall be none, changes no row
rows_mark_by : (m : Mark) (e : Entry) (rows others : List Row) (b : Bool) → is_expanded m ≡ false → (b ≡ true → is_expanded e.mark ≡ false) → rows ≡ others
    → cond (is_expanded (cond b (record e { mark = m }) e).mark) (row_of (cond b (record e { mark = m }) e) ∷ rows) rows ≡ cond (is_expanded e.mark) (row_of e ∷ others) others
rows_mark_by m e rows others true h none rest = ap (λ b. cond b (row_of e ∷ rows) rows) (h ∙ sym (none refl)) ∙ ap (λ rows. cond (is_expanded e.mark) (row_of e ∷ rows) rows) rest
rows_mark_by m e rows others false h none rest = ap (λ rows. cond (is_expanded e.mark) (row_of e ∷ rows) rows) rest

pub rows_marked : (m : Mark) (p : Position) (es : List Entry) → is_expanded m ≡ false → NoRowAt p es → rows_of (marked_at m p es) ≡ rows_of es
rows_marked m p [] h none = refl
rows_marked m p (e ∷ es) h none =
    rows_mark_by m e (rows_of (marked_at m p es)) (rows_of es) (same_position e.position p) h (λ same. none e (inl refl) (same_position_true e.position p same))
    (rows_marked m p es h (λ f i. none f (inr i)))

-- marking one as a row makes one row more
nothing_marked : (m : Mark) (p : Position) (es : List Entry) → ((f : Entry) → IsIn f es → f.position ≡ p → ⊥) → rows_of (marked_at m p es) ≡ rows_of es
nothing_marked m p [] none = refl
nothing_marked m p (e ∷ es) none = here (nothing_marked m p es (λ f i. none f (inr i))) (same_position e.position p) refl
  where
    here : rows_of (marked_at m p es) ≡ rows_of es → (b : Bool) → same_position e.position p ≡ b
        → cond (is_expanded (cond b (record e { mark = m }) e).mark) (row_of (cond b (record e { mark = m }) e) ∷ rows_of (marked_at m p es)) (rows_of (marked_at m p es))
        ≡ cond (is_expanded e.mark) (row_of e ∷ rows_of es) (rows_of es)
    here rest true h = absurd (none e (inl refl) (same_position_true e.position p h))
    here rest false h = ap (λ rows. cond (is_expanded e.mark) (row_of e ∷ rows) rows) rest

cond_length : (b : Bool) (r : Row) (rows : List Row) → length (cond b (r ∷ rows) rows) ≡ cond b (length rows + 1) (length rows)
cond_length true r rows = omega arith
cond_length false r rows = refl

pub one_row_more : (e : Entry) (es : List Entry) → AreApart es → IsIn e es → is_expanded e.mark ≡ false → length (rows_of (marked_at expanded e.position es)) ≡ length (rows_of es) + 1
one_row_more e [] apart i h = absurd i
one_row_more e (x ∷ es) apart (inl same) h = here (same_position x.position e.position) refl
  where
    place : x.position ≡ e.position
    place = ap (λ x. x.position) (sym same)

    rest : rows_of (marked_at expanded e.position es) ≡ rows_of es
    rest = nothing_marked expanded e.position es (λ f i at. apart.0 f i (at ∙ sym place))

    here : (b : Bool) → same_position x.position e.position ≡ b
        → length (cond (is_expanded (cond b (record x { mark = expanded }) x).mark) (row_of (cond b (record x { mark = expanded }) x) ∷ rows_of (marked_at expanded e.position es)) (rows_of (marked_at expanded e.position es)))
        ≡ length (cond (is_expanded x.mark) (row_of x ∷ rows_of es) (rows_of es)) + 1
    here true is =
        let marks = ap (λ x. is_expanded x.mark) same in
        let none : is_expanded x.mark ≡ false = grind arith in
        let more = ap length rest in
        let was = ap (λ b. length (cond b (row_of x ∷ rows_of es) (rows_of es))) none in
        omega arith
    here false is = absurd (let yes_same = true_same_position x.position e.position place in grind arith)
one_row_more e (x ∷ es) apart (inr i) h = here (one_row_more e es apart.1 i h) (same_position x.position e.position) refl
  where
    here : length (rows_of (marked_at expanded e.position es)) ≡ length (rows_of es) + 1 → (b : Bool) → same_position x.position e.position ≡ b
        → length (cond (is_expanded (cond b (record x { mark = expanded }) x).mark) (row_of (cond b (record x { mark = expanded }) x) ∷ rows_of (marked_at expanded e.position es)) (rows_of (marked_at expanded e.position es)))
        ≡ length (cond (is_expanded x.mark) (row_of x ∷ rows_of es) (rows_of es)) + 1
    here more true is = absurd (apart.0 e i (sym (same_position_true x.position e.position is)))
    here more false is =
        let left = cond_length (is_expanded x.mark) (row_of x) (rows_of (marked_at expanded e.position es)) in
        let right = cond_length (is_expanded x.mark) (row_of x) (rows_of es) in
        grind arith

-- ---- how many wait

abbrev pub waits_of : Entry → ℕ
waits_of e = cond (is_waiting e.mark) 1 0

abbrev pub how_many_wait : List Entry → ℕ
how_many_wait [] = 0
how_many_wait (e ∷ es) = waits_of e + how_many_wait es

pub wait_within : (es : List Entry) → how_many_wait es ≤ length es
wait_within [] = omega arith
wait_within (e ∷ es) = let rest = wait_within es in grind arith

mark_waits : (p : Position) (e : Entry) → waits_of (mark_one given_up p e) ≤ waits_of e
mark_waits p e = here (same_position e.position p)
  where
    here : (b : Bool) → waits_of (cond b (record e { mark = given_up }) e) ≤ waits_of e
    here true = omega arith
    here false = omega arith

no_more_wait : (p : Position) (es : List Entry) → how_many_wait (marked_at given_up p es) ≤ how_many_wait es
no_more_wait p [] = omega arith
no_more_wait p (e ∷ es) = let rest = no_more_wait p es in let here = mark_waits p e in omega arith

pub fewer_wait : (e : Entry) (es : List Entry) → IsIn e es → is_waiting e.mark ≡ true → how_many_wait (marked_at given_up e.position es) < how_many_wait es
fewer_wait e [] i w = absurd i
fewer_wait e (x ∷ es) (inl same) w = here (same_position x.position e.position) refl
  where
    here : (b : Bool) → same_position x.position e.position ≡ b → waits_of (cond b (record x { mark = given_up }) x) + how_many_wait (marked_at given_up e.position es) < waits_of x + how_many_wait es
    here true is =
        let rest = no_more_wait e.position es in
        let marks = ap (λ x. is_waiting x.mark) same in
        let one : waits_of x ≡ 1 = grind arith in
        omega arith
    here false is = absurd (let yes_same = true_same_position x.position e.position (ap (λ x. x.position) (sym same)) in grind arith)
fewer_wait e (x ∷ es) (inr i) w = let rest = fewer_wait e es i w in let here = mark_waits e.position x in omega arith

pub none_wait : (es : List Entry) → how_many_wait es ≡ 0 → NoneWaits es
none_wait [] h f i w = absurd i
none_wait (e ∷ es) h f (inl same) w = absurd (let marks = ap (λ x. is_waiting x.mark) same in grind arith)
none_wait (e ∷ es) h f (inr i) w = none_wait es (grind arith) f i w
