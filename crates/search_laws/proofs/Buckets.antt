-- The next entry by buckets.
use Rattle.std.proofs.Common.{◌≡◌, ℕ, ◌≤◌, ◌<◌, ◌==◌, ltb, Bool, true, false, not, ◌&&◌, List, [], ◌∷◌, ◌++◌, cond, ◌⊎◌, inl, inr, refl, sym, ap, ◌∙◌, subst, arith}
use Rattle.std.specs.Prelude.{filter, Option, Some, None}
use Rattle.comp_graph.specs.Lists.{IsIn}
use Rattle.search_laws.specs.Search.{Mark, Entry, is_waiting, next_waiting, sooner, marked_at, without}
use Rattle.pebble_rules.specs.declared.position.Position.{Position}
use Rattle.search_laws.specs.Steps.{same_position}
use Rattle.search_laws.specs.Buckets.{bucket, NextIsFirstOfBucket, BucketsFollow, EachBucketFollows}
use Rattle.search_laws.specs.Standing.{IsNext}
use Rattle.search_laws.proofs.Lists.{filter_in}
use Rattle.search_laws.proofs.Entries.{NoneWaits, NextCases, next_cases}

head_or : Entry → List Entry → Entry
head_or d [] = d
head_or d (e ∷ es) = e

heads : (e f : Entry) (es fs : List Entry) → e ∷ es ≡ f ∷ fs → e ≡ f
unfolding head_or
heads e f es fs h = ap (head_or e) h

is_cons : List Entry → Bool
is_cons [] = false
is_cons (e ∷ es) = true

not_cons : (e : Entry) (es : List Entry) → [] ≡ e ∷ es → ⊥
unfolding is_cons
not_cons e es h = let tests = ap is_cons h in grind arith

-- an entry of the least cost comes before what waits later
first_stays : (c : ℕ) (e : Entry) (es : List Entry) (o : Option Entry) → e.cost ≡ c → ((f : Entry) → IsIn f es → is_waiting f.mark ≡ true → c ≤ f.cost) → NextCases es o → sooner e o ≡ e
first_stays c e es o cost least (inl none) = ap (sooner e) none.0
first_stays c e es o cost least (inr f) = ap (sooner e) f.1 ∙ ap (λ b. cond b f.0 e) (not_less (least f.0 f.2.member f.2.waits))
  where
    not_less : c ≤ f.0.cost → ltb f.0.cost e.cost ≡ false
    not_less h = grind arith

bucket_member : (c : ℕ) (e : Entry) (rest es : List Entry) → bucket c es ≡ e ∷ rest → e.cost ≡ c
bucket_member c e rest es h = cost_is (is_waiting e.mark) (filter_in (λ e. is_waiting e.mark && (e.cost == c)) e es (subst (λ xs. IsIn e xs) (sym h) (inl refl))).1
  where
    cost_is : (b : Bool) → (b && (e.cost == c)) ≡ true → e.cost ≡ c
    cost_is b h = grind arith

by_case : (c : ℕ) (e x : Entry) (rest es : List Entry) (waits at : Bool) → is_waiting x.mark ≡ waits → (x.cost == c) ≡ at
    → ((f : Entry) → IsIn f (x ∷ es) → is_waiting f.mark ≡ true → c ≤ f.cost)
    → (bucket c es ≡ e ∷ rest → next_waiting es ≡ Some e)
    → cond (waits && at) (x ∷ bucket c es) (bucket c es) ≡ e ∷ rest
    → cond waits (Some (sooner x (next_waiting es))) (next_waiting es) ≡ Some e
by_case c e x rest es true true w a least before h =
    ap Some (first_stays c x es (next_waiting es) (grind arith) (λ f i. least f (inr i)) (next_cases es) ∙ heads x e (bucket c es) rest h)
by_case c e x rest es true false w a least before h =
    let cost = bucket_member c e rest es h in
    let more = least x (inl refl) w in
    ap (λ o. Some (sooner x o)) (before h) ∙ ap (λ b. Some (cond b e x)) (less cost more)
  where
    less : e.cost ≡ c → c ≤ x.cost → ltb e.cost x.cost ≡ true
    less cost more = grind arith
by_case c e x rest es false at w a least before h = before h

pub next_is_first_of_bucket : NextIsFirstOfBucket
next_is_first_of_bucket c e rest [] least h = absurd (not_cons e rest h)
next_is_first_of_bucket c e rest (x ∷ es) least h =
    by_case c e x rest es (is_waiting x.mark) (x.cost == c) refl refl least (next_is_first_of_bucket c e rest es (λ f i. least f (inr i))) h

-- ---- how buckets change

abbrev is_in : ℕ → Entry → Bool
is_in c e = is_waiting e.mark && (e.cost == c)

-- a filter of a filter, in either order
left_by : (c : ℕ) (q : Position) (x : Entry) (rest kept : List Entry) (stays here : Bool) → not (same_position x.position q) ≡ stays → is_in c x ≡ here
    → bucket c rest ≡ without kept q
    → bucket c (cond stays (x ∷ rest) rest) ≡ without (cond here (x ∷ kept) kept) q
left_by c q x rest kept true true s h before = ap (λ b. cond b (x ∷ bucket c rest) (bucket c rest)) h ∙ ap (λ xs. x ∷ xs) before ∙ ap (λ b. cond b (x ∷ without kept q) (without kept q)) (sym s)
left_by c q x rest kept true false s h before = ap (λ b. cond b (x ∷ bucket c rest) (bucket c rest)) h ∙ before
left_by c q x rest kept false true s h before = before ∙ ap (λ b. cond b (x ∷ without kept q) (without kept q)) (sym s)
left_by c q x rest kept false false s h before = before

bucket_left : (c : ℕ) (q : Position) (es : List Entry) → bucket c (without es q) ≡ without (bucket c es) q
bucket_left c q [] = refl
bucket_left c q (x ∷ es) = left_by c q x (without es q) (bucket c es) (not (same_position x.position q)) (is_in c x) refl refl (bucket_left c q es)

and_no : (a b : Bool) → a ≡ false → (a && b) ≡ false
and_no a b h = grind arith

marked_by : (c : ℕ) (m : Mark) (p : Position) (x : Entry) (rest kept : List Entry) (same here : Bool) → is_waiting m ≡ false → same_position x.position p ≡ same → is_in c x ≡ here
    → bucket c rest ≡ without kept p
    → bucket c (cond same (record x { mark = m }) x ∷ rest) ≡ without (cond here (x ∷ kept) kept) p
marked_by c m p x rest kept true true w s h before =
    ap (λ b. cond b (record x { mark = m } ∷ bucket c rest) (bucket c rest)) (and_no (is_waiting m) (x.cost == c) w) ∙ before
    ∙ ap (λ b. cond (not b) (x ∷ without kept p) (without kept p)) (sym s)
marked_by c m p x rest kept true false w s h before =
    ap (λ b. cond b (record x { mark = m } ∷ bucket c rest) (bucket c rest)) (and_no (is_waiting m) (x.cost == c) w) ∙ before
marked_by c m p x rest kept false true w s h before =
    ap (λ b. cond b (x ∷ bucket c rest) (bucket c rest)) h ∙ ap (λ xs. x ∷ xs) before ∙ ap (λ b. cond (not b) (x ∷ without kept p) (without kept p)) (sym s)
marked_by c m p x rest kept false false w s h before = ap (λ b. cond b (x ∷ bucket c rest) (bucket c rest)) h ∙ before

bucket_marked : (c : ℕ) (m : Mark) (p : Position) (es : List Entry) → is_waiting m ≡ false → bucket c (marked_at m p es) ≡ without (bucket c es) p
bucket_marked c m p [] w = refl
bucket_marked c m p (x ∷ es) w = marked_by c m p x (marked_at m p es) (bucket c es) (same_position x.position p) (is_in c x) w refl refl (bucket_marked c m p es w)

pushed_by : (c : ℕ) (e x : Entry) (rest kept last : List Entry) (here : Bool) → rest ≡ kept ++ last → cond here (x ∷ rest) rest ≡ cond here (x ∷ kept) kept ++ last
pushed_by c e x rest kept last true before = ap (λ xs. x ∷ xs) before
pushed_by c e x rest kept last false before = before

bucket_pushed : (c : ℕ) (e : Entry) (es : List Entry) → bucket c (es ++ e ∷ []) ≡ bucket c es ++ cond (is_in c e) (e ∷ []) []
bucket_pushed c e [] = refl
bucket_pushed c e (x ∷ es) = pushed_by c e x (bucket c (es ++ e ∷ [])) (bucket c es) (cond (is_in c e) (e ∷ []) []) (is_in c x) (bucket_pushed c e es)

pub each_bucket_follows : EachBucketFollows
each_bucket_follows c es = record { marked = λ m p w. bucket_marked c m p es w; left = λ q. bucket_left c q es; pushed = λ e. bucket_pushed c e es }
