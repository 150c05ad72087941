-- Lists of lines: the set of their vertices, and what a change of the list does to it.
use Rattle.std.proofs.Common.{◌≡◌, ℕ, zero, suc, ◌+◌, ◌≤◌, Bool, true, false, cond, eqb, ◌||◌, ◌&&◌, not, List, [], ◌∷◌, inl, inr, length, take, sym, refl, ap, ◌∙◌, subst, arith}
use Rattle.std.specs.Prelude.{Option, Some, None, slice_get, is_some}
use Rattle.std.specs.Map.{lookup, lookup_entry, remove_entry}
use Rattle.std.proofs.lemmas.Bool.Decides.{nat_tests}
use Rattle.std.specs.FinSet.{contains, insert}
use Rattle.comp_graph.specs.Vertices.{Vertices, ◌∈◌, ◌∉◌, size}
use Rattle.comp_graph.specs.Sets.{same, has_insert, has_empty}
use Rattle.comp_graph.proofs.Sets.{size_empty, size_insert_new}
use Rattle.pebble_rules.proofs.Possible.{true_or_false}
use Rattle.cache_model.specs.Caches.{Line}
use Rattle.cache_model.specs.Laws.{keys, AreApart}

pub size_keys : (ls : List Line) → AreApart ls → size (keys ls) ≡ length ls
size_keys [] apart = size_empty
size_keys (l ∷ ls) apart = let one = size_insert_new (keys ls) l.0 apart.0 in let rest = size_keys ls apart.1 in omega arith

-- ---- looking up

some_if : (b : Bool) (l : Line) (rest : Option Line) (there : Bool) → is_some rest ≡ there → is_some (cond b (Some l) rest) ≡ (b || there)
some_if true l rest there e = refl
some_if false l rest there e = e

-- a line is found where there is one
pub has_keys : (ls : List Line) (v : ℕ) → contains (keys ls) v ≡ is_some (lookup_entry (eqb v) ls)
has_keys [] v = has_empty v
has_keys (l ∷ ls) v = has_insert (keys ls) l.0 v ∙ sym (some_if (eqb v l.0) l (lookup_entry (eqb v) ls) (contains (keys ls) v) (sym (has_keys ls v)))

pub found_in : (ls : List Line) (v : ℕ) (l : Line) → lookup_entry (eqb v) ls ≡ Some l → v ∈ keys ls
found_in ls v l e = has_keys ls v ∙ ap is_some e

pub missing_out : (ls : List Line) (v : ℕ) → lookup_entry (eqb v) ls ≡ None → v ∉ keys ls
missing_out ls v e = has_keys ls v ∙ ap is_some e

-- what is found has this vertex and mark
pub found_is : (ls : List Line) (v : ℕ) (l : Line) → lookup_entry (eqb v) ls ≡ Some l → (l.0 ≡ v) × (lookup (eqb v) ls ≡ Some l.1)
found_is [] v l e = absurd (cc)
found_is (k ∷ ls) v l e = by_test (found_is ls v l) (eqb v k.0) refl e
  where
    by_test : (lookup_entry (eqb v) ls ≡ Some l → (l.0 ≡ v) × (lookup (eqb v) ls ≡ Some l.1)) → (b : Bool) → eqb v k.0 ≡ b → cond b (Some k) (lookup_entry (eqb v) ls) ≡ Some l → (l.0 ≡ v) × (cond b (Some k.1) (lookup (eqb v) ls) ≡ Some l.1)
    by_test rest true t h = let same_line : k ≡ l = cc in (sym (ap (λ x. x.0) same_line) ∙ tested t, ap (λ x. Some x.1) same_line)
      where
        tested : eqb v k.0 ≡ true → k.0 ≡ v
        tested a = grind (arith, nat_tests)
    by_test rest false t h = rest h

pub lookup_in : (ls : List Line) (v : ℕ) (b : Bool) → lookup (eqb v) ls ≡ Some b → v ∈ keys ls
lookup_in [] v b e = absurd (cc)
lookup_in (k ∷ ls) v b e = has_insert (keys ls) k.0 v ∙ by_test (lookup_in ls v b) (eqb v k.0) e
  where
    by_test : (lookup (eqb v) ls ≡ Some b → v ∈ keys ls) → (t : Bool) → cond t (Some k.1) (lookup (eqb v) ls) ≡ Some b → (t || contains (keys ls) v) ≡ true
    by_test rest true h = refl
    by_test rest false h = rest h

-- ---- the first lines

pub in_front : (ls : List Line) (n v : ℕ) → v ∈ keys (take n ls) → v ∈ keys ls
in_front ls zero v h = absurd (let none = has_empty v in cc)
in_front [] (suc n) v h = h
in_front (l ∷ ls) (suc n) v h =
    let old = in_front ls n v in
    let here = has_insert (keys (take n ls)) l.0 v in
    let whole = has_insert (keys ls) l.0 v in
    grind (arith, nat_tests)

pub apart_front : (ls : List Line) (n : ℕ) → AreApart ls → AreApart (take n ls)
apart_front ls zero apart = tt
apart_front [] (suc n) apart = tt
apart_front (l ∷ ls) (suc n) apart = (let old = in_front ls n l.0 in let out = apart.0 in not_in (keys (take n ls)) l.0 (λ h. clash (old h) out), apart_front ls n apart.1)
  where
    not_in : (s : Vertices) (v : ℕ) → (v ∈ s → ⊥) → v ∉ s
    not_in s v no_member = grind (arith, nat_tests)

    clash : l.0 ∈ keys ls → l.0 ∉ keys ls → ⊥
    clash a b = cc

-- a front of a front
pub front_of_front : (ls : List Line) (m n v : ℕ) → m ≤ n → v ∈ keys (take m ls) → v ∈ keys (take m (take n ls))
front_of_front ls zero n v less h = h
front_of_front [] (suc m) zero v less h = h
front_of_front [] (suc m) (suc n) v less h = h
front_of_front (l ∷ ls) (suc m) zero v less h = absurd (omega arith)
front_of_front (l ∷ ls) (suc m) (suc n) v less h =
    let old = front_of_front ls m n v (omega arith) in
    let here = has_insert (keys (take m ls)) l.0 v in
    let whole = has_insert (keys (take m (take n ls))) l.0 v in
    grind (arith, nat_tests)

-- what is found in front is what is found in all
pub lookup_front : (ls : List Line) (n v : ℕ) (b : Bool) → lookup (eqb v) (take n ls) ≡ Some b → lookup (eqb v) ls ≡ Some b
lookup_front ls zero v b e = absurd (cc)
lookup_front [] (suc n) v b e = e
lookup_front (l ∷ ls) (suc n) v b e = by_test (lookup_front ls n v b) (eqb v l.0) e
  where
    by_test : (lookup (eqb v) (take n ls) ≡ Some b → lookup (eqb v) ls ≡ Some b) → (t : Bool) → cond t (Some l.1) (lookup (eqb v) (take n ls)) ≡ Some b → cond t (Some l.1) (lookup (eqb v) ls) ≡ Some b
    by_test rest true h = h
    by_test rest false h = rest h

-- ---- the last line

pub get_in : (ls : List Line) (n : ℕ) (l : Line) → slice_get ls n ≡ Some l → l.0 ∈ keys ls
get_in [] n l e = absurd (cc)
get_in (k ∷ ls) zero l e = let is : k ≡ l = cc in let here = has_insert (keys ls) k.0 l.0 in let at = ap (λ x. x.0) is in grind (arith, nat_tests)
get_in (k ∷ ls) (suc n) l e = let old = get_in ls n l e in let here = has_insert (keys ls) k.0 l.0 in grind (arith, nat_tests)

no_lines : (ls : List Line) → length ls ≤ 0 → ls ≡ []
no_lines [] h = refl
no_lines (l ∷ ls) h = absurd (omega arith)

pub last_keys : (ls : List Line) (n : ℕ) (l : Line) → slice_get ls n ≡ Some l → length ls ≤ n + 1 → (v : ℕ) → contains (keys ls) v ≡ (eqb v l.0 || contains (keys (take n ls)) v)
last_keys [] n l e few v = absurd (cc)
last_keys (k ∷ ls) zero l e few v =
    let is : k ≡ l = cc in
    let rest = ap keys (no_lines ls (omega arith)) in
    let none = has_empty v in
    has_insert (keys ls) k.0 v ∙ ap (λ s. eqb v k.0 || contains s v) rest ∙ ap (λ (x : Line). eqb v x.0 || contains (keys []) v) is
last_keys (k ∷ ls) (suc n) l e few v =
    let rest = last_keys ls n l e (omega arith) v in
    let here = has_insert (keys ls) k.0 v in
    let front = has_insert (keys (take n ls)) k.0 v in
    grind (arith, nat_tests)

pub last_apart : (ls : List Line) (n : ℕ) (l : Line) → AreApart ls → slice_get ls n ≡ Some l → l.0 ∉ keys (take n ls)
last_apart [] n l apart e = absurd (cc)
last_apart (k ∷ ls) zero l apart e = has_empty l.0
last_apart (k ∷ ls) (suc n) l apart e =
    let rest = last_apart ls n l apart.1 e in
    let here = has_insert (keys (take n ls)) k.0 l.0 in
    let there = get_in ls n l e in
    let out = apart.0 in
    other (λ same. clash (subst (λ v. v ∈ keys ls) same there) out) rest here
  where
    clash : k.0 ∈ keys ls → k.0 ∉ keys ls → ⊥
    clash a b = cc

    other : (l.0 ≡ k.0 → ⊥) → l.0 ∉ keys (take n ls) → contains (insert (keys (take n ls)) k.0) l.0 ≡ (eqb l.0 k.0 || contains (keys (take n ls)) l.0) → l.0 ∉ insert (keys (take n ls)) k.0
    other apart out is = grind (arith, nat_tests)

pub lookup_at : (ls : List Line) (n : ℕ) (l : Line) → AreApart ls → slice_get ls n ≡ Some l → lookup (eqb l.0) ls ≡ Some l.1
lookup_at [] n l apart e = absurd (cc)
lookup_at (k ∷ ls) zero l apart e =
    let is : k ≡ l = cc in
    let test : eqb l.0 k.0 ≡ true = (let at = ap (λ x. x.0) is in itself at) in
    ap (λ b. cond b (Some k.1) (lookup (eqb l.0) ls)) test ∙ ap (λ x. Some x.1) is
  where
    itself : k.0 ≡ l.0 → eqb l.0 k.0 ≡ true
    itself at = grind (arith, nat_tests)
lookup_at (k ∷ ls) (suc n) l apart e =
    let there = get_in ls n l e in
    let test = other (λ same. clash (subst (λ v. v ∈ keys ls) same there) apart.0) in
    ap (λ b. cond b (Some k.1) (lookup (eqb l.0) ls)) test ∙ lookup_at ls n l apart.1 e
  where
    clash : k.0 ∈ keys ls → k.0 ∉ keys ls → ⊥
    clash a b = cc

    other : (l.0 ≡ k.0 → ⊥) → eqb l.0 k.0 ≡ false
    other apart = grind (arith, nat_tests)

-- ---- a line that goes first

-- one line more
pub more_front : (ls : List Line) (m v : ℕ) → v ∈ keys (take m ls) → v ∈ keys (take (suc m) ls)
more_front ls zero v h = absurd (let none = has_empty v in cc)
more_front [] (suc m) v h = h
more_front (l ∷ ls) (suc m) v h =
    let old = more_front ls m v in
    let first = has_insert (keys (take m ls)) l.0 v in
    let whole = has_insert (keys (take (suc m) ls)) l.0 v in
    grind (arith, nat_tests)

module _ (u : ℕ) where
  pub removed_keys : (ls : List Line) → AreApart ls → (v : ℕ) → contains (keys (remove_entry (eqb u) ls)) v ≡ (not (eqb v u) && contains (keys ls) v)
  removed_keys [] apart v = let none = has_empty v in grind (arith, nat_tests)
  removed_keys (k ∷ ls) apart v = by_test (removed_keys ls apart.1 v) (eqb u k.0) refl
    where
      by_test : contains (keys (remove_entry (eqb u) ls)) v ≡ (not (eqb v u) && contains (keys ls) v) → (b : Bool) → eqb u k.0 ≡ b → contains (keys (cond b ls (k ∷ remove_entry (eqb u) ls))) v ≡ (not (eqb v u) && contains (insert (keys ls) k.0) v)
      by_test rest true t = let whole = has_insert (keys ls) k.0 v in let out = apart.0 in same_out out whole t
        where
          same_out : k.0 ∉ keys ls → contains (insert (keys ls) k.0) v ≡ (eqb v k.0 || contains (keys ls) v) → eqb u k.0 ≡ true
              → contains (keys ls) v ≡ (not (eqb v u) && contains (insert (keys ls) k.0) v)
          same_out out whole t = elim (true_or_false (eqb v k.0)) [
            | inl same ↦ let gone = ap (contains (keys ls)) (tested v k.0 same) in let at = tested u k.0 t in let here = tested v k.0 same in grind (arith, nat_tests)
            | inr other ↦ let at = tested u k.0 t in grind (arith, nat_tests)
          ]
            where
              tested : (a b : ℕ) → eqb a b ≡ true → a ≡ b
              tested a b e = grind (arith, nat_tests)
      by_test rest false t =
          let here = has_insert (keys (remove_entry (eqb u) ls)) k.0 v in
          let whole = has_insert (keys ls) k.0 v in
          grind (arith, nat_tests)

  pub removed_apart : (ls : List Line) → AreApart ls → AreApart (remove_entry (eqb u) ls)
  removed_apart [] apart = tt
  removed_apart (k ∷ ls) apart = by_test (removed_apart ls apart.1) (eqb u k.0)
    where
      by_test : AreApart (remove_entry (eqb u) ls) → (b : Bool) → AreApart (cond b ls (k ∷ remove_entry (eqb u) ls))
      by_test rest true = apart.1
      by_test rest false = (let gone = removed_keys ls apart.1 k.0 in let out = apart.0 in grind (arith, nat_tests), rest)

  pub removed_lookup : (ls : List Line) (v : ℕ) → eqb v u ≡ false → lookup (eqb v) (remove_entry (eqb u) ls) ≡ lookup (eqb v) ls
  removed_lookup [] v other = refl
  removed_lookup (k ∷ ls) v other = by_test (removed_lookup ls v other) (eqb u k.0) refl
    where
      by_test : lookup (eqb v) (remove_entry (eqb u) ls) ≡ lookup (eqb v) ls → (b : Bool) → eqb u k.0 ≡ b → lookup (eqb v) (cond b ls (k ∷ remove_entry (eqb u) ls)) ≡ cond (eqb v k.0) (Some k.1) (lookup (eqb v) ls)
      by_test rest true t = sym (ap (λ b. cond b (Some k.1) (lookup (eqb v) ls)) (away t))
        where
          away : eqb u k.0 ≡ true → eqb v k.0 ≡ false
          away t = grind (arith, nat_tests)
      by_test rest false t = ap (λ r. cond (eqb v k.0) (Some k.1) r) rest

  pub front_removed : (ls : List Line) (m v : ℕ) → eqb v u ≡ false → v ∈ keys (take m ls) → v ∈ keys (take m (remove_entry (eqb u) ls))
  front_removed ls zero v other h = h
  front_removed [] (suc m) v other h = h
  front_removed (k ∷ ls) (suc m) v other h = by_test (front_removed ls m v other) (eqb u k.0) refl
    where
      here : contains (insert (keys (take m ls)) k.0) v ≡ (eqb v k.0 || contains (keys (take m ls)) v)
      here = has_insert (keys (take m ls)) k.0 v

      by_test : (v ∈ keys (take m ls) → v ∈ keys (take m (remove_entry (eqb u) ls))) → (b : Bool) → eqb u k.0 ≡ b → v ∈ keys (take (suc m) (cond b ls (k ∷ remove_entry (eqb u) ls)))
      by_test rest true t = more_front ls m v (without t)
        where
          without : eqb u k.0 ≡ true → v ∈ keys (take m ls)
          without t = let e = here in grind (arith, nat_tests)
      by_test rest false t = elim (true_or_false (eqb v k.0)) [
        | inl same ↦ let e = has_insert (keys (take m (remove_entry (eqb u) ls))) k.0 v in grind (arith, nat_tests)
        | inr apart ↦
            let e = has_insert (keys (take m (remove_entry (eqb u) ls))) k.0 v in
            let old = rest (let i = here in grind (arith, nat_tests)) in
            grind (arith, nat_tests)
      ]

  pub length_removed : (ls : List Line) (l : Line) → lookup_entry (eqb u) ls ≡ Some l → length (l ∷ remove_entry (eqb u) ls) ≡ length ls
  length_removed [] l e = absurd (cc)
  length_removed (k ∷ ls) l e = by_test (length_removed ls l) (eqb u k.0) e
    where
      by_test : (lookup_entry (eqb u) ls ≡ Some l → length (l ∷ remove_entry (eqb u) ls) ≡ length ls) → (b : Bool) → cond b (Some k) (lookup_entry (eqb u) ls) ≡ Some l → suc (length (cond b ls (k ∷ remove_entry (eqb u) ls))) ≡ suc (length ls)
      by_test rest true h = refl
      by_test rest false h = let short = rest h in omega arith
