-- Lists that are mapped and filtered, one element more.
use Rattle.std.proofs.Common.{◌≡◌, ℕ, zero, suc, ◌+◌, Bool, true, false, List, [], ◌∷◌, ◌++◌, map, cond, take, inl, inr, refl, sym, ap, ◌∙◌, arith}
use Rattle.std.specs.Prelude.{filter}
use Rattle.comp_graph.specs.Lists.{IsIn}
use Rattle.potential_cert.specs.Places.{IsAt}

pub append_none : {X : Type 0} → (xs : List X) → xs ++ [] ≡ xs
append_none [] = refl
append_none (x ∷ xs) = ap (λ xs. x ∷ xs) (append_none xs)

pub mapped_more : {X Y : Type 0} → (f : X → Y) (x : X) (k : ℕ) (xs : List X) → IsAt x k xs → map f (take (k + 1) xs) ≡ map f (take k xs) ++ f x ∷ []
mapped_more f x k [] h = absurd h
mapped_more f x zero (y ∷ ys) h = ap (λ y. f y ∷ []) (sym h)
mapped_more f x (suc k) (y ∷ ys) h =
    let same : suc k + 1 ≡ suc (k + 1) = omega arith in
    ap (λ n. map f (take n (y ∷ ys))) same ∙ ap (λ zs. f y ∷ zs) (mapped_more f x k ys h)

pub map_push : {X Y : Type 0} → (f : X → Y) (xs : List X) (x : X) → map f (xs ++ x ∷ []) ≡ map f xs ++ f x ∷ []
map_push f [] x = refl
map_push f (y ∷ ys) x = ap (λ zs. f y ∷ zs) (map_push f ys x)

pub map_map : {X Y Z : Type 0} → (f : Y → Z) (g : X → Y) (xs : List X) → map f (map g xs) ≡ map (λ x. f (g x)) xs
map_map f g [] = refl
map_map f g (x ∷ xs) = ap (λ zs. f (g x) ∷ zs) (map_map f g xs)

pub map_each : {X Y : Type 0} → (f g : X → Y) (xs : List X) → ((x : X) → IsIn x xs → f x ≡ g x) → map f xs ≡ map g xs
map_each f g [] same = refl
map_each f g (x ∷ xs) same = ap (λ y. y ∷ map f xs) (same x (inl refl)) ∙ ap (λ ys. g x ∷ ys) (map_each f g xs (λ x i. same x (inr i)))

pub filter_append : {X : Type 0} → (f : X → Bool) (xs ys : List X) → filter f (xs ++ ys) ≡ filter f xs ++ filter f ys
filter_append f [] ys = refl
filter_append f (x ∷ xs) ys = ap (λ zs. cond (f x) (x ∷ zs) zs) (filter_append f xs ys) ∙ out (f x)
  where
    out : (b : Bool) → cond b (x ∷ (filter f xs ++ filter f ys)) (filter f xs ++ filter f ys) ≡ cond b (x ∷ filter f xs) (filter f xs) ++ filter f ys
    out true = refl
    out false = refl

pub filter_none : {X : Type 0} → (f : X → Bool) (xs : List X) → ((x : X) → IsIn x xs → f x ≡ false) → filter f xs ≡ []
filter_none f [] none = refl
filter_none f (x ∷ xs) none = ap (λ b. cond b (x ∷ filter f xs) (filter f xs)) (none x (inl refl)) ∙ filter_none f xs (λ x i. none x (inr i))

pub filter_all : {X : Type 0} → (f : X → Bool) (xs : List X) → ((x : X) → IsIn x xs → f x ≡ true) → filter f xs ≡ xs
filter_all f [] all = refl
filter_all f (x ∷ xs) all = ap (λ b. cond b (x ∷ filter f xs) (filter f xs)) (all x (inl refl)) ∙ ap (λ zs. x ∷ zs) (filter_all f xs (λ x i. all x (inr i)))
