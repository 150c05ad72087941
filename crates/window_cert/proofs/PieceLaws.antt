-- Sets and rows at the front of bytes.
use Rattle.std.proofs.Common.{◌≡◌, ℕ, ◌+◌, ◌*◌, ◌%◌, ◌≤◌, ◌<◌, true, false, List, [], ◌∷◌, ◌++◌, length, refl, sym, ap, ◌∙◌, subst, ◌⊎◌, inl, inr, arith, append_assoc}
use Rattle.std.specs.FinSet as set
use Rattle.std.specs.Ordering.{nat_cmp}
use Rattle.comp_graph.specs.Sets.{has_empty}
use Rattle.std.proofs.lemmas.List.{length-append}
use Rattle.byteorder.specs.Numbers.{length-bytes_high_first}
use Rattle.comp_graph.specs.Vertices.{Vertices, AllBelow}
use Rattle.potential_cert.specs.declared.tables.Row.{Row}
use Rattle.potential_cert.specs.TableBytes.{big_endian}
use Rattle.potential_cert.specs.Readings.{BeginsWithNumber}
use Rattle.window_cert.specs.Bytes.{bytes_in, first_bytes, set_bytes, row_bytes, RowFits}
use Rattle.window_cert.specs.Readings.{BeginsWith, BeginsWithNone}
use Rattle.window_cert.specs.Faults.{IsWord}
use Rattle.window_cert.proofs.Begins.{begins_one}
use Rattle.window_cert.proofs.OneSet.{first_one, set_one, below_bytes, length_first}
use Rattle.window_cert.proofs.OneSpelling.{row_cut}

-- ---- a byte

pub byte_read : (b : ℕ) (bytes rest : List ℕ) → BeginsWithNumber 1 bytes rest b → bytes ≡ b ∷ rest
byte_read b bytes rest begins =
    let fits : b < 256 = begins.fits in
    let same : b % 256 ≡ b = omega arith in
    begins.bytes_are ∙ ap (λ b. b ∷ rest) same

pub byte_fits : (b : ℕ) (bytes rest : List ℕ) → BeginsWithNumber 1 bytes rest b → b < 256
byte_fits b bytes rest begins = begins.fits

pub short_number : (k : ℕ) (bytes rest : List ℕ) (n : ℕ) → bytes ≡ big_endian k n ++ rest → length bytes < k → ⊥
short_number k bytes rest n is short =
    let whole = ap length is ∙ length-append (big_endian k n) rest in
    let many = length-bytes_high_first k n in
    omega arith

-- ---- sets

pub byte_left : (k : ℕ) (s : Vertices) (bytes rest : List ℕ) → bytes ≡ first_bytes k s ++ rest → length bytes ≡ k + length rest
byte_left k s bytes rest is = let whole = ap length is ∙ length-append (first_bytes k s) rest in let many = length_first k s in omega arith

pub byte_more : (k b : ℕ) (s t : Vertices) (bytes r1 r2 : List ℕ) → bytes ≡ first_bytes k s ++ r1 → BeginsWithNumber 1 r1 r2 b → first_bytes (k + 1) t ≡ first_bytes k s ++ b ∷ [] → bytes ≡ first_bytes (k + 1) t ++ r2
byte_more k b s t bytes r1 r2 before here grown =
    before ∙ ap (λ x. first_bytes k s ++ x) (byte_read b r1 r2 here) ∙ sym (append_assoc (first_bytes k s) (b ∷ []) r2) ∙ ap (λ x. x ++ r2) (sym grown)

pub none_set : (s : Vertices) (bytes : List ℕ) → bytes ≡ first_bytes 0 s ++ bytes
unfolding first_bytes
none_set s bytes = refl

pub empty_below : (n : ℕ) → AllBelow n (set.empty)
empty_below n = record { below = λ v h. absurd (nothing v h) }
  where
    nothing : (v : ℕ) → set.contains (set.empty {R = nat_cmp}) v ≡ true → ⊥
    nothing v h = let out = has_empty v in grind arith

pub short_set : (n : ℕ) (bytes : List ℕ) → length bytes < bytes_in n → BeginsWithNone (set_bytes n) (AllBelow n) bytes
short_set n bytes short rest s begins = let long = byte_left (bytes_in n) s bytes rest begins.bytes_are in omega arith

-- a set with a member beyond n is none
pub high_set : (n : ℕ) (bytes rest : List ℕ) (s : Vertices) → AllBelow (8 * bytes_in n) s → bytes ≡ first_bytes (bytes_in n) s ++ rest → (AllBelow n s → ⊥) → BeginsWithNone (set_bytes n) (AllBelow n) bytes
high_set n bytes rest s all is high r t begins =
    let same = first_one (bytes_in n) s t rest r all (below_bytes n t begins.fits) (sym is ∙ begins.bytes_are) in
    high (subst (AllBelow n) (sym same.0) begins.fits)

pub wide_enough : (n : ℕ) (s : Vertices) → n ≤ 256 → AllBelow (8 * bytes_in n) s → AllBelow 256 s
wide_enough n s few all = record { below = λ v h. let less = all.below v h in omega arith }

-- no member from n on
pub all_below : (n m : ℕ) (s : Vertices) → AllBelow m s → ((v : ℕ) → n ≤ v → v < m → set.contains s v ≡ false) → AllBelow n s
all_below n m s all none = record { below = λ v h. elim (below_or_not v n) [ inl less ↦ less | inr more ↦ absurd (let out = none v more (all.below v h) in grind arith) ] }
  where
    below_or_not : (v n : ℕ) → (v < n) ⊎ (n ≤ v)
    below_or_not v n = grind arith

-- ---- rows

pub no_red : (n : ℕ) (bytes : List ℕ) → BeginsWithNone (set_bytes n) (AllBelow n) bytes → BeginsWithNone (row_bytes n) (RowFits n) bytes
no_red n bytes none rest x begins = none _ x.position.red (record { fits = begins.fits.red; bytes_are = begins.bytes_are ∙ row_cut n x rest })

module _ (n : ℕ) (bytes r1 : List ℕ) (red : Vertices) (first : BeginsWith (set_bytes n) (AllBelow n) bytes r1 red) where
  behind_red : (rest : List ℕ) (x : Row) → BeginsWith (row_bytes n) (RowFits n) bytes rest x → r1 ≡ set_bytes n x.position.blue ++ (big_endian 4 x.cost ++ rest)
  behind_red rest x begins =
      (begins_one (set_bytes n) (AllBelow n) (set_one n) bytes r1 (set_bytes n x.position.blue ++ (big_endian 4 x.cost ++ rest)) red x.position.red first
      (record { fits = begins.fits.red; bytes_are = begins.bytes_are ∙ row_cut n x rest })).1

  pub no_blue : BeginsWithNone (set_bytes n) (AllBelow n) r1 → BeginsWithNone (row_bytes n) (RowFits n) bytes
  no_blue none rest x begins = none (big_endian 4 x.cost ++ rest) x.position.blue (record { fits = begins.fits.blue; bytes_are = behind_red rest x begins })

  module _ (r2 : List ℕ) (blue : Vertices) (second : BeginsWith (set_bytes n) (AllBelow n) r1 r2 blue) where
    pub no_cost : BeginsWithNone (big_endian 4) IsWord r2 → BeginsWithNone (row_bytes n) (RowFits n) bytes
    no_cost none rest x begins =
        let left = begins_one (set_bytes n) (AllBelow n) (set_one n) r1 r2 (big_endian 4 x.cost ++ rest) blue x.position.blue second
        (record { fits = begins.fits.blue; bytes_are = behind_red rest x begins }) in
        none rest x.cost (record { fits = begins.fits.cost; bytes_are = left.1 })

    pub row_read : (r3 : List ℕ) (cost : ℕ) → BeginsWithNumber 4 r2 r3 cost → BeginsWith (row_bytes n) (RowFits n) bytes r3 (record { position = record { red = red; blue = blue }; cost = cost })
    row_read r3 cost third = record {
      fits = record { red = first.fits; blue = second.fits; cost = third.fits };
      bytes_are =
          first.bytes_are ∙ ap (λ x. set_bytes n red ++ x) (second.bytes_are ∙ ap (λ x. set_bytes n blue ++ x) third.bytes_are)
          ∙ sym (row_cut n (record { position = record { red = red; blue = blue }; cost = cost }) r3);
    }
