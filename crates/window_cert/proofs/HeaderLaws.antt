-- The numbers of a certificate at the front of bytes.
use Rattle.std.proofs.Common.{◌≡◌, ℕ, ◌+◌, ◌≤◌, ◌<◌, ◌^◌, Bool, true, false, ◌&&◌, not, eqb, List, ◌++◌, length, refl, sym, ap, ◌∙◌, arith}
use Rattle.std.proofs.lemmas.List.{length-append}
use Rattle.std.proofs.lemmas.Bool.{and_parts}
use Rattle.std.proofs.lemmas.Bool.Decides.{nat_tests}
use Rattle.byteorder.specs.Numbers.{length-bytes_high_first}
use Rattle.potential_cert.specs.TableBytes.{big_endian}
use Rattle.potential_cert.specs.Shapes.{is_outside}
use Rattle.potential_cert.specs.Readings.{BeginsWithNumber}
use Rattle.potential_cert.proofs.Codes.{number_one}
use Rattle.window_cert.specs.declared.header.Header.{Header}
use Rattle.window_cert.specs.Certs.{Numbers}
use Rattle.window_cert.specs.Bytes.{header_bytes, HeaderFits}
use Rattle.window_cert.specs.Headers.{raw_bytes, RawFits, numbers_in, is_header}
use Rattle.window_cert.specs.Readings.{BeginsWith, BeginsWithNone}
use Rattle.window_cert.proofs.Begins.{IsOne, begins_one}

raw_cut : (h : Header) (r : List ℕ) → raw_bytes h ++ r
    ≡ big_endian 4 h.mark ++ (big_endian 2 h.version ++ (big_endian 2 h.vertices ++ (big_endian 2 h.slots ++ (big_endian 1 h.weights.load ++ (big_endian 1 h.weights.store ++ (big_endian 4 h.bound ++ r))))))
raw_cut h r = refl

pub raw_one : IsOne raw_bytes RawFits
raw_one h k r s a b e =
    let mark = number_one 4 h.mark k.mark _ _ a.mark b.mark (sym (raw_cut h r) ∙ e ∙ raw_cut k s) in
    let version = number_one 2 h.version k.version _ _ a.version b.version mark.1 in
    let vertices = number_one 2 h.vertices k.vertices _ _ a.vertices b.vertices version.1 in
    let slots = number_one 2 h.slots k.slots _ _ a.slots b.slots vertices.1 in
    let load = number_one 1 h.weights.load k.weights.load _ _ a.load b.load slots.1 in
    let store = number_one 1 h.weights.store k.weights.store _ _ a.store b.store load.1 in
    let bound = number_one 4 h.bound k.bound r s a.bound b.bound store.1 in (
      (λ i. record {
        mark = mark.0 i;
        version = version.0 i;
        vertices = vertices.0 i;
        slots = slots.0 i;
        weights = record { load = load.0 i; store = store.0 i };
        bound = bound.0 i;
      }),
      bound.1,
    )

-- the numbers of a certificate as if they were read
raw_of : Numbers → Header
raw_of x = record { mark = 1380077655; version = 1; vertices = x.vertices; slots = x.slots; weights = record { load = x.load; store = x.store }; bound = x.bound }

inside : (most n : ℕ) → 1 ≤ n → n ≤ most → not (is_outside most n) ≡ true
inside most n some few = grind (arith, nat_tests)

ranges_of : (most n : ℕ) → not (is_outside most n) ≡ true → (1 ≤ n) × (n ≤ most)
ranges_of most n is = (some_of most n is, few_of most n is)
  where
    some_of : (most n : ℕ) → not (is_outside most n) ≡ true → 1 ≤ n
    some_of most n is = grind (arith, nat_tests)

    few_of : (most n : ℕ) → not (is_outside most n) ≡ true → n ≤ most
    few_of most n is = grind (arith, nat_tests)

both_true : (a b : Bool) → a ≡ true → b ≡ true → (a && b) ≡ true
both_true a b p q = grind arith

tests_pass : (x : Numbers) → HeaderFits x → is_header (raw_of x) ≡ true
unfolding raw_of
tests_pass x fits =
    both_true _ _ refl (both_true _ _ refl (both_true _ _ (inside 256 x.vertices fits.some_vertices fits.vertices)
    (both_true _ _ (inside 64 x.slots fits.some_slots fits.slots)
    (both_true _ _ (inside 16 x.load fits.some_load fits.load) (inside 16 x.store fits.some_store fits.store)))))

raw_fits : (x : Numbers) → HeaderFits x → RawFits (raw_of x)
unfolding raw_of
raw_fits x fits = record {
  mark = omega arith;
  version = omega arith;
  vertices = let few = fits.vertices in omega arith;
  slots = let few = fits.slots in omega arith;
  load = let few = fits.load in omega arith;
  store = let few = fits.store in omega arith;
  bound = fits.bound;
}

same_bytes : (x : Numbers) → header_bytes x ≡ raw_bytes (raw_of x)
unfolding raw_of
same_bytes x = refl

pub short_header : (bytes : List ℕ) → length bytes < 16 → BeginsWithNone header_bytes HeaderFits bytes
short_header bytes short rest x begins =
    let whole = ap length begins.bytes_are ∙ length-append (header_bytes x) rest in
    let many : length (header_bytes x) ≡ 16 = refl in
    omega arith

pub other_header : (bytes r : List ℕ) (h : Header) → BeginsWith raw_bytes RawFits bytes r h → is_header h ≡ false → BeginsWithNone header_bytes HeaderFits bytes
other_header bytes r h raw fails rest x begins =
    let same = begins_one raw_bytes RawFits raw_one bytes r rest h (raw_of x) raw
    (record { fits = raw_fits x begins.fits; bytes_are = begins.bytes_are ∙ ap (λ y. y ++ rest) (same_bytes x) }) in
    let pass = ap is_header same.0 ∙ tests_pass x begins.fits in
    grind arith

-- what passes the tests
record Passes (h : Header) : Type 0 where
  mark : h.mark ≡ 1380077655
  version : h.version ≡ 1
  fits : h.bound < 2 ^ 32 → HeaderFits (numbers_in h)

equal_of : (a b : ℕ) → eqb a b ≡ true → a ≡ b
equal_of a b e = grind (arith, nat_tests)

passes : (h : Header) → is_header h ≡ true → Passes h
passes h is =
    let a = and_parts _ _ is in
    let b = and_parts _ _ a.1 in
    let c = and_parts _ _ b.1 in
    let d = and_parts _ _ c.1 in
    let e = and_parts _ _ d.1 in
    let vertices = ranges_of 256 h.vertices c.0 in
    let slots = ranges_of 64 h.slots d.0 in
    let load = ranges_of 16 h.weights.load e.0 in
    let store = ranges_of 16 h.weights.store e.1 in
    record {
      mark = equal_of h.mark 1380077655 a.0;
      version = equal_of h.version 1 b.0;
      fits = λ bound. record {
        some_vertices = vertices.0;
        vertices = vertices.1;
        some_slots = slots.0;
        slots = slots.1;
        some_load = load.0;
        load = load.1;
        some_store = store.0;
        store = store.1;
        bound = bound;
      };
    }

raw_is : (h : Header) → h.mark ≡ 1380077655 → h.version ≡ 1 → h ≡ raw_of (numbers_in h)
unfolding raw_of
raw_is h mark version = λ i. record { mark = mark i; version = version i; vertices = h.vertices; slots = h.slots; weights = h.weights; bound = h.bound }

pub header_begins : (bytes r : List ℕ) (h : Header) → BeginsWith raw_bytes RawFits bytes r h → is_header h ≡ true → BeginsWith header_bytes HeaderFits bytes r (numbers_in h)
header_begins bytes r h raw is =
    let pass = passes h is in
    record {
      fits = pass.fits raw.fits.bound;
      bytes_are = raw.bytes_are ∙ ap (λ h. raw_bytes h ++ r) (raw_is h pass.mark pass.version) ∙ ap (λ y. y ++ r) (sym (same_bytes (numbers_in h)));
    }

-- the numbers that were taken one after another
pub raw_read : (bytes r1 r2 r3 r4 r5 r6 r7 : List ℕ) (h : Header) → BeginsWithNumber 4 bytes r1 h.mark → BeginsWithNumber 2 r1 r2 h.version → BeginsWithNumber 2 r2 r3 h.vertices
    → BeginsWithNumber 2 r3 r4 h.slots → BeginsWithNumber 1 r4 r5 h.weights.load → BeginsWithNumber 1 r5 r6 h.weights.store → BeginsWithNumber 4 r6 r7 h.bound → BeginsWith raw_bytes RawFits bytes r7 h
raw_read bytes r1 r2 r3 r4 r5 r6 r7 h mark version vertices slots load store bound = record {
  fits = record { mark = mark.fits; version = version.fits; vertices = vertices.fits; slots = slots.fits; load = load.fits; store = store.fits; bound = bound.fits };
  bytes_are =
      mark.bytes_are ∙ ap (λ x. big_endian 4 h.mark ++ x) (version.bytes_are ∙ ap (λ x. big_endian 2 h.version ++ x) (vertices.bytes_are
      ∙ ap (λ x. big_endian 2 h.vertices ++ x) (slots.bytes_are ∙ ap (λ x. big_endian 2 h.slots ++ x) (load.bytes_are
      ∙ ap (λ x. big_endian 1 h.weights.load ++ x) (store.bytes_are ∙ ap (λ x. big_endian 1 h.weights.store ++ x) bound.bytes_are)))))
      ∙ sym (raw_cut h r7);
}

-- how many bytes are left
pub number_left : (k n : ℕ) (bytes r : List ℕ) → BeginsWithNumber k bytes r n → length bytes ≡ k + length r
number_left k n bytes r begins = let whole = ap length begins.bytes_are ∙ length-append (big_endian k n) r in let many = length-bytes_high_first k n in omega arith
