-- A certificate has one spelling, and no spelling begins another.
use Rattle.std.proofs.Common.{◌≡◌, ℕ, List, ◌∷◌, ◌++◌, refl, sym, ap, ◌∙◌, subst, arith, append_assoc}
use Rattle.std.specs.Prelude.{codes}
use Rattle.comp_graph.specs.Vertices.{AllBelow}
use Rattle.potential_cert.specs.declared.tables.Row.{Row}
use Rattle.potential_cert.specs.TableBytes.{big_endian}
use Rattle.potential_cert.proofs.Codes.{number_one, split_one}
use Rattle.window_cert.specs.Certs.{each, of_tracked, by_works, WindowParts, Numbers, CertParts, numbers_of}
use Rattle.window_cert.specs.Bytes.{set_bytes, counted, charged_bytes, renaming_bytes, row_bytes, window_bytes, header_bytes, bytes_of, AllFit, ChargedFits, RenamingFits, RowFits, WindowFits, HeaderFits, CertSpellingIsOne}
use Rattle.window_cert.proofs.Begins.{IsOne, list_one, counted_one}
use Rattle.window_cert.proofs.OneSet.{byte_apart, set_one}

-- ---- charged loads

other_form : (a b : ℕ) (r s : List ℕ) → a ∷ r ≡ b ∷ s → (a ≡ b → ⊥) → ⊥
other_form a b r s e apart = apart (byte_apart a b r s e).0

pub charged_one : (n : ℕ) → IsOne (charged_bytes n) (ChargedFits n)
charged_one n (each xs) (each ys) r s a b e =
    let rest = list_one (set_bytes n) (AllBelow n) (set_one n) xs ys r s (a.0 ∙ sym b.0) a.1 b.1 (byte_apart 0 0 _ _ e).1 in
    (ap each rest.0, rest.1)
charged_one n (each xs) of_tracked r s a b e = absurd (other_form 0 1 _ _ e (λ q. omega arith))
charged_one n (each xs) (by_works y) r s a b e = absurd (other_form 0 2 _ _ e (λ q. omega arith))
charged_one n of_tracked (each ys) r s a b e = absurd (other_form 1 0 _ _ e (λ q. omega arith))
charged_one n of_tracked of_tracked r s a b e = (refl, (byte_apart 1 1 r s e).1)
charged_one n of_tracked (by_works y) r s a b e = absurd (other_form 1 2 _ _ e (λ q. omega arith))
charged_one n (by_works x) (each ys) r s a b e = absurd (other_form 2 0 _ _ e (λ q. omega arith))
charged_one n (by_works x) of_tracked r s a b e = absurd (other_form 2 1 _ _ e (λ q. omega arith))
charged_one n (by_works x) (by_works y) r s a b e =
    let rest = set_one n x y r s a b (byte_apart 2 2 _ _ e).1 in
    (ap by_works rest.0, rest.1)

-- ---- renamings and rows

pub renaming_one : (n : ℕ) → IsOne renaming_bytes (RenamingFits n)
renaming_one n x y r s a b e = split_one x y r s (a.many ∙ sym b.many) e

pub row_cut : (n : ℕ) (x : Row) (r : List ℕ) → row_bytes n x ++ r ≡ set_bytes n x.position.red ++ (set_bytes n x.position.blue ++ (big_endian 4 x.cost ++ r))
row_cut n x r =
    append_assoc (set_bytes n x.position.red) (set_bytes n x.position.blue ++ big_endian 4 x.cost) r
    ∙ ap (λ y. set_bytes n x.position.red ++ y) (append_assoc (set_bytes n x.position.blue) (big_endian 4 x.cost) r)

pub row_one : (n : ℕ) → IsOne (row_bytes n) (RowFits n)
row_one n x y r s a b e =
    let red = set_one n x.position.red y.position.red _ _ a.red b.red (sym (row_cut n x r) ∙ e ∙ row_cut n y s) in
    let blue = set_one n x.position.blue y.position.blue _ _ a.blue b.blue red.1 in
    let cost = number_one 4 x.cost y.cost r s a.cost b.cost blue.1 in
    ((λ i. record { position = record { red = red.0 i; blue = blue.0 i }; cost = cost.0 i }), cost.1)

-- ---- windows

pub window_cut : (n : ℕ) (w : WindowParts) (r : List ℕ) → window_bytes n w ++ r
    ≡ charged_bytes n w.charged ++ (set_bytes n w.stores ++ (set_bytes n w.tracked ++ (set_bytes n w.required
    ++ (counted renaming_bytes w.renamings ++ (big_endian 4 w.bound ++ (counted (row_bytes n) w.rows ++ r))))))
window_cut n w r =
    append_assoc (charged_bytes n w.charged) _ r
    ∙ ap (λ y. charged_bytes n w.charged ++ y) (append_assoc (set_bytes n w.stores) _ r
    ∙ ap (λ y. set_bytes n w.stores ++ y) (append_assoc (set_bytes n w.tracked) _ r
    ∙ ap (λ y. set_bytes n w.tracked ++ y) (append_assoc (set_bytes n w.required) _ r
    ∙ ap (λ y. set_bytes n w.required ++ y) (append_assoc (counted renaming_bytes w.renamings) _ r
    ∙ ap (λ y. counted renaming_bytes w.renamings ++ y) (append_assoc (big_endian 4 w.bound) (counted (row_bytes n) w.rows) r)))))

pub renamings_one : (n : ℕ) → IsOne (counted renaming_bytes) (AllFit (RenamingFits n))
renamings_one n = counted_one renaming_bytes (RenamingFits n) (renaming_one n)

pub rows_one : (n : ℕ) → IsOne (counted (row_bytes n)) (AllFit (RowFits n))
rows_one n = counted_one (row_bytes n) (RowFits n) (row_one n)

pub window_one : (n : ℕ) → IsOne (window_bytes n) (WindowFits n)
window_one n x y r s a b e =
    let charged = charged_one n x.charged y.charged _ _ a.charged b.charged (sym (window_cut n x r) ∙ e ∙ window_cut n y s) in
    let stores = set_one n x.stores y.stores _ _ a.stores b.stores charged.1 in
    let tracked = set_one n x.tracked y.tracked _ _ a.tracked b.tracked stores.1 in
    let required = set_one n x.required y.required _ _ a.required b.required tracked.1 in
    let renamings = renamings_one n x.renamings y.renamings _ _ a.renamings b.renamings required.1 in
    let bound = number_one 4 x.bound y.bound _ _ a.bound b.bound renamings.1 in
    let rows = rows_one n x.rows y.rows r s a.rows b.rows bound.1 in (
      (λ i. record {
        charged = charged.0 i;
        stores = stores.0 i;
        tracked = tracked.0 i;
        required = required.0 i;
        renamings = renamings.0 i;
        bound = bound.0 i;
        rows = rows.0 i;
      }),
      rows.1,
    )

pub windows_one : (n : ℕ) → IsOne (counted (window_bytes n)) (AllFit (WindowFits n))
windows_one n = counted_one (window_bytes n) (WindowFits n) (window_one n)

-- ---- the whole

pub header_cut : (h : Numbers) (r : List ℕ) → header_bytes h ++ r
    ≡ codes "RBPW" ++ (big_endian 2 1 ++ (big_endian 2 h.vertices ++ (big_endian 2 h.slots ++ (big_endian 1 h.load ++ (big_endian 1 h.store ++ (big_endian 4 h.bound ++ r))))))
header_cut h r = refl

pub header_one : IsOne header_bytes HeaderFits
header_one h k r s a b e =
    let mark = split_one (codes "RBPW") (codes "RBPW") _ _ refl (sym (header_cut h r) ∙ e ∙ header_cut k s) in
    let version = split_one (big_endian 2 1) (big_endian 2 1) _ _ refl mark.1 in
    let vertices = number_one 2 h.vertices k.vertices _ _ (let few = a.vertices in omega arith) (let few = b.vertices in omega arith) version.1 in
    let slots = number_one 2 h.slots k.slots _ _ (let few = a.slots in omega arith) (let few = b.slots in omega arith) vertices.1 in
    let load = number_one 1 h.load k.load _ _ (let few = a.load in omega arith) (let few = b.load in omega arith) slots.1 in
    let store = number_one 1 h.store k.store _ _ (let few = a.store in omega arith) (let few = b.store in omega arith) load.1 in
    let bound = number_one 4 h.bound k.bound r s a.bound b.bound store.1 in
    ((λ i. record { vertices = vertices.0 i; slots = slots.0 i; load = load.0 i; store = store.0 i; bound = bound.0 i }), bound.1)

pub whole_cut : (c : CertParts) (r : List ℕ) → bytes_of c ++ r ≡ header_bytes (numbers_of c) ++ (counted (window_bytes c.vertices) c.windows ++ r)
whole_cut c r = append_assoc (header_bytes (numbers_of c)) (counted (window_bytes c.vertices) c.windows) r

pub cert_spelling_is_one : CertSpellingIsOne
cert_spelling_is_one c d r s a b e =
    let numbers = header_one (numbers_of c) (numbers_of d) _ _ a.numbers b.numbers (sym (whole_cut c r) ∙ e ∙ whole_cut d s) in
    let same : c.vertices ≡ d.vertices = ap (λ h. h.vertices) numbers.0 in
    let windows = windows_one c.vertices c.windows d.windows r s a.windows
    (subst (λ n. AllFit (WindowFits n) d.windows) (sym same) b.windows)
    (numbers.1 ∙ ap (λ n. counted (window_bytes n) d.windows ++ s) (sym same)) in (
      (λ i. record {
        vertices = (numbers.0 i).vertices;
        slots = (numbers.0 i).slots;
        load = (numbers.0 i).load;
        store = (numbers.0 i).store;
        bound = (numbers.0 i).bound;
        windows = windows.0 i;
      }),
      windows.1,
    )
