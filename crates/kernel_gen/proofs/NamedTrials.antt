-- The names of a trial kernel have no fault, and each place names an element of the pool.
use Rattle.std.proofs.Common.{◌≡◌, ℕ, ℤ, pos, ◌+◌, ◌-◌, ◌*◌, ◌/◌, ◌%◌, ◌≤◌, ◌<◌, Bool, true, false, cond, ltb, List, [], ◌∷◌, ◌++◌, codes, map, Some, None, refl, sym, ap, ◌∙◌, arith, ltb-true}
use Rattle.kernel_ast.specs.declared.tree.IndexTree.{IndexTree}
use Rattle.kernel_ast.specs.declared.tree.IndexTree.TheVariants as index
use Rattle.kernel_ast.specs.declared.tree.IndexLink.{IndexLink}
use Rattle.kernel_ast.specs.declared.tree.Place.{Place}
use Rattle.kernel_ast.specs.declared.tree.Expr.TheVariants as expr
use Rattle.kernel_ast.specs.declared.element.Cell.{Cell}
use Rattle.kernel_ast.specs.Places.{cell}
use Rattle.kernel_lexer.specs.declared.token.Token.{Token}
use Rattle.kernel_lexer.specs.Spelling.{Text}
use Rattle.kernel_parser.specs.declared.names.scope.NameMeaning.TheVariants.{Element}
use Rattle.kernel_syntax.specs.declared.raw.Span.{Span}
use Rattle.kernel_syntax.specs.declared.raw.RawIndexTree.TheOpen as open_raw
use Rattle.kernel_syntax.specs.declared.raw.RawIndexTree.TheVariants as raw
use Rattle.kernel_syntax.specs.declared.raw.RawIndexTree.TheFolds.{fold-roll-RawIndexTree}
use Rattle.kernel_syntax.specs.declared.raw.RawPlace.{RawPlace}
use Rattle.kernel_parser.specs.NameFaults.{NameFault}
use Rattle.kernel_parser.specs.Names as names
use Rattle.kernel_parser.specs.Names.{Known, known_in, name_meaning, name_meaning_by, open_at, declared_at, word, place_faults, target_place_faults}
use Rattle.kernel_parser.specs.Resolved as tree
use Rattle.kernel_parser.specs.Resolved.{index_of, place_of, target_of}
use Rattle.kernel_syntax.specs.Tokens.{number_of}
use Rattle.kernel_syntax.specs.Trees.{index_number}
use Rattle.kernel_lexer.specs.declared.token.TokenKind.TheVariants.{Name}
use Rattle.kernel_gen.proofs.Pieces.{AreSpelled, behind, token}
use Rattle.kernel_gen.proofs.Decimals.{number}
use Rattle.kernel_gen.proofs.Pool.{IsIndex, IsPlace, index_is, input_place, pool_cell, temporary_place, trial_decls}
use Rattle.kernel_gen.proofs.TrialPieces.{close_bracket, element_pieces, input_pieces, open_bracket, piece, temporary_pieces}
use Rattle.kernel_gen.proofs.ReadTrials.{element_raw, input_raw, temporary_raw}

-- what is known in a statement
abbrev pub known : Text → Known
known text = known_in text trial_decls []

-- ---- indices

index_tree_is : (k : Known) (n : ℤ) → tree.index_tree k (raw.Number n) ≡ index.Number n
index_tree_is k n = ap (tree.index_tree k) (sym (raw.rolls-Number n)) ∙ fold-roll-RawIndexTree IndexTree IndexLink (tree.index_tree_step k) tree.index_link_step (open_raw.Number n)

index_faultless : (k : Known) (n : ℤ) → names.index_tree_faults k (raw.Number n) ≡ []
index_faultless k n = ap (names.index_tree_faults k) (sym (raw.rolls-Number n)) ∙ fold-roll-RawIndexTree (List NameFault) (List NameFault) (names.index_faults_step k) names.index_link_step (open_raw.Number n)

number_index : (k : Known) (t : Token) (v : ℕ) → number_of t.kind ≡ pos v → v ≤ 1000000 → IsIndex (index_of k (index_number t)) v
number_index k t v e h = index_is (index_of k (index_number t)) v (index_tree_is k (number_of t.kind) ∙ ap (λ n. index.Number n) e) h

-- ---- what names stand for

pub named : (text : Text) (s : Span) (name : Text) (d : ℕ) → word text s ≡ name → declared_at trial_decls name ≡ Some d → name_meaning (known text) s ≡ Element d
named text s name d e f = ap (λ w. name_meaning_by None (declared_at trial_decls w)) e ∙ ap (name_meaning_by None) f

-- the place that is made of a written one, if its name stands for a declaration
abbrev pub place_in : Text → RawPlace → ℕ → Place
place_in text p d = record { decl = d; indices = map (index_of (known text)) p.indices; at = p.name.from }

-- A written place that is read as an element.
pub record IsRead (text : Text) (p : RawPlace) (c : Cell) : Type 0 where
  pub place : Place
  pub is : place_of (known text) p ≡ expr.Cell place
  pub faultless : place_faults (known text) p ≡ []
  pub names : IsPlace place c

-- A written place that may be assigned to.
pub record IsTarget (text : Text) (p : RawPlace) (c : Cell) : Type 0 where
  pub place : Place
  pub is : target_of (known text) p ≡ place
  pub faultless : target_place_faults (known text) p ≡ []
  pub names : IsPlace place c

input_read : (text : Text) (at : ℕ) (gap : Text) (j : ℕ) → j < 16 → AreSpelled text at (input_pieces gap j) → IsRead text (input_raw at gap j) (cell 0 j)
input_read text at gap j h s =
    let p = input_raw at gap j in
    let k = known text in
    let m : name_meaning k p.name ≡ Element 0 = named text p.name (codes "x") 0 s.0 refl in
    record {
      place = place_in text p 0;
      is = ap (λ z. tree.read_of z (map (index_of k) p.indices) p.name.from) m;
      faultless = ap (λ z. names.read_faults trial_decls z 1 p.name.from ++ names.indices_faults k p.indices) m ∙ ap (λ z. z ++ []) (index_faultless k (pos j));
      names = let t = token (behind at (piece gap (codes "x") Name ∷ open_bracket ∷ [])) (number j) in input_place (index_of k (index_number t)) p.name.from j h (number_index k t j refl (omega arith));
    }

temporary_names : (text : Text) (at : ℕ) (gap : Text) (i : ℕ) → i < 256 → IsPlace (place_in text (temporary_raw at gap i) 2) (cell 2 ((i % 64) * 4 + i / 64))
temporary_names text at gap i h =
    let k = known text in
    let name = piece gap (codes "t") Name in
    let t = token (behind at (name ∷ open_bracket ∷ [])) (number (i % 64)) in
    let u = token (behind at (name ∷ open_bracket ∷ number (i % 64) ∷ close_bracket ∷ open_bracket ∷ [])) (number (i / 64)) in
    temporary_place (index_of k (index_number t)) (index_of k (index_number u)) (token at name).from (i % 64) (i / 64) (omega arith) (omega arith)
    (number_index k t (i % 64) refl (omega arith)) (number_index k u (i / 64) refl (omega arith))

temporary_read : (text : Text) (at : ℕ) (gap : Text) (i : ℕ) → i < 256 → AreSpelled text at (temporary_pieces gap i) → IsRead text (temporary_raw at gap i) (cell 2 ((i % 64) * 4 + i / 64))
temporary_read text at gap i h s =
    let p = temporary_raw at gap i in
    let k = known text in
    let m : name_meaning k p.name ≡ Element 2 = named text p.name (codes "t") 2 s.0 refl in
    record {
      place = place_in text p 2;
      is = ap (λ z. tree.read_of z (map (index_of k) p.indices) p.name.from) m;
      faultless = ap (λ z. names.read_faults trial_decls z 2 p.name.from ++ names.indices_faults k p.indices) m
          ∙ ap (λ z. z ++ (names.index_tree_faults k (raw.Number (pos (i / 64))) ++ [])) (index_faultless k (pos (i % 64))) ∙ ap (λ z. z ++ []) (index_faultless k (pos (i / 64)));
      names = temporary_names text at gap i h;
    }

temporary_target : (text : Text) (at : ℕ) (gap : Text) (i : ℕ) → i < 256 → AreSpelled text at (temporary_pieces gap i) → IsTarget text (temporary_raw at gap i) (cell 2 ((i % 64) * 4 + i / 64))
temporary_target text at gap i h s =
    let p = temporary_raw at gap i in
    let k = known text in
    let m : name_meaning k p.name ≡ Element 2 = named text p.name (codes "t") 2 s.0 refl in
    record {
      place = place_in text p 2;
      is = ap (λ z. record { decl = tree.decl_of z; indices = map (index_of k) p.indices; at = p.name.from }) m;
      faultless = ap (λ z. names.target_faults trial_decls z 2 p.name.from ++ names.indices_faults k p.indices) m
          ∙ ap (λ z. z ++ (names.index_tree_faults k (raw.Number (pos (i / 64))) ++ [])) (index_faultless k (pos (i % 64))) ∙ ap (λ z. z ++ []) (index_faultless k (pos (i / 64)));
      names = temporary_names text at gap i h;
    }

pub element_is_read : (text : Text) (at : ℕ) (gap : Text) (j : ℕ) → j < 272 → AreSpelled text at (element_pieces gap j) → IsRead text (element_raw at gap j) (pool_cell j)
element_is_read text at gap j h s = step (ltb j 16) refl s
  where
    step : (b : Bool) → ltb j 16 ≡ b → AreSpelled text at (cond b (input_pieces gap j) (temporary_pieces gap (j - 16)))
        → IsRead text (cond b (input_raw at gap j) (temporary_raw at gap (j - 16))) (cond b (cell 0 j) (cell 2 (((j - 16) % 64) * 4 + (j - 16) / 64)))
    step true e s = input_read text at gap j (ltb-true j 16 e) s
    step false e s = temporary_read text at gap (j - 16) (omega arith) s

pub element_is_target : (text : Text) (at : ℕ) (gap : Text) (j : ℕ) → 16 ≤ j → j < 272 → AreSpelled text at (element_pieces gap j) → IsTarget text (element_raw at gap j) (pool_cell j)
element_is_target text at gap j low h s = step (ltb j 16) refl s
  where
    step : (b : Bool) → ltb j 16 ≡ b → AreSpelled text at (cond b (input_pieces gap j) (temporary_pieces gap (j - 16)))
        → IsTarget text (cond b (input_raw at gap j) (temporary_raw at gap (j - 16))) (cond b (cell 0 j) (cell 2 (((j - 16) % 64) * 4 + (j - 16) / 64)))
    step true e s = let l = ltb-true j 16 e in absurd (omega (arith, l))
    step false e s = temporary_target text at gap (j - 16) (omega arith) s
