-- The text of a trial kernel is an accepted kernel.
use Rattle.std.proofs.Common.{◌≡◌, ℕ, zero, suc, ◌+◌, ◌≤◌, ◌<◌, List, [], ◌∷◌, ◌++◌, codes, map, refl, sym, ap, ◌∙◌, arith}
use Rattle.kernel_ast.specs.declared.tree.DeclKind.TheVariants as role
use Rattle.kernel_ast.specs.declared.tree.Expr.{Expr}
use Rattle.kernel_ast.specs.declared.tree.Expr.TheVariants as expr
use Rattle.kernel_ast.specs.declared.tree.Link.{Link, roll-Link}
use Rattle.kernel_ast.specs.declared.tree.Stmt.{Stmt}
use Rattle.kernel_ast.specs.declared.tree.Stmt.TheVariants as stmt
use Rattle.kernel_ast.specs.KernelParts.{Declared, KernelParts}
use Rattle.kernel_lexer.specs.declared.token.Token.{Token}
use Rattle.kernel_lexer.specs.Spelling.{Text}
use Rattle.kernel_parser.specs.declared.names.scope.NameMeaning.TheVariants.{Element}
use Rattle.kernel_syntax.specs.declared.raw.RawExpr.{RawExpr, fold-RawExpr}
use Rattle.kernel_syntax.specs.declared.raw.RawExpr.TheOpen as open_raw
use Rattle.kernel_syntax.specs.declared.raw.RawExpr.TheOpen.{RawExpr-F, RawLink-F}
use Rattle.kernel_syntax.specs.declared.raw.RawExpr.TheVariants as raw
use Rattle.kernel_syntax.specs.declared.raw.RawExpr.TheFolds.{fold-RawLink, fold-roll-RawExpr, fold-roll-RawLink}
use Rattle.kernel_syntax.specs.declared.raw.RawPlace.{RawPlace}
use Rattle.kernel_syntax.specs.declared.raw.RawStmt.{RawStmt}
use Rattle.kernel_syntax.specs.declared.raw.RawStmt.TheOpen.{Assign}
use Rattle.kernel_syntax.specs.declared.raw.RawStmt.TheVariants as raw_stmt
use Rattle.kernel_syntax.specs.declared.raw.RawStmt.TheFolds.{fold-roll-RawStmt}
use Rattle.kernel_parser.specs.NameFaults.{NameFault}
use Rattle.kernel_parser.specs.Names as names
use Rattle.kernel_parser.specs.Names.{Known, declared, name_meaning, name_meaning_by, declared_at, name_faults, place_faults, word}
use Rattle.kernel_parser.specs.Resolved as tree
use Rattle.kernel_syntax.specs.Tokens.{op_of}
use Rattle.kernel_syntax.specs.Trees as trees
use Rattle.kernel_gen.specs.Trials.{left_operand, trial_kernel}
use Rattle.kernel_gen.specs.Laws.{IsTrial, TrialsAreAccepted}
use Rattle.kernel_gen.proofs.Pieces.{AreSpelled, behind, spelled-append, token, tokens}
use Rattle.kernel_gen.proofs.TrialPieces.{assign, body_pieces, close_brace, element_pieces, heading_pieces, left_below, line_feed, operator_piece, output_pieces, semicolon, space, statement_pieces, trial_pieces, value_pieces}
use Rattle.kernel_gen.proofs.ReadTrials.{body_raw, decls_raw, element_raw, output_name, output_raw, statement_raw, trial_raw, value_raw}
use Rattle.kernel_gen.proofs.WrittenTrials.{trial_spelled, trial_written}
use Rattle.kernel_gen.proofs.Pool.{trial_decls}
use Rattle.kernel_gen.proofs.NamedTrials.{element_is_read, element_is_target, known, named, place_in}
use Rattle.kernel_gen.proofs.RunTrials.{AreLines, IsLast, IsLine, binary, trial_run}

-- ---- values

module _ (A B : Type 0) (f : RawExpr-F A B → A) (g : RawLink-F A B → B) where
  fold_place : (p : RawPlace) → fold-RawExpr A B f g (raw.Place p) ≡ f (open_raw.Place p)
  fold_place p = ap (fold-RawExpr A B f g) (sym (raw.rolls-Place p)) ∙ fold-roll-RawExpr A B f g (open_raw.Place p)

  fold_two : (t : Token) (p q : RawPlace) → fold-RawExpr A B f g (trees.chain (raw.Place p, trees.link (t, raw.Place q) ∷ []))
      ≡ f (open_raw.Chain (f (open_raw.Place p)) (g (record { op = op_of t.kind; value = f (open_raw.Place q); at = t.from }) ∷ []))
  fold_two t p q =
      let l = trees.link (t, raw.Place q) in
      let link : fold-RawLink A B f g l ≡ g (record { op = op_of t.kind; value = f (open_raw.Place q); at = t.from })
      = fold-roll-RawLink A B f g (record { op = op_of t.kind; value = raw.Place q; at = t.from }) ∙ ap (λ v. g (record { op = op_of t.kind; value = v; at = t.from })) (fold_place q) in
      ap (fold-RawExpr A B f g) (sym (raw.rolls-Chain (raw.Place p) (l ∷ []))) ∙ fold-roll-RawExpr A B f g (open_raw.Chain (raw.Place p) (l ∷ []))
      ∙ ap (λ z. f (open_raw.Chain z (fold-RawLink A B f g l ∷ []))) (fold_place p) ∙ ap (λ z. f (open_raw.Chain (f (open_raw.Place p)) (z ∷ []))) link

-- ---- statements

stmt_is : (text : Text) (p : RawPlace) (e : RawExpr) → tree.stmt_of text trial_decls (raw_stmt.Assign p e) [] ≡ tree.assign_of (known text) p e
stmt_is text p e =
    ap (λ s. tree.stmt_of text trial_decls s []) (sym (raw_stmt.rolls-Assign p e)) ∙ ap (λ f. f []) (fold-roll-RawStmt (List (List ℕ) → Stmt) (tree.stmt_step text trial_decls) (Assign p e))

stmt_faults_are : (text : Text) (p : RawPlace) (e : RawExpr) → names.stmt_faults text trial_decls (raw_stmt.Assign p e) [] ≡ names.assign_faults (known text) p e
stmt_faults_are text p e =
    ap (λ s. names.stmt_faults text trial_decls s []) (sym (raw_stmt.rolls-Assign p e)) ∙ ap (λ f. f []) (fold-roll-RawStmt (List (List ℕ) → List NameFault) (names.stmt_faults_step text trial_decls) (Assign p e))

-- The written statement has no fault of names.
record IsMade (text : Text) (r : RawStmt) (Q : Stmt → Type 0) : Type 0 where
  good : Q (tree.stmt_of text trial_decls r [])
  faultless : names.stmt_faults text trial_decls r [] ≡ []

line_made : (text : Text) (at n i : ℕ) → n ≤ 200 → i < 200 → AreSpelled text at (statement_pieces n i) → IsMade text (statement_raw at n i) (λ s. IsLine s i)
line_made text at n i h k s =
    let kn = known text in
    let target = element_pieces line_feed (16 + i) in
    let t = token (behind at target) assign in
    let first = element_pieces space (left_operand n i) in
    let o = token (behind t.to first) (operator_piece i) in
    let second = element_pieces space (15 + i) in
    let b = left_below n i in
    let s1 = spelled-append text at target (assign ∷ value_pieces n i) s in
    let s2 = spelled-append text t.to first (operator_piece i ∷ (second ++ (semicolon ∷ []))) s1.1.1 in
    let s3 = spelled-append text o.to second (semicolon ∷ []) s2.1.1 in
    let x = element_is_target text at line_feed (16 + i) (omega arith) (omega arith) s1.0 in
    let y = element_is_read text t.to space (left_operand n i) (omega arith) s2.0 in
    let z = element_is_read text o.to space (15 + i) (omega arith) s3.0 in
    let p = element_raw at line_feed (16 + i) in
    let q = element_raw t.to space (left_operand n i) in
    let r = element_raw o.to space (15 + i) in
    let value : tree.expr_of kn (value_raw t.to n i) ≡ binary (op_of o.kind) o.from y.place z.place
    = fold_two Expr Link (tree.expr_step kn) tree.link_step o q r
    ∙ ap (λ e. expr.Chain e (roll-Link (record { op = op_of o.kind; value = tree.place_of kn r; at = o.from }) ∷ [])) y.is
    ∙ ap (λ e. expr.Chain (expr.Cell y.place) (roll-Link (record { op = op_of o.kind; value = e; at = o.from }) ∷ [])) z.is in
    let faults : names.expr_faults kn (value_raw t.to n i) ≡ place_faults kn q ++ (place_faults kn r ++ [])
    = fold_two (List NameFault) (List NameFault) (names.expr_faults_step kn) names.link_step o q r in
    record {
      good = record {
        target = x.place;
        left = y.place;
        right = z.place;
        op = op_of o.kind;
        sign_at = o.from;
        at = p.name.from;
        first = left_operand n i;
        second = 15 + i;
        is = stmt_is text p (value_raw t.to n i) ∙ ap (λ a. stmt.Assign a (tree.expr_of kn (value_raw t.to n i)) p.name.from) x.is ∙ ap (λ e. stmt.Assign x.place e p.name.from) value;
        target_is = x.names;
        left_is = y.names;
        right_is = z.names;
        first_before = b;
        second_before = omega arith;
      };
      faultless = stmt_faults_are text p (value_raw t.to n i) ∙ ap (λ f. f ++ names.expr_faults kn (value_raw t.to n i)) x.faultless ∙ faults
          ∙ ap (λ f. f ++ (place_faults kn r ++ [])) y.faultless ∙ ap (λ f. f ++ []) z.faultless;
    }

last_made : (text : Text) (at n : ℕ) → n ≤ 200 → AreSpelled text at (output_pieces n) → IsMade text (output_raw at n) (λ s. IsLast s n)
last_made text at n h s =
    let kn = known text in
    let name = token at output_name in
    let t = token name.to assign in
    let p = trees.place (name, []) in
    let s1 = spelled-append text t.to (element_pieces space (15 + n)) (semicolon ∷ []) s.1.1 in
    let y = element_is_read text t.to space (15 + n) (omega arith) s1.0 in
    let r = element_raw t.to space (15 + n) in
    let m : name_meaning kn p.name ≡ Element 1 = named text p.name (codes "y") 1 s.0 refl in
    let target : tree.target_of kn p ≡ place_in text p 1 = ap (λ z. record { decl = tree.decl_of z; indices = []; at = p.name.from }) m in
    let value : tree.expr_of kn (raw.Place r) ≡ expr.Cell y.place = fold_place Expr Link (tree.expr_step kn) tree.link_step r ∙ y.is in
    let faults : names.expr_faults kn (raw.Place r) ≡ [] = fold_place (List NameFault) (List NameFault) (names.expr_faults_step kn) names.link_step r ∙ y.faultless in
    record {
      good = record {
        target = place_in text p 1;
        value = y.place;
        at = p.name.from;
        is = stmt_is text p (raw.Place r) ∙ ap (λ a. stmt.Assign a (tree.expr_of kn (raw.Place r)) p.name.from) target ∙ ap (λ e. stmt.Assign (place_in text p 1) e p.name.from) value;
        target_is = record { found = refl; light = omega arith };
        value_is = y.names;
      };
      faultless = stmt_faults_are text p (raw.Place r) ∙ ap (λ z. (names.target_faults trial_decls z 0 p.name.from ++ []) ++ names.expr_faults kn (raw.Place r)) m ∙ faults;
    }

-- The written statements are these, without a fault of names.
record AreMade (text : Text) (n i more : ℕ) (rs : List RawStmt) : Type 0 where
  good : AreLines n i more (tree.body_of text trial_decls rs [])
  faultless : names.body_faults text trial_decls rs [] ≡ []

body_made : (text : Text) (at n i more : ℕ) → n ≤ 200 → i + more ≤ 200 → AreSpelled text at (body_pieces n i more) → AreMade text n i more (body_raw at n i more)
body_made text at n i zero h k s =
    let l = last_made text at n h s in
    record { good = (tree.stmt_of text trial_decls (output_raw at n) [], refl, l.good); faultless = ap (λ f. f ++ []) l.faultless }
body_made text at n i (suc more) h k s =
    let next = behind at (statement_pieces n i) in
    let p = spelled-append text at (statement_pieces n i) (body_pieces n (i + 1) more) s in
    let l = line_made text at n i h (omega arith) p.0 in
    let ls = body_made text next n (i + 1) more h (omega arith) p.1 in
    let rest = body_raw next n (i + 1) more in
    record {
      good = (tree.stmt_of text trial_decls (statement_raw at n i) [], tree.body_of text trial_decls rest [], refl, l.good, ls.good);
      faultless = ap (λ f. f ++ names.body_faults text trial_decls rest []) l.faultless ∙ ls.faultless;
    }

-- ---- declarations

-- the declarations with these names
abbrev three : Text → Text → Text → List Declared
three x y t =
    (x, record { kind = role.Input; sizes = 16 ∷ []; at = 18 }) ∷ (y, record { kind = role.Output; sizes = []; at = 29 }) ∷ (t, record { kind = role.Temp; sizes = 64 ∷ 4 ∷ []; at = 36 }) ∷ []

decls_are : (text : Text) → AreSpelled text 0 heading_pieces → map (declared text) decls_raw ≡ trial_decls
unfolding lib.Utf8.encode
decls_are text s =
    let wy = word text (record { from = 29; to = 30 }) in
    let wt = word text (record { from = 36; to = 37 }) in
    ap (λ x. three x wy wt) s.1.1.1.1.0 ∙ ap (λ y. three (codes "x") y wt) s.1.1.1.1.1.1.1.1.1.1.0 ∙ ap (λ t. three (codes "x") (codes "y") t) s.1.1.1.1.1.1.1.1.1.1.1.1.1.0

-- the faults of declarations with these names
abbrev three_faults : Text → Text → Text → List NameFault
three_faults x y t =
    let ds = three x y t in
    (names.twice_faults (name_meaning_by (names.open_at [] x) (declared_at [] x)) 18 ++ [])
    ++ ((names.twice_faults (name_meaning_by (names.open_at [] y) (declared_at ((x, record { kind = role.Input; sizes = 16 ∷ []; at = 18 }) ∷ []) y)) 29 ++ [])
    ++ ((names.twice_faults (name_meaning_by (names.open_at [] t) (declared_at ((x, record { kind = role.Input; sizes = 16 ∷ []; at = 18 }) ∷ (y, record { kind = role.Output; sizes = []; at = 29 }) ∷ []) t)) 36 ++ []) ++ []))

decls_faultless : (text : Text) → AreSpelled text 0 heading_pieces → names.decls_faults text [] decls_raw ≡ []
unfolding lib.Utf8.encode
decls_faultless text s =
    let wy = word text (record { from = 29; to = 30 }) in
    let wt = word text (record { from = 36; to = 37 }) in
    ap (λ x. three_faults x wy wt) s.1.1.1.1.0 ∙ ap (λ y. three_faults (codes "x") y wt) s.1.1.1.1.1.1.1.1.1.1.0 ∙ ap (λ t. three_faults (codes "x") (codes "y") t) s.1.1.1.1.1.1.1.1.1.1.1.1.1.0

-- ---- kernels

trial_accepted : (n : ℕ) → n ≤ 200 → IsTrial n
unfolding lib.Utf8.encode
trial_accepted n h =
    let text = trial_kernel n in
    let spelled = spelled-append text 0 heading_pieces (body_pieces n 0 n ++ (close_brace ∷ [])) (trial_spelled n h) in
    let inner = spelled-append text 45 (body_pieces n 0 n) (close_brace ∷ []) spelled.1 in
    let made = body_made text 45 n 0 n h (omega arith) inner.0 in
    let raws = body_raw 45 n 0 n in
    let title = word text (record { from = 7; to = 12 }) in
    let decls = decls_are text spelled.0 in
    let body = tree.body_of text trial_decls raws [] in
    let kernel : KernelParts = record { title = title; decls = trial_decls; body = body } in
    let g = trial_run n title body h made.good in
    record {
      kernel = kernel;
      graph = g.graph;
      accepted = record {
        reads = record {
          tokens = tokens 0 (trial_pieces n);
          raw = trial_raw n;
          written = trial_written n h;
          faultless = ap (λ ds. names.decls_faults text [] decls_raw ++ names.body_faults text ds raws []) decls ∙ ap (λ f. f ++ names.body_faults text trial_decls raws []) (decls_faultless text spelled.0) ∙ made.faultless;
          means = ap (λ ds. record { title = title; decls = ds; body = tree.body_of text ds raws [] }) (sym decls);
        };
        evaluated = g.is;
      };
      vertices = g.count;
    }

pub trials_accepted : TrialsAreAccepted
trials_accepted n low h = trial_accepted n h
