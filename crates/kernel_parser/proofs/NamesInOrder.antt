-- The faults of the names of a text's own tree stand in order, rule by rule of the grammar.
use Rattle.std.proofs.Common.{◌≡◌, ◌≤◌, ◌∷◌, ◌++◌, [], ℕ, zero, suc, Bool, true, false, List, map, length, Option, Some, None, append-nil, refl, sym, ap, ◌∙◌, subst, arith, inr}
use Rattle.kernel_ast.specs.KernelParts.{Declared}
use Rattle.kernel_lexer.specs.declared.token.Keyword.TheVariants as w
use Rattle.kernel_lexer.specs.declared.token.Mark.TheVariants as m
use Rattle.kernel_lexer.specs.declared.token.Token.{Token}
use Rattle.kernel_lexer.specs.Laws.{AreSpans}
use Rattle.kernel_lexer.proofs.Spans.{spans_rise}
use Rattle.kernel_parser.specs.declared.names.scope.NameMeaning.{NameMeaning}
use Rattle.kernel_parser.specs.declared.names.scope.NameMeaning.TheVariants.{Turn, Element, Unknown}
use Rattle.kernel_parser.specs.declared.names.fault.NameRule.{NameRule}
use Rattle.kernel_parser.specs.declared.names.fault.NameRule.TheVariants as faults
use Rattle.kernel_syntax.specs.declared.raw.RawSize.{RawSize}
use Rattle.kernel_syntax.specs.declared.raw.RawDecl.{RawDecl}
use Rattle.kernel_syntax.specs.declared.raw.RawIndex.{RawIndex}
use Rattle.kernel_syntax.specs.declared.raw.RawPlace.{RawPlace}
use Rattle.kernel_syntax.specs.declared.raw.RawExpr.{RawExpr}
use Rattle.kernel_syntax.specs.declared.raw.RawExpr.TheVariants as expr
use Rattle.kernel_syntax.specs.declared.raw.RawLoop.{RawLoop}
use Rattle.kernel_syntax.specs.declared.raw.RawBranch.{RawBranch}
use Rattle.kernel_syntax.specs.declared.raw.RawStmt.{RawStmt}
use Rattle.kernel_syntax.specs.declared.raw.RawStmt.TheOpen as open_stmt
use Rattle.kernel_syntax.specs.declared.raw.RawStmt.TheVariants as stmt
use Rattle.kernel_syntax.specs.declared.raw.RawStmt.TheFolds.{fold-roll-RawStmt}
use Rattle.kernel_parser.specs.NameFaults.{NameFault, unless}
use Rattle.kernel_parser.specs.Names.{Known, known_in, word, name_meaning, index_name_faults, index_link_faults, index_faults, indices_faults, read_faults, target_faults, place_faults, target_place_faults, expr_faults, link_faults, twice_faults, step_faults, header_faults, condition_faults, assign_faults, stmt_faults_step, stmt_faults, body_faults, is_size, sizes_faults, declared, decls_faults, name_faults}
use Rattle.kernel_parser.specs.TextLaws.{NameFaultsInOrder}
use Rattle.kernel_syntax.specs.Tokens.{is_name, is_number, is_relation, is_role, is_pair, is_triple, sign, span, number_of, op_of, relation_of}
use Rattle.kernel_syntax.specs.Tokens as token
use Rattle.kernel_syntax.specs.Trees as tree
use Rattle.kernel_syntax.specs.Grammar as rule
use Rattle.kernel_parser.proofs.Expressions.{index_number_has_faults, index_name_has_faults, index_minus_has_faults, index_chain_has_faults, index_link_has_faults, number_has_faults, place_has_faults, minus_has_faults, chain_has_faults, link_has_faults, call_has_faults}
use Rattle.kernel_parser.proofs.FaultPlaces.{Within, wider, within_both, Rise, parts, Stand, same_stand, made_stand, either_stand, one_stand, both_stand, front_stand, behind_stand, brackets_stand, ranked_stand}
use Rattle.token_grammar.specs.Phrases.{Phrase, One, Both, Either, Made, Many, Maybe}

-- ---- the faults at one name

unless_stands : (test : Bool) (rule : NameRule) (at : ℕ) → Within at (suc at) (unless test rule at)
unless_stands true rule at = (tt, tt)
unless_stands false rule at = ((tt, tt), (omega arith, omega arith, tt))

index_name_stands : (m : NameMeaning) (at : ℕ) → Within at (suc at) (index_name_faults m at)
index_name_stands (Turn k) at = (tt, tt)
index_name_stands (Element d) at = unless_stands false faults.Unknown at
index_name_stands Unknown at = unless_stands false faults.Unknown at

read_stands : (decls : List Declared) (m : NameMeaning) (count at : ℕ) → Within at (suc at) (read_faults decls m count at)
read_stands decls (Turn k) count at = unless_stands _ faults.Indices at
read_stands decls (Element d) count at = unless_stands _ faults.Indices at
read_stands decls Unknown count at = unless_stands false faults.Unknown at

both_at_name : (writable sized : Bool) (at : ℕ) → Within at (suc at) (unless writable faults.NotWritable at ++ unless sized faults.Indices at)
both_at_name true sized at = unless_stands sized faults.Indices at
both_at_name false true at = unless_stands false faults.NotWritable at
both_at_name false false at = (((inr (refl, omega arith), tt), (tt, tt)), (omega arith, omega arith, (omega arith, omega arith, tt)))

target_stands : (decls : List Declared) (m : NameMeaning) (count at : ℕ) → Within at (suc at) (target_faults decls m count at)
target_stands decls (Turn k) count at = unless_stands false faults.NotWritable at
target_stands decls (Element d) count at = both_at_name _ _ at
target_stands decls Unknown count at = unless_stands false faults.Unknown at

twice_stands : (m : NameMeaning) (at : ℕ) → Within at (suc at) (twice_faults m at)
twice_stands (Turn k) at = unless_stands false faults.Twice at
twice_stands (Element d) at = unless_stands false faults.Twice at
twice_stands Unknown at = (tt, tt)

module _ (known : Known) where
  -- ---- indices

  abbrev IndexStand : Phrase Token RawIndex → Type 0
  IndexStand R = Stand R (index_faults known)

  index_of : (R : Phrase Token RawIndex) → IndexStand R → IndexStand (rule.IndexOf R)
  index_of R x = ranked_stand tree.index_link tree.index_chain (index_faults known) (index_link_faults known) (λ t i. index_link_has_faults known (op_of t.kind) i.tree) (λ i. refl) (λ i l ls. index_chain_has_faults known i.tree (l ∷ ls)) 2 R x

  index_leaf : IndexStand rule.IndexLeaf
  index_leaf =
      either_stand (Made tree.index_number (One is_number)) (Made tree.index_name (One is_name)) (index_faults known)
      (made_stand tree.index_number (One is_number) (index_faults known)
      (one_stand is_number (λ t. index_faults known (tree.index_number t)) (λ t. subst (Within t.from (suc t.from)) (sym (index_number_has_faults known (number_of t.kind))) (tt, tt))))
      (made_stand tree.index_name (One is_name) (index_faults known)
      (one_stand is_name (λ t. index_faults known (tree.index_name t)) (λ t. subst (Within t.from (suc t.from)) (sym (index_name_has_faults known (span t))) (index_name_stands (name_meaning known (span t)) t.from))))

  index_negated : (R : Phrase Token RawIndex) → IndexStand R → IndexStand (rule.IndexNegated R)
  index_negated R x =
      made_stand tree.index_minus (Both (One (sign m.Minus)) R) (index_faults known)
      (same_stand (Both (One (sign m.Minus)) R) (λ p. index_faults known (tree.index_minus p)) (λ p. index_faults known p.1) (λ p. index_minus_has_faults known p.1.tree)
      (behind_stand (One (sign m.Minus)) R (index_faults known) x))

  index_group : (R : Phrase Token RawIndex) → IndexStand R → IndexStand (rule.IndexGroup R)
  index_group R x =
      made_stand tree.index_group (Both (One (sign m.OpenParen)) (Both R (One (sign m.CloseParen)))) (index_faults known)
      (behind_stand (One (sign m.OpenParen)) (Both R (One (sign m.CloseParen))) (λ p. index_faults known p.0) (front_stand R (One (sign m.CloseParen)) (index_faults known) x))

  index_unary : (d : ℕ) → IndexStand (rule.IndexUnary d)
  index_unary zero = index_leaf
  index_unary (suc d) =
      either_stand (rule.IndexOpened (rule.IndexUnary d)) rule.IndexLeaf (index_faults known)
      (either_stand (rule.IndexNegated (rule.IndexUnary d)) (rule.IndexGroup (rule.IndexOf (rule.IndexUnary d))) (index_faults known)
      (index_negated (rule.IndexUnary d) (index_unary d)) (index_group (rule.IndexOf (rule.IndexUnary d)) (index_of (rule.IndexUnary d) (index_unary d))))
      index_leaf

  index_stands : (d : ℕ) → IndexStand (rule.Index d)
  index_stands d = index_of (rule.IndexUnary d) (index_unary d)

  -- ---- places

  index_bracket : (d : ℕ) → IndexStand (rule.Bracket tree.inside (rule.Index d))
  index_bracket d =
      made_stand tree.inside (Both (One (sign m.OpenBracket)) (Both (rule.Index d) (One (sign m.CloseBracket)))) (index_faults known)
      (behind_stand (One (sign m.OpenBracket)) (Both (rule.Index d) (One (sign m.CloseBracket))) (λ p. index_faults known p.0)
      (front_stand (rule.Index d) (One (sign m.CloseBracket)) (index_faults known) (index_stands d)))

  -- the name and the indices of a place
  abbrev Named : ℕ → Phrase Token (Token × List RawIndex)
  Named d = Both (One is_name) (rule.Brackets (rule.Bracket tree.inside (rule.Index d)))

  named : (d : ℕ) (at_name : Token → ℕ → List NameFault) → ((t : Token) (count : ℕ) → Within t.from (suc t.from) (at_name t count)) → Stand (Named d) (λ p. at_name p.0 (length p.1) ++ indices_faults known p.1)
  named d at_name x lo hi word (t, is) h (u, v, w, (one, n), r) =
      let p = parts lo hi word u v w h in
      let q = subst (Rise lo p.mid) one p.front in
      within_both lo p.mid hi (at_name t (length is)) (indices_faults known is) p.low p.high
      (wider lo t.from (suc t.from) p.mid (at_name t (length is)) q.0 q.1 (x t (length is)))
      (brackets_stand (rule.Bracket tree.inside (rule.Index d)) (index_faults known) (indices_faults known) refl (λ a more. refl) (index_bracket d) p.mid hi v is p.behind r)

  place_stands : (d : ℕ) → Stand (rule.Place d) (place_faults known)
  place_stands d = made_stand tree.place (Named d) (place_faults known) (named d (λ t count. read_faults known.decls (name_meaning known (span t)) count t.from) (λ t count. read_stands known.decls (name_meaning known (span t)) count t.from))

  target_stand : (d : ℕ) → Stand (rule.Place d) (target_place_faults known)
  target_stand d = made_stand tree.place (Named d) (target_place_faults known) (named d (λ t count. target_faults known.decls (name_meaning known (span t)) count t.from) (λ t count. target_stands known.decls (name_meaning known (span t)) count t.from))

  -- ---- expressions

  abbrev ExprStand : Phrase Token RawExpr → Type 0
  ExprStand R = Stand R (expr_faults known)

  expr_of : (R : Phrase Token RawExpr) → ExprStand R → ExprStand (rule.ExprOf R)
  expr_of R x = ranked_stand tree.link tree.chain (expr_faults known) (link_faults known) (λ t e. link_has_faults known (op_of t.kind) e t.from) (λ e. refl) (λ e l ls. chain_has_faults known e (l ∷ ls)) 5 R x

  leaf : (d : ℕ) → ExprStand (rule.Leaf d)
  leaf d =
      either_stand (Made tree.number (One is_number)) (Made expr.Place (rule.Place d)) (expr_faults known)
      (made_stand tree.number (One is_number) (expr_faults known)
      (one_stand is_number (λ t. expr_faults known (tree.number t)) (λ t. subst (Within t.from (suc t.from)) (sym (number_has_faults known (number_of t.kind))) (tt, tt))))
      (made_stand expr.Place (rule.Place d) (expr_faults known) (same_stand (rule.Place d) (λ p. expr_faults known (expr.Place p)) (place_faults known) (place_has_faults known) (place_stands d)))

  negated : (R : Phrase Token RawExpr) → ExprStand R → ExprStand (rule.Negated R)
  negated R x =
      made_stand tree.minus (Both (One (sign m.Minus)) R) (expr_faults known)
      (same_stand (Both (One (sign m.Minus)) R) (λ p. expr_faults known (tree.minus p)) (λ p. expr_faults known p.1) (λ p. minus_has_faults known p.1 p.0.from)
      (behind_stand (One (sign m.Minus)) R (expr_faults known) x))

  group : (R : Phrase Token RawExpr) → ExprStand R → ExprStand (rule.Group R)
  group R x =
      made_stand tree.inside (Both (One (sign m.OpenParen)) (Both R (One (sign m.CloseParen)))) (expr_faults known)
      (behind_stand (One (sign m.OpenParen)) (Both R (One (sign m.CloseParen))) (λ p. expr_faults known p.0) (front_stand R (One (sign m.CloseParen)) (expr_faults known) x))

  -- the last argument, and what stands behind it
  abbrev Last : Phrase Token RawExpr → Phrase Token (RawExpr × Token)
  Last R = Both R (One (sign m.CloseParen))

  -- an argument, a comma, and what stands behind it
  abbrev Then : {A : Type 0} → Phrase Token RawExpr → Phrase Token A → Phrase Token (RawExpr × (Token × A))
  Then R S = Both R (Both (One (sign m.Comma)) S)

  last_stands : (R : Phrase Token RawExpr) → ExprStand R → Stand (Last R) (λ p. expr_faults known p.0 ++ [])
  last_stands R x = same_stand (Last R) (λ p. expr_faults known p.0 ++ []) (λ p. expr_faults known p.0) (λ p. append-nil (expr_faults known p.0)) (front_stand R (One (sign m.CloseParen)) (expr_faults known) x)

  then_stands : {A : Type 0} (R : Phrase Token RawExpr) (S : Phrase Token A) (f : A → List NameFault) → ExprStand R → Stand S f → Stand (Then R S) (λ p. expr_faults known p.0 ++ f p.1.1)
  then_stands R S f x y = both_stand R (Both (One (sign m.Comma)) S) (expr_faults known) (λ e q. f q.1) x (λ e. behind_stand (One (sign m.Comma)) S f y)

  pair : (R : Phrase Token RawExpr) → ExprStand R → ExprStand (rule.Pair R)
  pair R x =
      made_stand tree.pair (Both (One is_pair) (Both (One (sign m.OpenParen)) (Then R (Last R)))) (expr_faults known)
      (same_stand (Both (One is_pair) (Both (One (sign m.OpenParen)) (Then R (Last R)))) (λ p. expr_faults known (tree.pair p))
      (λ p. expr_faults known p.1.1.0 ++ (expr_faults known p.1.1.1.1.0 ++ []))
      (λ p. call_has_faults known (op_of p.0.kind) (p.1.1.0 ∷ p.1.1.1.1.0 ∷ []) p.0.from)
      (behind_stand (One is_pair) (Both (One (sign m.OpenParen)) (Then R (Last R))) (λ p. expr_faults known p.1.0 ++ (expr_faults known p.1.1.1.0 ++ []))
      (behind_stand (One (sign m.OpenParen)) (Then R (Last R)) (λ p. expr_faults known p.0 ++ (expr_faults known p.1.1.0 ++ []))
      (then_stands R (Last R) (λ p. expr_faults known p.0 ++ []) x (last_stands R x)))))

  triple : (R : Phrase Token RawExpr) → ExprStand R → ExprStand (rule.Triple R)
  triple R x =
      made_stand tree.triple (Both (One is_triple) (Both (One (sign m.OpenParen)) (Then R (Then R (Last R))))) (expr_faults known)
      (same_stand (Both (One is_triple) (Both (One (sign m.OpenParen)) (Then R (Then R (Last R))))) (λ p. expr_faults known (tree.triple p))
      (λ p. expr_faults known p.1.1.0 ++ (expr_faults known p.1.1.1.1.0 ++ (expr_faults known p.1.1.1.1.1.1.0 ++ [])))
      (λ p. call_has_faults known (op_of p.0.kind) (p.1.1.0 ∷ p.1.1.1.1.0 ∷ p.1.1.1.1.1.1.0 ∷ []) p.0.from)
      (behind_stand (One is_triple) (Both (One (sign m.OpenParen)) (Then R (Then R (Last R)))) (λ p. expr_faults known p.1.0 ++ (expr_faults known p.1.1.1.0 ++ (expr_faults known p.1.1.1.1.1.0 ++ [])))
      (behind_stand (One (sign m.OpenParen)) (Then R (Then R (Last R))) (λ p. expr_faults known p.0 ++ (expr_faults known p.1.1.0 ++ (expr_faults known p.1.1.1.1.0 ++ [])))
      (then_stands R (Then R (Last R)) (λ p. expr_faults known p.0 ++ (expr_faults known p.1.1.0 ++ [])) x
      (then_stands R (Last R) (λ p. expr_faults known p.0 ++ []) x (last_stands R x))))))

  unary : (d : ℕ) → ExprStand (rule.Unary d)
  unary zero = leaf 0
  unary (suc d) =
      let R : Phrase Token RawExpr = rule.ExprOf (rule.Unary d) in
      let x = expr_of (rule.Unary d) (unary d) in
      either_stand (rule.Opened (rule.Unary d)) (rule.Leaf (suc d)) (expr_faults known)
      (either_stand (rule.Negated (rule.Unary d)) (Either (rule.Group R) (Either (rule.Pair R) (rule.Triple R))) (expr_faults known) (negated (rule.Unary d) (unary d))
      (either_stand (rule.Group R) (Either (rule.Pair R) (rule.Triple R)) (expr_faults known) (group R x)
      (either_stand (rule.Pair R) (rule.Triple R) (expr_faults known) (pair R x) (triple R x))))
      (leaf (suc d))

  expr_stands : (d : ℕ) → ExprStand (rule.Expr d)
  expr_stands d = expr_of (rule.Unary d) (unary d)

  -- ---- statements

  assigned : (d : ℕ) → Stand (Both (rule.Place d) (Both (One (sign m.Assign)) (Both (rule.Expr d) (One (sign m.Semicolon))))) (λ p. assign_faults known p.0 p.1.1.0)
  assigned d =
      both_stand (rule.Place d) (Both (One (sign m.Assign)) (Both (rule.Expr d) (One (sign m.Semicolon)))) (target_place_faults known) (λ target p. expr_faults known p.1.0) (target_stand d)
      (λ target. behind_stand (One (sign m.Assign)) (Both (rule.Expr d) (One (sign m.Semicolon))) (λ p. expr_faults known p.0) (front_stand (rule.Expr d) (One (sign m.Semicolon)) (expr_faults known) (expr_stands d)))

  step_stands : (d : ℕ) → Stand (Maybe (rule.Step d)) (step_faults known)
  step_stands d lo hi word None h e = (tt, tt)
  step_stands d lo hi word (Some by) h r =
      made_stand tree.behind (Both (One (token.word w.By)) (rule.Index d)) (index_faults known) (behind_stand (One (token.word w.By)) (rule.Index d) (index_faults known) (index_stands d)) lo hi word by h r

  -- the second bound and the step of a loop
  abbrev Upper : ℕ → Phrase Token (RawIndex × Option RawIndex)
  Upper d = Both (rule.Index d) (Maybe (rule.Step d))

  -- both bounds and the step
  abbrev Bounds : ℕ → Phrase Token (RawIndex × (Token × (RawIndex × Option RawIndex)))
  Bounds d = Both (rule.Index d) (Both (One (sign m.Dots)) (Upper d))

  -- the faults of these
  abbrev bounds_faults : RawIndex × (Token × (RawIndex × Option RawIndex)) → List NameFault
  bounds_faults p = index_faults known p.0 ++ (index_faults known p.1.1.0 ++ step_faults known p.1.1.1)

  bounds_stand : (d : ℕ) → Stand (Bounds d) bounds_faults
  bounds_stand d =
      both_stand (rule.Index d) (Both (One (sign m.Dots)) (Upper d)) (index_faults known) (λ from p. index_faults known p.1.0 ++ step_faults known p.1.1) (index_stands d)
      (λ from. behind_stand (One (sign m.Dots)) (Upper d) (λ p. index_faults known p.0 ++ step_faults known p.1)
      (both_stand (rule.Index d) (Maybe (rule.Step d)) (index_faults known) (λ to by. step_faults known by) (index_stands d) (λ to. step_stands d)))

  header_stands : (d : ℕ) → Stand (rule.Header d) (header_faults known)
  header_stands d =
      made_stand tree.header (Both (One (token.word w.Loop)) (Both (One is_name) (Both (One (token.word w.Input)) (Bounds d)))) (header_faults known)
      (behind_stand (One (token.word w.Loop)) (Both (One is_name) (Both (One (token.word w.Input)) (Bounds d))) (λ p. twice_faults (name_meaning known (span p.0)) p.0.from ++ bounds_faults p.1.1)
      (both_stand (One is_name) (Both (One (token.word w.Input)) (Bounds d)) (λ t. twice_faults (name_meaning known (span t)) t.from) (λ t p. bounds_faults p.1)
      (one_stand is_name (λ t. twice_faults (name_meaning known (span t)) t.from) (λ t. twice_stands (name_meaning known (span t)) t.from))
      (λ t. behind_stand (One (token.word w.Input)) (Bounds d) bounds_faults (bounds_stand d))))

  condition_stands : (d : ℕ) → Stand (rule.Condition d) (condition_faults known)
  condition_stands d =
      made_stand tree.condition (Both (One (token.word w.If)) (Both (rule.Index d) (Both (One is_relation) (rule.Index d)))) (condition_faults known)
      (behind_stand (One (token.word w.If)) (Both (rule.Index d) (Both (One is_relation) (rule.Index d))) (λ p. index_faults known p.0 ++ index_faults known p.1.1)
      (both_stand (rule.Index d) (Both (One is_relation) (rule.Index d)) (index_faults known) (λ left p. index_faults known p.1) (index_stands d)
      (λ left. behind_stand (One is_relation) (rule.Index d) (index_faults known) (index_stands d))))

module _ (text : List ℕ) where
  module _ (decls : List Declared) where
    assign_is : (target : RawPlace) (value : RawExpr) (loops : List (List ℕ)) → stmt_faults text decls (stmt.Assign target value) loops ≡ assign_faults (known_in text decls loops) target value
    assign_is target value loops =
        ap (λ s. stmt_faults text decls s loops) (sym (stmt.rolls-Assign target value)) ∙ ap (λ f. f loops) (fold-roll-RawStmt (List (List ℕ) → List NameFault) (stmt_faults_step text decls) (open_stmt.Assign target value))

    loop_is : (header : RawLoop) (body : List RawStmt) (loops : List (List ℕ)) → stmt_faults text decls (stmt.Loop header body) loops ≡ header_faults (known_in text decls loops) header ++ body_faults text decls body (loops ++ word text header.name ∷ [])
    loop_is header body loops =
        ap (λ s. stmt_faults text decls s loops) (sym (stmt.rolls-Loop header body)) ∙ ap (λ f. f loops) (fold-roll-RawStmt (List (List ℕ) → List NameFault) (stmt_faults_step text decls) (open_stmt.Loop header body))

    branch_is : (condition : RawBranch) (taken other : List RawStmt) (loops : List (List ℕ))
        → stmt_faults text decls (stmt.Branch condition taken other) loops ≡ condition_faults (known_in text decls loops) condition ++ (body_faults text decls taken loops ++ body_faults text decls other loops)
    branch_is condition taken other loops =
        ap (λ s. stmt_faults text decls s loops) (sym (stmt.rolls-Branch condition taken other)) ∙ ap (λ f. f loops) (fold-roll-RawStmt (List (List ℕ) → List NameFault) (stmt_faults_step text decls) (open_stmt.Branch condition taken other))

    -- what is read as a statement has its faults in order, in any loops
    abbrev StatementsStand : Phrase Token RawStmt → Type 0
    StatementsStand R = (loops : List (List ℕ)) → Stand R (λ s. stmt_faults text decls s loops)

    assigned_stands : (d : ℕ) → StatementsStand (rule.Assigned d)
    assigned_stands d loops =
        let known = known_in text decls loops in
        made_stand tree.assign (Both (rule.Place d) (Both (One (sign m.Assign)) (Both (rule.Expr d) (One (sign m.Semicolon))))) (λ s. stmt_faults text decls s loops)
        (same_stand (Both (rule.Place d) (Both (One (sign m.Assign)) (Both (rule.Expr d) (One (sign m.Semicolon))))) (λ p. stmt_faults text decls (tree.assign p) loops) (λ p. assign_faults known p.0 p.1.1.0)
        (λ p. assign_is p.0 p.1.1.0 loops) (assigned known d))

    body_stands : (R : Phrase Token RawStmt) → StatementsStand R → (loops : List (List ℕ)) → Stand (Many R) (λ body. body_faults text decls body loops)
    body_stands R x loops lo hi word [] h e = (tt, tt)
    body_stands R x loops lo hi word (s ∷ more) h (u, v, w, r, rs) =
        let p = parts lo hi word u v w h in
        within_both lo p.mid hi (stmt_faults text decls s loops) (body_faults text decls more loops) p.low p.high (x loops lo p.mid u s p.front r) (body_stands R x loops p.mid hi v more p.behind rs)

    block_stands : (R : Phrase Token RawStmt) → StatementsStand R → (loops : List (List ℕ)) → Stand (rule.Block R) (λ body. body_faults text decls body loops)
    block_stands R x loops =
        made_stand tree.inside (Both (One (sign m.OpenBrace)) (Both (Many R) (One (sign m.CloseBrace)))) (λ body. body_faults text decls body loops)
        (behind_stand (One (sign m.OpenBrace)) (Both (Many R) (One (sign m.CloseBrace))) (λ p. body_faults text decls p.0 loops)
        (front_stand (Many R) (One (sign m.CloseBrace)) (λ body. body_faults text decls body loops) (body_stands R x loops)))

    other_stands : (R : Phrase Token RawStmt) → StatementsStand R → (loops : List (List ℕ)) → Stand (Maybe (rule.Otherwise R)) (λ o. body_faults text decls (tree.or_none o) loops)
    other_stands R x loops lo hi word None h e = (tt, tt)
    other_stands R x loops lo hi word (Some body) h r =
        made_stand tree.behind (Both (One (token.word w.Else)) (rule.Block R)) (λ b. body_faults text decls b loops)
        (behind_stand (One (token.word w.Else)) (rule.Block R) (λ b. body_faults text decls b loops) (block_stands R x loops)) lo hi word body h r

    looped_stands : (d : ℕ) (R : Phrase Token RawStmt) → StatementsStand R → StatementsStand (rule.Looped d R)
    looped_stands d R x loops =
        let known = known_in text decls loops in
        made_stand tree.loop (Both (rule.Header d) (rule.Block R)) (λ s. stmt_faults text decls s loops)
        (same_stand (Both (rule.Header d) (rule.Block R)) (λ p. stmt_faults text decls (tree.loop p) loops) (λ p. header_faults known p.0 ++ body_faults text decls p.1 (loops ++ word text p.0.name ∷ []))
        (λ p. loop_is p.0 p.1 loops)
        (both_stand (rule.Header d) (rule.Block R) (header_faults known) (λ header body. body_faults text decls body (loops ++ word text header.name ∷ [])) (header_stands known d)
        (λ header. block_stands R x (loops ++ word text header.name ∷ []))))

    branched_stands : (d : ℕ) (R : Phrase Token RawStmt) → StatementsStand R → StatementsStand (rule.Branched d R)
    branched_stands d R x loops =
        let known = known_in text decls loops in
        made_stand tree.branch (Both (rule.Condition d) (Both (rule.Block R) (Maybe (rule.Otherwise R)))) (λ s. stmt_faults text decls s loops)
        (same_stand (Both (rule.Condition d) (Both (rule.Block R) (Maybe (rule.Otherwise R)))) (λ p. stmt_faults text decls (tree.branch p) loops)
        (λ p. condition_faults known p.0 ++ (body_faults text decls p.1.0 loops ++ body_faults text decls (tree.or_none p.1.1) loops))
        (λ p. branch_is p.0 p.1.0 (tree.or_none p.1.1) loops)
        (both_stand (rule.Condition d) (Both (rule.Block R) (Maybe (rule.Otherwise R))) (condition_faults known)
        (λ condition p. body_faults text decls p.0 loops ++ body_faults text decls (tree.or_none p.1) loops) (condition_stands known d)
        (λ condition. both_stand (rule.Block R) (Maybe (rule.Otherwise R)) (λ b. body_faults text decls b loops) (λ taken o. body_faults text decls (tree.or_none o) loops) (block_stands R x loops)
        (λ taken. other_stands R x loops))))

    statement_stands : (d : ℕ) → StatementsStand (rule.Statement d)
    statement_stands zero loops = assigned_stands 0 loops
    statement_stands (suc d) loops =
        let R : Phrase Token RawStmt = rule.Statement d in
        either_stand (rule.Nested d R) (rule.Assigned (suc d)) (λ s. stmt_faults text decls s loops)
        (either_stand (rule.Looped d R) (rule.Branched d R) (λ s. stmt_faults text decls s loops) (looped_stands d R (statement_stands d) loops) (branched_stands d R (statement_stands d) loops))
        (assigned_stands (suc d) loops)

  -- ---- declarations

  -- the fault of a size
  abbrev size_faults : RawSize → List NameFault
  size_faults size = unless (is_size size.value) faults.BadSize size.at

  size_stands : Stand rule.Size size_faults
  size_stands =
      made_stand tree.size (Both (One (sign m.OpenBracket)) (Both (One is_number) (One (sign m.CloseBracket)))) size_faults
      (behind_stand (One (sign m.OpenBracket)) (Both (One is_number) (One (sign m.CloseBracket))) (λ p. unless (is_size (number_of p.0.kind)) faults.BadSize p.0.from)
      (front_stand (One is_number) (One (sign m.CloseBracket)) (λ t. unless (is_size (number_of t.kind)) faults.BadSize t.from)
      (one_stand is_number (λ t. unless (is_size (number_of t.kind)) faults.BadSize t.from) (λ t. unless_stands (is_size (number_of t.kind)) faults.BadSize t.from))))

  -- the faults of a declaration behind others
  abbrev decl_faults : List Declared → RawDecl → List NameFault
  decl_faults earlier d = twice_faults (name_meaning (known_in text earlier []) d.name) d.name.from ++ sizes_faults d.sizes

  decl_stands : (earlier : List Declared) → Stand rule.Declared (decl_faults earlier)
  decl_stands earlier =
      let known = known_in text earlier [] in
      made_stand tree.declare (Both (One is_role) (Both (One is_name) (Both (rule.Brackets rule.Size) (One (sign m.Semicolon))))) (decl_faults earlier)
      (behind_stand (One is_role) (Both (One is_name) (Both (rule.Brackets rule.Size) (One (sign m.Semicolon)))) (λ p. twice_faults (name_meaning known (span p.0)) p.0.from ++ sizes_faults p.1.0)
      (both_stand (One is_name) (Both (rule.Brackets rule.Size) (One (sign m.Semicolon))) (λ t. twice_faults (name_meaning known (span t)) t.from) (λ t p. sizes_faults p.0)
      (one_stand is_name (λ t. twice_faults (name_meaning known (span t)) t.from) (λ t. twice_stands (name_meaning known (span t)) t.from))
      (λ t. front_stand (rule.Brackets rule.Size) (One (sign m.Semicolon)) sizes_faults (brackets_stand rule.Size size_faults sizes_faults refl (λ a more. refl) size_stands))))

  decls_stand : (earlier : List Declared) → Stand (Many rule.Declared) (decls_faults text earlier)
  decls_stand earlier lo hi word [] h e = (tt, tt)
  decls_stand earlier lo hi word (d ∷ more) h (u, v, w, r, rs) =
      let p = parts lo hi word u v w h in
      within_both lo p.mid hi (decl_faults earlier d) (decls_faults text (earlier ++ declared text d ∷ []) more) p.low p.high (decl_stands earlier lo p.mid u d p.front r)
      (decls_stand (earlier ++ declared text d ∷ []) p.mid hi v more p.behind rs)

  -- ---- kernels

  -- the statements of a kernel
  abbrev Body : ℕ → Phrase Token (List RawStmt × Token)
  Body d = Both (Many (rule.Statement d)) (One (sign m.CloseBrace))

  -- its declarations and its statements
  abbrev Inner : ℕ → Phrase Token (List RawDecl × (List RawStmt × Token))
  Inner d = Both (Many rule.Declared) (Body d)

  -- the faults of these
  abbrev inner_faults : List RawDecl × (List RawStmt × Token) → List NameFault
  inner_faults p = decls_faults text [] p.0 ++ body_faults text (map (declared text) p.0) p.1.0 []

  inner_stands : (d : ℕ) → Stand (Inner d) inner_faults
  inner_stands d =
      both_stand (Many rule.Declared) (Body d) (decls_faults text []) (λ ds p. body_faults text (map (declared text) ds) p.0 []) (decls_stand [])
      (λ ds. front_stand (Many (rule.Statement d)) (One (sign m.CloseBrace)) (λ body. body_faults text (map (declared text) ds) body [])
      (body_stands (map (declared text) ds) (rule.Statement d) (statement_stands (map (declared text) ds) d) []))

  whole_stands : (d : ℕ) → Stand (rule.Whole d) (name_faults text)
  whole_stands d =
      made_stand tree.kernel (Both (One (token.word w.Kernel)) (Both (One is_name) (Both (One (sign m.OpenBrace)) (Inner d)))) (name_faults text)
      (behind_stand (One (token.word w.Kernel)) (Both (One is_name) (Both (One (sign m.OpenBrace)) (Inner d))) (λ p. inner_faults p.1.1)
      (behind_stand (One is_name) (Both (One (sign m.OpenBrace)) (Inner d)) (λ p. inner_faults p.1)
      (behind_stand (One (sign m.OpenBrace)) (Inner d) inner_faults (inner_stands d))))

-- ---- texts

tokens_rise : (text : List ℕ) (low place : ℕ) (ts : List Token) → low ≤ place → AreSpans text place ts → Rise low (length text) ts
tokens_rise text low place [] l h = omega (arith, l, h)
tokens_rise text low place (t ∷ ts) l (a, b, s, h) = (omega (arith, l, a), tokens_rise text (suc t.from) t.to ts (omega (arith, b)) h)

pub name_faults_in_order : NameFaultsInOrder
name_faults_in_order text tokens raw w =
    (whole_stands text 32 0 (length text) tokens raw (tokens_rise text 0 0 tokens (omega arith) (spans_rise text tokens w.spelled)) w.read).0
