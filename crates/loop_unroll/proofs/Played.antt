-- To go through the items of an expression with a stack is to evaluate it.
use Rattle.std.proofs.Common.{◌≡◌, ◌+◌, ◌-◌, ◌++◌, ◌==◌, ℕ, ℤ, List, [], ◌∷◌, map, length, take, drop, refl, sym, ap, ◌∙◌, subst, Result, Ok, Err, Bool, true, ◌&&◌, arith}
use Rattle.std.specs.List.{list_all}
use Rattle.std.proofs.lemmas.Bool.{eqb-true, and_parts}
use Rattle.std.proofs.Math.Seq.{take-append_seam, drop-append_seam}
use Rattle.std.proofs.lemmas.List.{length-append, length-map, length_push, append_assoc, append-nil}
use Rattle.comp_graph.specs.declared.operation.Op.{Op}
use Rattle.comp_graph.specs.declared.operation.Op.TheVariants as op
use Rattle.comp_graph.specs.Operations.{arity_of}
use Rattle.kernel_ast.specs.declared.tree.Expr.{Expr, roll-Expr}
use Rattle.kernel_ast.specs.declared.tree.Expr.TheOpen.{Expr-F, Link-F, Number, Turn, Minus, Chain, Call}
use Rattle.kernel_ast.specs.declared.tree.Expr.TheOpen as expr
use Rattle.kernel_ast.specs.declared.tree.Expr.TheFolds.{fold-Link, fold-roll-Expr, fold-roll-Link, ind-Expr, map-Expr, map-Link}
use Rattle.kernel_ast.specs.declared.tree.Link.{Link, roll-Link}
use Rattle.kernel_ast.specs.declared.tree.Place.{Place}
use Rattle.kernel_ast.specs.declared.element.Fault.{Fault}
use Rattle.kernel_ast.specs.declared.element.Cell.{Cell}
use Rattle.kernel_ast.specs.KernelParts.{Declared}
use Rattle.kernel_ast.specs.Steps.{and_then, in_turn, each}
use Rattle.kernel_ast.specs.Places.{located, turn}
use Rattle.kernel_ast.specs.Machine.{Machine, Run, Elements, unset, read_option, read, chain, arguments, expr_step, link_step, evaluate}
use Rattle.kernel_ast.specs.WellFormed.{are_operators, is_function, all, expr_fits_step, expr_fits}
use Rattle.kernel_ast.specs.WellFormed as well
use Rattle.loop_unroll.specs.declared.flat.Item.{Item}
use Rattle.loop_unroll.specs.declared.flat.Item.TheVariants as item
use Rattle.loop_unroll.specs.Flats.{Writer, items_of, items_step, items_link_step, link_of, link_items, read_item}
use Rattle.loop_unroll.specs.Plays.{pushed, play}
use Rattle.loop_unroll.proofs.Operators.{is_operator, two_operands, operators}
use Rattle.loop_unroll.proofs.Walks.{each-append}

below_is : {A : Type 0} (st args : List A) (n : ℕ) → length args ≡ n → length (st ++ args) - n ≡ length st
below_is st args n h = let e : length (st ++ args) ≡ length st + length args = length-append st args in omega (arith, e, h)

module _ {K S : Type 0} (M : Machine K S) (decls : List Declared) (loops : ℕ) (indices : List ℤ) (elements : Elements K) where
  abbrev Effect : Type 0
  Effect = List K × S → Result (List K × S) Fault

  abbrev plays : List Item → Effect
  plays = each (play M elements)

  abbrev Acts : Writer → Effect → Type 0
  Acts w t = (found : List Item) (r : List K × S) → and_then (w found) (λ items. plays items r) ≡ and_then (w found) (λ _. and_then (plays found r) t)

  assoc : {A B C : Type 0} (o : Result A Fault) (f : A → Result B Fault) (g : B → Result C Fault) → and_then (and_then o f) g ≡ and_then o (λ a. and_then (f a) g)
  assoc (Ok a) f g = refl
  assoc (Err x) f g = refl

  ended : {A : Type 0} (o : Result A Fault) → and_then o (λ a. Ok a) ≡ o
  ended (Ok a) = refl
  ended (Err x) = refl

  acts_same : (w : Writer) (t u : Effect) → ((r : List K × S) → t r ≡ u r) → Acts w t → Acts w u
  acts_same w t u e a found r = a found r ∙ ap (λ z. and_then (w found) (λ _. and_then (plays found r) z)) (λ i q. e q i)

  acts_then : (v w : Writer) (t u : Effect) → Acts v t → Acts w u → Acts (λ found. and_then (v found) w) (λ r. and_then (t r) u)
  acts_then v w t u a b found r = first (v found) (a found r)
    where
      first : (o : Result (List Item) Fault) → and_then o (λ items. plays items r) ≡ and_then o (λ _. and_then (plays found r) t)
          → and_then (and_then o w) (λ items. plays items r) ≡ and_then (and_then o w) (λ _. and_then (plays found r) (λ q. and_then (t q) u))
      first (Err x) e = refl
      first (Ok more) e = b more r ∙ ap (λ z. and_then (w more) (λ _. z)) (ap (λ z. and_then z u) e ∙ assoc (plays found r) t u)

  acts_item : (i : Item) → Acts (λ found. Ok (found ++ i ∷ [])) (play M elements i)
  acts_item i found r = each-append (play M elements) found (i ∷ []) r ∙ ap (and_then (plays found r)) (λ j q. ended (play M elements i q) j)

  acts_read : (p : Place) → Acts (read_item decls indices p) (λ r. pushed r.0 (read decls indices elements p r.1))
  acts_read p found r = first (located decls indices p)
    where
      first : (o : Result Cell Fault)
          → and_then (and_then o (λ c. Ok (found ++ item.Read c p.at ∷ []))) (λ items. plays items r)
          ≡ and_then (and_then o (λ c. Ok (found ++ item.Read c p.at ∷ []))) (λ _. and_then (plays found r) (λ q. pushed q.0 (and_then o (λ c. read_option (unset p.at) (elements c) q.1))))
      first (Err x) = refl
      first (Ok c) = acts_item (item.Read c p.at) found r

  abbrev link_run : Link → (Op × ℕ) × Run K S
  link_run = fold-Link (Run K S) ((Op × ℕ) × Run K S) (expr_step M decls indices elements) link_step

  abbrev result : Run K S → Effect
  result f r = pushed r.0 (f r.1)

  abbrev link_effect : Link → Effect
  link_effect l r = and_then (result (link_run l).1 r) (play M elements (item.Apply (link_run l).0.0 (link_run l).0.1))

  chain_effect : List Link → Effect
  chain_effect [] r = Ok r
  chain_effect (l ∷ ls) r = and_then (link_effect l r) (chain_effect ls)

  apply_some : (o : Op) (at : ℕ) (st args : List K) (s : S) → length args ≡ arity_of o → play M elements (item.Apply o at) (st ++ args, s) ≡ pushed st (M.operate o at args s)
  apply_some o at st args s h =
      ap (λ n. pushed (take n (st ++ args)) (M.operate o at (drop n (st ++ args)) s)) (below_is st args (arity_of o) h)
      ∙ (λ i. pushed (take-append_seam st args i) (M.operate o at (drop-append_seam st args i) s))

  apply_two : (o : Op) (at : ℕ) (st : List K) (a b : K) (s : S) → arity_of o ≡ 2 → play M elements (item.Apply o at) ((st ++ a ∷ []) ++ b ∷ [], s) ≡ pushed st (M.operate o at (a ∷ b ∷ []) s)
  apply_two o at st a b s h = ap (λ z. play M elements (item.Apply o at) (z, s)) (append_assoc st (a ∷ []) (b ∷ [])) ∙ apply_some o at st (a ∷ b ∷ []) s (sym h)

  minus_is : (at : ℕ) (st : List K) (o : Result (K × S) Fault) → and_then (pushed st o) (play M elements (item.Apply op.Neg at)) ≡ pushed st (and_then o (λ v. M.operate op.Neg at (v.0 ∷ []) v.1))
  minus_is at st (Err x) = refl
  minus_is at st (Ok v) = apply_some op.Neg at st (v.0 ∷ []) v.1 refl

  record IsLinkPlayed (l : Link) : Type 0 where
    two : arity_of (link_run l).0.0 ≡ 2
    same : (link_of decls indices l).0 ≡ (link_run l).0
    acts : Acts (link_of decls indices l).1 (result (link_run l).1)

  abbrev PlayedLink : Type 0
  PlayedLink = (l : Link) × IsLinkPlayed l

  after_first : (ls : List Link) (st : List K) (o : Result (K × S) Fault) → ((v : K) (s : S) → chain_effect ls (st ++ v ∷ [], s) ≡ pushed st (chain M (map link_run ls) (v, s)))
      → and_then (pushed st o) (chain_effect ls) ≡ pushed st (and_then o (chain M (map link_run ls)))
  after_first ls st (Err x) e = refl
  after_first ls st (Ok v) e = e v.0 v.1

  after_value : (o : Op) (at : ℕ) (ls : List Link) (st : List K) (v : K) (r : Result (K × S) Fault) → arity_of o ≡ 2
      → ((u : K) (s : S) → chain_effect ls (st ++ u ∷ [], s) ≡ pushed st (chain M (map link_run ls) (u, s)))
      → and_then (and_then (pushed (st ++ v ∷ []) r) (play M elements (item.Apply o at))) (chain_effect ls)
      ≡ pushed st (and_then r (λ w. and_then (M.operate o at (v ∷ w.0 ∷ []) w.1) (chain M (map link_run ls))))
  after_value o at ls st v (Err x) h e = refl
  after_value o at ls st v (Ok w) h e = ap (λ z. and_then z (chain_effect ls)) (apply_two o at st v w.0 w.1 h) ∙ after_first ls st (M.operate o at (v ∷ w.0 ∷ []) w.1) e

  abbrev links : List PlayedLink → List Link
  links ls = map (λ l. l.0) ls

  chain_is : (ls : List PlayedLink) (st : List K) (v : K) (s : S) → chain_effect (links ls) (st ++ v ∷ [], s) ≡ pushed st (chain M (map link_run (links ls)) (v, s))
  unfolding chain_effect
  chain_is [] st v s = refl
  chain_is (l ∷ ls) st v s = after_value (link_run l.0).0.0 (link_run l.0).0.1 (links ls) st v ((link_run l.0).1 s) l.1.two (chain_is ls st)

  chain_acts : (ls : List PlayedLink) → Acts (link_items (map (link_of decls indices) (links ls))) (chain_effect (links ls))
  unfolding chain_effect
  chain_acts [] = λ found r. sym (ended (plays found r))
  chain_acts (l ∷ ls) =
      let rest : Acts (λ found. link_items (map (link_of decls indices) (links ls)) (found ++ item.Apply (link_of decls indices l.0).0.0 (link_of decls indices l.0).0.1 ∷ [])) (λ q. and_then (play M elements (item.Apply (link_of decls indices l.0).0.0 (link_of decls indices l.0).0.1) q) (chain_effect (links ls))) =
      acts_then (λ found. Ok (found ++ item.Apply (link_of decls indices l.0).0.0 (link_of decls indices l.0).0.1 ∷ [])) (link_items (map (link_of decls indices) (links ls))) (play M elements (item.Apply (link_of decls indices l.0).0.0 (link_of decls indices l.0).0.1)) (chain_effect (links ls))
      (acts_item (item.Apply (link_of decls indices l.0).0.0 (link_of decls indices l.0).0.1)) (chain_acts ls) in
      acts_same _ (λ r. and_then (result (link_run l.0).1 r) (λ q. and_then (play M elements (item.Apply (link_of decls indices l.0).0.0 (link_of decls indices l.0).0.1) q) (chain_effect (links ls)))) _
      (λ r. ap (λ z. and_then (result (link_run l.0).1 r) (λ q. and_then (play M elements (item.Apply z.0 z.1) q) (chain_effect (links ls)))) l.1.same
      ∙ sym (assoc (result (link_run l.0).1 r) (play M elements (item.Apply (link_run l.0).0.0 (link_run l.0).0.1)) (chain_effect (links ls))))
      (acts_then (link_of decls indices l.0).1 (λ found. link_items (map (link_of decls indices) (links ls)) (found ++ item.Apply (link_of decls indices l.0).0.0 (link_of decls indices l.0).0.1 ∷ [])) (result (link_run l.0).1) _ l.1.acts rest)

  -- ---- the arguments of a call

  args_effect : List Expr → Effect
  args_effect [] r = Ok r
  args_effect (e ∷ es) r = and_then (result (evaluate M decls indices elements e) r) (args_effect es)

  args_are : (o : Op) (at : ℕ) (es : List Expr) (whole st vs : List K) (s : S) → whole ≡ st ++ vs → length vs + length es ≡ arity_of o
      → and_then (args_effect es (whole, s)) (play M elements (item.Apply o at))
      ≡ pushed st (and_then (arguments (map (evaluate M decls indices elements) es) (vs, s)) (λ q. M.operate o at q.0 q.1))
  unfolding args_effect
  args_are o at [] whole st vs s is count = ap (λ z. play M elements (item.Apply o at) (z, s)) is ∙ apply_some o at st vs s (omega (arith, count))
  args_are o at (e ∷ es) whole st vs s is count =
      after (evaluate M decls indices elements e s) (λ v next.
      let longer : length (vs ++ v ∷ []) ≡ length vs + 1 = length_push vs v in
      args_are o at es (whole ++ v ∷ []) st (vs ++ v ∷ []) next (ap (λ z. z ++ v ∷ []) is ∙ append_assoc st vs (v ∷ [])) (omega (arith, longer, count)))
    where
      after : (r : Result (K × S) Fault)
          → ((v : K) (next : S) → and_then (args_effect es (whole ++ v ∷ [], next)) (play M elements (item.Apply o at))
          ≡ pushed st (and_then (arguments (map (evaluate M decls indices elements) es) (vs ++ v ∷ [], next)) (λ q. M.operate o at q.0 q.1)))
          → and_then (and_then (pushed whole r) (args_effect es)) (play M elements (item.Apply o at))
          ≡ pushed st (and_then (and_then r (λ v. arguments (map (evaluate M decls indices elements) es) (vs ++ v.0 ∷ [], v.1))) (λ q. M.operate o at q.0 q.1))
      after (Err x) more = refl
      after (Ok v) more = more v.0 v.1

  -- ---- expressions

  abbrev link_fit : Link → Op × Bool
  link_fit = fold-Link Bool (Op × Bool) (expr_fits_step decls loops) well.link_step

  IsPlayed : Expr → Type 0
  IsPlayed e = expr_fits decls loops e ≡ true → Acts (items_of decls indices e) (result (evaluate M decls indices elements e))

  record IsLinkFit (l : Link) : Type 0 where
    op : (link_run l).0.0 ≡ (link_fit l).0
    same : (link_of decls indices l).0 ≡ (link_run l).0
    acts : (link_fit l).1 ≡ true → Acts (link_of decls indices l).1 (result (link_run l).1)

  opened : (x : Expr-F Expr Link)
      → (expr_fits_step decls loops (map-Expr Expr Link Bool (Op × Bool) (expr_fits decls loops) link_fit x) ≡ true
      → Acts (items_step decls indices (map-Expr Expr Link Writer ((Op × ℕ) × Writer) (items_of decls indices) (link_of decls indices) x))
      (result (expr_step M decls indices elements (map-Expr Expr Link (Run K S) ((Op × ℕ) × Run K S) (evaluate M decls indices elements) link_run x))))
      → IsPlayed (roll-Expr x)
  unfolding IsPlayed
  opened x e h =
      let g = e (sym (fold-roll-Expr Bool (Op × Bool) (expr_fits_step decls loops) well.link_step x) ∙ h) in
      subst (λ w. Acts w (result (evaluate M decls indices elements (roll-Expr x)))) (sym (fold-roll-Expr Writer ((Op × ℕ) × Writer) (items_step decls indices) items_link_step x))
      (subst (λ f. Acts (items_step decls indices (map-Expr Expr Link Writer ((Op × ℕ) × Writer) (items_of decls indices) (link_of decls indices) x)) (result f))
      (sym (fold-roll-Expr (Run K S) ((Op × ℕ) × Run K S) (expr_step M decls indices elements) link_step x)) g)

  abbrev SomeExpr : Type 0
  SomeExpr = (e : Expr) × IsPlayed e

  abbrev SomeLink : Type 0
  SomeLink = (l : Link) × IsLinkFit l

  abbrev some_links : List SomeLink → List Link
  some_links ls = map (λ l. l.0) ls

  abbrev some_exprs : List SomeExpr → List Expr
  some_exprs es = map (λ e. e.0) es

  fit_links : (ls : List SomeLink) → list_all is_operator (map (λ l. l.0) (map link_fit (some_links ls))) ≡ true → all (map (λ l. l.1) (map link_fit (some_links ls))) ≡ true
      → (ps : List PlayedLink) × (links ps ≡ some_links ls)
  fit_links [] ops h = ([], refl)
  fit_links (l ∷ ls) ops h =
      let signs = and_parts (is_operator (link_fit l.0).0) (list_all is_operator (map (λ l. l.0) (map link_fit (some_links ls)))) ops in
      let fits = and_parts (link_fit l.0).1 (all (map (λ l. l.1) (map link_fit (some_links ls)))) h in
      let more : (ps : List PlayedLink) × (links ps ≡ some_links ls) = fit_links ls signs.1 fits.1 in
      let here : IsLinkPlayed l.0 = record { two = ap arity_of l.1.op ∙ two_operands (link_fit l.0).0 signs.0; same = l.1.same; acts = l.1.acts fits.0 } in
      ((l.0, here) ∷ more.0, ap (λ z. l.0 ∷ z) more.1)

  chained : (first : Expr) (ps : List PlayedLink) → Acts (items_of decls indices first) (result (evaluate M decls indices elements first))
      → Acts (λ found. and_then (items_of decls indices first found) (link_items (map (link_of decls indices) (links ps))))
      (result (λ s. and_then (evaluate M decls indices elements first s) (chain M (map link_run (links ps)))))
  chained first ps a =
      acts_same _ (λ r. and_then (result (evaluate M decls indices elements first) r) (chain_effect (links ps))) _
      (λ r. after_first (links ps) r.0 (evaluate M decls indices elements first r.1) (chain_is ps r.0))
      (acts_then (items_of decls indices first) (link_items (map (link_of decls indices) (links ps))) (result (evaluate M decls indices elements first)) (chain_effect (links ps)) a (chain_acts ps))

  args_act : (es : List SomeExpr) → all (map (expr_fits decls loops) (some_exprs es)) ≡ true → Acts (in_turn (map (items_of decls indices) (some_exprs es))) (args_effect (some_exprs es))
  unfolding IsPlayed args_effect
  args_act [] h = λ found r. sym (ended (plays found r))
  args_act (e ∷ es) h =
      let fits = and_parts (expr_fits decls loops e.0) (all (map (expr_fits decls loops) (some_exprs es))) h in
      acts_then (items_of decls indices e.0) (in_turn (map (items_of decls indices) (some_exprs es))) (result (evaluate M decls indices elements e.0)) (args_effect (some_exprs es)) (e.1 fits.0) (args_act es fits.1)

  called : (o : Op) (at : ℕ) (es : List SomeExpr) → all (map (expr_fits decls loops) (some_exprs es)) ≡ true → length (some_exprs es) ≡ arity_of o
      → Acts (λ found. and_then (in_turn (map (items_of decls indices) (some_exprs es)) found) (λ more. Ok (more ++ item.Apply o at ∷ [])))
      (result (λ s. and_then (arguments (map (evaluate M decls indices elements) (some_exprs es)) ([], s)) (λ vs. M.operate o at vs.0 vs.1)))
  called o at es h count =
      acts_same _ (λ r. and_then (args_effect (some_exprs es) r) (play M elements (item.Apply o at))) _
      (λ r. args_are o at (some_exprs es) r.0 r.0 [] r.1 (sym (append-nil r.0)) (omega (arith, count)))
      (acts_then (in_turn (map (items_of decls indices) (some_exprs es))) (λ found. Ok (found ++ item.Apply o at ∷ [])) (args_effect (some_exprs es)) (play M elements (item.Apply o at)) (args_act es h) (acts_item (item.Apply o at)))

  parts : (y : Expr-F SomeExpr SomeLink) → IsPlayed (roll-Expr (map-Expr SomeExpr SomeLink Expr Link (λ e. e.0) (λ l. l.0) y))
  unfolding IsPlayed
  parts (Number n) = opened (Number n) (λ _. acts_item (item.Number n))
  parts (expr.Cell p) = opened (expr.Cell p) (λ _. acts_read p)
  parts (Turn t) = opened (Turn t) (λ _. acts_item (item.Number (turn indices t)))
  parts (Minus value at) =
      opened (Minus value.0 at) (λ h.
      acts_same _ (λ r. and_then (result (evaluate M decls indices elements value.0) r) (play M elements (item.Apply op.Neg at))) _ (λ r. minus_is at r.0 (evaluate M decls indices elements value.0 r.1))
      (acts_then (items_of decls indices value.0) (λ found. Ok (found ++ item.Apply op.Neg at ∷ [])) (result (evaluate M decls indices elements value.0)) (play M elements (item.Apply op.Neg at)) (value.1 h) (acts_item (item.Apply op.Neg at))))
  parts (Chain first rest) =
      opened (Chain first.0 (some_links rest)) (λ h.
      let one = and_parts (expr_fits decls loops first.0) (are_operators (map (λ l. l.0) (map link_fit (some_links rest))) && all (map (λ l. l.1) (map link_fit (some_links rest)))) h in
      let more = and_parts (are_operators (map (λ l. l.0) (map link_fit (some_links rest)))) (all (map (λ l. l.1) (map link_fit (some_links rest)))) one.1 in
      let some : (ps : List PlayedLink) × (links ps ≡ some_links rest) = fit_links rest (operators (map (λ l. l.0) (map link_fit (some_links rest))) more.0) more.1 in
      subst (λ ls. Acts (λ found. and_then (items_of decls indices first.0 found) (link_items (map (link_of decls indices) ls))) (result (λ s. and_then (evaluate M decls indices elements first.0 s) (chain M (map link_run ls)))))
      some.1 (chained first.0 some.0 (first.1 one.0)))
  parts (Call o args at) =
      opened (Call o (some_exprs args) at) (λ h.
      let fits : List Bool = map (expr_fits decls loops) (some_exprs args) in
      let one = and_parts (is_function o) ((length fits == arity_of o) && all fits) h in
      let more = and_parts (length fits == arity_of o) (all fits) one.1 in
      let count : length (some_exprs args) ≡ arity_of o = sym (length-map (some_exprs args) (expr_fits decls loops)) ∙ eqb-true (length fits) (arity_of o) more.0 in
      called o at args more.1 count)

  link_opened : (x : Link-F Expr Link) → IsPlayed x.value → IsLinkFit (roll-Link x)
  unfolding IsPlayed
  link_opened x e =
      let m : link_run (roll-Link x) ≡ ((x.op, x.at), evaluate M decls indices elements x.value) = fold-roll-Link (Run K S) ((Op × ℕ) × Run K S) (expr_step M decls indices elements) link_step x in
      let w : link_of decls indices (roll-Link x) ≡ ((x.op, x.at), items_of decls indices x.value) = fold-roll-Link Writer ((Op × ℕ) × Writer) (items_step decls indices) items_link_step x in
      let f : link_fit (roll-Link x) ≡ (x.op, expr_fits decls loops x.value) = fold-roll-Link Bool (Op × Bool) (expr_fits_step decls loops) well.link_step x in
      record {
        op = ap (λ r. r.0.0) m ∙ sym (ap (λ r. r.0) f);
        same = ap (λ r. r.0) w ∙ sym (ap (λ r. r.0) m);
        acts = λ h. subst (λ z. Acts z.1 (result (link_run (roll-Link x)).1)) (sym w) (subst (λ z. Acts (items_of decls indices x.value) (result z.1)) (sym m) (e (sym (ap (λ r. r.1) f) ∙ h)));
      }

  pub all_played : (e : Expr) → expr_fits decls loops e ≡ true → Acts (items_of decls indices e) (result (evaluate M decls indices elements e))
  unfolding IsPlayed
  all_played = ind-Expr IsPlayed IsLinkFit
      (λ x y is. subst (λ z. IsPlayed (roll-Expr z)) is (parts y))
      (λ x y is. subst (λ z. IsLinkFit (roll-Link z)) is (link_opened (map-Link SomeExpr SomeLink Expr Link (λ e. e.0) (λ l. l.0) y) y.value.1))
