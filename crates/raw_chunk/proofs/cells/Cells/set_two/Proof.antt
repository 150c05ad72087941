-- `set_two` writes over two numbers, one after the other. Assumes `Logic`.
use Rattle.std.proofs.Common.{◌≡◌, ℕ, ◌+◌, ◌-◌, ◌*◌, ◌<◌, ◌^◌, List, [], ◌∷◌, ◌++◌, length, refl, sym, ◌∙◌, arith, get_or, set, length-set, w64}
use base.Fraction.{full_share}
use mir.Val.{Val, vptr, vint, vunit}
use base.Logic.{SProp, never, id⊢}
use base.Fml.{Lft, Share, Fml, ftrue, fat, flft}
use prog.Wp.{Env, WpFn}
use contract.Monad.{fact}
use contract.Running.{tables}
use types.Kit.{‵, raw, ◌⊛◌, prop, at_ret, ◌$◌, ◌∵◌, !, qed, move, keep, drop, use1, use2, split, join, rewrite, regoal, fsplit, fsplit3, fjoin, fjoin3, feq_i, suffices, frame, done}
use types.Part.{whole, sub}
use types.Run.{store, stop, fld, lit, unit_lit, of_opd, bin, assigns, assigns_last, first, blocks, exec, returns, enter}
use types.ByLocal.{alloc_all, pass_all, free_all, look_at, get, get_in, through, take_at, give_at, sets, env}
use denote.RattleType.{owns}
use denote.Param.{layout}
use denote.Builtin.{u64}
use denote.Index.{others, takes, puts, place, place_is}
use denote.Memory.{part_at, shares}
use denote.Plain.{uint_out, uint_in}
use denote.RawPtr.{Ptr, in_a_block}
use denote.Signature.{plain, types_at}
use denote.Steps.{nothing, opens, closes, heard}
use denote.Triple.Walked.{says, Stays, stay_dropped, stay_ref, walk_of, ends_at, Goes-dropped, Goes-ref}
use Rattle.core.proofs.alloc.Shapes.{after}
use Rattle.std.proofs.raw_atomic.Walks.{proved_at}
use Rattle.std_alloc.proofs.RcSteps.{word, word-Good}
use Rattle.raw_chunk.specs.Ownership.{cells_own}
use Rattle.raw_chunk.proofs.Memory.{slot_at, Cr, Bs, word_told, Row, Room, Cell}
use Rattle.raw_chunk.specs.contracts.cells.Cells.set_two.{ended, clauses}
use Rattle.raw_chunk.specs.contracts.cells.Cells.set_two.Key.{name as #self}
use Rattle.raw_chunk.proofs.cells.Cells.set_two.Statement.{statement}
use Rattle.raw_chunk.proofs.cells.Cells.set_two.Code as code

pub set_two_spec : {M : Type 1} → statement M
set_two_spec 𝓤 𝓛 𝓜 𝓡 wired =
    let H = 𝓛.H in let C = (tables 𝓤 H 𝓜 𝓡 𝓡.env).C in let Λ = (tables 𝓤 H 𝓜 𝓡 𝓡.env).Λ in
    let c = clauses 𝓛 𝓜.mem 𝓡.returns in let ps = ended.signature.params in let ks = ended.kept in
    let hs : Stays ps ks = (stay_ref (0 ∷ []) tt (plain (λ _. Cr)), (stay_dropped (slot_at 1 ps) ks.1.0, (stay_dropped (slot_at 2 ps) ks.1.1.0, (stay_dropped (slot_at 3 ps) ks.1.1.1.0, (stay_dropped (slot_at 4 ps) ks.1.1.1.1.0, tt))))) in
    proved_at 𝓛 ended hs c 𝓜 𝓡 (
      Goes-ref 𝓛 1 0 tt (plain (λ _. Cr)),
      (
        Goes-dropped 𝓛 1 (slot_at 1 ps) ks.1.0 (λ κs x f. refl),
        (Goes-dropped 𝓛 1 (slot_at 2 ps) ks.1.1.0 (λ κs x f. refl), (Goes-dropped 𝓛 1 (slot_at 3 ps) ks.1.1.1.0 (λ κs x f. refl), (Goes-dropped 𝓛 1 (slot_at 4 ps) ks.1.1.1.1.0 (λ κs x f. refl), tt))),
      ),
    ) #self code.function (code.unfolded 𝓤 H 𝓜 𝓡 wired) (λ z are.
    let Post : Val → SProp 𝓤 = (walk_of 𝓛 ended hs c).post z in let a = z.0.3 in let vss = z.0.4 in let κ : Lft = z.0.0.0 in let q : Share = z.0.1.0 in
    let d = a.0.now in let rb = a.0.ref_ptr.0 in let ro = a.0.ref_ptr.1 in let base = a.1.0 in let n = a.1.1.0 in let x = a.1.1.1.0 in let y = a.1.1.1.1.0 in let xs = d.items in
    let Asked : Type 0 = (base.ptr ≡ d.at) × (n + 1 < length xs) × (length xs * 8 < 2 ^ 63) in
    qed 𝓛 (((‵ (flft κ q) ⊛ ‵ ftrue) ⊛ ‵ (owns (types_at ps z.0.0) a vss)) ∷ raw (fact 𝓤 Asked) ∷ []) ∵ move ! (1 ∷ []) $ heard ! Asked (λ asked.
    split ! $ split ! $ move ! (2 ∷ []) $ fsplit ! $ keep ! (0 ∷ 2 ∷ []) $ fsplit3 ! $ drop ! $
    -- [what the name is seen at; the borrow; the token]
    let fits_n = are.1.1.0.1 in let fits_x = are.1.1.1.0.1 in let fits_y = are.1.1.1.1.0.1 in
    let once : List ℕ = set xs n x in let twice : List ℕ = set once (n + 1) y in
    let within : n < length xs = omega (arith, asked.1) in let behind : n + 1 < length once = omega (arith, asked.1, length-set xs n x) in
    let near : n + 1 < 2 ^ 64 = omega (arith, asked.1, asked.2) in
    let far : n * 8 < 2 ^ 64 = omega (arith, asked.1, asked.2) in let further : (n + 1) * 8 < 2 ^ 64 = omega (arith, asked.1, asked.2) in
    let old : ℕ = get_or xs n 0 in let next : ℕ = get_or once (n + 1) 0 in
    let new : Cr.Denot = record { mark = d.mark; at = d.at; room = d.room; items = twice } in
    regoal ! (λ (us : List Val). prop (WpFn 𝓤 H C Λ code.function us Post)) (λ i. are.0.0 i ++ (word_told base.ptr vss.1.0 are.1.0 i ++ (are.1.1.0.0 i ++ (are.1.1.1.0.0 i ++ (are.1.1.1.1.0.0 i ++ []))))) refl $
    enter ! C Λ code.function (vptr rb ro ∷ word base.ptr ∷ vint w64 n ∷ vint w64 x ∷ vint w64 y ∷ []) Post $
    alloc_all ! (λ l. pass_all ! refl ((tt, tt), (word-Good [] base.ptr, ((tt, record { fits = fits_n }), ((tt, record { fits = fits_x }), ((tt, record { fits = fits_y }), tt))))) $ let En : Env 𝓤 H = env code.function.locals l in
    opens ! tt Cr {h = d} rb ro (λ vs. move ! (1 ∷ []) $ fsplit ! $ move ! (1 ∷ []) $
    in_a_block ! d.at (λ p. cells_own p d.room xs) (id⊢ 𝓤 (never 𝓤)) (λ b o at. fsplit ! $
    let rest : Fml = others (shares u64) full_share xs n b o in let after_both : Fml = others (shares u64) full_share once (n + 1) b o in
    use1 𝓛 (‵ (part_at u64 full_share old b (place 8 o n)) ⊛ ‵ rest) (takes (shares u64) full_share 𝓛 xs n 0 b o within) $ split ! $
    rewrite ! 0 (λ (k : ℕ). ‵ (part_at u64 full_share old b k)) (place_is 8 o n) refl $ use1 𝓛 (‵ (Cell 𝓛 b (n * 8 + o) old)) (uint_out 𝓛 full_share w64 old b (n * 8 + o)) $
    -- [the cell; the other numbers; the room; the mark; its cell; ..]
    take_at ! 2 $ rewrite ! 0 (λ (p : Ptr). ‵ (fat full_share (layout Bs) (l 2) 0 (word p))) (asked.0 ∙ at) refl $ give_at ! 2 $
    first ! $ blocks ! $
    sets ! (bin ! (get ! refl) (lit ! tt) (record { fits = far })) refl (tt, record { fits = far }) $
    sets ! (bin ! (get_in ! (fld ! refl (stop !)) (sub ! 0 refl (whole !))) (get ! refl) tt) refl (tt, tt) $
    assigns ! (of_opd ! (get ! refl)) (through ! refl (stop !)) (store ! 0 refl (tt, record { fits = fits_x })) $
    use1 𝓛 (‵ (part_at u64 full_share x b (n * 8 + o))) (uint_in 𝓛 full_share w64 x b (n * 8 + o)) $ rewrite ! 0 (λ (k : ℕ). ‵ (part_at u64 full_share x b k)) (sym (place_is 8 o n)) refl $
    use2 𝓛 (‵ (Row 𝓛 b o once)) (puts (shares u64) full_share 𝓛 xs n x b o within) $
    use1 𝓛 (‵ (part_at u64 full_share next b (place 8 o (n + 1))) ⊛ ‵ after_both) (takes (shares u64) full_share 𝓛 once (n + 1) 0 b o behind) $ split ! $
    rewrite ! 0 (λ (k : ℕ). ‵ (part_at u64 full_share next b k)) (place_is 8 o (n + 1)) refl $ use1 𝓛 (‵ (Cell 𝓛 b ((n + 1) * 8 + o) next)) (uint_out 𝓛 full_share w64 next b ((n + 1) * 8 + o)) $
    sets ! (bin ! (get ! refl) (lit ! tt) (record { fits = near })) refl (tt, record { fits = near }) $
    sets ! (bin ! (get ! refl) (lit ! tt) (record { fits = further })) refl (tt, record { fits = further }) $
    sets ! (bin ! (get_in ! (fld ! refl (stop !)) (sub ! 0 refl (whole !))) (get ! refl) tt) refl (tt, tt) $
    assigns_last ! (of_opd ! (get ! refl)) (through ! refl (stop !)) (store ! 0 refl (tt, record { fits = fits_y })) $
    exec ! C Λ En (after 1 (code.function).body) (at_ret En Post) $ sets ! (of_opd ! (unit_lit !)) refl (tt, tt) $
    use1 𝓛 (‵ (part_at u64 full_share y b ((n + 1) * 8 + o))) (uint_in 𝓛 full_share w64 y b ((n + 1) * 8 + o)) $ rewrite ! 0 (λ (k : ℕ). ‵ (part_at u64 full_share y b k)) (sym (place_is 8 o (n + 1))) refl $
    use2 𝓛 (‵ (Row 𝓛 b o twice)) (puts (shares u64) full_share 𝓛 once (n + 1) y b o behind) $ move ! (1 ∷ []) $
    rewrite ! 0 (λ (k : ℕ). ‵ (Room 𝓛 b (d.room - k) (k * 8 + o))) (sym (length-set once (n + 1) y ∙ length-set xs n x)) refl $ move ! (1 ∷ 0 ∷ []) $ fjoin ! $
    rewrite ! 0 (λ (p : Ptr). ‵ (cells_own p d.room twice)) (sym at) refl $ move ! (1 ∷ 0 ∷ []) $ fjoin ! $ move ! (1 ∷ 0 ∷ []) $ closes ! tt Cr new vs rb ro $
    returns ! (look_at ! 0 refl) $ free_all ! refl $ keep ! (0 ∷ 1 ∷ 2 ∷ []) $ feq_i ! (List Val) (vunit ∷ []) (vunit ∷ []) refl $ move ! (1 ∷ 2 ∷ 3 ∷ 0 ∷ []) $
    suffices ! _ (ends_at 𝓛 ended hs c z vunit tt (new, (tt, (tt, (tt, (tt, tt))))) (tt, (tt, (tt, (tt, (tt, tt)))))) $ says ! (refl, refl, refl) $
    nothing ! $ move ! (3 ∷ 0 ∷ []) $ join ! $ frame ! $ feq_i ! (List Val) vss.0 (vptr rb ro ∷ []) are.0.0 $ fjoin3 ! $ nothing ! $ nothing ! $ fjoin ! $ nothing ! $ fjoin ! $ nothing ! $ fjoin ! $ nothing ! $ fjoin ! $ move ! (1 ∷ 0 ∷ []) $ fjoin ! $ done !)))))
