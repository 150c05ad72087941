-- A code that plays a list of moves computes the outputs, with as many loads and stores as the moves have.
use Rattle.std.proofs.Common.{◌≡◌, ℕ, ◌+◌, ◌<◌, Bool, true, false, cond, eqb, ltb, ℤ, Option, None, Some, Ok, List, [], ◌∷◌, length, map, take, refl, sym, ap, ◌∙◌, subst, arith}
use Rattle.std.specs.List.{All}
use Rattle.std.proofs.lemmas.List.Elements.{All-head, All-tail}
use Rattle.comp_graph.specs.declared.operation.Op.TheVariants.{Input}
use Rattle.comp_graph.specs.declared.node.Operand.{Operand}
use Rattle.comp_graph.specs.declared.node.Operand.TheVariants.{Vertex, Const as Constant}
use Rattle.comp_graph.specs.declared.node.Output.{Output}
use Rattle.comp_graph.specs.Operations.{arity_of, value_at}
use Rattle.comp_graph.specs.Graphs.{GraphParts, operands_of}
use Rattle.pebble_rules.specs.declared.moves.Move.{Move}
use Rattle.pebble_rules.specs.declared.moves.Move.TheVariants.{Load as LoadMove, Store as StoreMove, Compute, DropRed, DropBlue}
use Rattle.pebble_rules.specs.Transfers.{loads, stores}
use Rattle.scratch_machine.specs.declared.code.Source.{Source}
use Rattle.scratch_machine.specs.declared.code.Source.TheVariants.{Slot, Const}
use Rattle.scratch_machine.specs.declared.code.Instr.{Instr}
use Rattle.scratch_machine.specs.declared.code.Instr.TheVariants.{Load, Store, Apply}
use Rattle.scratch_machine.specs.declared.code.OutWord.{OutWord}
use Rattle.scratch_machine.specs.Cells.{Cells, put, cleared}
use Rattle.scratch_machine.specs.Codes.{IsInstr}
use Rattle.scratch_machine.specs.Machines.{Machine, value_read, values_read, loaded, stored, applied, and_then, run_from, outputs_read, begun}
use Rattle.scratch_machine.specs.Values.{AreValues, operand_value, output_values}
use Rattle.scratch_machine.specs.CodePlays.{Places, Names, NamesAll, with_slot, with_word, without_slot, Plays, first_places, HasOutputs, CodeComputesOutputs}

-- what is said to hold a vertex holds its value
abbrev Holds : (ℕ → ℤ) → Cells ℕ → Cells ℤ → Type 0
Holds value said real = (q u : ℕ) → said q ≡ Some u → real q ≡ Some (value u)

record Agrees (value : ℕ → ℤ) (p : Places) (m : Machine) : Type 0 where
  in_slots : Holds value p.slots m.slots
  in_words : Holds value p.words m.words

put_at : (value : ℕ → ℤ) (said : Option ℕ) (real : Option ℤ) (here : Bool) (v u : ℕ) → (said ≡ Some u → real ≡ Some (value u))
    → cond here (Some v) said ≡ Some u → cond here (Some (value v)) real ≡ Some (value u)
put_at value said real true v u h e = let same : v ≡ u = cc in ap (λ w. Some (value w)) same
put_at value said real false v u h e = h e

Holds-put : (value : ℕ → ℤ) (said : Cells ℕ) (real : Cells ℤ) (k v : ℕ) → Holds value said real → Holds value (put said k v) (put real k (value v))
Holds-put value said real k v h q u e = put_at value (said q) (real q) (eqb q k) v u (h q u) e

cleared_at : (value : ℕ → ℤ) (said : Option ℕ) (real : Option ℤ) (here : Bool) (u : ℕ) → (said ≡ Some u → real ≡ Some (value u))
    → cond here None said ≡ Some u → real ≡ Some (value u)
cleared_at value said real true u h e = cc
cleared_at value said real false u h e = h e

Holds-cleared : (value : ℕ → ℤ) (said : Cells ℕ) (real : Cells ℤ) (k : ℕ) → Holds value said real → Holds value (cleared said k) real
Holds-cleared value said real k h q u e = cleared_at value (said q) (real q) (eqb q k) u (h q u) e

one_read : (value : ℕ → ℤ) (said : Cells ℕ) (real : Cells ℤ) → Holds value said real → (x : Operand) (a : Source) → Names said x a
    → value_read real a ≡ Some (operand_value value x)
one_read value said real h (Vertex u) (Slot k) e = h k u e
one_read value said real h (Vertex u) (Const c) e = absurd e
one_read value said real h (Constant d) (Slot k) e = absurd e
one_read value said real h (Constant d) (Const c) e = ap Some e

all_read : (value : ℕ → ℤ) (said : Cells ℕ) (real : Cells ℤ) → Holds value said real → (xs : List Operand) (args : List Source) → NamesAll said xs args
    → values_read real args ≡ Some (map (operand_value value) xs)
all_read value said real h [] [] e = refl
all_read value said real h [] (a ∷ args) e = absurd e
all_read value said real h (x ∷ xs) [] e = absurd e
all_read value said real h (x ∷ xs) (a ∷ args) e = rw (one_read value said real h x a e.0, all_read value said real h xs args e.1) refl

-- ---- the run of a list of instructions that plays a list of moves

record RunsOn (value : ℕ → ℤ) (at : ℕ) (m : Machine) (is : List Instr) (q : Places) (more_loads more_stores : ℕ) : Type 0 where
  end : Machine
  runs : run_from at m is ≡ Ok end
  agrees : Agrees value q end
  loads : end.loads ≡ m.loads + more_loads
  stores : end.stores ≡ m.stores + more_stores

module _ (g : GraphParts) (inputs : List ℤ) (value : ℕ → ℤ) (are : AreValues g inputs value) (slots words : ℕ) where
  runs_on : (ms : List Move) (is : List Instr) (p : Places) (q : Places) (at : ℕ) (m : Machine) → Agrees value p m → All (IsInstr slots words) is
      → Plays g p ms is q → RunsOn value at m is q (loads ms) (stores ms)
  runs_on [] [] p q at m a all h = record { end = m; runs = refl; agrees = subst (λ r. Agrees value r m) h a; loads = omega arith; stores = omega arith }
  runs_on [] (i ∷ is) p q at m a all h = absurd h
  runs_on (LoadMove v ∷ ms) [] p q at m a all h = absurd h
  runs_on (LoadMove v ∷ ms) (Store s w ∷ is) p q at m a all h = absurd h
  runs_on (LoadMove v ∷ ms) (Apply op s args ∷ is) p q at m a all h = absurd h
  runs_on (LoadMove v ∷ ms) (Load s w ∷ is) p q at m a all h =
      let x : m.words w ≡ Some (value v) = a.in_words w v h.0.from_word in
      let n : Machine = record { slots = put m.slots s (value v); words = m.words; loads = m.loads + 1; stores = m.stores } in
      let after : Agrees value (with_slot p s v) n = record { in_slots = Holds-put value p.slots m.slots s v a.in_slots; in_words = a.in_words } in
      let rest = runs_on ms is (with_slot p s v) q (at + 1) n after (All-tail (IsInstr slots words) _ is all) h.1 in
      let l = rest.loads in let t = rest.stores in
      record {
        end = rest.end;
        runs = ap (λ o. and_then (loaded at m s o) (λ k. run_from (at + 1) k is)) x ∙ rest.runs;
        agrees = rest.agrees;
        loads = omega arith;
        stores = omega arith;
      }
  runs_on (StoreMove v ∷ ms) [] p q at m a all h = absurd h
  runs_on (StoreMove v ∷ ms) (Load s w ∷ is) p q at m a all h = absurd h
  runs_on (StoreMove v ∷ ms) (Apply op s args ∷ is) p q at m a all h = absurd h
  runs_on (StoreMove v ∷ ms) (Store s w ∷ is) p q at m a all h =
      let x : m.slots s ≡ Some (value v) = a.in_slots s v h.0.from_slot in
      let n : Machine = record { slots = m.slots; words = put m.words w (value v); loads = m.loads; stores = m.stores + 1 } in
      let after : Agrees value (with_word p w v) n = record { in_slots = a.in_slots; in_words = Holds-put value p.words m.words w v a.in_words } in
      let rest = runs_on ms is (with_word p w v) q (at + 1) n after (All-tail (IsInstr slots words) _ is all) h.1 in
      let l = rest.loads in let t = rest.stores in
      record {
        end = rest.end;
        runs = ap (λ o. and_then (stored at m w o) (λ k. run_from (at + 1) k is)) x ∙ rest.runs;
        agrees = rest.agrees;
        loads = omega arith;
        stores = omega arith;
      }
  runs_on (Compute v ∷ ms) [] p q at m a all h = absurd h
  runs_on (Compute v ∷ ms) (Load s w ∷ is) p q at m a all h = absurd h
  runs_on (Compute v ∷ ms) (Store s w ∷ is) p q at m a all h = absurd h
  runs_on (Compute v ∷ ms) (Apply op s args ∷ is) p q at m a all h =
      let n : Machine = record { slots = put m.slots s (value v); words = m.words; loads = m.loads; stores = m.stores } in
      let after : Agrees value (with_slot p s v) n = record { in_slots = Holds-put value p.slots m.slots s v a.in_slots; in_words = a.in_words } in
      let rest = runs_on ms is (with_slot p s v) q (at + 1) n after (All-tail (IsInstr slots words) _ is all) h.1 in
      let read = all_read value p.slots m.slots a.in_slots (operands_of h.0.node) (take (arity_of op) args) h.0.operands in
      let not_input : op ≡ Input → ⊥ = (All-head (IsInstr slots words) (Apply op s args) is all).no_input in
      let own = are.computed v h.0.node h.0.is_node (λ e. not_input (sym h.0.same_op ∙ e)) in
      let its : value_at op (map (operand_value value) (operands_of h.0.node)) ≡ value v = ap (λ o. value_at o (map (operand_value value) (operands_of h.0.node))) (sym h.0.same_op) ∙ sym own in
      let l = rest.loads in let t = rest.stores in
      record {
        end = rest.end;
        runs =
            ap (λ o. and_then (applied at m op s o) (λ k. run_from (at + 1) k is)) read
            ∙ ap (λ z. run_from (at + 1) (record { slots = put m.slots s z; words = m.words; loads = m.loads; stores = m.stores }) is) its
            ∙ rest.runs;
        agrees = rest.agrees;
        loads = omega arith;
        stores = omega arith;
      }
  runs_on (DropRed v ∷ ms) is p q at m a all h =
      let after : Agrees value (without_slot p h.0) m = record { in_slots = Holds-cleared value p.slots m.slots h.0 a.in_slots; in_words = a.in_words } in
      let rest = runs_on ms is (without_slot p h.0) q at m after all h.2 in
      let l = rest.loads in let t = rest.stores in
      record { end = rest.end; runs = rest.runs; agrees = rest.agrees; loads = omega arith; stores = omega arith }
  runs_on (DropBlue v ∷ ms) is p q at m a all h = absurd h

-- ---- the outputs

outputs_hold : (value : ℕ → ℤ) (p : Places) (real : Cells ℤ) → Holds value p.words real → (at : ℕ) (os : List Output) (ws : List OutWord) → HasOutputs p os ws
    → outputs_read at real ws ≡ Ok (map (λ o. value o.vertex) os)
outputs_hold value p real h at [] [] e = refl
outputs_hold value p real h at [] (w ∷ ws) e = absurd e
outputs_hold value p real h at (o ∷ os) [] e = absurd e
outputs_hold value p real h at (o ∷ os) (w ∷ ws) e =
    rw (h w.word o.vertex e.0, outputs_hold value p real h (at + 1) os ws e.1) refl

first_at : (here : Bool) (k u : ℕ) → cond here (Some k) None ≡ Some u → (here ≡ true) × (k ≡ u)
first_at true k u e = (refl, cc)
first_at false k u e = absurd (cc)

first_agrees : (g : GraphParts) (inputs : List ℤ) (value : ℕ → ℤ) → AreValues g inputs value → length inputs ≡ length g.names → Agrees value (first_places g) (begun inputs)
first_agrees g inputs value are same = record {
  in_slots = λ q u e. absurd (cc);
  in_words = λ q u e.
      let at = first_at (ltb q (length g.names)) q u e in
      let less : q < length inputs = grind (arith, at.0) in
      are.given q less ∙ ap (λ k. Some (value k)) at.1;
}

pub code_computes_outputs : CodeComputesOutputs
code_computes_outputs g c ms is_code plays inputs same value are =
    let first = first_agrees g inputs value are same in
    let ran = runs_on g inputs value are c.slots c.words ms c.instructions (first_places g) plays.last 0 (begun inputs) first is_code.instructions plays.plays in
    let outs = outputs_hold value plays.last ran.end.words ran.agrees.in_words (length c.instructions) g.outputs c.outputs plays.outputs in
    let l : ran.end.loads ≡ loads ms = (let e = ran.loads in omega arith) in
    let t : ran.end.stores ≡ stores ms = (let e = ran.stores in omega arith) in
    ap (λ r. and_then r (λ m. and_then (outputs_read (length c.instructions) m.words c.outputs) (λ xs. Ok (record { outputs = xs; loads = m.loads; stores = m.stores })))) ran.runs
    ∙ ap (λ r. and_then r (λ xs. Ok (record { outputs = xs; loads = ran.end.loads; stores = ran.end.stores }))) outs
    ∙ (λ i. Ok (record { outputs = output_values g value; loads = l i; stores = t i }))
