-- What the evaluation of a kernel keeps of its log: each entry is a node of a graph, and a number that is held is the value of its origin.
use Rattle.std.proofs.Common.{◌≡◌, ◌+◌, ◌++◌, ◌<◌, ◌≤◌, if◌then◌else◌, ℕ, zero, suc, ℤ, pos, nat_lt, Bool, true, false, List, [], ◌∷◌, map, length, drop, refl, sym, ap, subst, ◌∙◌, inl, inr, ◌⊎◌, ⊎_elim, Option, Some, None, Result, Ok, Err, slice_get, slice_index_or, arith}
use Rattle.std.specs.List.{All}
use Rattle.std.proofs.lemmas.Bool.{ltb-true}
use Rattle.std.proofs.lemmas.List.{length_push, length-map}
use Rattle.std.proofs.lemmas.List.Elements.{All-nil, All-cons, All-head, All-tail, All-take, All-drop, All-map, All-weaker}
use Rattle.comp_graph.specs.declared.operation.Op.{Op}
use Rattle.comp_graph.specs.declared.operation.Op.TheVariants as op
use Rattle.comp_graph.specs.declared.node.Operand.{Operand}
use Rattle.comp_graph.specs.declared.node.Operand.TheVariants.{Vertex, Const}
use Rattle.comp_graph.specs.Operations.{arity_of, value_at}
use Rattle.comp_graph.specs.Graphs.{IsNode, IsOperandBelow, IsConstant}
use Rattle.scratch_machine.specs.Values.{operand_value}
use Rattle.kernel_ast.specs.declared.element.Cell.{Cell}
use Rattle.kernel_ast.specs.declared.element.Fault.{Fault}
use Rattle.kernel_ast.specs.Steps.{and_then, each}
use Rattle.kernel_ast.specs.Machine.{Elements, put, is_cell}
use Rattle.kernel_ast.specs.Meaning.{Held, Entry, entry, constants, add_constant, numbered, append_entry, fold_or_append, set_output, with_number, too_many_vertices}
use Rattle.kernel_ast.specs.KernelGraph.{padded, node_of}

-- ---- values, and what a log must be

-- how many inputs there are, their values, and a value for each vertex; the first vertices have the values of the inputs
pub record Valuation : Type 0 where
  pub inputs : ℕ
  pub values : List ℤ
  pub value : ℕ → ℤ
  pub given : (k : ℕ) → k < inputs → slice_index_or values k (pos 0) ≡ value k

-- the vertex of each entry that is no input has the value of its operation
pub record Agrees (z : Valuation) (log : List Entry) : Type 0 where
  pub computed : (v : ℕ) (e : Entry) → slice_get log v ≡ Some e → (e.op ≡ op.Input → ⊥) → z.value v ≡ value_at e.op (map (operand_value z.value) e.operands)

-- a log at the start: at most 256 entries, each a node
pub record IsStart (z : Valuation) (log : List Entry) : Type 0 where
  pub small : length log ≤ 256
  pub nodes : (v : ℕ) (e : Entry) → slice_get log v ≡ Some e → IsNode z.inputs v (node_of e)

-- and later on all inputs are in it
pub record IsLog (z : Valuation) (log : List Entry) : Type 0 where
  pub start : IsStart z log
  pub named : z.inputs ≤ length log

-- what is held has its origin in the log, and is the value of its origin
pub record IsSound (z : Valuation) (log : List Entry) (a : Held) : Type 0 where
  pub below : IsOperandBelow (length log) a.origin
  pub number : Agrees z log → a.number z.values ≡ operand_value z.value a.origin

-- all that elements hold is sound
pub record AreSound (z : Valuation) (log : List Entry) (elements : Elements Held) : Type 0 where
  pub sound : (c : Cell) (a : Held) → elements c ≡ Some a → IsSound z log a

-- ---- entries of a list

pub get_push : {A : Type 0} (xs : List A) (x : A) (v : ℕ) (n : A) → slice_get (xs ++ x ∷ []) v ≡ Some n → (slice_get xs v ≡ Some n) ⊎ ((v ≡ length xs) × (x ≡ n))
get_push [] x zero n e = let same : x ≡ n = cc in inr (refl, same)
get_push [] x (suc v) n e = absurd (cc)
get_push (y ∷ xs) x zero n e = inl e
get_push (y ∷ xs) x (suc v) n e =
    ⊎_elim (λ (h : slice_get xs v ≡ Some n). inl h) (λ (h : (v ≡ length xs) × (x ≡ n)). let next : suc v ≡ suc (length xs) = ap suc h.0 in inr (next, h.1)) (get_push xs x v n e)

get_last : {A : Type 0} (xs : List A) (x : A) → slice_get (xs ++ x ∷ []) (length xs) ≡ Some x
get_last [] x = refl
get_last (y ∷ xs) x = get_last xs x

get_before : {A : Type 0} (xs : List A) (x : A) (v : ℕ) (n : A) → slice_get xs v ≡ Some n → slice_get (xs ++ x ∷ []) v ≡ Some n
get_before [] x v n e = absurd (cc)
get_before (y ∷ xs) x zero n e = e
get_before (y ∷ xs) x (suc v) n e = get_before xs x v n e

-- ---- a log that grows

pub record Grows (z : Valuation) (log next : List Entry) : Type 0 where
  pub longer : length log ≤ length next
  pub agrees : Agrees z next → Agrees z log

grows_not : (z : Valuation) (log : List Entry) → Grows z log log
grows_not z log = record { longer = omega arith; agrees = λ a. a }

grows_on : (z : Valuation) (log next last : List Entry) → Grows z log next → Grows z next last → Grows z log last
grows_on z log next last g h = record { longer = omega (arith, g.longer, h.longer); agrees = λ a. g.agrees (h.agrees a) }

pub grows_push : (z : Valuation) (log : List Entry) (e : Entry) → Grows z log (log ++ e ∷ [])
grows_push z log e = record {
  longer = (let l : length (log ++ e ∷ []) ≡ length log + 1 = length_push log e in omega (arith, l));
  agrees = λ a. record { computed = λ v x at computes. a.computed v x (get_before log e v x at) computes };
}

below_more : (a b : ℕ) (o : Operand) → a ≤ b → IsOperandBelow a o → IsOperandBelow b o
below_more a b (Vertex v) h below = omega (arith, h, below)
below_more a b (Const k) h below = tt

pub sound_later : (z : Valuation) (log next : List Entry) (a : Held) → Grows z log next → IsSound z log a → IsSound z next a
sound_later z log next a g s = record { below = below_more (length log) (length next) a.origin g.longer s.below; number = λ h. s.number (g.agrees h) }

pub all_later : (z : Valuation) (log next : List Entry) (held : List Held) → Grows z log next → All (IsSound z log) held → All (IsSound z next) held
all_later z log next held g s = All-weaker (IsSound z log) (IsSound z next) (λ a h. sound_later z log next a g h) held s

pub elements_later : (z : Valuation) (log next : List Entry) (elements : Elements Held) → Grows z log next → AreSound z log elements → AreSound z next elements
elements_later z log next elements g s = record { sound = λ c a e. sound_later z log next a g (s.sound c a e) }

-- one more entry
pub start_push : (z : Valuation) (log : List Entry) (e : Entry) → IsStart z log → length log < 256 → IsNode z.inputs (length log) (node_of e) → IsStart z (log ++ e ∷ [])
start_push z log e s room n = record {
  small = (let l : length (log ++ e ∷ []) ≡ length log + 1 = length_push log e in omega (arith, l, room));
  nodes = λ v x at.
      ⊎_elim (λ (h : slice_get log v ≡ Some x). s.nodes v x h)
      (λ (h : (v ≡ length log) × (e ≡ x)). subst (λ k. IsNode z.inputs k (node_of x)) (sym h.0) (subst (λ y. IsNode z.inputs (length log) (node_of y)) h.1 n))
      (get_push log e v x at);
}

-- ---- the node of an entry

-- an operation of a tree, which takes at least so many operands
pub record IsOperation (o : Op) (count : ℕ) : Type 0 where
  pub no_input : o ≡ op.Input → ⊥
  pub no_set : o ≡ op.Set → ⊥
  pub few : count ≤ arity_of o

-- a place that no operand stands in
abbrev IsNothing : Operand → Type 0
IsNothing a = a ≡ Const (pos 0)

one_nothing : All IsNothing (Const (pos 0) ∷ [])
one_nothing = All-cons IsNothing (Const (pos 0)) [] refl (All-nil IsNothing)

two_nothing : All IsNothing (Const (pos 0) ∷ Const (pos 0) ∷ [])
two_nothing = All-cons IsNothing (Const (pos 0)) (Const (pos 0) ∷ []) refl one_nothing

three_nothing : All IsNothing (Const (pos 0) ∷ Const (pos 0) ∷ Const (pos 0) ∷ [])
three_nothing = All-cons IsNothing (Const (pos 0)) (Const (pos 0) ∷ Const (pos 0) ∷ []) refl two_nothing

padded_three : (args : List Operand) → length (padded args) ≡ 3
padded_three [] = refl
padded_three (a ∷ []) = refl
padded_three (a ∷ b ∷ []) = refl
padded_three (a ∷ b ∷ c ∷ more) = refl

padded_below : (n : ℕ) (args : List Operand) → All (IsOperandBelow n) args → All (IsOperandBelow n) (padded args)
padded_below n [] s = let P : Operand → Type 0 = IsOperandBelow n in
    All-cons P (Const (pos 0)) (Const (pos 0) ∷ Const (pos 0) ∷ []) tt (All-cons P (Const (pos 0)) (Const (pos 0) ∷ []) tt (All-cons P (Const (pos 0)) [] tt (All-nil P)))
padded_below n (a ∷ []) s = let P : Operand → Type 0 = IsOperandBelow n in
    All-cons P a (Const (pos 0) ∷ Const (pos 0) ∷ []) (All-head P a [] s) (All-cons P (Const (pos 0)) (Const (pos 0) ∷ []) tt (All-cons P (Const (pos 0)) [] tt (All-nil P)))
padded_below n (a ∷ b ∷ []) s = let P : Operand → Type 0 = IsOperandBelow n in
    All-cons P a (b ∷ Const (pos 0) ∷ []) (All-head P a (b ∷ []) s) (All-cons P b (Const (pos 0) ∷ []) (All-head P b [] (All-tail P a (b ∷ []) s)) (All-cons P (Const (pos 0)) [] tt (All-nil P)))
padded_below n (a ∷ b ∷ c ∷ more) s = All-take (IsOperandBelow n) 3 (a ∷ b ∷ c ∷ more) s

padded_rest : (k : ℕ) (args : List Operand) → length args ≤ k → All IsNothing (drop k (padded args))
padded_rest k [] h = All-drop IsNothing k (Const (pos 0) ∷ Const (pos 0) ∷ Const (pos 0) ∷ []) three_nothing
padded_rest zero (a ∷ args) h = absurd (omega (arith, h))
padded_rest (suc k) (a ∷ []) h = All-drop IsNothing k (Const (pos 0) ∷ Const (pos 0) ∷ []) two_nothing
padded_rest (suc zero) (a ∷ b ∷ args) h = absurd (omega (arith, h))
padded_rest (suc (suc k)) (a ∷ b ∷ []) h = All-drop IsNothing k (Const (pos 0) ∷ []) one_nothing
padded_rest (suc (suc zero)) (a ∷ b ∷ c ∷ args) h = absurd (omega (arith, h))
padded_rest (suc (suc (suc k))) (a ∷ b ∷ c ∷ args) h = All-drop IsNothing k [] (All-nil IsNothing)

IsNode-operation : (inputs n : ℕ) (o : Op) (args : List Operand) → IsOperation o (length args) → inputs ≤ n → All (IsOperandBelow n) args → IsNode inputs n (node_of (entry o args))
IsNode-operation inputs n o args is h below = record {
  three = padded_three args;
  input_first = (λ e. absurd (is.no_input e), λ low. absurd (omega (arith, low, h)));
  below = All-take (IsOperandBelow n) (arity_of o) (padded args) (padded_below n args below);
  set_constant = λ e. absurd (is.no_set e);
  rest = padded_rest (arity_of o) args is.few;
}

IsNode-set : (inputs n : ℕ) (k : ℤ) → inputs ≤ n → IsNode inputs n (node_of (entry op.Set (Const k ∷ [])))
IsNode-set inputs n k h = record {
  three = refl;
  input_first = (λ e. absurd (cc), λ low. absurd (omega (arith, low, h)));
  below = All-cons (IsOperandBelow n) (Const k) [] tt (All-nil (IsOperandBelow n));
  set_constant = λ e. All-cons IsConstant (Const k) [] tt (All-nil IsConstant);
  rest = two_nothing;
}

pub IsNode-input : (inputs v : ℕ) → v < inputs → IsNode inputs v (node_of (entry op.Input []))
IsNode-input inputs v h = record {
  three = refl;
  input_first = (λ e. h, λ low. refl);
  below = All-nil (IsOperandBelow v);
  set_constant = λ e. absurd (cc);
  rest = three_nothing;
}

-- ---- a step, which keeps the log

-- the log behind a step, and what the step gave
pub record Next {B : Type 0} (z : Valuation) (Good : List Entry → B → Type 0) (log : List Entry) (r : B × List Entry) : Type 0 where
  pub is_log : IsLog z r.1
  pub grows : Grows z log r.1
  pub good : Good r.1 r.0

-- if a step has no fault, it keeps the log, and what it gives is good
pub record Kept {B : Type 0} (z : Valuation) (Good : List Entry → B → Type 0) (log : List Entry) (o : Result (B × List Entry) Fault) : Type 0 where
  pub next : (r : B × List Entry) → o ≡ Ok r → Next z Good log r

pub kept_ok : {B : Type 0} (z : Valuation) (Good : List Entry → B → Type 0) (log next : List Entry) (b : B) → IsLog z next → Grows z log next → Good next b → Kept z Good log (Ok (b, next))
kept_ok z Good log next b l g good = record {
  next = λ r is.
      let same : (b, next) ≡ r = cc in
      let here : Next z Good log (b, next) = record { is_log = l; grows = g; good = good } in
      subst (Next z Good log) same here;
}

pub kept_same : {B : Type 0} (z : Valuation) (Good : List Entry → B → Type 0) (log : List Entry) (b : B) → IsLog z log → Good log b → Kept z Good log (Ok (b, log))
kept_same z Good log b l good = kept_ok z Good log log b l (grows_not z log) good

pub kept_err : {B : Type 0} (z : Valuation) (Good : List Entry → B → Type 0) (log : List Entry) (f : Fault) → Kept {B = B} z Good log (Err f)
kept_err z Good log f = record { next = λ r is. absurd (cc) }

pub kept_then : {B C : Type 0} (z : Valuation) (G : List Entry → B → Type 0) (H : List Entry → C → Type 0) (log : List Entry) (o : Result (B × List Entry) Fault) (f : B × List Entry → Result (C × List Entry) Fault)
    → Kept z G log o → ((b : B) (next : List Entry) → IsLog z next → Grows z log next → G next b → Kept z H next (f (b, next))) → Kept z H log (and_then o f)
kept_then z G H log (Err x) f k e = kept_err z H log x
kept_then z G H log (Ok q) f k e =
    let one = k.next q refl in
    let after : Kept z H q.1 (f q) = e q.0 q.1 one.is_log one.grows one.good in
    record { next = λ r is. let two = after.next r is in record { is_log = two.is_log; grows = grows_on z log q.1 r.1 one.grows two.grows; good = two.good } }

pub kept_after : {A B : Type 0} (z : Valuation) (G : List Entry → B → Type 0) (log : List Entry) (o : Result A Fault) (f : A → Result (B × List Entry) Fault) → ((a : A) → Kept z G log (f a)) → Kept z G log (and_then o f)
kept_after z G log (Ok a) f k = k a
kept_after z G log (Err x) f k = kept_err z G log x

pub each_kept : {A B : Type 0} (z : Valuation) (G : List Entry → B → Type 0) (f : A → B × List Entry → Result (B × List Entry) Fault) (xs : List A)
    → ((a : A) (b : B) (log : List Entry) → IsLog z log → G log b → Kept z G log (f a (b, log))) → (b : B) (log : List Entry) → IsLog z log → G log b → Kept z G log (each f xs (b, log))
each_kept z G f [] step b log l g = kept_same z G log b l g
each_kept z G f (a ∷ xs) step b log l g = kept_then z G G log (f a (b, log)) (each f xs) (step a b log l g) (λ c next m _ h. each_kept z G f xs step c next m h)

-- ---- what the machine does

appended : (z : Valuation) (Good : List Entry → Held → Type 0) (log : List Entry) (at : ℕ) (e : Entry) (number : List ℤ → ℤ)
    → IsLog z log → IsNode z.inputs (length log) (node_of e) → Good (log ++ e ∷ []) (record { number = number; origin = Vertex (length log) })
    → Kept z Good log (and_then (append_entry at e log) (with_number number))
appended z Good log at e number l n good = tested (nat_lt (length log) 256) refl
  where
    tested : (b : Bool) → nat_lt (length log) 256 ≡ b → Kept z Good log (and_then (if b then Ok (Vertex (length log), log ++ e ∷ []) else Err (too_many_vertices at)) (with_number number))
    tested true is =
        let grows = grows_push z log e in
        let whole : IsLog z (log ++ e ∷ []) = record { start = start_push z log e l.start (ltb-true (length log) 256 is) n; named = omega (arith, l.named, grows.longer) } in
        kept_ok z Good log (log ++ e ∷ []) (record { number = number; origin = Vertex (length log) }) whole grows good
    tested false is = kept_err z Good log (too_many_vertices at)

arguments_sound : (z : Valuation) (log : List Entry) (args : List Held) → Agrees z log → All (IsSound z log) args → map (λ a. a.number z.values) args ≡ map (operand_value z.value) (map (λ a. a.origin) args)
arguments_sound z log [] g s = refl
arguments_sound z log (a ∷ more) g s = λ i. (All-head (IsSound z log) a more s).number g i ∷ arguments_sound z log more g (All-tail (IsSound z log) a more s) i

origins_below : (z : Valuation) (log : List Entry) (args : List Held) → All (IsSound z log) args → All (IsOperandBelow (length log)) (map (λ a. a.origin) args)
origins_below z log args s = All-map (IsOperandBelow (length log)) (λ (a : Held). a.origin) args (All-weaker (IsSound z log) (λ a. IsOperandBelow (length log) a.origin) (λ a h. h.below) args s)

constants_sound : (value : ℕ → ℤ) (os : List Operand) (ns : List ℤ) → constants os ≡ Some ns → map (operand_value value) os ≡ ns
constants_sound value [] ns e = cc
constants_sound value (Vertex v ∷ os) ns e = absurd (cc)
constants_sound value (Const n ∷ os) ns e = rest (constants os) (constants_sound value os) e
  where
    rest : (c : Option (List ℤ)) → ((ms : List ℤ) → c ≡ Some ms → map (operand_value value) os ≡ ms) → add_constant (Const n) c ≡ Some ns → n ∷ map (operand_value value) os ≡ ns
    rest None more e = absurd (cc)
    rest (Some ms) more e = let same : n ∷ ms ≡ ns = cc in ap (λ l. n ∷ l) (more ms refl) ∙ same

-- a new entry that is no input
new_sound : (z : Valuation) (log : List Entry) (e : Entry) (number : List ℤ → ℤ) → (e.op ≡ op.Input → ⊥) → (Agrees z log → number z.values ≡ value_at e.op (map (operand_value z.value) e.operands))
    → IsSound z (log ++ e ∷ []) (record { number = number; origin = Vertex (length log) })
new_sound z log e number computes is = record {
  below = (let l : length (log ++ e ∷ []) ≡ length log + 1 = length_push log e in omega (arith, l));
  number = λ g. is ((grows_push z log e).agrees g) ∙ sym (g.computed (length log) e (get_last log e) computes);
}

-- an operation
pub operated : (z : Valuation) (o : Op) (at : ℕ) (args : List Held) (log : List Entry) → IsOperation o (length args) → IsLog z log → All (IsSound z log) args
    → Kept z (IsSound z) log (numbered.operate o at args log)
operated z o at args log is l s = known (constants (map (λ a. a.origin) args)) refl
  where
    known : (c : Option (List ℤ)) → constants (map (λ a. a.origin) args) ≡ c
        → Kept z (IsSound z) log (and_then (fold_or_append o at (map (λ a. a.origin) args) c log) (with_number (λ values. value_at o (map (λ a. a.number values) args))))
    known None e =
        let long : length (map (λ (a : Held). a.origin) args) ≡ length args = length-map args (λ (a : Held). a.origin) in
        let few : IsOperation o (length (map (λ (a : Held). a.origin) args)) = subst (IsOperation o) (sym long) is in
        appended z (IsSound z) log at (entry o (map (λ a. a.origin) args)) (λ values. value_at o (map (λ a. a.number values) args)) l
        (IsNode-operation z.inputs (length log) o (map (λ a. a.origin) args) few l.named (origins_below z log args s))
        (new_sound z log (entry o (map (λ a. a.origin) args)) _ is.no_input (λ g. ap (value_at o) (arguments_sound z log args g s)))
    known (Some ns) e =
        kept_same z (IsSound z) log _ l
        (record { below = tt; number = λ g. ap (value_at o) (arguments_sound z log args g s ∙ constants_sound z.value (map (λ a. a.origin) args) ns e) })

-- an output element that was given out: its origin is a vertex
pub record IsPut (z : Valuation) (log : List Entry) (a : Held) : Type 0 where
  pub sound : IsSound z log a
  pub vertex : (v : ℕ) × (a.origin ≡ Vertex v)

-- an output element
pub put_out : (z : Valuation) (at : ℕ) (v : Held) (log : List Entry) → IsLog z log → IsSound z log v → Kept z (IsPut z) log (numbered.output at v log)
put_out z at v log l s = known v.origin s.below s.number
  where
    known : (o : Operand) → IsOperandBelow (length log) o → (Agrees z log → v.number z.values ≡ operand_value z.value o) → Kept z (IsPut z) log (and_then (set_output at o log) (with_number v.number))
    known (Vertex k) b n = kept_same z (IsPut z) log _ l (record { sound = record { below = b; number = n }; vertex = (k, refl) })
    known (Const c) b n =
        appended z (IsPut z) log at (entry op.Set (Const c ∷ [])) v.number l (IsNode-set z.inputs (length log) c l.named)
        (record { sound = new_sound z log (entry op.Set (Const c ∷ [])) v.number (λ e. absurd (cc)) n; vertex = (length log, refl) })

-- an element is set to what is sound
pub put_sound : (z : Valuation) (log : List Entry) (elements : Elements Held) (c : Cell) (v : Held) → AreSound z log elements → IsSound z log v → AreSound z log (put elements c v)
put_sound z log elements c v es s = record { sound = λ other a. tested other a (is_cell other c) (elements other) (es.sound other a) }
  where
    tested : (other : Cell) (a : Held) (b : Bool) (o : Option Held) → (o ≡ Some a → IsSound z log a) → (if b then Some v else o) ≡ Some a → IsSound z log a
    tested other a true o h e = let same : v ≡ a = cc in subst (IsSound z log) same s
    tested other a false o h e = h e
