-- The operations: how many operands each takes, its word, and its value on 64-bit two's complement numbers.
use Rattle.std.specs.Prelude.{ℕ, ℤ, List, codes, pos, ◌+ℤ◌, ◌-ℤ◌, ◌*ℤ◌, neg_ℤ, cond, slice_index_or}
use Rattle.std.specs.Int.{w64, int_wrap, int_bit_and, int_bit_or, int_bit_xor, int_min, int_max}
use Rattle.std.specs.Ordering.{int_eq}
use Rattle.comp_graph.specs.declared.operation.Op.{Op}
use Rattle.comp_graph.specs.declared.operation.Op.TheVariants.{Input, Set, Add, Sub, Mul, And, Or, Xor, Neg, Min, Max, Sel, Mad}

-- how many operands an operation takes
abbrev pub arity_of : Op → ℕ
arity_of Input = 0
arity_of Set = 1
arity_of Add = 2
arity_of Sub = 2
arity_of Mul = 2
arity_of And = 2
arity_of Or = 2
arity_of Xor = 2
arity_of Neg = 1
arity_of Min = 2
arity_of Max = 2
arity_of Sel = 3
arity_of Mad = 3

-- the word of an operation; `in` stands for one that is given from outside
abbrev pub op_word : Op → List ℕ
op_word Input = codes "in"
op_word Set = codes "set"
op_word Add = codes "add"
op_word Sub = codes "sub"
op_word Mul = codes "mul"
op_word And = codes "and"
op_word Or = codes "or"
op_word Xor = codes "xor"
op_word Neg = codes "neg"
op_word Min = codes "min"
op_word Max = codes "max"
op_word Sel = codes "sel"
op_word Mad = codes "mad"

-- what is left of a number in 64 bits of two's complement
abbrev pub wrapped : ℤ → ℤ
wrapped z = int_wrap w64 z

-- the value of an operation at its operands; it looks at the first `arity_of` of them, and an input has none of its own
abbrev pub value_of : Op → ℤ → ℤ → ℤ → ℤ
value_of Input a b c = pos 0
value_of Set a b c = a
value_of Add a b c = wrapped (a +ℤ b)
value_of Sub a b c = wrapped (a -ℤ b)
value_of Mul a b c = wrapped (a *ℤ b)
value_of And a b c = int_bit_and w64 a b
value_of Or a b c = int_bit_or w64 a b
value_of Xor a b c = int_bit_xor w64 a b
value_of Neg a b c = wrapped (neg_ℤ a)
value_of Min a b c = int_min a b
value_of Max a b c = int_max a b
value_of Sel a b c = cond (int_eq a (pos 0)) c b
value_of Mad a b c = wrapped ((a *ℤ b) +ℤ c)

-- the value of an operation at the first numbers of a list, with 0 in place of each that is missing
abbrev pub value_at : Op → List ℤ → ℤ
value_at op xs = value_of op (slice_index_or xs 0 (pos 0)) (slice_index_or xs 1 (pos 0)) (slice_index_or xs 2 (pos 0))
