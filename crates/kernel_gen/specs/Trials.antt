-- The trial kernels (this project's convention): for each number of statements a kernel of one input array, one output and one array of
-- temporaries. Each statement sets the next temporary from two elements of the pool, which are the inputs and the temporaries before it.
use Rattle.std.specs.Prelude.{ℕ, zero, suc, ◌+◌, ◌-◌, ◌*◌, ◌/◌, ◌%◌, ◌==◌, nat_lt, if◌then◌else◌, List, [], ◌∷◌, ◌++◌, codes, decimal}
use Rattle.line_texts.specs.Lines.{ended}

-- an input element
abbrev pub input : ℕ → List ℕ
input i = codes "x[" ++ (decimal i ++ codes "]")

-- the temporary of the k-th statement: the first index runs fastest
abbrev pub temporary : ℕ → List ℕ
temporary k = codes "t[" ++ (decimal (k % 64) ++ (codes "][" ++ (decimal (k / 64) ++ codes "]")))

-- the pool: the 16 inputs, and behind them the temporaries
abbrev pub element : ℕ → List ℕ
element j = if nat_lt j 16 then input j else temporary (j - 16)

-- `+` and `*` in turn
abbrev pub operator : ℕ → List ℕ
operator k = if k % 2 == 0 then codes "+" else codes "*"

-- the pool element that the k-th of n statements has on its left
abbrev pub left_operand : ℕ → ℕ → ℕ
left_operand n k = (7 * k + n) % (16 + k)

-- the k-th of n statements
abbrev pub statement : ℕ → ℕ → List ℕ
statement n k =
    element (16 + k) ++ (codes " = " ++ (element (left_operand n k) ++ (codes " " ++ (operator k ++ (codes " " ++ (element (15 + k) ++ codes ";"))))))

-- so many of n statements from the k-th on
abbrev pub statements : ℕ → ℕ → ℕ → List (List ℕ)
statements n k zero = []
statements n k (suc more) = statement n k ∷ statements n (k + 1) more

-- the output is the last temporary
abbrev pub output : ℕ → List ℕ
output n = codes "y = " ++ (element (15 + n) ++ codes ";")

-- the title and the declarations
abbrev pub heading : List (List ℕ)
heading = codes "kernel trial {" ∷ codes "in x[16];" ∷ codes "out y;" ∷ codes "tmp t[64][4];" ∷ []

-- the lines of the kernel with n statements
abbrev pub lines : ℕ → List (List ℕ)
lines n = heading ++ (statements n 0 n ++ (output n ∷ codes "}" ∷ []))

-- the text of the kernel with n statements
abbrev pub trial_kernel : ℕ → List ℕ
trial_kernel n = ended (lines n)
