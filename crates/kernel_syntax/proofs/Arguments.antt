-- Calls are read argument by argument: each joins a list, which the last one ends.
use Rattle.std.proofs.Common.{◌≡◌, List, [], ◌∷◌, ◌++◌, append_assoc, refl, sym, ap, ◌∙◌}
use Rattle.kernel_lexer.specs.declared.token.Mark.{Mark}
use Rattle.kernel_lexer.specs.declared.token.Mark.TheVariants as m
use Rattle.kernel_lexer.specs.declared.token.Token.{Token}
use Rattle.kernel_syntax.specs.declared.raw.RawExpr.{RawExpr}
use Rattle.kernel_syntax.specs.declared.raw.RawExpr.TheVariants as node
use Rattle.kernel_syntax.specs.Tokens.{sign, is_pair, is_triple, op_of}
use Rattle.kernel_syntax.specs.Trees as tree
use Rattle.kernel_syntax.specs.Parsing.{last, argument, last_argument, pair, triple, pair_by_arguments, triple_by_arguments}
use Rattle.token_grammar.specs.Readers.{Read, Got, Bad, Reader, and_then, one, both, made}

-- a reader of two parts, by what was read of the first
module _ {A B C : Type 0} (f : A × B → C) (p : Reader Token A) (q : Reader Token B) where
  abbrev going_on : A → Reader Token C
  going_on a = made (λ b. f (a, b)) q

  second_part : (a : A) (r : Read Token B) → and_then (and_then r (λ b rest. Got (a, b) rest)) (λ c rest. Got (f c) rest) ≡ and_then r (λ b rest. Got (f (a, b)) rest)
  second_part a (Got b rest) = refl
  second_part a (Bad c rest) = refl

  first_part : (r : Read Token A) → and_then (and_then r (λ a mid. and_then (q mid) (λ b rest. Got (a, b) rest))) (λ c rest. Got (f c) rest) ≡ and_then r going_on
  first_part (Got a mid) = second_part a (q mid)
  first_part (Bad c rest) = refl

  pub by_parts : (ts : List Token) → made f (both p q) ts ≡ and_then (p ts) going_on
  by_parts ts = first_part (p ts)

-- what goes on alike is alike
pub alike : {A B : Type 0} (r : Read Token A) (f g : A → Reader Token B) → ((a : A) (ts : List Token) → f a ts ≡ g a ts) → and_then r f ≡ and_then r g
alike (Got a ts) f g h = h a ts
alike (Bad c ts) f g h = refl

-- a sign, an argument and what stands behind them: the argument joins those before
module _ {B C : Type 0} (mark : Mark) (before : List RawExpr) (p : Reader Token RawExpr) (q : Reader Token B)
    (f : Token × (RawExpr × B) → C) (g : List RawExpr × B → C) (same : (t : Token) (x : RawExpr) (b : B) → f (t, (x, b)) ≡ g (before ++ x ∷ [], b)) where
  rest_same : (t : Token) (x : RawExpr) (r : Read Token B) → and_then r (λ b rest. Got (f (t, (x, b))) rest) ≡ and_then r (λ b rest. Got (g (before ++ x ∷ [], b)) rest)
  rest_same t x (Got b rest) = ap (λ c. Got c rest) (same t x b)
  rest_same t x (Bad c rest) = refl

  argument_same : (t : Token) (r : Read Token RawExpr)
      → and_then r (λ x. made (λ b. f (t, (x, b))) q)
      ≡ and_then (and_then {A = Token × RawExpr} (and_then r (λ x mid. Got (t, x) mid)) (λ z mid. Got (before ++ z.1 ∷ []) mid)) (λ args. made (λ b. g (args, b)) q)
  argument_same t (Got x mid) = rest_same t x (q mid)
  argument_same t (Bad c rest) = refl

  sign_same : (r : Read Token Token)
      → and_then r (λ t. made (λ z. f (t, z)) (both p q))
      ≡ and_then (and_then {A = Token × RawExpr} (and_then r (λ t mid. and_then (p mid) (λ x rest. Got (t, x) rest))) (λ z mid. Got (before ++ z.1 ∷ []) mid)) (λ args. made (λ b. g (args, b)) q)
  sign_same (Got t mid) = by_parts (λ z. f (t, z)) p q mid ∙ argument_same t (p mid)
  sign_same (Bad c rest) = refl

  pub argument_joins : (ts : List Token) → made f (both (one (sign mark)) (both p q)) ts ≡ and_then (argument mark before p ts) (λ args. made (λ b. g (args, b)) q)
  argument_joins ts = by_parts f (one (sign mark)) (both p q) ts ∙ sign_same (one (sign mark) ts)

module _ (p : Reader Token RawExpr) where
  abbrev End : Type 0
  End = Token × (RawExpr × Token)

  abbrev end : Reader Token End
  end = both (one (sign m.Comma)) (both p (last (sign m.CloseParen)))

  -- the last argument and the parenthesis
  ends : (word : Token) (args : List RawExpr) (ts : List Token) → made (λ (z : End). node.Call (op_of word.kind) (args ++ z.1.0 ∷ []) word.from) end ts ≡ last_argument word args p ts
  ends word args ts =
      argument_joins m.Comma args p (last (sign m.CloseParen)) (λ z. node.Call (op_of word.kind) (args ++ z.1.0 ∷ []) word.from) (λ z. node.Call (op_of word.kind) z.0 word.from) (λ t x b. refl) ts
      ∙ sym (by_parts (λ z. node.Call (op_of word.kind) z.0 word.from) (argument m.Comma args p) (last (sign m.CloseParen)) ts)

  pub pair_is : (ts : List Token) → pair p ts ≡ pair_by_arguments p ts
  pair_is ts =
      by_parts tree.pair (one is_pair) (both (one (sign m.OpenParen)) (both p end)) ts
      ∙ alike (one is_pair ts) (λ word. made (λ z. tree.pair (word, z)) (both (one (sign m.OpenParen)) (both p end))) (λ word behind. and_then (argument m.OpenParen [] p behind) (λ args. last_argument word args p))
      (λ word behind.
      argument_joins m.OpenParen [] p end (λ z. tree.pair (word, z)) (λ z. node.Call (op_of word.kind) (z.0 ++ z.1.1.0 ∷ []) word.from) (λ t x b. refl) behind
      ∙ alike (argument m.OpenParen [] p behind) (λ args. made (λ z. node.Call (op_of word.kind) (args ++ z.1.0 ∷ []) word.from) end) (λ args. last_argument word args p) (ends word))

  pub triple_is : (ts : List Token) → triple p ts ≡ triple_by_arguments p ts
  triple_is ts =
      by_parts tree.triple (one is_triple) (both (one (sign m.OpenParen)) (both p (both (one (sign m.Comma)) (both p end)))) ts
      ∙ alike (one is_triple ts) (λ word. made (λ z. tree.triple (word, z)) (both (one (sign m.OpenParen)) (both p (both (one (sign m.Comma)) (both p end)))))
      (λ word behind. and_then (argument m.OpenParen [] p behind) (λ args more. and_then (argument m.Comma args p more) (λ two. last_argument word two p)))
      (λ word behind.
      argument_joins m.OpenParen [] p (both (one (sign m.Comma)) (both p end)) (λ z. tree.triple (word, z)) (λ z. node.Call (op_of word.kind) (z.0 ++ z.1.1.0 ∷ z.1.1.1.1.0 ∷ []) word.from) (λ t x b. refl) behind
      ∙ middle word (argument m.OpenParen [] p behind))
    where
      middle : (word : Token) (r : Read Token (List RawExpr))
          → and_then r (λ args. made (λ z. node.Call (op_of word.kind) (args ++ z.1.0 ∷ z.1.1.1.0 ∷ []) word.from) (both (one (sign m.Comma)) (both p end)))
          ≡ and_then r (λ args more. and_then (argument m.Comma args p more) (λ two. last_argument word two p))
      middle word (Got args more) =
          argument_joins m.Comma args p end (λ z. node.Call (op_of word.kind) (args ++ z.1.0 ∷ z.1.1.1.0 ∷ []) word.from) (λ z. node.Call (op_of word.kind) (z.0 ++ z.1.1.0 ∷ []) word.from)
          (λ t x b. ap (λ l. node.Call (op_of word.kind) l word.from) (sym (append_assoc args (x ∷ []) (b.1.0 ∷ [])))) more
          ∙ alike (argument m.Comma args p more) (λ two. made (λ z. node.Call (op_of word.kind) (two ++ z.1.0 ∷ []) word.from) end) (λ two. last_argument word two p) (ends word)
      middle word (Bad c rest) = refl
