-- A text stands for one kernel or has one first fault.
use Rattle.std.proofs.Common.{◌≡◌, ◌<◌, ◌≤◌, ℕ, List, [], ◌∷◌, length, Option, Some, None, refl, sym, ap, ◌∙◌, subst, arith, inl, inr, ◌⊎◌}
use Rattle.kernel_ast.specs.KernelParts.{KernelParts}
use Rattle.kernel_ast.specs.WellFormed.{IsWellFormed}
use Rattle.kernel_lexer.specs.declared.token.Token.{Token}
use Rattle.kernel_lexer.specs.Texts.{AreTextTokens, IsTextFault}
use Rattle.kernel_lexer.proofs.Always.{always_one}
use Rattle.kernel_lexer.proofs.Fronts.{one_token_list, one_first_fault, never_both as no_token_fault}
use Rattle.kernel_syntax.specs.declared.raw.RawKernel.{RawKernel}
use Rattle.kernel_syntax.specs.Grammar.{Whole}
use Rattle.kernel_parser.specs.KernelTexts.{IsWritten, Reads, IsTokenFault, IsSyntaxFault, IsNameFault, IsFaultOfText, syntax_code}
use Rattle.kernel_parser.specs.NameFaults.{NameFault}
use Rattle.kernel_parser.specs.Names.{name_faults}
use Rattle.kernel_syntax.specs.Parsing.{whole}
use Rattle.kernel_syntax.specs.Reading.{place_of}
use Rattle.kernel_parser.specs.Resolved.{tree_of}
use Rattle.kernel_parser.specs.TextLaws.{OneKernel, OneTextFault, KernelWithoutFault, KernelOrFault, KernelsAreWellFormed}
use Rattle.kernel_parser.proofs.GoodKernels.{kernel_holds}
use Rattle.kernel_syntax.proofs.KernelSteps.{whole_step}
use Rattle.kernel_parser.proofs.ReadKernels.{text_fits}
use Rattle.token_grammar.specs.declared.fault.GrammarFault.{GrammarFault}
use Rattle.token_grammar.specs.Faults.{IsGrammarFault}
use Rattle.token_grammar.specs.Readers.{first}
use Rattle.token_grammar.proofs.Texts.{only_reading, one_fault, never_both as no_syntax_fault, word_or_fault}

-- ---- one tree

one_tree : (text : List ℕ) (ts us : List Token) (a b : RawKernel) → IsWritten text ts a → IsWritten text us b → a ≡ b
one_tree text ts us a b h g =
    let same : ts ≡ us = one_token_list text ts us h.spelled g.spelled in
    only_reading whole Whole whole_step 32 32 us a b (subst (λ z. Whole 32 z a) same h.read) g.read

pub one_kernel : OneKernel
one_kernel text a b h g = h.means ∙ ap (tree_of text) (one_tree text h.tokens g.tokens h.raw g.raw h.written g.written) ∙ sym g.means

pub kernels_are_well_formed : KernelsAreWellFormed
kernels_are_well_formed text k h =
    subst IsWellFormed (sym h.means) (kernel_holds text h.raw (text_fits text h.tokens h.raw h.written.short h.written.spelled h.written.read) h.faultless)

-- ---- faults of phases exclude each other

-- what is long is not short
long_short : {X : Type 0} (text : List ℕ) → 65536 < length text → length text ≤ 65536 → X
long_short text l s = absurd (omega (arith, l, s))

-- a text with tokens has no fault of tokens
tokens_or : {X : Type 0} (text : List ℕ) (c at : ℕ) (ts : List Token) → IsTokenFault text c at → AreTextTokens text ts → X
tokens_or text c at ts h a = absurd (no_token_fault text ts c at a h.fault)

-- a text with a tree has no fault of syntax
tree_or : {X : Type 0} (text : List ℕ) (c at : ℕ) (ts : List Token) (a : RawKernel) → IsSyntaxFault text c at → IsWritten text ts a → X
tree_or text c at ts a h w =
    let same : ts ≡ h.tokens = one_token_list text ts h.tokens w.spelled h.spelled in
    absurd (no_syntax_fault Whole 32 h.tokens a h.fault h.rest (subst (λ z. Whole 32 z a) same w.read) h.here)

-- a text without faults of names has no first one
names_or : {X : Type 0} (text : List ℕ) (c at : ℕ) (ts : List Token) (a : RawKernel) → IsNameFault text c at → IsWritten text ts a → name_faults text a ≡ [] → X
names_or text c at ts a h w none =
    let same = one_tree text ts h.tokens a h.raw w h.written in
    let e : None ≡ Some (record { code = c; at = at }) = sym (ap first none) ∙ ap (λ z. first (name_faults text z)) same ∙ h.here in
    absurd (cc)

pub kernel_without_fault : KernelWithoutFault
kernel_without_fault text k c at h (inl f) = long_short text f.long h.written.short
kernel_without_fault text k c at h (inr (inl f)) = tokens_or text c at h.tokens f h.written.spelled
kernel_without_fault text k c at h (inr (inr (inl f))) = tree_or text c at h.tokens h.raw f h.written
kernel_without_fault text k c at h (inr (inr (inr f))) = names_or text c at h.tokens h.raw f h.written h.faultless

-- ---- one fault

one_syntax_fault : (text : List ℕ) (c d at place : ℕ) → IsSyntaxFault text c at → IsSyntaxFault text d place → (c ≡ d) × (at ≡ place)
one_syntax_fault text c d at place h g =
    let same : h.tokens ≡ g.tokens = one_token_list text h.tokens g.tokens h.spelled g.spelled in
    let e = one_fault Whole 32 h.fault g.fault g.tokens h.rest g.rest (subst (λ z. IsGrammarFault Whole 32 h.fault z h.rest) same h.here) g.here in
    (h.code_is ∙ ap syntax_code e.0 ∙ sym g.code_is, h.at_is ∙ ap (place_of (length text)) e.1 ∙ sym g.at_is)

one_entry : (c d at place : ℕ) (o : Option NameFault) → o ≡ Some (record { code = c; at = at }) → o ≡ Some (record { code = d; at = place }) → (c ≡ d) × (at ≡ place)
one_entry c d at place None h g = absurd (cc)
one_entry c d at place (Some f) h g =
    let x : f ≡ record { code = c; at = at } = cc in
    let y : f ≡ record { code = d; at = place } = cc in
    (ap (λ z. z.code) (sym x ∙ y), ap (λ z. z.at) (sym x ∙ y))

one_name_fault : (text : List ℕ) (c d at place : ℕ) → IsNameFault text c at → IsNameFault text d place → (c ≡ d) × (at ≡ place)
one_name_fault text c d at place h g =
    let same = one_tree text h.tokens g.tokens h.raw g.raw h.written g.written in
    one_entry c d at place (first (name_faults text g.raw)) (ap (λ z. first (name_faults text z)) (sym same) ∙ h.here) g.here

pub one_text_fault : OneTextFault
one_text_fault text c d at place (inl h) (inl g) = (h.code_is ∙ sym g.code_is, h.at_is ∙ sym g.at_is)
one_text_fault text c d at place (inl h) (inr (inl g)) = long_short text h.long g.short
one_text_fault text c d at place (inl h) (inr (inr (inl g))) = long_short text h.long g.short
one_text_fault text c d at place (inl h) (inr (inr (inr g))) = long_short text h.long g.written.short
one_text_fault text c d at place (inr (inl h)) (inl g) = long_short text g.long h.short
one_text_fault text c d at place (inr (inl h)) (inr (inl g)) = one_first_fault text c d at place h.fault g.fault
one_text_fault text c d at place (inr (inl h)) (inr (inr (inl g))) = tokens_or text c at g.tokens h g.spelled
one_text_fault text c d at place (inr (inl h)) (inr (inr (inr g))) = tokens_or text c at g.tokens h g.written.spelled
one_text_fault text c d at place (inr (inr (inl h))) (inl g) = long_short text g.long h.short
one_text_fault text c d at place (inr (inr (inl h))) (inr (inl g)) = tokens_or text d place h.tokens g h.spelled
one_text_fault text c d at place (inr (inr (inl h))) (inr (inr (inl g))) = one_syntax_fault text c d at place h g
one_text_fault text c d at place (inr (inr (inl h))) (inr (inr (inr g))) = tree_or text c at g.tokens g.raw h g.written
one_text_fault text c d at place (inr (inr (inr h))) (inl g) = long_short text g.long h.written.short
one_text_fault text c d at place (inr (inr (inr h))) (inr (inl g)) = tokens_or text d place h.tokens g h.written.spelled
one_text_fault text c d at place (inr (inr (inr h))) (inr (inr (inl g))) = tree_or text d place h.tokens h.raw g h.written
one_text_fault text c d at place (inr (inr (inr h))) (inr (inr (inr g))) = one_name_fault text c d at place h g

-- ---- always one

-- a kernel, or a first fault
abbrev Answer : List ℕ → Type 0
Answer text = ((kernel : KernelParts) × Reads text kernel) ⊎ ((code : ℕ) × (at : ℕ) × IsFaultOfText text code at)

by_names : (text : List ℕ) (ts : List Token) (a : RawKernel) → IsWritten text ts a → (fs : List NameFault) → name_faults text a ≡ fs → Answer text
by_names text ts a w [] e = inl (tree_of text a, record { tokens = ts; raw = a; written = w; faultless = e; means = refl })
by_names text ts a w (f ∷ fs) e = inr (f.code, f.at, inr (inr (inr (record { tokens = ts; raw = a; written = w; here = ap first e }))))

by_syntax : (text : List ℕ) (ts : List Token) → length text ≤ 65536 → AreTextTokens text ts → ((a : RawKernel) × Whole 32 ts a) ⊎ ((f : GrammarFault) × (rest : List Token) × IsGrammarFault Whole 32 f ts rest) → Answer text
by_syntax text ts short s (inl (a, r)) = by_names text ts a (record { short = short; spelled = s; read = r }) (name_faults text a) refl
by_syntax text ts short s (inr (f, rest, h)) =
    inr (syntax_code f, place_of (length text) rest, inr (inr (inl (record { short = short; tokens = ts; spelled = s; fault = f; rest = rest; here = h; code_is = refl; at_is = refl }))))

by_tokens : (text : List ℕ) → length text ≤ 65536 → ((ts : List Token) × AreTextTokens text ts) ⊎ ((c : ℕ) × (at : ℕ) × IsTextFault text c at) → Answer text
by_tokens text short (inl (ts, s)) = by_syntax text ts short s (word_or_fault whole Whole whole_step 32 ts)
by_tokens text short (inr (c, at, f)) = inr (c, at, inr (inl (record { short = short; fault = f })))

by_length : (text : List ℕ) → (length text ≤ 65536) ⊎ (65536 < length text) → Answer text
by_length text (inl short) = by_tokens text short (always_one text)
by_length text (inr long) = inr (15, 65536, inl (record { long = long; code_is = refl; at_is = refl }))

pub kernel_or_fault : KernelOrFault
kernel_or_fault text = by_length text (le_or_lt (length text) 65536)
  where
    le_or_lt : (a b : ℕ) → (a ≤ b) ⊎ (b < a)
    le_or_lt a b = grind arith
