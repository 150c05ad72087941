-- The small grammar's steps, put together as its rules are.
use Rattle.std.proofs.Common.{◌≡◌, ℕ, zero, suc, true, false, eqb, List, [], ◌∷◌, Some, refl, inl, inr, ◌⊎◌, arith}
use Rattle.std.specs.Prelude.{◌||◌, ◌&&◌, not}
use Rattle.token_grammar.specs.declared.fault.GrammarFault.{GrammarFault}
use Rattle.token_grammar.specs.declared.fault.GrammarFault.TheVariants.{Syntax}
use Rattle.token_grammar.specs.Phrases.{Phrase, One, Both, Many}
use Rattle.token_grammar.specs.Readers.{Reader, sees}
use Rattle.token_grammar.specs.Nested.{is_open, is_close, is_item, is_part, single, inside, Item, Group, Part, item, group, part}
use Rattle.token_grammar.proofs.Parts.{Begins, Leads, Ends}
use Rattle.token_grammar.proofs.Steps.{any, Step, step_one, step_both, step_made, step_either, step_many, step_shut, step_shut_open, Starts, starts_one, starts_made, starts_either, begins_by, leads_by, Levels, levels_down, no_fewer, no_more_deep, apart, at_kind, free, first_starts, first_begins}

item_starts : Starts (λ t. is_item t ≡ true) Item
item_starts = starts_made (λ t. is_item t ≡ true) single (One is_item) (starts_one is_item)

item_no_group : Begins (sees is_open) false any Item
item_no_group = begins_by (λ t. is_item t ≡ true) Item (sees is_open) any false item_starts (λ t q. apart t 2 0 q refl)

item_step : (c : GrammarFault) → Step c any item item Item Item Item
item_step c = step_made single (step_one c is_item 2 refl)

abbrev PartStart : ℕ → Type 0
PartStart t = (is_open t ≡ true) ⊎ (is_item t ≡ true)

part_starts : (d : ℕ) → Starts PartStart (Part d)
part_starts zero = λ u a r. let x = item_starts u a r in (x.0, x.1, x.2, inr x.3)
part_starts (suc d) = starts_either (λ t. is_open t ≡ true) (λ t. is_item t ≡ true) (Group (Part d)) Item (first_starts is_open inside (Both (Many (Part d)) (One is_close))) item_starts

seen_part : (t : ℕ) → PartStart t → sees is_part (Some t) ≡ true
seen_part t (inl h) = at_kind t 0 (λ n. eqb n 0 || eqb n 2) true h refl
seen_part t (inr h) = at_kind t 2 (λ n. eqb n 0 || eqb n 2) true h refl

part_begins : (d : ℕ) → Begins (sees is_part) true any (Part d)
part_begins d = begins_by PartStart (Part d) (sees is_part) any true (part_starts d) seen_part

group_end : Leads (Ends any (sees is_part)) any (One is_close)
group_end = leads_by (λ t. is_close t ≡ true) (One is_close) (Ends any (sees is_part)) any (starts_one is_close) (λ t q. at_kind t 1 (λ n. true && not (eqb n 0 || eqb n 2)) true q refl)

group_step : (c : GrammarFault) (p p' : Reader ℕ ℕ) (R R' R⁺ : Phrase ℕ ℕ) → Begins (sees is_part) true any R → Begins (sees is_part) true any R' → Step c any p p' R R' R⁺ → Step c any (group p) (group p') (Group R) (Group R') (Group R⁺)
group_step c p p' R R' R⁺ b b' x =
    let m = step_both group_end group_end (step_many (sees is_part) refl b b' x) (step_one c is_close 1 refl) in
    step_made inside (step_both (free any (Both (Many R) (One is_close))) (free any (Both (Many R') (One is_close))) (step_one c is_open 0 refl) m)

-- a bracket that was too deep opens a group where there is one more level
opens_group : (R : Phrase ℕ ℕ) (t : ℕ) → is_open t ≡ true → (more : List ℕ) × (a : ℕ) × Group R (t ∷ more) a
opens_group R t e = (1 ∷ [], inside (t, ([], 1)), ((t, ([], 1)), (t ∷ [], 1 ∷ [], refl, (refl, e), ([], 1 ∷ [], refl, refl, (refl, refl))), refl))

pub part_step : (c : GrammarFault) (d d' : ℕ) → Levels c d d' → Step c any (part d) (part d') (Part d) (Part d') (Part (suc d))
part_step c zero zero h = step_shut (sees is_open) (Group (Part 0)) refl (λ w t i. opens_group (Part 0) t i) item_no_group item_no_group (item_step c)
part_step c zero (suc e) h =
    let x = part_step Syntax e e (omega arith) in
    let g = group_step Syntax (part e) (part e) (Part e) (Part e) (Part (suc e)) (part_begins e) (part_begins e) x in
    step_shut_open (sees is_open) (Group (Part 0)) refl (λ w t i. opens_group (Part 0) t i) (group (part e)) (Group (Part e)) (no_more_deep c e h)
    (first_begins is_open inside (Both (Many (Part e)) (One is_close))) item_no_group item_no_group g.low (item_step c)
part_step c (suc d) zero h = absurd (no_fewer c d h)
part_step c (suc d) (suc e) h =
    let x = part_step c d e (levels_down c d e h) in
    step_either (sees is_open) (first_begins is_open inside (Both (Many (Part d)) (One is_close))) (first_begins is_open inside (Both (Many (Part e)) (One is_close))) item_no_group item_no_group
    (group_step c (part d) (part e) (Part d) (Part e) (Part (suc d)) (part_begins d) (part_begins e) x) (item_step c)
