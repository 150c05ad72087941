-- The text of a cache beside a plan: five lines that say what the cache does and costs, and what a plan of the same game costs (this
-- project's convention).
use Rattle.std.specs.Prelude.{ℕ, List, [], ◌∷◌, codes}
use Rattle.std.specs.Fmt.{decimal}
use Rattle.plan_report.specs.declared.cache.CacheFacts.{CacheFacts}
use Rattle.line_texts.specs.Lines.{ended}
use Rattle.line_texts.specs.Words.{line}

-- a number of the cache, with its name
abbrev pub cache_line : List ℕ → ℕ → List ℕ
cache_line name n = line (codes "cache") (name ∷ decimal n ∷ [])

-- the cost of the plan, and the bound that was shown
abbrev pub plan_line : ℕ → ℕ → List ℕ
plan_line cost bound = line (codes "plan") (codes "cost" ∷ decimal cost ∷ codes "bound" ∷ decimal bound ∷ [])

-- the lines of a cache beside a plan
abbrev pub cache_lines : CacheFacts → List (List ℕ)
cache_lines f =
    cache_line (codes "loads") f.loads ∷ cache_line (codes "stores") f.stores ∷ cache_line (codes "hits") f.hits ∷ cache_line (codes "cost") f.cost
    ∷ plan_line f.plan_cost f.bound ∷ []

-- the text of a cache beside a plan
abbrev pub cache_text : CacheFacts → List ℕ
cache_text f = ended (cache_lines f)
