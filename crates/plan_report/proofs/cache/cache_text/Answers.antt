-- The lines, added one by one, are the text.
use Rattle.std.proofs.Common.{[], codes, refl}
use Rattle.plan_report.specs.CacheText.{cache_line, plan_line}
use Rattle.plan_report.proofs.AddedLines.{Holds, line_added}
use Rattle.plan_report.proofs.cache.cache_text.Goals as goal

pub returns : goal.returns
returns c =
    let f = c.args.facts.now in
    let none : Holds c.new-text.result.items [] = record { same = c.new-text.ensures.items } in
    let loads = line_added (cache_line (codes "loads") f.loads) none refl c.in_ok-add_fact.ensures in
    let stores = line_added (cache_line (codes "stores") f.stores) loads refl c.in_ok-add_fact-2.ensures in
    let hits = line_added (cache_line (codes "hits") f.hits) stores refl c.in_ok-add_fact-3.ensures in
    let cost = line_added (cache_line (codes "cost") f.cost) hits refl c.in_ok-add_fact-4.ensures in
    let plan = line_added (plan_line f.plan_cost f.bound) cost refl c.in_ok-add_cost.ensures in
    plan.same
