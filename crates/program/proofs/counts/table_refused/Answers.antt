-- `program::counts::table_refused` meets its contract: what `any` says of the columns.
-- Assumes nothing.
use Rattle.std.proofs.Common.{ℕ, ◌∙◌, rules, false, true}
use Rattle.std.specs.Prelude.{eqb, cond, Bool}
use borrow.Author.Tests.{tests, lt-ltb, le-ltb}
use Rattle.std.proofs.lemmas.Iterator.{YieldsList-from_slice}
use Rattle.std.proofs.lemmas.Iterator.Search.{any_from_yields_List}
use Rattle.program.specs.Refusals.{table_refused}
use Rattle.program.proofs.Found.{differs_list}
use Rattle.program.proofs.counts.table_refused.Goals as goal

pub returns-then-rows-limit : goal.returns-then-rows-limit
unfolding table_refused
returns-then-rows-limit c = rw (lt-ltb c.args.limit c.args.rows c.if-rows-limit.true)

pub returns-else-rows-limit : goal.returns-else-rows-limit
unfolding table_refused
returns-else-rows-limit c = let a = c.args in
    rw (le-ltb a.limit a.rows c.if-rows-limit.false)
    (any_from_yields_List (λ (n : ℕ). cond (eqb n a.rows) false true) _ _ _ c.any.ensures.ran (YieldsList-from_slice a.others.now cc) (λ x b q k. search (rules, tests)) ∙ differs_list a.rows a.others.now)
