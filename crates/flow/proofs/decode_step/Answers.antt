-- `flow::decode_step` meets its contract: each answer is a clause of `step_by`, by the tests that led to it.
-- Assumes nothing.
use mathlib.Core.Path.{◌∙◌, sym}
use borrow.Author.Tests.{le-leb, lt-leb, eq-eqb, ne_eqb}
use Rattle.flow.specs.Decode.{step_by}
use Rattle.flow.proofs.decode_step.Goals as goal

pub returns-then-body-offset : goal.returns-then-body-offset
unfolding step_by
returns-then-body-offset c = simp (le-leb _ _ c.if-body-offset.true)

pub returns-then-size-eq0 : goal.returns-then-size-eq0
unfolding step_by
returns-then-size-eq0 c = simp (lt-leb _ _ c.if-body-offset.false, eq-eqb _ 0 (sym c.size_in-size.ensures ∙ c.if-size-eq0.true))

pub returns-then-from-body : goal.returns-then-from-body
unfolding step_by
returns-then-from-body c = let e = c.size_in-size.ensures in
    let n = c.from.ensures in
    simp (e, lt-leb _ _ c.if-body-offset.false, ne_eqb _ 0 (λ z. c.if-size-eq0.false (e ∙ z)), le-leb _ _ (rw (n, e) at c.if-from-body.true))

pub returns-else-from-body : goal.returns-else-from-body
unfolding step_by
returns-else-from-body c = let e = c.size_in-size.ensures in
    let n = c.from.ensures in
    simp (lt-leb _ _ c.if-body-offset.false, ne_eqb _ 0 (λ z. c.if-size-eq0.false (e ∙ z)), lt-leb _ _ (rw (n, e) at c.if-from-body.false))
