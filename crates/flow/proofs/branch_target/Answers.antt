-- `flow::branch_target` meets its contract: each answer is a clause of `target_of`, by the tests that led to it.
-- Assumes nothing.
use mathlib.Core.Path.{◌∙◌, sym}
use borrow.Author.Tests.{lt-ltb, le-ltb, eq-eqb, ne_eqb}
use Rattle.flow.specs.Decode.{target_of}
use Rattle.flow.proofs.branch_target.Goals as goal

pub returns-then-to-length : goal.returns-then-to-length
unfolding target_of
returns-then-to-length c = let e = sym c.move_by-spot.ensures ∙ c.in-At.is in
    rw e (simp (eq-eqb _ _ c.if-to-length.true))

pub returns-then-length-to : goal.returns-then-length-to
unfolding target_of
returns-then-length-to c = let e = sym c.move_by-spot.ensures ∙ c.in-At.is in
    rw e (simp (ne_eqb _ _ c.if-to-length.false, lt-ltb _ _ c.if-length-to.true))

pub returns-in-Before : goal.returns-in-Before
unfolding target_of
returns-in-Before c = let e = sym c.move_by-spot.ensures ∙ c.in-Before.is in
    rw (e, c.in-Before.is)

pub returns-then-at-eq0 : goal.returns-then-at-eq0
unfolding target_of
returns-then-at-eq0 c = let e = sym c.move_by-spot.ensures ∙ c.in-At.is in
    rw e (simp (ne_eqb _ _ c.if-to-length.false, le-ltb _ _ c.if-length-to.false, eq-eqb _ _ (sym c.at.ensures ∙ c.if-at-eq0.true)))

pub returns-else-at-eq0 : goal.returns-else-at-eq0
unfolding target_of
returns-else-at-eq0 c = let e = sym c.move_by-spot.ensures ∙ c.in-At.is in
    rw e (simp (ne_eqb _ _ c.if-to-length.false, le-ltb _ _ c.if-length-to.false, ne_eqb _ _ (λ z. c.if-at-eq0.false (c.at.ensures ∙ z))))
