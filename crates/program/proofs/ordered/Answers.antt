-- `program::ordered` meets its contract: one test after the other, in the order of the definition. The count of code bytes, tested first, keeps the room from wrapping.
-- Assumes nothing.
use mathlib.Core.Path.{◌∙◌, sym}
use Rattle.program.specs.Refusals.{contents_of}
use Rattle.program.proofs.Taken.{input_count, input_many, input_room, input_short, input_rest}
use Rattle.program.specs.Taken.{code_limit}
use Rattle.program.proofs.ordered.Goals as goal
use Rattle.program.proofs.ordered.Goals.{then-too_many-via-then-too_many, then-too_many-via-else-too_many+then-many, then-scratch_short-via-then-scratch_short, then-scratch_short-via-else-scratch_short+then-short}

pub returns-then-too_many : goal.returns-then-too_many
returns-then-too_many c = let e = c.too_many.ensures in
    elim c.then-too_many.branch [
      | then-too_many-via-then-too_many w ↦ sym (input_count _ _ _ _ _ (sym e ∙ w.if-too_many.true))
      | then-too_many-via-else-too_many+then-many w ↦ sym (input_many _ _ _ _ _ (sym e ∙ w.if-too_many.false) w.if-many.true)
    ]

pub scratch_short-requires : goal.scratch_short-requires
scratch_short-requires c = code_limit _ (sym c.too_many.ensures ∙ c.if-too_many.false)

pub returns-then-scratch_short : goal.returns-then-scratch_short
returns-then-scratch_short c = let few = sym c.too_many.ensures ∙ c.if-too_many.false in
    let e = c.scratch_short.ensures in
    elim c.then-scratch_short.branch [
      | then-scratch_short-via-then-scratch_short w ↦ sym (input_room _ _ _ _ _ few c.if-many.false (sym e ∙ w.if-scratch_short.true))
      | then-scratch_short-via-else-scratch_short+then-short w ↦ sym (input_short _ _ _ _ _ few c.if-many.false (sym e ∙ w.if-scratch_short.false) w.if-short.true)
    ]

pub returns : goal.returns
unfolding contents_of
returns c = c.contents.ensures
    ∙ sym
    (input_rest _ _ _ _ _
    (sym c.too_many.ensures ∙ c.if-too_many.false)
    c.if-many.false
    (sym c.scratch_short.ensures ∙ c.if-scratch_short.false)
    c.if-short.false)
