-- The scratch that a body gives back: marks and depths are zero again, and no column changed its room.
-- Assumes nothing.
use mathlib.Core.Path.{refl, ◌∙◌, ap}
use Rattle.cells.specs.Zeros.{zeros, length_zeros}
use Rattle.program.specs.declared.Scratch.{Scratch}
use Rattle.pool.specs.Stated.{ClearedIn, GivenBack}

pub given_first : (s : Scratch) → ClearedIn s → GivenBack s s
given_first s c =
    record {
      same = record { marks = refl; depths = refl; queue = refl; queue_depths = refl };
      marks_zero = c.marks_zero;
      depths_zero = c.numbers_zero;
      queue_room = refl;
      queue_depths_room = refl;
    }

pub given_on : (s t u : Scratch) → GivenBack s t → GivenBack t u → GivenBack s u
given_on s t u g h =
    record {
      same = record { marks = h.same.marks ∙ g.same.marks; depths = h.same.depths ∙ g.same.depths; queue = h.same.queue ∙ g.same.queue; queue_depths = h.same.queue_depths ∙ g.same.queue_depths };
      marks_zero = h.marks_zero ∙ ap zeros (length_zeros t.marks.now _ g.marks_zero);
      depths_zero = h.depths_zero ∙ ap zeros (length_zeros t.depths.now _ g.depths_zero);
      queue_room = h.queue_room ∙ g.queue_room;
      queue_depths_room = h.queue_depths_room ∙ g.queue_depths_room;
    }
