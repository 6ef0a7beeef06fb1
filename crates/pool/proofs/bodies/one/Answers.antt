-- `pool::bodies::one` meets its contract: the front of the scratch is lent out, comes back used, and of it marks and numbers are lent out again to be
-- cleared.
-- Assumes nothing.
use mathlib.Core.Path.{refl}
use lib.Seq.{length-take-le}
use Rattle.cells.specs.Zeros.{take_zeros, patched}
use Rattle.pool.proofs.bodies.one.Goals as goal

pub run-used-requires-clause-marks_value : goal.run-used-requires-clause-marks_value
run-used-requires-clause-marks_value c = let p = c.requires in (take_zeros _ _ p.0.marks_zero _ p.1.0.marks_room, (take_zeros _ _ p.0.numbers_zero _ p.1.0.numbers_room, (length-take-le _ _ p.1.0.places_room, (length-take-le _ _ p.1.0.carried_room, p.1.1))))

pub returns : goal.returns
returns c =
    let p = c.requires in
    let r = c.run-used in (
      r.ensures,
      record {
        same = record { marks = refl; depths = refl; queue = refl; queue_depths = refl };
        marks_zero = patched _ _ r.new.marks p.1.0.marks_room r.auto.marks _ p.0.marks_zero c.clear.ensures;
        depths_zero = patched _ _ r.new.numbers p.1.0.numbers_room r.auto.numbers _ p.0.numbers_zero c.clear-2.ensures;
        queue_room = search;
        queue_depths_room = search;
      },
    )
