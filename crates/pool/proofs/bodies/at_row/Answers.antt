-- `pool::bodies::at_row` meets its contract: the row is lent out of the cells and comes back.
-- Assumes nothing.
use Prim.Native.Nat.{◌+◌, ◌-◌, ◌*◌}
use mathlib.Core.Path.{◌≡◌, refl}
use native.Mathlib.Omega.{arith}
use Rattle.pool.proofs.Rows.{row_blank, lays}
use Rattle.pool.proofs.bodies.at_row.Goals as goal

pub one-requires : goal.one-requires
one-requires c = let p = c.requires in let a = c.args in let n : a.row * 128 + 128 - a.row * 128 ≡ 128 = omega arith in (p.0, (p.1.0, row_blank a.row a.cells.now (a.row * 128 + 128 - a.row * 128) p.1.1 n))

pub returns : goal.returns
returns c = let a = c.args in let n : a.row * 128 + 128 - a.row * 128 ≡ 128 = omega arith in (lays _ a.row a.cells.now _ c.one.new.row _ _ c.requires.1.1 n c.one.auto.row refl c.one.ensures.0, c.one.ensures.1)
