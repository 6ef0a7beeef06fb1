-- `file::fill::into_column` meets its contract: each turn fills one cell more of the column (LaidLaws.antt). Assumes nothing.
use Rattle.std.proofs.Common.{◌∙◌, arith}
use Rattle.std.specs.Prelude.{map}
use Rattle.std.proofs.lemmas.List.{map-set, length-map}
use Rattle.file.proofs.LaidLaws.{filled_none, filled_next}
use Rattle.file.proofs.fill.into_column.Goals as goal

pub loop-i-init : goal.loop-i-init
loop-i-init g c = filled_none c.args.numbers.now (map g.T.Holds.number c.args.column.now) c.args.width c.args.index

pub loop-i-preserved : goal.loop-i-preserved
loop-i-preserved g c = let f = g.T.Holds.number in
    let l = c.loop-i in
    let n = length-map c.args.column.now f in
    map-set f l.column l.i c.holding.result
    ∙ filled_next c.args.numbers.now (map f c.args.column.now) (map f l.column) c.args.width c.args.index l.i (f c.holding.result) (omega (arith, n, c.requires.column, c.loop-i-test.true)) c.holding.ensures l.invariant
