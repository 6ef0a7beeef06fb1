-- `file::measure::read_numbers` meets its contract: each turn reads one number more (RunLaws.antt), and lays it behind those before it
-- (LaidLaws.antt). Assumes nothing.
use Rattle.std.proofs.Common.{ℕ, ◌≡◌, List, length, sym, ◌∙◌, ap, refl, arith}
use Rattle.std.proofs.lemmas.Result.{err_from_is_err_and}
use Rattle.file.specs.Columns.{over}
use Rattle.file.specs.Numbers.{run_of, numbers}
use Rattle.file.proofs.RunLaws.{run_next, numbers_next, run_ends}
use Rattle.file.proofs.LaidLaws.{over_next, over_all}
use Rattle.file.proofs.TableLaws.{all_there}
use Rattle.file.proofs.measure.read_numbers.Goals as goal

pub loop-cell-init : goal.loop-cell-init
unfolding run_of numbers over
loop-cell-init c = (refl, refl)

pub returns-in_err-number-clause-run : goal.returns-in_err-number-clause-run
returns-in_err-number-clause-run c = let l = c.loop-cell in
    let p = err_from_is_err_and c.from_residual.result c.from_residual.ensures.1 in
    rw (p.1, p.2) (sym (run_ends c.args.file.now l.cell-index (length c.args.cells.now) l.at c.args.start c.in_err-number.field-0.0 (omega arith) l.invariant.0 (sym c.number_at.ensures ∙ c.in_err-number.was)))

pub loop-cell-preserved : goal.loop-cell-preserved
loop-cell-preserved c = let l = c.loop-cell in
    let s = c.args.file.now in
    let there = sym c.number_at.ensures ∙ c.in_ok-number.was in (
      run_next s l.cell-index l.at c.args.start c.in_ok-number.number l.invariant.0 there,
      rw l.invariant.1
          (over_next (numbers l.cell-index s c.args.start) c.args.cells.now l.cell-index c.in_ok-number.number.n
          (all_there l.cell-index s c.args.start l.at l.invariant.0) (omega arith)
          ∙ ap (λ (ns : List ℕ). over ns c.args.cells.now) (sym (numbers_next s l.cell-index l.at c.args.start c.in_ok-number.number l.invariant.0 there))),
    )

pub returns-clause-cells : goal.returns-clause-cells
returns-clause-cells c = let l = c.loop-cell in
    let n : l.cell-index ≡ length c.args.cells.now = omega arith in
    l.invariant.1
    ∙ (ap (λ (k : ℕ). over (numbers k c.args.file.now c.args.start) c.args.cells.now) n
    ∙ over_all (numbers (length c.args.cells.now) c.args.file.now c.args.start) c.args.cells.now
    (all_there (length c.args.cells.now) c.args.file.now c.args.start l.at (rw n at l.invariant.0)))
