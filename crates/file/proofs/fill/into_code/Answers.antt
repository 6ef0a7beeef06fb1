-- `file::fill::into_code` meets its contract: what `copy_from_slice` says, in the words of `over`. Assumes nothing.
use Rattle.std.proofs.Common.{ℕ, ◌∙◌, ◌+◌, ◌-◌, ◌≡◌, ap, arith, take, drop, length-drop, length-take-le}
use Rattle.file.proofs.LaidLaws.{copied}
use Rattle.file.proofs.fill.into_code.Goals as goal

pub returns : goal.returns
returns c = let t = c.args.table.now in
    let size : t.start + c.from-count.result - t.start ≡ t.count = omega arith in
    copied _ _ c.args.code.now c.from-count.result (c.copy_from_slice.ensures.after ∙ ap (λ (n : ℕ). take n (drop t.start c.args.file.now)) size)
    (length-take-le t.count (drop t.start c.args.file.now) (rw length-drop (omega arith)) ∙ omega arith)
