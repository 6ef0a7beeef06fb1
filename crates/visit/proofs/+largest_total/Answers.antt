-- The cycle of calls of `visit::total` and `visit::largest`: each turn and return is a law of `Steps`. Assumes nothing.
use Rattle.std.proofs.Common.{◌≡◌, set, arith}
use Rattle.visit.specs.Cells.{graph_of}
use Rattle.visit.specs.Marks.{unopened}
use Rattle.visit.proofs.Colours.{unopened_open, into, opened_kept}
use Rattle.visit.proofs.Steps.{row_begins, row_ends, row_unknown, row_open, row_closed, row_failed, row_fine, closes_failed, closes_above, closes_below}
use Rattle.visit.proofs.+largest_total.Goals as goal
use Rattle.visit.proofs.+largest_total.Goals.{largest-in-0+in_ok-t-in-0, largest-in_default}
use Rattle.std.proofs.lemmas.Result.{err_from_is_err_and}
use Rattle.std.proofs.lemmas.List.{get_or_past}
use borrow.Author.Rules.{rules}
use Rattle.std.specs.Prelude.{Ok, Err}

pub largest-loop-c-init : goal.largest-loop-c-init
largest-loop-c-init t c =
    let a = c.args in
    row_begins a.graph.now a.f a.state c.requires.1

pub largest-loop-c-preserved-then-g-ge128 : goal.largest-loop-c-preserved-then-g-ge128
largest-loop-c-preserved-then-g-ge128 t c =
    let a = c.args in
    let l = c.loop-c in
    let part = c.part-c-items in
    row_unknown a.graph.now a.f a.state part.result.now part.ensures l.best l.state l.c-index l.invariant
    c.loop-c-test.true c.if-c-eq0.false c.if-g-ge128.true

pub largest-returns-in-1 : goal.largest-returns-in-1
largest-returns-in-1 t c =
    let a = c.args in
    let l = c.loop-c in
    let part = c.part-c-items in
    row_open a.graph.now a.f a.state part.result.now part.ensures l.best l.state l.c-index l.invariant
    c.loop-c-test.true c.if-c-eq0.false c.if-g-ge128.false c.in-1.is

pub largest-returns-in_err-t-in-0 : goal.largest-returns-in_err-t-in-0
largest-returns-in_err-t-in-0 t c =
    let a = c.args in
    let l = c.loop-c in
    let part = c.part-c-items in
    let p = err_from_is_err_and c.from_residual.result c.from_residual.ensures.1 in
    rw (p.1, p.2)
    (row_failed a.graph.now a.f a.state part.result.now part.ensures l.best l.state l.c-index l.invariant
    c.loop-c-test.true c.if-c-eq0.false c.if-g-ge128.false c.in-0.is c.total.result c.total.ensures _ c.in_err-t-in-0.was)

pub largest-loop-c-preserved : goal.largest-loop-c-preserved
largest-loop-c-preserved t c =
    let a = c.args in
    let l = c.loop-c in
    let part = c.part-c-items in
    elim c.match-state-g.branch [
      | largest-in-0+in_ok-t-in-0 w ↦
          rw w.state-is
          (row_fine a.graph.now a.f a.state part.result.now part.ensures l.best l.state l.c-index l.invariant
          c.loop-c-test.true c.if-c-eq0.false c.if-g-ge128.false w.in-0.is w.total.result w.total.ensures _ _ w.in_ok-t-in-0.was _ (search (rules, c, w)))
      | largest-in_default w ↦
          rw w.state-is
          (row_closed a.graph.now a.f a.state part.result.now part.ensures l.best l.state l.c-index l.invariant
          c.loop-c-test.true c.if-c-eq0.false c.if-g-ge128.false (λ e. absurd (omega arith)) (λ e. absurd (omega arith)) _ (search (rules, c, w)))
    ]

pub largest-returns-after-loop-c : goal.largest-returns-after-loop-c
largest-returns-after-loop-c t c =
    let a = c.args in
    let l = c.loop-c in
    let part = c.part-c-items in
    row_ends a.graph.now a.f a.state part.result.now part.ensures l.best l.state l.c-index l.invariant
    (λ _. get_or_past part.result.now l.c-index 0 c.loop-c-test.false)

pub largest-returns-then-c-eq0 : goal.largest-returns-then-c-eq0
largest-returns-then-c-eq0 t c =
    let a = c.args in
    let l = c.loop-c in
    let part = c.part-c-items in
    row_ends a.graph.now a.f a.state part.result.now part.ensures l.best l.state l.c-index l.invariant
    (λ _. c.if-c-eq0.true)

pub total-largest-requires : goal.total-largest-requires
total-largest-requires t c =
    let a = c.args in
    let p = c.requires in (
      into t (unopened a.state.colours) (unopened (set a.state.colours a.f 1)) c.decreases
          (unopened_open a.state.colours a.f 0 (omega (arith, p.2.colours_long)) p.1),
      (p.0, opened_kept (graph_of a.graph.now) a.graph.now.pool a.f a.state p.0 p.1 p.2),
    )

pub total-returns-in_err-best : goal.total-returns-in_err-best
total-returns-in_err-best t c =
    let a = c.args in
    let p = c.requires in
    let r = err_from_is_err_and c.from_residual.result c.from_residual.ensures.1 in
    let e : c.largest.result ≡ Err c.in_err-best.field-0.0 = search (rules, c) in
    rw (r.1, r.2)
    (closes_failed (graph_of a.graph.now) a.graph.now.pool a.f a.state p.0 p.1 p.2 c.largest.result c.largest.ensures _ e)

pub total-returns-then-graph-sum : goal.total-returns-then-graph-sum
total-returns-then-graph-sum t c =
    let a = c.args in
    let p = c.requires in
    let e : c.largest.result ≡ Ok (c.in_ok-best.best, c.in_ok-best.state) = search (rules, c) in
    closes_above (graph_of a.graph.now) a.graph.now.pool a.f a.state p.0 p.1 p.2 c.largest.result c.largest.ensures
    _ _ e c.at.result _ c.at.ensures (search (rules, c)) c.if-graph-sum.true

pub total-returns : goal.total-returns
total-returns t c =
    let a = c.args in
    let p = c.requires in
    let e : c.largest.result ≡ Ok (c.in_ok-best.best, c.in_ok-best.state) = search (rules, c) in
    closes_below (graph_of a.graph.now) a.graph.now.pool a.f a.state p.0 p.1 p.2 c.largest.result c.largest.ensures
    _ _ e c.at.result _ c.at.ensures (search (rules, c)) c.if-graph-sum.false
