-- `flow::starts::mark_starts` meets its contract. The invariant is `Marked`: what is left of the walk from `at` on, marked, is what the loop began
-- with, and the first stretch is marked before it.
-- Assumes nothing.
use mathlib.Core.Path.{◌≡◌, ◌∙◌, ap, sym}
use native.Mathlib.Omega.{arith}
use borrow.Author.Rules.{rules}
use Rattle.std.specs.Prelude.{Ok, Err, None}
use Rattle.tables.specs.Packed.{size_in}
use Rattle.flow.specs.Decode.{found, step_by}
use Rattle.flow.proofs.Laws.{stands, walk_is}
use Rattle.flow.proofs.Marking.{marked_first, marked_then, marked_on, marked_last}
use Rattle.flow.proofs.starts.mark_starts.Goals as goal

pub loop-instruction-init : goal.loop-instruction-init
loop-instruction-init c = marked_first _ _ _ _ c.mark_ones-at.ensures.within

pub mark_ones-at-requires-in-Some : goal.mark_ones-at-requires-in-Some
mark_ones-at-requires-in-Some c = let i = c.in-Some.instruction in
    let e : step_by (size_in c.args.sizes.now) c.args.body.now c.loop-instruction.at ≡ found i.opcode i.size = search (rules, c) in
    let k = stands _ c.args.body.now c.loop-instruction.at i.opcode i.size e in
    rw c.from.ensures k.within

pub loop-instruction-smaller : goal.loop-instruction-smaller
loop-instruction-smaller c = let i = c.in-Some.instruction in
    let e : step_by (size_in c.args.sizes.now) c.args.body.now c.loop-instruction.at ≡ found i.opcode i.size = search (rules, c) in
    let k = stands _ c.args.body.now c.loop-instruction.at i.opcode i.size e in
    omega (arith, k.within, k.some, c.from.ensures, c.mark_ones-at-in-Some.ensures.onward)

pub loop-instruction-preserved : goal.loop-instruction-preserved
loop-instruction-preserved c = let l = c.loop-instruction in
    let i = c.in-Some.instruction in
    let s = c.args.body.now in
    let e : step_by (size_in c.args.sizes.now) c.args.body.now c.loop-instruction.at ≡ found i.opcode i.size = search (rules, c) in
    let m = marked_on _ s _ _ l.at l.marks c.put.new.column i.opcode i.size l.invariant e c.put.ensures in
    marked_then _ s _ _ _ _ _ _ m (rw c.from.ensures at c.mark_ones-at-in-Some.ensures)

pub returns-in_err-instruction : goal.returns-in_err-instruction
returns-in_err-instruction c = let l = c.loop-instruction in
    let s = c.args.body.now in
    let e : step_by (size_in c.args.sizes.now) c.args.body.now c.loop-instruction.at ≡ Err c.in_err-instruction.field-0.0 = search (rules, c) in
    let f : c.from_residual.result ≡ Err c.in_err-instruction.field-0.0 = search (rules, c) in
    rw f (marked_last _ s _ _ l.at l.marks _ (marked_then _ s _ _ _ _ l.at l.marks c.mark_ones-at.ensures l.invariant) (walk_is _ s l.at (Err _) e))

pub returns : goal.returns
returns c = let l = c.loop-instruction in
    let s = c.args.body.now in
    let e : step_by (size_in c.args.sizes.now) c.args.body.now c.loop-instruction.at ≡ Ok None = search (rules, c) in
    marked_last _ s _ _ l.at l.marks _ (marked_then _ s _ _ _ _ l.at l.marks c.mark_ones-at.ensures l.invariant) (walk_is _ s l.at (Ok None) e)
