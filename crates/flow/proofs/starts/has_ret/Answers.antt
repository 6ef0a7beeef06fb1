-- `flow::starts::has_ret` meets its contract. The invariant is `Skipped`: RET is in the walk from `at` on exactly if it is in the whole walk.
-- Assumes nothing.
use mathlib.Core.Path.{◌∙◌, sym}
use native.Mathlib.Omega.{arith}
use borrow.Author.Tests.{eq-eqb}
use Rattle.flow.specs.Decode.{found}
use Rattle.flow.proofs.Laws.{stands, walk_is}
use Rattle.flow.proofs.Marking.{skipped_then, skipped_on, skipped_last, skipped_end, is_found}
use Rattle.flow.proofs.starts.has_ret.Goals as goal

pub skip_ones-at-requires-in-Some : goal.skip_ones-at-requires-in-Some
skip_ones-at-requires-in-Some c = let i = c.in-Some.instruction in
    let e = sym c.decode_step.ensures ∙ is_found c.decode_step.result i (sym c.unwrap_or.ensures ∙ c.in-Some.is) in
    let k = stands _ c.args.body.now c.loop-instruction.at i.opcode i.size e in
    rw c.from.ensures k.within

pub loop-instruction-smaller : goal.loop-instruction-smaller
loop-instruction-smaller c = let i = c.in-Some.instruction in
    let e = sym c.decode_step.ensures ∙ is_found c.decode_step.result i (sym c.unwrap_or.ensures ∙ c.in-Some.is) in
    let k = stands _ c.args.body.now c.loop-instruction.at i.opcode i.size e in
    omega (arith, k.within, k.some, c.from.ensures, c.skip_ones-at-in-Some.ensures.onward)

pub loop-instruction-preserved : goal.loop-instruction-preserved
loop-instruction-preserved c = let s = c.args.body.now in
    let i = c.in-Some.instruction in
    let at = c.loop-instruction.at in
    let e = sym c.decode_step.ensures ∙ is_found c.decode_step.result i (sym c.unwrap_or.ensures ∙ c.in-Some.is) in
    let m = skipped_then _ s _ at _ c.loop-instruction.invariant (skipped_on _ s at i.opcode i.size e c.if-instruction.false) in
    skipped_then _ s _ _ _ m (rw c.from.ensures at c.skip_ones-at-in-Some.ensures)

pub returns-then-instruction : goal.returns-then-instruction
returns-then-instruction c = let s = c.args.body.now in
    let i = c.in-Some.instruction in
    let at = c.loop-instruction.at in
    let e = sym c.decode_step.ensures ∙ is_found c.decode_step.result i (sym c.unwrap_or.ensures ∙ c.in-Some.is) in
    simp (eq-eqb _ _ c.if-instruction.true) at (skipped_last _ s _ at _ c.loop-instruction.invariant (walk_is _ s at (found i.opcode i.size) e))

pub returns : goal.returns
returns c = skipped_end _ c.args.body.now _ c.loop-instruction.at c.decode_step.result c.loop-instruction.invariant (sym c.decode_step.ensures) (sym c.unwrap_or.ensures ∙ c.in_default.is)
