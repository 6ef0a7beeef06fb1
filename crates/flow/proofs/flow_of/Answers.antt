-- `flow::flow_of` meets its contract: six opcodes by themselves, and the others go on.
-- Assumes nothing.
use mathlib.Core.Path.{◌∙◌, ap, sym}
use Prim.Native.Nat.{ℕ}
use borrow.Author.Tests.{ne_eqb}
use Rattle.flow.specs.declared.Flow.TheVariants.{Jump, Branch}
use Rattle.flow.specs.Decode.{flow_of}
use Rattle.flow.proofs.flow_of.Goals as goal

pub returns-in-124 : goal.returns-in-124
unfolding flow_of
returns-in-124 c = ap Jump c.word_at.ensures ∙ sym (ap (λ (o : ℕ). flow_of o c.args.operands.now) c.in-124.is)

pub returns-in-128 : goal.returns-in-128
unfolding flow_of
returns-in-128 c = ap Branch c.word_at-in-128.ensures ∙ sym (ap (λ (o : ℕ). flow_of o c.args.operands.now) c.in-128.is)

pub returns-in-244 : goal.returns-in-244
unfolding flow_of
returns-in-244 c = ap Branch c.word_at-in-244.ensures ∙ sym (ap (λ (o : ℕ). flow_of o c.args.operands.now) c.in-244.is)

pub returns-in-245 : goal.returns-in-245
unfolding flow_of
returns-in-245 c = ap Branch c.word_at-in-245.ensures ∙ sym (ap (λ (o : ℕ). flow_of o c.args.operands.now) c.in-245.is)

pub returns-in-136 : goal.returns-in-136
unfolding flow_of
returns-in-136 c = sym (ap (λ (o : ℕ). flow_of o c.args.operands.now) c.in-136.is)

pub returns-in-140 : goal.returns-in-140
unfolding flow_of
returns-in-140 c = sym (ap (λ (o : ℕ). flow_of o c.args.operands.now) c.in-140.is)

pub returns-in_default : goal.returns-in_default
unfolding flow_of
returns-in_default c = let no = c.in_default.in_default-own.rest in
    simp (
      ne_eqb _ 0x7C no.0.0.0.0.0.1,
      ne_eqb _ 0x80 no.0.0.0.0.1,
      ne_eqb _ 0xF4 no.0.0.0.1,
      ne_eqb _ 0xF5 no.0.0.1,
      ne_eqb _ 0x88 no.0.1,
      ne_eqb _ 0x8C no.1,
    )
