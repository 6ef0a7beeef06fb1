-- `program::seen::with_bit` meets its contract: the weight of a clear bit fits beside the others in a byte.
-- Assumes nothing.
use Prim.Native.Nat.{ℕ, ◌+◌, ◌/◌, ◌*◌, ◌%◌, ◌^◌, ◌<◌}
use mathlib.Core.Path.{◌≡◌, sym}
use native.Mathlib.Omega.{arith}
use borrow.Author.Tests.{eq-eqb, ne_eqb}
use borrow.Author.Rules.{rules}
use Rattle.std.proofs.lemmas.Nat.{pow_below}
use Rattle.program.specs.Seen.{bit, with_bit}
use Rattle.program.proofs.Bits.{flip_fits}
use Rattle.program.proofs.seen.with_bit.Goals as goal

module _ (cell k weight : ℕ) (w : weight ≡ 2 ^ k) where
  set_before : cell / weight % 2 ≡ 1 → with_bit cell k ≡ cell
  unfolding with_bit
  set_before e = let h : bit cell k ≡ 1 = rw (← w) e in rw (eq-eqb (bit cell k) 1 h)

  module _ (n : cell / weight % 2 ≡ 1 → ⊥) where
    clear-before : with_bit cell k ≡ cell + weight
    unfolding with_bit
    clear-before = rw (ne_eqb (bit cell k) 1 (λ e. n (rw w e)), w)

    fits : k < 8 → cell < 256 → cell + weight < 256
    fits h l =
        let z : bit cell k ≡ 1 → ⊥ = λ e. n (rw w e) in
        rw w (flip_fits 8 k cell h l (omega arith))

-- a bit's weight fits its byte
weight_is : (bit : ℕ) → bit < 8 → 1 * 2 ^ bit % 256 ≡ 2 ^ bit
weight_is bit h = let small : 2 ^ bit < 256 = pow_below bit 8 h in omega (arith, small)

pub returns-then-cell-weight-eq1 : goal.returns-then-cell-weight-eq1
returns-then-cell-weight-eq1 c = let a = c.args in
    sym (set_before a.cell a.bit _ (weight_is a.bit c.requires) c.if-cell-weight-eq1.true)

pub overflow_add-result : goal.overflow_add-result
overflow_add-result c = let a = c.args in
    record { fits = fits a.cell a.bit _ (weight_is a.bit c.requires) c.if-cell-weight-eq1.false c.requires (search rules) }

pub returns : goal.returns
returns c = let a = c.args in
    sym (clear-before a.cell a.bit _ (weight_is a.bit c.requires) c.if-cell-weight-eq1.false)
