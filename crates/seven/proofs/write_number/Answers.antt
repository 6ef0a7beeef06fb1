-- `seven::write_number` meets its contract: the bytes that it stores are the form of the number by its size (Writes.antt), and where
-- they do not fit nothing was stored before. Assumes nothing.
use native.Mathlib.Omega.{arith}
use mathlib.Core.List.{[], ◌∷◌}
use native.Mathlib.Numerals.{add-one, add-two}
use Prim.Native.Nat.{◌+◌, ◌/◌, ◌%◌}
use Rattle.seven.proofs.Forms.{some_byte, two_bytes, three_bytes, form_one, form_two, form_three}
use Rattle.seven.proofs.Writes.{stored, no_room}
use Rattle.seven.proofs.write_number.Goals as goal

pub returns-then-out-at : goal.returns-then-out-at
returns-then-out-at c = no_room c.args.out.now c.args.at c.args.n (omega (arith, some_byte c.args.n))

pub returns-then-n-lt128 : goal.returns-then-n-lt128
returns-then-n-lt128 c = let a = c.args in
    stored a.out.now a.at a.n (a.n ∷ []) (form_one a.n c.if-n-lt128.true) (omega arith)

pub returns-then-out-at-le1 : goal.returns-then-out-at-le1
returns-then-out-at-le1 c = no_room c.args.out.now c.args.at c.args.n (omega (arith, two_bytes c.args.n c.if-n-lt128.false))

pub returns-then-n-lt16384 : goal.returns-then-n-lt16384
returns-then-n-lt16384 c = let a = c.args in
    rw add-one
    (stored a.out.now a.at a.n ((a.n % 128 + 128) ∷ ((a.n / 128) ∷ [])) (form_two a.n c.if-n-lt128.false c.if-n-lt16384.true) (omega arith))

pub returns-then-out-at-le2 : goal.returns-then-out-at-le2
returns-then-out-at-le2 c = no_room c.args.out.now c.args.at c.args.n (omega (arith, three_bytes c.args.n c.if-n-lt16384.false))

pub returns : goal.returns
returns c = let a = c.args in
    rw (add-one, add-two)
    (stored a.out.now a.at a.n ((a.n % 128 + 128) ∷ ((a.n / 128 % 128 + 128) ∷ ((a.n / 16384) ∷ []))) (form_three a.n c.if-n-lt16384.false) (omega arith))
