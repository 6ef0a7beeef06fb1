-- 01, 34: "code-list ids not rising, or flag above 1".
-- Assumes nothing.
use Rattle.std.specs.Prelude.{ℕ, zero, suc, Bool, ◌||◌, List, ltb, length, get_or, Ok, Err, Some, None, Result}
use Rattle.codes.specs.First.{first_of, Place}

-- the least id that row k may have: one more than its predecessor's
abbrev pub low_at : List ℕ → ℕ → ℕ
low_at ids zero = 0
low_at ids (suc k) = suc (get_or ids k 0)

-- a faulty row: its id is not above its predecessor's, or its flag is above 1
unfoldable pub faulty : List ℕ → List ℕ → ℕ → Bool
faulty ids flags k = ltb (get_or ids k 0) (low_at ids k) || ltb 1 (get_or flags k 0)

-- whether the rows are in order; else the first faulty one
abbrev pub Order : Type 0
Order = Result (Unit {0}) ℕ

abbrev pub order_of : Place → Order
order_of (Some k) = Err k
order_of None = (Ok tt)

-- the rows one after the other, up to the first faulty one
unfoldable pub rows_of : List ℕ → List ℕ → Order
rows_of ids flags = order_of (first_of (faulty ids flags) (length ids))
