-- Which ids have been met, one bit for each: id / 8 is the cell and id % 8 the bit.
-- Assumes nothing.
use Rattle.std.specs.Prelude.{ℕ, ◌+◌, ◌/◌, ◌%◌, ◌^◌, Bool, cond, List, eqb, get_or, set}

abbrev pub bit : ℕ → ℕ → ℕ
bit cell k = cell / 2 ^ k % 2

-- the cell with that bit set
unfoldable pub with_bit : ℕ → ℕ → ℕ
with_bit cell k = cond (eqb (bit cell k) 1) cell (cell + 2 ^ k)

unfoldable pub seen : List ℕ → ℕ → Bool
seen marks id = eqb (bit (get_or marks (id / 8) 0) (id % 8)) 1

unfoldable pub met : List ℕ → ℕ → List ℕ
met marks id = set marks (id / 8) (with_bit (get_or marks (id / 8) 0) (id % 8))
