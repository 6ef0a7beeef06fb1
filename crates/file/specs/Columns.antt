-- The columns of a table, and a column of cells with a table's column over its front.
-- Assumes nothing.
use Rattle.std.specs.Prelude.{ℕ, zero, suc, ◌*◌, List, [], ◌∷◌, ◌++◌, length, get_or, drop}
use Rattle.file.specs.declared.Table.{Table}
use Rattle.file.specs.Numbers.{numbers}

-- one number of each row: the one at the column's index, of as many as the table is wide
unfoldable pub column_of : ℕ → ℕ → ℕ → List ℕ → List ℕ
column_of width index zero row = []
column_of width index (suc count) row = get_or row index 0 ∷ column_of width index count (drop width row)

-- all numbers of a table of the file
unfoldable pub numbers_of_table : List ℕ → Table → ℕ → List ℕ
numbers_of_table file table width = numbers (table.count * width) file table.start

-- a column of a table of the file
unfoldable pub column_at : List ℕ → Table → ℕ → ℕ → List ℕ
column_at file table width index = column_of width index table.count (numbers_of_table file table width)

-- the cells behind the front stay as they were
unfoldable pub over : List ℕ → List ℕ → List ℕ
over front column = front ++ drop (length front) column
