-- The bench file of a program, and what writing it leaves (01, "Bench file, program and C entry").
-- Assumes nothing.
use Rattle.std.specs.Prelude.{ℕ, zero, suc, List, [], ◌∷◌, ◌++◌, length, get_or}
use Rattle.seven.specs.Write.{form}
use Rattle.file.specs.Stated.{Bench}

-- numbers one after the other
unfoldable pub forms : List ℕ → List ℕ
forms [] = []
forms (n ∷ rest) = form n ++ forms rest

-- a row of a table: one cell of each column
unfoldable pub row_at : List (List ℕ) → ℕ → List ℕ
row_at [] i = []
row_at (column ∷ rest) i = get_or column i 0 ∷ row_at rest i

-- the numbers of a table: as many rows, from one on
unfoldable pub rows_from : List (List ℕ) → ℕ → ℕ → List ℕ
rows_from table zero i = []
rows_from table (suc count) i = row_at table i ++ rows_from table count (suc i)

-- a table's count and its rows
unfoldable pub table_numbers : List (List ℕ) → ℕ → List ℕ
table_numbers table count = count ∷ rows_from table count 0

-- the tables of a program, column by column
abbrev pub row_table : Bench → List (List ℕ)
row_table p = p.tables.list_ids ∷ (p.tables.list_counts ∷ (p.tables.list_flags ∷ []))

abbrev pub function_table : Bench → List (List ℕ)
function_table p =
    p.tables.function_ids ∷ (p.tables.parameters ∷ (p.tables.maxima ∷ (p.tables.offsets ∷ (p.tables.lengths ∷ []))))

abbrev pub descriptor_table : Bench → List (List ℕ)
descriptor_table p = p.tables.type_ids ∷ (p.tables.descriptor_functions ∷ [])

abbrev pub entry_table : Bench → List (List ℕ)
entry_table p = p.tables.entries ∷ []

-- "In order: pool; row count, rows; function count, rows (..); descriptor count, rows; entry count, ids; code length"
unfoldable pub numbers_in : Bench → List ℕ
numbers_in p =
    p.pool ∷
    (table_numbers (row_table p) (length p.tables.list_ids) ++
    (table_numbers (function_table p) (length p.tables.function_ids) ++
    (table_numbers (descriptor_table p) (length p.tables.type_ids) ++
    (table_numbers (entry_table p) (length p.tables.entries) ++ (length p.tables.code ∷ [])))))

-- the numbers, then the code
unfoldable pub file_of : Bench → List ℕ
file_of p = forms (numbers_in p) ++ p.tables.code
