-- What passes from the first pass over a bench file to the second: the numbers of its tables, in the front of their cells.
-- Assumes nothing.
use Rattle.std.specs.Prelude.{ℕ, ◌+◌, ◌≤◌, ◌≡◌, List, length, take, drop}
use Rattle.file.specs.declared.Layout.{Layout}
use Rattle.file.specs.declared.measure.Numbers.{Numbers}
use Rattle.file.specs.Columns.{column_of, numbers_of_table, over}
use Rattle.file.specs.Stated.{Columns, columns}

-- the cells of each table after the first pass
pub record Measured (file : List ℕ) (layout : Layout) (before after : Numbers) : Type 0 where
  pub rows : after.rows ≡ over (numbers_of_table file layout.rows 3) before.rows
  pub functions : after.functions ≡ over (numbers_of_table file layout.functions 5) before.functions
  pub descriptors : after.descriptors ≡ over (numbers_of_table file layout.descriptors 2) before.descriptors
  pub entries : after.entries ≡ over (numbers_of_table file layout.entries 1) before.entries

-- the columns from the numbers of the four tables
unfoldable pub tables_from : Numbers → List ℕ → Layout → Columns
tables_from n file layout =
    columns
    (column_of 3 0 layout.rows.count n.rows)
    (column_of 3 1 layout.rows.count n.rows)
    (column_of 3 2 layout.rows.count n.rows)
    (column_of 5 0 layout.functions.count n.functions)
    (column_of 5 1 layout.functions.count n.functions)
    (column_of 5 2 layout.functions.count n.functions)
    (column_of 5 3 layout.functions.count n.functions)
    (column_of 5 4 layout.functions.count n.functions)
    (column_of 2 0 layout.descriptors.count n.descriptors)
    (column_of 2 1 layout.descriptors.count n.descriptors)
    (column_of 1 0 layout.entries.count n.entries)
    (take layout.code.count (drop layout.code.start file))

-- lent columns with a cell for each row, and a file that holds the code's bytes
pub record Ready (file : List ℕ) (layout : Layout) (lent : Columns) : Type 0 where
  pub list_ids_room : layout.rows.count ≤ length lent.list_ids
  pub list_counts_room : layout.rows.count ≤ length lent.list_counts
  pub list_flags_room : layout.rows.count ≤ length lent.list_flags
  pub function_ids_room : layout.functions.count ≤ length lent.function_ids
  pub parameters_room : layout.functions.count ≤ length lent.parameters
  pub maxima_room : layout.functions.count ≤ length lent.maxima
  pub offsets_room : layout.functions.count ≤ length lent.offsets
  pub lengths_room : layout.functions.count ≤ length lent.lengths
  pub type_ids_room : layout.descriptors.count ≤ length lent.type_ids
  pub descriptor_functions_room : layout.descriptors.count ≤ length lent.descriptor_functions
  pub entries_room : layout.entries.count ≤ length lent.entries
  pub code_room : layout.code.count ≤ length lent.code
  pub code_there : layout.code.start + layout.code.count ≤ length file
  pub rows_low : layout.rows.count ≤ 6144
  pub functions_low : layout.functions.count ≤ 128
  pub descriptors_low : layout.descriptors.count ≤ 256
  pub entries_low : layout.entries.count ≤ 32
