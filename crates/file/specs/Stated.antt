-- The program that a bench file states (01, "Bench file, program and C entry"), and what reading leaves in lent columns.
-- Assumes nothing.
use Rattle.std.specs.Prelude.{ℕ, ◌≡◌, List, Bool, true, cond, length, take, drop, ltb, Result, Ok, Err}
use Rattle.file.specs.declared.Refused.{Refused}
use Rattle.file.specs.declared.Sizes.{Sizes}
use Rattle.file.specs.declared.Room.{Room}
use Rattle.file.specs.declared.Columns as lent
use Rattle.file.specs.declared.Layout.{Layout}
use Rattle.file.specs.Numbers.{refused}
use Rattle.file.specs.Tables.{layout_of}
use Rattle.file.specs.Columns.{column_at, over}

-- "code-list rows (id, argument count, borrows-a-buffer 0 or 1)", "functions (id, parameter count, declared maximum depth, body
-- offset, body length)", "function-block descriptors (type id, function id ..)", "entry ids", "code bytes"
pub record Columns : Type 0 where
  pub list_ids : List ℕ
  pub list_counts : List ℕ
  pub list_flags : List ℕ
  pub function_ids : List ℕ
  pub parameters : List ℕ
  pub maxima : List ℕ
  pub offsets : List ℕ
  pub lengths : List ℕ
  pub type_ids : List ℕ
  pub descriptor_functions : List ℕ
  pub entries : List ℕ
  pub code : List ℕ

-- the columns by name, in the order of the file
abbrev pub columns : List ℕ → List ℕ → List ℕ → List ℕ → List ℕ → List ℕ → List ℕ → List ℕ → List ℕ → List ℕ → List ℕ → List ℕ → Columns
columns list_ids list_counts list_flags function_ids parameters maxima offsets lengths type_ids descriptor_functions entries code =
    record {
      list_ids = list_ids;
      list_counts = list_counts;
      list_flags = list_flags;
      function_ids = function_ids;
      parameters = parameters;
      maxima = maxima;
      offsets = offsets;
      lengths = lengths;
      type_ids = type_ids;
      descriptor_functions = descriptor_functions;
      entries = entries;
      code = code;
    }

-- what lent columns hold
abbrev pub columns_in : lent.Columns → Columns
columns_in l =
    columns l.list_ids.now l.list_counts.now l.list_flags.now l.function_ids.now l.parameters.now l.maxima.now l.offsets.now l.lengths.now
    l.type_ids.now l.descriptor_functions.now l.entries.now l.code.now

-- they are the same columns before and after
abbrev pub SameColumns : lent.Columns → lent.Columns → Type 0
SameColumns before after =
    (after.list_ids.ghost_name ≡ before.list_ids.ghost_name)
    × (after.list_counts.ghost_name ≡ before.list_counts.ghost_name)
    × (after.list_flags.ghost_name ≡ before.list_flags.ghost_name)
    × (after.function_ids.ghost_name ≡ before.function_ids.ghost_name)
    × (after.parameters.ghost_name ≡ before.parameters.ghost_name)
    × (after.maxima.ghost_name ≡ before.maxima.ghost_name)
    × (after.offsets.ghost_name ≡ before.offsets.ghost_name)
    × (after.lengths.ghost_name ≡ before.lengths.ghost_name)
    × (after.type_ids.ghost_name ≡ before.type_ids.ghost_name)
    × (after.descriptor_functions.ghost_name ≡ before.descriptor_functions.ghost_name)
    × (after.entries.ghost_name ≡ before.entries.ghost_name)
    × (after.code.ghost_name ≡ before.code.ghost_name)

-- "one declared pool", and the tables
pub record Bench : Type 0 where
  pub pool : ℕ
  pub tables : Columns

-- what a file states: a program, or the first refusal in reading order with its number and place
pub data Stated : Type 0 where
  states : Bench → Stated
  refuses : ℕ → ℕ → Stated

-- the columns of the tables, in the order of the file, and the code's bytes
unfoldable pub tables_in : List ℕ → Layout → Columns
tables_in file layout =
    columns
    (column_at file layout.rows 3 0)
    (column_at file layout.rows 3 1)
    (column_at file layout.rows 3 2)
    (column_at file layout.functions 5 0)
    (column_at file layout.functions 5 1)
    (column_at file layout.functions 5 2)
    (column_at file layout.functions 5 3)
    (column_at file layout.functions 5 4)
    (column_at file layout.descriptors 2 0)
    (column_at file layout.descriptors 2 1)
    (column_at file layout.entries 1 0)
    (take layout.code.count (drop layout.code.start file))

unfoldable pub bench_of : List ℕ → Layout → Bench
bench_of file layout = record { pool = layout.pool.count; tables = tables_in file layout }

unfoldable pub stated_by : List ℕ → Result Layout Refused → Stated
stated_by file (Ok layout) = states (bench_of file layout)
stated_by file (Err r) = refuses r.number r.place

unfoldable pub stated : List ℕ → Stated
stated file = stated_by file (layout_of file)

-- a column shorter than its table's limit: "30: scratch or answer buffer short"
unfoldable pub below : ℕ → ℕ → ℕ → ℕ → Bool
below limit a b c = cond (ltb a limit) true (cond (ltb b limit) true (ltb c limit))

unfoldable pub short_room : Room → Bool
short_room r =
    cond (below 6144 r.list_ids r.list_counts r.list_flags) true
    (cond (below 128 r.function_ids r.parameters r.maxima) true
    (cond (below 128 r.offsets r.lengths r.lengths) true
    (cond (below 256 r.type_ids r.descriptor_functions r.descriptor_functions) true
    (cond (ltb r.entries 32) true (ltb r.code 12288)))))

abbrev pub room_of : Columns → Room
room_of c =
    record {
      list_ids = length c.list_ids;
      list_counts = length c.list_counts;
      list_flags = length c.list_flags;
      function_ids = length c.function_ids;
      parameters = length c.parameters;
      maxima = length c.maxima;
      offsets = length c.offsets;
      lengths = length c.lengths;
      type_ids = length c.type_ids;
      descriptor_functions = length c.descriptor_functions;
      entries = length c.entries;
      code = length c.code;
    }

-- what reading a file into lent columns finds
unfoldable pub read_into : Columns → List ℕ → Stated
read_into lent file = cond (short_room (room_of lent)) (refuses 30 0) (stated file)

-- a program's sizes: the front of each column holds it
unfoldable pub sizes_of : Bench → Sizes
sizes_of p =
    record {
      pool = p.pool;
      rows = length p.tables.list_ids;
      functions = length p.tables.function_ids;
      descriptors = length p.tables.type_ids;
      entries = length p.tables.entries;
      code = length p.tables.code;
    }

unfoldable pub outcome_of : Stated → Result Sizes Refused
outcome_of (states p) = Ok (sizes_of p)
outcome_of (refuses number place) = Err (refused number place)

-- every column with its table's column over its front
unfoldable pub laid_over : Columns → Columns → Columns
laid_over front lent =
    columns
    (over front.list_ids lent.list_ids)
    (over front.list_counts lent.list_counts)
    (over front.list_flags lent.list_flags)
    (over front.function_ids lent.function_ids)
    (over front.parameters lent.parameters)
    (over front.maxima lent.maxima)
    (over front.offsets lent.offsets)
    (over front.lengths lent.lengths)
    (over front.type_ids lent.type_ids)
    (over front.descriptor_functions lent.descriptor_functions)
    (over front.entries lent.entries)
    (over front.code lent.code)

-- a refused file leaves every column as it was
unfoldable pub leaves : Stated → Columns → Columns
leaves (states p) lent = laid_over p.tables lent
leaves (refuses number place) lent = lent

-- the counts of a layout
unfoldable pub sizes_in : Layout → Sizes
sizes_in layout =
    record {
      pool = layout.pool.count;
      rows = layout.rows.count;
      functions = layout.functions.count;
      descriptors = layout.descriptors.count;
      entries = layout.entries.count;
      code = layout.code.count;
    }
