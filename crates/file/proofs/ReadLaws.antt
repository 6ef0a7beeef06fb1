-- What the second pass and the whole reading leave, in the words of the definitions.
-- Assumes nothing.
use Prim.Native.Nat.{ℕ, ◌+◌, ◌*◌, ◌<◌, ◌≤◌}
use mathlib.Core.Path.{◌≡◌, refl, ◌∙◌, ap}
use mathlib.Core.List.{List}
use mathlib.Core.Bool.{Bool, true, false, cond}
use native.Mathlib.Omega.{arith}
use native.Mathlib.Nat.{le_trans}
use lib.ListN.{length, take, drop, length-drop}
use lib.Seq.{length-take-le}
use lib.Dec.{ltb}
use borrow.Author.Tests.{ltb-false}
use Rattle.std.specs.Prelude.{Ok, Err}
use Rattle.file.specs.declared.Refused.{Refused}
use Rattle.file.specs.declared.Table.{Table}
use Rattle.file.specs.declared.Layout.{Layout}
use Rattle.file.specs.declared.Sizes.{Sizes}
use Rattle.file.specs.declared.measure.Numbers.{Numbers}
use Rattle.seven.specs.Seven.{Bytes}
use Rattle.file.specs.Numbers as n
use Rattle.file.specs.Numbers.{numbers}
use Rattle.file.specs.Tables.{layout_of}
use Rattle.file.specs.Columns.{column_of, column_at, numbers_of_table, over}
use Rattle.file.proofs.TableLaws.{Stood, Whole, whole, all_there}
use Rattle.file.proofs.LaidLaws.{column_front}
use Rattle.file.specs.Transposed.{column_length}
use Rattle.file.specs.Measured.{Measured, tables_from, Ready}
use Rattle.file.specs.Stated.{Columns, states, refuses, tables_in, bench_of, stated_by, stated, below, short_room, room_of, read_into, sizes_of, sizes_in, outcome_of, laid_over, leaves}

-- a test that comes out false was false in all its parts
neither : (t x : Bool) → cond t true x ≡ false → (t ≡ false) × (x ≡ false)
neither true x e = absurd (let z : ◌≡◌ {A = ℕ} 0 1 = cc in omega arith)
neither false x e = (refl, e)

not_below : (limit a b c : ℕ) → below limit a b c ≡ false → (limit ≤ a) × ((limit ≤ b) × (limit ≤ c))
unfolding below
not_below limit a b c e =
    let p = neither (ltb a limit) (cond (ltb b limit) true (ltb c limit)) e in
    let q = neither (ltb b limit) (ltb c limit) p.1 in
    (ltb-false a limit p.0, (ltb-false b limit q.0, ltb-false c limit q.1))

pub record Roomy (lent : Columns) : Type 0 where
  pub list_ids : 6144 ≤ length lent.list_ids
  pub list_counts : 6144 ≤ length lent.list_counts
  pub list_flags : 6144 ≤ length lent.list_flags
  pub function_ids : 128 ≤ length lent.function_ids
  pub parameters : 128 ≤ length lent.parameters
  pub maxima : 128 ≤ length lent.maxima
  pub offsets : 128 ≤ length lent.offsets
  pub lengths : 128 ≤ length lent.lengths
  pub type_ids : 256 ≤ length lent.type_ids
  pub descriptor_functions : 256 ≤ length lent.descriptor_functions
  pub entries : 32 ≤ length lent.entries
  pub code : 12288 ≤ length lent.code

roomy : (lent : Columns) → short_room (room_of lent) ≡ false → Roomy lent
unfolding short_room
roomy lent e =
    let p = neither _ _ e in
    let q = neither _ _ p.1 in
    let r = neither _ _ q.1 in
    let s = neither _ _ r.1 in
    let t = neither _ _ s.1 in
    let rows = not_below _ _ _ _ p.0 in
    let functions = not_below _ _ _ _ q.0 in
    let bodies = not_below _ _ _ _ r.0 in
    let descriptors = not_below _ _ _ _ s.0 in
    record {
      list_ids = rows.0;
      list_counts = rows.1.0;
      list_flags = rows.1.1;
      function_ids = functions.0;
      parameters = functions.1.0;
      maxima = functions.1.1;
      offsets = bodies.0;
      lengths = bodies.1.0;
      type_ids = descriptors.0;
      descriptor_functions = descriptors.1.0;
      entries = ltb-false _ _ t.0;
      code = ltb-false _ _ t.1;
    }

-- what reading finds, by the two tests of the code
pub was_short : (lent : Columns) (file : List ℕ) → short_room (room_of lent) ≡ true → read_into lent file ≡ refuses 30 0
unfolding read_into
was_short lent file e = rw e

pub was_refused : (lent : Columns) (file : List ℕ) (r : Refused) → short_room (room_of lent) ≡ false → layout_of file ≡ Err r →
    read_into lent file ≡ refuses r.number r.place
unfolding read_into stated stated_by
was_refused lent file r e h = rw (e, h)

was_read : (lent : Columns) (file : List ℕ) (layout : Layout) → short_room (room_of lent) ≡ false → layout_of file ≡ Ok layout →
    read_into lent file ≡ states (bench_of file layout)
unfolding read_into stated stated_by
was_read lent file layout e h = rw (e, h)

pub refused : (lent : Columns) (file : List ℕ) {number place : ℕ} → read_into lent file ≡ refuses number place →
    (Err (n.refused number place) ≡ outcome_of (read_into lent file)) × (lent ≡ leaves (read_into lent file) lent)
unfolding outcome_of leaves
refused lent file e = rw e (refl, refl)

-- the columns have a cell for each row, and the code's bytes are there
pub ready : (lent : Columns) (file : List ℕ) (layout : Layout) → Bytes file → short_room (room_of lent) ≡ false → layout_of file ≡ Ok layout →
    Ready file layout lent
ready lent file layout all short-not h =
    let r : Roomy lent = roomy lent short-not in
    let w : Whole file layout = whole file layout all h in
    record {
      list_ids_room = le_trans w.rows.low r.list_ids;
      list_counts_room = le_trans w.rows.low r.list_counts;
      list_flags_room = le_trans w.rows.low r.list_flags;
      function_ids_room = le_trans w.functions.low r.function_ids;
      parameters_room = le_trans w.functions.low r.parameters;
      maxima_room = le_trans w.functions.low r.maxima;
      offsets_room = le_trans w.functions.low r.offsets;
      lengths_room = le_trans w.functions.low r.lengths;
      type_ids_room = le_trans w.descriptors.low r.type_ids;
      descriptor_functions_room = le_trans w.descriptors.low r.descriptor_functions;
      entries_room = le_trans w.entries.low r.entries;
      code_room = le_trans w.code.low r.code;
      code_there = omega (arith, w.length_is);
      rows_low = w.rows.low;
      functions_low = w.functions.low;
      descriptors_low = w.descriptors.low;
      entries_low = w.entries.low;
    }

sizes_are : (file : List ℕ) (layout : Layout) → layout.code.start + layout.code.count ≤ length file → sizes_in layout ≡ sizes_of (bench_of file layout)
unfolding sizes_in sizes_of bench_of tables_in column_at
sizes_are file layout there =
    let code : length (take layout.code.count (drop layout.code.start file)) ≡ layout.code.count =
    length-take-le layout.code.count (drop layout.code.start file) (rw length-drop (omega arith)) in
    rw (column_length 3 0 layout.rows.count, column_length 5 0 layout.functions.count, column_length 2 0 layout.descriptors.count, column_length 1 0 layout.entries.count, code)

-- the numbers of a table that was read to its end, in the front of its cells, give its columns
from_cells : (file before cells : List ℕ) {at limit : ℕ} {table : Table} (width k : ℕ) → k < width → Stood file at limit width table →
    cells ≡ over (numbers_of_table file table width) before → column_of width k table.count cells ≡ column_at file table width k
unfolding column_at over numbers_of_table
from_cells file before cells {at} {limit} {table} width k lt stood e =
    rw e
    (column_front width k table.count (numbers (table.count * width) file table.start) _ lt
    (omega (arith, all_there (table.count * width) file table.start table.end stood.run)))

tables_same : (file : List ℕ) (layout : Layout) (before after : Numbers) → Bytes file → layout_of file ≡ Ok layout → Measured file layout before after →
    tables_from after file layout ≡ tables_in file layout
unfolding tables_from tables_in
tables_same file layout b a all h m =
    let w : Whole file layout = whole file layout all h in
    rw (
      from_cells file b.rows a.rows 3 0 (omega arith) w.rows m.rows,
      from_cells file b.rows a.rows 3 1 (omega arith) w.rows m.rows,
      from_cells file b.rows a.rows 3 2 (omega arith) w.rows m.rows,
      from_cells file b.functions a.functions 5 0 (omega arith) w.functions m.functions,
      from_cells file b.functions a.functions 5 1 (omega arith) w.functions m.functions,
      from_cells file b.functions a.functions 5 2 (omega arith) w.functions m.functions,
      from_cells file b.functions a.functions 5 3 (omega arith) w.functions m.functions,
      from_cells file b.functions a.functions 5 4 (omega arith) w.functions m.functions,
      from_cells file b.descriptors a.descriptors 2 0 (omega arith) w.descriptors m.descriptors,
      from_cells file b.descriptors a.descriptors 2 1 (omega arith) w.descriptors m.descriptors,
      from_cells file b.entries a.entries 1 0 (omega arith) w.entries m.entries,
    )

pub finished : (lent after : Columns) (file : List ℕ) (layout : Layout) (b a : Numbers) (sizes : Sizes) → Bytes file →
    short_room (room_of lent) ≡ false → layout_of file ≡ Ok layout → Measured file layout b a →
    after ≡ laid_over (tables_from a file layout) lent → sizes ≡ sizes_in layout →
    (Ok sizes ≡ outcome_of (read_into lent file)) × (after ≡ leaves (read_into lent file) lent)
unfolding outcome_of leaves bench_of
finished lent after file layout b a sizes all short-not h m after_is sizes-is =
    rw (was_read lent file layout short-not h) (
      ap Ok (sizes-is ∙ sizes_are file layout (ready lent file layout all short-not h).code_there),
      after_is ∙ ap (λ (t : Columns). laid_over t lent) (tables_same file layout b a all h m),
    )
