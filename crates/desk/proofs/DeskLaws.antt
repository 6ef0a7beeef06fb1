-- `desk_answer` by cases, as the code goes.
-- Assumes nothing.
use Prim.Native.Nat.{ℕ, ◌+◌, ◌≤◌}
use native.Mathlib.Omega.{arith}
use mathlib.Core.Path.{◌≡◌, refl, sym, ap, ◌∙◌}
use mathlib.Core.Bool.{false}
use mathlib.Core.List.{List}
use lib.ListN.{length, take, drop, replicate, length-append, length-replicate}
use lib.Seq.{take_at}
use Rattle.program.specs.Program.{PoolProgram}
use Rattle.program.specs.Refusals.{room_of, pool_input, Input}
use Rattle.file.specs.declared.Sizes.{Sizes}
use Rattle.file.specs.declared.Refused.{Refused}
use Rattle.file.specs.declared.Layout.{Layout}
use Rattle.file.specs.Numbers.{refused}
use Rattle.file.specs.Columns.{over, column_at}
use Rattle.file.specs.Tables.{layout_of}
use Rattle.file.specs.Transposed.{column_length}
use Rattle.file.specs.Stated as stated
use Rattle.file.specs.Stated.{Columns, Bench, Stated, states, refuses, bench_of, tables_in, stated_by, short_room, below, read_into, outcome_of, sizes_of, leaves, laid_over}
use Rattle.answers.specs.declared.Fields.{Fields}
use Rattle.stack.specs.Stack as stack
use Rattle.pool.specs.Pool as pool
use Rattle.desk.specs.declared.Checked.{Checked}
use Rattle.std.specs.Prelude.{Result, Ok, Err}
use Rattle.desk.specs.Desk.{Answer, fronts_of, full_room, both_of, on_input, program_answer, program_in, answer_to, desk_answer}

-- both calls' answers over scratch of the full size
pub both : (q : PoolProgram) {x y : Fields} {u : stack.Verdict} {v : pool.Verdict} {m d k e m' d' k' e' n : ℕ} →
    x ≡ stack.fields_of u → y ≡ pool.fields_of v → u ≡ stack.stack_answer q.program (room_of m d k e) → v ≡ pool.pool_answer q (room_of m' d' k' e') n →
    m ≡ 12288 → d ≡ 12289 → k ≡ 24578 → e ≡ 24578 → m' ≡ 12288 → d' ≡ 12289 → k' ≡ 24578 → e' ≡ 24578 → n ≡ 16384 →
    ◌≡◌ {A = Checked} (record { stack = x; pool = y }) (both_of q)
unfolding both_of full_room
both q hx hy hu hv hm hd hk he hm' hd' hk' he' hn = rw (hx, hy, hu, hv, hm, hd, hk, he, hm', hd', hk', he', hn)

-- an input that is taken
pub taken : (q : PoolProgram) {input : Input} {r : Checked} → input ≡ pool_input q full_room 16384 → input ≡ Ok tt → r ≡ both_of q →
    ◌≡◌ {A = Answer} (Ok r) (program_answer q)
unfolding program_answer on_input
taken q i t e = rw (sym i ∙ t, e)

-- local columns of 01's limits
abbrev pub zero_columns : Columns
zero_columns =
    stated.columns (replicate 6144 0) (replicate 6144 0) (replicate 6144 0) (replicate 128 0) (replicate 128 0) (replicate 128 0) (replicate 128 0)
    (replicate 128 0) (replicate 256 0) (replicate 256 0) (replicate 32 0) (replicate 12288 0)

-- reading finds what the file states
roomy : (a b f i p m o l t d e c : ℕ) → a ≡ 6144 → b ≡ 6144 → f ≡ 6144 → i ≡ 128 → p ≡ 128 → m ≡ 128 → o ≡ 128 → l ≡ 128 → t ≡ 256 → d ≡ 256 → e ≡ 32 →
    c ≡ 12288 →
    short_room (record { list_ids = a; list_counts = b; list_flags = f; function_ids = i; parameters = p; maxima = m; offsets = o; lengths = l; type_ids = t; descriptor_functions = d; entries = e; code = c })
    ≡ false
unfolding short_room below
roomy a b f i p m o l t d e c ha hb hf hi hp hm ho hl ht hd he hc = rw (ha, hb, hf, hi, hp, hm, ho, hl, ht, hd, he, hc)

readable : (file : List ℕ) → read_into zero_columns file ≡ stated.stated file
unfolding read_into
readable file =
    rw (roomy _ _ _ _ _ _ _ _ _ _ _ _ (length-replicate {A = ℕ} 6144 0) (length-replicate {A = ℕ} 6144 0) (length-replicate {A = ℕ} 6144 0) (length-replicate {A = ℕ} 128 0)
    (length-replicate {A = ℕ} 128 0) (length-replicate {A = ℕ} 128 0) (length-replicate {A = ℕ} 128 0) (length-replicate {A = ℕ} 128 0) (length-replicate {A = ℕ} 256 0) (length-replicate {A = ℕ} 256 0)
    (length-replicate {A = ℕ} 32 0) (length-replicate {A = ℕ} 12288 0))

-- a file that is refused
refused_by : (s : Stated) (r : Refused) → outcome_of s ≡ Err r → ◌≡◌ {A = Answer} (Err r) (answer_to s)
unfolding outcome_of answer_to
refused_by (states p) r e = absurd (let z : ◌≡◌ {A = ℕ} 0 1 = cc in omega arith)
refused_by (refuses n k) r e = let z : refused n k ≡ r = cc in ap Err (sym z)

file_refused : (found : Stated) (file : List ℕ) (r : Refused) → found ≡ stated.stated file → outcome_of found ≡ Err r → ◌≡◌ {A = Answer} (Err r) (desk_answer file)
unfolding desk_answer
file_refused found file r e o = refused_by found r o ∙ ap answer_to e

-- the front of a column of cells is a table's column
abbrev pub Front : ℕ → List ℕ → List ℕ → Type 0
Front n after front = (n ≤ length after) × (take n after ≡ front)

front_of : (front column after : List ℕ) (n : ℕ) → length front ≡ n → after ≡ over front column → Front n after front
unfolding over
front_of front column after n l e =
    let size : length after ≡ length front + length (drop (length front) column) = ap length e ∙ length-append front (drop (length front) column) in
    (omega arith, ap (take n) e ∙ take_at front (drop (length front) column) n l)

pub record Fronts (p : Bench) (s : Sizes) (after : Columns) : Type 0 where
  pub pool : s.pool ≡ p.pool
  pub list_ids : Front s.rows after.list_ids p.tables.list_ids
  pub list_counts : Front s.rows after.list_counts p.tables.list_counts
  pub list_flags : Front s.rows after.list_flags p.tables.list_flags
  pub function_ids : Front s.functions after.function_ids p.tables.function_ids
  pub parameters : Front s.functions after.parameters p.tables.parameters
  pub maxima : Front s.functions after.maxima p.tables.maxima
  pub offsets : Front s.functions after.offsets p.tables.offsets
  pub lengths : Front s.functions after.lengths p.tables.lengths
  pub type_ids : Front s.descriptors after.type_ids p.tables.type_ids
  pub descriptor_functions : Front s.descriptors after.descriptor_functions p.tables.descriptor_functions
  pub entries : Front s.entries after.entries p.tables.entries
  pub code : Front s.code after.code p.tables.code

read_by : (file : List ℕ) (r : Result Layout Refused) (lent after : Columns) (s : Sizes) → outcome_of (stated_by file r) ≡ Ok s →
    after ≡ leaves (stated_by file r) lent →
    (layout : Layout) × ((sizes_of (bench_of file layout) ≡ s)
    × ((after ≡ laid_over (bench_of file layout).tables lent) × (program_answer (program_in (bench_of file layout)) ≡ answer_to (stated_by file r))))
unfolding outcome_of stated_by leaves answer_to
read_by file (Ok layout) lent after s e a = (layout, (cc, (a, refl)))
read_by file (Err r) lent after s e a = absurd (let z : ◌≡◌ {A = ℕ} 0 1 = cc in omega arith)

fronts : (file : List ℕ) (layout : Layout) (lent after : Columns) (s : Sizes) → sizes_of (bench_of file layout) ≡ s →
    after ≡ laid_over (bench_of file layout).tables lent → Fronts (bench_of file layout) s after
unfolding sizes_of bench_of tables_in laid_over column_at
fronts file layout lent after s z a =
    let rows : layout.rows.count ≡ s.rows = sym (column_length 3 0 _ _) ∙ ap (λ (x : Sizes). x.rows) z in
    let functions : layout.functions.count ≡ s.functions = sym (column_length 5 0 _ _) ∙ ap (λ (x : Sizes). x.functions) z in
    let descriptors : layout.descriptors.count ≡ s.descriptors = sym (column_length 2 0 _ _) ∙ ap (λ (x : Sizes). x.descriptors) z in
    record {
      pool = sym (ap (λ (x : Sizes). x.pool) z);
      list_ids = front_of _ lent.list_ids _ _ (column_length 3 0 _ _ ∙ rows) (ap (λ (x : Columns). x.list_ids) a);
      list_counts = front_of _ lent.list_counts _ _ (column_length 3 1 _ _ ∙ rows) (ap (λ (x : Columns). x.list_counts) a);
      list_flags = front_of _ lent.list_flags _ _ (column_length 3 2 _ _ ∙ rows) (ap (λ (x : Columns). x.list_flags) a);
      function_ids = front_of _ lent.function_ids _ _ (column_length 5 0 _ _ ∙ functions) (ap (λ (x : Columns). x.function_ids) a);
      parameters = front_of _ lent.parameters _ _ (column_length 5 1 _ _ ∙ functions) (ap (λ (x : Columns). x.parameters) a);
      maxima = front_of _ lent.maxima _ _ (column_length 5 2 _ _ ∙ functions) (ap (λ (x : Columns). x.maxima) a);
      offsets = front_of _ lent.offsets _ _ (column_length 5 3 _ _ ∙ functions) (ap (λ (x : Columns). x.offsets) a);
      lengths = front_of _ lent.lengths _ _ (column_length 5 4 _ _ ∙ functions) (ap (λ (x : Columns). x.lengths) a);
      type_ids = front_of _ lent.type_ids _ _ (column_length 2 0 _ _ ∙ descriptors) (ap (λ (x : Columns). x.type_ids) a);
      descriptor_functions = front_of _ lent.descriptor_functions _ _ (column_length 2 1 _ _ ∙ descriptors) (ap (λ (x : Columns). x.descriptor_functions) a);
      entries = front_of _ lent.entries _ _ (ap (λ (x : Sizes). x.entries) z) (ap (λ (x : Columns). x.entries) a);
      code = front_of _ lent.code _ _ (ap (λ (x : Sizes). x.code) z) (ap (λ (x : Columns). x.code) a);
    }

answered : (p : Bench) (s : Sizes) (after : Columns) → Fronts p s after → program_answer (fronts_of s after) ≡ program_answer (program_in p)
unfolding program_in
answered p s after f =
    rw (f.pool, f.list_ids.1, f.list_counts.1, f.list_flags.1, f.function_ids.1, f.parameters.1, f.maxima.1, f.offsets.1, f.lengths.1, f.type_ids.1, f.descriptor_functions.1, f.entries.1, f.code.1)

-- a file that is read
file_read : (found : Stated) (file : List ℕ) (lent after : Columns) (s : Sizes) → found ≡ stated.stated file → outcome_of found ≡ Ok s →
    after ≡ leaves found lent → program_answer (fronts_of s after) ≡ desk_answer file
unfolding desk_answer stated.stated
file_read found file lent after s e r a =
    let k = read_by file (layout_of file) lent after s (ap outcome_of (sym e) ∙ r) (a ∙ ap (λ (x : Stated). leaves x lent) e) in
    answered (bench_of file k.0) s after (fronts file k.0 lent after s k.1.0 k.1.1.0) ∙ k.1.1.1

-- what `file::read_file` promises of local columns
module _ (file : List ℕ) (r : Result Sizes Refused) (found : r ≡ outcome_of (read_into zero_columns file)) where
  pub gave_refusal : {refused : Refused} → r ≡ Err refused → ◌≡◌ {A = Answer} (Err refused) (desk_answer file)
  gave_refusal {refused} e = file_refused (read_into zero_columns file) file refused (readable file) (sym found ∙ e)

  pub gave_program : (after : Columns) → after ≡ leaves (read_into zero_columns file) zero_columns → {s : Sizes} → r ≡ Ok s →
      program_answer (fronts_of s after) ≡ desk_answer file
  gave_program after left {s} e = file_read (read_into zero_columns file) file zero_columns after s (readable file) (sym found ∙ e) left
