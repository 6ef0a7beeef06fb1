-- What a crate above may use of the bench file, over the promises of `read_file` and `write_file`: reading what was written gives the same
-- program, and writing what was read gives the same bytes.
-- Assumes nothing.
use Rattle.std.specs.Prelude.{ℕ, zero, suc, ◌+◌, ◌*◌, ◌<◌, ◌≤◌, ◌≡◌, refl, List, [], ◌∷◌, true, false, length, get_or, take, drop, ltb, Result, Ok, Err}
use Rattle.std.proofs.Common.{sym, ap, arith, take_at, get_or-drop, lt-ltb, le-ltb, eq-eqb, ltb-false, length-drop, length-take-le}
use Rattle.seven.specs.declared.Number.{Number}
use Rattle.seven.specs.declared.Misread.{Misread}
use Rattle.seven.specs.Seven.{number_at, Bytes}
use Rattle.seven.proofs.Forms.{by_test}
use Rattle.seven.proofs.Laws.{stands}
use Rattle.file_writer.specs.declared.Unwritten.{Unwritten}
use Rattle.file_writer.specs.declared.Unwritten.TheVariants.{Refused, NoRoom}
use Rattle.file.specs.declared.Table.{Table}
use Rattle.file.specs.declared.Layout.{Layout}
use Rattle.file.specs.Numbers.{on_value, numbers}
use Rattle.file.specs.Tables.{layout_of}
use Rattle.file.proofs.TableLaws.{Whole, whole}
use Rattle.file.specs.Transposed.{column_length}
use Rattle.file_writer.specs.WritesBack.{stated_inv, writes_back}
use Rattle.file.specs.Columns.{column_of, column_at, numbers_of_table, over}
use Rattle.file.specs.Stated.{states, Bench, tables_in, bench_of, stated_by, stated}
use Rattle.file.specs.Written.{row_table, function_table, descriptor_table, entry_table, file_of}
use Rattle.file_writer.specs.Writing.{all_small, differ, uneven_room, refused_in, refused_to_write, write_into}
use Rattle.file_writer.specs.RoundTrip.{Small}
use Rattle.file_writer.specs.ReadsBack.{small_nothing, Writable, reads_back}
use Rattle.file_writer.specs.NumbersLaws.{Sound, sound, fits}

-- what lent columns of 16-bit cells hold
pub record Sixteen (p : Bench) : Type 0 where
  pub pool : p.pool < 65536
  pub list_ids : Small p.tables.list_ids
  pub list_counts : Small p.tables.list_counts
  pub list_flags : Small p.tables.list_flags
  pub function_ids : Small p.tables.function_ids
  pub parameters : Small p.tables.parameters
  pub maxima : Small p.tables.maxima
  pub type_ids : Small p.tables.type_ids
  pub descriptor_functions : Small p.tables.descriptor_functions
  pub entries : Small p.tables.entries

-- a table's columns, one by one
abbrev Evens : List (List ℕ) → ℕ → Type 0
Evens [] count = ◌≡◌ {A = ℕ} 0 0
Evens (column ∷ rest) count = (length column ≡ count) × Evens rest count

abbrev Smalls : List (List ℕ) → Type 0
Smalls [] = ◌≡◌ {A = ℕ} 0 0
Smalls (column ∷ rest) = Small column × Smalls rest

each_even : (table : List (List ℕ)) (count : ℕ) → Evens table count → (k : ℕ) → k < length table → length (get_or table k []) ≡ count
each_even [] count all k h = absurd (omega arith)
each_even (column ∷ rest) count all zero h = all.0
each_even (column ∷ rest) count all (suc k) h = each_even rest count all.1 k (omega arith)

each_small : (table : List (List ℕ)) → Smalls table → (k : ℕ) → Small (get_or table k [])
each_small [] all k = small_nothing
each_small (column ∷ rest) all zero = all.0
each_small (column ∷ rest) all (suc k) = each_small rest all.1 k

writable : (p : Bench) → Sixteen p → refused_to_write p ≡ false → length (file_of p) ≤ 65536 → Writable p
unfolding Small
writable p x e size =
    let s : Sound p = sound p e in
    record {
      pool = x.pool;
      rows =
          record {
            even = each_even (row_table p) (length p.tables.list_ids) (refl, (sym s.rows.1.0, (sym s.rows.1.1, refl)));
            small = each_small (row_table p) (x.list_ids, (x.list_counts, (x.list_flags, refl)));
            low = s.rows.0;
          };
      functions =
          record {
            even =
                each_even (function_table p) (length p.tables.function_ids)
                (refl, (sym s.functions.1.0, (sym s.functions.1.1, (sym s.bodies.1.0, (sym s.bodies.1.1, refl)))));
            small = each_small (function_table p) (x.function_ids, (x.parameters, (x.maxima, (s.offsets, (s.lengths, refl)))));
            low = s.functions.0;
          };
      descriptors =
          record {
            even = each_even (descriptor_table p) (length p.tables.type_ids) (refl, (sym s.descriptors.1.0, refl));
            small = each_small (descriptor_table p) (x.type_ids, (x.descriptor_functions, refl));
            low = s.descriptors.0;
          };
      entries =
          record {
            even = each_even (entry_table p) (length p.tables.entries) (refl, refl);
            small = each_small (entry_table p) (x.entries, refl);
            low = s.entries;
          };
      code = s.code;
      size = size;
    }

no_refusal : {P : Type 0} {n : ℕ} {a b : List ℕ} → ◌≡◌ {A = Result ℕ Unwritten × List ℕ} (Err (Refused 31), a) (Ok n, b) → P
no_refusal {P} {n} e = absurd (let f : ◌≡◌ {A = Result ℕ Unwritten} (Err (Refused 31)) (Ok n) = ap (λ (x : Result ℕ Unwritten × List ℕ). x.0) e in let z : ◌≡◌ {A = ℕ} 0 1 = cc in omega arith)

no_room : {P : Type 0} {n : ℕ} {a b : List ℕ} → ◌≡◌ {A = Result ℕ Unwritten × List ℕ} (Err NoRoom, a) (Ok n, b) → P
no_room {P} {n} e = absurd (let f : ◌≡◌ {A = Result ℕ Unwritten} (Err NoRoom) (Ok n) = ap (λ (x : Result ℕ Unwritten × List ℕ). x.0) e in let z : ◌≡◌ {A = ℕ} 0 1 = cc in omega arith)

-- what a written file is
record WroteIt (p : Bench) (out : List ℕ) (n : ℕ) (after : List ℕ) : Type 0 where
  sound_one : refused_to_write p ≡ false
  size : length (file_of p) ≤ 65536
  n_is : length (file_of p) ≡ n
  after_is : over (file_of p) out ≡ after

wrote_it : (p : Bench) (out : List ℕ) (n : ℕ) (after : List ℕ) → write_into p out ≡ (Ok n, after) → WroteIt p out n after
unfolding write_into
wrote_it p out n after e =
    by_test (refused_to_write p) (λ a. no_refusal (simp a at e)) (λ a.
    by_test (ltb 65536 (length (file_of p))) (λ b. no_room (simp (a, b) at e)) (λ b.
    by_test (ltb (length out) (length (file_of p))) (λ d. no_room (simp (a, b, d) at e)) (λ d.
    let both : ◌≡◌ {A = Result ℕ Unwritten × List ℕ} (Ok (length (file_of p)), over (file_of p) out) (Ok n, after) = simp (a, b, d) at e in
    let there : ◌≡◌ {A = Result ℕ Unwritten} (Ok (length (file_of p))) (Ok n) = ap (λ (x : Result ℕ Unwritten × List ℕ). x.0) both in
    record {
      sound_one = a;
      size = ltb-false 65536 (length (file_of p)) b;
      n_is = cc;
      after_is = ap (λ (x : Result ℕ Unwritten × List ℕ). x.1) both;
    })))

front : (file out : List ℕ) → take (length file) (over file out) ≡ file
unfolding over
front file out = take_at file (drop (length file) out) (length file) refl

-- reading what was written gives the same program
pub written_reads : (p : Bench) (out : List ℕ) (n : ℕ) (after : List ℕ) → Sixteen p → write_into p out ≡ (Ok n, after) →
    stated (take n after) ≡ states p
written_reads p out n after x e =
    let w : WroteIt p out n after = wrote_it p out n after e in
    rw (← w.n_is, ← w.after_is, front (file_of p) out) (reads_back p (writable p x w.sound_one w.size))

-- the numbers that were read have 16 bits
one_small : (r : Result Number Misread) (count : ℕ) (file : List ℕ) (at : ℕ) → Bytes file → number_at file at ≡ r →
    ((next : ℕ) → Small (numbers count file next)) → Small (on_value r (λ (x : Number). x.n ∷ numbers count file x.next))
unfolding Small
one_small (Ok x) count file at all there rest zero = (stands file at x.n x.next all there).small
one_small (Ok x) count file at all there rest (suc i) = rest x.next i
one_small (Err m) count file at all there rest i = omega arith

read_small : (count : ℕ) (file : List ℕ) (at : ℕ) → Bytes file → Small (numbers count file at)
unfolding numbers
read_small zero file at all = small_nothing
read_small (suc count) file at all = one_small (number_at file at) count file at all refl (λ next. read_small count file next all)

column_small : (width k count : ℕ) (ns : List ℕ) → Small ns → Small (column_of width k count ns)
unfolding Small column_of
column_small width k zero ns all i = omega arith
column_small width k (suc count) ns all zero = all k
column_small width k (suc count) ns all (suc i) =
    column_small width k count (drop width ns) (λ j. rw (get_or-drop width ns j 0) (all (width + j))) i

small_each : (column : List ℕ) → Small column → (i : ℕ) → get_or column i 0 < 65536
unfolding Small
small_each column all i = all i

small_all : (column : List ℕ) → Small column → all_small column ≡ true
unfolding Small all_small
small_all [] all = refl
small_all (n ∷ rest) all = rw (lt-ltb _ _ (all 0)) (small_all rest (λ i. all (suc i)))

-- tables of equal columns within their limits are not refused
even_table : (limit a b c : ℕ) → a ≤ limit → a ≡ b → a ≡ c → differ limit a b c ≡ false
unfolding differ
even_table limit a b c h p q = rw (le-ltb _ _ h, eq-eqb _ _ p, eq-eqb _ _ q)

not_refused : (p : Bench) → Sound p → refused_to_write p ≡ false
unfolding refused_to_write refused_in uneven_room Small
not_refused p s =
    rw (
      even_table 6144 _ _ _ s.rows.0 s.rows.1.0 s.rows.1.1,
      even_table 128 _ _ _ s.functions.0 s.functions.1.0 s.functions.1.1,
      even_table 128 _ _ _ s.bodies.0 s.bodies.1.0 s.bodies.1.1,
      even_table 256 _ _ _ s.descriptors.0 s.descriptors.1.0 s.descriptors.1.1,
      le-ltb 32 (length p.tables.entries) s.entries,
      le-ltb 12288 (length p.tables.code) s.code,
      small_all p.tables.offsets s.offsets,
      small_all p.tables.lengths s.lengths,
    )

even_columns : (width a b c count limit : ℕ) (ns : List ℕ) → count ≤ limit →
    (length (column_of width a count ns) ≤ limit) ×
    ((length (column_of width a count ns) ≡ length (column_of width b count ns)) × (length (column_of width a count ns) ≡ length (column_of width c count ns)))
even_columns width a b c count limit ns h =
    let x : length (column_of width a count ns) ≡ count = column_length width a count ns in
    let y : length (column_of width b count ns) ≡ count = column_length width b count ns in
    let z : length (column_of width c count ns) ≡ count = column_length width c count ns in
    (omega arith, (omega arith, omega arith))

by_stated : (file : List ℕ) (p : Bench) → stated file ≡ states p → stated_by file (layout_of file) ≡ states p
unfolding stated
by_stated file p e = e

-- so is what a file states
read_sound : (file : List ℕ) (layout : Layout) → Bytes file → layout_of file ≡ Ok layout → Sound (bench_of file layout)
unfolding bench_of tables_in column_at numbers_of_table
read_sound file l all h =
    let w : Whole file l = whole file l all h in
    let numbers_of : Table → ℕ → List ℕ = λ t width. numbers (t.count * width) file t.start in
    let offsets = column_small 5 3 l.functions.count (numbers_of l.functions 5) (read_small (l.functions.count * 5) file l.functions.start all) in
    let lengths = column_small 5 4 l.functions.count (numbers_of l.functions 5) (read_small (l.functions.count * 5) file l.functions.start all) in
    record {
      rows = even_columns 3 0 1 2 l.rows.count 6144 (numbers_of l.rows 3) w.rows.low;
      functions = even_columns 5 0 1 2 l.functions.count 128 (numbers_of l.functions 5) w.functions.low;
      bodies = even_columns 5 0 3 4 l.functions.count 128 (numbers_of l.functions 5) w.functions.low;
      descriptors = even_columns 2 0 1 0 l.descriptors.count 256 (numbers_of l.descriptors 2) w.descriptors.low;
      entries = rw column_length w.entries.low;
      code = rw (length-take-le l.code.count (drop l.code.start file) (rw length-drop (omega (arith, w.length_is)))) w.code.low;
      offsets = small_each _ offsets;
      lengths = small_each _ lengths;
      offsets_fit = fits _ (small_all _ offsets);
      lengths_fit = fits _ (small_all _ lengths);
    }

-- writing what was read gives the same bytes
pub read_writes : (file out : List ℕ) (p : Bench) → Bytes file → stated file ≡ states p → length file ≤ length out →
    write_into p out ≡ (Ok (length file), over file out)
unfolding write_into
read_writes file out p all e room =
    let same : file_of p ≡ file = writes_back file p all e in
    let i = stated_inv file (layout_of file) p (by_stated file p e) in
    let fine : refused_to_write p ≡ false = rw (← i.1.1) (not_refused (bench_of file i.0) (read_sound file i.0 all i.1.0)) in
    let size : length file ≤ 65536 = (whole file i.0 all i.1.0).short in
    rw (fine, same, le-ltb 65536 (length file) size, le-ltb (length out) (length file) room)
