-- A table that was read: where its count stood, that it is within its limit, and where its rows end.
-- Assumes nothing.
use Rattle.std.specs.Prelude.{ℕ, zero, suc, ◌+◌, ◌-◌, ◌*◌, ◌≤◌, ◌≡◌, refl, List, ◌∷◌, length, ltb, Result, Ok, Err}
use Rattle.std.proofs.Common.{ap, arith, mul-zero, ltb-false}
use Rattle.seven.specs.declared.Number.{Number}
use Rattle.seven.specs.declared.Misread.{Misread}
use Rattle.seven.specs.Seven.{value, number_at, Bytes}
use Rattle.seven.proofs.Forms.{by_test}
use Rattle.seven.proofs.Laws.{Stands, stands}
use Rattle.file.specs.declared.Refused.{Refused}
use Rattle.file.specs.declared.Table.{Table}
use Rattle.file.specs.declared.Layout.{Layout}
use Rattle.file.specs.Numbers.{refused, if_read, or_refused, number_in, run_of, on_value, numbers}
use Rattle.file.specs.Tables.{table, on_count, table_of, code_end, layout_of}
use Rattle.file.proofs.RunLaws.{never, same_result, there}

pub record Stood (file : List ℕ) (at limit width : ℕ) (t : Table) : Type 0 where
  pub number : number_at file at ≡ value t.count t.start
  pub low : t.count ≤ limit
  pub run : run_of (t.count * width) file t.start ≡ Ok t.end

-- what came first, where reading went on to its end
pub went_on : {A B P : Type 0} (r : Result A Refused) (go : A → Result B Refused) (y : B) → if_read r go ≡ Ok y → ((x : A) → r ≡ Ok x → go x ≡ Ok y → P) → P
went_on (Ok x) go y e follows = follows x refl e
went_on (Err d) go y e follows = never e

counted : (file : List ℕ) (at limit width : ℕ) (x : Number) (t : Table) → number_at file at ≡ Ok x → on_count file limit width x ≡ Ok t →
    Stood file at limit width t
unfolding on_count
counted file at limit width x t here e =
    by_test (ltb limit x.n)
    (λ high. never (simp high at e))
    (λ low.
    went_on (run_of (x.n * width) file x.next) (λ (end : ℕ). Ok (table x.n x.next end)) t (simp low at e) (λ end run all.
    let same : table x.n x.next end ≡ t = same_result all in
    rw (← same) (record { number = here; low = ltb-false limit x.n low; run = run })))

pub stood : (file : List ℕ) (at limit width : ℕ) (t : Table) → table_of file at limit width ≡ Ok t → Stood file at limit width t
unfolding table_of
stood file at limit width t e =
    went_on (number_in file at) (λ (x : Number). on_count file limit width x) t e (λ x here f.
    counted file at limit width x t (there file at x here) f)

-- a count without rows ends where its number ends
pub no_rows : {file : List ℕ} {at limit : ℕ} {t : Table} → Stood file at limit 0 t → t.start ≡ t.end
unfolding run_of
no_rows {file} {at} {limit} {t} s =
    let e : ◌≡◌ {A = Result ℕ Refused} (Ok t.start) (Ok t.end) = simp mul-zero at s.run in
    cc

-- the code's bytes end the file
end_of_code : (file : List ℕ) (code : Table) (end : ℕ) → code.end ≤ length file → code_end file code ≡ Ok end → code.end + code.count ≡ length file
unfolding code_end
end_of_code file code end within e =
    by_test (ltb (length file - code.end) code.count)
    (λ t. never (simp t at e))
    (λ t.
    by_test (ltb code.count (length file - code.end))
    (λ u. never (simp (t, u) at e))
    (λ u. omega (arith, ltb-false (length file - code.end) code.count t, ltb-false code.count (length file - code.end) u)))

-- a file that was read to its end: every table was, each from where the one before it ended
pub record Whole (file : List ℕ) (layout : Layout) : Type 0 where
  pub short : length file ≤ 65536
  pub pool : Stood file 0 65535 0 layout.pool
  pub rows : Stood file layout.pool.end 6144 3 layout.rows
  pub functions : Stood file layout.rows.end 128 5 layout.functions
  pub descriptors : Stood file layout.functions.end 256 2 layout.descriptors
  pub entries : Stood file layout.descriptors.end 32 1 layout.entries
  pub code : Stood file layout.entries.end 12288 0 layout.code
  pub length_is : layout.code.start + layout.code.count ≡ length file

pub whole : (file : List ℕ) (layout : Layout) → Bytes file → layout_of file ≡ Ok layout → Whole file layout
unfolding layout_of
whole file layout all e =
    by_test (ltb 65536 (length file))
    (λ long. never (simp long at e))
    (λ short.
    went_on (table_of file 0 65535 0) _ layout (simp short at e) (λ pool pool_is e₁.
    went_on (table_of file pool.end 6144 3) _ layout e₁ (λ rows rows_is e₂.
    went_on (table_of file rows.end 128 5) _ layout e₂ (λ functions functions_is e₃.
    went_on (table_of file functions.end 256 2) _ layout e₃ (λ descriptors descriptors_is e₄.
    went_on (table_of file descriptors.end 32 1) _ layout e₄ (λ entries entries_is e₅.
    went_on (table_of file entries.end 12288 0) _ layout e₅ (λ code code_is e₆.
    went_on (code_end file code) _ layout e₆ (λ end end_is e₇.
    let c : Stood file entries.end 12288 0 code = stood file entries.end 12288 0 code code_is in
    let n : Stands file entries.end code.count code.start = stands file entries.end code.count code.start all c.number in
    let start_is : code.start ≡ code.end = no_rows c in
    rw (← same_result e₇)
    (record {
      short = ltb-false 65536 (length file) short;
      pool = stood file 0 65535 0 pool pool_is;
      rows = stood file pool.end 6144 3 rows rows_is;
      functions = stood file rows.end 128 5 functions functions_is;
      descriptors = stood file functions.end 256 2 descriptors descriptors_is;
      entries = stood file descriptors.end 32 1 entries entries_is;
      code = c;
      length_is = omega (arith, start_is, end_of_code file code end (omega (arith, n.within, start_is)) end_is);
    })))))))))

one_there : (file : List ℕ) (at count end : ℕ) (r : Result Number Misread) →
    ((next : ℕ) → run_of count file next ≡ Ok end → length (numbers count file next) ≡ count) →
    if_read (or_refused file at r) (λ (x : Number). run_of count file x.next) ≡ Ok end →
    length (on_value r (λ (x : Number). x.n ∷ numbers count file x.next)) ≡ suc count
one_there file at count end (Ok x) rest e = ap suc (rest x.next e)
one_there file at count end (Err m) rest e = never e

-- a run that was read to its end has as many numbers as it should
pub all_there : (count : ℕ) (file : List ℕ) (at end : ℕ) → run_of count file at ≡ Ok end → length (numbers count file at) ≡ count
unfolding run_of numbers number_in
all_there zero file at end e = refl
all_there (suc count) file at end e = one_there file _ count end (number_at file at) (λ next f. all_there count file next end f) e

-- what is refused did not go well, be it a number's refusal or a table's
pub never_at : {A P : Type 0} {r : Refused} {end : A} → ◌≡◌ {A = Result A Refused} (Err r) (Ok end) → P
never_at e = absurd (let z : ◌≡◌ {A = ℕ} 0 1 = cc in omega arith)

pub no_bad : {P : Type 0} {at end : ℕ} → ◌≡◌ {A = Result ℕ Refused} (Err (refused 40 at)) (Ok end) → P
no_bad e = never_at e

pub no_early : {P : Type 0} {at end : ℕ} → ◌≡◌ {A = Result ℕ Refused} (Err (refused 41 at)) (Ok end) → P
no_early e = never_at e

-- no table that stands has more rows than its limit
pub low : (file : List ℕ) (at limit width : ℕ) (t : Table) → table_of file at limit width ≡ Ok t → t.count ≤ limit
low file at limit width t e = (stood file at limit width t e).low
