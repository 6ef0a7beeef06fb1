-- The numbers that the writer puts are those of the program's bench file, where 31 is not due.
-- Assumes nothing.
use Prim.Native.Nat.{ℕ, zero, suc, ◌<◌, ◌≤◌}
use Rattle.std.specs.Prelude.{◌≡◌, Bool, true, false, cond, length, map, ltb, eqb}
use Rattle.std.proofs.Math.Path.{refl, ap}
use Rattle.std.proofs.Common.{sym}
use mathlib.Core.List.{List, [], ◌∷◌}
use native.Mathlib.Omega.{arith}
use Rattle.std.proofs.Math.ListN.{get_or}
use borrow.Author.Tests.{lt-ltb, ltb-true, ltb-false, eqb-true}
use Rattle.seven.proofs.Forms.{by_test}
use Rattle.file.specs.Stated.{Columns, Bench}
use Rattle.file.specs.Written.{table_numbers, numbers_in}
use Rattle.file_writer.specs.Writing.{fit, all_small, differ, uneven_room, refused_in, refused_to_write, counted, all_numbers}

no_true : {P : Type 0} → true ≡ false → P
no_true e = absurd (let z : ◌≡◌ {A = ℕ} 0 1 = cc in omega arith)

-- what a test that comes out false says
neither : (t x : Bool) → cond t true x ≡ false → (t ≡ false) × (x ≡ false)
neither true x e = no_true e
neither false x e = (refl, e)

same_size : (t x : Bool) → cond t x true ≡ false → (t ≡ true) × (x ≡ false)
same_size true x e = (refl, e)
same_size false x e = no_true e

pub no_difference : (limit a b c : ℕ) → differ limit a b c ≡ false → (a ≤ limit) × ((a ≡ b) × (a ≡ c))
unfolding differ
no_difference limit a b c e =
    let p = neither (ltb limit a) (cond (eqb a b) (cond (eqb a c) false true) true) e in
    let q = same_size (eqb a b) (cond (eqb a c) false true) p.1 in
    let r = same_size (eqb a c) false q.1 in
    (ltb-false limit a p.0, (eqb-true a b q.0, eqb-true a c r.0))

pub smalls : (column : List ℕ) → all_small column ≡ true → (i : ℕ) → get_or column i 0 < 65536
unfolding all_small
smalls [] e i = omega arith
smalls (n ∷ rest) e zero = by_test (ltb n 65536) (λ t. ltb-true n 65536 t) (λ t. no_true (sym (simp t at e)))
smalls (n ∷ rest) e (suc i) = by_test (ltb n 65536) (λ t. smalls rest (simp t at e) i) (λ t. no_true (sym (simp t at e)))

pub fit_small : (n : ℕ) → n < 65536 → fit n ≡ n
unfolding fit
fit_small n h = rw (lt-ltb _ _ h)

pub fits : (column : List ℕ) → all_small column ≡ true → map fit column ≡ column
unfolding all_small
fits [] e = refl
fits (n ∷ rest) e =
    by_test (ltb n 65536)
    (λ t. rw (fit_small n (ltb-true n 65536 t)) (ap (λ (l : List ℕ). n ∷ l) (fits rest (simp t at e))))
    (λ t. no_true (sym (simp t at e)))

-- what 31 leaves
pub record Sound (p : Bench) : Type 0 where
  pub rows : (length p.tables.list_ids ≤ 6144) × ((length p.tables.list_ids ≡ length p.tables.list_counts) × (length p.tables.list_ids ≡ length p.tables.list_flags))
  pub functions : (length p.tables.function_ids ≤ 128) × ((length p.tables.function_ids ≡ length p.tables.parameters) × (length p.tables.function_ids ≡ length p.tables.maxima))
  pub bodies : (length p.tables.function_ids ≤ 128) × ((length p.tables.function_ids ≡ length p.tables.offsets) × (length p.tables.function_ids ≡ length p.tables.lengths))
  pub descriptors : (length p.tables.type_ids ≤ 256) × ((length p.tables.type_ids ≡ length p.tables.descriptor_functions) × (length p.tables.type_ids ≡ length p.tables.type_ids))
  pub entries : length p.tables.entries ≤ 32
  pub code : length p.tables.code ≤ 12288
  pub offsets : (i : ℕ) → get_or p.tables.offsets i 0 < 65536
  pub lengths : (i : ℕ) → get_or p.tables.lengths i 0 < 65536
  pub offsets_fit : map fit p.tables.offsets ≡ p.tables.offsets
  pub lengths_fit : map fit p.tables.lengths ≡ p.tables.lengths

pub sound : (p : Bench) → refused_to_write p ≡ false → Sound p
unfolding refused_to_write refused_in uneven_room
sound p e =
    let u = neither _ _ e in
    let o = same_size _ _ u.1 in
    let l = same_size _ _ o.1 in
    let a = neither _ _ u.0 in
    let b = neither _ _ a.1 in
    let c = neither _ _ b.1 in
    let d = neither _ _ c.1 in
    let f = neither _ _ d.1 in
    record {
      rows = no_difference _ _ _ _ a.0;
      functions = no_difference _ _ _ _ b.0;
      bodies = no_difference _ _ _ _ c.0;
      descriptors = no_difference _ _ _ _ d.0;
      entries = ltb-false _ _ f.0;
      code = ltb-false _ _ f.1;
      offsets = smalls p.tables.offsets o.0;
      lengths = smalls p.tables.lengths l.0;
      offsets_fit = fits p.tables.offsets o.0;
      lengths_fit = fits p.tables.lengths l.0;
    }

pub numbers_same : (p : Bench) → refused_to_write p ≡ false → all_numbers p.pool p.tables ≡ numbers_in p
unfolding all_numbers counted numbers_in table_numbers
numbers_same p e =
    let s : Sound p = sound p e in
    let t : Columns = p.tables in
    rw (
      fit_small (length t.list_ids) (omega (arith, s.rows.0)),
      fit_small (length t.function_ids) (omega (arith, s.functions.0)),
      fit_small (length t.type_ids) (omega (arith, s.descriptors.0)),
      fit_small (length t.entries) (omega (arith, s.entries)),
      fit_small (length t.code) (omega (arith, s.code)),
      s.offsets_fit,
      s.lengths_fit,
    )
