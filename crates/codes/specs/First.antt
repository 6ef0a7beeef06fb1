-- The first of a table's rows that a test picks, read row after row, and what it means.
-- Assumes nothing.
use Rattle.std.specs.Prelude.{ℕ, zero, suc, ◌+◌, ◌≤◌, ◌<◌, ◌≡◌, refl, Bool, true, false, cond, Some, None, Option}
use Rattle.std.proofs.Common.{zero-le, eq-or-lt_of_le, arith, ◌∙◌, ap, sym, true≢false, ⊎_elim}
use Rattle.std.proofs.Math.Decide.{dec_lt}
use Rattle.std.proofs.Math.Path.{subst}

-- where a row stands
abbrev pub Place : Type 0
Place = Option ℕ

-- the first of `count` rows from row k on
abbrev pub first_from : (ℕ → Bool) → ℕ → ℕ → Place
first_from test k zero = None
first_from test k (suc count) = cond (test k) (Some k) (first_from test (suc k) count)

unfoldable pub first_of : (ℕ → Bool) → ℕ → Place
first_of test count = first_from test 0 count

-- row r is the first of `count` rows that the test picks
pub record First (test : ℕ → Bool) (count r : ℕ) : Type 0 where
  pub inside : r < count
  pub picked : test r ≡ true
  pub earlier : (j : ℕ) → j < r → test j ≡ false

-- the test picks none of `count` rows
pub record NoneOf (test : ℕ → Bool) (count : ℕ) : Type 0 where
  pub passed : (j : ℕ) → j < count → test j ≡ false

-- both, of the rows from row k on
record FirstFrom (test : ℕ → Bool) (k count r : ℕ) : Type 0 where
  start : k ≤ r
  inside : r < k + count
  picked : test r ≡ true
  earlier : (j : ℕ) → k ≤ j → j < r → test j ≡ false

record NoneFrom (test : ℕ → Bool) (k count : ℕ) : Type 0 where
  passed : (j : ℕ) → k ≤ j → j < k + count → test j ≡ false

module _ (test : ℕ → Bool) where
  -- what is not so at row k, nor later, is not so from k on
  later : (k : ℕ) (P : ℕ → Type 0) → test k ≡ false → ((j : ℕ) → suc k ≤ j → P j → test j ≡ false) → (j : ℕ) → k ≤ j → P j → test j ≡ false
  later k P e l j h p = ⊎_elim (λ w. ap test (sym w) ∙ e) (λ w. l j w p) (eq-or-lt_of_le h)

  -- forwards: what the answer says
  abbrev Says : ℕ → ℕ → Place → Type 0
  Says k count (Some r) = FirstFrom test k count r
  Says k count None = NoneFrom test k count

  skip : (k count : ℕ) → test k ≡ false → (p : Place) → Says (suc k) count p → Says k (suc count) p
  skip k count e (Some r) f =
      record {
        start = omega (arith, f);
        inside = omega (arith, f);
        picked = f.picked;
        earlier = later k (λ j. j < r) e f.earlier;
      }
  skip k count e None n = record { passed = λ j h l. later k (λ i. i < k + suc count) e (λ i g w. n.passed i g (omega arith)) j h l }

  says_by : (k count : ℕ) (b : Bool) → test k ≡ b → Says (suc k) count (first_from test (suc k) count) → Says k (suc count) (cond b (Some k) (first_from test (suc k) count))
  says_by k count true e rest = record { start = omega arith; inside = omega arith; picked = e; earlier = λ j h l. absurd (omega arith) }
  says_by k count false e rest = skip k count e (first_from test (suc k) count) rest

  says : (k count : ℕ) → Says k count (first_from test k count)
  says k zero = record { passed = λ j h l. absurd (omega arith) }
  says k (suc count) = says_by k count (test k) refl (says (suc k) count)

  told : (count : ℕ) {p : Place} → first_of test count ≡ p → Says 0 count p
  unfolding first_of
  told count {p} e = subst (Says 0 count) e (says 0 count)

  -- the test both picks a row and does not
  clash : (k : ℕ) → test k ≡ true → test k ≡ false → ⊥
  clash k a b = let z : true ≡ false = cc in absurd (true≢false z)

  pub row_means : (count r : ℕ) → first_of test count ≡ Some r → First test count r
  row_means count r e =
      let f : FirstFrom test 0 count r = told count e in
      record { inside = omega (arith, f); picked = f.picked; earlier = λ j l. f.earlier j zero-le l }

  pub nowhere_means : (count : ℕ) → first_of test count ≡ None → NoneOf test count
  nowhere_means count e =
      let n : NoneFrom test 0 count = told count e in
      record { passed = λ j l. n.passed j zero-le (omega arith) }

  first_one : (count r q : ℕ) → First test count r → FirstFrom test 0 count q → Dec (q < r) → Dec (r < q) → q ≡ r
  first_one count r q f g (yes w) d = absurd (clash q g.picked (f.earlier q w))
  first_one count r q f g (no v) (yes w) = absurd (clash r f.picked (g.earlier r zero-le w))
  first_one count r q f g (no v) (no w) = omega arith

  row_by : (count r : ℕ) → First test count r → (p : Place) → Says 0 count p → p ≡ Some r
  row_by count r f (Some q) g = ap Some (first_one count r q f g (dec_lt q r) (dec_lt r q))
  row_by count r f None n = absurd (clash r f.picked (n.passed r zero-le (omega (arith, f))))

  nowhere_by : (count : ℕ) → NoneOf test count → (p : Place) → Says 0 count p → p ≡ None
  nowhere_by count n (Some q) g = absurd (clash q g.picked (n.passed q (omega (arith, g))))
  nowhere_by count n None g = refl

  pub row_if_lem : (count r : ℕ) → First test count r → first_of test count ≡ Some r
  row_if_lem count r f = row_by count r f (first_of test count) (told count refl)

  pub nowhere_if : (count : ℕ) → NoneOf test count → first_of test count ≡ None
  nowhere_if count n = nowhere_by count n (first_of test count) (told count refl)
