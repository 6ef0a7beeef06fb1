-- Numbers in a row: what the first of them leave to the rest.
-- Assumes nothing.
use Rattle.std.specs.Prelude.{ℕ, zero, suc, ◌+◌, ◌-◌, ◌<◌, ◌≡◌, refl, List, [], ◌∷◌, ◌++◌, length, Result, Ok, Err}
use Rattle.std.proofs.Common.{◌∙◌, ap, arith, zero-add}
use Rattle.seven.specs.declared.Number.{Number}
use Rattle.seven.specs.declared.Misread.{Misread}
use Rattle.seven.specs.declared.Misread.TheVariants.{Bad, Early}
use Rattle.seven.specs.Seven.{number_at}
use Rattle.file.specs.declared.Refused.{Refused}
use Rattle.file.specs.Numbers.{refused, misread, if_read, or_refused, number_in, run_of, on_value, numbers}

-- a refusal is no result
pub never : {A P : Type 0} {r : Refused} {x : A} → ◌≡◌ {A = Result A Refused} (Err r) (Ok x) → P
never e = absurd (let z : ◌≡◌ {A = ℕ} 0 1 = cc in omega arith)

pub same_result : {A : Type 0} {x y : A} → ◌≡◌ {A = Result A Refused} (Ok x) (Ok y) → x ≡ y
same_result e = cc

-- the number that was read is there
pub was_there : (file : List ℕ) (at : ℕ) (r : Result Number Misread) (x : Number) → or_refused file at r ≡ Ok x → r ≡ Ok x
was_there file at (Ok y) x e = cc
was_there file at (Err m) x e = never e

pub there : (file : List ℕ) (at : ℕ) (x : Number) → number_in file at ≡ Ok x → number_at file at ≡ Ok x
unfolding number_in
there file at x e = was_there file at (number_at file at) x e

module _ (file : List ℕ) where
  split_lem : (i j : ℕ) (r : Result Number Refused) →
      ((start : ℕ) → run_of (i + j) file start ≡ if_read (run_of i file start) (λ (at : ℕ). run_of j file at)) →
      if_read r (λ (x : Number). run_of (i + j) file x.next) ≡
      if_read (if_read r (λ (x : Number). run_of i file x.next)) (λ (at : ℕ). run_of j file at)
  split_lem i j (Ok x) rest = rest x.next
  split_lem i j (Err d) rest = refl

  pub run_split : (i j start : ℕ) → run_of (i + j) file start ≡ if_read (run_of i file start) (λ (at : ℕ). run_of j file at)
  unfolding run_of number_in
  run_split zero j start = rw zero-add
  run_split (suc i) j start =
      let e : suc i + j ≡ suc (i + j) = omega arith in
      rw e (split_lem i j _ (λ start. run_split i j start))

  more_lem : (i j at start : ℕ) (r : Result Number Misread) →
      ((next : ℕ) → run_of i file next ≡ Ok at → numbers (i + j) file next ≡ numbers i file next ++ numbers j file at) →
      if_read (or_refused file start r) (λ (x : Number). run_of i file x.next) ≡ Ok at →
      on_value r (λ (x : Number). x.n ∷ numbers (i + j) file x.next) ≡ on_value r (λ (x : Number). x.n ∷ numbers i file x.next) ++ numbers j file at
  more_lem i j at start (Ok x) rest e = ap (λ (l : List ℕ). x.n ∷ l) (rest x.next e)
  more_lem i j at start (Err m) rest e = never e

  pub numbers_split : (i j at start : ℕ) → run_of i file start ≡ Ok at → numbers (i + j) file start ≡ numbers i file start ++ numbers j file at
  unfolding run_of numbers number_in
  numbers_split zero j at start e =
      let same : start ≡ at = cc in
      rw (zero-add, same)
  numbers_split (suc i) j at start e =
      let f : suc i + j ≡ suc (i + j) = omega arith in
      rw f (more_lem i j at _ (number_at file start) (λ next e. numbers_split i j at next e) e)

  -- one number more
  pub run_next : (i at start : ℕ) (x : Number) → run_of i file start ≡ Ok at → number_in file at ≡ Ok x → run_of (i + 1) file start ≡ Ok x.next
  unfolding run_of number_in
  run_next i at start x e f = run_split i 1 start ∙ simp (e, there file at x f)

  pub numbers_next : (i at start : ℕ) (x : Number) → run_of i file start ≡ Ok at → number_in file at ≡ Ok x →
      numbers (i + 1) file start ≡ numbers i file start ++ (x.n ∷ [])
  unfolding numbers
  numbers_next i at start x e f = numbers_split i 1 at start e ∙ simp (there file at x f)

  -- a number that is refused ends the run
  pub run_ends : (i count at start : ℕ) (r : Refused) → i < count → run_of i file start ≡ Ok at → number_in file at ≡ Err r →
      run_of count file start ≡ Err r
  unfolding run_of number_in
  run_ends i count at start r h e there =
      let f : count ≡ i + suc (count - (i + 1)) = omega arith in
      rw f (run_split i (suc (count - (i + 1))) start ∙ simp (e, there))

-- what a number that is bad or cut leaves: the run's refusal, and no numbers
module _ (s : List ℕ) (count at i : ℕ) (h : i < count) where
  one_less : count - i ≡ suc (count - (i + 1))
  one_less = omega arith

  pub bad_there : number_at s at ≡ Err Bad → (run_of (count - i) s at ≡ Err (refused 40 at)) × (numbers (count - i) s at ≡ [])
  unfolding run_of numbers number_in misread
  bad_there p = rw one_less (simp p, simp p)

  pub early_there : number_at s at ≡ Err Early → (run_of (count - i) s at ≡ Err (refused 41 (length s))) × (numbers (count - i) s at ≡ [])
  unfolding run_of numbers number_in misread
  early_there p = rw one_less (simp p, simp p)
