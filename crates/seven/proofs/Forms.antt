-- The form of a number by its size, and the number that a form stands for, byte by byte. The laws of Laws.antt are made of these.
-- Assumes nothing.
use Rattle.std.specs.Prelude.{ℕ, ◌+◌, ◌-◌, ◌*◌, ◌/◌, ◌%◌, ◌<◌, ◌≤◌, ◌≡◌, refl, Bool, true, false, List, [], ◌∷◌, length, get_or, ltb}
use Rattle.std.proofs.Common.{◌∙◌, arith, le-ltb, lt-ltb, le-leb, ne_eqb, ltb-true, ltb-false}
use Rattle.std.proofs.lemmas.Bool.{lt-leb}
use Rattle.seven.specs.Seven.{value, number_at, first, second, third}
use Rattle.seven.specs.Write.{form}

pub by_test : {P : Type 0} (t : Bool) → (t ≡ true → P) → (t ≡ false → P) → P
by_test true f g = f refl
by_test false f g = g refl

-- a number of one byte, of two and of three, by the bytes that stand there
pub one : (s : List ℕ) (at x : ℕ) → at < length s → get_or s at 0 ≡ x → x < 128 → number_at s at ≡ value x (at + 1)
unfolding number_at first
one s at x h p lo = simp (lt-leb _ _ h, p, lt-ltb _ _ lo)

pub two : (s : List ℕ) (at x y : ℕ) → at + 1 < length s → get_or s at 0 ≡ x → get_or s (at + 1) 0 ≡ y →
    128 ≤ x → 0 < y → y < 128 → number_at s at ≡ value (x - 128 + y * 128) (at + 2)
unfolding number_at first second
two s at x y h p q lo some mid =
    simp (
      lt-leb (length s) at (omega arith),
      p,
      le-ltb _ _ lo,
      lt-leb (length s - at) 1 (omega arith),
      q,
      ne_eqb y 0 (λ e. omega arith),
      lt-ltb _ _ mid,
    )

pub three : (s : List ℕ) (at x y z : ℕ) → at + 2 < length s →
    get_or s at 0 ≡ x → get_or s (at + 1) 0 ≡ y → get_or s (at + 2) 0 ≡ z → 128 ≤ x → 128 ≤ y → 0 < z → z ≤ 3 →
    number_at s at ≡ value (x - 128 + (y - 128) * 128 + z * 16384) (at + 3)
unfolding number_at first second third
three s at x y z h p q r lo mid some hi =
    simp (
      lt-leb (length s) at (omega arith),
      p,
      le-ltb _ _ lo,
      lt-leb (length s - at) 1 (omega arith),
      q,
      ne_eqb y 0 (λ e. omega arith),
      le-ltb _ _ mid,
      lt-leb (length s - at) 2 (omega arith),
      r,
      ne_eqb z 0 (λ e. omega arith),
      le-leb _ _ hi,
    )

-- the bytes of a number by its size
pub form_one : (n : ℕ) → n < 128 → form n ≡ n ∷ []
unfolding form
form_one n h = simp (lt-ltb _ _ h)

pub form_two : (n : ℕ) → 128 ≤ n → n < 16384 → form n ≡ (n % 128 + 128) ∷ ((n / 128) ∷ [])
unfolding form
form_two n g h = simp (le-ltb _ _ g, lt-ltb _ _ h)

pub form_three : (n : ℕ) → 16384 ≤ n → form n ≡ (n % 128 + 128) ∷ ((n / 128 % 128 + 128) ∷ ((n / 16384) ∷ []))
unfolding form
form_three n h = simp (le-ltb n 128 (omega arith), le-ltb _ _ h)

-- every number has one size
pub by_size : {P : Type 0} (n : ℕ) → (n < 128 → P) → (128 ≤ n → n < 16384 → P) → (16384 ≤ n → P) → P
by_size n small middle large =
    by_test (ltb n 128) (λ e. small (ltb-true _ _ e)) (λ e.
    by_test (ltb n 16384) (λ f. middle (ltb-false _ _ e) (ltb-true _ _ f)) (λ f. large (ltb-false _ _ f)))

-- two bytes and three are the form of the number that they stand for
pub two_form : (x y : ℕ) → 128 ≤ x → x < 256 → 0 < y → y < 128 → form (x - 128 + y * 128) ≡ x ∷ (y ∷ [])
two_form x y lo hi some mid =
    let n : ℕ = x - 128 + y * 128 in
    let a : n % 128 + 128 ≡ x = omega arith in
    let b : n / 128 ≡ y = omega arith in
    form_two n (omega arith) (omega arith) ∙ cc

middle_group : (q y z : ℕ) → q ≡ y - 128 + z * 128 → 128 ≤ y → y < 256 → q % 128 + 128 ≡ y
middle_group q y z e lo hi = omega arith

pub three_form : (x y z : ℕ) → 128 ≤ x → x < 256 → 128 ≤ y → y < 256 → 0 < z → z ≤ 3 →
    form (x - 128 + (y - 128) * 128 + z * 16384) ≡ x ∷ (y ∷ (z ∷ []))
three_form x y z lo hi lo' hi' some top =
    let n : ℕ = x - 128 + (y - 128) * 128 + z * 16384 in
    let a : n % 128 + 128 ≡ x = omega arith in
    let q : n / 128 ≡ y - 128 + z * 128 = omega arith in
    let b : n / 128 % 128 + 128 ≡ y = middle_group (n / 128) y z q lo' hi' in
    let d : n / 16384 ≡ z = omega arith in
    form_three n (omega arith) ∙ cc

-- a form has one byte at least, more of them for larger numbers, and three at most
pub some_byte : (n : ℕ) → 1 ≤ length (form n)
some_byte n =
    by_size n
    (λ a. rw (form_one n a) (omega arith))
    (λ a b. rw (form_two n a b) (omega arith))
    (λ a. rw (form_three n a) (omega arith))

pub two_bytes : (n : ℕ) → 128 ≤ n → 2 ≤ length (form n)
two_bytes n h =
    by_size n
    (λ a. omega arith)
    (λ a b. rw (form_two n a b) (omega arith))
    (λ a. rw (form_three n a) (omega arith))

pub three_bytes : (n : ℕ) → 16384 ≤ n → 3 ≤ length (form n)
three_bytes n h = rw (form_three n h) (omega arith)
