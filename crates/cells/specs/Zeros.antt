-- What a cleared column holds, and the laws of it: its length, its cells, its parts, and a front that is lent out and comes back as zeros.
-- Assumes nothing.
use Rattle.std.specs.Prelude.{ℕ, zero, suc, ◌≤◌, ◌≡◌, refl, List, ◌∷◌, ◌++◌, get_or, take, drop, replicate}
use Rattle.std.proofs.Common.{sym, ap₂, ◌∙◌, append-nil, arith, length-take-le, take_at, drop_at}
use Rattle.std.proofs.Math.Path.{ap}
use Rattle.std.proofs.Math.ListN.{length, length-replicate}
use Rattle.std.proofs.Math.Seq.{drop-length}

-- so many cells that all hold the same
unfoldable pub copies : {T : Type 0} → T → ℕ → List T
copies cell n = replicate n cell

abbrev pub zeros : ℕ → List ℕ
zeros n = copies 0 n

-- a lent column afterwards: all of it zero, spare cells included
abbrev pub ZeroAfter : List ℕ → List ℕ → Type 0
ZeroAfter first last = last ≡ zeros (length first)

-- a column that is filled to its end
pub filled : (first column : List ℕ) (i : ℕ) → length first ≤ i → i ≤ length first → column ≡ replicate i 0 ++ drop i first → column ≡ zeros (length first)
unfolding copies
filled first column i l g e = let n : i ≡ length first = omega arith in e ∙ rw (n, drop-length first) (append-nil _)

pub zero_at : (n i : ℕ) → get_or (zeros n) i 0 ≡ 0
unfolding copies
zero_at zero i = refl
zero_at (suc n) zero = refl
zero_at (suc n) (suc i) = zero_at n i

cut : (k n : ℕ) → k ≤ n → take k (zeros n) ≡ zeros k
unfolding copies
cut zero n h = refl
cut (suc k) zero h = absurd (omega arith)
cut (suc k) (suc n) h = ap (λ (u : List ℕ). 0 ∷ u) (cut k n (omega arith))

module _ (column : List ℕ) (n : ℕ) (e : column ≡ zeros n) where
  pub length_zeros : length column ≡ n
  unfolding copies
  length_zeros = ap length e ∙ length-replicate n 0

  pub any_zero : (i : ℕ) → get_or column i 0 ≡ 0
  any_zero i = ap (λ (u : List ℕ). get_or u i 0) e ∙ zero_at n i

  pub take_zeros : (k : ℕ) → k ≤ n → take k column ≡ zeros k
  take_zeros k h = ap (λ (u : List ℕ). take k u) e ∙ cut k n h

  pub as_long : (m : ℕ) → length column ≡ m → column ≡ zeros m
  as_long m h = e ∙ ap zeros (sym length_zeros ∙ h)

joined : (k n : ℕ) → k ≤ n → zeros k ++ drop k (zeros n) ≡ zeros n
unfolding copies
joined zero n h = refl
joined (suc k) zero h = absurd (omega arith)
joined (suc k) (suc n) h = ap (λ (u : List ℕ). 0 ∷ u) (joined k n (omega arith))

-- the front `k` of a column was lent out, and came back as `used`
module _ (k : ℕ) (column used : List ℕ) (fits : k ≤ length column) (kept : length used ≡ length (take k column)) where
  back : length used ≡ k
  back = kept ∙ length-take-le k column fits

  -- its front is as long again
  pub front : k ≡ length (take k (used ++ drop k column))
  front = sym (ap length (take_at used (drop k column) k back) ∙ back)

  -- lent out again, and come back as zeros, where the whole was zeros: all are zeros
  pub patched : (cleared : List ℕ) → column ≡ zeros (length column) → cleared ≡ zeros (length (take k (used ++ drop k column))) → cleared ++ drop k (used ++ drop k column) ≡ zeros (length column)
  patched cleared e z =
      rw (drop_at used (drop k column) k back) (ap₂ (λ (u v : List ℕ). u ++ drop k v) (z ∙ ap zeros (sym front)) e ∙ joined k (length column) fits)

pub zeros_are : (n : ℕ) → zeros n ≡ replicate n 0
unfolding copies
zeros_are n = refl
