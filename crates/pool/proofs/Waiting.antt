-- The queue in two columns that go round: one more entry at its end, its first entry, its length. A place is seen by the two cases of `seat_of`.
-- Assumes nothing.
use mathlib.Core.Path.{◌≡◌, refl, sym, ap, ap₂, ◌∙◌}
use mathlib.Core.Bool.{Bool, true, false}
use mathlib.Core.List.{List, [], ◌∷◌, ◌++◌}
use mathlib.Core.Logic.{◌⊎◌, inl, inr, ⊎_elim}
use Prim.Native.Nat.{ℕ, zero, suc, ◌+◌, ◌-◌, ◌≤◌, ◌<◌}
use native.Mathlib.Numerals.{add-one, sub-one}
use native.Mathlib.Omega.{arith}
use lib.ListN.{length, get_or, set, length-set}
use lib.Seq.{get_or-set_same, get_or-set_other}
use lib.Dec.{ltb}
use borrow.Author.Tests.{ltb-true, ltb-false, lt-ltb, le-ltb}
use Rattle.buffers.specs.Walk.{Entry, entry}
use Rattle.pool.specs.Columns.{seat_of, tabulate, waiting}

tab_ext : (n : ℕ) (f g : ℕ → Entry) → ((j : ℕ) → j < n → f j ≡ g j) → tabulate n f ≡ tabulate n g
unfolding tabulate
tab_ext zero f g e = refl
tab_ext (suc n) f g e = ap₂ (λ (a : Entry) (l : List Entry). a ∷ l) (e 0 (omega arith)) (tab_ext n (λ j. f (suc j)) (λ j. g (suc j)) (λ j l. e (suc j) (omega arith)))

tab_snoc : (n : ℕ) (f : ℕ → Entry) → tabulate (suc n) f ≡ tabulate n f ++ (f n ∷ [])
unfolding tabulate
tab_snoc zero f = refl
tab_snoc (suc n) f = ap (λ (l : List Entry). f 0 ∷ l) (tab_snoc n (λ j. f (suc j)))

tab_length : (n : ℕ) (f : ℕ → Entry) → length (tabulate n f) ≡ n
unfolding tabulate
tab_length zero f = refl
tab_length (suc n) f = ap suc (tab_length n (λ j. f (suc j)))

-- a place, by the two cases
pub seat_before : (room head j : ℕ) → j < room - head → head + j ≡ seat_of room head j
unfolding seat_of
seat_before room head j h = simp (lt-ltb j (room - head) h)

pub seat_after : (room head j : ℕ) → room - head ≤ j → j - (room - head) ≡ seat_of room head j
unfolding seat_of
seat_after room head j h = simp (le-ltb j (room - head) h)

seat_cases : (room head j : ℕ) → ((j < room - head) × (seat_of room head j ≡ head + j)) ⊎ ((room - head ≤ j) × (seat_of room head j ≡ j - (room - head)))
seat_cases room head j = by (ltb j (room - head)) refl
  where
    by : (t : Bool) → ltb j (room - head) ≡ t → ((j < room - head) × (seat_of room head j ≡ head + j)) ⊎ ((room - head ≤ j) × (seat_of room head j ≡ j - (room - head)))
    by true e = let l = ltb-true j (room - head) e in inl (l, sym (seat_before room head j l))
    by false e = let l = ltb-false j (room - head) e in inr (l, sym (seat_after room head j l))

module _ (room head : ℕ) (inside : head < room) where
  pub seat_lt : (j : ℕ) → j ≤ room → seat_of room head j < room
  seat_lt j l = ⊎_elim (λ a. omega arith) (λ a. omega arith) (seat_cases room head j)

  seat_first : seat_of room head 0 ≡ head
  seat_first = ⊎_elim (λ a. omega arith) (λ a. omega arith) (seat_cases room head 0)

  seat_differs : (j c : ℕ) → j < c → c < room → seat_of room head j ≡ seat_of room head c → ⊥
  seat_differs j c l u e = ⊎_elim
      (λ a. ⊎_elim (λ b. omega arith) (λ b. omega arith) (seat_cases room head c))
      (λ a. ⊎_elim (λ b. omega arith) (λ b. omega arith) (seat_cases room head c))
      (seat_cases room head j)

  seat_next : (j : ℕ) → suc j < room → seat_of room head (suc j) ≡ seat_of room (seat_of room head 1) j
  seat_next j l = ⊎_elim
      (λ a. ⊎_elim (λ b. ⊎_elim (λ c. omega arith) (λ c. omega arith) (seat_cases room (seat_of room head 1) j)) (λ b. ⊎_elim (λ c. omega arith) (λ c. omega arith) (seat_cases room (seat_of room head 1) j)) (seat_cases room head 1))
      (λ a. ⊎_elim (λ b. ⊎_elim (λ c. omega arith) (λ c. omega arith) (seat_cases room (seat_of room head 1) j)) (λ b. ⊎_elim (λ c. omega arith) (λ c. omega arith) (seat_cases room (seat_of room head 1) j)) (seat_cases room head 1))
      (seat_cases room head (suc j))

abbrev at : List ℕ → List ℕ → ℕ → Entry
at places carried i = entry (get_or places i 0) (get_or carried i 0)

module _ (places carried : List ℕ) (head : ℕ) (inside : head < length places) (alike : length carried ≡ length places) where
  pub waiting_joined : (count offset held : ℕ) → count < length places
      → waiting (set places (seat_of (length places) head count) offset) (set carried (seat_of (length places) head count) held) head (count + 1) ≡ waiting places carried head count ++ (entry offset held ∷ [])
  unfolding waiting
  waiting_joined count offset held l =
      let s = seat_of (length places) head count in
      let w = seat_lt (length places) head inside count (omega arith) in
      rw (add-one count, length-set places s offset)
      (tab_snoc count (λ j. at (set places s offset) (set carried s held) (seat_of (length places) head j))
      ∙ ap₂ (λ (a : List Entry) (b : Entry). a ++ (b ∷ []))
      (tab_ext count (λ j. at (set places s offset) (set carried s held) (seat_of (length places) head j)) (λ j. at places carried (seat_of (length places) head j))
      (λ j u. ap₂ entry (get_or-set_other places s (seat_of (length places) head j) offset 0 (seat_differs (length places) head inside j count u l)) (get_or-set_other carried s (seat_of (length places) head j) held 0 (seat_differs (length places) head inside j count u l))))
      (ap₂ entry (get_or-set_same places s offset 0 w) (get_or-set_same carried s held 0 (omega arith))))

  pub waiting_first : (count : ℕ) → 0 < count → count ≤ length places
      → waiting places carried head count ≡ entry (get_or places head 0) (get_or carried head 0) ∷ waiting places carried (seat_of (length places) head 1) (count - 1)
  unfolding waiting tabulate
  waiting_first zero z l = absurd (omega arith)
  waiting_first (suc c) z l =
      rw (sub-one (suc c))
      (ap₂ (λ (a : Entry) (b : List Entry). a ∷ b)
      (ap (at places carried) (seat_first (length places) head inside))
      (tab_ext c (λ j. at places carried (seat_of (length places) head (suc j))) (λ j. at places carried (seat_of (length places) (seat_of (length places) head 1) j))
      (λ j u. ap (at places carried) (seat_next (length places) head inside j (omega arith)))))

pub waiting_length : (places carried : List ℕ) (head count : ℕ) → length (waiting places carried head count) ≡ count
unfolding waiting
waiting_length places carried head count = tab_length count (λ j. at places carried (seat_of (length places) head j))

pub waiting_none : (places carried : List ℕ) (head : ℕ) → waiting places carried head 0 ≡ []
unfolding waiting tabulate
waiting_none places carried head = refl
