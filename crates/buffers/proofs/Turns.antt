-- The walk never runs out of its turns. Each turn takes an entry from the queue, and each entry that joins it raised a number, which the pool bounds:
-- twice what is left to raise, and what waits, falls at every turn, and begins below the number of turns.
-- Assumes nothing.
use mathlib.Core.Path.{◌≡◌, refl, ◌∙◌}
use mathlib.Core.Bool.{Bool, true, false, cond}
use mathlib.Core.List.{List, [], ◌∷◌, ◌++◌}
use Prim.Native.Nat.{ℕ, zero, suc, ◌+◌, ◌*◌, ◌≤◌, ◌<◌}
use native.Mathlib.Omega.{arith}
use lib.ListN.{length, get_or, set, length-append, length-set}
use lib.Dec.{ltb}
use borrow.Author.Tests.{ltb-true}
use Rattle.buffers.specs.declared.Way.{Way}
use Rattle.buffers.specs.declared.Way.TheVariants.{Ends, Astray, Goes, Forks}
use Rattle.buffers.specs.declared.Tread.{Tread}
use Rattle.buffers.specs.Tread.{Leads, Bounded}
use Rattle.buffers.specs.Walk.{Entry, entry, Outcome, astray, full, go, then, raise, follow, Usage, used, unused, unfinished, ended, walk_from, begun, turns_of, walk_of, slack}
use Rattle.buffers.proofs.Queue.{slack_set, slack_begun, length_begun, walk_begun, turns_are}

-- what is left to do
abbrev pub work : ℕ → List ℕ → List Entry → ℕ
work pool numbers queue = 2 * slack pool numbers + length queue

-- where it goes on, there are as many offsets, and no more to do than before
abbrev pub Less : ℕ → List ℕ → List Entry → Outcome → Type 0
Less pool numbers queue o = (n : List ℕ) (q : List Entry) → o ≡ go n q → (length n ≡ length numbers) × (work pool n q ≤ work pool numbers queue)

module _ (room pool sum : ℕ) (within : sum ≤ pool) where
  pub raise_less : (numbers : List ℕ) (queue : List Entry) (to : ℕ) → to < length numbers → Less pool numbers queue (raise room numbers queue sum to)
  unfolding raise
  raise_less numbers queue to l n q e = by (ltb (get_or numbers to 0) (sum + 1)) refl (ltb (length queue) room) e
    where
      by : (t : Bool) → ltb (get_or numbers to 0) (sum + 1) ≡ t → (r : Bool)
          → cond t (cond r (go (set numbers to (sum + 1)) (queue ++ (entry to sum ∷ []))) full) (go numbers queue) ≡ go n q
          → (length n ≡ length numbers) × (work pool n q ≤ work pool numbers queue)
      by true h true g =
          let a : set numbers to (sum + 1) ≡ n = cc in
          let b : queue ++ (entry to sum ∷ []) ≡ q = cc in
          let low : get_or numbers to 0 < sum + 1 = ltb-true _ _ h in
          rw (← a, ← b) (length-set numbers to (sum + 1), omega (arith, slack_set pool numbers to sum l low within, length-append queue (entry to sum ∷ [])))
      by true h false g = let z : ◌≡◌ {A = ℕ} 0 1 = cc in absurd (omega arith)
      by false h r g =
          let a : numbers ≡ n = cc in
          let b : queue ≡ q = cc in
          rw (← a, ← b) (refl, omega arith)

module _ (room pool sum : ℕ) where
  pub follow_less : (numbers : List ℕ) (queue : List Entry) (way : Way) → Leads (length numbers) pool sum way → Less pool numbers queue (follow room numbers queue sum way)
  unfolding follow
  follow_less numbers queue Ends b n q e =
      let x : numbers ≡ n = cc in
      let y : queue ≡ q = cc in
      rw (← x, ← y) (refl, omega arith)
  follow_less numbers queue Astray b n q e = let z : ◌≡◌ {A = ℕ} 0 1 = cc in absurd (omega arith)
  follow_less numbers queue (Goes to) b n q e = raise_less room pool sum b.1 numbers queue to b.0 n q e
  follow_less numbers queue (Forks to next) b n q e = by (raise room numbers queue sum to) refl e
    where
      by : (o : Outcome) → raise room numbers queue sum to ≡ o → then o (λ n₁ q₁. raise room n₁ q₁ sum next) ≡ go n q → (length n ≡ length numbers) × (work pool n q ≤ work pool numbers queue)
      by astray h g = let z : ◌≡◌ {A = ℕ} 0 1 = cc in absurd (omega arith)
      by full h g = let z : ◌≡◌ {A = ℕ} 0 1 = cc in absurd (omega arith)
      by (go n₁ q₁) h g =
          let p = raise_less room pool sum b.1.1 numbers queue to b.0 n₁ q₁ h in
          let r = raise_less room pool sum b.1.1 n₁ q₁ next (omega (arith, p.0, b.1.0)) n q g in
          (r.0 ∙ p.0, omega (arith, p.1, r.1))

module _ (rule : ℕ → ℕ → Tread) (room pool n : ℕ) (bounded : (offset held : ℕ) → Bounded n pool (rule offset held)) where
  pub never_out : (left : ℕ) (numbers : List ℕ) (queue : List Entry) (u : Usage) → length numbers ≡ n → work pool numbers queue < left
      → walk_from rule room left numbers queue u ≡ unfinished → ⊥
  unfolding walk_from
  never_out zero numbers queue u l h e = omega arith
  never_out (suc left) numbers [] u l h e = let z : ◌≡◌ {A = ℕ} 0 1 = cc in omega arith
  never_out (suc left) numbers (x ∷ queue) u l h e =
      by (ltb (x.held + 1) (get_or numbers x.offset 0)) (follow room numbers queue t.sum t.way) refl e (λ n₁ q₁ u₁. never_out left n₁ q₁ u₁)
    where
      t : Tread
      t = rule x.offset x.held

      by : (s : Bool) (o : Outcome) → follow room numbers queue t.sum t.way ≡ o
          → cond s (walk_from rule room left numbers queue u) (ended o (λ n₁ q₁. walk_from rule room left n₁ q₁ (used x.offset t u))) ≡ unfinished
          → ((n₁ : List ℕ) (q₁ : List Entry) (u₁ : Usage) → length n₁ ≡ n → work pool n₁ q₁ < left → walk_from rule room left n₁ q₁ u₁ ≡ unfinished → ⊥)
          → ⊥
      by true o p g rest = rest numbers queue u l (omega arith) g
      by false astray p g rest = let z : ◌≡◌ {A = ℕ} 0 1 = cc in omega arith
      by false full p g rest = let z : ◌≡◌ {A = ℕ} 0 1 = cc in omega arith
      by false (go n₁ q₁) p g rest =
          let w = follow_less room pool t.sum numbers queue t.way (rw l (bounded x.offset x.held)) n₁ q₁ p in
          rest n₁ q₁ _ (w.0 ∙ l) (omega (arith, w.1)) g

  pub turns_suffice : 0 < n → walk_of rule room pool n ≡ unfinished → ⊥
  turns_suffice p e =
      never_out (turns_of n pool) (begun n) (entry 0 0 ∷ []) unused (length_begun n) (omega (arith, slack_begun pool n p, turns_are n pool)) (walk_begun rule room pool n ∙ e)
