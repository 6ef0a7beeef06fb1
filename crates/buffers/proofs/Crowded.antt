-- "QueueFull is given exactly when a walk would hold more" entries at once than there is room for. One turn of the walk is compared with the same turn
-- of a walk whose queue has no end: it goes the same way and holds no more than the room, or it is full and the other holds more. Then by induction
-- on the turns, since the other's queue counts from there on.
-- Assumes nothing.
use mathlib.Core.Path.{◌≡◌, refl, sym, ◌∙◌}
use mathlib.Core.Bool.{Bool, true, false, cond}
use mathlib.Core.List.{List, [], ◌∷◌, ◌++◌}
use mathlib.Core.Logic.{◌↔◌}
use Prim.Native.Nat.{ℕ, zero, suc, ◌+◌, ◌≤◌, ◌<◌, max}
use native.Mathlib.Omega.{arith}
use lib.ListN.{length, get_or, set, length-append}
use lib.Dec.{ltb}
use borrow.Author.Tests.{ltb-true, ltb-false}
use Rattle.buffers.specs.declared.Way.{Way}
use Rattle.buffers.specs.declared.Way.TheVariants.{Ends, Astray, Goes, Forks}
use Rattle.buffers.specs.declared.Tread.{Tread}
use Rattle.buffers.specs.Walk.{Entry, entry, Outcome, astray, full, go, raise, follow, Usage, used, unused, crowded, ended, walk_from, begun, turns_of, walk_of}
use Rattle.buffers.specs.Trodden.{made_at}
use Rattle.buffers.specs.Longest.{counted, longest_from, longest_of}
use Rattle.buffers.proofs.Queue.{raise_new, raise_full, raise_kept, follow_ends, follow_astray, follow_goes, follow_forks_full, follow_forks_go, walk_begun}

-- a turn, and the same turn with room enough
data Turn (room : ℕ) : Outcome → Outcome → Type 0 where
  strays : Turn room astray astray
  fits : (n : List ℕ) (q : List Entry) → length q ≤ room → Turn room (go n q) (go n q)
  bursts : (n : List ℕ) (q : List Entry) → room < length q → Turn room full (go n q)

-- no longer than by one
data Raised (room wide : ℕ) (m : List ℕ) (q : List Entry) (sum to : ℕ) : Type 0 where
  raised : (n : List ℕ) (q' : List Entry) → raise room m q sum to ≡ go n q' → raise wide m q sum to ≡ go n q' → length q ≤ length q' → length q' ≤ length q + 1 → length q' ≤ room → Raised room wide m q sum to
  burst : (n : List ℕ) (q' : List Entry) → raise room m q sum to ≡ full → raise wide m q sum to ≡ go n q' → length q ≤ length q' → length q' ≤ length q + 1 → room < length q' → Raised room wide m q sum to

raised_is : (room wide : ℕ) (m : List ℕ) (q : List Entry) (sum to : ℕ) → length q < wide → length q ≤ room → Raised room wide m q sum to
raised_is room wide m q sum to w r = by (ltb (get_or m to 0) (sum + 1)) refl (ltb (length q) room) refl
  where
    by : (b : Bool) → ltb (get_or m to 0) (sum + 1) ≡ b → (c : Bool) → ltb (length q) room ≡ c → Raised room wide m q sum to
    by true h true k =
        let low : get_or m to 0 < sum + 1 = ltb-true _ _ h in
        let fit : length q < room = ltb-true _ _ k in
        let l = length-append q (entry to sum ∷ []) in
        raised (set m to (sum + 1)) (q ++ (entry to sum ∷ [])) (raise_new room m q sum to low fit) (raise_new wide m q sum to low w) (omega arith) (omega arith) (omega arith)
    by true h false k =
        let low : get_or m to 0 < sum + 1 = ltb-true _ _ h in
        let none : room ≤ length q = ltb-false _ _ k in
        let l = length-append q (entry to sum ∷ []) in
        burst (set m to (sum + 1)) (q ++ (entry to sum ∷ [])) (raise_full room m q sum to low none) (raise_new wide m q sum to low w) (omega arith) (omega arith) (omega arith)
    by false h c k =
        let high : sum + 1 ≤ get_or m to 0 = ltb-false _ _ h in
        raised m q (raise_kept room m q sum to high) (raise_kept wide m q sum to high) (omega arith) (omega arith) r

-- a second raise with room enough only makes the queue longer
wide_more : (wide : ℕ) (m : List ℕ) (q : List Entry) (sum to : ℕ) → length q < wide → (n : List ℕ) × (q' : List Entry) × (raise wide m q sum to ≡ go n q') × (length q ≤ length q')
wide_more wide m q sum to w = by (ltb (get_or m to 0) (sum + 1)) refl
  where
    by : (b : Bool) → ltb (get_or m to 0) (sum + 1) ≡ b → (n : List ℕ) × (q' : List Entry) × (raise wide m q sum to ≡ go n q') × (length q ≤ length q')
    by true h = let l = length-append q (entry to sum ∷ []) in (set m to (sum + 1), q ++ (entry to sum ∷ []), raise_new wide m q sum to (ltb-true _ _ h) w, omega arith)
    by false h = (m, q, raise_kept wide m q sum to (ltb-false _ _ h), omega arith)

turn_is : (room : ℕ) (m : List ℕ) (q : List Entry) (sum : ℕ) (way : Way) → length q ≤ room → Turn room (follow room m q sum way) (follow (length q + 2) m q sum way)
turn_is room m q sum Ends r = rw (follow_ends room m q sum, follow_ends (length q + 2) m q sum) (fits m q r)
turn_is room m q sum Astray r = rw (follow_astray room m q sum, follow_astray (length q + 2) m q sum) strays
turn_is room m q sum (Goes to) r = rw (follow_goes room m q sum to, follow_goes (length q + 2) m q sum to) (by (raised_is room (length q + 2) m q sum to (omega arith) r))
  where
    by : Raised room (length q + 2) m q sum to → Turn room (raise room m q sum to) (raise (length q + 2) m q sum to)
    by (raised n q' a b l u x) = rw (a, b) (fits n q' x)
    by (burst n q' a b l u x) = rw (a, b) (bursts n q' x)
turn_is room m q sum (Forks to next) r = by (raised_is room (length q + 2) m q sum to (omega arith) r)
  where
    by : Raised room (length q + 2) m q sum to → Turn room (follow room m q sum (Forks to next)) (follow (length q + 2) m q sum (Forks to next))
    by (raised n q' a b l u x) = rw (follow_forks_go room m q sum to next n q' a, follow_forks_go (length q + 2) m q sum to next n q' b) (second (raised_is room (length q + 2) n q' sum next (omega arith) x))
      where
        second : Raised room (length q + 2) n q' sum next → Turn room (raise room n q' sum next) (raise (length q + 2) n q' sum next)
        second (raised n₁ q₁ a b l u x) = rw (a, b) (fits n₁ q₁ x)
        second (burst n₁ q₁ a b l u x) = rw (a, b) (bursts n₁ q₁ x)
    by (burst n q' a b l u x) =
        let w = wide_more (length q + 2) n q' sum next (omega arith) in
        rw (follow_forks_full room m q sum to next a, follow_forks_go (length q + 2) m q sum to next n q' b, w.2) (bursts w.0 w.1 (omega (arith, w.3)))

module _ (rule : ℕ → ℕ → Tread) (room : ℕ) where
  counts : (left : ℕ) (m : List ℕ) (q : List Entry) → length q ≤ longest_from rule left m q
  unfolding longest_from
  counts zero m q = omega arith
  counts (suc left) m [] = omega arith
  counts (suc left) m (e ∷ q) = omega arith

  crowds : (left : ℕ) (m : List ℕ) (q : List Entry) (u : Usage) → length q ≤ room → (walk_from rule room left m q u ≡ crowded) ↔ (room < longest_from rule left m q)
  unfolding walk_from longest_from
  crowds zero m q u r = (λ e. let z : ◌≡◌ {A = ℕ} 0 1 = cc in absurd (omega arith), λ l. absurd (omega arith))
  crowds (suc left) m [] u r = (λ e. let z : ◌≡◌ {A = ℕ} 0 1 = cc in absurd (omega arith), λ l. absurd (omega arith))
  crowds (suc left) m (x ∷ q) u r =
      by (ltb (x.held + 1) (get_or m x.offset 0)) (follow room m q t.sum t.way) (follow (length q + 2) m q t.sum t.way) (turn_is room m q t.sum t.way (omega arith))
      (λ m₁ q₁ u₁ r₁. crowds left m₁ q₁ u₁ r₁)
    where
      t : Tread
      t = made_at rule x

      by : (s : Bool) (o w : Outcome) → Turn room o w
          → ((m₁ : List ℕ) (q₁ : List Entry) (u₁ : Usage) → length q₁ ≤ room → (walk_from rule room left m₁ q₁ u₁ ≡ crowded) ↔ (room < longest_from rule left m₁ q₁))
          → (cond s (walk_from rule room left m q u) (ended o (λ m₁ q₁. walk_from rule room left m₁ q₁ (used x.offset t u))) ≡ crowded)
          ↔ (room < max (length q + 1) (cond s (longest_from rule left m q) (counted w (λ m₁ q₁. longest_from rule left m₁ q₁))))
      by true o w k rest = let i = rest m q u (omega arith) in (λ e. omega (arith, i.0 e), λ l. i.1 (omega arith))
      by false _ _ strays rest = (λ e. let z : ◌≡◌ {A = ℕ} 0 1 = cc in absurd (omega arith), λ l. absurd (omega arith))
      by false _ _ (fits n q₁ k) rest = let i = rest n q₁ (used x.offset t u) k in (λ e. omega (arith, i.0 e), λ l. i.1 (omega arith))
      by false _ _ (bursts n q₁ k) rest = let c = counts left n q₁ in (λ e. omega arith, λ l. refl)

  pub crowded_exactly : (pool n : ℕ) → 0 < room → (walk_of rule room pool n ≡ crowded) ↔ (room < longest_of rule pool n)
  unfolding longest_of
  crowded_exactly pool n p =
      let c = crowds (turns_of n pool) (begun n) (entry 0 0 ∷ []) unused p in
      (λ e. c.0 (walk_begun rule room pool n ∙ e), λ l. sym (walk_begun rule room pool n) ∙ c.1 l)
