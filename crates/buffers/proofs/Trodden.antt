-- Weight, peak offset and callees of a walk that ended, from the places that it trod in their order. What it found is what `used` makes of these places
-- from the first on, by the walk's own recursion; so the weight is at least each sum, the peak offset is that of the first place that made it, and each
-- cell is noted once. Each is then an induction on the list of places.
-- Assumes nothing.
use mathlib.Core.Path.{◌≡◌, refl, sym, ap, ◌∙◌}
use mathlib.Core.Bool.{Bool, true, false, cond}
use mathlib.Core.List.{List, [], ◌∷◌}
use mathlib.Core.Logic.{◌⊎◌, inl, inr, ⊎_elim}
use Prim.Native.Nat.{ℕ, zero, suc, ◌+◌, ◌≤◌, ◌<◌}
use native.Mathlib.Omega.{arith}
use lib.ListN.{get_or}
use lib.Dec.{ltb}
use borrow.Author.Tests.{ltb-true, ltb-false}
use Rattle.buffers.specs.declared.Tread.{Tread}
use Rattle.buffers.specs.Walk.{Entry, entry, Outcome, astray, full, go, follow, Usage, used, unused, walked, ended, walk_from, begun, turns_of, walk_of}
use Rattle.buffers.specs.Meaning.{Among}
use Rattle.buffers.specs.Trodden.{made_at, onward, treads_from, treads_of, First, met_from, Met}
use Rattle.buffers.proofs.Queue.{weight_larger, weight_other, peak_larger, peak_other, used_callees, walk_begun}
use Rattle.buffers.proofs.Callees.{met_is}
use Rattle.buffers.proofs.Dominates.{weighs}

module _ (rule : ℕ → ℕ → Tread) where
  -- what places make of what was found before
  unfoldable pub found_from : Usage → List Entry → Usage
  found_from u [] = u
  found_from u (e ∷ trodden) = found_from (used e.offset (made_at rule e) u) trodden

  pub walk_found : (room left : ℕ) (m : List ℕ) (q : List Entry) (u : Usage) (m' : List ℕ) (u' : Usage) → walk_from rule room left m q u ≡ walked m' u'
      → u' ≡ found_from u (treads_from rule room left m q)
  unfolding walk_from treads_from found_from
  walk_found room zero m q u m' u' e = let z : ◌≡◌ {A = ℕ} 0 1 = cc in absurd (omega arith)
  walk_found room (suc left) m [] u m' u' e = cc
  walk_found room (suc left) m (x ∷ q) u m' u' e =
      by (ltb (x.held + 1) (get_or m x.offset 0)) (follow room m q t.sum t.way) e (λ m₁ q₁ u₁ g. walk_found room left m₁ q₁ u₁ m' u' g)
    where
      t : Tread
      t = made_at rule x

      by : (s : Bool) (o : Outcome)
          → cond s (walk_from rule room left m q u) (ended o (λ m₁ q₁. walk_from rule room left m₁ q₁ (used x.offset t u))) ≡ walked m' u'
          → ((m₁ : List ℕ) (q₁ : List Entry) (u₁ : Usage) → walk_from rule room left m₁ q₁ u₁ ≡ walked m' u' → u' ≡ found_from u₁ (treads_from rule room left m₁ q₁))
          → u' ≡ found_from u (cond s (treads_from rule room left m q) (x ∷ onward o (λ m₁ q₁. treads_from rule room left m₁ q₁)))
      by true o g rest = rest m q u g
      by false astray g rest = let z : ◌≡◌ {A = ℕ} 0 1 = cc in absurd (omega arith)
      by false full g rest = let z : ◌≡◌ {A = ℕ} 0 1 = cc in absurd (omega arith)
      by false (go m₁ q₁) g rest = rest m₁ q₁ (used x.offset t u) g

  -- the weight is no smaller than before, and than each sum
  found_grows : (u : Usage) (trodden : List Entry) → u.weight ≤ (found_from u trodden).weight
  unfolding found_from
  found_grows u [] = omega arith
  found_grows u (e ∷ trodden) = omega (arith, (weighs e.offset (made_at rule e) u).0, found_grows (used e.offset (made_at rule e) u) trodden)

  pub found_largest : (u : Usage) (trodden : List Entry) (e : Entry) → Among e trodden → (made_at rule e).sum ≤ (found_from u trodden).weight
  unfolding found_from
  found_largest u [] e i = absurd i
  found_largest u (x ∷ trodden) e i =
      ⊎_elim (λ s. rw (← s) (omega (arith, (weighs x.offset (made_at rule x) u).1, found_grows (used x.offset (made_at rule x) u) trodden)))
      (λ i. found_largest (used x.offset (made_at rule x) u) trodden e i) i

  -- either nothing was larger, or there is a first place
  pub found_first : (u : Usage) (trodden : List Entry)
      → (((found_from u trodden).weight ≡ u.weight) × ((found_from u trodden).peak ≡ u.peak)) ⊎ (First rule trodden (found_from u trodden).weight (found_from u trodden).peak × (u.weight < (found_from u trodden).weight))
  unfolding found_from
  found_first u [] = inl (refl, refl)
  found_first u (e ∷ trodden) = by (found_from u₁ trodden) (found_first u₁ trodden)
    where
      u₁ : Usage
      u₁ = used e.offset (made_at rule e) u

      by : (f : Usage) → ((f.weight ≡ u₁.weight) × (f.peak ≡ u₁.peak)) ⊎ (First rule trodden f.weight f.peak × (u₁.weight < f.weight))
          → ((f.weight ≡ u.weight) × (f.peak ≡ u.peak)) ⊎ (First rule (e ∷ trodden) f.weight f.peak × (u.weight < f.weight))
      by f (inl s) = at (ltb u.weight (made_at rule e).sum) refl
        where
          at : (b : Bool) → ltb u.weight (made_at rule e).sum ≡ b
              → ((f.weight ≡ u.weight) × (f.peak ≡ u.peak)) ⊎ (First rule (e ∷ trodden) f.weight f.peak × (u.weight < f.weight))
          at true h =
              let l : u.weight < (made_at rule e).sum = ltb-true _ _ h in
              let w : f.weight ≡ (made_at rule e).sum = s.0 ∙ weight_larger e.offset (made_at rule e) u l in
              let p : f.peak ≡ e.offset = s.1 ∙ peak_larger e.offset (made_at rule e) u l in
              inr (record { before = []; at = e; after = trodden; splits = refl; made = sym w; there = sym p; less = λ x i. absurd i }, omega arith)
          at false h =
              let l : (made_at rule e).sum ≤ u.weight = ltb-false _ _ h in
              inl (s.0 ∙ weight_other e.offset (made_at rule e) u l, s.1 ∙ peak_other e.offset (made_at rule e) u l)
      by f (inr s) = inr (
        record {
          before = e ∷ s.0.before;
          at = s.0.at;
          after = s.0.after;
          splits = ap (λ (l : List Entry). e ∷ l) s.0.splits;
          made = s.0.made;
          there = s.0.there;
          less = λ x i. ⊎_elim (λ r. rw (← r) (omega (arith, (weighs e.offset (made_at rule e) u).1, s.1))) (λ r. s.0.less x r) i;
        },
        omega (arith, (weighs e.offset (made_at rule e) u).0, s.1),
      )

  pub found_callees : (u : Usage) (trodden : List Entry) → (found_from u trodden).callees ≡ met_from rule u.callees trodden
  unfolding found_from met_from
  found_callees u [] = refl
  found_callees u (e ∷ trodden) = found_callees (used e.offset (made_at rule e) u) trodden ∙ rw (used_callees e.offset (made_at rule e) u)

  module _ (room pool n : ℕ) (numbers : List ℕ) (u : Usage) (ends : walk_of rule room pool n ≡ walked numbers u) where
    pub found_is : u ≡ found_from unused (treads_of rule room pool n)
    unfolding treads_of
    found_is = walk_found room (turns_of n pool) (begun n) (entry 0 0 ∷ []) unused numbers u (walk_begun rule room pool n ∙ ends)

    pub weight_largest : (e : Entry) → Among e (treads_of rule room pool n) → (made_at rule e).sum ≤ u.weight
    weight_largest e i = rw found_is (found_largest unused (treads_of rule room pool n) e i)

    pub peak_first : ((u.weight ≡ 0) × (u.peak ≡ 0)) ⊎ First rule (treads_of rule room pool n) u.weight u.peak
    peak_first = rw found_is (⊎_elim (λ z. inl z) (λ f. inr f.0) (found_first unused (treads_of rule room pool n)))

    pub callees_met : Met rule (treads_of rule room pool n) u.callees
    callees_met = rw (found_is, found_callees unused (treads_of rule room pool n)) (met_is rule (treads_of rule room pool n))
