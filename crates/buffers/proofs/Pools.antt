-- Where the weight is within the pool, it is above the paths at any other pool too: so it is above every path, also past the place where the pool would
-- end it. What is summed and opened does not depend on the pool, and a way that goes on at another pool goes on at this one, where the sum is within
-- it; so by induction each path at another pool is a path at this one.
-- Assumes nothing.
use mathlib.Core.Path.{◌≡◌, refl}
use mathlib.Core.Bool.{Bool, true, false, cond}
use mathlib.Core.List.{List}
use Prim.Native.Nat.{ℕ, ◌≤◌}
use native.Mathlib.Omega.{arith}
use lib.Dec.{ltb}
use lib.ListN.{length, get_or}
use Rattle.buffers.specs.declared.Way.{Way}
use Rattle.buffers.specs.declared.Way.TheVariants.{Ends}
use Rattle.buffers.specs.declared.Tread.{Tread}
use Rattle.buffers.specs.Tread.{Temps, Opens, bounded, treads, acting, tread_of}
use Rattle.buffers.specs.Walk.{Usage}
use Rattle.buffers.specs.Meaning.{Next, Dominates}
use Rattle.buffers.specs.Trodden.{Comes, start, step}
use Rattle.buffers.proofs.Cases.{bounded_within, tread_grows}
use Rattle.buffers.proofs.Paths.{paths_light}

next_bounded : (pool other sum : ℕ) (way : Way) → sum ≤ pool → (to : ℕ) → Next (bounded other sum way) to → Next (bounded pool sum way) to
unfolding bounded
next_bounded pool other sum way l to h = rw (bounded_within pool sum way l) (by (ltb other sum) h)
  where
    by : (b : Bool) → Next (cond b Ends way) to → Next way to
    by true g = absurd g
    by false g = g

module _ (temps : Temps) (opens : Opens) (marks body : List ℕ) (pool other : ℕ) where
  pub tread_pools : (offset held : ℕ)
      → ((tread_of temps opens marks body other offset held).sum ≡ (tread_of temps opens marks body pool offset held).sum)
      × (((tread_of temps opens marks body other offset held).opens ≡ (tread_of temps opens marks body pool offset held).opens)
      × ((tread_of temps opens marks body pool offset held).sum ≤ pool → (to : ℕ) → Next (tread_of temps opens marks body other offset held).way to → Next (tread_of temps opens marks body pool offset held).way to))
  unfolding tread_of acting
  tread_pools offset held = by (ltb offset (length body))
    where
      at : Bool → ℕ → Tread
      at b p = cond b (acting temps opens marks body p offset held (get_or body offset 0) (get_or marks offset 0)) (treads held 0 Ends)

      by : (b : Bool) → ((at b other).sum ≡ (at b pool).sum) × (((at b other).opens ≡ (at b pool).opens) × ((at b pool).sum ≤ pool → (to : ℕ) → Next (at b other).way to → Next (at b pool).way to))
      by true = (refl, (refl, λ l to h. next_bounded pool other _ _ l to h))
      by false = (refl, (refl, λ l to h. h))

  module _ (numbers : List ℕ) (u : Usage) (dominates : Dominates (tread_of temps opens marks body pool) numbers u) (light : u.weight ≤ pool) where
    pub pool_free : (offset held : ℕ) → Comes (tread_of temps opens marks body other) offset held → Comes (tread_of temps opens marks body pool) offset held
    pool_free _ _ start = start
    pool_free _ _ (step {offset} {held} {to} c h) =
        let i = pool_free offset held c in
        let t = tread_pools offset held in
        let l = paths_light (tread_of temps opens marks body pool) pool (λ o a m k. tread_grows temps opens marks body pool o a m k) numbers u dominates light offset held i in
        rw t.0 (step i (t.1.1 (omega arith) to h))
