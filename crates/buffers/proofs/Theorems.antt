-- What the walk of a body means, at 01's rules of the temp buffers (Tread.antt) and for any pool and queue, where each mark fits the body. Numbers that
-- dominate, callees and successors are Meaning.antt's; the places trodden and paths are Trodden.antt's. A path ends where its sum passes the pool.
-- Each is a law over any rules, taken at 01's. Assumes nothing.
--     tread_grows            what an instruction leaves grows with what it finds; it opens the same, and within the pool it goes the same way
--     turns_suffice          the walk always ends: it has more turns than it takes
--     dominates              each offset that has a number was walked with it: its sum is at most the weight, its successors have no less than the sum,
--                            its target is legal, and what it opens is among the callees
--     weight_largest         the weight is at least every sum that was made
--     peak_first             the peak offset is the first place where the weight was made; both are 0 where no sum is above 0
--     callees_met            the callees are the cells opened at the places trodden, in first-met order, each once
--     weight_small           the weight is at most the pool and 1
--     within_pool            the weight is within the pool exactly if the sums of all paths are
--     pool_free              each path at any other pool is then a path at this one, so that none was missed for being ended at the pool
--     weight_exact           and the weight is then the largest sum of all paths, at any pool
--     callees_exact          and the callees are then exactly the cells opened on paths
--     crowded_exact          23 is answered exactly if a walk with a queue of any length would hold more entries at once than there is room for
--     undecodable_strays     22 is answered only if a path comes to an illegal target
--     walked_straight        and no path does, where a walk of a weight within the pool ended:
--     branches_legal         then every branch on a path has a legal target
use Rattle.std.specs.Prelude.{Ok}
use mathlib.Core.Path.{◌≡◌}
use mathlib.Core.List.{List}
use mathlib.Core.Logic.{◌⊎◌, inl, inr, ◌↔◌}
use Prim.Native.Nat.{ℕ, ◌+◌, ◌≤◌, ◌<◌}
use native.Mathlib.Omega.{arith}
use lib.ListN.{length, get_or}
use Rattle.flow.specs.declared.Flow.TheVariants.{Jump, Branch}
use Rattle.flow.specs.Decode.{operands_at, flow_of, moved, target_of}
use Rattle.buffers.specs.declared.Way.TheVariants.{Astray}
use Rattle.buffers.specs.declared.Tread.{Tread}
use Rattle.buffers.specs.Tread.{Temps, Opens, tread_of, Bounded}
use Rattle.buffers.specs.Walk.{Entry, Usage, undecodable, crowded, unfinished, walked, walk_of}
use Rattle.buffers.specs.Meaning.{Among, Dominates, Grows}
use Rattle.buffers.specs.Trodden.{made_at, treads_of, First, Met, Comes}
use Rattle.buffers.specs.Longest.{longest_of}
use Rattle.buffers.proofs.Cases
use Rattle.buffers.proofs.Turns
use Rattle.buffers.proofs.Dominates as Dominating
use Rattle.buffers.proofs.Trodden
use Rattle.buffers.proofs.Paths
use Rattle.buffers.proofs.Crowded
use Rattle.buffers.proofs.Pools
use Rattle.buffers.proofs.Legal as Legality

module _ (temps : Temps) (opens : Opens) (marks body : List ℕ) (pool : ℕ) where
  -- 01's rules
  abbrev ruled : ℕ → ℕ → Tread
  ruled offset held = tread_of temps opens marks body pool offset held

  pub tread_grows : Grows (tread_of temps opens marks body pool) pool
  tread_grows offset held more h = Cases.tread_grows temps opens marks body pool offset held more h

  module _ (room : ℕ) (fits : (offset : ℕ) → offset < length body → offset + get_or marks offset 0 ≤ length body) where
    leads : (offset held : ℕ) → Bounded (length body + 1) pool (ruled offset held)
    leads = Cases.tread_bounded temps opens marks body pool fits

    pub turns_suffice : walk_of ruled room pool (length body + 1) ≡ unfinished → ⊥
    turns_suffice = Turns.turns_suffice ruled room pool (length body + 1) leads (omega arith)

    pub crowded_exact : 0 < room → (walk_of ruled room pool (length body + 1) ≡ crowded) ↔ (room < longest_of ruled pool (length body + 1))
    crowded_exact = Crowded.crowded_exactly ruled room pool (length body + 1)

    pub undecodable_strays : walk_of ruled room pool (length body + 1) ≡ undecodable → (offset : ℕ) × (held : ℕ) × Comes ruled offset held × ((ruled offset held).way ≡ Astray)
    undecodable_strays e = Paths.undecodable_strays ruled room pool (length body + 1) e

    module _ (numbers : List ℕ) (u : Usage) (ends : walk_of ruled room pool (length body + 1) ≡ walked numbers u) where
      pub dominates : Dominates ruled numbers u
      dominates = Dominating.dominates ruled room pool (length body + 1) leads numbers u (omega arith) ends

      pub weight_largest : (e : Entry) → Among e (treads_of ruled room pool (length body + 1)) → (made_at ruled e).sum ≤ u.weight
      weight_largest = Trodden.weight_largest ruled room pool (length body + 1) numbers u ends

      pub peak_first : ((u.weight ≡ 0) × (u.peak ≡ 0)) ⊎ First ruled (treads_of ruled room pool (length body + 1)) u.weight u.peak
      peak_first = Trodden.peak_first ruled room pool (length body + 1) numbers u ends

      pub callees_met : Met ruled (treads_of ruled room pool (length body + 1)) u.callees
      callees_met = Trodden.callees_met ruled room pool (length body + 1) numbers u ends

      pub weight_small : u.weight ≤ pool + 1
      weight_small = Paths.weight_small ruled room pool (length body + 1) numbers u ends leads (λ offset held. Cases.tread_sum temps opens marks body pool offset held)

      made : ((u.weight ≡ 0) × (u.peak ≡ 0)) ⊎ ((held : ℕ) × Comes ruled u.peak held × ((ruled u.peak held).sum ≡ u.weight))
      made = Paths.weight_made ruled room pool (length body + 1) numbers u ends

      pub within_pool : (u.weight ≤ pool) ↔ ((offset held : ℕ) → Comes ruled offset held → (ruled offset held).sum ≤ pool)
      within_pool = (
        λ light offset held c. omega (arith, Paths.paths_light ruled pool tread_grows numbers u dominates light offset held c),
        λ all. by all made,
      )
        where
          by : ((offset held : ℕ) → Comes ruled offset held → (ruled offset held).sum ≤ pool)
              → ((u.weight ≡ 0) × (u.peak ≡ 0)) ⊎ ((held : ℕ) × Comes ruled u.peak held × ((ruled u.peak held).sum ≡ u.weight)) → u.weight ≤ pool
          by all (inl z) = omega (arith, z.0)
          by all (inr m) = omega (arith, m.2, all u.peak m.0 m.1)

      module _ (light : u.weight ≤ pool) where
        pub pool_free : (other offset held : ℕ) → Comes (tread_of temps opens marks body other) offset held → Comes ruled offset held
        pool_free other = Pools.pool_free temps opens marks body pool other numbers u dominates light

        pub weight_exact : ((other offset held : ℕ) → Comes (tread_of temps opens marks body other) offset held → (tread_of temps opens marks body other offset held).sum ≤ u.weight)
            × (((u.weight ≡ 0) × (u.peak ≡ 0)) ⊎ ((held : ℕ) × Comes ruled u.peak held × ((ruled u.peak held).sum ≡ u.weight)))
        weight_exact = (
          λ other offset held c. omega (
            arith,
            (Pools.tread_pools temps opens marks body pool other offset held).0,
            Paths.paths_light ruled pool tread_grows numbers u dominates light offset held (pool_free other offset held c),
          ),
          made,
        )

        pub callees_exact : (cell : ℕ) → Among cell u.callees ↔ ((cell ≡ 0 → ⊥) × ((offset : ℕ) × (held : ℕ) × Comes ruled offset held × ((ruled offset held).opens ≡ cell)))
        callees_exact cell = (λ i. out ((callees_met.exactly cell).0 i), λ o. back o.0 o.1)
          where
            out : (cell ≡ 0 → ⊥) × ((e : Entry) × Among e (treads_of ruled room pool (length body + 1)) × ((made_at ruled e).opens ≡ cell))
                → (cell ≡ 0 → ⊥) × ((offset : ℕ) × (held : ℕ) × Comes ruled offset held × ((ruled offset held).opens ≡ cell))
            out o = (o.0, (o.1.0.offset, o.1.0.held, Paths.trodden_come ruled room pool (length body + 1) o.1.0 o.1.1, o.1.2))

            back : (cell ≡ 0 → ⊥) → (offset : ℕ) × (held : ℕ) × Comes ruled offset held × ((ruled offset held).opens ≡ cell) → Among cell u.callees
            back n o = rw o.3 at (Paths.paths_call ruled pool tread_grows numbers u dominates light o.0 o.1 o.2 (rw o.3 n))

        pub walked_straight : (offset held : ℕ) → Comes ruled offset held → (ruled offset held).way ≡ Astray → ⊥
        walked_straight = Paths.paths_straight ruled pool tread_grows numbers u dominates light

        pub branches_legal : (offset held : ℕ) → Comes ruled offset held → offset < length body → (word : ℕ)
            → (flow_of (get_or body offset 0) (operands_at body offset (get_or marks offset 0)) ≡ Jump word) ⊎ (flow_of (get_or body offset 0) (operands_at body offset (get_or marks offset 0)) ≡ Branch word)
            → (to : ℕ) × (target_of marks (length body) (moved (offset + get_or marks offset 0) word) ≡ Ok to)
        branches_legal = Legality.branches_legal temps opens marks body pool numbers u dominates light
