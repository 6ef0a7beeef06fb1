-- The places that a walk treads are places where a path through successors comes: what joins the queue is a successor, with the sum made before it.
-- So the weight is made on a path, within one of the pool where an instruction adds at most one, and 22 means a path to an illegal target. And where
-- the weight is within the pool, the numbers are above every path, if what an instruction leaves grows with what it finds: by induction on the path,
-- since the numbers dominate. The walk is then exact: its weight is the largest sum of all paths.
-- Assumes nothing.
use mathlib.Core.Path.{◌≡◌, refl, sym, ◌∙◌}
use mathlib.Core.Bool.{Bool, true, false, cond}
use mathlib.Core.List.{List, [], ◌∷◌, ◌++◌}
use mathlib.Core.Logic.{◌⊎◌, inl, inr, ⊎_elim}
use Prim.Native.Nat.{ℕ, zero, suc, ◌+◌, ◌≤◌, ◌<◌}
use native.Mathlib.Omega.{arith}
use lib.ListN.{length, get_or, set}
use lib.Dec.{ltb}
use Rattle.buffers.specs.declared.Way.{Way}
use Rattle.buffers.specs.declared.Way.TheVariants.{Ends, Astray, Goes, Forks}
use Rattle.buffers.specs.declared.Tread.{Tread}
use Rattle.buffers.specs.Tread.{Leads, Bounded}
use Rattle.buffers.specs.Walk.{Entry, entry, Outcome, astray, full, go, then, raise, follow, Usage, used, unused, undecodable, walked, ended, walk_from, begun, turns_of, walk_of}
use Rattle.buffers.specs.Meaning.{Among, Next, Dominates, Grows}
use Rattle.buffers.specs.Trodden.{made_at, onward, treads_from, treads_of, First, Comes, start, step}
use Rattle.buffers.proofs.Queue.{walk_begun}
use Rattle.buffers.proofs.Trodden.{peak_first}

among_end : (x t : Entry) (q : List Entry) → Among x (q ++ (t ∷ [])) → Among x q ⊎ (t ≡ x)
among_end x t [] h = ⊎_elim (λ e. inr e) (λ n. absurd n) h
among_end x t (y ∷ q) h = ⊎_elim (λ e. inl (inl e)) (λ g. ⊎_elim (λ i. inl (inr i)) (λ e. inr e) (among_end x t q g)) h

pub among_middle : (b : List Entry) (x : Entry) (a : List Entry) → Among x (b ++ (x ∷ a))
among_middle [] x a = inl refl
among_middle (y ∷ b) x a = inr (among_middle b x a)

-- what joins the queue is a successor with the sum
raise_adds : (room : ℕ) (m : List ℕ) (q : List Entry) (sum to : ℕ) (m' : List ℕ) (q' : List Entry) → raise room m q sum to ≡ go m' q'
    → (e : Entry) → Among e q' → Among e q ⊎ (entry to sum ≡ e)
unfolding raise
raise_adds room m q sum to m' q' h e i = by (ltb (get_or m to 0) (sum + 1)) (ltb (length q) room) h
  where
    by : (t r : Bool) → cond t (cond r (go (set m to (sum + 1)) (q ++ (entry to sum ∷ []))) full) (go m q) ≡ go m' q' → Among e q ⊎ (entry to sum ≡ e)
    by true true g = let b : q' ≡ q ++ (entry to sum ∷ []) = cc in among_end e (entry to sum) q (rw b at i)
    by true false g = let z : ◌≡◌ {A = ℕ} 0 1 = cc in absurd (omega arith)
    by false r g = let b : q' ≡ q = cc in inl (rw b at i)

follow_adds : (room : ℕ) (m : List ℕ) (q : List Entry) (sum : ℕ) (way : Way) (m' : List ℕ) (q' : List Entry) → follow room m q sum way ≡ go m' q'
    → (e : Entry) → Among e q' → Among e q ⊎ ((to : ℕ) × Next way to × (entry to sum ≡ e))
unfolding follow
follow_adds room m q sum Ends m' q' h e i = let b : q' ≡ q = cc in inl (rw b at i)
follow_adds room m q sum Astray m' q' h e i = let z : ◌≡◌ {A = ℕ} 0 1 = cc in absurd (omega arith)
follow_adds room m q sum (Goes to) m' q' h e i = ⊎_elim (λ j. inl j) (λ j. inr (to, refl, j)) (raise_adds room m q sum to m' q' h e i)
follow_adds room m q sum (Forks to next) m' q' h e i = by (raise room m q sum to) refl h
  where
    by : (o : Outcome) → raise room m q sum to ≡ o → then o (λ m₁ q₁. raise room m₁ q₁ sum next) ≡ go m' q'
        → Among e q ⊎ ((s : ℕ) × ((to ≡ s) ⊎ (next ≡ s)) × (entry s sum ≡ e))
    by astray k g = let z : ◌≡◌ {A = ℕ} 0 1 = cc in absurd (omega arith)
    by full k g = let z : ◌≡◌ {A = ℕ} 0 1 = cc in absurd (omega arith)
    by (go m₁ q₁) k g =
        ⊎_elim (λ j. ⊎_elim (λ l. inl l) (λ l. inr (to, inl refl, l)) (raise_adds room m q sum to m₁ q₁ k e j)) (λ j. inr (next, inr refl, j)) (raise_adds room m₁ q₁ sum next m' q' g e i)

-- 22 only at an illegal target
raise_not : (room : ℕ) (m : List ℕ) (q : List Entry) (sum to : ℕ) → raise room m q sum to ≡ astray → ⊥
unfolding raise
raise_not room m q sum to h = by (ltb (get_or m to 0) (sum + 1)) (ltb (length q) room) h
  where
    by : (t r : Bool) → cond t (cond r (go (set m to (sum + 1)) (q ++ (entry to sum ∷ []))) full) (go m q) ≡ astray → ⊥
    by true true g = let z : ◌≡◌ {A = ℕ} 0 1 = cc in omega arith
    by true false g = let z : ◌≡◌ {A = ℕ} 0 1 = cc in omega arith
    by false r g = let z : ◌≡◌ {A = ℕ} 0 1 = cc in omega arith

follow_not : (room : ℕ) (m : List ℕ) (q : List Entry) (sum : ℕ) (way : Way) → follow room m q sum way ≡ astray → way ≡ Astray
unfolding follow
follow_not room m q sum Ends h = let z : ◌≡◌ {A = ℕ} 0 1 = cc in absurd (omega arith)
follow_not room m q sum Astray h = refl
follow_not room m q sum (Goes to) h = absurd (raise_not room m q sum to h)
follow_not room m q sum (Forks to next) h = by (raise room m q sum to) refl h
  where
    by : (o : Outcome) → raise room m q sum to ≡ o → then o (λ m₁ q₁. raise room m₁ q₁ sum next) ≡ astray → Forks to next ≡ Astray
    by astray k g = absurd (raise_not room m q sum to k)
    by full k g = let z : ◌≡◌ {A = ℕ} 0 1 = cc in absurd (omega arith)
    by (go m₁ q₁) k g = absurd (raise_not room m₁ q₁ sum next g)

module _ (rule : ℕ → ℕ → Tread) (room : ℕ) where
  -- a path comes to each that waits
  abbrev Reached : List Entry → Type 0
  Reached q = (e : Entry) → Among e q → Comes rule e.offset e.held

  -- and so after a turn
  reached_more : (m : List ℕ) (x : Entry) (q : List Entry) (m₁ : List ℕ) (q₁ : List Entry) → Reached (x ∷ q) → follow room m q (made_at rule x).sum (made_at rule x).way ≡ go m₁ q₁ → Reached q₁
  reached_more m x q m₁ q₁ r p e i =
      ⊎_elim (λ j. r e (inr j)) (λ w. rw (← w.2) (step (r x (inl refl)) w.1)) (follow_adds room m q (made_at rule x).sum (made_at rule x).way m₁ q₁ p e i)

  treads_reached : (left : ℕ) (m : List ℕ) (q : List Entry) → Reached q → Reached (treads_from rule room left m q)
  unfolding treads_from
  treads_reached zero m q r e i = absurd i
  treads_reached (suc left) m [] r e i = absurd i
  treads_reached (suc left) m (x ∷ q) r e i = by (ltb (x.held + 1) (get_or m x.offset 0)) (follow room m q (made_at rule x).sum (made_at rule x).way) refl i (λ m₁ q₁ r₁ j. treads_reached left m₁ q₁ r₁ e j)
    where
      by : (s : Bool) (o : Outcome) → follow room m q (made_at rule x).sum (made_at rule x).way ≡ o
          → Among e (cond s (treads_from rule room left m q) (x ∷ onward o (λ m₁ q₁. treads_from rule room left m₁ q₁)))
          → ((m₁ : List ℕ) (q₁ : List Entry) → Reached q₁ → Among e (treads_from rule room left m₁ q₁) → Comes rule e.offset e.held)
          → Comes rule e.offset e.held
      by true o p j rest = rest m q (λ y l. r y (inr l)) j
      by false astray p j rest = ⊎_elim (λ s. r e (inl s)) (λ n. absurd n) j
      by false full p j rest = ⊎_elim (λ s. r e (inl s)) (λ n. absurd n) j
      by false (go m₁ q₁) p j rest = ⊎_elim (λ s. r e (inl s)) (λ l. rest m₁ q₁ (reached_more m x q m₁ q₁ r p) l) j

  -- 22 comes of a path to an illegal target
  abbrev Strays : Type 0
  Strays = (offset : ℕ) × (held : ℕ) × Comes rule offset held × ((rule offset held).way ≡ Astray)

  walk_strays : (left : ℕ) (m : List ℕ) (q : List Entry) (u : Usage) → Reached q → walk_from rule room left m q u ≡ undecodable → Strays
  unfolding walk_from
  walk_strays zero m q u r e = let z : ◌≡◌ {A = ℕ} 0 1 = cc in absurd (omega arith)
  walk_strays (suc left) m [] u r e = let z : ◌≡◌ {A = ℕ} 0 1 = cc in absurd (omega arith)
  walk_strays (suc left) m (x ∷ q) u r e = by (ltb (x.held + 1) (get_or m x.offset 0)) (follow room m q t.sum t.way) refl e (λ m₁ q₁ u₁ r₁ g. walk_strays left m₁ q₁ u₁ r₁ g)
    where
      t : Tread
      t = made_at rule x

      by : (s : Bool) (o : Outcome) → follow room m q t.sum t.way ≡ o
          → cond s (walk_from rule room left m q u) (ended o (λ m₁ q₁. walk_from rule room left m₁ q₁ (used x.offset t u))) ≡ undecodable
          → ((m₁ : List ℕ) (q₁ : List Entry) (u₁ : Usage) → Reached q₁ → walk_from rule room left m₁ q₁ u₁ ≡ undecodable → Strays)
          → Strays
      by true o p g rest = rest m q u (λ y l. r y (inr l)) g
      by false astray p g rest = (x.offset, x.held, r x (inl refl), follow_not room m q t.sum t.way p)
      by false full p g rest = let z : ◌≡◌ {A = ℕ} 0 1 = cc in absurd (omega arith)
      by false (go m₁ q₁) p g rest = rest m₁ q₁ (used x.offset t u) (reached_more m x q m₁ q₁ r p) g

  begins : Reached (entry 0 0 ∷ [])
  begins e i = ⊎_elim (λ s. rw (← s) start) (λ n. absurd n) i

  pub undecodable_strays : (pool n : ℕ) → walk_of rule room pool n ≡ undecodable → Strays
  undecodable_strays pool n e = walk_strays (turns_of n pool) (begun n) (entry 0 0 ∷ []) unused begins (walk_begun rule room pool n ∙ e)

  pub trodden_come : (pool n : ℕ) (e : Entry) → Among e (treads_of rule room pool n) → Comes rule e.offset e.held
  unfolding treads_of
  trodden_come pool n e i = treads_reached (turns_of n pool) (begun n) (entry 0 0 ∷ []) begins e i

  module _ (pool n : ℕ) (numbers : List ℕ) (u : Usage) (ends : walk_of rule room pool n ≡ walked numbers u) where
    -- the weight is made on a path, at the peak offset
    pub weight_made : ((u.weight ≡ 0) × (u.peak ≡ 0)) ⊎ ((held : ℕ) × Comes rule u.peak held × ((rule u.peak held).sum ≡ u.weight))
    weight_made = by (peak_first rule room pool n numbers u ends)
      where
        by : ((u.weight ≡ 0) × (u.peak ≡ 0)) ⊎ First rule (treads_of rule room pool n) u.weight u.peak
            → ((u.weight ≡ 0) × (u.peak ≡ 0)) ⊎ ((held : ℕ) × Comes rule u.peak held × ((rule u.peak held).sum ≡ u.weight))
        by (inl z) = inl z
        by (inr f) =
            let i : Among f.at (treads_of rule room pool n) = rw f.splits (among_middle f.before f.at f.after) in
            let c : Comes rule u.peak f.at.held = rw f.there at (trodden_come pool n f.at i) in
            let m : (rule u.peak f.at.held).sum ≡ u.weight = rw f.there at f.made in
            inr (f.at.held, c, m)

    -- and passes the pool by at most one
    pub weight_small : ((offset held : ℕ) → Bounded n pool (rule offset held)) → ((offset held : ℕ) → (rule offset held).sum ≤ held + 1) → u.weight ≤ pool + 1
    weight_small bounded small = by weight_made
      where
        leads : (way : Way) (sum to : ℕ) → Leads n pool sum way → Next way to → sum ≤ pool
        leads Ends sum to b h = absurd h
        leads Astray sum to b h = absurd h
        leads (Goes s) sum to b h = b.1
        leads (Forks s next) sum to b h = b.1.1

        within : (offset held : ℕ) → Comes rule offset held → held ≤ pool
        within _ _ start = omega arith
        within _ _ (step {offset} {held} {to} c h) = leads (rule offset held).way (rule offset held).sum to (bounded offset held) h

        by : ((u.weight ≡ 0) × (u.peak ≡ 0)) ⊎ ((held : ℕ) × Comes rule u.peak held × ((rule u.peak held).sum ≡ u.weight)) → u.weight ≤ pool + 1
        by (inl z) = omega (arith, z.0)
        by (inr m) = omega (arith, m.2, small u.peak m.0, within u.peak m.0 m.1)

-- Where the weight is within the pool, the numbers are above every path.
module _ (rule : ℕ → ℕ → Tread) (pool : ℕ) (grows : Grows rule pool) (numbers : List ℕ) (u : Usage) (dominates : Dominates rule numbers u) (light : u.weight ≤ pool) where
  abbrev Above : ℕ → ℕ → Type 0
  Above offset held = (more : ℕ) × (get_or numbers offset 0 ≡ suc more) × (held ≤ more)

  positive : (x held : ℕ) → held < x → (more : ℕ) × (x ≡ suc more) × (held ≤ more)
  positive zero held l = absurd (omega arith)
  positive (suc x) held l = (x, refl, omega arith)

  pub above : (offset held : ℕ) → Comes rule offset held → Above offset held
  above _ _ start = positive (get_or numbers 0 0) 0 dominates.first
  above _ _ (step {offset} {held} {to} c h) =
      let a = above offset held c in
      let g = grows offset held a.0 a.2 in
      let s = dominates.sums offset a.0 a.1 in
      let n : Next (rule offset a.0).way to = rw (g.1.1 (omega arith)) at h in
      positive (get_or numbers to 0) (rule offset held).sum (omega (arith, g.0, dominates.onward offset a.0 to a.1 n))

  pub paths_light : (offset held : ℕ) → Comes rule offset held → (rule offset held).sum ≤ u.weight
  paths_light offset held c =
      let a = above offset held c in
      omega (arith, (grows offset held a.0 a.2).0, dominates.sums offset a.0 a.1)

  pub paths_straight : (offset held : ℕ) → Comes rule offset held → (rule offset held).way ≡ Astray → ⊥
  paths_straight offset held c e =
      let a = above offset held c in
      let g = grows offset held a.0 a.2 in
      let s = dominates.sums offset a.0 a.1 in
      dominates.straight offset a.0 a.1 (sym (g.1.1 (omega arith)) ∙ e)

  pub paths_call : (offset held : ℕ) → Comes rule offset held → ((rule offset held).opens ≡ 0 → ⊥) → Among (rule offset held).opens u.callees
  paths_call offset held c n =
      let a = above offset held c in
      let g = grows offset held a.0 a.2 in
      rw g.1.0 (dominates.calls offset a.0 a.1 (λ z. n (g.1.0 ∙ z)))
