-- The numbers of a walk that ended dominate. Each offset that has a number waits with it, or was trodden with it: then its sum is at most the weight,
-- its successors have no less, and its callee is noted. A raise puts the offset into the queue, and a turn that goes on treads what it takes from there
-- unless a larger number waits; so when nothing waits, every offset that has a number was trodden with it.
-- Assumes nothing.
use mathlib.Core.Path.{◌≡◌, refl, sym, ap, ◌∙◌}
use mathlib.Core.Bool.{Bool, true, false, cond}
use mathlib.Core.List.{List, [], ◌∷◌, ◌++◌}
use mathlib.Core.Logic.{◌⊎◌, inl, inr, ⊎_elim}
use Prim.Native.Nat.{ℕ, zero, suc, ◌+◌, ◌≤◌, ◌<◌}
use native.Mathlib.Decide.{ℕ_discrete}
use native.Mathlib.Omega.{arith}
use lib.ListN.{length, get_or, set, length-set}
use lib.Seq.{get_or-set_same, get_or-set_other}
use lib.Dec.{ltb}
use borrow.Author.Tests.{ltb-true, ltb-false}
use Rattle.buffers.specs.declared.Way.{Way}
use Rattle.buffers.specs.declared.Way.TheVariants.{Ends, Astray, Goes, Forks}
use Rattle.buffers.specs.declared.Tread.{Tread}
use Rattle.buffers.specs.Tread.{Leads, Bounded}
use Rattle.buffers.specs.Walk.{Entry, entry, Outcome, astray, full, go, then, raise, follow, Usage, used, unused, walked, ended, walk_from, begun, turns_of, walk_of}
use Rattle.buffers.specs.Meaning.{Among, Next, Dominates}
use Rattle.buffers.proofs.Queue.{weight_larger, weight_other, used_callees, length_begun, begun_first, begun_other, walk_begun}
use Rattle.buffers.proofs.Noting.{among_front, among_last, among_noted, among_note}

-- the weight grows to the sum
pub weighs : (offset : ℕ) (t : Tread) (u : Usage) → (u.weight ≤ (used offset t u).weight) × (t.sum ≤ (used offset t u).weight)
weighs offset t u = by (ltb u.weight t.sum) refl
  where
    by : (b : Bool) → ltb u.weight t.sum ≡ b → (u.weight ≤ (used offset t u).weight) × (t.sum ≤ (used offset t u).weight)
    by true h = let l : u.weight < t.sum = ltb-true _ _ h in let e = weight_larger offset t u l in (omega arith, omega arith)
    by false h = let l : t.sum ≤ u.weight = ltb-false _ _ h in let e = weight_other offset t u l in (omega arith, omega arith)

-- a successor is an offset
pub next_below : (n x sum : ℕ) (way : Way) → Leads n x sum way → (to : ℕ) → Next way to → to < n
next_below n x sum Ends b to h = absurd h
next_below n x sum Astray b to h = absurd h
next_below n x sum (Goes s) b to h = omega (arith, b.0)
next_below n x sum (Forks s next) b to h = ⊎_elim (λ e. omega (arith, b.0)) (λ e. omega (arith, b.1.0)) h

-- what a raise does: numbers grow, and one that grew waits
pub record Grown (m : List ℕ) (q : List Entry) (m' : List ℕ) (q' : List Entry) : Type 0 where
  pub long : length m' ≡ length m
  pub grew : (i : ℕ) → get_or m i 0 ≤ get_or m' i 0
  pub waits : (i : ℕ) → (get_or m' i 0 ≡ get_or m i 0) ⊎ ((v : ℕ) × (get_or m' i 0 ≡ suc v) × Among (entry i v) q')
  pub kept : (e : Entry) → Among e q → Among e q'

grown_none : (m : List ℕ) (q : List Entry) → Grown m q m q
grown_none m q = record { long = refl; grew = λ i. omega arith; waits = λ i. inl refl; kept = λ e h. h }

grown_more : {m m' m'' : List ℕ} {q q' q'' : List Entry} → Grown m q m' q' → Grown m' q' m'' q'' → Grown m q m'' q''
grown_more a b = record {
  long = b.long ∙ a.long;
  grew = λ i. omega (arith, a.grew i, b.grew i);
  waits = λ i. ⊎_elim (λ e. ⊎_elim (λ g. inl (e ∙ g)) (λ g. inr (g.0, e ∙ g.1, b.kept _ g.2)) (a.waits i)) (λ g. inr g) (b.waits i);
  kept = λ e h. b.kept e (a.kept e h);
}

raise_grows : (room sum : ℕ) (m : List ℕ) (q : List Entry) (to : ℕ) (m' : List ℕ) (q' : List Entry) → to < length m → raise room m q sum to ≡ go m' q'
    → Grown m q m' q' × (sum < get_or m' to 0)
unfolding raise
raise_grows room sum m q to m' q' l e = by (ltb (get_or m to 0) (sum + 1)) refl (ltb (length q) room) e
  where
    stored : (i : ℕ) → ((i ≡ to) × (get_or (set m to (sum + 1)) i 0 ≡ sum + 1)) ⊎ (get_or (set m to (sum + 1)) i 0 ≡ get_or m i 0)
    stored i = at (ℕ_discrete i to)
      where
        at : Dec (i ≡ to) → ((i ≡ to) × (get_or (set m to (sum + 1)) i 0 ≡ sum + 1)) ⊎ (get_or (set m to (sum + 1)) i 0 ≡ get_or m i 0)
        at (yes e) = inl (e, rw e (get_or-set_same m to (sum + 1) 0 l))
        at (no n) = inr (get_or-set_other m to i (sum + 1) 0 n)

    by : (t : Bool) → ltb (get_or m to 0) (sum + 1) ≡ t → (r : Bool) → cond t (cond r (go (set m to (sum + 1)) (q ++ (entry to sum ∷ []))) full) (go m q) ≡ go m' q' → Grown m q m' q' × (sum < get_or m' to 0)
    by true h true g =
        let a : set m to (sum + 1) ≡ m' = cc in
        let b : q ++ (entry to sum ∷ []) ≡ q' = cc in
        let low : get_or m to 0 < sum + 1 = ltb-true _ _ h in
        let at = get_or-set_same m to (sum + 1) 0 l in
        rw (← a, ← b) (
          record {
            long = length-set m to (sum + 1);
            grew = λ i. ⊎_elim (λ w. let z : get_or m i 0 ≡ get_or m to 0 = ap (λ (k : ℕ). get_or m k 0) w.0 in omega arith) (λ w. omega arith) (stored i);
            waits = λ i. ⊎_elim (λ w. inr (sum, omega (arith, w.1), rw w.0 (among_last (entry to sum) q))) (λ w. inl w) (stored i);
            kept = λ x h. among_front x (entry to sum) q h;
          },
          omega arith,
        )
    by true h false g = let z : ◌≡◌ {A = ℕ} 0 1 = cc in absurd (omega arith)
    by false h r g =
        let a : m ≡ m' = cc in
        let b : q ≡ q' = cc in
        let high : sum + 1 ≤ get_or m to 0 = ltb-false _ _ h in
        rw (← a, ← b) (grown_none m q, omega arith)

-- where the walk goes on, no target was illegal, and each successor has at least the sum
pub follow_grows : (room sum : ℕ) (m : List ℕ) (q : List Entry) (way : Way) (m' : List ℕ) (q' : List Entry) → ((to : ℕ) → Next way to → to < length m) → follow room m q sum way ≡ go m' q'
    → Grown m q m' q' × (((to : ℕ) → Next way to → sum < get_or m' to 0) × (way ≡ Astray → ⊥))
unfolding follow
follow_grows room sum m q Ends m' q' l e =
    let a : m ≡ m' = cc in
    let b : q ≡ q' = cc in
    (rw (← a, ← b) (grown_none m q), (λ to h. absurd h, λ h. let z : ◌≡◌ {A = ℕ} 0 1 = cc in omega arith))
follow_grows room sum m q Astray m' q' l e = let z : ◌≡◌ {A = ℕ} 0 1 = cc in absurd (omega arith)
follow_grows room sum m q (Goes s) m' q' l e =
    let g = raise_grows room sum m q s m' q' (l s refl) e in
    (g.0, (λ to h. rw (← h) g.1, λ h. let z : ◌≡◌ {A = ℕ} 0 1 = cc in omega arith))
follow_grows room sum m q (Forks s next) m' q' l e = by (raise room m q sum s) refl e
  where
    by : (o : Outcome) → raise room m q sum s ≡ o → then o (λ m₁ q₁. raise room m₁ q₁ sum next) ≡ go m' q'
        → Grown m q m' q' × (((to : ℕ) → (s ≡ to) ⊎ (next ≡ to) → sum < get_or m' to 0) × (Forks s next ≡ Astray → ⊥))
    by astray h g = let z : ◌≡◌ {A = ℕ} 0 1 = cc in absurd (omega arith)
    by full h g = let z : ◌≡◌ {A = ℕ} 0 1 = cc in absurd (omega arith)
    by (go m₁ q₁) h g =
        let x = raise_grows room sum m q s m₁ q₁ (l s (inl refl)) h in
        let y = raise_grows room sum m₁ q₁ next m' q' (omega (arith, x.0.long, l next (inr refl))) g in (
          grown_more x.0 y.0,
          (λ to w. ⊎_elim (λ r. rw (← r) (omega (arith, x.1, y.0.grew s))) (λ r. rw (← r) y.1) w, λ w. let z : ◌≡◌ {A = ℕ} 0 1 = cc in omega arith),
        )

module _ (rule : ℕ → ℕ → Tread) (room pool n : ℕ) (bounded : (offset held : ℕ) → Bounded n pool (rule offset held)) where
  -- the offset i was trodden with v buffers
  record Trod (m : List ℕ) (u : Usage) (i v : ℕ) : Type 0 where
    summed : (rule i v).sum ≤ u.weight
    onto : (to : ℕ) → Next (rule i v).way to → (rule i v).sum < get_or m to 0
    legal : (rule i v).way ≡ Astray → ⊥
    opened : ((rule i v).opens ≡ 0 → ⊥) → Among (rule i v).opens u.callees

  -- each offset that has a number waits with it, or was trodden with it
  record State (m : List ℕ) (q : List Entry) (u : Usage) : Type 0 where
    wide : length m ≡ n
    start : 0 < get_or m 0 0
    cells : (i v : ℕ) → get_or m i 0 ≡ suc v → Among (entry i v) q ⊎ Trod m u i v

  trod_stays : {m m' : List ℕ} {q q' : List Entry} {i v : ℕ} (offset : ℕ) (t : Tread) (u : Usage) → Grown m q m' q' → Trod m u i v → Trod m' (used offset t u) i v
  trod_stays offset t u g d = record {
    summed = omega (arith, d.summed, (weighs offset t u).0);
    onto = λ to h. omega (arith, d.onto to h, g.grew to);
    legal = d.legal;
    opened = λ c. rw (used_callees offset t u) (among_noted _ t.opens u.callees (d.opened c));
  }

  walk_state : (left : ℕ) (m : List ℕ) (q : List Entry) (u : Usage) (m' : List ℕ) (u' : Usage) → State m q u → walk_from rule room left m q u ≡ walked m' u' → State m' [] u'
  unfolding walk_from
  walk_state zero m q u m' u' i e = let z : ◌≡◌ {A = ℕ} 0 1 = cc in absurd (omega arith)
  walk_state (suc left) m [] u m' u' i e =
      let a : m ≡ m' = cc in
      let b : u ≡ u' = cc in
      rw (← a, ← b) i
  walk_state (suc left) m (x ∷ q) u m' u' i e =
      by (ltb (x.held + 1) (get_or m x.offset 0)) refl (follow room m q t.sum t.way) refl e (λ m₁ q₁ u₁ j g. walk_state left m₁ q₁ u₁ m' u' j g)
    where
      t : Tread
      t = rule x.offset x.held

      by : (s : Bool) → ltb (x.held + 1) (get_or m x.offset 0) ≡ s → (o : Outcome) → follow room m q t.sum t.way ≡ o
          → cond s (walk_from rule room left m q u) (ended o (λ m₁ q₁. walk_from rule room left m₁ q₁ (used x.offset t u))) ≡ walked m' u'
          → ((m₁ : List ℕ) (q₁ : List Entry) (u₁ : Usage) → State m₁ q₁ u₁ → walk_from rule room left m₁ q₁ u₁ ≡ walked m' u' → State m' [] u')
          → State m' [] u'
      by true h o p g rest =
          let high : x.held + 1 < get_or m x.offset 0 = ltb-true _ _ h in
          rest m q u (record {
            wide = i.wide;
            start = i.start;
            cells = λ a v c. ⊎_elim
                (λ w. ⊎_elim (λ r. absurd (let y : get_or m x.offset 0 ≡ get_or m a 0 = ap (λ (z : Entry). get_or m z.offset 0) r in let z : x.held ≡ v = ap (λ (z : Entry). z.held) r in omega arith)) (λ r. inl r) w)
                (λ w. inr w)
                (i.cells a v c);
          }) g
      by false h astray p g rest = let z : ◌≡◌ {A = ℕ} 0 1 = cc in absurd (omega arith)
      by false h full p g rest = let z : ◌≡◌ {A = ℕ} 0 1 = cc in absurd (omega arith)
      by false h (go m₁ q₁) p g rest =
          let f = follow_grows room t.sum m q t.way m₁ q₁ (λ to w. rw i.wide (next_below n pool t.sum t.way (bounded x.offset x.held) to w)) p in
          let here : Trod m₁ (used x.offset t u) x.offset x.held = record {
            summed = (weighs x.offset t u).1;
            onto = f.1.0;
            legal = f.1.1;
            opened = λ c. rw (used_callees x.offset t u) (among_note t.opens u.callees c);
          } in
          rest m₁ q₁ (used x.offset t u) (record {
            wide = f.0.long ∙ i.wide;
            start = omega (arith, f.0.grew 0, i.start);
            cells = λ a v c. ⊎_elim
                (λ same. ⊎_elim
                (λ w. ⊎_elim (λ r. inr (let y : x.offset ≡ a = ap (λ (z : Entry). z.offset) r in let z : x.held ≡ v = ap (λ (z : Entry). z.held) r in rw (← y, ← z) here)) (λ r. inl (f.0.kept (entry a v) r)) w)
                (λ w. inr (trod_stays x.offset t u f.0 w))
                (i.cells a v (sym same ∙ c)))
                (λ w. inl (let z : w.0 ≡ v = omega (arith, w.1) in rw z at w.2))
                (f.0.waits a);
          }) g

  pub dominates : (m : List ℕ) (u : Usage) → 0 < n → walk_of rule room pool n ≡ walked m u → Dominates rule m u
  dominates m u l e =
      let f = walk_state (turns_of n pool) (begun n) (entry 0 0 ∷ []) unused m u
      (record {
        wide = length_begun n;
        start = omega (arith, begun_first n l);
        cells = λ i v c. inl (started i v (ℕ_discrete i 0) c);
      }) (walk_begun rule room pool n ∙ e) in
      let trod : (i v : ℕ) → get_or m i 0 ≡ suc v → Trod m u i v = λ i v c. ⊎_elim (λ r. absurd r) (λ r. r) (f.cells i v c) in
      record {
        first = f.start;
        sums = λ i v c. (trod i v c).summed;
        onward = λ i v to c h. (trod i v c).onto to h;
        straight = λ i v c h. (trod i v c).legal h;
        calls = λ i v c h. (trod i v c).opened h;
      }
    where
      started : (i v : ℕ) → Dec (i ≡ 0) → get_or (begun n) i 0 ≡ suc v → Among (entry i v) (entry 0 0 ∷ [])
      started i v (yes q) c =
          let y : get_or (begun n) i 0 ≡ 1 = rw q (begun_first n l) in
          let z : v ≡ 0 = omega arith in
          inl (rw (q, z) refl)
      started i v (no q) c = absurd (omega (arith, begun_other n i q))
