-- The cells that places open, as they are noted from the first place on: none twice, exactly those that some place opens, and in the order in which
-- they are met. By induction on the places, with the three ways of one cell (Noting.antt).
-- Assumes nothing.
use mathlib.Core.Path.{◌≡◌, refl, sym, ap, ◌∙◌}
use mathlib.Core.List.{List, [], ◌∷◌, ◌++◌}
use mathlib.Core.Logic.{◌⊎◌, inl, inr, ⊎_elim}
use Prim.Native.Nat.{ℕ}
use native.Mathlib.Omega.{arith}
use lib.ListN.{length, length-append}
use Rattle.buffers.specs.declared.Tread.{Tread}
use Rattle.buffers.specs.Walk.{Entry, noted}
use Rattle.buffers.specs.Meaning.{Among, Distinct}
use Rattle.buffers.specs.Trodden.{made_at, met_from, Opened, Met}
use Rattle.buffers.proofs.Noting.{Noting, none, met, new, noting, among_noted, among_note}

-- the last of a list
among_split : (c cell : ℕ) (cells : List ℕ) → Among c (cells ++ (cell ∷ [])) → Among c cells ⊎ (cell ≡ c)
among_split c cell [] h = ⊎_elim (λ e. inr e) (λ n. absurd n) h
among_split c cell (x ∷ cells) h = ⊎_elim (λ e. inl (inl e)) (λ g. ⊎_elim (λ i. inl (inr i)) (λ e. inr e) (among_split c cell cells g)) h

distinct_last : (cell : ℕ) (cells : List ℕ) → Distinct cells → (Among cell cells → ⊥) → Distinct (cells ++ (cell ∷ []))
distinct_last cell [] d n = (λ h. h, tt)
distinct_last cell (c ∷ cells) d n =
    (λ h. ⊎_elim (λ i. d.0 i) (λ e. n (inl (sym e))) (among_split c cell cells h), distinct_last cell cells d.1 (λ i. n (inr i)))

-- a cell of the list with one more is one of the list, or the last
snoc_split : (cells : List ℕ) (o : ℕ) (earlier : List ℕ) (c : ℕ) (later : List ℕ) → cells ++ (o ∷ []) ≡ earlier ++ (c ∷ later)
    → ((rest : List ℕ) × (cells ≡ earlier ++ (c ∷ rest))) ⊎ ((earlier ≡ cells) × (o ≡ c))
snoc_split [] o [] c later e = let z : o ≡ c = cc in inr (refl, z)
snoc_split [] o (x ∷ earlier) c later e =
    let z : [] ≡ earlier ++ (c ∷ later) = cc in
    let l : 0 ≡ length (earlier ++ (c ∷ later)) = ap length z in
    absurd (omega (arith, length-append earlier (c ∷ later)))
snoc_split (y ∷ cells) o [] c later e = let z : y ≡ c = cc in inl (cells, rw z refl)
snoc_split (y ∷ cells) o (x ∷ earlier) c later e =
    let g : cells ++ (o ∷ []) ≡ earlier ++ (c ∷ later) = cc in
    longer (snoc_split cells o earlier c later g)
  where
    longer : ((rest : List ℕ) × (cells ≡ earlier ++ (c ∷ rest))) ⊎ ((earlier ≡ cells) × (o ≡ c))
        → ((rest : List ℕ) × (y ∷ cells ≡ x ∷ earlier ++ (c ∷ rest))) ⊎ ((x ∷ earlier ≡ y ∷ cells) × (o ≡ c))
    longer (inl r) = let z : y ≡ x = cc in inl (r.0, rw z (ap (λ (l : List ℕ). x ∷ l) r.1))
    longer (inr r) = let z : y ≡ x = cc in inr (rw z (ap (λ (l : List ℕ). x ∷ l) r.0), r.1)

distinct_noted : (cell : ℕ) (cells : List ℕ) → Distinct cells → Distinct (noted cell cells)
distinct_noted cell cells d = by (noted cell cells) (noting cell cells)
  where
    by : (after : List ℕ) → Noting cell cells after → Distinct after
    by _ (none z) = d
    by _ (met m) = d
    by _ (new z m) = distinct_last cell cells d m

noted_from : (c cell : ℕ) (cells : List ℕ) → Among c (noted cell cells) → Among c cells ⊎ ((cell ≡ c) × (cell ≡ 0 → ⊥))
noted_from c cell cells h = by (noted cell cells) (noting cell cells) h
  where
    by : (after : List ℕ) → Noting cell cells after → Among c after → Among c cells ⊎ ((cell ≡ c) × (cell ≡ 0 → ⊥))
    by _ (none z) h = inl h
    by _ (met m) h = inl h
    by _ (new z m) h = ⊎_elim (λ i. inl i) (λ e. inr (e, z)) (among_split c cell cells h)

module _ (rule : ℕ → ℕ → Tread) where
  met_distinct : (cells : List ℕ) (trodden : List Entry) → Distinct cells → Distinct (met_from rule cells trodden)
  unfolding met_from
  met_distinct cells [] d = d
  met_distinct cells (e ∷ trodden) d = met_distinct (noted (made_at rule e).opens cells) trodden (distinct_noted (made_at rule e).opens cells d)

  met_kept : (c : ℕ) (cells : List ℕ) (trodden : List Entry) → Among c cells → Among c (met_from rule cells trodden)
  unfolding met_from
  met_kept c cells [] h = h
  met_kept c cells (e ∷ trodden) h = met_kept c (noted (made_at rule e).opens cells) trodden (among_noted c (made_at rule e).opens cells h)

  met_all : (c : ℕ) (cells : List ℕ) (trodden : List Entry) → Opened rule trodden c → Among c (met_from rule cells trodden)
  unfolding met_from
  met_all c cells [] o = absurd o.1.1
  met_all c cells (x ∷ trodden) o =
      ⊎_elim
      (λ s. let z : (made_at rule x).opens ≡ c = rw s o.1.2 in met_kept c (noted (made_at rule x).opens cells) trodden (rw z (among_note c cells o.0)))
      (λ i. met_all c (noted (made_at rule x).opens cells) trodden (o.0, (o.1.0, i, o.1.2)))
      o.1.1

  met_only : (c : ℕ) (cells : List ℕ) (trodden : List Entry) → Among c (met_from rule cells trodden) → Among c cells ⊎ Opened rule trodden c
  unfolding met_from
  met_only c cells [] h = inl h
  met_only c cells (x ∷ trodden) h =
      ⊎_elim
      (λ i. ⊎_elim (λ j. inl j) (λ j. inr (λ z. j.1 (j.0 ∙ z), (x, inl refl, j.0))) (noted_from c (made_at rule x).opens cells i))
      (λ o. inr (o.0, (o.1.0, inr o.1.1, o.1.2)))
      (met_only c (noted (made_at rule x).opens cells) trodden h)

  -- a cell of the list was there before, or there is the place that met it, after those that met the earlier ones
  met_order : (cells : List ℕ) (trodden : List Entry) (earlier : List ℕ) (c : ℕ) (later : List ℕ) → met_from rule cells trodden ≡ earlier ++ (c ∷ later)
      → ((rest : List ℕ) × (cells ≡ earlier ++ (c ∷ rest)))
      ⊎ ((before : List Entry) × (e : Entry) × (after : List Entry) × (trodden ≡ before ++ (e ∷ after)) × ((made_at rule e).opens ≡ c) × (earlier ≡ met_from rule cells before))
  unfolding met_from
  met_order cells [] earlier c later h = inl (later, h)
  met_order cells (x ∷ trodden) earlier c later h =
      ⊎_elim (λ r. here (noted (made_at rule x).opens cells) (noting (made_at rule x).opens cells) r.0 r.1)
      (λ r. inr (x ∷ r.0, r.1, r.2, ap (λ (l : List Entry). x ∷ l) r.3, r.4, r.5))
      (met_order (noted (made_at rule x).opens cells) trodden earlier c later h)
    where
      here : (after : List ℕ) → Noting (made_at rule x).opens cells after → (rest : List ℕ) → after ≡ earlier ++ (c ∷ rest)
          → ((rest : List ℕ) × (cells ≡ earlier ++ (c ∷ rest)))
          ⊎ ((before : List Entry) × (e : Entry) × (after : List Entry) × (x ∷ trodden ≡ before ++ (e ∷ after)) × ((made_at rule e).opens ≡ c) × (earlier ≡ met_from rule cells before))
      here _ (none z) rest g = inl (rest, g)
      here _ (met m) rest g = inl (rest, g)
      here _ (new z m) rest g = ⊎_elim (λ r. inl r) (λ r. inr ([], x, trodden, refl, r.1, r.0)) (snoc_split cells (made_at rule x).opens earlier c rest g)

  pub met_is : (trodden : List Entry) → Met rule trodden (met_from rule [] trodden)
  met_is trodden = record {
    folds = refl;
    distinct = met_distinct [] trodden tt;
    exactly = λ c. (λ h. ⊎_elim (λ n. absurd n) (λ o. o) (met_only c [] trodden h), λ o. met_all c [] trodden o);
    in_order = λ earlier c later h. ⊎_elim (λ r. absurd (nothing earlier c r.0 r.1))
        (λ r. record { before = r.0; at = r.1; after = r.2; splits = r.3; opened = r.4; met = r.5 })
        (met_order [] trodden earlier c later h);
  }
    where
      nothing : (earlier : List ℕ) (c : ℕ) (rest : List ℕ) → [] ≡ earlier ++ (c ∷ rest) → ⊥
      nothing earlier c rest e = let l : 0 ≡ length (earlier ++ (c ∷ rest)) = ap length e in omega (arith, length-append earlier (c ∷ rest))
