-- What a place means, and that halving finds the row that reading row after row finds; with hints: proofs/LookupLaws.antt.
-- Assumes nothing.
use Rattle.std.specs.Prelude.{ℕ, zero, suc, ◌+◌, ◌-◌, ◌/◌, ◌^◌, ◌≤◌, ◌<◌, ◌≡◌, refl, List, length, get_or, Ok, Some, None}
use Rattle.std.proofs.Common.{not-suc-le-zero, pow-suc, arith, ◌∙◌, sym}
use Rattle.std.proofs.Math.Nat.{pow-zero}
use Rattle.std.proofs.Math.Decide.{dec_lt}
use Rattle.std.proofs.Math.Path.{ap}
use borrow.Author.Tests.{lt-ltb, le-ltb, le-leb, lt-leb, eqb-true, eqb-false, eq-eqb, ne_eqb}
use Rattle.codes.specs.First.{row_means, nowhere_means, row_if_lem, nowhere_if}
use Rattle.codes.specs.Rows.{rows_of}
use Rattle.codes.specs.Lookup.{has_id, place_of, row_if, half_of, halve, halved_of, entry_at, entry_of, looked_up}
use Rattle.codes.specs.Laws.{rising_order, rising_le}

module _ (ids : List ℕ) (id : ℕ) where
  -- an id that no row has
  pub place_nowhere : ((j : ℕ) → j < length ids → get_or ids j 0 ≡ id → ⊥) → place_of ids id ≡ None
  unfolding place_of
  place_nowhere miss = nowhere_if _ _ (record { passed = λ j h. ne_eqb (get_or ids j 0) id (miss j h) })

  -- an id that a row has, and no row before it
  pub place_row : (r : ℕ) → r < length ids → get_or ids r 0 ≡ id → ((j : ℕ) → j < r → get_or ids j 0 ≡ id → ⊥) → place_of ids id ≡ Some r
  unfolding place_of
  place_row r h e miss =
      row_if_lem _ _ _ (record { inside = h; picked = eq-eqb (get_or ids r 0) id e; earlier = λ j l. ne_eqb (get_or ids j 0) id (miss j l) })

  -- a place is a row of the column, with the id, and the first such
  pub place_in : (r : ℕ) → place_of ids id ≡ Some r → r < length ids
  unfolding place_of
  place_in r e = (row_means _ _ _ e).inside

  pub place_has : (r : ℕ) → place_of ids id ≡ Some r → get_or ids r 0 ≡ id
  unfolding place_of
  place_has r e = eqb-true (get_or ids r 0) id (row_means (has_id ids id) (length ids) r e).picked

  pub place_first : (r : ℕ) → place_of ids id ≡ Some r → (j : ℕ) → j < r → get_or ids j 0 ≡ id → ⊥
  unfolding place_of
  place_first r e j l = eqb-false (get_or ids j 0) id ((row_means (has_id ids id) (length ids) r e).earlier j l)

  pub place_missing : place_of ids id ≡ None → (j : ℕ) → j < length ids → get_or ids j 0 ≡ id → ⊥
  unfolding place_of
  place_missing e j l = eqb-false (get_or ids j 0) id ((nowhere_means (has_id ids id) (length ids) e).passed j l)

  -- what is said of the one row that is left
  pub row_here : (k : ℕ) → k < length ids → get_or ids k 0 ≡ id → row_if ids id k ≡ Some k
  unfolding row_if
  row_here k h e = rw (lt-ltb k (length ids) h, eq-eqb (get_or ids k 0) id e)

  pub row_other : (k : ℕ) → k < length ids → (get_or ids k 0 ≡ id → ⊥) → row_if ids id k ≡ None
  unfolding row_if
  row_other k h e = rw (lt-ltb k (length ids) h, ne_eqb (get_or ids k 0) id e)

  pub row_past : (k : ℕ) → length ids ≤ k → row_if ids id k ≡ None
  unfolding row_if
  row_past k h = rw (le-ltb k (length ids) h)

  -- one turn of the halving
  pub halve_turn : (turns lo size : ℕ) → 1 < size → halve (suc turns) ids id lo size ≡ halve turns ids id (half_of ids id lo size) (size - size / 2)
  halve_turn turns lo size h = rw (lt-ltb 1 size h)

  pub halve_one : (turns lo size : ℕ) → size ≤ 1 → halve turns ids id lo size ≡ row_if ids id lo
  halve_one zero lo size h = refl
  halve_one (suc turns) lo size h = rw (le-ltb 1 size h)

  -- so many turns are enough for 2 ^ turns rows
  enough_by : (k j lo size : ℕ) → Dec (1 < size)
      → (1 < size → halve k ids id (half_of ids id lo size) (size - size / 2) ≡ halve j ids id (half_of ids id lo size) (size - size / 2))
      → halve (suc k) ids id lo size ≡ halve (suc j) ids id lo size
  enough_by k j lo size (yes h) rest = halve_turn k lo size h ∙ rest h ∙ sym (halve_turn j lo size h)
  enough_by k j lo size (no h) rest = halve_one (suc k) lo size (omega arith) ∙ sym (halve_one (suc j) lo size (omega arith))

  pub enough : (k j lo size : ℕ) → size ≤ 2 ^ k → size ≤ 2 ^ j → halve k ids id lo size ≡ halve j ids id lo size
  enough zero j lo size h l = sym (halve_one j lo size (omega (arith, pow-zero 2)))
  enough (suc k) zero lo size h l = halve_one (suc k) lo size (omega (arith, pow-zero 2))
  enough (suc k) (suc j) lo size h l =
      enough_by k j lo size (dec_lt 1 size)
      (λ w. enough k j (half_of ids id lo size) (size - size / 2) (omega (arith, pow-suc 2 k)) (omega (arith, pow-suc 2 j)))

below_pow : (n : ℕ) → n < 2 ^ n
below_pow zero = omega (arith, pow-zero 2)
below_pow (suc n) = let h = below_pow n in omega (arith, pow-suc 2 n)

-- thirteen turns do for every column shorter than 8,192 rows: a lookup in 6,144 rows looks at 13 ids, and at that of the row that is left
pub halve_thirteen : (ids : List ℕ) (id : ℕ) → length ids < 8192 → halve 13 ids id 0 (length ids) ≡ halved_of ids id
unfolding halved_of
halve_thirteen ids id h =
    let b = below_pow (length ids) in
    enough ids id 13 (length ids) 0 (length ids) (omega arith) (omega arith)

-- the rows from lo on, `size` of them, are those that may have the id
record Bracket (ids : List ℕ) (id lo size : ℕ) : Type 0 where
  high : lo + size ≤ length ids
  below : (k : ℕ) → k < lo → get_or ids k 0 < id
  above : (k : ℕ) → lo + size ≤ k → k < length ids → id < get_or ids k 0

module _ (ids flags : List ℕ) (rises : rows_of ids flags ≡ Ok tt) (id : ℕ) where
  module _ (lo size : ℕ) (b : Bracket ids id lo size) where
    -- where one row is left, no other has the id
    other : size ≤ 1 → (get_or ids lo 0 ≡ id → ⊥) → (j : ℕ) → Dec (j < lo) → Dec (lo < j) → j < length ids → get_or ids j 0 ≡ id → ⊥
    other l miss j (yes w) d h e = omega (arith, b.below j w)
    other l miss j (no v) (yes w) h e = omega (arith, b.above j (omega arith) h)
    other l miss j (no v) (no w) h e = let z : j ≡ lo = omega arith in miss (rw (← z) e)

    not_last : size ≤ 1 → lo < length ids → (get_or ids lo 0 ≡ id → ⊥) → row_if ids id lo ≡ place_of ids id
    not_last l w e = row_other ids id lo w e ∙ sym (place_nowhere ids id (λ j. other l e j (dec_lt j lo) (dec_lt lo j)))

    last_by : size ≤ 1 → Dec (lo < length ids) → Dec (get_or ids lo 0 < id) → Dec (id < get_or ids lo 0) → row_if ids id lo ≡ place_of ids id
    last_by l (no w) d e = row_past ids id lo (omega arith) ∙ sym (place_nowhere ids id (λ j h z. omega (arith, b.below j (omega arith))))
    last_by l (yes w) (yes x) e = not_last l w (λ z. omega arith)
    last_by l (yes w) (no v) (yes x) = not_last l w (λ z. omega arith)
    last_by l (yes w) (no v) (no x) =
        let e : get_or ids lo 0 ≡ id = omega arith in
        row_here ids id lo w e ∙ sym (place_row ids id lo w e (λ j h z. omega (arith, b.below j h)))

    last : size ≤ 1 → row_if ids id lo ≡ place_of ids id
    last l = last_by l (dec_lt lo (length ids)) (dec_lt (get_or ids lo 0) id) (dec_lt id (get_or ids lo 0))

    -- the half that is kept
    half : 1 < size → Dec (id < get_or ids (lo + size / 2) 0) → Bracket ids id (half_of ids id lo size) (size - size / 2)
    half h (yes w) =
        rw
        (lt-leb (get_or ids (lo + size / 2) 0) id w)
        (record {
          high = omega (arith, b);
          below = b.below;
          above = λ k l z. omega (arith, rising_le ids flags rises (lo + size / 2) k (omega arith) z);
        })
    half h (no w) =
        rw
        (le-leb (get_or ids (lo + size / 2) 0) id (omega arith))
        (record {
          high = omega (arith, b);
          below = λ k l. omega (arith, rising_order ids flags rises k (lo + size / 2) l (omega (arith, b)));
          above = λ k l z. b.above k (omega arith) z;
        })

  settled_by : (turns lo size : ℕ) → Bracket ids id lo size
      → (1 < size → halve turns ids id (half_of ids id lo size) (size - size / 2) ≡ place_of ids id) → Dec (1 < size)
      → halve (suc turns) ids id lo size ≡ place_of ids id
  settled_by turns lo size b rest (no w) = halve_one ids id (suc turns) lo size (omega arith) ∙ last lo size b (omega arith)
  settled_by turns lo size b rest (yes w) = halve_turn ids id turns lo size w ∙ rest w

  settled : (turns lo size : ℕ) → Bracket ids id lo size → size ≤ suc turns → halve turns ids id lo size ≡ place_of ids id
  settled zero lo size b t = last lo size b t
  settled (suc turns) lo size b t =
      settled_by turns lo size b
      (λ h. settled turns (half_of ids id lo size) (size - size / 2) (half lo size b h (dec_lt id (get_or ids (lo + size / 2) 0))) (omega arith))
      (dec_lt 1 size)

  -- on rising ids halving is the lookup that reads row after row
  pub halved_place : halved_of ids id ≡ place_of ids id
  unfolding halved_of
  halved_place =
      settled (length ids) 0 (length ids)
      (record { high = omega arith; below = λ k h. absurd (not-suc-le-zero h); above = λ k h l. absurd (omega arith) })
      (omega arith)

  pub looked_up_lem : (counts : List ℕ) → looked_up ids counts flags id ≡ entry_of ids counts flags id
  unfolding looked_up entry_of
  looked_up_lem counts = ap (entry_at counts flags) halved_place
