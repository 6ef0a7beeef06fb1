-- What is read out of the two stored tables is 01's, at every number: below 256 the entry is the opcode's, and past the end both sides are 0.
-- Assumes nothing.
use Rattle.std.specs.Prelude.{◌≡◌, refl, Bool, true, false, cond, not, ◌&&◌, ◌||◌, List, ℕ, suc, ◌/◌, ◌%◌, ◌≤◌, ◌<◌, T, eqb, ltb, get_or}
use Rattle.std.proofs.Common.{◌∙◌, ap, sym, arith, leb→le, eqb→eq, eqb-true}
use Rattle.std.proofs.Math.Decide.{dec_lt}
use Rattle.std.proofs.Math.ListN.{get_or-eq_default}
use Rattle.tables.specs.declared.Effect.{Effect}
use Rattle.tables.specs.declared.Move.{Move}
use Rattle.tables.specs.declared.Move.TheVariants.{Fixed, Builtin, Call, Method}
use Rattle.tables.specs.declared.TempEffect.{TempEffect}
use Rattle.tables.specs.declared.TempEffect.TheVariants.{Keeps, Borrows, GivesBack}
use Rattle.tables.specs.Set.{row, Found, unassigned, assigned, instruction_set, find, is_assigned, size_found, move_found, temp_found, effect, size_of, move_of, temp_of, takes_move, leaves_move}
use Rattle.tables.specs.Values.{values, entry, length_values}
use Rattle.tables.specs.Packed.{turns, sort_move, sort_found, sort_of, word_found, word_of, plain_of, temp_code, size_table, word_table, size_in, effect_in, move_by, move_in, temp_by, temp_in, plain_in}
use Rattle.tables.specs.Laws.{found, and_left, and_right, plain}

outside_by : (f : Found) → (T (is_assigned f) → ⊥) → f ≡ unassigned
outside_by unassigned n = refl
outside_by (assigned r) n = absurd (n tt)

-- every opcode is a byte
byte_by : (a : Bool) (op : ℕ) → T (not a || ltb op 256) → T a → op < 256
byte_by true op t u = leb→le (suc op) 256 t
byte_by false op t u = absurd u

outside : (op : ℕ) → 256 ≤ op → find instruction_set op ≡ unassigned
unfolding instruction_set
outside op h =
    outside_by (find instruction_set op) (λ t. let l = byte_by (is_assigned (find instruction_set op)) op (found (λ o f. not (is_assigned f) || ltb o 256) instruction_set (λ o. tt) tt op) t in omega arith)

-- a table of 256 values, of a function of what is found that is 0 for the unassigned
stored : (g : Found → ℕ) → g unassigned ≡ 0 → (op : ℕ) → Dec (op < 256) → get_or (values (λ o. g (find instruction_set o)) 0 256) op 0 ≡ g (find instruction_set op)
stored g z op (yes h) = entry 0 (λ o. g (find instruction_set o)) 256 op h
stored g z op (no h) =
    get_or-eq_default (values (λ o. g (find instruction_set o)) 0 256) 0 {n = op} (let l = length_values (λ o. g (find instruction_set o)) 0 256 in omega arith)
    ∙ sym (ap g (outside op (omega arith)) ∙ z)

pub size_stored : (op : ℕ) → size_in size_table op ≡ size_of op
unfolding size_in size_table size_of
size_stored op = stored size_found refl op (dec_lt op 256)

word_stored : (op : ℕ) → get_or word_table op 0 ≡ word_of op
unfolding word_table word_of
word_stored op = stored word_found refl op (dec_lt op 256)

-- each field of a word is the row's
pub record Fields (op : ℕ) : Type 0 where
  pub taken : word_of op % 4 ≡ takes_move (move_of op)
  pub left : word_of op / 4 % 4 ≡ leaves_move (move_of op)
  pub lent : word_of op / 16 % 4 ≡ temp_code (temp_of op)
  pub sort : word_of op / 64 ≡ sort_of op

abbrev fields_agree : Found → Bool
fields_agree f =
    eqb (word_found f % 4) (takes_move (move_found f))
    && (eqb (word_found f / 4 % 4) (leaves_move (move_found f))
    && (eqb (word_found f / 16 % 4) (temp_code (temp_found f)) && eqb (word_found f / 64) (sort_found f)))

-- said of any numbers, so that the rows do not stand in the goal
four : (a b c d e f g h : ℕ) → T (eqb a b && (eqb c d && (eqb e f && eqb g h))) → (a ≡ b) × ((c ≡ d) × ((e ≡ f) × (g ≡ h)))
four a b c d e f g h t =
    let u = and_right (eqb a b) _ t in
    let v = and_right (eqb c d) _ u in
    (eqb→eq a b (and_left (eqb a b) _ t), (eqb→eq c d (and_left (eqb c d) _ u), (eqb→eq e f (and_left (eqb e f) _ v), eqb→eq g h (and_right (eqb e f) _ v))))

agree : (op : ℕ) → T (fields_agree (find instruction_set op))
unfolding instruction_set turns
agree op = found (λ o f. fields_agree f) instruction_set (λ o. tt) tt op

fields : (op : ℕ) → Fields op
unfolding word_of move_of temp_of sort_of
fields op =
    let q = four _ _ _ _ _ _ _ _ (agree op) in
    record { taken = q.0; left = q.1.0; lent = q.1.1.0; sort = q.1.1.1 }

sort_fixed : (a b : Bool) (e : Effect) → move_by (cond a 2 (cond b 3 1)) e ≡ Fixed e
sort_fixed true b e = refl
sort_fixed false true e = refl
sort_fixed false false e = refl

by_sort : (op : ℕ) (m : Move) → move_by (sort_move op m) (effect (takes_move m) (leaves_move m)) ≡ m
by_sort op (Fixed e) = sort_fixed (turns op) (eqb op 0xA4) e
by_sort op Builtin = refl
by_sort op Call = refl
by_sort op Method = refl

by_found : (f : Found) → move_by (sort_found f) (effect (takes_move (move_found f)) (leaves_move (move_found f))) ≡ move_found f
by_found unassigned = refl
by_found (assigned (row op ks m t)) = by_sort op m

by_temp : (e : TempEffect) → temp_by (temp_code e) ≡ e
by_temp Keeps = refl
by_temp Borrows = refl
by_temp GivesBack = refl

move_sorted : (op : ℕ) → move_by (sort_of op) (effect (takes_move (move_of op)) (leaves_move (move_of op))) ≡ move_of op
unfolding sort_of move_of
move_sorted op = by_found (find instruction_set op)

module _ (op : ℕ) where
  pub effect_stored : effect_in word_table op ≡ effect (takes_move (move_of op)) (leaves_move (move_of op))
  unfolding effect_in
  effect_stored = rw (word_stored op, (fields op).taken, (fields op).left)

  pub move_stored : move_in word_table op ≡ move_of op
  unfolding move_in
  move_stored = rw (word_stored op, effect_stored, (fields op).sort) (move_sorted op)

  pub temp_stored : temp_in word_table op ≡ temp_of op
  unfolding temp_in
  temp_stored = rw (word_stored op, (fields op).lent) (by_temp (temp_of op))

  pub plain_stored : plain_in word_table op ≡ plain_of op
  unfolding plain_in plain_of
  plain_stored = rw (word_stored op, (fields op).sort)

-- a table of words in which whatever is plain turns nowhere
abbrev pub GoesOn : List ℕ → Type 0
GoesOn words = (op : ℕ) → plain_in words op ≡ true → turns op ≡ false

pub goes_on_stored : GoesOn word_table
goes_on_stored op e = (plain op (sym (plain_stored op) ∙ e)).goes_on

-- in any table the effect of a plain instruction is the table's
pub plain_fixed : (words : List ℕ) (op : ℕ) → plain_in words op ≡ true → move_in words op ≡ Fixed (effect_in words op)
unfolding plain_in move_in
plain_fixed words op e = rw (eqb-true (get_or words op 0 / 64) 1 e)
