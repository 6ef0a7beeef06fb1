-- `stack::queue::Queue::put` meets its contract. Fewer have joined the queue than have a depth, so there is room for one that gets a depth.
-- Assumes nothing.
use Rattle.std.specs.Prelude.{Ok, Err}
use Rattle.std.proofs.lemmas.Result.{err_from_is_err_and}
use Prim.Native.Nat.{◌<◌}
use mathlib.Core.Path.{◌≡◌, ◌∙◌, ap, sym}
use native.Mathlib.Omega.{arith}
use lib.ListN.{length, get_or, take}
use Rattle.stack.specs.declared.queue.Meeting.{Meeting}
use Rattle.stack.proofs.Putting.{says, room, ready_still, put_joins, put_stays}
use Rattle.stack.proofs.queue.Queue.put.Goals.{In-New}
use Rattle.stack.proofs.queue.Queue.put.Goals as goal

pub returns-in_err-meeting-clause-puts : goal.returns-in_err-meeting-clause-puts
returns-in_err-meeting-clause-puts c = let q = c.args.self.now in
    let p = err_from_is_err_and c.from_residual.result c.from_residual.ensures.1 in
    rw (p.1, p.2) (says q.depths.now (take q.tail q.places.now) c.args.to c.args.out (Err _) (sym c.in_err-meeting.was ∙ c.meet.ensures))

-- the successor has no depth
fresh : (c : In-New) → get_or c.args.self.now.depths.now c.args.to 0 ≡ 0
fresh c = says c.args.self.now.depths.now c.args.self.now.places.now c.args.to c.args.out (Ok Meeting.New) (sym (c.in_ok-meeting.was ∙ ap Ok c.in-New.is) ∙ c.meet.ensures)

has_room : (c : In-New) → c.args.self.now.tail < length c.args.self.now.places.now
has_room c = room _ _ _ c.args.to c.args.out c.args.self.now.ready c.requires.to_in_bounds.0 (fresh c)

pub invariant_of-self : goal.invariant_of-self
invariant_of-self c = record { ready = ready_still _ _ _ c.args.to c.args.out c.args.self.now.ready c.requires.to_in_bounds.0 (fresh (goal.at.invariant_of-self c).In-New) }

pub offset_bounds-self-self : goal.offset_bounds-self-self
offset_bounds-self-self c = let h = has_room (goal.at.offset_bounds-self-self c).In-New in omega (arith, h, c.well_formed)

pub bounds-self-self : goal.bounds-self-self
bounds-self-self c = has_room (goal.at.bounds-self-self c).In-New

pub overflow_add-self-in-New : goal.overflow_add-self-in-New
overflow_add-self-in-New c = let h = has_room (goal.at.overflow_add-self-in-New c).In-New in omega (arith, h, c.well_formed)

pub invariant_of-self-in-New : goal.invariant_of-self-in-New
invariant_of-self-in-New c = record { ready = (put_joins _ _ _ c.args.to c.args.out c.args.self.now.ready c.requires.to_in_bounds.0 (fresh (goal.at.invariant_of-self-in-New c).In-New)).1.0 }

pub returns-in-New-clause-puts : goal.returns-in-New-clause-puts
returns-in-New-clause-puts c = put_joins _ _ _ c.args.to c.args.out c.args.self.now.ready c.requires.to_in_bounds.0 (fresh (goal.at.returns-in-New-clause-puts c).In-New)

pub returns-in-Same-clause-puts : goal.returns-in-Same-clause-puts
returns-in-Same-clause-puts c = let q = c.args.self.now in
    put_stays _ _ _ c.args.to c.args.out q.ready c.requires.to_in_bounds.0 (says q.depths.now q.places.now c.args.to c.args.out (Ok Meeting.Same) (sym (c.in_ok-meeting.was ∙ ap Ok c.in-Same.is) ∙ c.meet.ensures))
