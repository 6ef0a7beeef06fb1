-- `file::read_file` meets its contract: it is one of the three cases of `read_into` (ReadLaws.antt). Assumes nothing.
use Rattle.std.proofs.Common.{sym, ◌∙◌, ap, arith}
use Rattle.std.proofs.lemmas.Result.{err_from_is_err_and}
use Rattle.seven.specs.Seven.{Bytes}
use Rattle.file.specs.Stated.{columns_in, short_room}
use Rattle.file.proofs.ReadLaws.{was_short, was_refused, refused, ready, finished}
use Rattle.file.proofs.read_file.Goals as goal

pub returns-then-short-clause-outcome : goal.returns-then-short-clause-outcome
returns-then-short-clause-outcome c = (refused (columns_in c.args.columns.now) c.args.file.now (was_short (columns_in c.args.columns.now) c.args.file.now (ap short_room (sym c.room.ensures) ∙ (sym c.short.ensures ∙ c.if-short.true)))).0

pub returns-then-short-clause-left : goal.returns-then-short-clause-left
returns-then-short-clause-left c = (refused (columns_in c.args.columns.now) c.args.file.now (was_short (columns_in c.args.columns.now) c.args.file.now (ap short_room (sym c.room.ensures) ∙ (sym c.short.ensures ∙ c.if-short.true)))).1

pub returns-in_err-layout-clause-outcome : goal.returns-in_err-layout-clause-outcome
returns-in_err-layout-clause-outcome c = let p = err_from_is_err_and c.from_residual.result c.from_residual.ensures.1 in
    rw (p.1, p.2) (refused (columns_in c.args.columns.now) c.args.file.now (was_refused (columns_in c.args.columns.now) c.args.file.now c.in_err-layout.field-0.0 (ap short_room (sym c.room.ensures) ∙ (sym c.short.ensures ∙ c.if-short.false)) (sym c.measure.ensures.layout ∙ c.in_err-layout.was))).0

pub returns-in_err-layout-clause-left : goal.returns-in_err-layout-clause-left
returns-in_err-layout-clause-left c = (refused (columns_in c.args.columns.now) c.args.file.now (was_refused (columns_in c.args.columns.now) c.args.file.now c.in_err-layout.field-0.0 (ap short_room (sym c.room.ensures) ∙ (sym c.short.ensures ∙ c.if-short.false)) (sym c.measure.ensures.layout ∙ c.in_err-layout.was))).1

pub fill_columns-requires : goal.fill_columns-requires
unfolding Bytes
fill_columns-requires c = ready (columns_in c.args.columns.now) c.args.file.now c.in_ok-layout.layout (λ i. omega (arith, c.type_inv.file i)) (ap short_room (sym c.room.ensures) ∙ (sym c.short.ensures ∙ c.if-short.false)) (sym c.measure.ensures.layout ∙ c.in_ok-layout.was)

pub returns-clause-outcome : goal.returns-clause-outcome
unfolding Bytes
returns-clause-outcome c = (finished (columns_in c.args.columns.now) (columns_in c.fill_columns.new.columns) c.args.file.now c.in_ok-layout.layout _ _ c.sizes_of.result (λ i. omega (arith, c.type_inv.file i))
    (ap short_room (sym c.room.ensures) ∙ (sym c.short.ensures ∙ c.if-short.false)) (sym c.measure.ensures.layout ∙ c.in_ok-layout.was) c.in_ok-layout.ensures.numbers c.fill_columns.ensures.filled c.sizes_of.ensures).0

pub returns-clause-left : goal.returns-clause-left
unfolding Bytes
returns-clause-left c = (finished (columns_in c.args.columns.now) (columns_in c.fill_columns.new.columns) c.args.file.now c.in_ok-layout.layout _ _ c.sizes_of.result (λ i. omega (arith, c.type_inv.file i))
    (ap short_room (sym c.room.ensures) ∙ (sym c.short.ensures ∙ c.if-short.false)) (sym c.measure.ensures.layout ∙ c.in_ok-layout.was) c.in_ok-layout.ensures.numbers c.fill_columns.ensures.filled c.sizes_of.ensures).1
