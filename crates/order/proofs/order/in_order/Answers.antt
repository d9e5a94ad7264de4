use mathlib.Core.Path.{sym, ap₂, ◌∙◌}
use mathlib.Core.Bool.{◌&&◌}
use Rattle.parts.specs.Registers.{state_in}
use Rattle.calendar.proofs.SpanLaws.{year_span}
use Rattle.order.proofs.OrderLaws.{lengths_table, days_least, no_table, by_lines}
use Rattle.order.proofs.order.in_order.Goals as goal

pub table_in_order-requires : goal.table_in_order-requires
table_in_order-requires c = (
  lengths_table _ _ _ (sym c.lengths_in_order.ensures ∙ c.if-not-lengths_in_order.false),
  rw c.days.ensures (days_least _ _ (sym c.thermal_year.ensures ∙ c.in-Some.is)),
)

pub returns-then-not-table_in_order : goal.returns-then-not-table_in_order
returns-then-not-table_in_order c =
    no_table (state_in c.args.v) _ (sym c.thermal_year.ensures ∙ c.in-Some.is) (sym (rw c.days.ensures at c.table_in_order.ensures) ∙ c.if-not-table_in_order.true)

pub lines_in_order-requires : goal.lines_in_order-requires
lines_in_order-requires c = year_span _ _ (sym c.thermal_year.ensures ∙ c.in-Some.is)

pub returns : goal.returns
returns c =
    c.lines_in_order.ensures
    ∙ by_lines (state_in c.args.v) _ (sym c.thermal_year.ensures ∙ c.in-Some.is)
    (sym c.lengths_in_order.ensures ∙ c.if-not-lengths_in_order.false)
    (sym (ap₂ ◌&&◌ c.points_in_order.ensures c.accounts_in_order.ensures) ∙ c.if-not-points_in_order-accounts_in_order.false)
    (sym (rw c.days.ensures at c.table_in_order.ensures) ∙ c.if-not-table_in_order.false)
