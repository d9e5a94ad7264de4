use Rattle.working_days.proofs.WorkingDayLaws.{asked}
use Rattle.working_days.proofs.working_days.nth_working_day.Goals as goal

pub nth_of_month-day-requires-clause-few : goal.nth_of_month-day-requires-clause-few
nth_of_month-day-requires-clause-few c =
    (asked c.args.month.year c.args.month.month c.args.n (rw (← c.is_in_calendar.ensures) c.if-is_in_calendar-n.true)).few
