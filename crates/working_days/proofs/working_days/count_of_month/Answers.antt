use mathlib.Core.Bool.{cond}
use mathlib.Core.Path.{◌∙◌}
use Prim.Native.Nat.{ℕ}
use native.Mathlib.Omega.{arith}
use Rattle.std.proofs.Common.{rules, tests}
use Rattle.std.proofs.lemmas.Iterator.{YieldsList-from_range, YieldsList-from_map}
use Rattle.std.proofs.lemmas.Iterator.Consumers.{sum_by_from_yields_List, fits_by_from_yields_list}
use Rattle.days.specs.Days.{month_length}
use Rattle.working_days.specs.WorkingDays.{working}
use Rattle.working_days.proofs.WorkingDayLaws.{month_sum, month_few}
use Rattle.working_days.proofs.working_days.count_of_month.Goals as goal

pub sum-requires-clause-fits : goal.sum-requires-clause-fits
sum-requires-clause-fits c =
    let y = c.args.month.year in
    let m = c.args.month.month in
    let run = YieldsList-from_map _ (λ (d : ℕ). cond (working y m d) 1 0) (YieldsList-from_range 1 _ (month_length y m) c.map.ensures.source (omega arith)) c.map.ensures.closure (λ x r q k. search (rules, tests)) in
    fits_by_from_yields_list (λ (d : ℕ). cond (working y m d) 1 0) _ _ 256 run (omega (arith, month_sum y m, month_few y m))

pub returns : goal.returns
returns c =
    let y = c.args.month.year in
    let m = c.args.month.month in
    let run = YieldsList-from_map _ (λ (d : ℕ). cond (working y m d) 1 0) (YieldsList-from_range 1 _ (month_length y m) c.map.ensures.source (omega arith)) c.map.ensures.closure (λ x r q k. search (rules, tests)) in
    sum_by_from_yields_List (λ (d : ℕ). cond (working y m d) 1 0) _ _ _ c.sum.ensures.ran run ∙ month_sum y m
