use mathlib.Core.Path.{◌∙◌}
use Rattle.std.proofs.Common.{rules, tests}
use Rattle.std.proofs.lemmas.Iterator.{YieldsList-from_slice}
use Rattle.std.proofs.lemmas.Iterator.Search.{all_from_yields_List}
use Rattle.parts.specs.Points.{point_ok}
use Rattle.parts.specs.Limits.{point_count}
use Rattle.parts.specs.Registers.{closed_point}
use Rattle.order.specs.Order.{points_ok}
use Rattle.order.proofs.LoopLaws.{all_places}
use Rattle.order.proofs.order.points_in_order.Goals as goal

pub returns : goal.returns
unfolding points_ok
returns c =
    all_from_yields_List point_ok _ _ _ c.all.ensures.ran (YieldsList-from_slice c.args.points.now cc) (λ x b q k. search (rules, tests))
    ∙ all_places point_ok c.args.points.now closed_point point_count c.told-points
