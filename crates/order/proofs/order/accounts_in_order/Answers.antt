use mathlib.Core.Path.{◌∙◌}
use Rattle.std.proofs.Common.{rules, tests}
use Rattle.std.proofs.lemmas.Iterator.{YieldsList-from_slice}
use Rattle.std.proofs.lemmas.Iterator.Search.{all_from_yields_List}
use Rattle.parts.specs.Accounts.{account_ok}
use Rattle.parts.specs.Limits.{user_count}
use Rattle.parts.specs.Registers.{absent_user}
use Rattle.order.specs.Order.{accounts_ok}
use Rattle.order.proofs.LoopLaws.{all_places}
use Rattle.order.proofs.order.accounts_in_order.Goals as goal

pub returns : goal.returns
unfolding accounts_ok
returns c =
    all_from_yields_List account_ok _ _ _ c.all.ensures.ran (YieldsList-from_slice c.args.accounts.now cc) (λ x b q k. search (rules, tests))
    ∙ all_places account_ok c.args.accounts.now absent_user user_count c.told-accounts
