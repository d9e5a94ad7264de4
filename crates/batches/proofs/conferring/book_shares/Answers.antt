use mathlib.Core.Path.{◌≡◌, sym, ap, ◌∙◌}
use lib.ListN.{length}
use Rattle.std.proofs.lemmas.List.{length_push}
use Rattle.std.proofs.lemmas.Slice.Zip.{zip_turn, zip_end}
use Rattle.parts.specs.Registers.{state}
use Rattle.batches.specs.Steps.{book_some}
use Rattle.batches.proofs.LoopLaws.{share_grant, post_more, post_most, sum_booked}
use native.Mathlib.Omega.{arith}
use borrow.Author.Rules.{rules}
use Rattle.batches.proofs.conferring.book_shares.Goals as goal

pub overflow_add-sum : goal.overflow_add-sum
overflow_add-sum c =
    let t = zip_turn c.args.b.users.now c.args.shares.now _ _ _ c.next.new.self _ (search rules) (search rules) c.loop-user.yielded_by _ c.in-Some.is c.next.ensures.steps in
    omega (arith, c.loop-user.invariant.0, t.0, c.requires.1.1.1, post_most _ _ _ _ _ _ _ _ _ c.post-sum.ensures)

pub loop-user-preserved : goal.loop-user-preserved
loop-user-preserved c =
    let t = zip_turn c.args.b.users.now c.args.shares.now _ _ _ c.next.new.self _ (search rules) (search rules) c.loop-user.yielded_by _ c.in-Some.is c.next.ensures.steps in
    let g = share_grant c.args.r.year _ c.args.b.point _ c.unwrap-days.result _ (sym c.thermal_year.ensures ∙ c.unwrap-days.ensures) c.annual-g.ensures in
    rw length_push (
      omega (arith, c.loop-user.invariant.0, post_most _ _ _ _ _ _ _ _ _ c.post-sum.ensures),
      post_more c.args.r _ _ _ _ c.args.b.point c.args.b.users.now c.args.shares.now _ _ _ _ _ _ _ c.requires.0 c.requires.1.0 c.loop-user.invariant.1 (rw (t.2 0, t.3 0) at g) c.post-sum.ensures,
    )

pub returns : goal.returns
returns c =
    let n = zip_end c.args.b.users.now c.args.shares.now c.loop-user.yielded c.into_iter-user-iterator.result c.loop-user.user-iterator c.next.new.self c.next.result (search rules) (search rules) c.loop-user.yielded_by c.in-None.is c.next.ensures.steps in
    let e : length c.loop-user.yielded ≡ length c.args.b.users.now = omega (arith, n, c.requires.1.1.0) in
    sum_booked c.args.r _ c.args.free.now c.args.ledger.now _ _ c.args.b.point c.args.b.users.now c.args.shares.now _ _ _ c.requires.0 c.days_of_year-places.ensures (rw c.row_of.ensures at c.take_free.ensures) c.loop-user.invariant.1
    ∙ ap (book_some (state c.args.r c.args.free.now c.args.ledger.now) c.args.r.year c.args.b.point c.args.b.users.now c.args.shares.now) e
