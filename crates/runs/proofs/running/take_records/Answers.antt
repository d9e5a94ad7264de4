use Prim.Native.Nat.{◌≤◌, ◌<◌}
use mathlib.Core.Path.{◌≡◌, ap, ◌∙◌}
use lib.ListN.{length}
use Rattle.std.specs.Iterator.Adapters.{enumerate_source, enumerate_count, take_source, take_count}
use Rattle.std.specs.Slice.Iter.{chunks_rest, chunks_size}
use Rattle.runs.proofs.RunLaws.{running_none, running_more, one_more, ran_left, ran_place, ran_within, ran_bytes}
use native.Mathlib.Omega.{arith}
use Rattle.runs.proofs.running.take_records.Goals as goal

pub loop-k-init : goal.loop-k-init
loop-k-init c =
    let it = c.into_iter-k-iterator.ensures.into_iter_gives in
    let source : enumerate_source c.into_iter-k-iterator.result ≡ c.take.result = ap enumerate_source it ∙ c.enumerate-k-items.ensures.source in
    let chunks : take_source (enumerate_source c.into_iter-k-iterator.result) ≡ c.chunks.result = ap take_source source ∙ c.take.ensures.source in
    running_none _ _ _ (ap enumerate_count it ∙ c.enumerate-k-items.ensures.count) (ap take_count source ∙ c.take.ensures.count)
    (ap chunks_size chunks ∙ c.chunks.ensures.size) (ap chunks_rest chunks ∙ c.chunks.ensures.rest)

pub take_record-so_far-requires : goal.take_record-so_far-requires
take_record-so_far-requires c =
    let step = c.in-Some.ensures.steps in
    let more = one_more _ _ c.loop-k.invariant step.0.1 step.0.0.1.2 in
    (omega (arith, more.0, step.1), omega (arith, more.1, c.requires))

pub loop-k-preserved : goal.loop-k-preserved
loop-k-preserved c =
    let step = c.in-Some.ensures.steps in
    let chunk = step.0.0 in
    let made = c.take_record-so_far.ensures in
    running_more _ _ _ _ c.loop-k.invariant step.1 step.2 step.0.1 chunk.0 chunk.1.0 chunk.1.1 chunk.1.2 made.state made.place made.bytes made.bound

pub returns : goal.returns
returns c =
    let last = c.in-None.ensures.steps.0 in
    let r = c.loop-k.invariant in
    let none : 0 < take_count (enumerate_source c.loop-k.k-iterator) → length (chunks_rest (take_source (enumerate_source c.loop-k.k-iterator))) ≡ 0 = λ some. (last some).1.0 in
    let fits : c.loop-k.so_far.place ≤ length c.args.out.now = omega (arith, ran_within _ _ _ r none, c.requires) in
    record { state = ran_left _ _ _ r none; place = ran_place _ _ _ r none; bytes = ran_bytes _ _ _ r none fits; bound = fits }
