use Rattle.std.proofs.Common.{arith}
use Rattle.runner.proofs.Readings.{reads_on}
use Rattle.runner.proofs.read_input.Goals as goal

pub loop-count-preserved : goal.loop-count-preserved
loop-count-preserved g c = record {
  within = omega (arith, c.in_ok-more.ensures.within, c.read_some.auto.space);
  bytes = reads_on _ _ _ c.loop-count.space _ _ _ c.in_ok-more.ensures.before c.loop-count.invariant.bytes c.in_ok-more.ensures.bytes;
}
