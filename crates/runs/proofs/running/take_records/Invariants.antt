use Rattle.std.specs.Iterator.Adapters.{enumerate_source, enumerate_count, take_source, take_count}
use Rattle.std.specs.Slice.Iter.{chunks_rest, chunks_size}
use Rattle.parts.specs.Registers.{state}
use Rattle.runs.proofs.RunLaws.{Running}
use Rattle.runs.proofs.running.take_records.Given as goal

abbrev pub invariant-loop-k : goal.invariant-loop-k
invariant-loop-k l =
    let source = enumerate_source l.k-iterator in
    let chunks = take_source source in
    Running l.input (state l.initial.so_far.register l.initial.free l.initial.ledger) l.initial.out (enumerate_count l.k-iterator) (take_count source) (chunks_size chunks) (chunks_rest chunks)
    (state l.so_far.register l.free l.ledger) l.out l.so_far.place
