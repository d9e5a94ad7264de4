use Rattle.printing.proofs.WritingLaws.{number_written, decimal_length}
use native.Mathlib.Omega.{arith}
use Rattle.printing.proofs.lines.put_number.Goals as goal

pub put_byte-requires : goal.put_byte-requires
put_byte-requires c = omega (arith, decimal_length 9 c.args.n, c.put_decimal-next.ensures.place, c.put_decimal-next.auto.out)

pub returns : goal.returns
returns c =
    let w = number_written c.args.out.now c.args.at c.put_decimal-next.result c.args.n c.args.end c.put_decimal-next.ensures.place c.put_decimal-next.ensures.bytes c.put_byte.ensures.place c.put_byte.ensures.bytes in
    record { place = w.0; bytes = w.1; bound = w.2 }
