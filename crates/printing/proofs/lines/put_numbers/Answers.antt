use Rattle.printing.proofs.WritingLaws.{line_written}
use native.Mathlib.Omega.{arith}
use Rattle.printing.proofs.lines.put_numbers.Goals as goal

pub returns : goal.returns
returns c =
    let w = line_written c.args.out.now c.args.at c.put_number-second.result c.put_number-third.result c.args.position c.args.number c.args.amount c.put_number-second.ensures.place c.put_number-second.ensures.bytes c.put_number-third.ensures.place c.put_number-third.ensures.bytes c.put_number.ensures.place c.put_number.ensures.bytes in
    record { place = w.0; bytes = w.1; bound = omega arith }
