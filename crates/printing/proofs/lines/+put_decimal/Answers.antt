use Prim.Native.Nat.{◌≤◌, ◌-◌, ◌/◌}
use Rattle.printing.specs.Lines.{last_digit, decimal_in}
use Rattle.printing.proofs.WritingLaws.{decimal_last, more_room, decimal_more, decimal_length, then_byte, one_byte}
use native.Mathlib.Omega.{arith}
use Rattle.printing.proofs.lines.+put_decimal.Goals as goal

pub returns-then-n-more : goal.returns-then-n-more
returns-then-n-more t c =
    let w = one_byte c.args.out.now c.args.at (last_digit c.args.n) c.last_digit.result (decimal_last c.args.more c.args.n c.if-n-more.true) c.put_byte.ensures.place c.put_byte.ensures.bytes c.last_digit.ensures in
    record { place = w.0; bytes = w.1 }

pub put_byte-requires-2 : goal.put_byte-requires-2
put_byte-requires-2 t c =
    let room : 1 ≤ c.args.more = more_room c.args.more c.args.n c.if-n-more.false in
    omega (arith, room, decimal_length (c.args.more - 1) (c.args.n / 10), c.put_decimal-next.ensures.place, c.put_decimal-next.auto.out)

pub returns : goal.returns
returns t c =
    let w = then_byte c.args.out.now c.args.at c.put_decimal-next.result (decimal_in (c.args.more - 1) (c.args.n / 10)) (last_digit c.args.n) c.last_digit-2.result c.put_decimal-next.ensures.place c.put_decimal-next.ensures.bytes c.put_byte-2.ensures.place c.put_byte-2.ensures.bytes c.last_digit-2.ensures in
    rw (decimal_more c.args.more c.args.n c.if-n-more.false) (record { place = w.0; bytes = w.1 })
