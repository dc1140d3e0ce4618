-- A space and four digits, one behind the other. Assumes nothing.
use Rattle.std.proofs.Common.{arith}
use Rattle.text_digits.proofs.Puts.{puts_then, word_digits}
use Rattle.text_digits.proofs.Area.put_word.Goals as goal

pub returns : goal.returns
returns c =
    rw (word_digits c.args.v (omega arith), ← c.hex_digit.ensures, ← c.hex_digit-2.ensures, ← c.hex_digit-3.ensures, ← c.hex_digit-4.ensures)
    (puts_then (puts_then (puts_then (puts_then c.put_byte.ensures c.put_byte-2.ensures) c.put_byte-3.ensures) c.put_byte-4.ensures) c.put_byte-5.ensures)
