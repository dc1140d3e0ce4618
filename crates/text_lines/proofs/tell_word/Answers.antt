-- Its length is known, and decides whether it is put. Assumes nothing.
use Rattle.std.proofs.Common.{arith}
use Rattle.text_lines.proofs.Tells.{tells_only, tells_put}
use Rattle.text.proofs.Digits.{hexadecimal-length}
use Rattle.text_lines.proofs.tell_word.Goals as goal

pub returns-then-area : goal.returns-then-area
returns-then-area c =
    let four = hexadecimal-length c.args.v in
    tells_only (omega arith) (omega arith)

pub returns-else-area : goal.returns-else-area
returns-else-area c = tells_put c.put_word.ensures
