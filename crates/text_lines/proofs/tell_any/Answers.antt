-- Near the end its length decides, far from it any number fits. Assumes nothing.
use Rattle.std.proofs.Common.{arith}
use Rattle.text.proofs.Digits.{decimal-most}
use Rattle.text_lines.proofs.Tells.{tells_put}
use Rattle.text_lines.proofs.tell_any.Goals as goal

pub overflow_add-behind-then-area : goal.overflow_add-behind-then-area
overflow_add-behind-then-area c = omega (arith, c.decimal_length.ensures, decimal-most c.args.v)

pub put_field-requires : goal.put_field-requires
put_field-requires c = grind (arith, decimal-most)

pub returns : goal.returns
returns c = tells_put c.put_field.ensures
