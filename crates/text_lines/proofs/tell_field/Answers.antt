-- Far from the end any number fits. Assumes nothing.
use Rattle.std.proofs.Common.{arith}
use Rattle.text.proofs.Digits.{decimal-most}
use Rattle.text_lines.proofs.Tells.{tells_put}
use Rattle.text_lines.proofs.tell_field.Goals as goal

pub put_field-requires : goal.put_field-requires
put_field-requires c = omega (arith, decimal-most c.args.v)

pub returns : goal.returns
returns c = tells_put c.put_field.ensures
