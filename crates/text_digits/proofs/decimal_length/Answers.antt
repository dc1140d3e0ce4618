-- A number of k digits and one is at least 10^k. Assumes nothing.
use Rattle.std.proofs.Common.{arith}
use Rattle.text.proofs.Digits.{decimal-one, decimal-exact}
use Rattle.text_digits.proofs.decimal_length.Goals as goal

pub returns-in-0-to-9 : goal.returns-in-0-to-9
returns-in-0-to-9 c = decimal-one c.args.v (omega arith)

pub returns-in-10-to-99 : goal.returns-in-10-to-99
returns-in-10-to-99 c = decimal-exact 1 c.args.v (omega arith) (omega arith) (omega arith)

pub returns-in-100-to-999 : goal.returns-in-100-to-999
returns-in-100-to-999 c = decimal-exact 2 c.args.v (omega arith) (omega arith) (omega arith)

pub returns-in-1000-to-9999 : goal.returns-in-1000-to-9999
returns-in-1000-to-9999 c = decimal-exact 3 c.args.v (omega arith) (omega arith) (omega arith)

pub returns-in_default : goal.returns-in_default
returns-in_default c = decimal-exact c.ilog10.result c.args.v c.ilog10.ensures.bound c.ilog10.ensures.power_le c.ilog10.ensures.next_power_gt
