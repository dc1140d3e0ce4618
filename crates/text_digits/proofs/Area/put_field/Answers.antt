-- The digits end where the field does. Assumes nothing.
use Rattle.std.proofs.Common.{arith}
use Rattle.text.proofs.Digits.{decimal-std}
use Rattle.text_digits.proofs.Puts.{put_then, put_length, put_digits}
use Rattle.text_digits.proofs.Area.put_field.Goals as goal

pub write_digits-requires : goal.write_digits-requires
write_digits-requires c = rw (← decimal-std c.args.v c.ranges.v.fits) (grind (arith, put_length c.put_byte.ensures.put))

pub returns : goal.returns
returns c =
    let space = c.put_byte.ensures.put in
    let digits = c.write_digits.ensures in
    record {
      put = put_then space (put_digits _ c.ranges.v.fits (grind (arith, put_length space)) (omega (arith, space.place, c.decimal_length.ensures)) digits.start digits.written digits.before);
      lent = c.put_byte.ensures.lent;
    }
