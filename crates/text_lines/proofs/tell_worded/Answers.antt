-- Letter, numbers, words and line end, one behind the other. Assumes nothing.
use Rattle.std.proofs.Common.{arith, take, length-append, append_assoc}
use Rattle.std.proofs.lemmas.List.{length-take-le, take_all}
use Rattle.text.specs.Text.{fields_text, words_text}
use Rattle.text.proofs.Fields.{fields_more, words_more, fields_most_lem, words-length}
use Rattle.text_lines.proofs.Tells.{tells_then}
use Rattle.text_lines.proofs.tell_worded.Goals as goal

pub tell_field-requires : goal.tell_field-requires
tell_field-requires c =
    let before = take c.loop-v.v-index c.args.numbers.now in
    omega (arith, c.loop-v.invariant.told.place, fields_most_lem before, length-take-le c.loop-v.v-index c.args.numbers.now c.loop-v.auto.v-index-end)

pub loop-v-preserved : goal.loop-v-preserved
loop-v-preserved c = rw (fields_more c.args.numbers.now c.loop-v.v-index c.loop-v-test.true) (tells_then c.loop-v.invariant c.tell_field.ensures)

pub tell_word-requires : goal.tell_word-requires
tell_word-requires c =
    let numbers = c.args.numbers.now in
    let before = take c.loop-w.w-index c.args.words.now in
    omega (arith, c.loop-w.invariant.told.place, length-append (fields_text numbers) (words_text before), fields_most_lem numbers, words-length before, length-take-le c.loop-w.w-index c.args.words.now c.loop-w.auto.w-index-end)

pub loop-w-preserved : goal.loop-w-preserved
loop-w-preserved c = rw (words_more c.args.words.now c.loop-w.w-index c.loop-w-test.true, ← append_assoc) (tells_then c.loop-w.invariant c.tell_word.ensures)

pub tell_byte-requires-2 : goal.tell_byte-requires-2
tell_byte-requires-2 c =
    let numbers = c.args.numbers.now in
    let before = take c.loop-w.w-index c.args.words.now in
    omega (arith, c.loop-w.invariant.told.place, length-append (fields_text numbers) (words_text before), fields_most_lem numbers, words-length before, length-take-le c.loop-w.w-index c.args.words.now c.loop-w.auto.w-index-end)

pub returns : goal.returns
returns c =
    let all = take_all c.loop-w.w-index c.args.words.now c.loop-w-test.false in
    rw (← append_assoc (fields_text c.args.numbers.now)) (tells_then (rw all at c.loop-w.invariant) c.tell_byte-2.ensures)
