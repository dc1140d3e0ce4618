-- Each promise for C hosts leaves one possible answer and one content of what is lent. Assumes nothing.
use mathlib.Core.Path.{sym, ◌∙◌}
use Rattle.block_reader.proofs.Unique.{one_reading}
use Rattle.block_writer.proofs.Unique.{one_writing}
use Rattle.bilgethrum.specs.Unique.{OneHostOpening, OneHostArrival, OneHostAdvance, OneHostReading, OneHostWriting}

pub one_host_opening : OneHostOpening
one_host_opening asked b n m left other h k = (h.value ∙ sym k.value, h.words ∙ sym k.words)

pub one_host_arrival : OneHostArrival
one_host_arrival b p x y left other h k = (h.value ∙ sym k.value, h.words ∙ sym k.words)

pub one_host_advance : OneHostAdvance
one_host_advance b at x y left other h k = (h.value ∙ sym k.value, h.words ∙ sym k.words)

pub one_host_reading : OneHostReading
one_host_reading image c x y left other h k = (h.value ∙ sym k.value, (one_reading image c _ _ left other h.columns k.columns).1)

pub one_host_writing : OneHostWriting
one_host_writing asked c b x y left other h k = (h.value ∙ sym k.value, (one_writing _ c b _ _ left other h.image k.image).1)
