-- What a C host hands over and is handed, in the terms of the calls: numbers that an answer has no use for are 0. Assumes nothing.
use Rattle.std.proofs.Math.Option as math
use Rattle.std.specs.Prelude.{ℕ, min, get_or, Option, Result}
use Rattle.refusals.specs.declared.Refusal.{Refusal}
use Rattle.units.specs.declared.Settings.{Settings}
use Rattle.units.specs.declared.Marking.{Marking}
use Rattle.room.specs.declared.Packet.{Packet}
use Rattle.units.specs.Codes.{code_of, marking_of}
use Rattle.scheduler_state.specs.declared.Tallies.{Tallies}
use Rattle.scheduler_answers.specs.declared.Admitted.{Admitted}
use Rattle.scheduler_answers.specs.declared.Start.{Start}
use Rattle.scheduler_answers.specs.Values.{admission_numbers, advance_numbers, tally_values, handed}
use Rattle.block_image.specs.declared.Trace.{Trace}
use Rattle.block_image.specs.declared.ImageRefusal.{ImageRefusal}
use Rattle.block_reader.specs.Values.{reading_values}
use Rattle.block_writer.specs.Values.{writing_values}
use Rattle.marker.specs.Values.{opening_number, answer_values}
use Rattle.bilgethrum_values.specs.declared.HostSettings.{HostSettings}
use Rattle.bilgethrum_values.specs.declared.HostPacket.{HostPacket}
use Rattle.bilgethrum_values.specs.declared.HostArrival.{HostArrival}
use Rattle.bilgethrum_values.specs.declared.HostDecision.{HostDecision}
use Rattle.bilgethrum_values.specs.declared.HostTallies.{HostTallies}
use Rattle.bilgethrum_values.specs.declared.HostReading.{HostReading}
use Rattle.bilgethrum_values.specs.declared.HostWriting.{HostWriting}
use Rattle.bilgethrum_values.specs.declared.HostMarking.{HostMarking}

-- The settings asked for. Ticks per byte beyond 16 bits count as the most of 16 bits: both are out of range.
abbrev pub settings_from : HostSettings → Settings
settings_from h = record { alpha = record { 0 = h.alpha }; ticks_per_byte = min h.ticks_per_byte 65535 }

-- Settings that are handed over.
abbrev pub host_settings : Settings → HostSettings
host_settings s = record { alpha = s.alpha.0; ticks_per_byte = s.ticks_per_byte }

-- The packet asked for: 0 is unmarked, any other number marked.
abbrev pub packet_from : HostPacket → Packet
packet_from h =
    record {
      marking = marking_of h.marked;
      length = record { 0 = h.length };
      place = h.place;
      arrival = record { 0 = h.arrival };
    }

-- A packet that is handed back, and the numbers where there is none.
abbrev pub host_packet : Packet → HostPacket
host_packet p = record { arrival = p.arrival.0; length = p.length.0; place = p.place; marked = code_of p.marking }

abbrev pub packet_or : math.Option Packet → HostPacket
packet_or math.none = record { arrival = 0; length = 0; place = 0; marked = 0 }
packet_or (math.some p) = host_packet p

-- An arrival's answer: its refusal, number and extra delay.
abbrev pub host_arrival : Result Admitted Refusal → HostArrival
host_arrival a =
    record { refusal = get_or (admission_numbers a) 0 0; number = get_or (admission_numbers a) 1 0; extra = get_or (admission_numbers a) 3 0 }

-- An advance's answer: its five numbers, and the packet that starts.
abbrev pub host_decision : Result (Option Start) Refusal → HostDecision
host_decision o =
    record {
      refusal = get_or (advance_numbers o) 0 0;
      number = get_or (advance_numbers o) 1 0;
      start = get_or (advance_numbers o) 2 0;
      extra = get_or (advance_numbers o) 3 0;
      dropped = get_or (advance_numbers o) 4 0;
      packet = packet_or (handed o);
    }

-- The five tallies, behind the letter of their line.
abbrev pub host_tallies : Tallies → HostTallies
host_tallies t =
    record {
      unmarked_admitted = get_or (tally_values t) 1 0;
      marked_admitted = get_or (tally_values t) 2 0;
      unmarked_started = get_or (tally_values t) 3 0;
      marked_started = get_or (tally_values t) 4 0;
      marked_dropped = get_or (tally_values t) 5 0;
    }

-- A read's answer: its refusal, block, record, events and settings.
abbrev pub host_reading : Result Trace ImageRefusal → HostReading
host_reading y =
    record {
      refusal = get_or (reading_values y) 0 0;
      block = get_or (reading_values y) 1 0;
      «record» = get_or (reading_values y) 2 0;
      events = get_or (reading_values y) 3 0;
      settings = record { alpha = get_or (reading_values y) 4 0; ticks_per_byte = get_or (reading_values y) 5 0 };
    }

-- A write's answer: its refusal, and how many bytes the image takes.
abbrev pub host_writing : Result ℕ Refusal → HostWriting
host_writing y = record { refusal = get_or (writing_values y) 0 0; bytes = get_or (writing_values y) 1 0 }

-- The number of a marker's opening.
abbrev pub host_marker_opening : Result (Unit {0}) Refusal → ℕ
host_marker_opening o = opening_number o

-- The answer to a packet at the door: its refusal, and 1 if it is marked.
abbrev pub host_marking : Result Marking Refusal → HostMarking
host_marking a = record { refusal = get_or (answer_values a) 0 0; marked = get_or (answer_values a) 1 0 }
