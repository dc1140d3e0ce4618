-- What a host keeps in the room's own words, no call reads or changes; so scheduler and room come from an opening as before. Assumes nothing.
use mathlib.Core.Path.{◌≡◌, refl, sym, ap, ◌∙◌}
use mathlib.Core.List.{List, [], ◌∷◌}
use mathlib.Core.Option.{Option, none, some}
use Prim.Native.Nat.{ℕ}
use Rattle.refusals.specs.declared.Refusal.{Refusal}
use Rattle.refusals.specs.First.{first_refusal}
use Rattle.units.specs.declared.Instant.{Instant}
use Rattle.units.specs.declared.Marking.TheVariants.{Unmarked, Marked}
use Rattle.units.specs.declared.Marking.{Marking}
use Rattle.rules.specs.Step.{Call, arrive, advance}
use Rattle.room.specs.declared.Packet.{Packet}
use Rattle.room.specs.declared.Room.{Room}
use Rattle.room.specs.Room.{with_kept, with_packet}
use Rattle.room.proofs.Keeping.{
  sized-kept,
  packet-past-kept,
  number-past-kept,
  difference_past_kept,
  kept-past-packet,
  kept_past_entry,
}
use Rattle.scheduler_state.specs.declared.Scheduler.{Scheduler}
use Rattle.scheduler_state.specs.Counts.{admissions_of}
use Rattle.scheduler_state.specs.Pick.{by_marking}
use Rattle.scheduler_refusals.specs.Refusals.{advance_tests}
use Rattle.scheduler_admission.specs.Admit.{admit_entry, admit_room}
use Rattle.scheduler_decision.specs.Decide.{start_first, decide_of}
use Rattle.scheduler_answers.specs.Packets.{packet_of}
use Rattle.scheduler.specs.Calls.{open_of, arrival_refusal, arrive_of, arriving, arriving_room, arrive_room, advancing, advance_of}
use Rattle.scheduler.specs.Machine.{bytes, instant, made, scheduler_after, room_after, FromOpening}
use Rattle.scheduler.specs.Promises.{MayKeep}

module _ (k : ℕ) (ws : List ℕ) where
  refusal-kept : (s : Scheduler) (r : Room) (p : Packet) → arrival_refusal s (with_kept r k ws) p ≡ arrival_refusal s r p
  refusal-kept s r p = simp (packet-past-kept r k ws)

  entry_kept : (s : Scheduler) (r : Room) (p : Packet) → admit_entry s (with_kept r k ws) p ≡ with_kept (admit_entry s r p) k ws
  unfolding admit_entry
  entry_kept s r p = simp (kept_past_entry r k ws)

  by-marking : (s : Scheduler) (r : Room) (p : Packet) (μ : Marking)
      → by_marking μ (admit_entry s (with_kept r k ws) p) (with_kept r k ws) ≡ with_kept (by_marking μ (admit_entry s r p) r) k ws
  by-marking s r p Unmarked = entry_kept s r p
  by-marking s r p Marked = refl

  admit_kept : (s : Scheduler) (r : Room) (p : Packet) → admit_room s (with_kept r k ws) p ≡ with_kept (admit_room s r p) k ws
  unfolding admit_room
  admit_kept s r p =
      rw (kept-past-packet r k ws (admissions_of s.tallies) p) (by-marking s (with_packet r (admissions_of s.tallies) p) p p.marking)

  arrive-kept : (s : Scheduler) (r : Room) (p : Packet) → arrive_of s (with_kept r k ws) p ≡ arrive_of s r p
  unfolding arrive_of
  arrive-kept s r p = ap (λ (o : Option Refusal). arriving o s p) (refusal-kept s r p)

  arriving-kept : (o : Option Refusal) (s : Scheduler) (r : Room) (p : Packet)
      → arriving_room o s (with_kept r k ws) p ≡ with_kept (arriving_room o s r p) k ws
  arriving-kept none s r p = admit_kept s r p
  arriving-kept (some n) s r p = refl

  room-kept : (s : Scheduler) (r : Room) (p : Packet) → arrive_room s (with_kept r k ws) p ≡ with_kept (arrive_room s r p) k ws
  unfolding arrive_room
  room-kept s r p =
      ap (λ (o : Option Refusal). arriving_room o s (with_kept r k ws) p) (refusal-kept s r p) ∙ arriving-kept (arrival_refusal s r p) s r p

  advancing-kept : (o : Option Refusal) (s : Scheduler) (r : Room) (at : Instant) → advancing o s (with_kept r k ws) at ≡ advancing o s r at
  unfolding decide_of start_first
  advancing-kept none s r at = simp (packet-past-kept r k ws, number-past-kept r k ws, difference_past_kept r k ws)
  advancing-kept (some n) s r at = refl

  advance-kept : (s : Scheduler) (r : Room) (at : Instant) → advance_of s (with_kept r k ws) at ≡ advance_of s r at
  unfolding advance_of
  advance-kept s r at = advancing-kept (first_refusal (advance_tests s.clock at)) s r at

  scheduler-same : (s : Scheduler) (r : Room) (c : Call) → (made s (with_kept r k ws) c).scheduler ≡ (made s r c).scheduler
  scheduler-same s r (arrive μ len place t) = rw (arrive-kept s r (packet_of μ (bytes len) place (instant t)))
  scheduler-same s r (advance t) = rw (advance-kept s r (instant t))

  room-same : (s : Scheduler) (r : Room) (c : Call) → (made s (with_kept r k ws) c).room ≡ with_kept (made s r c).room k ws
  room-same s r (arrive μ len place t) = room-kept s r (packet_of μ (bytes len) place (instant t))
  room-same s r (advance t) = refl

  -- The same over a list of calls.
  schedulers_same : (s : Scheduler) (r : Room) (cs : List Call) → scheduler_after s (with_kept r k ws) cs ≡ scheduler_after s r cs
  unfolding scheduler_after
  schedulers_same s r [] = refl
  schedulers_same s r (c ∷ cs) =
      rw (scheduler-same s r c, room-same s r c) (schedulers_same (made s r c).scheduler (made s r c).room cs)

  rooms_same : (s : Scheduler) (r : Room) (cs : List Call) → room_after s (with_kept r k ws) cs ≡ with_kept (room_after s r cs) k ws
  unfolding room_after
  rooms_same s r [] = refl
  rooms_same s r (c ∷ cs) = rw (scheduler-same s r c, room-same s r c) (rooms_same (made s r c).scheduler (made s r c).room cs)

kept_from_lem : (s : Scheduler) (r : Room) (o : FromOpening s r) (k : ℕ) (ws : List ℕ) → FromOpening s (with_kept r k ws)
kept_from_lem s r o k ws =
    record {
      settings = o.settings;
      lent = with_kept o.lent k ws;
      calls = o.calls;
      sized = sized-kept o.lent k ws o.sized;
      scheduler = o.scheduler ∙ sym (schedulers_same k ws (open_of o.settings).scheduler o.lent o.calls);
      room =
          ap (λ (x : Room). with_kept x k ws) o.room
          ∙ sym (rooms_same k ws (open_of o.settings).scheduler o.lent o.calls);
    }

pub may_keep : MayKeep
unfolding kept_from_lem
may_keep s r o k ws = record { next = kept_from_lem s r o k ws; terms = refl; stands = refl }
