-- The words that a host keeps in the room: they are read back, and neither they nor what the room holds for the scheduler touch each other.
-- Assumes nothing.
use mathlib.Core.Path.{◌≡◌, refl, ◌∙◌}
use mathlib.Core.List.{List}
use Prim.Native.Nat.{ℕ, ◌+◌, ◌≤◌, ◌<◌}
use native.Mathlib.Omega.{arith}
use lib.ListN.{length, get_or}
use Rattle.room.specs.declared.Packet.{Packet}
use Rattle.room.specs.declared.Room.{Room}
use Rattle.room.specs.Room.{kept_words, packet_at, number_at, difference_at, with_packet, with_difference, kept_at, with_kept}
use Rattle.room.specs.Held.{Sized}
use Rattle.room.proofs.Words.{laid-length, laid-there}

module _ (r : Room) (k : ℕ) (ws : List ℕ) where
  pub sized-kept : Sized r → Sized (with_kept r k ws)
  unfolding with_kept
  sized-kept z = record { packets = z.packets; entries = z.entries; kept = laid-length r.kept k ws ∙ z.kept }

  -- Each is read back in its place.
  pub kept_there : (n : ℕ) → n < length ws → k + length ws ≤ kept_words → Sized r → kept_at (with_kept r k ws) (k + n) ≡ get_or ws n 0
  unfolding kept_at with_kept
  kept_there n a b z = laid-there r.kept k ws n a (omega (arith, z.kept))

  -- What is kept changes nothing that the scheduler reads.
  pub packet-past-kept : (j : ℕ) → packet_at (with_kept r k ws) j ≡ packet_at r j
  unfolding packet_at with_kept
  packet-past-kept j = refl

  pub number-past-kept : (j : ℕ) → number_at (with_kept r k ws) j ≡ number_at r j
  unfolding number_at with_kept
  number-past-kept j = refl

  pub difference_past_kept : (j : ℕ) → difference_at (with_kept r k ws) j ≡ difference_at r j
  unfolding difference_at with_kept
  difference_past_kept j = refl

  -- It may be kept before or after a packet is put, and entered in the difference queue.
  pub kept-past-packet : (number : ℕ) (p : Packet) → with_packet (with_kept r k ws) number p ≡ with_kept (with_packet r number p) k ws
  unfolding with_packet with_kept
  kept-past-packet number p = refl

  pub kept_past_entry : (rank number less : ℕ) → with_difference (with_kept r k ws) rank number less ≡ with_kept (with_difference r rank number less) k ws
  unfolding with_difference with_kept
  kept_past_entry rank number less = refl
