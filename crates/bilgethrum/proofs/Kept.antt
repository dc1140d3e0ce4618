-- A scheduler that is kept in the words of its room: both still come from an opening, and stand for the same line. Assumes nothing.
use mathlib.Core.Path.{◌≡◌, subst⁻¹, ◌∙◌}
use mathlib.Core.List.{List}
use mathlib.Core.Option.{Option}
use Prim.Native.Nat.{ℕ}
use native.Mathlib.Omega.{arith}
use Rattle.rules.specs.Step.{Call}
use Rattle.room.specs.declared.Packet.{Packet}
use Rattle.room.specs.declared.Room.{Room}
use Rattle.scheduler_state.specs.declared.Scheduler.{Scheduler}
use Rattle.scheduler.specs.Machine.{FromOpening, Alike}
use Rattle.scheduler.specs.Steps.{Steps}
use Rattle.scheduler.proofs.Premise.{stands}
use Rattle.scheduler.proofs.Kept.{may_keep}
use Rattle.scheduler_kept.specs.Words.{scheduler_words, scheduler_in}
use Rattle.scheduler_kept.proofs.Back.{kept_back}
use Rattle.bilgethrum.specs.Promises.{keeping}

pub keep_alike : (s : Scheduler) (r : Room) (o : FromOpening s r) → Alike o (scheduler_in (keeping s r)) (keeping s r)
keep_alike s r o =
    let h = stands s r o in
    let back : scheduler_in (keeping s r) ≡ s = kept_back r s h.represents.sized (omega (arith, h.range.ticks_most)) in
    subst⁻¹ (λ (v : Scheduler). Alike o v (keeping s r)) back (may_keep s r o 0 (scheduler_words s))

-- A step to what stands for the same line.
pub steps_on : {s : Scheduler} {r : Room} {o : FromOpening s r} {c : Call} {printed given : List ℕ} {handed : Option Packet}
    {s' s'' : Scheduler} {r' r'' : Room} (x : Steps o c printed given handed s' r')
    → Alike x.next s'' r'' → Steps o c printed given handed s'' r''
steps_on x a =
    record {
      line = x.line;
      numbers = x.numbers;
      packet = x.packet;
      next = a.next;
      terms = a.terms ∙ x.terms;
      stands = a.stands ∙ x.stands;
    }
