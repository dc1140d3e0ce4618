-- An opening for a C host, from the scheduler's. Assumes nothing.
use mathlib.Core.Path.{◌≡◌, refl, ap, subst⁻¹, ◌∙◌}
use Prim.Native.Nat.{ℕ}
use Rattle.room.specs.declared.Room.{Room}
use Rattle.room.specs.Held.{Sized}
use Rattle.scheduler_answers.specs.Answers.{Opened}
use Rattle.scheduler_answers.specs.Values.{opening_number}
use Rattle.scheduler.specs.Machine.{Alike}
use Rattle.scheduler.specs.Promises.{Opens}
use Rattle.scheduler.proofs.Public as public
use Rattle.scheduler_kept.specs.Words.{scheduler_in}
use Rattle.bilgethrum_values.specs.declared.HostSettings.{HostSettings}
use Rattle.bilgethrum_values.specs.Host.{settings_from}
use Rattle.bilgethrum.specs.Promises.{keeping, opened, HostOpens}
use Rattle.bilgethrum.proofs.Kept.{keep_alike}

module _ (asked : HostSettings) (b : Room) (x : Opened) (h : Opens (settings_from asked) x) where
  abbrev kept : (z : Sized b) → Alike (h.kept b z) (scheduler_in (keeping x.scheduler b)) (keeping x.scheduler b)
  kept z = keep_alike x.scheduler b (h.kept b z)

  as_kept : HostOpens asked b (opening_number x.answer) (keeping x.scheduler b)
  as_kept =
      record {
        value = ap (λ (y : Opened). opening_number y.answer) h.value;
        words = ap (λ (y : Opened). keeping y.scheduler b) h.value;
        number = h.number;
        kept = λ z. (kept z).next;
        terms = λ z. (kept z).terms ∙ h.terms b z;
        stands = λ z. (kept z).stands ∙ h.stands b z;
      }

  pub host_opens : (n : ℕ) (left : Room) → n ≡ opening_number x.answer → left ≡ keeping x.scheduler b → HostOpens asked b n left
  host_opens n left e f =
      subst⁻¹ (λ (m : ℕ). HostOpens asked b m left) e
      (subst⁻¹ (λ (l : Room). HostOpens asked b (opening_number x.answer) l) f as_kept)

-- The opening as it is defined.
pub opened-kept : (asked : HostSettings) (b : Room) → HostOpens asked b (opening_number (opened asked).answer) (keeping (opened asked).scheduler b)
opened-kept asked b = as_kept asked b (opened asked) (public.opened (settings_from asked) (opened asked) refl)
