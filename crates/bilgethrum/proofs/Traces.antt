-- Read and write for a C host, from the reader's and the writer's promises. Assumes nothing.
use mathlib.Core.Path.{◌≡◌, ap, subst, ◌∙◌}
use mathlib.Core.List.{List}
use Prim.Native.Nat.{ℕ}
use Rattle.std.specs.Prelude.{Result}
use Rattle.refusals.specs.declared.Refusal.{Refusal}
use Rattle.block_image.specs.declared.Trace.{Trace}
use Rattle.block_image.specs.declared.ImageRefusal.{ImageRefusal}
use Rattle.block_columns.specs.Columns.{Columns}
use Rattle.block_reader.specs.Read.{Reads}
use Rattle.block_writer.specs.Write.{Writes}
use Rattle.bilgethrum_values.specs.declared.HostSettings.{HostSettings}
use Rattle.bilgethrum_values.specs.declared.HostReading.{HostReading}
use Rattle.bilgethrum_values.specs.declared.HostWriting.{HostWriting}
use Rattle.bilgethrum_values.specs.Host.{settings_from, host_reading, host_writing}
use Rattle.bilgethrum.specs.Promises.{HostReads, HostWrites}

pub read_by : (image : List ℕ) (before : Columns) (y : Result Trace ImageRefusal) (x : HostReading) (after : Columns) → Reads image before y after
    → x ≡ host_reading y → HostReads image before x after
read_by image before y x after h e =
    record { value = e ∙ ap host_reading h.answer; columns = subst (λ (z : Result Trace ImageRefusal). Reads image before z after) h.answer h }

pub write_by : (asked : HostSettings) (c : Columns) (before : List ℕ) (y : Result ℕ Refusal) (x : HostWriting) (after : List ℕ)
    → Writes (settings_from asked) c before y after → x ≡ host_writing y → HostWrites asked c before x after
write_by asked c before y x after h e =
    record {
      value = e ∙ ap host_writing h.answer;
      image = subst (λ (z : Result ℕ Refusal). Writes (settings_from asked) c before z after) h.answer h;
    }
