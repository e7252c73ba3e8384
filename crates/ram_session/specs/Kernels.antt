-- The kernel of a live machine, and the room of a crash
use Rattle.std.specs.Prelude.{◌≡◌, true, false, ℕ, ◌-◌, List, length, slice_get, Option, Some, None}
use Rattle.std.specs.List.{find}
use Rattle.zone_spec.specs.declared.Zone.{Zone}
use Rattle.zone_spec.specs.declared.Time.{Time}
use Rattle.zone_spec.specs.declared.Kind.TheVariants.{Dump as DumpKind}
use Rattle.zone_spec.specs.Records.{is_of}
use Rattle.zone_spec.specs.TimeLines.{line_text}
use Rattle.kmsg_dump.specs.Kept.{Keeps}
use Rattle.script_spec.specs.Scripts.{Kernel as KernelOf, log_limit}
use Rattle.ram_session.specs.declared.kernel.Kernel.{Kernel}

-- a kernel stands for one of the definitions
pub record StandsForKernel (seen : Kernel) (kernel : KernelOf) : Type 0 where
  pub log : Keeps seen.log kernel.printed
  pub limit : seen.log.capacity ≡ log_limit
  pub crashes : seen.crashes ≡ kernel.crashes

-- all dump zones of a layout have one capacity
abbrev pub DumpsAlike : List Zone → Type 0
DumpsAlike layout = (i j : ℕ) (y z : Zone) → slice_get layout i ≡ Some y → slice_get layout j ≡ Some z
    → is_of DumpKind y.name.kind ≡ true → is_of DumpKind z.name.kind ≡ true → y.cap ≡ z.cap

-- what is left for a dump's body in this zone
abbrev pub left_in : Option Zone → Time → ℕ
left_in None time = 0
left_in (Some z) time = z.cap - length (line_text time false)

-- the same in the first dump zone
abbrev pub first_room : List Zone → Time → ℕ
first_room layout time = left_in (find (λ (z : Zone). is_of DumpKind z.name.kind) layout) time
