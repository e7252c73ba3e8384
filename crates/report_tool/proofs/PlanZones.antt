-- The zones of a plan are whole, few and numbered
use Rattle.std.proofs.Common.{◌≡◌, ℕ, ◌^◌, ◌<◌, List, length, Ok, arith}
use Rattle.zone_spec.specs.declared.Zone.{Zone}
use Rattle.zone_spec.specs.declared.params.Params.{Params}
use Rattle.zone_spec.specs.Layouts.{IsLayout}
use Rattle.zone_spec.specs.Layout.{layout_of}
use Rattle.ramoops_layout.proofs.WholeLayout.{whole_layout, layout_mem_small}
use Rattle.prz_read.specs.Saving.{AreNumbered}
use Rattle.prz_read.proofs.Saves.{layout-few}
use Rattle.prz_read.proofs.ZoneNumbers.{numbers-small}

pub record IsWhole (zones : List Zone) (mem : ℕ) : Type 0 where
  pub layout : IsLayout zones mem
  pub few : length zones < 2 ^ 32
  pub numbered : AreNumbered zones

pub whole : (p : Params) (zones : List Zone) → p.ftrace_sig < 2 ^ 32 → layout_of p ≡ Ok zones → IsWhole zones p.mem
whole p zones tag h =
    let laid = whole_layout p zones tag h in
    let short : length zones < 2 ^ 32 =
    omega (arith, layout-few zones p.mem laid, layout_mem_small p zones h) in
    record { layout = laid; few = short; numbered = numbers-small p zones h short }
