-- The headline by told lists: however the stores of calls interleave over the zones, stopped after any store, then
-- damaged in each sound block and header by at most half the parity, the next boot reads from each idle zone exactly
-- what it was told, in order; in a cut zone only touched blocks and the header, both reported, may make a difference
use Rattle.std.specs.Prelude.{◌≡◌, ℕ, List, Some}
use Rattle.zone_spec.specs.declared.Zone.{Zone}
use Rattle.zone_spec.specs.Told.{Call}
use Rattle.zone_spec.specs.Cut.{Cut, ByCall}
use Rattle.zone_spec.specs.Layouts.{IsLayout}
use Rattle.machine_spec.specs.States.{OffZone, OffState, Off}
use Rattle.machine_spec.specs.Sound.{IsState, IsReached}
use Rattle.machine_spec.specs.Headline.{EachOffZone, ReadsLastWritten}
use Rattle.damage_laws.specs.Exact.{ReportsCall}

-- a zone reads so, and where a stop cut its call, its report has the cut, exactly
pub record ReadsAndReports (z : Zone) (zone : OffZone) (now : List ℕ) : Type 0 where
  pub reads : ReadsLastWritten z zone now
  pub reported : (cut : Cut) (call : Call) → zone.cut ≡ Some cut → cut.by ≡ ByCall call → ReportsCall z zone now cut

-- of every state off that a session reaches
abbrev pub Headline : Type 0
Headline = (layout : List Zone) (mem : ℕ) (off : OffState) → IsLayout layout mem → IsReached layout mem (Off off)
    → EachOffZone layout off ReadsAndReports

-- of every sound state off, as each call that boots can promise it
abbrev pub SoundStateReadsLastWritten : Type 0
SoundStateReadsLastWritten = (layout : List Zone) (mem : ℕ) (off : OffState) → IsLayout layout mem
    → IsState layout mem (Off off) → EachOffZone layout off ReadsAndReports
