-- The machine that is off stands for the stopped state: joined image, told lists, and each flight
-- as a cut. For `Live::stop`.
use Rattle.std.proofs.Common.{◌≡◌, List, length, map, sym, ◌∙◌, subst, arith}
use Rattle.ramoops_layout.specs.Laid.{zones_of}
use Rattle.ramoops.specs.declared.known.KnownZone.{KnownZone}
use Rattle.ramoops.specs.OffSeen.{known_all}
use Rattle.ramoops.specs.Stopped.{stop_zone}
use Rattle.ramoops.proofs.KnownZones.{all_listed}
use Rattle.ramoops.proofs.StopStates.{stopped_stands, stopped_sizes, stopped_rests}
use Rattle.ramoops.specs.LiveSeen.{LiveSeen, StandsLive}
use Rattle.ramoops.proofs.live.Live.stop.Goals as goal
use Rattle.ramoops.proofs.live.Live.stop.Goals.{After-stop_all}

-- what is known of all zones
abbrev known : After-stop_all → List KnownZone
known c = known_all (length (zones_of c.self.inside.layout)) c.stop_all.result.items

stops : (c : After-stop_all) → known c ≡ map stop_zone c.self.inside.zones.items
stops c = all_listed (length (zones_of c.self.inside.layout)) c.stop_all.result.items
    (stopped_sizes _ c.self.invariant.0 c.into_bytes.result c.stop_all.result.items
    (c.into_bytes.ensures ∙ c.join.ensures) c.stop_all.ensures).1 ∙ c.stop_all.ensures

pub invariant_of-result : goal.invariant_of-result
invariant_of-result c =
    let sizes = stopped_sizes _ c.self.invariant.0 c.into_bytes.result c.stop_all.result.items
    (c.into_bytes.ensures ∙ c.join.ensures) c.stop_all.ensures in
    let all = sizes.1 in (
      sizes.0,
      omega (arith, all),
      stopped_rests _ c.self.invariant.0 c.into_bytes.result (known (goal.at.invariant_of-result c).After-stop_all)
          (c.into_bytes.ensures ∙ c.join.ensures) (stops (goal.at.invariant_of-result c).After-stop_all),
    )

pub returns : goal.returns
returns c layout mem s stands =
    stopped_stands _ c.self.invariant.0 c.into_bytes.result (known (goal.at.returns c).After-stop_all)
    (c.into_bytes.ensures ∙ c.join.ensures) (stops (goal.at.returns c).After-stop_all) layout mem s
    (subst (λ (v : LiveSeen). StandsLive layout mem v s) (sym c.self.view_is) stands)
