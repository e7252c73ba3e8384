-- What is so of every machine that is off
use Rattle.zone_spec.specs.Layouts.{IsLayout}
use Rattle.machine_spec.specs.States.{OffState, Off}
use Rattle.machine_spec.specs.Sound.{IsState}
use Rattle.ramoops.specs.OffSeen.{OffSeen, StandsOff}

-- the machine stands for some sound state
pub record IsResting (v : OffSeen) : Type 0 where
  pub lies : IsLayout v.layout v.mem
  pub state : OffState
  pub stands : StandsOff v.layout v.mem v state
  pub sound : IsState v.layout v.mem (Off state)
