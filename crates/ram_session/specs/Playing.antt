-- The lines of a script done in order, each text put as its line is done
use Rattle.std.specs.Prelude.{◌≡◌, ℕ, List, length, Option, Result, Ok, Err}
use Rattle.std.specs.Io.KnownBytes.{Appends}
use Rattle.outside.specs.Outside.{AppendsFront, Rose}
use Rattle.zone_spec.specs.declared.Zone.{Zone}
use Rattle.zone_spec.specs.Layouts.{IsLayout}
use Rattle.zone_spec.specs.Parts.{AreBytes}
use Rattle.machine_spec.specs.States.{Session}
use Rattle.machine_spec.specs.Off.{fresh}
use Rattle.ramoops.specs.OffSeen.{OffSeen, StandsOff}
use Rattle.grammar_spec.specs.Fields.{Text}
use Rattle.grammar_spec.specs.declared.line.Line.{Line}
use Rattle.script_spec.specs.declared.LineStop.{LineStop}
use Rattle.script_spec.specs.declared.LineStop.TheVariants.{Memory, StoreFault, SinkFault, Refused}
use Rattle.script_spec.specs.Playing.{Played, PlayStop}
use Rattle.ram_session.specs.Sessions.{Stands}
use Rattle.ram_session.specs.Kernels.{DumpsAlike}
use Rattle.ram_session.specs.Machines.{store_of, MachineDone, MachineRefused, MachineTakes}
use Rattle.ram_session.specs.declared.machine.Machine.{Machine}

-- a line was done and its text put, whole or in part
pub record Puts (old : Machine) (line : Line) (new : Machine) (given given' : Option (List ℕ)) : Type 0 where
  pub text : Text
  pub done : MachineDone old line new text
  pub put : Appends given given' text

pub record PutsPart (old : Machine) (line : Line) (given given' : Option (List ℕ)) : Type 0 where
  pub new : Machine
  pub text : Text
  pub done : MachineDone old line new text
  pub put : AppendsFront given given' text

-- why a line of this number was not done or not put
abbrev pub LineStops : LineStop → Machine → Line → ℕ → Option (List ℕ) → Option (List ℕ) → ℕ → ℕ → Type 0
LineStops Memory old line number given given' faults faults' = (given' ≡ given) × MachineTakes old line
LineStops StoreFault old line number given given' faults faults' = ⊥
LineStops SinkFault old line number given given' faults faults' = Rose faults faults' × PutsPart old line given given'
LineStops (Refused n cause) old line number given given' faults faults' =
    (n ≡ number) × (given' ≡ given) × MachineRefused old line cause

-- a store of which nothing is known stands for this image
pub record StandsFresh (layout : List Zone) (mem : ℕ) (image : List ℕ) (off : OffSeen) : Type 0 where
  pub lies : IsLayout layout mem
  pub alike : DumpsAlike layout
  pub size : length image ≡ mem
  pub bytes : AreBytes image
  pub stands : StandsOff layout mem off (fresh layout image)

-- all lines were done, and the machine stands for the state that they leave
pub record PlaysAll (layout : List Zone) (mem : ℕ) (image : List ℕ) (lines : List Line) (machine : Machine)
    (given given' : Option (List ℕ)) : Type 0 where
  pub session : Session
  pub stands : Stands layout mem (store_of machine) session
  pub played : Played layout image lines session given given'

-- a script on a store, for each image for which that stands
abbrev pub Plays : OffSeen → List Line → Option (List ℕ) → Option (List ℕ) → ℕ → ℕ → Result Machine LineStop → Type 0
Plays off lines given given' faults faults' (Ok machine) = (layout : List Zone) (mem : ℕ) (image : List ℕ)
    → StandsFresh layout mem image off → PlaysAll layout mem image lines machine given given'
Plays off lines given given' faults faults' (Err stop) = (layout : List Zone) (mem : ℕ) (image : List ℕ)
    → StandsFresh layout mem image off → PlayStop stop layout image lines given given' faults faults'
