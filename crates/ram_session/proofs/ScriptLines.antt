-- A script's lines, done one by one by the machine
use Rattle.std.proofs.Common.{◌≡◌, ℕ, ◌+◌, ◌<◌, ◌≤◌, List, length, get_or, Option, refl, sym, subst, arith}
use Rattle.zone_spec.specs.declared.Zone.{Zone}
use Rattle.machine_spec.specs.States.{Session, Off as OffOf}
use Rattle.machine_spec.specs.Off.{fresh}
use Rattle.machine_spec.specs.Sound.{IsState}
use Rattle.ramoops.specs.OffSeen.{OffSeen}
use Rattle.grammar_spec.specs.declared.line.Line.{Line}
use Rattle.grammar_spec.specs.Printed.{AllHaveFields}
use Rattle.script_spec.specs.Scripts.{Kernel, new_kernel}
use Rattle.script_spec.specs.declared.LineStop.{LineStop}
use Rattle.script_spec.specs.declared.LineStop.TheVariants.{Memory, StoreFault, SinkFault, Refused}
use Rattle.script_laws.specs.Scripts.{ScriptStatesAreSound}
use Rattle.script_spec.specs.Playing.{PlayedTo, PlayStop}
use Rattle.script_laws.proofs.Play.{played_none, played_on, played_all, stopped_taking, stopped_refused, stopped_put}
use Rattle.ram_session.specs.Sessions.{Stands}
use Rattle.ram_session.specs.Machines.{store_of, HasKernel}
use Rattle.ram_session.specs.Playing.{Puts, LineStops, StandsFresh, PlaysAll}
use Rattle.ram_session.specs.declared.machine.Machine.{Machine}
use Rattle.ram_session.specs.declared.machine.Machine.TheVariants.{Off}

-- the machine stands for the state behind the first i lines
pub record PlaysTo (layout : List Zone) (mem : ℕ) (image : List ℕ) (lines : List Line) (i : ℕ) (machine : Machine)
    (given given' : Option (List ℕ)) : Type 0 where
  pub session : Session
  pub kernel : Kernel
  pub stands : Stands layout mem (store_of machine) session
  pub has : HasKernel machine kernel
  pub played : PlayedTo layout image lines i session kernel given given'

abbrev pub PlaysSoFar : Machine → List Line → ℕ → Machine → Option (List ℕ) → Option (List ℕ) → Type 0
PlaysSoFar first lines i machine given given' = (off : OffSeen) → first ≡ Off off
    → (layout : List Zone) (mem : ℕ) (image : List ℕ) → StandsFresh layout mem image off
    → PlaysTo layout mem image lines i machine given given'

pub plays_none : (off : OffSeen) (lines : List Line) (given : Option (List ℕ))
    → PlaysSoFar (Off off) lines 0 (Off off) given given
plays_none off lines given other is layout mem image f =
    record {
      session = OffOf (fresh layout image);
      kernel = new_kernel;
      stands = subst
          (λ (m : Machine). Stands layout mem (store_of m) (OffOf (fresh layout image))) (sym is) f.stands;
      has = subst (λ (m : Machine). HasKernel m new_kernel) (sym is) refl;
      played =
          played_none layout image lines given;
    }

module _ (sound : ScriptStatesAreSound) (first : Machine) (lines : List Line) (fields : AllHaveFields lines) (i : ℕ)
    (line : Line) (below : i < length lines) (is : line ≡ get_or lines i line) (machine : Machine)
    (a b : Option (List ℕ)) (so_far : PlaysSoFar first lines i machine a b) where
  state : (off : OffSeen) (layout : List Zone) (mem : ℕ) (image : List ℕ) → StandsFresh layout mem image off
      → (p : PlaysTo layout mem image lines i machine a b) → IsState layout mem p.session
  state off layout mem image f p = subst (λ (s : Session). IsState layout mem s) p.played.so_far.state
      (sound layout mem image lines f.lies f.size f.bytes fields i)

  pub plays_next : (next : Machine) (c : Option (List ℕ)) → Puts machine line next b c
      → PlaysSoFar first lines (i + 1) next a c
  plays_next next c puts off start layout mem image f =
      let p = so_far off start layout mem image f in
      let l = puts.done layout mem p.session p.kernel f.lies f.alike p.stands p.has
      (state off layout mem image f p) in
      record {
        session = l.next;
        kernel = l.kernel;
        stands = l.stands;
        has = l.has;
        played = played_on layout image lines i line p.session l.next p.kernel l.kernel
            puts.text puts.text a b c below is p.played l.done refl puts.put;
      }

  pub plays_stop : (stop : LineStop) (c : Option (List ℕ)) (g g0 h : ℕ) → g0 ≤ g
      → LineStops stop machine line (i + 1) b c g h → (off : OffSeen) → first ≡ Off off
      → (layout : List Zone) (mem : ℕ) (image : List ℕ) → StandsFresh layout mem image off
      → PlayStop stop layout image lines a c g0 h
  plays_stop Memory c g g0 h le stop off start layout mem image f =
      let p = so_far off start layout mem image f in
      let w = stop.1.wanted layout mem p.session p.kernel f.lies f.alike p.stands p.has
      (state off layout mem image f p) in
      rw stop.0 (stopped_taking layout image lines i line w.wants p.session p.kernel a b below is p.played w.is
      stop.1.takes)
  plays_stop SinkFault c g g0 h le put off start layout mem image f =
      let p = so_far off start layout mem image f in
      let l = put.1.done layout mem p.session p.kernel f.lies f.alike p.stands p.has
      (state off layout mem image f p) in (
        omega (arith, le, put.0),
        stopped_put layout image lines i line p.session l.next p.kernel l.kernel put.1.text put.1.text a b c
            below is p.played l.done refl put.1.put,
      )
  plays_stop (Refused n cause) c g g0 h le stop off start layout mem image f =
      let p = so_far off start layout mem image f in
      rw (stop.0, stop.1) (stopped_refused layout image lines i line cause p.session p.kernel a b below is p.played
      (stop.2 layout mem p.session p.kernel f.lies f.alike p.stands p.has
      (state off layout mem image f p)))
  plays_stop StoreFault c g g0 h le stop off start layout mem image f = absurd stop

pub plays_all : (off : OffSeen) (lines : List Line) (i : ℕ) (machine : Machine) (a b : Option (List ℕ))
    → length lines ≤ i → PlaysSoFar (Off off) lines i machine a b → (layout : List Zone) (mem : ℕ) (image : List ℕ)
    → StandsFresh layout mem image off → PlaysAll layout mem image lines machine a b
plays_all off lines i machine a b all so_far layout mem image f =
    let p = so_far off refl layout mem image f in
    record {
      session = p.session;
      stands = p.stands;
      played = played_all layout image lines i p.session p.kernel a b all
          p.played;
    }
