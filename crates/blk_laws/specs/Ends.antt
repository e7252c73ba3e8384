-- What the calls answer and leave, as calls of a session
use Rattle.std.specs.Prelude.{◌≡◌, ℕ, ◌<◌, Bool, List, [], Option, Some, None, IfSome, Result, Ok, Err}
use Rattle.blk_spec.specs.declared.BlkLayout.{BlkLayout}
use Rattle.blk_spec.specs.declared.BlkRing.{BlkRing}
use Rattle.blk_spec.specs.declared.BlkTime.{BlkTime}
use Rattle.blk_spec.specs.declared.BlkName.{BlkName}
use Rattle.blk_spec.specs.declared.BlkFault.{BlkFault}
use Rattle.blk_spec.specs.declared.BlkFault.TheVariants.{NoZone as NoZoneFault, NoRecord as NoRecordFault, StoreFault}
use Rattle.blk_spec.specs.declared.BlkFault.TheVariants.{Memory}
use Rattle.kmsg_spec.specs.declared.Reason.{Reason}
use Rattle.blk_spec.specs.Layout.{ring_zone, capacity}
use Rattle.blk_spec.specs.States.{BlkState, append_refusal, append_of, appended, dump_refusal, dump_of, dump_pieces_of}
use Rattle.blk_spec.specs.States.{dumped, erase_refusal, erase_of, erased, ring_of}
use Rattle.blk_spec.specs.Answers.{Device, FailsWithin, Answers, Loads}
use Rattle.blk_spec.specs.Session.{Session, Operation, Load, Append, Dump, Erase, Cause, NoZone, NoRecord, cause_of}
use Rattle.blk_spec.specs.Session.{Outcome, Done, Fails, NoMemory, call_after}
use Rattle.blk_laws.specs.Sessions.{append_call, IsHarmless}

-- a call that answered so has this cause and this outcome
abbrev pub Answered : {T : Type 0} → Result T BlkFault → Option Cause → Outcome → Type 0
Answered (Ok done) cause outcome = (cause ≡ None) × (outcome ≡ Done)
Answered (Err StoreFault) cause (Fails kept tried) = cause ≡ None
Answered (Err StoreFault) cause other = ⊥
Answered (Err Memory) cause outcome = outcome ≡ NoMemory
Answered (Err NoZoneFault) cause outcome = (cause ≡ Some NoZone) × (outcome ≡ Done)
Answered (Err NoRecordFault) cause outcome = (cause ≡ Some NoRecord) × (outcome ≡ Done)

-- an operation that answered so leaves this session
pub record Leaves {T : Type 0} (r : Result T BlkFault) (l : BlkLayout) (s : Session) (operation : Operation)
    (next : Session) : Type 0 where
  pub outcome : Outcome
  pub answered : Answered r (cause_of s.blk operation) outcome
  pub is : call_after l s (record { operation = operation; outcome = outcome }) ≡ next

abbrev pub holding : List ℕ → BlkState → Session
holding store b = record { store = store; blk = Some b }

-- what a caller holds after a loading: what it gave, or else what was held before
abbrev pub held_after : Result BlkState BlkFault → Option BlkState → Option BlkState
held_after (Ok b) held = Some b
held_after (Err fault) held = held

-- on a store that tells its bytes
abbrev pub AnswersAreCalls : Type 0
AnswersAreCalls =
    ((r : Result BlkState BlkFault) (l : BlkLayout) (held : Option BlkState) (before now : List ℕ) (old last : Device)
    → old.holds ≡ Some before → last.holds ≡ Some now → IfSome held (λ (b : BlkState). b.layout ≡ l)
    → Loads r l old last
    → Leaves r l (record { store = before; blk = held }) Load (record { store = now; blk = held_after r held }))
    × ((r : Result Unit BlkFault) (b new : BlkState) (ring : BlkRing) (payload before now : List ℕ)
    (old last : Device) → old.holds ≡ Some before → last.holds ≡ Some now
    → Answers r (append_refusal b ring) (append_of b ring payload) (append_of b ring payload)
    (appended b ring payload) b new old last
    → Leaves r b.layout (holding before b) (Append ring payload) (holding now new))
    × ((r : Result Unit BlkFault) (b new : BlkState) (time : BlkTime) (packed : Bool) (reason : Reason)
    (body before now : List ℕ) (old last : Device) → old.holds ≡ Some before → last.holds ≡ Some now
    → Answers r (dump_refusal b) (dump_of b time packed reason body) (dump_pieces_of b time packed reason body)
    (dumped b reason) b new old last
    → Leaves r b.layout (holding before b) (Dump time packed reason body) (holding now new))
    × ((r : Result Unit BlkFault) (b new : BlkState) (name : BlkName) (before now : List ℕ) (old last : Device)
    → old.holds ≡ Some before → last.holds ≡ Some now
    → Answers r (erase_refusal b name) (erase_of b name) (erase_of b name) (erased b name) b new old last
    → Leaves r b.layout (holding before b) (Erase (Some name)) (holding now new))

-- a fault within the first write of an append to a ring that is not full is harmless
abbrev pub FirstWriteFaultsAreHarmless : Type 0
FirstWriteFaultsAreHarmless =
    (b new : BlkState) (ring : BlkRing) (payload before now : List ℕ) (old last : Device)
    → old.holds ≡ Some before → last.holds ≡ Some now
    → (fault : FailsWithin (append_of b ring payload) (append_of b ring payload) b.cut new.cut old last)
    → fault.made ≡ []
    → (ring_of b ring).words.size < capacity (ring_zone b.layout ring) → new ≡ record b { cut = new.cut }
    → (call_after b.layout (holding before b) (append_call ring payload (Fails fault.kept fault.tried)) ≡ holding now
    new)
    × IsHarmless (Fails fault.kept fault.tried) (Some b) (Append ring payload)
