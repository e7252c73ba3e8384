-- What the rings of a session were told, and what a loading lists after any calls
use Rattle.std.specs.Prelude.{◌≡◌, ℕ, ◌-◌, ◌<◌, ◌≤◌, min, Bool, true, false, List, [], ◌∷◌, ◌++◌, map, length, Option}
use Rattle.std.specs.Prelude.{Some, None}
use Rattle.std.specs.List.{list_all}
use Rattle.zone_spec.specs.Told.{last_items}
use Rattle.blk_spec.specs.declared.BlkLayout.{BlkLayout}
use Rattle.blk_spec.specs.declared.BlkRing.{BlkRing}
use Rattle.blk_spec.specs.declared.BlkRing.TheVariants.{Console as ConsoleRing, Pmsg as PmsgRing}
use Rattle.blk_spec.specs.declared.BlkName.{BlkName}
use Rattle.blk_spec.specs.declared.BlkName.TheVariants.{Dump as DumpName, Console, Pmsg}
use Rattle.blk_spec.specs.declared.BlkCut.{BlkCut}
use Rattle.blk_spec.specs.declared.BlkCut.TheVariants.{After, Dropped}
use Rattle.blk_spec.specs.Layout.{IsLayout, ring_zone, capacity}
use Rattle.blk_spec.specs.States.{BlkState, loaded, ring_of}
use Rattle.blk_spec.specs.Session.{Operation, Load, Append, Dump, Erase, Cause, Session, cause_of, session_run, begun}
use Rattle.blk_spec.specs.Session.{Outcome, Done, Fails, NoMemory, Call, done_call, call_after, calls_run}
use Rattle.blk_laws.specs.Standing.{listed}

-- all bytes that each ring was told since the last loading, or since its erasure where that came later
pub record ToldRings : Type 0 where
  pub console : List ℕ
  pub pmsg : List ℕ

abbrev pub told_of : ToldRings → BlkRing → List ℕ
told_of t ConsoleRing = t.console
told_of t PmsgRing = t.pmsg

abbrev pub untold : ToldRings
untold = record { console = []; pmsg = [] }

abbrev pub telling : ToldRings → BlkRing → List ℕ → ToldRings
telling t ConsoleRing payload = record t { console = t.console ++ payload }
telling t PmsgRing payload = record t { pmsg = t.pmsg ++ payload }

abbrev pub forgetting : ToldRings → BlkName → ToldRings
forgetting t (DumpName index packed) = t
forgetting t Console = record t { console = [] }
forgetting t Pmsg = record t { pmsg = [] }

-- what a line that is done tells the rings
abbrev pub told_by : Operation → ToldRings → ToldRings
told_by Load t = untold
told_by (Append ring payload) t = telling t ring payload
told_by (Erase (Some name)) t = forgetting t name
told_by other t = t

abbrev pub unless_told : Option Cause → ToldRings → ToldRings → ToldRings
unless_told None next t = next
unless_told (Some cause) next t = t

-- a call that is refused, or that meets a fault, tells nothing
abbrev pub told_ending : Outcome → ToldRings → ToldRings → ToldRings
told_ending Done next t = next
told_ending other next t = t

abbrev pub told_call : Option BlkState → Call → ToldRings → ToldRings
told_call blk call t = told_ending call.outcome
    (unless_told (cause_of blk call.operation) (told_by call.operation t) t) t

-- the calls in order
unfoldable pub told_run : BlkLayout → Session → ToldRings → List Call → ToldRings
told_run l s t [] = t
told_run l s t (call ∷ calls) = told_run l (call_after l s call) (told_call s.blk call t) calls

-- whether no byte was dropped since the last loading
abbrev pub none_dropped : BlkCut → Bool
none_dropped Dropped = false
none_dropped other = true

-- whether the store was loaded, and no call was cut since
abbrev pub is_whole : Option BlkState → Bool
is_whole None = false
is_whole (Some b) = none_dropped b.cut

-- whether the store did not fail within a call
abbrev pub is_no_fault : Outcome → Bool
is_no_fault (Fails kept tried) = false
is_no_fault other = true

abbrev pub no_faults : List Call → Bool
no_faults calls = list_all (λ (call : Call). is_no_fault call.outcome) calls

-- whether a call is no loading that wrote: one without memory wrote nothing
abbrev pub is_no_load : Operation → Outcome → Bool
is_no_load Load NoMemory = true
is_no_load Load other = false
is_no_load operation outcome = true

abbrev pub no_loads : List Call → Bool
no_loads calls = list_all (λ (call : Call). is_no_load call.operation call.outcome) calls

-- a session as its base load leaves it, the last loading that was done, with any calls before it
abbrev pub based : BlkLayout → List ℕ → List Call → Session
based l store before = call_after l (calls_run l (begun store) before) (done_call Load)

-- a ring as a loading lists it
abbrev pub ring_read : BlkLayout → Session → BlkRing → Option (List ℕ)
ring_read l s ring = (ring_of (loaded l s.store) ring).saved

-- a ring as it was told: its last bytes, as many as it holds
abbrev pub ring_told : BlkLayout → ToldRings → BlkRing → Option (List ℕ)
ring_told l t ring = listed (last_items (capacity (ring_zone l ring)) (told_of t ring))

abbrev pub EveryLoadingListsReading : Type 0
EveryLoadingListsReading =
    (l : BlkLayout) (store : List ℕ) (calls : List Call)
    → (call_after l (calls_run l (begun store) calls) (done_call Load)).blk
    ≡ Some (loaded l (calls_run l (begun store) calls).store)

abbrev pub WholeSessionListsTold : Type 0
WholeSessionListsTold =
    (l : BlkLayout) (store : List ℕ) (before since : List Call) (ring : BlkRing) → IsLayout l
    → l.total ≤ length store → no_faults since ≡ true
    → is_whole (calls_run l (based l store before) since).blk ≡ true
    → ring_read l (calls_run l (based l store before) since) ring
    ≡ ring_told l (told_run l (based l store before) untold since) ring

-- the first n bytes of an append to a ring that is not full are data before its first header
pub record IsEarly (b : BlkState) (ring : BlkRing) (payload : List ℕ) (n : ℕ) : Type 0 where
  pub not_full : (ring_of b ring).words.size < capacity (ring_zone b.layout ring)
  pub data_alone : n ≤ min (length (last_items (capacity (ring_zone b.layout ring)) payload))
      (capacity (ring_zone b.layout ring) - (ring_of b ring).words.start)

abbrev pub append_call : BlkRing → List ℕ → Outcome → Call
append_call ring payload outcome = record { operation = Append ring payload; outcome = outcome }

-- an append that was cut early, however it ended. After it no loading wrote: the next one that is done is the final
-- loading here, and the base load of what follows
abbrev pub EarlyCutListsBefore : Type 0
EarlyCutListsBefore =
    (l : BlkLayout) (store : List ℕ) (before since behind : List Call) (b : BlkState) (ring : BlkRing)
    (payload : List ℕ) (outcome : Outcome) (limit : ℕ) → IsLayout l → l.total ≤ length store → no_faults since ≡ true
    → (calls_run l (based l store before) since).blk ≡ Some b → b.cut ≡ After limit → IsEarly b ring payload limit
    → is_whole (calls_run l (based l store before) (since ++ append_call ring payload outcome ∷ [])).blk ≡ false
    → no_loads behind ≡ true
    → ring_read l (calls_run l (based l store before) (since ++ append_call ring payload outcome ∷ behind)) ring
    ≡ ring_told l (told_run l (based l store before) untold since) ring

-- a call leaves the rings as they were told, even if the store failed within it: then it writes a dump zone, or is an
-- append that failed early
abbrev pub IsHarmless : Outcome → Option BlkState → Operation → Type 0
IsHarmless (Fails kept tried) (Some b) (Append ring payload) = IsEarly b ring payload kept
IsHarmless (Fails kept tried) blk (Dump time packed reason body) = Unit
IsHarmless (Fails kept tried) blk (Erase (Some (DumpName index packed))) = Unit
IsHarmless (Fails kept tried) blk operation = ⊥
IsHarmless outcome blk operation = Unit

unfoldable pub AreHarmless : BlkLayout → Session → List Call → Type 0
AreHarmless l s [] = Unit
AreHarmless l s (call ∷ calls) = IsHarmless call.outcome s.blk call.operation × AreHarmless l (call_after l s call)
    calls

-- what failed without harm tells nothing
abbrev pub HarmlessFaultsListTold : Type 0
HarmlessFaultsListTold =
    (l : BlkLayout) (store : List ℕ) (before since : List Call) (ring : BlkRing) → IsLayout l
    → l.total ≤ length store → AreHarmless l (based l store before) since
    → is_whole (calls_run l (based l store before) since).blk ≡ true
    → ring_read l (calls_run l (based l store before) since) ring
    ≡ ring_told l (told_run l (based l store before) untold since) ring

-- lines that meet no fault are calls that are all done
abbrev pub SessionIsCalls : Type 0
SessionIsCalls =
    (l : BlkLayout) (s : Session) (operations : List Operation)
    → session_run l s operations ≡ calls_run l s (map done_call operations)
