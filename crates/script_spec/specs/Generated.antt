-- The session of `make N`: calls, cuts and damage by the numbers that N begins
use Rattle.std.specs.Prelude.{ℕ, ◌+◌, ◌-◌, ◌*◌, ◌/◌, ◌%◌, ◌^◌, min, Bool, true, false, not, if◌then◌else◌, nat_lt, ◌==◌}
use Rattle.std.specs.Prelude.{is_none, List, [], ◌∷◌, ◌++◌, length, replicate, filter, fold, map, slice_get, count_by}
use Rattle.std.specs.Prelude.{codes, decimal, Option, Some, None, Result, Ok, Err}
use Rattle.std.specs.List.{range_with_len}
use Rattle.zone_spec.specs.declared.Zone.{Zone}
use Rattle.zone_spec.specs.declared.ZoneName.{ZoneName}
use Rattle.zone_spec.specs.declared.Kind.TheVariants.{Dump as DumpKind}
use Rattle.zone_spec.specs.declared.Refusal.{Refusal}
use Rattle.zone_spec.specs.declared.Verdict.{Verdict}
use Rattle.zone_spec.specs.declared.Verdict.TheVariants.{AsTold, Differs}
use Rattle.zone_spec.specs.Parts.{Part, Header, Block, part_at, part_len}
use Rattle.zone_spec.specs.Reading.{blocks_below}
use Rattle.zone_spec.specs.Records.{is_of}
use Rattle.machine_spec.specs.Zones.{dump_zones}
use Rattle.machine_spec.specs.States.{LiveState, Session, Off, Live}
use Rattle.machine_spec.specs.ZoneCalls.{stores_left}
use Rattle.machine_spec.specs.LiveZones.{Target, target}
use Rattle.machine_spec.specs.LiveCalls.{Ask, Append, Dump, asked_name, begin}
use Rattle.machine_spec.specs.Off.{fresh}
use Rattle.machine_spec.specs.Report.{ZoneReport, report}
use Rattle.machine_spec.specs.Operations.{Operation, Make, Begin, Step, Stop, Flip, Boot, operated, left_by}
use Rattle.grammar_spec.specs.Fields.{Text}
use Rattle.script_spec.specs.Texts.{newline}

-- ---- draws

-- something drawn: by the number x so far, with the number after it
abbrev pub Drawn : Type 0 → Type 0
Drawn A = ℕ → A × ℕ

abbrev pub drawn : {A : Type 0} → A → Drawn A
drawn a x = (a, x)

-- a ← d draws first d, and goes on with what it gave
infixl 10 ◌>>=◌
abbrev pub ◌>>=◌ : {A B : Type 0} → Drawn A → (A → Drawn B) → Drawn B
(d >>= f) x = f (d x).0 (d x).1

-- the number after x
abbrev pub next_number : ℕ → ℕ
next_number x = (x * 1664525 + 1013904223) % 2 ^ 32

-- a number below m
unfoldable pub draw : ℕ → Drawn ℕ
draw m x = (next_number x / 256 % m, next_number x)

-- one step for each of some items, from a state on
unfoldable pub draw_over : {S A : Type 0} → (S → A → Drawn S) → S → List A → Drawn S
draw_over step state [] = drawn state
draw_over step state (x ∷ xs) = do
  next ← step state x
  draw_over step next xs

-- one number more
unfoldable pub drawn_number : ℕ → List ℕ → ℕ → Drawn (List ℕ)
drawn_number m numbers i = do
  a ← draw m
  drawn (numbers ++ a ∷ [])

-- so many numbers below m
unfoldable pub draws : ℕ → ℕ → Drawn (List ℕ)
draws n m = draw_over (drawn_number m) [] (range_with_len 0 n)

-- ---- calls

-- the names of the zones that take appends
abbrev pub rings : List Zone → List ZoneName
rings layout = map (λ (z : Zone). z.name) (filter (λ (z : Zone). not (is_of DumpKind z.name.kind)) layout)

-- an append to this ring
abbrev pub append_to : Option ZoneName → List ℕ → List Ask
append_to None bytes = []
append_to (Some ring) bytes = Append ring bytes ∷ []

-- a dump of round q, where there are dump zones
abbrev pub dump_of : List Zone → ℕ → ℕ → List ℕ → List Ask
dump_of layout q micros body =
    if dump_zones layout == 0 then [] else Dump (record { secs = q; micros = micros }) false body ∷ []

-- an append of n bytes to this ring
unfoldable pub drawn_append : Option ZoneName → ℕ → Drawn (List Ask)
drawn_append ring n = do
  bytes ← draws n 256
  drawn (append_to ring bytes)

-- a dump of n bytes; without dump zones the same is drawn
unfoldable pub drawn_dump : List Zone → ℕ → ℕ → Drawn (List Ask)
drawn_dump layout q n = do
  micros ← draw 1000000
  body ← draws n 256
  drawn (dump_of layout q micros body)

-- an append to the c-th ring, or, behind the last ring, a dump
unfoldable pub drawn_turn : List Zone → ℕ → Drawn (List Ask)
drawn_turn layout q = do
  c ← draw (length (rings layout) + 1)
  n ← draw 700
  if nat_lt c (length (rings layout)) then drawn_append (slice_get (rings layout) c) (1 + n) else drawn_dump layout q
      (1 + n)

-- an append of which only the first stores are made, so many of them
pub record CutAppend : Type 0 where
  pub ring : ZoneName
  pub bytes : List ℕ
  pub stores : ℕ

abbrev pub cut_in : Option ZoneName → List ℕ → ℕ → List CutAppend
cut_in None bytes stores = []
cut_in (Some ring) bytes stores = record { ring = ring; bytes = bytes; stores = stores } ∷ []

-- such an append to one of some rings
unfoldable pub drawn_cut : List ZoneName → Drawn (List CutAppend)
drawn_cut [] = drawn []
drawn_cut (ring ∷ others) = do
  c ← draw (length (ring ∷ others))
  n ← draw 700
  bytes ← draws (1 + n) 256
  k ← draw 900
  drawn (cut_in (slice_get (ring ∷ others) c) bytes (1 + k))

-- ---- damage

-- a flip of this place more, with a mask
unfoldable pub drawn_flip : List (ℕ × ℕ) → ℕ → Drawn (List (ℕ × ℕ))
drawn_flip flips place = do
  m ← draw 255
  drawn (flips ++ (place, 1 + m) ∷ [])

-- flips of at most so many bytes of a part more, all in a row
unfoldable pub drawn_flips : ℕ → Zone → List (ℕ × ℕ) → Part → Drawn (List (ℕ × ℕ))
drawn_flips most z flips part = do
  f ← draw (min most (part_len z part) + 1)
  p ← draw (part_len z part - f + 1)
  draw_over drawn_flip flips (range_with_len (z.at + part_at z part + p) f)

-- a zone's parts: the header, and each block with data
abbrev pub parts_of : Zone → List Part
parts_of z = Header ∷ map (λ b. Block b) (blocks_below z z.cap)

-- flips of a zone more: in each part at most half the parity
unfoldable pub drawn_damage : List (ℕ × ℕ) → Zone → Drawn (List (ℕ × ℕ))
drawn_damage flips z = draw_over (drawn_flips (z.parity / 2) z) flips (parts_of z)

-- ---- the session

-- the state, and what was counted: finished calls, their stores and those of cut calls, flips, verdicts
pub record Generated : Type 0 where
  pub session : Session
  pub calls : ℕ
  pub stores : ℕ
  pub flips : ℕ
  pub as_told : ℕ
  pub differs : ℕ

-- the state after one more operation
abbrev pub after : List Zone → Session → Operation → Session
after layout session operation = left_by session (operated layout session operation)

-- the stores that are left of the flight in a zone
abbrev pub left_in : Option Target → ℕ
left_in None = 0
left_in (Some t) = stores_left t.live.flight t.zone

-- the stores of a call that was just begun in the zone of this name; a refused call has none
abbrev pub stores_begun : List Zone → ZoneName → Result LiveState Refusal → ℕ
stores_begun layout name (Ok live) = left_in (target layout live name)
stores_begun layout name (Err why) = 0

-- the stores that a call has in this state
abbrev pub stores_of : List Zone → Session → Ask → ℕ
stores_of layout (Off off) ask = 0
stores_of layout (Live live) ask = stores_begun layout (asked_name live ask) (begin layout live ask)

-- a call and all its stores
abbrev pub with_call : List Zone → Generated → Ask → Generated
with_call layout g ask = record g {
  session = after layout g.session (Make ask);
  calls = g.calls + 1;
  stores = g.stores + stores_of layout g.session ask;
}

-- an append and its first stores, or all of them; with all it is a finished call
abbrev pub with_cut : List Zone → Generated → CutAppend → Generated
with_cut layout g c =
    let ask = Append c.ring c.bytes in
    let n = stores_of layout g.session ask in
    record g {
      session = after layout (after layout g.session (Begin ask)) (Step c.ring c.stores);
      calls = g.calls + (if nat_lt c.stores n then 0 else 1);
      stores = g.stores + min c.stores n;
    }

-- a stop
abbrev pub with_stop : List Zone → Generated → Generated
with_stop layout g = record g { session = after layout g.session Stop }

-- a flip
abbrev pub with_flip : List Zone → Generated → ℕ × ℕ → Generated
with_flip layout g (place, mask) = record g { session = after layout g.session (Flip place mask); flips = g.flips + 1 }

abbrev pub is_told : Verdict → Bool
is_told AsTold = true
is_told other = false

abbrev pub is_other : Verdict → Bool
is_other (Differs told seen first) = true
is_other verdict = false

-- what a boot of this state reports
abbrev pub reported : List Zone → Session → List ZoneReport
reported layout (Off off) = report layout off
reported layout (Live live) = []

-- a boot, whose verdicts are counted
abbrev pub with_boot : List Zone → Generated → Generated
with_boot layout g = record g {
  session = after layout g.session Boot;
  as_told = g.as_told + count_by (λ (r : ZoneReport). is_told r.verdict) (reported layout g.session);
  differs = g.differs + count_by (λ (r : ZoneReport). is_other r.verdict) (reported layout g.session);
}

-- whether no call stands in a zone, so that a stop cuts none
abbrev pub rests : Option Target → Bool
rests None = true
rests (Some t) = is_none t.live.flight

-- the zones where none stands
abbrev pub resting : List Zone → Session → List Zone
resting layout (Off off) = []
resting layout (Live live) = filter (λ (z : Zone). rests (target layout live z.name)) layout

-- a turn of round q, whichever it is
unfoldable pub turn : List Zone → ℕ → Generated → ℕ → Drawn Generated
turn layout q g i = do
  asks ← drawn_turn layout q
  drawn (fold (with_call layout) g asks)

-- 24 turns of round q, and a call of which only the first stores are made
unfoldable pub drawn_calls : List Zone → Generated → ℕ → Drawn Generated
drawn_calls layout g q = do
  turned ← draw_over (turn layout q) g (range_with_len 0 24)
  cut ← drawn_cut (rings layout)
  drawn (fold (with_cut layout) turned cut)

-- a stop, damage of the zones that it cuts no call in, and a boot
unfoldable pub drawn_boot : List Zone → Generated → Drawn Generated
drawn_boot layout g = do
  flips ← draw_over drawn_damage [] (resting layout g.session)
  drawn (with_boot layout (fold (with_flip layout) (with_stop layout g) flips))

unfoldable pub round : List Zone → Generated → ℕ → Drawn Generated
round layout g q = do
  called ← drawn_calls layout g q
  drawn_boot layout called

-- the store after the first boot of zeros
abbrev pub first_boot : List Zone → ℕ → Generated
first_boot layout mem = record {
  session = after layout (Off (fresh layout (replicate mem 0))) Boot;
  calls = 0;
  stores = 0;
  flips = 0;
  as_told = 0;
  differs = 0;
}

-- the session of N: eight rounds
abbrev pub generated : List Zone → ℕ → ℕ → Generated
generated layout mem n = (draw_over (round layout) (first_boot layout mem) (range_with_len 0 8) n).0

-- `make N zones Z calls C stores S flips F as-told A differs D`
abbrev pub summary : ℕ → List Zone → Generated → Text
summary n layout g =
    codes "make " ++ decimal n ++ codes " zones " ++ decimal (length layout) ++ codes " calls " ++ decimal g.calls
    ++ codes " stores " ++ decimal g.stores ++ codes " flips " ++ decimal g.flips
    ++ codes " as-told " ++ decimal g.as_told ++ codes " differs " ++ decimal g.differs ++ newline
