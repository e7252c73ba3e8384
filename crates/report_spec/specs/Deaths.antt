-- Which record tells why the machine died, and how
use Rattle.std.specs.Prelude.{ℕ, ◌==◌, Bool, false, not, ◌&&◌, if◌then◌else◌, List, bytes_eq, flat_map, option_to_list}
use Rattle.std.specs.Prelude.{Option, Some, None}
use Rattle.std.specs.List.{list_any}
use Rattle.std.specs.Option.{option_map}
use Rattle.zone_spec.specs.declared.Name.{Name}
use Rattle.zone_spec.specs.declared.Name.TheVariants.{Dump, Console, Pmsg, Ftrace}
use Rattle.zone_spec.specs.declared.Time.{Time}
use Rattle.death_spec.specs.declared.Line.{Line}
use Rattle.death_spec.specs.declared.Death.{Death}
use Rattle.death_spec.specs.declared.Mark.TheVariants.{Panic}
use Rattle.death_spec.specs.Lines.{lines_from, part, is_a}
use Rattle.death_spec.specs.Reports.{death_of}
use Rattle.report_spec.specs.Packed.{RecordShown, readable}
use Rattle.report_spec.specs.Newest.{newest, console_of}

-- a record, and why the machine died by what people read of it
pub record DeathTold : Type 0 where
  pub teller : RecordShown
  pub death : Death

abbrev pub told_by : Option RecordShown → Option DeathTold
told_by None = None
told_by (Some r) = option_map (λ (death : Death). record { teller = r; death = death }) (death_of (readable r))

-- a line from its stamp on, such as `[   12.345678] sysrq: Trigger a crash`. A console has no levels
abbrev pub stamped : List ℕ → Line → List ℕ
stamped text line = part text line.stamp line.end

-- whether a text has this line
abbrev pub has_line : List ℕ → List ℕ → Bool
has_line text words = list_any (λ line. bytes_eq (stamped text line) words) (lines_from text 0)

-- the panic, where the telling line is its cause
abbrev pub last_line : Death → Option Line → Line
last_line death None = death.telling
last_line death (Some panic) = panic

-- whether a line is a panic that a record lacks
abbrev pub is_panic_beyond : RecordShown → List ℕ → Line → Bool
is_panic_beyond dump text line = is_a text Panic line && not (has_line (readable dump) (stamped text line))

-- whether the console ends in a panic that the dump lacks: it is of a later boot, or of the death after an oops
abbrev pub tells_more : DeathTold → DeathTold → Bool
tells_more console dump =
    is_panic_beyond dump.teller (readable console.teller) (last_line console.death console.death.second)

-- of what the newest dump tells and what the console tells
abbrev pub told_of : Option DeathTold → Option DeathTold → Option DeathTold
told_of None console = console
told_of (Some dump) None = Some dump
told_of (Some dump) (Some console) = if tells_more console dump then Some console else Some dump

-- what the newest dump tells, unless the console alone tells or has a panic that this dump lacks
unfoldable pub death_told : List RecordShown → Option DeathTold
death_told records = told_of (told_by (newest records)) (told_by (console_of records))

-- ---- when

-- the date of a dump that has the telling line too
abbrev pub shared_time : DeathTold → Option RecordShown → Option Time
shared_time t None = None
shared_time t (Some dump) =
    if has_line (readable dump) (stamped (readable t.teller) t.death.telling) then dump.time else None

abbrev pub time_or : Option Time → DeathTold → Option RecordShown → Option Time
time_or None t dump = shared_time t dump
time_or (Some time) t dump = Some time

-- when a death was: the date of the record that tells, or, as a console has none, that of this dump
abbrev pub death_time : DeathTold → (dump : Option RecordShown) → Option Time
death_time t dump = time_or t.teller.time t dump

-- ---- other deaths

abbrev pub is_same_dump : Name → Name → Bool
is_same_dump (Dump i packed) (Dump j other) = i == j
is_same_dump (Dump i packed) Console = false
is_same_dump (Dump i packed) Pmsg = false
is_same_dump (Dump i packed) Ftrace = false
is_same_dump Console other = false
is_same_dump Pmsg other = false
is_same_dump Ftrace other = false

-- why the machine died by another record than the dump of this name
abbrev pub other_told : Name → RecordShown → Option DeathTold
other_told name r = if is_same_dump name r.name then None else told_by (Some r)

abbrev pub dump_told : Name → Name → RecordShown → Option DeathTold
dump_told name (Dump index packed) r = other_told name r
dump_told name Console r = None
dump_told name Pmsg r = None
dump_told name Ftrace r = None

-- the deaths that other dumps than the one of this name tell of, in the order of the records
abbrev pub others_told : Name → List RecordShown → List DeathTold
others_told name records = flat_map (λ (r : RecordShown). option_to_list (dump_told name r.name r)) records
