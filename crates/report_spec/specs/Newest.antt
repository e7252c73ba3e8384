-- The newest dump, the console, and Android's log
use Rattle.std.specs.Prelude.{Bool, true, false, ◌&&◌, ◌||◌, ◌==◌, nat_lt, if◌then◌else◌, List, [], ◌∷◌, find, Option}
use Rattle.std.specs.Prelude.{Some, None}
use Rattle.std.specs.Option.{option_and_then}
use Rattle.std.specs.List.{fold}
use Rattle.pmsg_spec.specs.declared.Entry.{Entry}
use Rattle.zone_spec.specs.declared.Name.{Name}
use Rattle.zone_spec.specs.declared.Name.TheVariants.{Dump, Console, Pmsg, Ftrace}
use Rattle.zone_spec.specs.declared.Time.{Time}
use Rattle.report_spec.specs.Packed.{RecordShown}

abbrev pub is_later : Time → Time → Bool
is_later t u = nat_lt u.secs t.secs || ((t.secs == u.secs) && nat_lt u.micros t.micros)

-- no time is never later, and each is later than none
abbrev pub later_than : Option Time → Option Time → Bool
later_than None other = false
later_than (Some t) None = true
later_than (Some t) (Some u) = is_later t u

-- whether a record has a later time than the one that is held
abbrev pub is_newer : RecordShown → Option RecordShown → Bool
is_newer r held = later_than r.time (option_and_then (λ (h : RecordShown). h.time) held)

-- the record that is held, or one that is newer
abbrev pub newer_of : Option RecordShown → RecordShown → Option RecordShown
newer_of held r = if is_newer r held then Some r else held

-- the first of the records with the latest time
abbrev pub newest : List RecordShown → Option RecordShown
newest records = fold newer_of None records

abbrev pub is_console : Name → Bool
is_console (Dump index packed) = false
is_console Console = true
is_console Pmsg = false
is_console Ftrace = false

abbrev pub console_of : List RecordShown → Option RecordShown
console_of records = find (λ (r : RecordShown). is_console r.name) records

abbrev pub has_entries : List Entry → Bool
has_entries [] = false
has_entries (entry ∷ entries) = true

-- the record with entries of Android's log
abbrev pub android_log_of : List RecordShown → Option RecordShown
android_log_of records = find (λ (r : RecordShown). has_entries r.entries) records
