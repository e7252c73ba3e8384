-- Notices, and names
use Rattle.std.specs.Prelude.{◌≡◌, ℕ, true, false, List, [], ◌∷◌, ◌++◌, length, codes, map, Some}
use Rattle.zone_spec.specs.declared.Zone.{Zone}
use Rattle.zone_spec.specs.declared.Name.TheVariants.{Dump as DumpName, Console as ConsoleName, Ftrace as FtraceName}
use Rattle.zone_spec.specs.declared.State.TheVariants.{Empty, Found}
use Rattle.zone_spec.specs.Reading.{ZoneReading}
use Rattle.zone_spec.specs.Names.{name_text}
use Rattle.zone_spec.specs.Records.{Saved, Listed, listed_of}
use Rattle.zone_spec.specs.Notices.{notice, content}
use Rattle.zone_examples.specs.Zones.{dump, ftrace_zone, plain_zone, console_of_sixteen}
use Rattle.zone_examples.specs.Scenes.{abc}

-- a zone that was found with this log and these counts
abbrev pub saved : Zone → List ℕ → ℕ → ℕ → Saved
saved z log corrected bad = (
  z,
  Some (record {
    state = Found;
    words = record { sig = 0x43474244; start = length log; size = length log };
    log = log;
    corrected = corrected;
    bad = bad;
  }),
)

abbrev pub contents : List Saved → List (List ℕ)
contents zones = map (λ r. content zones r) (listed_of zones)

abbrev pub NoticeOfConsole : Type 0
NoticeOfConsole =
    (contents (saved console_of_sixteen abc 0 0 ∷ []) ≡ (abc ++ codes "\nECC: No errors detected\n") ∷ [])
    × (contents (saved console_of_sixteen abc 1 0 ∷ []) ≡ (abc
    ++ codes "\nECC: 1 Corrected bytes, 0 unrecoverable blocks\n") ∷ [])
    × (map (λ c. length c) (contents (saved console_of_sixteen abc 1 0 ∷ [])) ≡ 51 ∷ [])
    × (map (λ c. length c) (contents (saved console_of_sixteen abc 0 0 ∷ [])) ≡ 28 ∷ [])
    × (notice (saved console_of_sixteen abc 8 0 ∷ []) ConsoleName
    ≡ codes "\nECC: 8 Corrected bytes, 0 unrecoverable blocks\n")

-- a zone's own parity decides: a dump without it has no notice beside a console with it
abbrev pub DumpWithoutNotice : Type 0
DumpWithoutNotice =
    let dumped = saved (plain_zone (dump 0) 0) (codes "====5.000000-D\nx") 0 0 in
    contents (dumped ∷ saved console_of_sixteen abc 0 0 ∷ [])
    ≡ codes "x" ∷ (abc ++ codes "\nECC: No errors detected\n") ∷ []

-- two ftrace zones with parity, and the reading of an empty one
abbrev pub first : Zone
first = record (ftrace_zone 0) { parity = 1 }

abbrev pub second : Zone
second = record (ftrace_zone 1) { parity = 1 }

abbrev pub empty : ZoneReading
empty = record {
  state = Empty;
  words = record { sig = 0x43474244; start = 0; size = 0 };
  log = [];
  corrected = 9;
  bad = 9;
}

-- an ftrace record counts its zones that were found
abbrev pub NoticeOfFtrace : Type 0
NoticeOfFtrace =
    (notice (saved first [] 1 2 ∷ saved second [] 3 4 ∷ []) FtraceName
    ≡ codes "\nECC: 4 Corrected bytes, 6 unrecoverable blocks\n")
    × (notice (saved first [] 1 2 ∷ (second, Some empty) ∷ []) FtraceName
    ≡ codes "\nECC: 1 Corrected bytes, 2 unrecoverable blocks\n")

-- a compressed dump's name, and the one newline of its line
abbrev pub DumpRecords : Type 0
DumpRecords =
    (name_text (DumpName 12 false) ≡ codes "dmesg-ramoops-12")
    × (name_text (DumpName 0 true) ≡ codes "dmesg-ramoops-0.enc.z")
    × (map (λ (r : Listed). name_text r.name) (listed_of
    (saved (plain_zone (dump 3) 0) (codes "====5.000000-C\n\n x") 0 0 ∷ [])) ≡ codes "dmesg-ramoops-3.enc.z" ∷ [])
    × (contents (saved (plain_zone (dump 3) 0) (codes "====5.000000-C\n\n x") 0 0 ∷ []) ≡ codes "\n x" ∷ [])
    × (listed_of (saved (plain_zone (dump 3) 0) (codes "no line") 0 0 ∷ []) ≡ [])
