-- The records that the next boot lists, before packed ones are inflated (fs/pstore/zone.c, psz_pstore_read;
-- fs/pstore/inode.c, pstore_mkfile)
use Rattle.std.specs.Prelude.{ℕ, ◌-◌, ◌^◌, nat_lt, Bool, true, false, ◌&&◌, if◌then◌else◌, List, [], ◌∷◌, ◌++◌}
use Rattle.std.specs.Prelude.{flat_map, codes, decimal, Option, Some, None}
use Rattle.kmsg_spec.specs.Reasons.{reason_word}
use Rattle.psz_spec.specs.declared.Kind.{Kind}
use Rattle.psz_spec.specs.declared.Kind.TheVariants.{Pmsg, Console, Ftrace, Dump}
use Rattle.psz_spec.specs.declared.Sizes.{Sizes}
use Rattle.psz_spec.specs.declared.Zone.{Zone}
use Rattle.psz_spec.specs.declared.Machine.{Machine}
use Rattle.psz_spec.specs.declared.DumpHeader.{DumpHeader}
use Rattle.psz_spec.specs.declared.State.{State}
use Rattle.psz_spec.specs.declared.State.TheVariants.{Found}
use Rattle.psz_spec.specs.declared.Name.{Name}
use Rattle.psz_spec.specs.declared.Name.TheVariants.{Dump as DumpName, Ftrace as FtraceName, Pmsg as PmsgName}
use Rattle.psz_spec.specs.declared.Name.TheVariants.{Console as ConsoleName}
use Rattle.psz_spec.specs.Layouts.{zones_of}
use Rattle.psz_spec.specs.Headers.{dump_header}
use Rattle.psz_spec.specs.States.{zone_bytes, data_of, state_of, log_of, body_of}

-- the text of a name; that of a packed dump ends in `.enc.z` until it is inflated
abbrev pub name_text : Name → List ℕ
name_text (DumpName index packed) =
    codes "dmesg-pstore_blk-" ++ decimal index ++ (if packed then codes ".enc.z" else [])
name_text FtraceName = codes "ftrace-pstore_blk-0"
name_text PmsgName = codes "pmsg-pstore_blk-0"
name_text ConsoleName = codes "console-pstore_blk-0"

-- a record: its name, its logs, and of a dump its header. All have one log, but ftrace: it has one of each zone that was
-- found, which are merged by the times of their entries
pub record Listed : Type 0 where
  pub name : Name
  pub logs : List (List ℕ)
  pub header : Option DumpHeader

-- a number of 32 bits as `%d` shows it
abbrev pub signed_decimal : ℕ → List ℕ
signed_decimal n = if nat_lt n (2 ^ 31) then decimal n else 45 ∷ decimal (2 ^ 32 - n)

-- the line that the kernel puts in front of a dump that is not packed, as `Oops: Total 3 times`
unfoldable pub total_line : DumpHeader → List ℕ
total_line h =
    reason_word h.reason ++ codes ": Total " ++ signed_decimal h.count ++ codes " times\n"

abbrev pub dump_content : DumpHeader → List ℕ → List ℕ
dump_content h body = if h.packed then body else total_line h ++ body

-- the content of a dump zone that was found
abbrev pub content_of : Machine → List ℕ → List ℕ
content_of machine bytes = dump_content (dump_header machine (data_of bytes)) (body_of machine bytes)

abbrev pub dump_listed : ℕ → DumpHeader → List ℕ → Listed
dump_listed index h content =
    record { name = DumpName index h.packed; logs = content ∷ []; header = Some h }

abbrev pub plain_listed : Name → List ℕ → Listed
plain_listed name log = record { name = name; logs = log ∷ []; header = None }

-- what one zone that was found makes by itself: a dump, a pmsg or a console; ftrace zones make a record together
abbrev pub made_by : Machine → Zone → Kind → List ℕ → List Listed
made_by machine z Dump bytes =
    dump_listed z.index (dump_header machine (data_of bytes)) (content_of machine bytes) ∷ []
made_by machine z Pmsg bytes = plain_listed PmsgName (log_of machine bytes) ∷ []
made_by machine z Console bytes = plain_listed ConsoleName (log_of machine bytes) ∷ []
made_by machine z Ftrace bytes = []

abbrev pub is_found : State → Bool
is_found Found = true
is_found other = false

abbrev pub is_of : Kind → Kind → Bool
is_of Pmsg Pmsg = true
is_of Console Console = true
is_of Ftrace Ftrace = true
is_of Dump Dump = true
is_of kind other = false

-- whether a zone is of a kind, and was found
abbrev pub gives : Machine → List ℕ → Kind → Zone → Bool
gives machine image kind z = is_of kind z.kind && is_found (state_of machine z (zone_bytes z image))

-- the records of the zones of a kind
abbrev pub records_of : Machine → List ℕ → Kind → List Zone → List Listed
records_of machine image kind zones =
    flat_map (λ (z : Zone). if gives machine image kind z then made_by machine z kind (zone_bytes z image) else [])
    zones

-- the logs of the ftrace zones
abbrev pub traces_of : Machine → List ℕ → List Zone → List (List ℕ)
traces_of machine image zones =
    flat_map (λ (z : Zone). if gives machine image Ftrace z then log_of machine (zone_bytes z image) ∷ [] else []) zones

abbrev pub ftrace_listed : List (List ℕ) → List Listed
ftrace_listed [] = []
ftrace_listed (log ∷ logs) = record { name = FtraceName; logs = log ∷ logs; header = None } ∷ []

-- in the order in which the kernel reads: dumps by rising index, ftrace, pmsg, console
unfoldable pub listed_in : Machine → List Zone → List ℕ → List Listed
listed_in machine zones image =
    records_of machine image Dump zones ++ ftrace_listed (traces_of machine image zones)
    ++ records_of machine image Pmsg zones ++ records_of machine image Console zones

abbrev pub listed_of : Machine → Sizes → List ℕ → List Listed
listed_of machine sizes image = listed_in machine (zones_of sizes) image
