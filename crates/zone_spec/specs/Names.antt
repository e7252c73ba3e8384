-- The names of records (fs/pstore/inode.c, pstore_mkfile)
use Rattle.std.specs.Prelude.{◌≡◌, ℕ, ◌^◌, ◌<◌, Bool, true, false, not, ◌&&◌, if◌then◌else◌, ◌==◌, List, [], ◌++◌}
use Rattle.std.specs.Prelude.{codes, decimal, Option, Some, None}
use Rattle.zone_spec.specs.declared.Name.{Name}
use Rattle.zone_spec.specs.declared.Name.TheVariants.{Dump, Console, Pmsg, Ftrace}

-- the text of a name; a compressed dump's ends in `.enc.z`
abbrev pub name_text : Name → List ℕ
name_text (Dump index packed) = codes "dmesg-ramoops-" ++ decimal index ++ (if packed then codes ".enc.z" else [])
name_text Console = codes "console-ramoops-0"
name_text Pmsg = codes "pmsg-ramoops-0"
name_text Ftrace = codes "ftrace-ramoops-0"

-- a name's number has 32 bits
abbrev pub IsName : Name → Type 0
IsName (Dump index packed) = index < 2 ^ 32
IsName other = Unit {0}

-- the name with this text, or None where no name has it
abbrev pub IsNameOf : List ℕ → Option Name → Type 0
IsNameOf text (Some name) = IsName name × (name_text name ≡ text)
IsNameOf text None = (name : Name) → IsName name → ¬ (name_text name ≡ text)

-- whether two names are the same
abbrev pub is_name : Name → Name → Bool
is_name (Dump i packed) (Dump j other) = (i == j) && (if packed then other else not other)
is_name Console Console = true
is_name Pmsg Pmsg = true
is_name Ftrace Ftrace = true
is_name name other = false
