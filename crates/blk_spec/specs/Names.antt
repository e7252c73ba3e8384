-- The names of the block store's records, and their contents (a project's own)
use Rattle.std.specs.Prelude.{◌≡◌, ℕ, ◌^◌, ◌<◌, Bool, true, false, not, ◌&&◌, if◌then◌else◌, ◌==◌, List, [], ◌∷◌, ◌++◌}
use Rattle.std.specs.Prelude.{codes, decimal, Option, Some, None}
use Rattle.blk_spec.specs.declared.BlkName.{BlkName}
use Rattle.blk_spec.specs.declared.BlkName.TheVariants.{Dump, Console, Pmsg}
use Rattle.blk_spec.specs.Reading.{BlkDump}
use Rattle.kmsg_spec.specs.Reasons.{reason_word}

-- the text of a name; a compressed dump's ends in `.enc.z`
abbrev pub name_text : BlkName → List ℕ
name_text (Dump index packed) = codes "dmesg-pstore_blk-" ++ decimal index ++ (if packed then codes ".enc.z" else [])
name_text Console = codes "console-pstore_blk-0"
name_text Pmsg = codes "pmsg-pstore_blk-0"

-- a name's number has 32 bits
abbrev pub IsName : BlkName → Type 0
IsName (Dump index packed) = index < 2 ^ 32
IsName other = Unit {0}

-- the name with this text, or None where no name has it
abbrev pub IsNameOf : List ℕ → Option BlkName → Type 0
IsNameOf text (Some name) = IsName name × (name_text name ≡ text)
IsNameOf text None = (name : BlkName) → IsName name → ¬ (name_text name ≡ text)

-- whether two names are the same
abbrev pub is_name : BlkName → BlkName → Bool
is_name (Dump i packed) (Dump j other) = (i == j) && (if packed then other else not other)
is_name Console Console = true
is_name Pmsg Pmsg = true
is_name name other = false

abbrev pub dump_name : BlkDump → BlkName
dump_name d = Dump d.index d.packed

-- a dump's content: its heading and its body, or the body alone where it is compressed
unfoldable pub dump_content : BlkDump → List ℕ
dump_content d =
    if d.packed then d.body
    else reason_word d.reason ++ codes ": Total " ++ decimal d.counter ++ codes " times" ++ 10 ∷ d.body
