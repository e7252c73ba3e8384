-- The names that a text can be, before the whole of it is compared
use Rattle.std.specs.Prelude.{◌≡◌, ℕ, ◌<◌, ◌^◌, ◌++◌, List, [], Bool, if◌then◌else◌, codes, decimal, Option, Some}
use Rattle.zone_spec.specs.declared.Name.{Name}
use Rattle.zone_spec.specs.declared.Name.TheVariants.{Dump}
use Rattle.zone_spec.specs.Names.{name_text, IsName}

-- where a name has this text, it is the one found
abbrev pub IsCandidate : List ℕ → Option Name → Type 0
IsCandidate text result = (name : Name) → IsName name → name_text name ≡ text → result ≡ Some name

-- the same of a dump, by the text behind `dmesg-ramoops-`
abbrev pub IsDumpCandidate : List ℕ → Option Name → Type 0
IsDumpCandidate rest result =
    (index : ℕ) (packed : Bool) → index < 2 ^ 32 → rest ≡ decimal index ++ (if packed then codes ".enc.z" else [])
    → result ≡ Some (Dump index packed)
