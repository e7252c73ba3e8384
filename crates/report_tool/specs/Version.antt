-- What a kernel's version tells: the tag of its ftrace zones, which is the version, and the order of its zones
-- (fs/pstore/ram.c, ramoops_probe; LINUX_VERSION_CODE)
use Rattle.std.specs.Prelude.{ℕ, ◌+◌, ◌*◌, min, ◌==◌, ◌&&◌, nat_lt, nat_le, if◌then◌else◌, List, codes, Option, Some, None}
use Rattle.std.specs.List.{list_any, before_first, after_first}
use Rattle.std.specs.Option.{option_and_then}
use Rattle.grammar_spec.specs.Numbers.{number_of}
use Rattle.zone_spec.specs.declared.params.Order.{Order}
use Rattle.zone_spec.specs.declared.params.Order.TheVariants.{FtracePmsg, PmsgFtrace}

-- a patch level above 255 counts as 255
abbrev pub version_code : ℕ → ℕ → ℕ → Option ℕ
version_code major minor patch =
    if nat_lt major 256 && nat_lt minor 256 then Some (major * 65536 + minor * 256 + min patch 255) else None

abbrev pub code_of : Option ℕ → Option ℕ → Option ℕ → Option ℕ
code_of (Some major) (Some minor) (Some patch) = version_code major minor patch
code_of major minor patch = None

-- what stands before the first such byte and behind it, if there is one
abbrev pub split_at : ℕ → List ℕ → Option (List ℕ × List ℕ)
split_at c text =
    if list_any (λ b. b == c) text then Some (before_first (λ b. b == c) text, after_first (λ b. b == c) text) else None

-- what stands behind X and its point: Y, or Y.Z
abbrev pub minor_code : List ℕ → List ℕ → Option (List ℕ × List ℕ) → Option ℕ
minor_code major rest None = code_of (number_of major) (number_of rest) (number_of (codes "0"))
minor_code major rest (Some parts) = code_of (number_of major) (number_of parts.0) (number_of parts.1)

abbrev pub release_code : Option (List ℕ × List ℕ) → Option ℕ
release_code None = None
release_code (Some parts) = minor_code parts.0 parts.1 (split_at 46 parts.1)

-- what stands behind the first `-` is the builder's, and so is what stands behind a `+` before it
abbrev pub release_of : List ℕ → List ℕ
release_of version = before_first (λ c. c == 43) (before_first (λ c. c == 45) version)

-- X.Y or X.Y.Z
unfoldable pub tag_of : List ℕ → Option ℕ
tag_of version = release_code (split_at 46 (release_of version))

-- up to 6.1 ftrace lies before pmsg, and from 6.12 on behind it; the versions between were not looked at
abbrev pub order_of_code : ℕ → Option Order
order_of_code code =
    if nat_lt code 0x60200 then Some FtracePmsg
    else if nat_le 0x60c00 code then Some PmsgFtrace
    else None

abbrev pub order_of : List ℕ → Option Order
order_of version = option_and_then order_of_code (tag_of version)
