-- The order of the zones that a report's records tell, by the kernel's release that they name
use Rattle.std.specs.Prelude.{ℕ, ◌==◌, Bool, true, not, ◌||◌, if◌then◌else◌, List, [], ◌∷◌, Option, Some, None}
use Rattle.std.specs.List.{before_first}
use Rattle.std.specs.Option.{option_or, option_and_then}
use Rattle.zone_spec.specs.declared.params.Order.{Order}
use Rattle.death_spec.specs.declared.Span.{Span}
use Rattle.death_spec.specs.Lines.{part}
use Rattle.report_spec.specs.Packed.{RecordShown, readable}
use Rattle.report_spec.specs.Newest.{console_of}
use Rattle.report_spec.specs.Deaths.{DeathTold, death_told}
use Rattle.report_spec.specs.Ends.{EndTold, end_told}
use Rattle.report_spec.specs.Facts.{is_digit, machine_of, machine_ended}
use Rattle.report_tool.specs.Version.{tag_of, order_of_code}

-- ---- the release in such words as `Not tainted 6.12.48+deb13-arm64 #1`: the first word that begins with a version

abbrev pub is_of_version : ℕ → Bool
is_of_version b = is_digit b || b == 46

-- the digits and points in front
abbrev pub version_in : List ℕ → List ℕ
version_in bytes = before_first (λ b. not (is_of_version b)) bytes

-- its tag, if a word begins there
abbrev pub front_tag : Bool → List ℕ → Option ℕ
front_tag begins bytes = if begins then tag_of (version_in bytes) else None

-- the first one. A word begins in front, and behind each space
unfoldable pub tag_from : Bool → List ℕ → Option ℕ
tag_from begins [] = None
tag_from begins (b ∷ bs) = option_or (front_tag begins (b ∷ bs)) (tag_from (b == 32) bs)

abbrev pub tag_said : List ℕ → Option ℕ
tag_said bytes = tag_from true bytes

-- ---- the kernel that a report names

-- below the line that tells why the machine died, or else where the log says `Linux version`
abbrev pub kernel_words : List ℕ → Option Span → List ℕ
kernel_words text None = []
kernel_words text (Some s) = part text s.start s.end

abbrev pub tag_by_death : DeathTold → Option RecordShown → Option ℕ
tag_by_death t console =
    option_or (tag_said (kernel_words (readable t.teller) t.death.kernel)) (tag_said (machine_of t console).version)

-- by the record that tells how the log ends
abbrev pub tag_by_end : Option EndTold → Option ℕ
tag_by_end None = None
tag_by_end (Some t) = tag_said (machine_ended t).version

-- by the record that tells why the machine died; if none does, by the one that tells how the log ends
abbrev pub tag_by : Option DeathTold → List RecordShown → Option ℕ
tag_by None records = tag_by_end (end_told records)
tag_by (Some t) records = tag_by_death t (console_of records)

-- the order in which that kernel lays out its zones, if it is known
abbrev pub order_named : List RecordShown → Option Order
order_named records = option_and_then order_of_code (tag_by (death_told records) records)
