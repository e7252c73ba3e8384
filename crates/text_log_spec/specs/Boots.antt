-- Whether bytes are a text log, and the boots in it
use Rattle.std.specs.Prelude.{◌≡◌, ℕ, zero, suc, ◌+◌, ◌<◌, ◌==◌, Bool, true, false, not, nat_lt, if◌then◌else◌, List}
use Rattle.std.specs.Prelude.{IsTrue}
use Rattle.std.specs.List.{list_any}
use Rattle.std.specs.Prelude.{[], ◌∷◌, length}
use Rattle.std.specs.Prelude.{take, drop, slice_index, EachIndex, Option, Some, None}
use Rattle.text_log_spec.specs.declared.Class.TheVariants.{Line}
use Rattle.text_log_spec.specs.declared.Head.{Head}
use Rattle.text_log_spec.specs.declared.Head.TheVariants.{Booting, Version}
use Rattle.text_log_spec.specs.declared.Boot.{Boot}
use Rattle.text_log_spec.specs.Words.{run, head_of}

-- a byte of erased flash
abbrev pub is_erased : ℕ → Bool
is_erased b = b == 255

-- a text has a byte that is not erased, and none of its bytes is 0
abbrev pub IsTextLog : List ℕ → Type 0
IsTextLog bytes = IsTrue (list_any (λ b. not (is_erased b)) bytes) × EachIndex bytes (λ k. 0 < slice_index bytes k)

-- a boot begins at each line `Booting Linux on physical CPU`, and at each `Linux version` that is not the first below
-- such a line
abbrev pub begins : Bool → Option Head → Bool
begins is_booting (Some Booting) = true
begins is_booting (Some Version) = not is_booting
begins is_booting None = false

-- whether the version of a boot on Arm is still to come
abbrev pub is_booting_behind : Bool → Option Head → Bool
is_booting_behind is_booting (Some Booting) = true
is_booting_behind is_booting (Some Version) = false
is_booting_behind is_booting None = is_booting

-- the line at a place
abbrev pub line_at : List ℕ → ℕ → List ℕ
line_at text at = take (run Line (drop at text)) (drop at text)

abbrev pub next_line : List ℕ → ℕ → ℕ
next_line text at = at + run Line (drop at text) + 1

-- where boots begin, among at most n lines from a place on
unfoldable pub firsts : ℕ → List ℕ → Bool → ℕ → List ℕ
firsts zero text is_booting at = []
firsts (suc n) text is_booting at =
    if nat_lt at (length text)
    then (let head = head_of (line_at text at) in
    let below = firsts n text (is_booting_behind is_booting head) (next_line text at) in
    if begins is_booting head then at ∷ below else below)
    else []

abbrev pub boot : ℕ → ℕ → Boot
boot start end = record { start = start; end = end }

-- from one such place to the next, and to the end
unfoldable pub spans : ℕ → List ℕ → ℕ → List Boot
spans from [] end = if nat_lt from end then boot from end ∷ [] else []
spans from (place ∷ places) end =
    if nat_lt from place then boot from place ∷ spans place places end else spans from places end

-- the boots of a log; the first is what stands before the first such line, if anything does. No text has more lines
-- than bytes
unfoldable pub boots_of : List ℕ → List Boot
boots_of text = spans 0 (firsts (length text) text false 0) (length text)

-- spans that have a byte each and follow one another from a place to another
unfoldable pub Joined : ℕ → List Boot → ℕ → Type 0
Joined from [] end = from ≡ end
Joined from (boot ∷ boots) end = (boot.start ≡ from) × ((from < boot.end) × Joined boot.end boots end)
