-- The payload of an entry: a byte for the priority, a tag and a text, each with a zero behind it. A payload that was cut
-- to 4068 bytes has none behind its text
use Rattle.std.specs.Prelude.{ℕ, ◌+◌, ◌==◌, nat_lt, if◌then◌else◌, List, drop, length, codes, slice_index, slice_range}
use Rattle.std.specs.List.{before_first}
use Rattle.pmsg_spec.specs.declared.Entry.{Entry}

abbrev pub payload : List ℕ → Entry → List ℕ
payload bytes entry = slice_range bytes entry.start entry.end

-- what stands before the first zero, or all
abbrev pub until_zero : List ℕ → List ℕ
until_zero bytes = before_first (λ b. b == 0) bytes

-- the letters of the priorities from 0 on (android/log.h, android_LogPriority; liblog, filterPriToChar)
abbrev pub letters : List ℕ
letters = codes "??VDIWEFS"

abbrev pub priority_of : List ℕ → ℕ
priority_of payload = if nat_lt (slice_index payload 0) 9 then slice_index letters (slice_index payload 0) else 63

abbrev pub tag_of : List ℕ → List ℕ
tag_of payload = until_zero (drop 1 payload)

abbrev pub text_of : List ℕ → List ℕ
text_of payload = until_zero (drop (length (tag_of payload) + 2) payload)
