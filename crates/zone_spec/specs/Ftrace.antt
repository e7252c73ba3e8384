-- The entries of an ftrace log, and the merge of several by their times (fs/pstore/ftrace.c,
-- pstore_ftrace_combine_log)
use Rattle.std.specs.Prelude.{ℕ, zero, suc, ◌/◌, ◌%◌, if◌then◌else◌, nat_le, List, [], ◌∷◌, length, take, drop}
use Rattle.std.specs.Prelude.{slice_range, flat_map, fold}
use Rattle.std.specs.Int.{from_le_bytes}
use Rattle.std.proofs.Common.{w64}

-- the first n groups of 24 bytes
abbrev pub groups : ℕ → List ℕ → List (List ℕ)
groups zero xs = []
groups (suc n) xs = take 24 xs ∷ groups n (drop 24 xs)

-- a log's entries: its bytes in groups of 24, without the first ones that make no whole group
abbrev pub entries : List ℕ → List (List ℕ)
entries log = groups (length log / 24) (drop (length log % 24) log)

-- an entry's time: its third word, of 64 bits, without the low 8 bits, which are the processor
-- (include/linux/pstore.h)
abbrev pub entry_time : List ℕ → ℕ
entry_time e = from_le_bytes w64 (slice_range e 16 24) / 256

-- what an earlier zone's head, and the rest of its entries merged by `rest`, make with a later zone's
-- entries: a later head comes first where its time is at most the earlier one's
abbrev pub put_before : List ℕ → (List (List ℕ) → List (List ℕ)) → List (List ℕ) → List (List ℕ)
put_before a rest [] = a ∷ rest []
put_before a rest (b ∷ bs) = if nat_le (entry_time b) (entry_time a) then b ∷ put_before a rest bs else a ∷ rest
    (b ∷ bs)

-- an earlier zone's entries merged with a later one's
abbrev pub merge : List (List ℕ) → List (List ℕ) → List (List ℕ)
merge [] later = later
merge (a ∷ rest) later = put_before a (merge rest) later

-- the entries of these logs, merged from the first log on, end to end
abbrev pub merged : List (List ℕ) → List ℕ
merged logs = flat_map (λ entry. entry) (fold (λ all log. merge all (entries log)) [] logs)
