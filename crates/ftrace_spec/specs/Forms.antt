-- The entries of an ftrace log as each machine writes them (include/linux/pstore.h, struct pstore_ftrace_record), and
-- which entries a log's bytes show
use Rattle.std.specs.Prelude.{ℕ, ◌+◌, ◌*◌, ◌/◌, ◌%◌, ◌==◌, nat_lt, if◌then◌else◌, List, [], ◌∷◌, ◌++◌}
use Rattle.std.specs.Prelude.{length, take, drop, map, fold, flat_map, sum_by, slice_range, Option, Some, None}
use Rattle.std.specs.Int.{from_le_bytes, from_be_bytes, to_le_bytes}
use Rattle.std.specs.List.{range_with_len}
use Rattle.std.proofs.Common.{w64}
use Rattle.zone_spec.specs.declared.Zone.{Zone}
use Rattle.zone_spec.specs.declared.params.ByteOrder.{ByteOrder}
use Rattle.zone_spec.specs.declared.params.ByteOrder.TheVariants.{Little, Big}
use Rattle.zone_spec.specs.WordBytes.{word_of}
use Rattle.zone_spec.specs.Ftrace.{entry_time, merge}
use Rattle.ftrace_spec.specs.declared.EntryForm.{EntryForm}
use Rattle.ftrace_spec.specs.declared.EntryForm.TheVariants.{Long, Short}

-- ---- one entry

-- the bytes of an entry: two addresses, and a word of 64 bits
abbrev pub entry_len : EntryForm → ℕ
entry_len Long = 24
entry_len Short = 16

-- the number that eight bytes are
abbrev pub number_of : ByteOrder → List ℕ → ℕ
number_of Little bytes = from_le_bytes w64 bytes
number_of Big bytes = from_be_bytes w64 bytes

-- an entry as a little-endian machine of 64 bits writes it: the two addresses and the word, each in eight bytes
abbrev pub long_by : ℕ → ℕ → ℕ → List ℕ
long_by address parent word = to_le_bytes w64 address ++ to_le_bytes w64 parent ++ to_le_bytes w64 word

-- an entry of another machine, as that one writes it
abbrev pub as_long : ByteOrder → EntryForm → List ℕ → List ℕ
as_long order Long entry =
    long_by (number_of order (slice_range entry 0 8)) (number_of order (slice_range entry 8 16))
    (number_of order (slice_range entry 16 24))
as_long order Short entry =
    long_by (word_of order (slice_range entry 0 4)) (word_of order (slice_range entry 4 8))
    (number_of order (slice_range entry 8 16))

-- ---- a log

-- entry i of a log, whose first bytes, if they make no whole entry, are left out
abbrev pub entry_at : EntryForm → List ℕ → ℕ → List ℕ
entry_at form log i = take (entry_len form) (drop (length log % entry_len form + entry_len form * i) log)

-- a log's entries, all in the one form
unfoldable pub long_entries : ByteOrder → EntryForm → List ℕ → List (List ℕ)
long_entries order form log =
    map (λ i. as_long order form (entry_at form log i)) (range_with_len 0 (length log / entry_len form))

-- the entries of these logs, merged by their times from the first log on, end to end
unfoldable pub trace_by : ByteOrder → EntryForm → List (List ℕ) → List ℕ
trace_by order form logs =
    flat_map (λ entry. entry) (fold (λ all log. merge all (long_entries order form log)) [] logs)

-- ---- the form that the bytes show

-- how many of these entries have a time below that of the entry before them, the first below this time
unfoldable pub falls_after : ℕ → List (List ℕ) → ℕ
falls_after time [] = 0
falls_after time (e ∷ es) = (if nat_lt (entry_time e) time then 1 else 0) + falls_after (entry_time e) es

-- what speaks against a form: the log is not of whole entries, and entries whose times fall
abbrev pub oddities : ByteOrder → EntryForm → List ℕ → ℕ
oddities order form log =
    (if length log % entry_len form == 0 then 0 else 1) + falls_after 0 (long_entries order form log)

abbrev pub all_oddities : ByteOrder → EntryForm → List (List ℕ) → ℕ
all_oddities order form logs = sum_by (oddities order form) logs

-- the form of fewer oddities; of equals that of 64 bits
abbrev pub form_shown : ByteOrder → List (List ℕ) → EntryForm
form_shown order logs = if nat_lt (all_oddities order Short logs) (all_oddities order Long logs) then Short else Long

-- the form that is given, or else the one that the logs show
abbrev pub form_of : ByteOrder → Option EntryForm → List (List ℕ) → EntryForm
form_of order None logs = form_shown order logs
form_of order (Some form) logs = form

-- the entries of the logs of a machine's ftrace zones
unfoldable pub trace_of : ByteOrder → Option EntryForm → List (List ℕ) → List ℕ
trace_of order given logs = trace_by order (form_of order given logs) logs

-- the order of bytes of a layout: all zones have one
abbrev pub order_of : List Zone → ByteOrder
order_of [] = Little
order_of (z ∷ zs) = z.byte_order
