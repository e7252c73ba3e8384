-- The one write of a dump, and the counters that dumps carry (a project's own, after fs/pstore/zone.c)
use Rattle.std.specs.Prelude.{ℕ, ◌+◌, ◌-◌, ◌/◌, ◌%◌, ◌^◌, ◌==◌, min, Bool, if◌then◌else◌, List, [], ◌∷◌, ◌++◌, length}
use Rattle.std.specs.Prelude.{take, replicate}
use Rattle.std.specs.Int.{to_le_bytes}
use Rattle.std.proofs.Common.{w32, w64}
use Rattle.blk_spec.specs.declared.BlkZone.{BlkZone}
use Rattle.blk_spec.specs.declared.BlkTime.{BlkTime}
use Rattle.kmsg_spec.specs.declared.Reason.{Reason}
use Rattle.kmsg_spec.specs.declared.Reason.TheVariants.{Panic, Oops}
use Rattle.kmsg_spec.specs.Reasons.{reason_number}
use Rattle.blk_spec.specs.Layout.{capacity}
use Rattle.blk_spec.specs.Writes.{Write, in_pieces}
use Rattle.blk_spec.specs.Rings.{header_bytes}

-- how often a panic and an oops were dumped
pub record Counters : Type 0 where
  pub panics : ℕ
  pub oopses : ℕ

-- a counter one further, or at its last value
abbrev pub raised : ℕ → ℕ
raised n = min (n + 1) (2 ^ 32 - 1)

-- the counter that a dump carries, and the counters behind it
abbrev pub counter_for : Reason → Counters → ℕ
counter_for Panic counters = raised counters.panics
counter_for Oops counters = raised counters.oopses
counter_for other counters = 0

abbrev pub counted : Reason → Counters → Counters
counted Panic counters = record { panics = raised counters.panics; oopses = counters.oopses }
counted Oops counters = record { panics = counters.panics; oopses = raised counters.oopses }
counted other counters = counters

-- the 40 bytes that a dump's data begin with
abbrev pub dump_header : BlkTime → Bool → ℕ → ℕ → List ℕ
dump_header time packed counter reason =
    to_le_bytes w32 0x4dfc3ae5 ++ replicate 4 0 ++ to_le_bytes w64 time.secs ++ to_le_bytes w64 time.nanos
    ++ (if packed then 1 else 0) ∷ replicate 3 0 ++ to_le_bytes w32 counter ++ to_le_bytes w32 reason ++ replicate 4 0

-- the front of a body that fits its zone
abbrev pub body_kept : BlkZone → List ℕ → List ℕ
body_kept z body = take (capacity z - 40) body

-- a dump writes its whole zone: both headers, the body, and zeros up to the zone's end
unfoldable pub dump_writes : BlkZone → BlkTime → Bool → ℕ → Reason → List ℕ → List Write
dump_writes z time packed counter reason body =
    let kept = body_kept z body in
    record {
      at = z.at;
      bytes = header_bytes z.sig (record { size = 40 + length kept; start = 0 }) ++ dump_header time packed counter
          (reason_number reason)
          ++ kept ++ replicate (z.size - (52 + length kept)) 0;
    } ∷ []

-- n zeros, so many at once, and the rest behind them
unfoldable pub zeros_by : ℕ → ℕ → List (List ℕ)
zeros_by count n =
    replicate (n / count) (replicate count 0)
    ++ (if n % count == 0 then [] else replicate (n % count) 0 ∷ [])

-- the pieces of that write, each of which asks the store once: the zone's header, the dump's, the body, and zeros by
-- 65,536
unfoldable pub dump_pieces : BlkZone → BlkTime → Bool → ℕ → Reason → List ℕ → List Write
dump_pieces z time packed counter reason body =
    let kept = body_kept z body in
    in_pieces z.at (header_bytes z.sig (record { size = 40 + length kept; start = 0 })
    ∷ dump_header time packed counter (reason_number reason)
    ∷ kept
    ∷ zeros_by 65536 (z.size - (52 + length kept)))
