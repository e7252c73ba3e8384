-- A region whose console zone holds a text log, so that a log is reported as a region is
use Rattle.std.specs.Prelude.{codes, ◌≡◌, ℕ, ◌+◌, ◌-◌, nat_lt, List, [], ◌∷◌, ◌++◌, length, find, replicate, unwrap_or}
use Rattle.std.specs.Prelude.{Ok}
use Rattle.std.specs.Int.{w32, to_le_bytes}
use Rattle.zone_spec.specs.declared.Kind.TheVariants.{Console}
use Rattle.zone_spec.specs.declared.Zone.{Zone}
use Rattle.zone_spec.specs.declared.params.Order.TheVariants.{FtracePmsg}
use Rattle.zone_spec.specs.declared.params.Params.{Params}
use Rattle.zone_spec.specs.Numbers.{plain_sig}
use Rattle.zone_spec.specs.Layout.{layout_of, zone_at}
use Rattle.zone_spec.specs.Told.{last_items}
use Rattle.ring_laws.specs.Laws.{ReadsTold}
use Rattle.zone_spec.specs.declared.params.ByteOrder.TheVariants.{Little}

-- the most bytes of a log that the largest region holds before its console goes round
abbrev pub most_kept : ℕ
most_kept = 16_777_203

-- the last bytes of a log that fit, as a console keeps them
abbrev pub kept : List ℕ → List ℕ
kept log = last_items most_kept log

-- the sizes of a console zone
unfoldable pub zone_sizes : List ℕ
zone_sizes =
    4096 ∷ 8192 ∷ 16384 ∷ 32768 ∷ 65536 ∷ 131072 ∷ 262144 ∷ 524288 ∷ 1048576 ∷ 2097152 ∷ 4194304 ∷ 8388608 ∷ 16777216 ∷ []

-- the least one with room for a header, so many bytes, and one more
unfoldable pub size_for : ℕ → ℕ
size_for n = unwrap_or (find (λ size. nat_lt (12 + n) size) zone_sizes) 16777216

-- a console zone of this size, which is all of the memory
abbrev pub params_of : ℕ → Params
params_of size = record {
  mem = size;
  dump = 0;
  console = size;
  ftrace = 0;
  pmsg = 0;
  ecc = 0;
  cpus = 1;
  ftrace_sig = 0;
  block = 128;
  ecc_dump = 0;
  ecc_console = 0;
  ecc_ftrace = 0;
  ecc_pmsg = 0;
  order = FtracePmsg;
  byte_order = Little;
}

abbrev pub zone_of : ℕ → Zone
zone_of size = zone_at (params_of size) Console size 0 0

-- the signature, start and size, and the log
abbrev pub front_of : List ℕ → List ℕ
front_of log =
    to_le_bytes w32 plain_sig ++ to_le_bytes w32 (length log) ++ to_le_bytes w32 (length log) ++ log

-- and zeros
unfoldable pub region_of : List ℕ → List ℕ
region_of log =
    front_of (kept log) ++ replicate (size_for (length (kept log)) - (12 + length (kept log))) 0

-- ---- the law: a boot of that region reads the log

-- the parameters have a layout, the console zone alone; its bytes are the region, and read the log
pub record IsReadBack (log : List ℕ) : Type 0 where
  pub laid : layout_of (params_of (size_for (length (kept log)))) ≡ Ok (zone_of (size_for (length (kept log))) ∷ [])
  pub size : length (region_of log) ≡ size_for (length (kept log))
  pub reads : ReadsTold (zone_of (size_for (length (kept log)))) (region_of log) (kept log)

abbrev pub LogsAreReadBack : Type 0
LogsAreReadBack = (log : List ℕ) → IsReadBack log

-- a row, typed by hand: three bytes in the least region
abbrev pub ThreeBytesRow : Type 0
ThreeBytesRow = region_of (codes "abc")
    ≡ 68 ∷ 66 ∷ 71 ∷ 67 ∷ 3 ∷ 0 ∷ 0 ∷ 0 ∷ 3 ∷ 0 ∷ 0 ∷ 0 ∷ 97 ∷ 98 ∷ 99 ∷ [] ++ replicate 4081 0
