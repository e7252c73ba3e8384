-- The ramoops nodes of a tree and their numbers, as the kernel reads them (fs/pstore/ram.c, ramoops_parse_dt)
use Rattle.std.specs.Prelude.{ℕ, ◌+◌, ◌-◌, ◌*◌, ◌^◌, ◌==◌, nat_lt, nat_le, Bool, true, false, ◌&&◌, ◌||◌, if◌then◌else◌}
use Rattle.std.specs.Prelude.{List, [], ◌∷◌, ◌++◌, length, take, slice_index, filter, codes, Option, Some, None, Result}
use Rattle.std.specs.Prelude.{Ok, Err}
use Rattle.std.specs.List.{before_first}
use Rattle.std.specs.Str.{bytes_eq}
use Rattle.dtb_spec.specs.Cells.{◌>>=◌, cell, span_of}
use Rattle.dtb_spec.specs.Headers.{header_of}
use Rattle.dtb_spec.specs.Trees.{lines_of}
use Rattle.dtb_spec.specs.Properties.{name_at, path_of, value_of}
use Rattle.dtb_spec.specs.declared.Span.{Span}
use Rattle.dtb_spec.specs.declared.Region.{Region}
use Rattle.dtb_spec.specs.declared.Numbers.{Numbers}
use Rattle.dtb_spec.specs.declared.Fault.{Fault}
use Rattle.dtb_spec.specs.declared.Fault.TheVariants.{TooShort, TooLarge, Reg}

-- ---- which nodes

abbrev pub begins_with : List ℕ → List ℕ → Bool
begins_with front bytes = bytes_eq (take (length front) bytes) front

-- whether one of the texts, each with a zero at its end, is "ramoops"; `first` says that a text begins here
unfoldable pub lists_ramoops : Bool → List ℕ → Bool
lists_ramoops first [] = false
lists_ramoops first (byte ∷ bytes) =
    (first && begins_with (codes "ramoops" ++ 0 ∷ []) (byte ∷ bytes)) || lists_ramoops (byte == 0) bytes

abbrev pub is_compatible : List ℕ → Option Span → Bool
is_compatible structure None = false
is_compatible structure (Some value) = lists_ramoops true (span_of structure value)

-- a device has no status, or a status up to its zero of "okay" or "ok" (drivers/of/base.c, of_device_is_available)
abbrev pub is_available : List ℕ → Option Span → Bool
is_available structure None = true
is_available structure (Some value) =
    bytes_eq (before_first (λ b. b == 0) (span_of structure value)) (codes "okay")
    || bytes_eq (before_first (λ b. b == 0) (span_of structure value)) (codes "ok")

abbrev pub is_ramoops : List ℕ → List ℕ → ℕ → Bool
is_ramoops structure strings node =
    is_compatible structure (value_of structure strings (codes "compatible") node)
    && is_available structure (value_of structure strings (codes "status") node)

-- the last node of a line
abbrev pub own : List ℕ → ℕ
own line = slice_index line (length line - 1)

-- ---- their numbers

-- the first cell of a property, or the default if it is missing (ramoops_parse_dt_u32)
abbrev pub first_cell : List ℕ → ℕ → Option Span → Result ℕ Fault
first_cell structure default None = Ok default
first_cell structure default (Some value) =
    if nat_lt value.len 4 then Err TooShort
    else (if nat_lt (2 ^ 31 - 1) (cell structure value.from) then Err TooLarge
    else Ok (cell structure value.from))

abbrev pub number_of : List ℕ → List ℕ → List ℕ → ℕ → ℕ → Result ℕ Fault
number_of structure strings key default node = first_cell structure default (value_of structure strings key node)

-- the same of the parent of the last node; the root has none, and so no region
abbrev pub parent_number : List ℕ → List ℕ → List ℕ → ℕ → List ℕ → Result ℕ Fault
parent_number structure strings key default line =
    if nat_lt (length line) 2 then Err Reg
    else number_of structure strings key default (slice_index line (length line - 2))

-- one or two cells, the first the most significant
abbrev pub wide : List ℕ → ℕ → ℕ → ℕ
wide structure at cells = if cells == 1 then cell structure at else 2 ^ 32 * cell structure at + cell structure (at + 4)

abbrev pub is_wide : ℕ → Bool
is_wide cells = (cells == 1) || (cells == 2)

-- the first address and size, of so many cells each (drivers/of/address.c, __of_get_address)
abbrev pub region_in : List ℕ → ℕ → ℕ → Option Span → Result Region Fault
region_in structure address_cells size_cells None = Err Reg
region_in structure address_cells size_cells (Some value) =
    if is_wide address_cells && is_wide size_cells && nat_le (4 * (address_cells + size_cells)) value.len
    then Ok (record {
      address = wide structure value.from address_cells;
      size = wide structure (value.from + 4 * address_cells) size_cells;
    })
    else Err Reg

unfoldable pub region_of : List ℕ → List ℕ → List ℕ → Result Region Fault
region_of structure strings line = do
  address_cells ← parent_number structure strings (codes "#address-cells") 2 line
  size_cells ← parent_number structure strings (codes "#size-cells") 1 line
  region_in structure address_cells size_cells (value_of structure strings (codes "reg") (own line))

unfoldable pub numbers_of : List ℕ → List ℕ → List ℕ → Result Numbers Fault
numbers_of structure strings line = do
  region ← region_of structure strings line
  record_size ← number_of structure strings (codes "record-size") 0 (own line)
  console_size ← number_of structure strings (codes "console-size") 0 (own line)
  ftrace_size ← number_of structure strings (codes "ftrace-size") 0 (own line)
  pmsg_size ← number_of structure strings (codes "pmsg-size") 0 (own line)
  ecc_size ← number_of structure strings (codes "ecc-size") 0 (own line)
  flags ← number_of structure strings (codes "flags") 0 (own line)
  Ok (record {
    address = region.address;
    size = region.size;
    record_size = record_size;
    console_size = console_size;
    ftrace_size = ftrace_size;
    pmsg_size = pmsg_size;
    ecc_size = ecc_size;
    flags = flags;
  })

-- ---- old boards

-- whether the parent of the last node is named reserved-memory, whatever address follows an `@`
abbrev pub is_reserved : List ℕ → List ℕ → Bool
is_reserved structure line =
    nat_le 2 (length line)
    && bytes_eq (before_first (λ b. b == 64) (name_at structure (slice_index line (length line - 2))))
    (codes "reserved-memory")

-- elsewhere, if the records alone have a size, console and pmsg have the same: boards older than the bindings
abbrev pub settled : Bool → Numbers → Numbers
settled reserved n =
    if reserved || nat_lt 0 (n.console_size + n.ftrace_size + n.pmsg_size + n.ecc_size) then n
    else record n { console_size = n.record_size; pmsg_size = n.record_size }

-- ---- all of them

pub record Ramoops : Type 0 where
  pub path : List ℕ
  pub numbers : Numbers

abbrev pub node_of : List ℕ → List ℕ → List ℕ → Result Ramoops Fault
node_of structure strings line = do
  numbers ← numbers_of structure strings line
  Ok (record { path = path_of structure line; numbers = settled (is_reserved structure line) numbers })

unfoldable pub nodes_in : List ℕ → List ℕ → List (List ℕ) → Result (List Ramoops) Fault
nodes_in structure strings [] = Ok []
nodes_in structure strings (line ∷ lines) = do
  node ← node_of structure strings line
  nodes ← nodes_in structure strings lines
  Ok (node ∷ nodes)

unfoldable pub nodes_between : List ℕ → List ℕ → Result (List Ramoops) Fault
nodes_between structure strings = do
  lines ← lines_of structure strings
  nodes_in structure strings (filter (λ line. is_ramoops structure strings (own line)) lines)

-- the ramoops nodes of a tree, in their order, or the first fault: of the header, of the structure, of a ramoops node
abbrev pub nodes_of : List ℕ → Result (List Ramoops) Fault
nodes_of bytes = do
  header ← header_of bytes
  nodes_between (span_of bytes header.structure) (span_of bytes header.strings)
