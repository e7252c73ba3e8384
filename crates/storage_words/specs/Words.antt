-- The sizes of a storage in words, as pstore_blk takes them (fs/pstore/blk.c, module_param)
use Rattle.std.specs.Prelude.{ℕ, ◌^◌, ◌==◌, nat_lt, Bool, if◌then◌else◌, List, [], ◌∷◌, length, codes, unwrap_or}
use Rattle.std.specs.Prelude.{string_bytes, Result, Ok, Err}
use Rattle.std.specs.List.{list_any}
use Rattle.std.specs.declared.string.String.{String}
use Rattle.std.specs.declared.alloc.Global.{Global}
use Rattle.grammar_spec.specs.declared.faults.ParamFault.{ParamFault}
use Rattle.grammar_spec.specs.Numbers.{begins}
use Rattle.grammar_spec.specs.Words.{KeyTable, ok_unless, texts, first_fault, given}
use Rattle.psz_spec.specs.declared.Sizes.{Sizes}
use Rattle.psz_spec.specs.Parameters.{kib_size}
use Rattle.storage_words.specs.declared.Storages.{Storages}
use Rattle.storage_words.specs.declared.Storages.TheVariants.{Never, Shown, All}

-- the keys. `cpus` is the project's own: the number of processors, which no word of the kernel tells
abbrev pub keys : KeyTable
keys = record {
  prefix = [];
  names = codes "pstore_blk.kmsg_size" ∷ codes "pstore_blk.pmsg_size" ∷ codes "pstore_blk.console_size"
      ∷ codes "pstore_blk.ftrace_size" ∷ codes "pstore_blk.cpus" ∷ [];
  first = record { key = []; texts = [] };
  second = record { key = []; texts = [] };
}

-- a size in bytes. No storage has room for one of 4 GiB, or of a page less
abbrev pub size_of : ℕ → ℕ
size_of kib = if nat_lt (kib_size kib) (2 ^ 32) then kib_size kib else 4_294_963_200

-- the size that the words give a key in KiB, or this many
abbrev pub size_given : List (List ℕ) → List ℕ → ℕ → ℕ
size_given words key absent = size_of (unwrap_or (given keys words key) absent)

-- a dump zone has 64 KiB where no word says otherwise, and other zones are missing, as in a kernel without their front
-- ends
abbrev pub sizes_of : List (List ℕ) → Sizes
sizes_of words = record {
  total = 0;
  pmsg = size_given words (codes "pstore_blk.pmsg_size") 0;
  console = size_given words (codes "pstore_blk.console_size") 0;
  ftrace = size_given words (codes "pstore_blk.ftrace_size") 0;
  dump = size_given words (codes "pstore_blk.kmsg_size") 64;
  cpus = unwrap_or (given keys words (codes "pstore_blk.cpus")) 1;
}

-- the sizes of these words, or the first fault
abbrev pub sizes_read : List (String Global) → Result Sizes ParamFault
sizes_read words = ok_unless (first_fault keys [] (texts words)) (sizes_of (texts words))

-- ---- which files are storages

-- whether a word is one of the module's
abbrev pub is_of_storage : List ℕ → Bool
is_of_storage word = begins (codes "pstore_blk.") word

abbrev pub gives_size : String Global → Bool
gives_size word = is_of_storage (string_bytes word)

abbrev pub by_sizes : Result Sizes ParamFault → Result Storages ParamFault
by_sizes (Ok sizes) = Ok (All sizes)
by_sizes (Err fault) = Err fault

-- each, if one of the words is the module's; without a word, those in which a dump stands
unfoldable pub storages_by : List (String Global) → Result Storages ParamFault
storages_by words =
    if list_any gives_size words then by_sizes (sizes_read words)
    else Ok (if length words == 0 then Shown else Never)
