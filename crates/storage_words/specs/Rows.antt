-- Sizes in words: worked rows, with values typed by hand
use Rattle.std.specs.Prelude.{◌≡◌, [], ◌∷◌, codes, Some}
use Rattle.grammar_spec.specs.declared.faults.ParamFault.TheVariants.{UnknownKey, Twice}
use Rattle.grammar_spec.specs.Words.{first_fault}
use Rattle.storage_words.specs.Words.{keys, size_of, sizes_of}

-- in KiB: 16, and the kernel makes 4 of 5
abbrev pub WordsRow : Type 0
WordsRow = sizes_of (codes "pstore_blk.kmsg_size=16" ∷ codes "pstore_blk.pmsg_size=5" ∷ codes "pstore_blk.cpus=2" ∷ [])
    ≡ record { total = 0; pmsg = 4096; console = 0; ftrace = 0; dump = 16384; cpus = 2 }

-- dumps alone, of 64 KiB
abbrev pub NoWordRow : Type 0
NoWordRow = sizes_of [] ≡ record { total = 0; pmsg = 0; console = 0; ftrace = 0; dump = 65536; cpus = 1 }

abbrev pub LargestRow : Type 0
LargestRow = size_of 4_194_300 ≡ 4_294_963_200

-- 4 GiB
abbrev pub TooLargeRow : Type 0
TooLargeRow = size_of 4_194_304 ≡ 4_294_963_200

-- the words of a line with both modules: that of ramoops is the second
abbrev pub ForeignRow : Type 0
ForeignRow = first_fault keys [] (codes "pstore_blk.kmsg_size=16" ∷ codes "ramoops.mem_size=4096" ∷ [])
    ≡ Some (UnknownKey 1)

abbrev pub TwiceRow : Type 0
TwiceRow = first_fault keys [] (codes "pstore_blk.kmsg_size=16" ∷ codes "pstore_blk.kmsg_size=16" ∷ []) ≡ Some (Twice 1)

-- without its module a size could be in bytes
abbrev pub BareRow : Type 0
BareRow = first_fault keys [] (codes "kmsg_size=16" ∷ []) ≡ Some (UnknownKey 0)
