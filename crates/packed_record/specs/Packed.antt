-- A record that pstore left packed (fs/pstore/inode.c, pstore_mkfile), and its text
use Rattle.std.specs.Prelude.{◌≡◌, ℕ, ◌≤◌, Bool, nat_eq, List, length, drop, codes, Option, Some, None}
use Rattle.std.specs.List.{ends_with}
use Rattle.compression_spec.specs.declared.Compression.{Compression}
use Rattle.compression_spec.specs.declared.Compression.TheVariants.{Zlib}
use Rattle.compression_spec.specs.Magics.{compression_of}
use Rattle.inflate_spec.specs.Texts.{Inflates, Breaks, Exceeds}
use Rattle.report_spec.specs.declared.TextFault.{TextFault}
use Rattle.report_spec.specs.declared.TextFault.TheVariants.{Broken, TooLong}

abbrev pub is_packed_name : List ℕ → Bool
is_packed_name path = ends_with nat_eq path (codes ".enc.z")

-- the stream stands behind zlib's two bytes, or alone
abbrev pub stream_by : Option Compression → List ℕ → List ℕ
stream_by (Some Zlib) bytes = drop 2 bytes
stream_by other bytes = bytes

abbrev pub stream_of : List ℕ → List ℕ
stream_of bytes = stream_by (compression_of bytes) bytes

-- the text of a whole stream; bytes may follow it
pub record IsWhole (stream text : List ℕ) (most : ℕ) : Type 0 where
  pub taken : ℕ
  pub inflates : Inflates stream text taken
  pub within : length text ≤ most

-- all of it, or as far as it inflates; at most so many bytes
abbrev pub IsText : Option TextFault → List ℕ → ℕ → List ℕ → Type 0
IsText None stream most text = IsWhole stream text most
IsText (Some (Broken fault)) stream most text = Breaks stream fault text × (length text ≤ most)
IsText (Some TooLong) stream most text = Exceeds stream most text
