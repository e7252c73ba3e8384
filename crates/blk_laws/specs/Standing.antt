-- Rings and the lists that they stand for
use Rattle.std.specs.Prelude.{◌≡◌, ℕ, ◌+◌, ◌^◌, ◌<◌, ◌≤◌, if◌then◌else◌, ◌==◌, List, length, drop, Option, Some, None}
use Rattle.zone_spec.specs.declared.Words.{Words}
use Rattle.blk_spec.specs.declared.BlkZone.{BlkZone}
use Rattle.blk_spec.specs.declared.BlkWords.{BlkWords}
use Rattle.blk_spec.specs.Layout.{capacity}
use Rattle.blk_spec.specs.Reading.{zone_bytes, header_words, ring_log}

-- a zone that lies in the store and has room for data
pub record LiesIn (z : BlkZone) (store : List ℕ) : Type 0 where
  pub inside : z.at + z.size ≤ length store
  pub sized : 12 < z.size
  pub small : z.size ≤ 2 ^ 24
  pub word : z.sig < 2 ^ 32

-- the header with these words
abbrev pub header_with : BlkZone → BlkWords → Words
header_with z words = record { sig = z.sig; start = words.start; size = words.size }

-- a ring with these words stands for a list: its header has them, and its bytes in turn are the list
pub record StandsFor (z : BlkZone) (words : BlkWords) (store told : List ℕ) : Type 0 where
  pub start : words.start < capacity z
  pub size : words.size ≤ capacity z
  pub plain : words.size < capacity z → words.start ≡ words.size
  pub header : header_words (zone_bytes store z) ≡ header_with z words
  pub log : ring_log (header_with z words) (drop 12 (zone_bytes store z)) ≡ told

-- a list as a loading lists it
abbrev pub listed : List ℕ → Option (List ℕ)
listed told = if length told == 0 then None else Some told
