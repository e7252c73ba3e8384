-- Numbers by their decimal form
use Rattle.std.specs.Prelude.{◌≡◌, ℕ, ◌^◌, ◌<◌, Bool, if◌then◌else◌, List, [], ◌++◌, codes, decimal, Option, Some, None}
use Rattle.blk_spec.specs.declared.BlkName.{BlkName}
use Rattle.blk_spec.specs.declared.BlkName.TheVariants.{Dump}

-- the number below 2^32 with this decimal form, or None where no number has it
abbrev pub IsDecimal : List ℕ → Option ℕ → Type 0
IsDecimal text (Some n) = (n < 2 ^ 32) × (decimal n ≡ text)
IsDecimal text None = (n : ℕ) → n < 2 ^ 32 → ¬ (decimal n ≡ text)

-- the dump of the number with this decimal form, or None where no number has it
abbrev pub IsNumbered : List ℕ → Bool → Option BlkName → Type 0
IsNumbered text packed (Some (Dump index flag)) = (index < 2 ^ 32) × (decimal index ≡ text) × (flag ≡ packed)
IsNumbered text packed (Some other) = ⊥
IsNumbered text packed None = (n : ℕ) → n < 2 ^ 32 → ¬ (decimal n ≡ text)

-- the dump whose name goes on so behind its front, or None where no dump's does
abbrev pub dump_ending : ℕ → Bool → List ℕ
dump_ending index packed = decimal index ++ (if packed then codes ".enc.z" else [])

abbrev pub IsDumpOf : List ℕ → Option BlkName → Type 0
IsDumpOf text (Some (Dump index packed)) = (index < 2 ^ 32) × (dump_ending index packed ≡ text)
IsDumpOf text (Some other) = ⊥
IsDumpOf text None = (index : ℕ) (packed : Bool) → index < 2 ^ 32 → ¬ (dump_ending index packed ≡ text)
