-- Rows of magic bytes as the code borrows them
use Rattle.std.specs.Prelude.{ℕ, List, map}
use Rattle.compression_spec.specs.declared.Compression.{Compression}
use denote.Bor.{Bor}

-- the rows without their borrows
abbrev pub plain : List (Compression × Bor (List ℕ)) → List (Compression × List ℕ)
plain rows = map (λ (row : Compression × Bor (List ℕ)). (row.0, row.1.now)) rows
