-- Bytes in memory that are only read
use Rattle.std.specs.Prelude.{ℕ, List}
use Rattle.report_run.specs.declared.read_only.ReadOnly.{ReadOnly}

abbrev pub bytes_of : ReadOnly → List ℕ
bytes_of s = s.bytes.items
