-- What the objects of one call hold
use Rattle.std.specs.Prelude.{ℕ, List}
use Rattle.report_entry.specs.declared.memory.Image.{Image}
use Rattle.report_entry.specs.declared.memory.Text.{Text}

abbrev pub image_bytes : Image → List ℕ
image_bytes s = s.bytes.items

abbrev pub image_faults : Image → ℕ
image_faults s = s.faults

abbrev pub image_writes : Image → ℕ
image_writes s = s.writes

abbrev pub text_bytes : Text → List ℕ
text_bytes s = s.bytes.items

abbrev pub text_faults : Text → ℕ
text_faults s = s.faults
