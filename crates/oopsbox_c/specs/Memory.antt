-- What the script of one run holds
use Rattle.std.specs.Prelude.{ℕ, List, drop}
use Rattle.oopsbox_c.specs.declared.memory.Script.{Script}

abbrev pub script_left : Script → List ℕ
script_left s = drop s.at s.bytes
