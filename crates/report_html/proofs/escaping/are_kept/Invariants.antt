-- If all bytes so far are kept, they are their own escaping. For the loop of `are_kept`.
use Rattle.std.proofs.Common.{◌≡◌, true, take}
use Rattle.std.specs.Prelude.{flat_map}
use Rattle.report_spec.specs.Escaped.{escaped_byte}
use Rattle.report_html.proofs.escaping.are_kept.Given as goal

-- the bytes so far
abbrev pub invariant-loop-b : goal.invariant-loop-b
invariant-loop-b l = l.are_kept ≡ true → flat_map escaped_byte (take l.b-index l.bytes) ≡ take l.b-index l.bytes
