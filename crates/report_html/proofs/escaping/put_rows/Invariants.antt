-- The bytes so far stand escaped from a place on, in six places each at most. For the loop of `put_rows`.
use Rattle.std.proofs.Common.{◌≡◌, ◌≤◌, ◌+◌, ◌*◌, ◌++◌, take, length}
use Rattle.std.specs.Prelude.{flat_map}
use Rattle.report_spec.specs.Escaped.{escaped_byte}
use Rattle.report_html.proofs.escaping.put_rows.Given as goal

-- the bytes so far
abbrev pub invariant-loop-b : goal.invariant-loop-b
invariant-loop-b l = record {
  text : take l.at l.room ≡ take l.from l.initial.room ++ flat_map escaped_byte (take l.b-index l.bytes);
  within : l.at ≤ l.from + 6 * l.b-index;
  room : length l.room ≡ length l.initial.room;
}
