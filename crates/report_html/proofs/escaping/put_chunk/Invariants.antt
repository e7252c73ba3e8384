-- The runs so far stand escaped at the front, in six places a byte at most. For the loop of `put_chunk`.
use Rattle.std.proofs.Common.{◌≡◌, ◌≤◌, ◌-◌, ◌*◌, take, length}
use Rattle.std.specs.Prelude.{flat_map}
use Rattle.report_spec.specs.Escaped.{escaped_byte}
use Rattle.report_html.proofs.escaping.put_chunk.Given as goal

-- the runs so far
abbrev pub invariant-loop-at : goal.invariant-loop-at
invariant-loop-at l = record {
  text : take l.end l.room ≡ flat_map escaped_byte (take l.at l.chunk);
  within : l.end ≤ 6 * l.at;
  read : l.at ≤ length l.chunk;
  room : length l.room ≡ 776;
}

abbrev pub decreases-loop-at : goal.decreases-loop-at
decreases-loop-at l = length l.chunk - l.at
