-- The escaped bytes of the chunks so far are appended. For the loop of `push_escaped`.
use Rattle.std.proofs.Common.{◌≡◌, ◌≤◌, ◌-◌, ◌++◌, take, length}
use Rattle.std.specs.Prelude.{flat_map}
use Rattle.report_spec.specs.Escaped.{escaped_byte}
use Rattle.report_html.proofs.escaping.push_escaped.Given as goal

-- the chunks so far
abbrev pub invariant-loop-at : goal.invariant-loop-at
invariant-loop-at l = record {
  items : l.out.items ≡ l.initial.out.items ++ flat_map escaped_byte (take l.at l.bytes);
  within : l.at ≤ length l.bytes;
}

abbrev pub decreases-loop-at : goal.decreases-loop-at
decreases-loop-at l = length l.bytes - l.at
