-- The bytes so far are appended, and all is visible
use Rattle.std.proofs.Common.{◌≡◌, ◌++◌, true, take}
use Rattle.std.specs.Prelude.{flat_map}
use Rattle.std.specs.List.{list_all}
use Rattle.report_spec.specs.Visible.{is_visible, visible_byte}
use Rattle.report_text.proofs.visible.push_visible.Given as goal

abbrev pub invariant-loop-b : goal.invariant-loop-b
invariant-loop-b l = record {
  bytes : l.out.items ≡ l.initial.out.items ++ flat_map visible_byte (take l.b-index l.bytes);
  visible : list_all is_visible l.out.items ≡ true;
}
