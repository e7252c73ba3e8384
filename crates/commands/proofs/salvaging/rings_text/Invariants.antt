-- The text so far, and the lines of the rings that are left, are the text of all rings. For the
-- loop of `rings_text`.
use Rattle.std.proofs.Common.{◌≡◌, ◌++◌, drop, flat_map}
use Rattle.command_spec.specs.Texts.{ring_line, rings_text}
use Rattle.commands.proofs.salvaging.rings_text.Given as goal

-- the text so far, and then the lines of the rings that are left
abbrev pub invariant-loop-ring : goal.invariant-loop-ring
invariant-loop-ring l = l.text.items ++ flat_map ring_line (drop l.ring-index l.rings) ≡ rings_text l.rings
