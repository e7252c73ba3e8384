-- The text so far, and the lines of the calls that are left, are the text of all open calls. For
-- the loop of `push_all_open`.
use Rattle.std.proofs.Common.{◌≡◌, ◌++◌, drop, flat_map}
use Rattle.script_spec.specs.SharedScripts.{open_text}
use Rattle.shared_session.proofs.texts.push_all_open.Given as goal

-- the text so far, and then the lines of the calls that are left
abbrev pub invariant-loop-call : goal.invariant-loop-call
invariant-loop-call l = l.text.items ++ flat_map open_text (drop l.call-index l.calls)
    ≡ l.initial.text.items ++ flat_map open_text l.calls
