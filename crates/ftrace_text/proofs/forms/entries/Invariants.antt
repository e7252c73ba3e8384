-- The entries are those of the places so far. For the loop of `entries`.
use Rattle.std.proofs.Common.{◌≡◌, map}
use Rattle.std.specs.List.{range_with_len}
use Rattle.ftrace_zone.specs.EntryBytes.{entry_bytes}
use Rattle.ftrace_spec.specs.Forms.{as_long, entry_at}
use Rattle.ftrace_text.proofs.forms.entries.Given as goal

abbrev pub invariant-loop-i : goal.invariant-loop-i
invariant-loop-i l = map entry_bytes l.all.items
    ≡ map (λ i. as_long l.order l.form (entry_at l.form l.log i)) (range_with_len 0 l.i)
