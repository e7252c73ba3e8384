-- The zeros at the front are the `len` so far and those that follow. For the loop of `zeros`.
use Rattle.std.proofs.Common.{◌≡◌, ◌==◌, ◌≤◌, ◌-◌, ◌+◌, length, drop}
use Rattle.std.specs.List.{prefix_len}
use Rattle.ftrace_text.proofs.hexadecimal.zeros.Given as goal

abbrev pub invariant-digits : goal.invariant-digits
invariant-digits l =
    (l.len ≤ length l.digits)
    × (prefix_len (λ d. d == 48) l.digits ≡ l.len + prefix_len (λ d. d == 48) (drop l.len l.digits))

abbrev pub decreases-digits : goal.decreases-digits
decreases-digits l = length l.digits - l.len
