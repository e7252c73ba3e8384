-- The newest of the dumps so far is held
use Rattle.std.proofs.Common.{◌≡◌, take, map}
use Rattle.std.specs.Option.{option_copied}
use Rattle.report_spec.specs.Newest.{newest}
use Rattle.report_html.specs.Causes.{CrashShown, crashes_in}
use Rattle.report_html.proofs.causes.newest_of.Given as goal

abbrev pub invariant-loop-crash : goal.invariant-loop-crash
invariant-loop-crash l = option_copied l.held
    ≡ newest (map (λ (c : CrashShown). c.dump) (crashes_in (take l.crash-index l.crashes)))
