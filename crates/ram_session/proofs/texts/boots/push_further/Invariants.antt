-- The text so far, and the runs that are left, are all runs. For the loop of `push_further`.
use Rattle.std.proofs.Common.{◌≡◌, ◌++◌, drop, flat_map, codes}
use Rattle.script_spec.specs.Texts.{run_text}
use Rattle.ram_session.proofs.texts.boots.push_further.Given as goal

-- the text so far, and then the runs that are left
abbrev pub invariant-loop-run : goal.invariant-loop-run
invariant-loop-run l =
    l.text.items ++ flat_map (λ run. codes "," ++ run_text run) (drop l.run-index l.runs)
    ≡ l.initial.text.items ++ flat_map (λ run. codes "," ++ run_text run) l.runs
