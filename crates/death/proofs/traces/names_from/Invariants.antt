-- The names so far, and those of the entries from here, are the names. For the loop of `names_from`.
use Rattle.std.proofs.Common.{◌≡◌, ◌-◌, ◌+◌, ◌++◌, ◌∷◌, length, map}
use Rattle.death_spec.specs.Traces.{entries, name_in}
use Rattle.death.proofs.traces.names_from.Given as goal

-- the names so far, and those of the entries below
abbrev pub invariant-entries : goal.invariant-entries
invariant-entries l =
    (name_in l.text l.fn.entry ∷ map (name_in l.text) (entries l.text l.fn.entry.next))
    ≡ l.spans.items ++ map (name_in l.text) (entries l.text l.at)

abbrev pub decreases-entries : goal.decreases-entries
decreases-entries l = length l.text + 1 - l.at
