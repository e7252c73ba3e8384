-- If the first dump zone alone makes too many faults, each tag is settled. For `may_hold`.
use Rattle.std.proofs.Common.{◌≡◌, Bool, true, false, refl, sym, subst}
use Rattle.std.specs.Prelude.{not}
use Rattle.layout_search.specs.Levels.{after}
use Rattle.layout_search.specs.declared.levels.Level.{Level}
use Rattle.layout_search.specs.Tried.{SettledOver}
use Rattle.layout_search.proofs.BestSoFar.{bad_first}
use Rattle.layout_search.proofs.refusing.may_hold.Goals as goal

not_false : (b : Bool) → not b ≡ false → b ≡ true
not_false true e = refl
not_false false e = cc

pub returns-in_ok-misses-in-Parity-clause-refused : goal.returns-in_ok-misses-in-Parity-clause-refused
returns-in_ok-misses-in-Parity-clause-refused c = λ e s.
    subst (λ (level : Level). SettledOver c.args.known.now c.args.image.now c.args.aim.now (after level) c.args.c.now s)
    (sym c.in-Parity.is)
    (bad_first c.args.known.now c.args.image.now c.args.aim.now c.args.c.now s
    (c.in_ok-misses-in-Parity.ensures.faults (not_false _ e)))
