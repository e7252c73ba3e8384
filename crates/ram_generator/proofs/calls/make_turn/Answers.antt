-- A turn without a call leaves the session as it is. For `make_turn`.
use Rattle.std.proofs.Common.{fold, Option, sym, subst}
use Rattle.script_spec.specs.Generated.{with_call}
use Rattle.ramoops.specs.declared.ask.Ask.{Ask}
use Rattle.ram_generator.specs.Turns.{turn_of, TurnCanBeAsked}
use Rattle.ram_generator.specs.Sessions.{Runs}
use Rattle.ram_generator.proofs.calls.make_turn.Goals as goal

pub make_call-requires-clause-can : goal.make_call-requires-clause-can
make_call-requires-clause-can c = subst TurnCanBeAsked c.in-Some.is c.requires.can

pub returns-in_default-clause-made : goal.returns-in_default-clause-made
returns-in_default-clause-made c layout mem g lies r =
    subst (λ (o : Option Ask). Runs layout mem c.args.live.now c.args.counts.now
    (fold (with_call layout) g (turn_of o))) (sym c.in_default.is) r

pub returns-clause-made : goal.returns-clause-made
returns-clause-made c layout mem g lies r =
    subst (λ (o : Option Ask). Runs layout mem c.make_call.new.live c.make_call.new.counts
    (fold (with_call layout) g (turn_of o))) (sym c.in-Some.is) (c.make_call.ensures.made layout mem g lies r)
