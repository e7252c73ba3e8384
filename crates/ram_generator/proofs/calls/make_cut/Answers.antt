-- No append leaves the session as it is, and one has its first stores made, or all. For `make_cut`.
use Rattle.std.proofs.Common.{fold, Option, sym, subst}
use Rattle.script_spec.specs.Generated.{with_cut}
use Rattle.ram_generator.specs.declared.turns.CutAppend.{CutAppend}
use Rattle.ram_generator.specs.Turns.{cut_of}
use Rattle.ram_generator.specs.Sessions.{Runs}
use Rattle.ram_generator.proofs.SessionCalls.{cut_counted}
use Rattle.ram_generator.proofs.calls.make_cut.Goals as goal

pub returns-in_default-clause-cut : goal.returns-in_default-clause-cut
returns-in_default-clause-cut c layout mem g lies r =
    subst (λ (o : Option CutAppend). Runs layout mem c.args.live.now c.args.counts.now
    (fold (with_cut layout) g (cut_of o))) (sym c.in_default.is) r

pub returns-clause-cut : goal.returns-clause-cut
returns-clause-cut c layout mem g lies r =
    let m = c.begin_stores-all.ensures layout mem r.now lies r.stands r.sound in
    let l = c.step_stores.ensures layout mem m.next lies m.stands m.sound in
    subst (λ (o : Option CutAppend). Runs layout mem c.step_stores.new.live c.count_cut.new.counts
    (fold (with_cut layout) g (cut_of o))) (sym c.in-Some.is)
    (rw c.from-count.ensures at (cut_counted layout mem c.args.live.now c.begin_stores-all.new.live
    c.step_stores.new.live c.args.counts.now c.count_cut.new.counts g c.in-Some.field-0.ring
    c.in-Some.field-0.bytes c.from-count.result c.begin_stores-all.result r m l c.count_cut.ensures.added))
