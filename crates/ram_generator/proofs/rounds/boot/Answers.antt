-- The flips are drawn and made, and the boot is the session's. For `boot`.
use Rattle.std.proofs.Common.{◌≡◌, ℕ, length, map, count_by, refl, sym, ap, ◌∙◌, subst}
use Rattle.machine_spec.specs.States.{Off}
use Rattle.machine_spec.specs.Stop.{stopped}
use Rattle.machine_spec.specs.Report.{ZoneReport}
use Rattle.ramoops.specs.Reports.{report_seen}
use Rattle.script_spec.specs.Generated.{Generated, resting, is_told, is_other, with_stop}
use Rattle.ram_generator.specs.declared.counts.Counts.{Counts}
use Rattle.ram_generator.specs.Counting.{counted, flips_added, verdicts_added}
use Rattle.ram_generator.specs.Sessions.{RunsTo}
use Rattle.ram_generator.proofs.RoundCalls.{boot_drawn, booted_is}
use Rattle.ram_generator.proofs.rounds.boot.Goals as goal

pub returns-clause-booted : goal.returns-clause-booted
returns-clause-booted c mem g lies r =
    let zones = c.args.zones.now in
    let flips = c.deref-2.result.now in
    let told = map report_seen c.in_ok-live.report in
    let halted : with_stop zones g ≡ counted (Off (stopped zones r.now)) c.args.counts.now =
    ap (with_stop zones) r.is in
    let d = c.make_damage.ensures zones mem (with_stop zones g) (stopped zones r.now)
    (ap (λ (x : Generated). x.session) halted) (c.stop-off.ensures zones mem r.now r.stands) r.sound.image.0 in
    let up = c.in_ok-live.ensures zones mem d.next lies d.stands d.size in
    let len : c.len.result ≡ length flips = c.len.ensures
    ∙ (c.in_ok-flips.flips.ok.0 ∙ ap (length {A = ℕ × ℕ}) (sym c.deref-2.ensures.value)) in
    let as_told = count_by (λ (r : ZoneReport). is_told r.verdict) told in
    let differs = count_by (λ (r : ZoneReport). is_other r.verdict) told in
    let rest : c.deref.result.now ≡ resting zones g.session =
    c.deref.ensures.value ∙ (c.in_ok-rest.ensures.resting zones mem r.now r.stands
    ∙ sym (ap (λ (x : Generated). resting zones x.session) r.is)) in
    let drawn = boot_drawn zones g c.args.draws.now c.draw_all.new.draws c.deref.result.now c.in_ok-flips.flips.items
    rest c.in_ok-flips.ensures in
    let runs = booted_is zones mem c.make_damage.new.off c.in_ok-live.live c.args.counts.now
    c.count_verdicts.new.counts (with_stop zones g) (stopped zones r.now) flips told halted d up
    (c.count_verdicts.ensures.added ∙ ap (λ (x : Counts). verdicts_added x as_told differs)
    (c.add_flips.ensures.added ∙ ap (flips_added c.args.counts.now) len)) in
    subst (RunsTo zones mem c.in_ok-live.live c.count_verdicts.new.counts c.draw_all.new.draws) drawn
    (record { runs = rw c.deref-2.ensures.value at runs; number = refl })
