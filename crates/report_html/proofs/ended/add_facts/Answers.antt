-- What is known of the end, and that it is bytes
use Rattle.std.proofs.Common.{◌≡◌, ◌++◌, ◌∙◌, List, ℕ, ap, subst}
use Rattle.zone_spec.specs.Parts.{AreBytes}
use Rattle.zone_spec.specs.Records.{Saved}
use Rattle.prz_read.specs.Saving.{saved}
use Rattle.report_spec.specs.Packed.{RecordShown, readable}
use Rattle.report_spec.specs.Facts.{MachineTold, uptime_of, machine_ended}
use Rattle.region_report.specs.Tellers.{as_ended}
use Rattle.report_html.specs.Pieces.{Part, parts}
use Rattle.report_html.specs.Facts.{when_parts, up_parts, machine_parts}
use Rattle.report_html.specs.Ended.{last_parts, told_parts}
use Rattle.report_html.specs.Escaping.{AreMachineBytes}
use Rattle.report_html.proofs.PartSums.{joined}
use Rattle.report_html.proofs.ended.add_facts.Goals as goal

pub returns-clause-bytes : goal.returns-clause-bytes
returns-clause-bytes c = record {
  text = subst AreBytes c.readable-text.ensures c.in_ok-add_last.ensures.bytes;
  machine = subst AreMachineBytes c.machine_ended.ensures c.in_ok-add_machine.ensures.bytes;
}

pub returns-clause-parts : goal.returns-clause-parts
returns-clause-parts c =
    let t = as_ended c.args.end.now in
    let line = t.ended.line in
    let text : List ℕ = readable t.teller in
    let zones : List Saved = saved c.args.logs.now in
    let old = parts c.args.pieces.now.items in
    let p1 = parts c.add_when.new.pieces.items in
    let p2 = parts c.add_up.new.pieces.items in
    let p3 = parts c.add_last.new.pieces.items in
    let p4 = parts c.add_machine.new.pieces.items in
    let p5 = parts c.add_told.new.pieces.items in
    let a1 : List Part = when_parts t.teller.time in
    let a2 : List Part = up_parts (uptime_of text line) in
    let a3 : List Part = last_parts text line in
    let a4 : List Part = machine_parts (machine_ended t) in
    let a5 : List Part = told_parts zones t.teller.name in
    let e1 : p1 ≡ old ++ a1 =
    c.in_ok-add_when.ensures ∙ ap (λ (q : RecordShown). old ++ when_parts q.time) c.teller.view_is in
    let e2 : p2 ≡ p1 ++ a2 = c.in_ok-add_up.ensures.parts ∙ ap (λ (bs : List ℕ). p1 ++ up_parts bs)
    (c.uptime.ensures ∙ ap (λ (bs : List ℕ). uptime_of bs line) c.readable-text.ensures) in
    let e3 : p3 ≡ p2 ++ a3 = c.in_ok-add_last.ensures.parts
    ∙ ap (λ (bs : List ℕ). p2 ++ last_parts bs line) c.readable-text.ensures in
    let e4 : p4 ≡ p3 ++ a4 = c.in_ok-add_machine.ensures.parts
    ∙ ap (λ (m : MachineTold). p3 ++ machine_parts m) c.machine_ended.ensures in
    let e5 : p5 ≡ p4 ++ a5 = c.in_ok-add_told.ensures
    ∙ ap (λ (q : RecordShown). p4 ++ told_parts zones q.name) c.teller.view_is in
    let t2 = joined old a1 a2 p1 p2 e1 e2 in
    let t3 = joined old (a1 ++ a2) a3 p2 p3 t2 e3 in
    let t4 = joined old (a1 ++ a2 ++ a3) a4 p3 p4 t3 e4 in
    joined old (a1 ++ a2 ++ a3 ++ a4) a5 p4 p5 t4 e5
