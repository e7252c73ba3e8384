-- What is known of the death, and that it is bytes
use Rattle.std.proofs.Common.{◌≡◌, ◌++◌, ◌∙◌, Bool, List, ℕ, Option, codes, ap, subst}
use Rattle.zone_spec.specs.Parts.{AreBytes}
use Rattle.zone_spec.specs.declared.Time.{Time}
use Rattle.zone_spec.specs.Records.{Saved}
use Rattle.prz_read.specs.Saving.{saved}
use Rattle.report_spec.specs.Packed.{RecordShown, readable}
use Rattle.report_spec.specs.declared.Mended.{Mended}
use Rattle.report_spec.specs.Newest.{newest, console_of}
use Rattle.report_spec.specs.Deaths.{death_time}
use Rattle.report_spec.specs.Facts.{MachineTold, uptime_of, machine_of}
use Rattle.region_report.specs.Tellers.{as_told}
use Rattle.report_html.specs.Pieces.{Part, parts}
use Rattle.report_html.specs.Facts.{when_parts, up_parts, bytes_parts, machine_parts}
use Rattle.report_html.specs.Before.{told_before, before_parts}
use Rattle.report_html.specs.Died.{context_parts, console_words, teller_parts, around_parts}
use Rattle.report_html.specs.Escaping.{TellsBytes, AreMachineBytes}
use Rattle.report_html.proofs.PartSums.{joined}
use Rattle.report_html.proofs.died.add_death.Goals as goal

pub returns-clause-bytes : goal.returns-clause-bytes
returns-clause-bytes c = record {
  text = subst AreBytes c.readable-text.ensures c.in_ok-add_around.ensures.bytes;
  signed = λ i. (c.type_inv.signature i).fits;
  machine = subst AreMachineBytes
      (c.machine_told.ensures ∙ ap (λ (r : Option RecordShown). machine_of (as_told c.args.told.now) r) c.console.ensures)
      c.in_ok-add_machine.ensures.bytes;
  before = subst (λ (q : RecordShown). TellsBytes (told_before q.name c.args.records.now)) c.teller.view_is
      c.in_ok-add_before.ensures.bytes;
}

pub returns-clause-parts : goal.returns-clause-parts
returns-clause-parts c =
    let t = as_told c.args.told.now in
    let records = c.args.records.now in
    let text : List ℕ = readable t.teller in
    let zones : List Saved = saved c.args.logs.now in
    let old = parts c.args.pieces.now.items in
    let p1 = parts c.add_when.new.pieces.items in
    let p2 = parts c.add_up.new.pieces.items in
    let p3 = parts c.add_context.new.pieces.items in
    let p4 = parts c.add_bytes.new.pieces.items in
    let p5 = parts c.add_machine.new.pieces.items in
    let p6 = parts c.add_before.new.pieces.items in
    let p7 = parts c.add_teller.new.pieces.items in
    let p8 = parts c.add_around.new.pieces.items in
    let a1 : List Part = when_parts (death_time t (newest records)) in
    let a2 : List Part = up_parts (uptime_of text t.death.telling) in
    let a3 : List Part = context_parts text t.death in
    let a4 : List Part = bytes_parts (codes "Signature") c.args.signature.now in
    let a5 : List Part = machine_parts (machine_of t (console_of records)) in
    let a6 : List Part = before_parts (told_before t.teller.name records) in
    let words : List ℕ = console_words t (console_of records) in
    let a7 : List Part = teller_parts zones t.teller.name t.teller.mended words in
    let a8 : List Part = around_parts t.teller.name t.teller.doubts text t.death in
    let e1 : p1 ≡ old ++ a1 =
    c.in_ok-add_when.ensures ∙ ap (λ (time : Option Time). old ++ when_parts time)
    (c.death_time.ensures ∙ ap (λ (r : Option RecordShown). death_time t r) c.newest_dump.ensures.first) in
    let e2 : p2 ≡ p1 ++ a2 = c.in_ok-add_up.ensures.parts ∙ ap (λ (bs : List ℕ). p1 ++ up_parts bs)
    (c.uptime.ensures ∙ ap (λ (bs : List ℕ). uptime_of bs t.death.telling) c.readable-text.ensures) in
    let e3 : p3 ≡ p2 ++ a3 = c.in_ok-add_context.ensures
    ∙ ap (λ (bs : List ℕ). p2 ++ context_parts bs t.death) c.readable-text.ensures in
    let e4 : p4 ≡ p3 ++ a4 = c.in_ok-add_bytes.ensures.parts in
    let e5 : p5 ≡ p4 ++ a5 = c.in_ok-add_machine.ensures.parts ∙ ap (λ (m : MachineTold). p4 ++ machine_parts m)
    (c.machine_told.ensures ∙ ap (λ (r : Option RecordShown). machine_of t r) c.console.ensures) in
    let e6 : p6 ≡ p5 ++ a6 = c.in_ok-add_before.ensures.parts
    ∙ ap (λ (q : RecordShown). p5 ++ before_parts (told_before q.name records)) c.teller.view_is in
    let e7 : p7 ≡ p6 ++ a7 = c.in_ok-add_teller.ensures
    ∙ ap (λ (m : Option (Mended (List ℕ))). p6 ++ teller_parts zones c.teller.inside.name m c.console_text-words.result.now)
    c.as_ref.ensures.value
    ∙ ap (λ (q : RecordShown). p6 ++ teller_parts zones q.name q.mended c.console_text-words.result.now) c.teller.view_is
    ∙ ap (λ (bs : List ℕ). p6 ++ teller_parts zones t.teller.name t.teller.mended bs)
    (c.console_text-words.ensures ∙ ap (λ (r : Option RecordShown). console_words t r) c.console-2.ensures) in
    let e8 : p8 ≡ p7 ++ a8 = c.in_ok-add_around.ensures.parts
    ∙ ap (λ (ds : List Bool). p7 ++ around_parts c.teller.inside.name ds c.readable-text.result.now t.death)
    c.as_slice.ensures.value
    ∙ ap (λ (q : RecordShown). p7 ++ around_parts q.name q.doubts c.readable-text.result.now t.death) c.teller.view_is
    ∙ ap (λ (bs : List ℕ). p7 ++ around_parts t.teller.name t.teller.doubts bs t.death) c.readable-text.ensures in
    let t2 = joined old a1 a2 p1 p2 e1 e2 in
    let t3 = joined old (a1 ++ a2) a3 p2 p3 t2 e3 in
    let t4 = joined old (a1 ++ a2 ++ a3) a4 p3 p4 t3 e4 in
    let t5 = joined old (a1 ++ a2 ++ a3 ++ a4) a5 p4 p5 t4 e5 in
    let t6 = joined old (a1 ++ a2 ++ a3 ++ a4 ++ a5) a6 p5 p6 t5 e6 in
    let t7 = joined old (a1 ++ a2 ++ a3 ++ a4 ++ a5 ++ a6) a7 p6 p7 t6 e7 in
    joined old (a1 ++ a2 ++ a3 ++ a4 ++ a5 ++ a6 ++ a7) a8 p7 p8 t7 e8
