-- If the numbers of the dump zones rise a dump is that of its own zone alone, so one zone tells
-- whether it stays. For `stays`.
use Rattle.std.proofs.Common.{◌≡◌, ◌&&◌, Bool, sym, ap, ◌∙◌, Some}
use Rattle.std.specs.Option.{option_map}
use Rattle.zone_spec.specs.declared.ZoneName.{ZoneName}
use Rattle.zone_spec.specs.declared.Kind.TheVariants.{Dump}
use Rattle.zone_spec.specs.Records.{Saved, is_of}
use Rattle.ramoops_layout.specs.Laid.{zones_of}
use Rattle.prz_read.specs.Saving.{saved}
use Rattle.pstore_records.proofs.UnfitLogs.{counted-stays}
use Rattle.pstore_records.proofs.fitting.stays.Goals as goal
use Rattle.pstore_records.proofs.fitting.stays.Goals.{then-rises, else-rises}

pub returns : goal.returns
returns c = λ s at.
    let named : s.0.name ≡ c.name.result =
    (let g : Some s.0.name ≡ Some c.name.result = sym (ap (option_map (λ (x : Saved). x.0.name)) at) ∙ c.name.ensures
    in cc) in
    c.stays_by.ensures s at ∙ counted-stays (zones_of c.args.layout.now) (saved c.args.logs.now) c.args.i s
    c.args.rises c.is_kind-is_dump.result c.if-rises.stays_by
    (elim c.if-rises.branch [
      | then-rises w ↦ w.stays_by-is ∙ sym (ap (λ (b : Bool). b && c.is_kind-is_dump.result) w.if-rises.true)
      | else-rises w ↦ w.stays_by-is ∙ w.if-rises.false
          ∙ sym (ap (λ (b : Bool). b && c.is_kind-is_dump.result) w.if-rises.false)
    ])
    c.requires.rises (c.is_kind-is_dump.ensures ∙ ap (λ (n : ZoneName). is_of Dump n.kind) (sym named)) at
