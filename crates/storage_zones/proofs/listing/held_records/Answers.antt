-- The kinds one after another. For `held_records`.
use Rattle.std.proofs.Common.{◌≡◌, ◌∙◌, ◌++◌, List, map, ap, ap₂}
use Rattle.psz_spec.specs.declared.Kind.TheVariants.{Pmsg, Console, Dump}
use Rattle.psz_spec.specs.declared.Zone.{Zone}
use Rattle.psz_spec.specs.Layouts.{zones_of}
use Rattle.psz_spec.specs.Records.{records_of, traces_of, ftrace_listed}
use Rattle.zone_spec.specs.RecordsHeld.{RecordHeld}
use Rattle.storage_spec.specs.Records.{held_of, held_in}
use Rattle.storage_zones.proofs.Lists.{joined}
use Rattle.storage_zones.proofs.listing.held_records.Goals as goal

pub returns : goal.returns
unfolding held_in
returns c =
    let m = c.args.machine in
    let im = c.args.image.now in
    let zones : List Zone = zones_of c.args.sizes.now in
    let one : c.deref.result.now ≡ zones = c.deref.ensures.value ∙ c.in_ok-zones.ensures in
    let two : c.deref-2.result.now ≡ zones = c.deref-2.ensures.value ∙ c.in_ok-zones.ensures in
    let three : c.deref-3.result.now ≡ zones = c.deref-3.ensures.value ∙ c.in_ok-zones.ensures in
    let four : c.deref-4.result.now ≡ zones = c.deref-4.ensures.value ∙ c.in_ok-zones.ensures in
    joined m im zones c.add_kind.new.records.items c.add_traces.new.records.items c.add_kind-2.new.records.items
    c.add_kind-3.new.records.items
    (c.in_ok-add_kind.ensures
    ∙ ap₂ (λ (rs : List RecordHeld) (zs : List Zone). rs ++ map held_of (records_of m im Dump zs))
    c.new-records.ensures.items one)
    (c.in_ok-add_traces.ensures
    ∙ ap (λ (zs : List Zone). c.add_kind.new.records.items ++ map held_of (ftrace_listed (traces_of m im zs))) two)
    (c.in_ok-add_kind-2.ensures
    ∙ ap (λ (zs : List Zone). c.add_traces.new.records.items ++ map held_of (records_of m im Pmsg zs)) three)
    (c.in_ok-add_kind-3.ensures
    ∙ ap (λ (zs : List Zone). c.add_kind-2.new.records.items ++ map held_of (records_of m im Console zs)) four)
