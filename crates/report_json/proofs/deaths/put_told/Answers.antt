-- The members of a death, one after another
use Rattle.std.proofs.Common.{◌∙◌, ◌∷◌, List, ap, codes, refl}
use Rattle.json.specs.Token.{Token, key, boolean, end_object}
use Rattle.std.specs.Option.{option_copied}
use Rattle.report_spec.specs.Facts.{uptime_of}
use Rattle.report_spec.specs.Origins.{name_in}
use Rattle.serde_json.specs.Data as value
use Rattle.report_json.specs.Schema.{named_data, said_data, mended_data, second_data, trace_data, bytes_data}
use Rattle.report_json.proofs.Onto.{then_member}
use Rattle.report_json.proofs.Places.{on_ok}
use Rattle.report_json.proofs.deaths.put_told.Goals as goal

pub returns : goal.returns
returns c =
    let text = c.args.text.now in
    let d = c.args.death in
    let cpu = then_member (codes "cpu") (named_data text d.cpu) _ _ _ _ c.in_ok-put_named.ensures c.in_ok-begin_object.ensures refl in
    let function = then_member (codes "function") (named_data text d.function) _ _ _ _ c.in_ok-put_named-2.ensures cpu refl in
    let next = c.in_ok-flag.ensures ∙ ap (λ (ts : List Token). boolean d.is_next ∷ key (codes "is_next") ∷ ts) function in
    let kernel = then_member (codes "kernel") (named_data text d.kernel) _ _ _ _ c.in_ok-put_named-3.ensures next refl in
    let said = then_member (codes "line") (said_data text d.telling) _ _ _ _ c.in_ok-put_said.ensures kernel refl in
    let mended = then_member (codes "mended_by") (mended_data c.args.origin (option_copied c.args.mended)) _ _ _ _
    c.in_ok-put_mended.ensures said refl in
    let named = then_member (codes "record") (value.string (name_in c.args.origin c.args.name)) _ _ _ _
    c.in_ok-put_name.ensures mended refl in
    let second = then_member (codes "second") (second_data text d.second) _ _ _ _ c.in_ok-put_second.ensures named refl in
    let task = then_member (codes "task") (named_data text d.task) _ _ _ _ c.in_ok-put_named-4.ensures second refl in
    let trace = then_member (codes "trace") (trace_data text) _ _ _ _ c.in_ok-put_trace.ensures task refl in
    let uptime = then_member (codes "uptime") (bytes_data (uptime_of text d.telling)) _ _ _ _ c.in_ok-put_uptime.ensures
    trace refl in
    on_ok c.end_object.result _ _ (λ e. e ∙ ap (λ (ts : List Token). end_object ∷ ts) uptime) c.end_object.ensures
