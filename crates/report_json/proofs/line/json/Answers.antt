-- The line has the data of the report, member by member
use Rattle.std.proofs.Common.{◌≡◌, ◌∙◌, ◌∷◌, [], List, length, Option, subst, ap, sym, refl, map, codes, decimal}
use Rattle.json.specs.Token.{Token}
use Rattle.json.specs.Print.{print}
use Rattle.serde_json.specs.Data.{Data, array}
use Rattle.serde_json.specs.View.{items_of}
use Rattle.prz_read.specs.Saving.{SavedLogs, saved}
use Rattle.zone_spec.specs.PartStates.{PartStates}
use Rattle.report_spec.specs.declared.Origin.{Origin}
use Rattle.report_spec.specs.Deaths.{DeathTold, death_told}
use Rattle.report_spec.specs.Facts.{signature_told}
use Rattle.report_spec.specs.Packed.{RecordShown}
use Rattle.region_report.specs.Tellers.{told_in}
use Rattle.region_report.specs.Warned.{warnings_by}
use Rattle.report_json.specs.Schema.{death_data, end_data, machine_data, warnings_data, division_data, record_data}
use Rattle.report_json.specs.Schema.{bytes_data, line_data, AreZones}
use Rattle.report_json.specs.Tokens.{onto, all_onto}
use Rattle.report_json.proofs.Onto.{array_onto, in_order, then_member}
use Rattle.report_json.proofs.line.json.Goals as goal

pub returns : goal.returns
returns c =
    let held = c.args.report.now in
    let told = death_told held.records in
    let shown = record_data held.origin (saved held.logs) in
    let records = c.records-records.ensures in
    let teller : told_in c.death_told-told.result ≡ told = c.death_told-told.ensures ∙ ap death_told records in
    let begun : c.begin_object.new.self ≡ Token.begin_object ∷ [] =
    c.in_ok-begin_object.ensures ∙ ap (λ ts. Token.begin_object ∷ ts) c.in_ok-line.ensures in
    let better = then_member (codes "better") (bytes_data c.as_bytes.result.now) _ _ _ _ c.in_ok-put_bytes.ensures begun (ap bytes_data c.as_bytes.ensures.value) in
    let death = then_member (codes "death") (death_data c.origin.result (told_in c.death_told-told.result)) _ _ _ _ c.in_ok-put_death.ensures better
    (ap (λ (o : Origin). death_data o (told_in c.death_told-told.result)) c.origin.ensures
    ∙ ap (death_data held.origin) teller) in
    let end = then_member (codes "end") (end_data c.origin-2.result c.records-records.result.now (told_in c.death_told-told.result)) _ _ _ _ c.in_ok-put_end.ensures death
    (ap (λ (o : Origin). end_data o c.records-records.result.now (told_in c.death_told-told.result)) c.origin-2.ensures
    ∙ ap (λ (rs : List RecordShown). end_data held.origin rs (told_in c.death_told-told.result)) records
    ∙ ap (end_data held.origin held.records) teller) in
    let machine = then_member (codes "machine") (machine_data c.records-records.result.now (told_in c.death_told-told.result)) _ _ _ _ c.in_ok-put_machine.ensures end
    (ap (λ (rs : List RecordShown). machine_data rs (told_in c.death_told-told.result)) records
    ∙ ap (machine_data held.records) teller) in
    let parameters = then_member (codes "parameters") (division_data c.args.division.now) _ _ _ _ c.in_ok-put_division.ensures machine refl in
    let path = c.in_ok-text.ensures ∙ ap (λ ts. Token.string c.args.path.now ∷ Token.key (codes "path") ∷ ts) parameters in
    let listed = then_member (codes "records") (array (items_of (map (record_data c.origin-3.result (saved c.logs.result.now)) c.records-records.result.now))) _ _ _ _ c.in_ok-put_records.ensures path
    (ap (λ (o : Origin). array (items_of (map (record_data o (saved c.logs.result.now)) c.records-records.result.now)))
    c.origin-3.ensures
    ∙ ap (λ (l : SavedLogs). array (items_of (map (record_data held.origin (saved l)) c.records-records.result.now)))
    c.logs.ensures
    ∙ ap (λ (rs : List RecordShown). array (items_of (map shown rs))) records) in
    let schema = c.in_ok-count.ensures ∙ ap (λ ts. Token.number (decimal 2) ∷ Token.key (codes "schema") ∷ ts) listed in
    let signature = then_member (codes "signature") (bytes_data (signature_told (told_in c.death_told-told.result))) _ _ _ _ c.in_ok-put_signature.ensures schema
    (ap (λ (t : Option DeathTold). bytes_data (signature_told t)) teller) in
    let warnings = then_member (codes "warnings") (warnings_data held.origin (warnings_by held (told_in c.death_told-told.result))) _ _ _ _ c.in_ok-put_warnings.ensures signature
    (ap (λ (t : Option DeathTold). warnings_data held.origin (warnings_by held t)) teller) in
    let zones = c.in_ok-put_zones.ensures in
    let values = zones.1.values in
    let ended = c.in_ok-end_object.ensures ∙ ap (λ ts. Token.end_object ∷ ts) (zones.2
    ∙ ap (λ ts. Token.end_array ∷ ts) zones.1.put
    ∙ sym (array_onto values (Token.begin_array ∷ Token.key (codes "zones") ∷ c.put_warnings.new.line))
    ∙ ap (λ ts. onto (array (items_of values)) (Token.key (codes "zones") ∷ ts)) warnings) in
    record {
      values = values;
      each_zone = subst (λ (ps : List PartStates). AreZones c.args.zones.now held.logs.readings ps
          (length c.args.zones.now) values) c.parts.ensures
          (subst (λ (l : SavedLogs). AreZones c.args.zones.now l.readings c.parts.result.now
          (length c.args.zones.now) values) c.logs-2.ensures zones.1.are);
      in_order = in_order c.finish.result.items (line_data held c.args.better.now c.args.path.now
          c.args.division.now values (map shown held.records)) c.end_object.new.self ended c.finish.ensures.tokens
          c.finish.ensures.plain;
      compact = c.finish.ensures.compact ∙ ap print (sym c.finish.ensures.tokens);
    }
