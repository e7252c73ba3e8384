-- The zones stand between brackets. For `put_zones`.
use Rattle.std.proofs.Common.{◌∙◌, ◌∷◌, List, length, subst, ap}
use Rattle.json.specs.Token.{Token, begin_array}
use Rattle.report_json.specs.PutZones.{PutsZones}
use Rattle.report_json.proofs.Places.{on_ok}
use Rattle.report_json.proofs.zones.put_zones.Goals as goal

pub returns : goal.returns
returns c =
    let before = c.in_ok-begin_array.ensures ∙ ap (λ (ts : List Token). begin_array ∷ ts) c.in_ok-key.ensures in
    let zones = subst (λ (ts : List Token). PutsZones c.args.zones.now c.args.logs.now.readings c.args.parts.now
    (length c.args.zones.now) ts c.put_each.new.line) before c.in_ok-put_each.ensures in
    on_ok c.end_array.result _ _ (λ e. (c.put_each.new.line, zones, e)) c.end_array.ensures
