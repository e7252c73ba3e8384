-- An empty line has no number
use Rattle.std.proofs.Common.{◌∙◌, sym, subst}
use Rattle.report_json.specs.Tokens.{ArePlain}
use Rattle.report_json.proofs.Plain.{no_tokens}
use Rattle.report_json.proofs.tokens.Line.with_capacity.Goals as goal

pub invariant_of-result : goal.invariant_of-result
invariant_of-result c = record {
  empty = c.new.ensures.before ∙ c.in_ok-bytes.ensures.items;
  plain = subst ArePlain (sym c.new.ensures.tokens) no_tokens;
}
