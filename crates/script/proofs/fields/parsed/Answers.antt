-- A text of UTF-8 parses as it does, any other is no number. For `parsed`.
use Rattle.script.proofs.Numbers.{not_text, parsed_is}
use Rattle.script.proofs.fields.parsed.Goals as goal

pub returns-in-Ok : goal.returns-in-Ok
returns-in-Ok c = parsed_is _ c.parse.result c.ok.result (rw (← c.in-Ok.ensures.cases.0) c.parse.ensures.value.0)
    c.ok.ensures.value

pub returns-in-Err : goal.returns-in-Err
returns-in-Err c = not_text _ c.in-Err.ensures.cases.0
