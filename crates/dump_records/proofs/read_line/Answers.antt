-- What a log begins with, told where the reader stops
use Rattle.std.proofs.Common.{◌≡◌, ◌+◌, drop, sym, ◌∙◌, arith, Some}
use Rattle.std.specs.Prelude.{codes}
use Rattle.zone_spec.specs.TimeLines.{digits_of}
use Rattle.dump_records.specs.Parts.{number_at}
use Rattle.dump_records.proofs.Lines.{IsSecs, IsMicros, none-mark, answer-some, answer-no_ending, answer-no_micros}
use Rattle.dump_records.proofs.Lines.{answer-no_point, answer-large, answer-no_secs, micros_small, number_cut}
use Rattle.dump_records.proofs.Lines.{front_cut, ending_cut}
use Rattle.dump_records.proofs.read_line.Goals as goal
use Rattle.dump_records.proofs.read_line.Goals.{After-leading_number, After-leading_number-2, After-line_end}

-- what was looked for behind the mark
sought : (c : goal.After-leading_number) → number_at 19 (drop 4 c.args.log.now) ≡ c.leading_number.result
sought c = number_cut 19 4 c.args.log.now c.leading_number.result c.leading_number.ensures.number

-- the seconds and the point behind them are read
secs_read : (c : goal.After-leading_number-2) → IsSecs c.args.log.now c.in_ok-secs.secs
secs_read c = record {
  mark = sym c.starts_with.ensures ∙ c.if-not-starts_with.false;
  number = number_cut 19 4 c.args.log.now c.leading_number.result c.leading_number.ensures.number ∙ c.in_ok-secs.was;
  small = omega (arith, c.if-secs.false);
  point = front_cut (codes ".") (4 + c.in_ok-secs.secs.len) c.args.log.now c.starts_with-2.result
      c.starts_with-2.ensures ∙ c.if-not-starts_with-2.false;
}

-- and the microseconds
micros_read : (c : goal.After-line_end) → IsSecs c.args.log.now c.in_ok-secs.secs
    → IsMicros c.args.log.now c.in_ok-secs.secs c.in_ok-micros.micros
micros_read c read = record {
  read = read;
  number = number_cut 9 (5 + c.in_ok-secs.secs.len) c.args.log.now c.leading_number-2.result
      c.leading_number-2.ensures.number ∙ c.in_ok-micros.was;
}

pub returns-then-not-starts_with : goal.returns-then-not-starts_with
returns-then-not-starts_with c = none-mark c.args.log.now (sym c.starts_with.ensures ∙ c.if-not-starts_with.true)

pub returns-in_err-secs : goal.returns-in_err-secs
returns-in_err-secs c = c.from_residual.ensures ∙ answer-no_secs c.args.log.now
    (sought (goal.at.returns-in_err-secs c).After-leading_number ∙ c.in_err-secs.was)

pub returns-then-secs : goal.returns-then-secs
returns-then-secs c = answer-large c.args.log.now c.in_ok-secs.secs
    (sought (goal.at.returns-then-secs c).After-leading_number ∙ c.in_ok-secs.was) (omega (arith, c.if-secs.true))

pub returns-then-not-starts_with-2 : goal.returns-then-not-starts_with-2
returns-then-not-starts_with-2 c =
    answer-no_point c.args.log.now c.in_ok-secs.secs
    (sought (goal.at.returns-then-not-starts_with-2 c).After-leading_number ∙ c.in_ok-secs.was)
    (front_cut (codes ".") (4 + c.in_ok-secs.secs.len)
    c.args.log.now c.starts_with-2.result c.starts_with-2.ensures ∙ c.if-not-starts_with-2.true)

pub returns-in_err-micros : goal.returns-in_err-micros
returns-in_err-micros c =
    c.from_residual-in_err-micros.ensures ∙ answer-no_micros c.args.log.now c.in_ok-secs.secs
    (secs_read (goal.at.returns-in_err-micros c).After-leading_number-2)
    (number_cut 9 (5 + c.in_ok-secs.secs.len) c.args.log.now c.leading_number-2.result
    c.leading_number-2.ensures.number ∙ c.in_err-micros.was)

pub returns-in_err-ending : goal.returns-in_err-ending
returns-in_err-ending c =
    let path = goal.at.returns-in_err-ending c in
    c.from_residual-in_err-ending.ensures ∙ answer-no_ending c.args.log.now c.in_ok-secs.secs c.in_ok-micros.micros
    (micros_read path.After-line_end (secs_read path.After-leading_number-2))
    (ending_cut (5 + c.in_ok-secs.secs.len + c.in_ok-micros.micros.len)
    c.args.log.now c.line_end.result c.line_end.ensures ∙ c.in_err-ending.was)

pub overflow_cast-result : goal.overflow_cast-result
overflow_cast-result c =
    let found : number_at 9 (drop (5 + c.in_ok-secs.secs.len) c.args.log.now) ≡ Some c.in_ok-micros.micros =
    number_cut 9 (5 + c.in_ok-secs.secs.len) c.args.log.now c.leading_number-2.result
    c.leading_number-2.ensures.number ∙ c.in_ok-micros.was in
    omega (
      arith,
      micros_small 9 (digits_of (drop (5 + c.in_ok-secs.secs.len) c.args.log.now))
          c.in_ok-micros.micros found c.in_ok-micros.ensures.small,
    )

pub returns : goal.returns
returns c =
    let path = goal.at.returns c in
    answer-some c.args.log.now c.in_ok-secs.secs c.in_ok-micros.micros c.in_ok-ending.ending
    (micros_read path.After-line_end (secs_read path.After-leading_number-2))
    (ending_cut (5 + c.in_ok-secs.secs.len + c.in_ok-micros.micros.len)
    c.args.log.now c.line_end.result c.line_end.ensures ∙ c.in_ok-ending.was)
