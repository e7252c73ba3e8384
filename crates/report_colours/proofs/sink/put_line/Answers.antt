-- A line is given with its colour before it and the end of colours behind. For `put_line`.
use Rattle.std.proofs.Common.{rules, ◌≡◌, ℕ, Option, List, ◌++◌, MatchResult}
use Rattle.std.proofs.KnownBytes.{Appends-trans}
use Rattle.std.specs.Io.KnownBytes.{Appends}
use Rattle.outside.specs.Outside.{AppendsFront}
use Rattle.report_colours.specs.Colours.{coloured_line, no_colour}
use Rattle.report_colours.proofs.Pieces.{front_of_more, front_behind, last_put, line_in}
use Rattle.report_colours.proofs.sink.put_line.Goals as goal

pub returns-in_err-put-clause-bytes : goal.returns-in_err-put-clause-bytes
returns-in_err-put-clause-bytes g c =
    let line : List ℕ = c.args.line.now in
    let whole : coloured_line line ≡ (c.in-Some.colour.now ++ line) ++ no_colour =
    line_in line c.colour_of.result c.in-Some.colour c.colour_of.ensures c.in-Some.is in
    let front : AppendsFront (g.W.Sink.given c.args.out.now) (g.W.Sink.given c.put-2.new.self) (coloured_line line) =
    rw whole (front_of_more _ _ (c.in-Some.colour.now ++ line) no_colour
    (front_of_more _ _ c.in-Some.colour.now line c.in_err-put.ensures.bytes)) in
    search rules

pub returns-in_err-put-2-clause-bytes : goal.returns-in_err-put-2-clause-bytes
returns-in_err-put-2-clause-bytes g c =
    let line : List ℕ = c.args.line.now in
    let whole : coloured_line line ≡ (c.in-Some.colour.now ++ line) ++ no_colour =
    line_in line c.colour_of.result c.in-Some.colour c.colour_of.ensures c.in-Some.is in
    let front : AppendsFront (g.W.Sink.given c.args.out.now) (g.W.Sink.given c.put-3.new.self) (coloured_line line) =
    rw whole (front_of_more _ _ (c.in-Some.colour.now ++ line) no_colour
    (front_behind _ _ _ c.in-Some.colour.now line c.in_ok-put.ensures.bytes c.in_err-put-2.ensures.bytes)) in
    search rules

pub returns-clause-bytes : goal.returns-clause-bytes
returns-clause-bytes g c =
    let line : List ℕ = c.args.line.now in
    let whole : coloured_line line ≡ (c.in-Some.colour.now ++ line) ++ no_colour =
    line_in line c.colour_of.result c.in-Some.colour c.colour_of.ensures c.in-Some.is in
    rw whole (last_put _ _ _ (c.in-Some.colour.now ++ line) no_colour c.put-4.result
    (Appends-trans _ _ _ c.in-Some.colour.now line c.in_ok-put.ensures.bytes c.in_ok-put-2.ensures.bytes)
    c.put-4.ensures.bytes)
