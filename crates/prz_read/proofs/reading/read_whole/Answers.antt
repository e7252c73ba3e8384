-- A zone's reading and its parts, by the words of its header
use Rattle.std.proofs.Common.{refl, sym, ◌∙◌}
use Rattle.prz_read.proofs.Fronts.{reading-found, reading-other, ring-found}
use Rattle.prz_read.proofs.States.{states-found, states-other}
use Rattle.prz_read.proofs.reading.read_whole.Goals as goal

pub read_log-requires-clause-ring : goal.read_log-requires-clause-ring
read_log-requires-clause-ring c = ring-found c.args.zone.now c.read_header-front.result.words
    (sym c.state_of.ensures ∙ c.in-Found.is)

pub returns-in_ok-log-in-Found : goal.returns-in_ok-log-in-Found
returns-in_ok-log-in-Found c =
    let reading = reading-found _ _ _ _ _ _ _ _ c.read_header-front.ensures.words
    (sym c.state_of.ensures ∙ c.in-Found.is) c.in_ok-log-in-Found.ensures.log
    (c.counts_of-counts.ensures.corrected _ c.read_header-front.ensures.counts)
    c.in_ok-log-in-Found.ensures.corrected
    (c.counts_of-counts.ensures.bad _ c.read_header-front.ensures.counts)
    c.in_ok-log-in-Found.ensures.bad in
    record {
      reading = reading;
      parts = λ wanted. states-found c.args.zone.now c.args.span.now _ _ _ reading refl
          (c.part_state-header.ensures _ c.read_header-front.ensures.counts)
          (c.in_ok-log-in-Found.ensures.states wanted);
    }

pub returns-in_default : goal.returns-in_default
returns-in_default c =
    let reading = reading-other _ _ _ _ _ _ _ c.read_header-front.ensures.words c.state_of.ensures
    c.in_default.not-Found c.empty.ensures
    (c.counts_of-counts.ensures.corrected _ c.read_header-front.ensures.counts)
    (c.counts_of-counts.ensures.bad _ c.read_header-front.ensures.counts) in
    record {
      reading = reading;
      parts = λ wanted. states-other c.args.zone.now c.args.span.now _ _ _ reading c.in_default.not-Found
          (c.part_state-header.ensures _ c.read_header-front.ensures.counts) c.new-blocks.ensures.items;
    }
