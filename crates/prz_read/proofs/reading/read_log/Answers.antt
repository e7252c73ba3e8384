-- The bytes read, turned by the start word, are the log; the start lies among them. For
-- `read_log`.
use Rattle.std.proofs.Common.{List, ℕ, ◌++◌, drop, take, length, ap, ◌∙◌, arith}
use Rattle.prz_read.proofs.Fronts.{log-turned, bytes_read-length}
use Rattle.prz_read.proofs.reading.read_log.Goals as goal

pub rotate_left-requires : goal.rotate_left-requires
rotate_left-requires c =
    let long = ap length c.in_ok-front.ensures.bytes ∙ bytes_read-length c.args.zone.now c.args.span.now
    c.args.words.size in
    let r = c.requires.ring.0 in
    grind (arith, long, r, c.in_ok-front.front.bytes.ok)

pub returns-clause-log : goal.returns-clause-log
returns-clause-log c =
    c.from_vec.ensures ∙ c.rotate_left.ensures.items ∙ ap
    (λ (l : List ℕ). drop c.args.words.start l ++ take c.args.words.start l) c.in_ok-front.ensures.bytes
    ∙ log-turned c.args.zone.now c.args.span.now c.args.words c.requires.ring
