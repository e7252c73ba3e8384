-- A zone that lists no dump gives none; else headers and body read so are its dump. For
-- `read_dump`.
use Rattle.std.proofs.Common.{◌∙◌, ◌≡◌, ◌-◌, take, drop, List, ℕ, Option, IfSome, subst, sym}
use Rattle.blk_spec.specs.Reading.{zone_bytes}
use Rattle.zone_blk.proofs.Fronts.{none-listed, dump-listed}
use Rattle.zone_blk.proofs.reading.read_dump.Goals as goal

pub returns-then-not-is_listed-clause-dump : goal.returns-then-not-is_listed-clause-dump
returns-then-not-is_listed-clause-dump g c = none-listed c.args.index c.args.zone (g.M.Load.holds c.args.store.now)
    c.in-Ok.front c.header_words-words.result c.header_words-words.ensures c.in-Ok.ensures.front
    (sym c.is_listed.ensures ∙ c.if-not-is_listed.true)

pub returns-in-Ok-read_bytes-clause-dump : goal.returns-in-Ok-read_bytes-clause-dump
returns-in-Ok-read_bytes-clause-dump g c =
    dump-listed c.args.index c.args.zone (g.M.Load.holds c.args.store.now) c.in-Ok.front c.from_vec.result
    c.header_words-words.result c.dump_with.result c.header_words-words.ensures c.in-Ok.ensures.front
    (sym c.is_listed.ensures ∙ c.if-not-is_listed.false)
    (subst (λ (holds : Option (List ℕ)). IfSome holds (λ (bs : List ℕ). c.from_vec.result
    ≡ take (c.header_words-words.result.size - 40) (drop 52 (zone_bytes bs c.args.zone)))) c.in-Ok.ensures.same
    (subst (λ (body : List ℕ). IfSome (g.M.Load.holds c.read_front.new.store) (λ (bs : List ℕ). body
    ≡ take (c.header_words-words.result.size - 40) (drop 52 (zone_bytes bs c.args.zone)))) (sym c.from_vec.ensures)
    c.in-Ok-read_bytes.ensures.bytes)) c.dump_with.ensures
