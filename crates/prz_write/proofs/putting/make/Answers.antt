-- A word, a run of line or payload, parity or nothing: just these stores are made in the span. For
-- `make`.
use Rattle.std.proofs.Common.{[], sym, ap, ◌∙◌, take, drop}
use Rattle.zone_spec.specs.Stores.{word_store}
use Rattle.prz_region.proofs.Cuts.{stored-none}
use Rattle.store_steps.specs.Handed.{handed_by}
use Rattle.prz_write.proofs.SpanStores.{made, made_bytes}
use Rattle.prz_write.proofs.putting.make.Goals as goal

pub returns-in-Word : goal.returns-in-Word
returns-in-Word c =
    made c.args.store.now c.args.line.now c.args.payload.now c.args.spans.now c.args.i _
    (word_store c.args.store.now.byte_order c.args.store.now.place c.args.store.now.word)
    (ap (λ g. handed_by g c.args.store.now c.args.line.now c.args.payload.now) c.in-Word.is)
    c.store_word.ensures

pub returns-in-Line : goal.returns-in-Line
returns-in-Line c =
    made_bytes c.args.store.now c.args.line.now c.args.payload.now c.args.spans.now c.args.i _ c.args.store.now.place
    (take c.args.store.now.len (drop c.args.store.now.from c.args.line.now)) _
    (ap (λ g. handed_by g c.args.store.now c.args.line.now c.args.payload.now) c.in-Line.is)
    c.part_of.ensures c.store_bytes.ensures

pub returns-in-Payload : goal.returns-in-Payload
returns-in-Payload c =
    made_bytes c.args.store.now c.args.line.now c.args.payload.now c.args.spans.now c.args.i _ c.args.store.now.place
    (take c.args.store.now.len (drop c.args.store.now.from c.args.payload.now)) _
    (ap (λ g. handed_by g c.args.store.now c.args.line.now c.args.payload.now) c.in-Payload.is)
    c.part_of-in-Payload.ensures c.store_bytes-in-Payload.ensures

pub returns-in-Parity : goal.returns-in-Parity
returns-in-Parity c =
    made_bytes c.args.store.now c.args.line.now c.args.payload.now c.args.spans.now c.args.i _ c.args.store.now.place
    (take c.args.store.now.len (drop c.args.store.now.from c.args.store.now.parity.items)) _
    (ap (λ g. handed_by g c.args.store.now c.args.line.now c.args.payload.now) c.in-Parity.is)
    (c.part_of-in-Parity.ensures ∙ ap (λ xs. take c.args.store.now.len (drop c.args.store.now.from xs))
    c.as_slice-parity.ensures.value) c.store_bytes-in-Parity.ensures

pub returns-in-Nothing : goal.returns-in-Nothing
returns-in-Nothing c =
    made c.args.store.now c.args.line.now c.args.payload.now c.args.spans.now c.args.i _ []
    (ap (λ g. handed_by g c.args.store.now c.args.line.now c.args.payload.now) c.in-Nothing.is)
    (sym (stored-none c.args.spans.now c.args.i))
