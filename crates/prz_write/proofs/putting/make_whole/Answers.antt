-- The words, and the bytes of two runs: just these stores are made in the span. For `make_whole`.
use Rattle.std.proofs.Common.{ℕ, ◌+◌, List, ◌++◌, length, take, drop, length-take, ap, ◌∙◌, arith}
use Rattle.zone_spec.specs.Stores.{byte_stores, word_store}
use Rattle.prz_region.specs.CutRegion.{stored}
use Rattle.store_steps.specs.PlainAppends.{size_store}
use Rattle.prz_write.proofs.SpanStores.{four, same_len}
use Rattle.prz_write.proofs.putting.make_whole.Goals as goal

pub store_word-requires-clause-place : goal.store_word-requires-clause-place
store_word-requires-clause-place c =
    let first = same_len c.args.spans.now c.make_size.new.spans c.args.i _ c.make_size.ensures in
    omega (arith, first, c.requires.inside.words)

pub store_bytes-requires-clause-place : goal.store_bytes-requires-clause-place
store_bytes-requires-clause-place c =
    let w = c.args.whole.now in
    let long = same_len c.make_size.new.spans c.store_word.new.self c.args.i _ c.store_word.ensures in
    let first = same_len c.args.spans.now c.make_size.new.spans c.args.i _ c.make_size.ensures in
    omega (
      arith,
      long,
      first,
      c.requires.inside.first,
      ap length c.part_of-front.ensures,
      length-take w.first (drop w.from c.args.payload.now),
    )

pub store_bytes-requires-2-clause-place : goal.store_bytes-requires-2-clause-place
store_bytes-requires-2-clause-place c =
    let w = c.args.whole.now in
    let third = same_len c.store_word.new.self c.store_bytes.new.self c.args.i _ c.store_bytes.ensures in
    let long = same_len c.make_size.new.spans c.store_word.new.self c.args.i _ c.store_word.ensures in
    let first = same_len c.args.spans.now c.make_size.new.spans c.args.i _ c.make_size.ensures in
    omega (
      arith,
      third,
      long,
      first,
      c.requires.inside.second,
      ap length c.part_of-back.ensures,
      length-take w.second (drop (w.from + c.from.result) c.args.payload.now),
    )

pub returns : goal.returns
returns c =
    let w = c.args.whole.now in
    let sizes = size_store w.byte_order w.size in
    let word = word_store w.byte_order 4 w.start in
    let back : List ℕ = take w.second (drop (w.from + w.first) c.args.payload.now) in
    four c.args.spans.now c.make_size.new.spans c.store_word.new.self c.store_bytes.new.self c.store_bytes-2.new.self
    c.args.i _ _ _ _ c.requires.has c.make_size.ensures c.store_word.ensures c.store_bytes.ensures
    c.store_bytes-2.ensures
    ∙ ap (λ (xs : List ℕ). stored c.args.spans.now c.args.i
    ((sizes ++ word) ++ (byte_stores w.place xs ++ byte_stores 12 c.part_of-back.result.now))) c.part_of-front.ensures
    ∙ ap (λ (xs : List ℕ). stored c.args.spans.now c.args.i
    ((sizes ++ word) ++ (byte_stores w.place (take w.first (drop w.from c.args.payload.now)) ++ byte_stores 12 xs)))
    (c.part_of-back.ensures
    ∙ ap (λ (n : ℕ). take w.second (drop (w.from + n) c.args.payload.now)) c.from.ensures)
