-- One entry more adds its line to the text. For `shown_lines`.
use Rattle.std.proofs.Common.{◌≡◌, ℕ, ◌+◌, ◌<◌, ◌++◌, ◌∷◌, [], List, length, get_or, take, ap, sym, ◌∙◌}
use Rattle.std.specs.Prelude.{flat_map}
use Rattle.std.proofs.lemmas.List.{take_more, append-nil}
use Rattle.std.proofs.lemmas.Grind.{flat_map-append}
use Rattle.pmsg_spec.specs.declared.Entry.{Entry}
use Rattle.pmsg_spec.specs.Lines.{line_by, line_text, lines_text}
use Rattle.pmsg.proofs.shown.shown_lines.Goals as goal

-- one entry more
line_more : (bytes : List ℕ) (all : List Entry) (i : ℕ) (d : Entry) → i < length all
    → lines_text bytes (take (i + 1) all) ≡ lines_text bytes (take i all) ++ line_text bytes (get_or all i d)
line_more bytes all i d h =
    ap (lines_text bytes) (take_more all i d h)
    ∙ flat_map-append (line_text bytes) (take i all) (get_or all i d ∷ [])
    ∙ ap (λ more. lines_text bytes (take i all) ++ more) (append-nil (line_text bytes (get_or all i d)))

none : Entry
none = record { log = 0; uid = 0; pid = 0; tid = 0; secs = 0; nanos = 0; start = 0; end = 0 }

pub loop-entry-preserved : goal.loop-entry-preserved
unfolding none
loop-entry-preserved c =
    let i : ℕ = c.loop-entry.entry-index in
    let entry : Entry = get_or c.args.entries.now i none in
    c.in_ok-push_line.ensures
    ∙ ap (λ payload. c.loop-entry.out.items ++ line_by entry payload) c.payload.ensures
    ∙ ap (λ text. text ++ line_text c.args.bytes.now entry) c.loop-entry.invariant
    ∙ sym (line_more c.args.bytes.now c.args.entries.now i none c.loop-entry-test.true)
