-- One entry more adds its line to the text. For `lines_of`.
use Rattle.std.proofs.Common.{◌≡◌, ℕ, ◌+◌, ◌<◌, ◌++◌, ◌∷◌, [], List, length, get_or, take, map, ap, sym, ◌∙◌}
use Rattle.std.specs.Prelude.{flat_map}
use Rattle.std.proofs.lemmas.List.{take_more, append-nil}
use Rattle.std.proofs.lemmas.Grind.{flat_map-append}
use Rattle.ftrace_zone.specs.declared.Entry.{Entry}
use Rattle.ftrace_zone.specs.EntryBytes.{entry_bytes}
use Rattle.ftrace_spec.specs.Lines.{line_text}
use Rattle.ftrace_text.proofs.Entries.{map-append}
use Rattle.ftrace_text.proofs.lines.lines_of.Goals as goal

abbrev lines : List ℕ → ℕ → List Entry → List ℕ
lines names shift all = flat_map (line_text names shift) (map entry_bytes all)

-- one entry more
line_more : (names : List ℕ) (shift : ℕ) (all : List Entry) (i : ℕ) (d : Entry) → i < length all
    → lines names shift (take (i + 1) all)
    ≡ lines names shift (take i all) ++ line_text names shift (entry_bytes (get_or all i d))
line_more names shift all i d h =
    ap (lines names shift) (take_more all i d h)
    ∙ ap (flat_map (line_text names shift)) (map-append entry_bytes (take i all) (get_or all i d ∷ []))
    ∙ flat_map-append (line_text names shift) (map entry_bytes (take i all)) (entry_bytes (get_or all i d) ∷ [])
    ∙ ap (λ more. lines names shift (take i all) ++ more) (append-nil (line_text names shift (entry_bytes (get_or all i d))))

none : Entry
none = record { addr = 0; parent = 0; word = 0 }

pub loop-entry-preserved : goal.loop-entry-preserved
unfolding none
loop-entry-preserved c =
    let i : ℕ = c.loop-entry.entry-index in
    let entry : Entry = get_or c.args.entries.now i none in
    c.in_ok-push_line.ensures
    ∙ ap (λ text. text ++ line_text c.args.symbols.now c.args.shift (entry_bytes entry)) c.loop-entry.invariant
    ∙ sym (line_more c.args.symbols.now c.args.shift c.args.entries.now i none c.loop-entry-test.true)
