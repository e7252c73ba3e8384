-- A line pushed is the last of those kept; one that doesn't fit changes nothing. For `KLog::push`.
use Rattle.std.proofs.Common.{◌≡◌, ℕ, ◌+◌, ◌-◌, ◌≤◌, ◌++◌, ◌∷◌, [], List, length, drop, refl, subst, ap, sym, ◌∙◌}
use Rattle.std.proofs.Common.{arith}
use Rattle.std.proofs.lemmas.List.{length-append, append_assoc}
use Rattle.std.proofs.lemmas.List.Elements.{All-push}
use Rattle.circular_buffer.specs.Buffer.{Buffer, buffer, keep_last}
use Rattle.kmsg_spec.specs.Bodies.{newline, ended, bytes_of, last_lines}
use Rattle.kmsg_dump.specs.Kept.{IsLine, Keeps}
use Rattle.kmsg_dump.proofs.LastLines.{bytes_more, one_more, last_lines_fit}
use Rattle.kmsg_dump.proofs.KLog.push.Goals as goal

abbrev more : Buffer ℕ → List ℕ → Buffer ℕ
more b bytes = buffer (keep_last b.capacity (b.items ++ bytes)) b.capacity

-- bytes for which there is room
all_stay : (items bytes : List ℕ) (capacity : ℕ) → length items + length bytes ≤ capacity
    → more (buffer items capacity) bytes ≡ buffer (items ++ bytes) capacity
all_stay items bytes capacity h =
    let n = length-append items bytes in
    let none : length (items ++ bytes) - capacity ≡ 0 = omega (arith, n) in
    ap (λ (k : ℕ). buffer (drop k (items ++ bytes)) capacity) none

pushed : (log made : Buffer ℕ) (given : List (List ℕ)) (text : List ℕ) → IsLine text → Keeps log given
    → length text + 1 ≤ log.capacity
    → made ≡ buffer (bytes_of (last_lines (log.capacity - (length text + 1)) given)) log.capacity
    → more (more made text) (newline ∷ []) ≡ buffer (bytes_of (last_lines log.capacity (given ++ text ∷ [])))
    log.capacity
pushed log made given text line k small e =
    let size : length (ended text) ≡ length text + 1 = length-append text (newline ∷ []) in
    let kept = last_lines (log.capacity - (length text + 1)) given in
    let fit = (last_lines_fit (log.capacity - (length text + 1)) given).fit in
    let n = length-append (bytes_of kept) text in
    let one = one_more log.capacity given text (omega (arith, size)) in
    let same : last_lines (log.capacity - length (ended text)) given ≡ kept =
    ap (λ (k : ℕ). last_lines (log.capacity - k) given) size in
    ap (λ (b : Buffer ℕ). more (more b text) (newline ∷ [])) e
    ∙ ap (λ (b : Buffer ℕ). more b (newline ∷ [])) (all_stay (bytes_of kept) text log.capacity (omega (arith, fit)))
    ∙ all_stay (bytes_of kept ++ text) (newline ∷ []) log.capacity (omega (arith, fit, n))
    ∙ ap (λ (bytes : List ℕ). buffer bytes log.capacity)
    (append_assoc (bytes_of kept) text (newline ∷ []) ∙ sym (bytes_more kept text)
    ∙ ap (λ (lines : List (List ℕ)). bytes_of (lines ++ text ∷ [])) (sym same) ∙ ap bytes_of (sym one))

pub returns-clause-kept : goal.returns-clause-kept
returns-clause-kept c = λ e given k.
    let v : c.self-2.inside.ring ≡ c.make_room.new.self = c.self-2.view_is in
    let w : c.self.inside.ring ≡ c.args.self.now = c.self.view_is in
    let r = ap (λ (b : Buffer ℕ). b.capacity) w in
    let all : c.extend_from_slice-2.new.self
    ≡ buffer (bytes_of (last_lines c.args.self.now.capacity (given ++ c.args.text.now ∷ []))) c.args.self.now.capacity =
    c.extend_from_slice-2.ensures ∙ ap (λ (b : Buffer ℕ). more b (newline ∷ [])) c.extend_from_slice.ensures
    ∙ ap (λ (b : Buffer ℕ). more (more b c.args.text.now) (newline ∷ [])) v
    ∙ pushed c.args.self.now c.make_room.new.self given c.args.text.now c.requires k (omega (arith, r))
    (c.make_room.ensures.kept given k) in
    subst (λ (b : Buffer ℕ). Keeps b (given ++ c.args.text.now ∷ [])) (sym all) (record {
      lines = All-push IsLine given c.args.text.now k.lines c.requires;
      bytes = refl;
    })

pub returns-clause-limit : goal.returns-clause-limit
returns-clause-limit c =
    let v : c.self-2.inside.ring ≡ c.make_room.new.self = c.self-2.view_is in
    ap (λ (b : Buffer ℕ). b.capacity) c.extend_from_slice-2.ensures
    ∙ ap (λ (b : Buffer ℕ). b.capacity) c.extend_from_slice.ensures
    ∙ ap (λ (b : Buffer ℕ). b.capacity) v ∙ c.make_room.ensures.limit
