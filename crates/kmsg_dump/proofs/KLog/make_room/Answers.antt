-- The lines that stay are the last ones that leave room for so many bytes. For `make_room`.
use Rattle.std.proofs.Common.{◌≡◌, ℕ, ◌-◌, ◌<◌, ◌≤◌, List, length, drop, subst, ap, sym, ◌∙◌, arith}
use Rattle.circular_buffer.specs.Buffer.{Buffer, buffer, keep_last}
use Rattle.kmsg_spec.specs.Bodies.{bytes_of, last_lines}
use Rattle.kmsg_dump.specs.Kept.{IsLine, Keeps}
use Rattle.kmsg_dump.specs.Starts.{IsFirstStart}
use Rattle.kmsg_dump.proofs.LastLines.{all_fit, all_of_last, of_last}
use Rattle.kmsg_dump.proofs.Starts.{from_start}
use Rattle.kmsg_dump.proofs.KLog.make_room.Goals as goal

-- the lines that stay when so many bytes more are to fit
dropped : (log : Buffer ℕ) (given : List (List ℕ)) (size from start : ℕ) → Keeps log given
    → length log.items ≤ log.capacity → size ≤ log.capacity → log.capacity - length log.items < size
    → from ≡ size - (log.capacity - length log.items)
    → from ≤ length log.items → IsFirstStart log.items from start
    → drop (length log.items - (length log.items - start)) log.items ≡ bytes_of (last_lines (log.capacity - size) given)
dropped log given size from start k full small more is below s =
    let kept = last_lines log.capacity given in
    let high = s.high in
    let at : length log.items - (length log.items - start) ≡ start = omega (arith, high) in
    let len : length log.items ≡ length (bytes_of kept) = ap length k.bytes in
    let room : length (bytes_of kept) - from ≡ log.capacity - size = omega (arith, len) in
    ap (λ n. drop n log.items) at ∙ ap (drop start) k.bytes
    ∙ from_start kept (all_of_last IsLine log.capacity given k.lines) from start (omega (arith, len))
    (subst (λ (bytes : List ℕ). IsFirstStart bytes from start) k.bytes s)
    ∙ ap (λ n. bytes_of (last_lines n kept)) room
    ∙ ap bytes_of (of_last (log.capacity - size) log.capacity given (omega arith))

-- there is room enough
kept_all : (log : Buffer ℕ) (given : List (List ℕ)) (size : ℕ) → Keeps log given
    → length log.items ≤ log.capacity → size ≤ log.capacity - length log.items
    → log.items ≡ bytes_of (last_lines (log.capacity - size) given)
kept_all log given size k full small =
    let kept = last_lines log.capacity given in
    let len : length log.items ≡ length (bytes_of kept) = ap length k.bytes in
    k.bytes ∙ ap bytes_of (sym (all_fit (log.capacity - size) kept (omega (arith, len)))
    ∙ of_last (log.capacity - size) log.capacity given (omega arith))

pub returns-then-size-spare-clause-kept : goal.returns-then-size-spare-clause-kept
returns-then-size-spare-clause-kept c = λ given k.
    let v : c.self.inside.ring ≡ c.args.self.now = c.self.view_is in
    let l = ap (λ (b : Buffer ℕ). length b.items) v in
    let r = ap (λ (b : Buffer ℕ). b.capacity) v in
    let at : c.len-len.result - c.start_from-start.result ≡ length c.args.self.now.items - c.start_from-start.result =
    omega (arith, l) in
    c.truncate_front.ensures
    ∙ ap (λ (b : Buffer ℕ). buffer (keep_last (c.len-len.result - c.start_from-start.result) b.items) b.capacity) v
    ∙ ap (λ (n : ℕ). buffer (keep_last n c.args.self.now.items) c.args.self.now.capacity) at
    ∙ ap (λ (items : List ℕ). buffer items c.args.self.now.capacity)
    (dropped c.args.self.now given c.args.size (c.args.size - (c.capacity.result - c.len-len.result))
    c.start_from-start.result k (omega (arith, l, r)) c.requires (omega (arith, l, r)) (omega (arith, l, r))
    (omega (arith, l, r)) c.start_from-start.ensures)

pub returns-else-size-spare-clause-kept : goal.returns-else-size-spare-clause-kept
returns-else-size-spare-clause-kept c = λ given k.
    let v : c.self.inside.ring ≡ c.args.self.now = c.self.view_is in
    let l = ap (λ (b : Buffer ℕ). length b.items) v in
    let r = ap (λ (b : Buffer ℕ). b.capacity) v in
    ap (λ (items : List ℕ). buffer items c.args.self.now.capacity)
    (kept_all c.args.self.now given c.args.size k (omega (arith, l, r)) (omega (arith, l, r)))
