-- The bytes after the heading are the last lines that fit in the room. For `KLog::body`.
use Rattle.std.proofs.Common.{◌≡◌, ℕ, ◌+◌, ◌-◌, ◌≤◌, ◌++◌, List, length, drop, min, refl, subst, ap, ◌∙◌, arith}
use Rattle.std.proofs.lemmas.List.{length-append, length-drop, append_assoc}
use Rattle.std.proofs.lemmas.Bool.{le-leb}
use Rattle.circular_buffer.specs.Buffer.{Buffer}
use Rattle.kmsg_spec.specs.declared.Reason.{Reason}
use Rattle.kmsg_spec.specs.Bodies.{bytes_of, heading, last_lines, body}
use Rattle.kmsg_dump.specs.Kept.{IsLine, Keeps}
use Rattle.kmsg_dump.specs.Starts.{IsFirstStart}
use Rattle.kmsg_dump.proofs.LastLines.{all_of_last, in_room}
use Rattle.kmsg_dump.proofs.Starts.{from_start}
use Rattle.kmsg_dump.proofs.KLog.body.Goals as goal

-- the bytes behind the heading
lines_in : (log : Buffer ℕ) (given : List (List ℕ)) (spare start : ℕ) → Keeps log given
    → IsFirstStart log.items (length log.items - min (length log.items) spare) start
    → drop start log.items ≡ bytes_of (last_lines spare (last_lines log.capacity given))
lines_in log given spare start k s =
    let kept = last_lines log.capacity given in
    let len : length log.items ≡ length (bytes_of kept) = ap length k.bytes in
    let from = length log.items - min (length log.items) spare in
    let room : length (bytes_of kept) - from ≡ min (length (bytes_of kept)) spare = omega (arith, len) in
    ap (drop start) k.bytes
    ∙ from_start kept (all_of_last IsLine log.capacity given k.lines) from start (omega (arith, len))
    (subst (λ (bytes : List ℕ). IsFirstStart bytes from start) k.bytes s)
    ∙ ap (λ (n : ℕ). bytes_of (last_lines n kept)) room ∙ ap bytes_of (in_room spare kept)

-- with the heading
body_in : (why : Reason) (count room : ℕ) (lines : List (List ℕ)) → length (heading why count) ≤ room
    → heading why count ++ bytes_of (last_lines (room - length (heading why count)) lines) ≡ body why count room lines
body_in why count room lines h = rw (le-leb (length (heading why count)) room h) refl

pub overflow_add-head-2 : goal.overflow_add-head-2
overflow_add-head-2 c =
    let a = length-append c.tail.result.0.now c.tail.result.1.now in
    let t = ap length c.tail.ensures in
    let s = ap length c.as_slices.ensures in
    let d = length-drop c.start_from-start.result (c.as_slices.result.0.now ++ c.as_slices.result.1.now) in
    omega (arith, a, t, s, d)

pub returns : goal.returns
returns c = λ given k.
    let v : c.self.inside.ring ≡ c.args.self.now = c.self.view_is in
    let x : c.as_bytes-head.result.now ≡ c.deref.result.now = c.as_bytes-head.ensures.value in
    let d : c.deref.result.now ≡ c.heading_of-text.result.bytes = c.deref.ensures.0 in
    let h : c.heading_of-text.result.bytes ≡ heading c.args.reason c.args.count = c.heading_of-text.ensures in
    let head = x ∙ d ∙ h in
    let hn = ap length head in
    let vn = ap (λ (b : Buffer ℕ). length b.items) v in
    let n = c.len-len.ensures.len in
    let spare = c.args.room - length (heading c.args.reason c.args.count) in
    let from : c.len-len.result - c.min.result ≡ length c.args.self.now.items - min (length c.args.self.now.items)
    spare =
    omega (arith, hn, vn, n, c.min.ensures) in
    let start = subst (λ (k : ℕ). IsFirstStart c.args.self.now.items k c.start_from-start.result) from
    c.start_from-start.ensures in
    let p : c.extend_from_slice.new.self.items ≡ c.in_ok-bytes.bytes.items ++ c.as_bytes-head.result.now =
    c.in_ok-extend_from_slice.ensures.items in
    let w = c.in_ok-bytes.ensures.items in
    let rest : c.tail.result.0.now ++ c.tail.result.1.now
    ≡ bytes_of (last_lines spare (last_lines c.args.self.now.capacity given)) =
    c.tail.ensures ∙ ap (drop c.start_from-start.result) (c.as_slices.ensures ∙ ap (λ (b : Buffer ℕ). b.items) v)
    ∙ lines_in c.args.self.now given spare c.start_from-start.result k start in
    let made : c.extend_from_slice-3.new.self.items
    ≡ heading c.args.reason c.args.count ++ (c.tail.result.0.now ++ c.tail.result.1.now) =
    c.in_ok-extend_from_slice-3.ensures.items
    ∙ ap (λ (bytes : List ℕ). bytes ++ c.tail.result.1.now) (c.in_ok-extend_from_slice-2.ensures.items
    ∙ ap (λ (bytes : List ℕ). bytes ++ c.tail.result.0.now) (p
    ∙ ap (λ (bytes : List ℕ). bytes ++ c.as_bytes-head.result.now) w ∙ head))
    ∙ append_assoc (heading c.args.reason c.args.count) c.tail.result.0.now c.tail.result.1.now in
    c.from_vec.ensures ∙ made ∙ ap (λ (bytes : List ℕ). heading c.args.reason c.args.count ++ bytes) rest
    ∙ body_in c.args.reason c.args.count c.args.room (last_lines c.args.self.now.capacity given) (omega (arith, hn))
