-- A newline in the front, in the back or in neither is the first of both joined. For
-- `newline_from`.
use Rattle.std.proofs.Common.{ℕ, List, Option, Some, None, take, ◌+◌, ◌-◌, ◌≤◌, ◌++◌, length, drop, arith, subst, sym}
use Rattle.std.proofs.Common.{◌≡◌}
use Rattle.std.proofs.lemmas.List.{length-append, length-drop, take_rest}
use Rattle.memchr.specs.Find.{IsFirst, Nowhere}
use Rattle.kmsg_dump.proofs.Search.{IsNewline, front_lies, back_lies, whole_back_lies, found, missed, joined}
use Rattle.kmsg_dump.proofs.Search.{joined_none}
use Rattle.kmsg_dump.proofs.newline_from.Goals as goal

-- a slice to the end is the rest
at_rest : (bytes : List ℕ) (from : ℕ) (r : Option ℕ)
    → IsFirst (IsNewline (take (length bytes - from) (drop from bytes))) 0
    (length (take (length bytes - from) (drop from bytes))) r
    → IsFirst (IsNewline (drop from bytes)) 0 (length (drop from bytes)) r
at_rest bytes from r f = subst (λ (piece : List ℕ). IsFirst (IsNewline piece) 0 (length piece) r)
    (take_rest bytes from) f

-- none in the front from the place on
pub front_missed : (front back : List ℕ) (from : ℕ) → from ≤ length front
    → IsFirst (IsNewline (drop from front)) 0 (length (drop from front)) None
    → Nowhere (IsNewline (front ++ back)) from (length front)
front_missed front back from h none =
    let n = length-drop from front in
    let e : from + length (drop from front) ≡ length front = omega (arith, n) in
    subst (Nowhere (IsNewline (front ++ back)) from) e
    (missed (front ++ back) (drop from front) from (front_lies front back from h) none)

-- nor in the back
pub back_missed : (front back : List ℕ) → IsFirst (IsNewline back) 0 (length back) None
    → Nowhere (IsNewline (front ++ back)) (length front) (length (front ++ back))
back_missed front back none =
    subst (Nowhere (IsNewline (front ++ back)) (length front)) (sym (length-append front back))
    (missed (front ++ back) back (length front) (whole_back_lies front back) none)

pub end_missed : (front back : List ℕ) (from : ℕ) → length front ≤ from → from ≤ length front + length back
    → IsFirst (IsNewline (drop (from - length front) back)) 0 (length (drop (from - length front) back)) None
    → Nowhere (IsNewline (front ++ back)) from (length (front ++ back))
end_missed front back from h g none =
    let n = length-drop (from - length front) back in
    let m = length-append front back in
    let e : from + length (drop (from - length front) back) ≡ length (front ++ back) = omega (arith, n, m) in
    subst (Nowhere (IsNewline (front ++ back)) from) e
    (missed (front ++ back) (drop (from - length front) back) from (back_lies front back from h g) none)

pub returns-in-Some : goal.returns-in-Some
returns-in-Some c = found (c.args.front.now ++ c.args.back.now) (drop c.args.from c.args.front.now) c.args.from
    c.in-Some.i
    (front_lies c.args.front.now c.args.back.now c.args.from (omega arith))
    (at_rest c.args.front.now c.args.from (Some c.in-Some.i) c.in-Some.ensures)

pub returns-in-Some-memchr : goal.returns-in-Some-memchr
returns-in-Some-memchr c = joined (IsNewline (c.args.front.now ++ c.args.back.now)) c.args.from
    (length c.args.front.now)
    (length (c.args.front.now ++ c.args.back.now)) (length c.args.front.now + c.in-Some-memchr.i) (omega arith)
    (front_missed c.args.front.now c.args.back.now c.args.from (omega arith)
    (at_rest c.args.front.now c.args.from None c.in-None.ensures))
    (found (c.args.front.now ++ c.args.back.now) c.args.back.now (length c.args.front.now) c.in-Some-memchr.i
    (whole_back_lies c.args.front.now c.args.back.now) c.in-Some-memchr.ensures)

pub returns-in-None-memchr : goal.returns-in-None-memchr
returns-in-None-memchr c = joined_none (IsNewline (c.args.front.now ++ c.args.back.now)) c.args.from
    (length c.args.front.now) (length (c.args.front.now ++ c.args.back.now))
    (front_missed c.args.front.now c.args.back.now c.args.from (omega arith)
    (at_rest c.args.front.now c.args.from None c.in-None.ensures))
    (back_missed c.args.front.now c.args.back.now c.in-None-memchr.ensures)

pub returns-in-Some-memchr-2 : goal.returns-in-Some-memchr-2
returns-in-Some-memchr-2 c = found (c.args.front.now ++ c.args.back.now)
    (drop (c.args.from - length c.args.front.now) c.args.back.now) c.args.from c.in-Some-memchr-2.i
    (back_lies c.args.front.now c.args.back.now c.args.from (omega arith) c.requires)
    (at_rest c.args.back.now (c.args.from - length c.args.front.now) (Some c.in-Some-memchr-2.i)
    c.in-Some-memchr-2.ensures)

pub returns-in-None-memchr-2 : goal.returns-in-None-memchr-2
returns-in-None-memchr-2 c = end_missed c.args.front.now c.args.back.now c.args.from (omega arith) c.requires
    (at_rest c.args.back.now (c.args.from - length c.args.front.now) None c.in-None-memchr-2.ensures)
