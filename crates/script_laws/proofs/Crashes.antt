-- The body of a crash fits in its room
use Rattle.std.proofs.Common.{◌≡◌, ℕ, ◌+◌, ◌-◌, ◌≤◌, Bool, true, false, cond, nat_le, List, [], ◌∷◌, ◌++◌, length, take}
use Rattle.std.proofs.Common.{Option, Some, refl, ap, arith}
use Rattle.std.proofs.lemmas.Bool.{leb-true}
use Rattle.std.proofs.lemmas.List.{take_all, length-append, length-take}
use Rattle.zone_spec.specs.declared.Zone.{Zone}
use Rattle.zone_spec.specs.declared.Time.{Time}
use Rattle.zone_spec.specs.TimeLines.{line_text}
use Rattle.machine_spec.specs.States.{LiveState}
use Rattle.machine_spec.specs.LiveZones.{Target}
use Rattle.kmsg_spec.specs.declared.Reason.{Reason}
use Rattle.kmsg_spec.specs.Reasons.{reason_of}
use Rattle.kmsg_spec.specs.Bodies.{bytes_of, last_lines, heading, body}
use Rattle.script_spec.specs.Scripts.{Kernel, crash_body, dump_target, room_in, log_limit}
use Rattle.script_laws.specs.Crashes.{CrashesAreToldWhole}

size_by : (n : ℕ) (b : Bool) (lines last : List (List ℕ)) → nat_le (length (bytes_of lines)) n ≡ b
    → length (bytes_of last) ≤ n → length (bytes_of (cond b lines last)) ≤ n
size_by n true lines last e h = leb-true (length (bytes_of lines)) n e
size_by n false lines last e h = h

last_fits : (n : ℕ) (lines : List (List ℕ)) → length (bytes_of (last_lines n lines)) ≤ n
unfolding last_lines
last_fits n [] = omega arith
last_fits n (line ∷ lines) =
    size_by n (nat_le (length (bytes_of (line ∷ lines))) n) (line ∷ lines) (last_lines n lines) refl (last_fits n lines)

body_by : (room : ℕ) (head : List ℕ) (lines : List (List ℕ)) (b : Bool) → nat_le (length head) room ≡ b
    → length (cond b (head ++ bytes_of (last_lines (room - length head) lines)) (take room head)) ≤ room
body_by room head lines true e =
    let fits = leb-true (length head) room e in
    let last = last_fits (room - length head) lines in
    let all = length-append head (bytes_of (last_lines (room - length head) lines)) in
    omega (arith, fits, last, all)
body_by room head lines false e = let n = length-take room head in omega (arith, n)

pub body_fits : (why : Reason) (count room : ℕ) (lines : List (List ℕ)) → length (body why count room lines) ≤ room
body_fits why count room lines =
    body_by room (heading why count) lines (nat_le (length (heading why count)) room) refl

crash_fits : (layout : List Zone) (live : LiveState) (kernel : Kernel) (reason : ℕ) (time : Time) (t : Target)
    → dump_target layout live ≡ Some t
    → length (crash_body layout live kernel reason time) ≤ t.zone.cap - length (line_text time false)
crash_fits layout live kernel reason time t e =
    let fits = body_fits (reason_of reason) (kernel.crashes + 1) (room_in (dump_target layout live) time)
    (last_lines log_limit kernel.printed) in
    let room : room_in (dump_target layout live) time ≡ t.zone.cap - length (line_text time false) =
    ap (λ (o : Option Target). room_in o time) e in
    omega (arith, fits, room)

pub told_whole : CrashesAreToldWhole
told_whole layout live kernel reason time t told e =
    let text = crash_body layout live kernel reason time in
    ap (λ (xs : List ℕ). line_text time false ++ xs)
    (take_all (t.zone.cap - length (line_text time false)) text (crash_fits layout live kernel reason time t e))
