-- A zone of another kind, or that was not found, is passed over; the first found one gives its
-- log. For `first_log`.
use Rattle.std.proofs.Common.{◌≡◌, ◌++◌, ◌∷◌, [], ◌+◌, ◌<◌, ℕ, List, Option, Some, length, take, drop, arith, ap, sym}
use Rattle.std.proofs.Common.{◌∙◌, refl}
use Rattle.std.specs.Prelude.{option_to_list, slice_get}
use Rattle.std.specs.Option.{option_copied}
use Rattle.std.specs.Borrow.{Bor}
use Rattle.std.proofs.lemmas.List.{take_all}
use Rattle.zone_spec.specs.Records.{logs_of}
use Rattle.prz_read.specs.Saving.{saved}
use Rattle.pstore_records.proofs.Additive.{logs_of-append}
use Rattle.pstore_records.proofs.Steps.{joined-more, joined-all}
use Rattle.pstore_records.proofs.zones.first_log.Goals as goal

abbrev listed : Option (Bor (List ℕ)) → List (List ℕ)
listed log = option_to_list (option_copied log)

-- the first behind an empty front
first : (all front rest : List (List ℕ)) (log : List ℕ) → all ≡ (front ++ log ∷ []) ++ rest → front ≡ []
    → Some log ≡ slice_get all 0
first all front rest log e none = rw (e, none) refl

pub loop-i-preserved : goal.loop-i-preserved
loop-i-preserved c =
    let within : c.loop-i.i < length (saved c.args.logs.now) =
    omega (arith, c.len-i-end.ensures.saved, c.loop-i-test.true) in
    let more = joined-more (logs_of c.args.kind) (logs_of-append c.args.kind) (saved c.args.logs.now) c.loop-i.i
    (listed c.log_at.result) within c.log_at.ensures in
    let before : logs_of c.args.kind (take c.loop-i.i (saved c.args.logs.now)) ≡ [] = c.loop-i.invariant in
    let none : listed c.log_at.result ≡ [] = ap listed c.in_default.is in
    more ∙ rw (before, none) refl

pub returns-in-Some : goal.returns-in-Some
returns-in-Some c =
    let within : c.loop-i.i < length (saved c.args.logs.now) =
    omega (arith, c.len-i-end.ensures.saved, c.loop-i-test.true) in
    let more = joined-more (logs_of c.args.kind) (logs_of-append c.args.kind) (saved c.args.logs.now) c.loop-i.i
    (listed c.log_at.result) within c.log_at.ensures in
    let one : listed c.log_at.result ≡ c.in-Some.log.now ∷ [] = ap listed c.in-Some.is in
    let front = logs_of c.args.kind (take c.loop-i.i (saved c.args.logs.now)) in
    let rest = logs_of c.args.kind (drop (c.loop-i.i + 1) (saved c.args.logs.now)) in
    first (logs_of c.args.kind (saved c.args.logs.now)) front rest c.in-Some.log.now
    (joined-all (logs_of c.args.kind) (logs_of-append c.args.kind) (saved c.args.logs.now) (c.loop-i.i + 1)
    ∙ ap (λ (logs : List (List ℕ)). logs ++ rest) (more ∙ ap (λ (logs : List (List ℕ)). front ++ logs) one))
    c.loop-i.invariant

pub returns : goal.returns
returns c =
    let all : take c.loop-i.i (saved c.args.logs.now) ≡ saved c.args.logs.now =
    take_all c.loop-i.i (saved c.args.logs.now) (omega (arith, c.len-i-end.ensures.saved, c.loop-i-test.false)) in
    let none : logs_of c.args.kind (saved c.args.logs.now) ≡ [] =
    ap (logs_of c.args.kind) (sym all) ∙ c.loop-i.invariant in
    ap (λ (logs : List (List ℕ)). slice_get logs 0) (sym none)
