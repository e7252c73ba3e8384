-- What it means that a flight stands for an image
use Rattle.std.proofs.Common.{◌≡◌, ℕ, List, [], ◌++◌, length, take, drop, sym, ap, ◌∙◌, arith, take_at, drop_at}
use Rattle.std.proofs.Common.{append-nil, ◌<◌}
use Rattle.std.proofs.lemmas.List.{drop_all}
use Rattle.zone_spec.specs.Stores.{Store, after_stores}
use Rattle.zone_spec.specs.Stages.{stores_in_turn}
use Rattle.zone_spec.specs.Calls.{call_stores, image_after}
use Rattle.store_steps.specs.Flying.{Flying}
use Rattle.store_steps.specs.Phases.{IsFinished}
use Rattle.store_steps.specs.Machine.{stores_of, next_stores, behind, stores_left, IsKept, StandsFor}
use Rattle.store_steps.specs.Counts.{total_of}
use Rattle.store_steps.proofs.FlightSteps.{ends, left_later, later_by}

pub stands_image : (f : Flying) (now before : List ℕ) → StandsFor f now before
    → now ≡ image_after f.zone f.call before f.made
stands_image f now before stands =
    let u = stands.underway in
    u.image ∙ ap (after_stores before) (sym (ap (take f.made) u.whole
    ∙ take_at u.done (stores_left f now) f.made (sym u.count)))

none_left : (f : Flying) (now : List ℕ) → IsFinished f → stores_left f now ≡ []
unfolding stores_left stores_in_turn
none_left f now e =
    let s : List Store = drop f.place.number (stores_of f now f.place.phase) in
    let none : s ≡ [] = drop_all f.place.number (stores_of f now f.place.phase)
    (let l : length (stores_of f now f.place.phase) ≡ 0 = ap (λ p. length (stores_of f now p)) e in omega (arith, l)) in
    ap (λ ss. ss ++ stores_in_turn f.zone (behind f f.place.phase) (after_stores now ss)) none
    ∙ ap (λ p. stores_in_turn f.zone (behind f p) (after_stores now [])) e

pub stands_last : (f : Flying) (now before : List ℕ) → IsKept f → StandsFor f now before → f.made ≡ total_of f
    → f.made ≡ length (call_stores f.zone f.call before)
stands_last f now before kept stands e =
    let u = stands.underway in
    u.count ∙ ap length (sym (u.whole ∙ ap (λ ss. u.done ++ ss) (none_left f now ((ends f kept).1 e))
    ∙ append-nil u.done))

-- the next stores of the flight are the next ones of the call
pub next_is : (f : Flying) (now before : List ℕ) (n : ℕ) → 0 < f.zone.cap → StandsFor f now before
    → length (next_stores f now n) ≡ n
    → take n (drop f.made (call_stores f.zone f.call before)) ≡ next_stores f now n
next_is f now before n some stands len =
    let u = stands.underway in
    let rest : List Store = stores_left (later_by n f) (after_stores now (next_stores f now n)) in
    ap (λ ss. take n (drop f.made ss)) u.whole
    ∙ ap (take n) (drop_at u.done (stores_left f now) f.made (sym u.count))
    ∙ ap (take n) (left_later n f now some)
    ∙ take_at (next_stores f now n) rest n len
