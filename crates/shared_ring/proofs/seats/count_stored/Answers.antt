-- A seat whose last byte was stored is given back, any other counts one byte more. For
-- `count_stored`.
use Rattle.std.proofs.Common.{◌≡◌, ◌≢◌, ℕ, ◌+◌, ◌<◌, true, false, ◌==◌, List, ◌++◌, length, take, drop, set, get_or}
use Rattle.std.proofs.Common.{arith, sym, ap, ◌∙◌, Some, eq-eqb, refl}
use Rattle.std.proofs.lemmas.Bool.{ne_eqb}
use Rattle.std.proofs.lemmas.List.{take-set, drop-set-lt}
use Rattle.std.specs.Prelude.{slice_get}
use Rattle.shared_spec.specs.declared.Next.TheVariants.{Stored, Done}
use Rattle.shared_ring.specs.declared.seats.Seat.{Seat}
use Rattle.shared_ring.specs.Seats.{one_more, seats_stepped, next_of}
use Rattle.shared_ring.proofs.SeatLists.{seat_read}
use Rattle.shared_ring.proofs.seats.count_stored.Goals as goal

-- the seat that was read is the one that is there
the_seat : (seats : List Seat) (i : ℕ) (r s : Seat) → i < length seats → r ≡ get_or seats i r
    → slice_get seats i ≡ Some s → r ≡ s
the_seat seats i r s h e g = let a : slice_get seats i ≡ Some r = seat_read seats i r h e in cc

-- after its last byte
last : (seats : List Seat) (i : ℕ) (s : Seat) → s.stored + 1 ≡ length s.payload
    → (take i seats ++ drop (i + 1) seats ≡ seats_stepped seats i s) × (Done ≡ next_of s)
last seats i s h =
    let b : (s.stored + 1 == length s.payload) ≡ true = eq-eqb (s.stored + 1) (length s.payload) h in
    (rw b refl, rw b refl)

-- after another
other : (seats : List Seat) (i : ℕ) (s : Seat) → s.stored + 1 ≢ length s.payload
    → (set seats i (one_more s) ≡ seats_stepped seats i s) × (Stored ≡ next_of s)
other seats i s n =
    let b : (s.stored + 1 == length s.payload) ≡ false = ne_eqb (s.stored + 1) (length s.payload) n in
    (rw b refl, rw b refl)

pub overflow_add-stored : goal.overflow_add-stored
overflow_add-stored c =
    let e : slice_get c.args.seats.now.items c.args.i ≡ Some c.index_mut-seat.result.now =
    seat_read c.args.seats.now.items c.args.i c.index_mut-seat.result.now c.requires.there
    c.index_mut-seat.ensures.value in
    let h = c.requires.stored c.index_mut-seat.result.now e in
    omega (arith, h.0, h.1)

pub returns-then-stored-len-clause-seats : goal.returns-then-stored-len-clause-seats
returns-then-stored-len-clause-seats c = λ s g.
    let is : c.index_mut-seat.result.now ≡ s = the_seat c.args.seats.now.items c.args.i c.index_mut-seat.result.now s
    c.requires.there c.index_mut-seat.ensures.value g in
    let n : s.stored + 1 ≡ length s.payload =
    ap (λ (x : Seat). x.stored + 1) (sym is) ∙ c.if-stored-len.true ∙ c.len.ensures.len
    ∙ ap (λ (x : Seat). length x.payload) is in
    let xs : List Seat = c.args.seats.now.items in
    let r : Seat = c.index_mut-seat.result.now in
    c.remove-done.ensures.by_index.2
    ∙ ap (λ ys. ys ++ drop (c.args.i + 1) (set xs c.args.i r)) (take-set xs c.args.i r)
    ∙ ap (λ ys. take c.args.i xs ++ ys) (drop-set-lt (c.args.i + 1) xs c.args.i r (omega arith))
    ∙ (last c.args.seats.now.items c.args.i s n).0

pub returns-then-stored-len-clause-answer : goal.returns-then-stored-len-clause-answer
returns-then-stored-len-clause-answer c = λ s g.
    let is : c.index_mut-seat.result.now ≡ s = the_seat c.args.seats.now.items c.args.i c.index_mut-seat.result.now s
    c.requires.there c.index_mut-seat.ensures.value g in
    let n : s.stored + 1 ≡ length s.payload =
    ap (λ (x : Seat). x.stored + 1) (sym is) ∙ c.if-stored-len.true ∙ c.len.ensures.len
    ∙ ap (λ (x : Seat). length x.payload) is in
    (last c.args.seats.now.items c.args.i s n).1

pub returns-clause-seats : goal.returns-clause-seats
returns-clause-seats c = λ s g.
    let is : c.index_mut-seat.result.now ≡ s = the_seat c.args.seats.now.items c.args.i c.index_mut-seat.result.now s
    c.requires.there c.index_mut-seat.ensures.value g in
    let n : s.stored + 1 ≢ length s.payload = (λ q. c.if-stored-len.false
    (ap (λ (x : Seat). x.stored + 1) is ∙ q ∙ ap (λ (x : Seat). length x.payload) (sym is) ∙ sym c.len.ensures.len)) in
    ap (λ (x : Seat). set c.args.seats.now.items c.args.i (one_more x)) is
    ∙ (other c.args.seats.now.items c.args.i s n).0

pub returns-clause-answer : goal.returns-clause-answer
returns-clause-answer c = λ s g.
    let is : c.index_mut-seat.result.now ≡ s = the_seat c.args.seats.now.items c.args.i c.index_mut-seat.result.now s
    c.requires.there c.index_mut-seat.ensures.value g in
    let n : s.stored + 1 ≢ length s.payload = (λ q. c.if-stored-len.false
    (ap (λ (x : Seat). x.stored + 1) is ∙ q ∙ ap (λ (x : Seat). length x.payload) (sym is) ∙ sym c.len.ensures.len)) in
    (other c.args.seats.now.items c.args.i s n).1
