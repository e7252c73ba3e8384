-- No seat left, a payload that crowds, and neither: each is the history's refusal. For
-- `Shared::refusal`.
use Rattle.std.proofs.Common.{◌≡◌, length, arith, ap, ◌∙◌, Some}
use Rattle.zone_spec.specs.declared.Words.{Words}
use Rattle.machine_spec.specs.Zones.{zone_bytes}
use Rattle.shared_spec.specs.declared.SharedRefusal.TheVariants.{Crowded}
use Rattle.shared_ring.specs.Seats.{held_since}
use Rattle.shared_ring.specs.Seen.{SharedSeen, words_seen}
use Rattle.shared_ring.proofs.RingView.{no_seat, crowded, fits}
use Rattle.shared_ring.proofs.shared.Shared.refusal.Goals as goal

pub returns-then-len-eq-SEATS-clause-left : goal.returns-then-len-eq-SEATS-clause-left
returns-then-len-eq-SEATS-clause-left c = λ h l.
    let v : SharedSeen = c.args.self.now in
    let seats : length c.self.inside.seats.items ≡ length v.seats =
    ap (λ (x : SharedSeen). length x.seats) c.self.view_is in
    no_seat h.zone (zone_bytes h.zone h.image) h.operations l.can h.image v l.stands c.args.len
    (omega (arith, seats, c.len.ensures, c.if-len-eq-SEATS.true, c.self.inside.seats.ok))

pub returns-then-len-cap-clause-left : goal.returns-then-len-cap-clause-left
returns-then-len-cap-clause-left c = λ h l.
    let v : SharedSeen = c.args.self.now in
    let seats : length c.self.inside.seats.items ≡ length v.seats =
    ap (λ (x : SharedSeen). length x.seats) c.self.view_is in
    let cap : c.self.inside.zone.cap ≡ v.zone.cap = ap (λ (x : SharedSeen). x.zone.cap) c.self.view_is in
    let held : c.held-held.result ≡ held_since v.seats (words_seen v).start v.zone.cap =
    c.held-held.ensures.value
    ∙ ap (λ xs. held_since xs c.words.result.start c.self.inside.zone.cap) c.deref.ensures.value
    ∙ ap (λ (w : Words). held_since c.self.inside.seats.items w.start c.self.inside.zone.cap) c.words.ensures.value
    ∙ ap (λ (x : SharedSeen). held_since x.seats (words_seen v).start x.zone.cap) c.self.view_is in
    ap (λ n. Some (Crowded n)) held
    ∙ crowded h.zone (zone_bytes h.zone h.image) h.operations l.can h.image v l.stands c.args.len
    (λ e. c.if-len-eq-SEATS.false (omega (arith, e, seats, c.len.ensures, c.self.inside.seats.ok)))
    (omega (arith, held, cap, c.if-len-cap.true, c.held-held.ensures.fits))

pub returns-clause-left : goal.returns-clause-left
returns-clause-left c = λ h l.
    let v : SharedSeen = c.args.self.now in
    let seats : length c.self.inside.seats.items ≡ length v.seats =
    ap (λ (x : SharedSeen). length x.seats) c.self.view_is in
    let cap : c.self.inside.zone.cap ≡ v.zone.cap = ap (λ (x : SharedSeen). x.zone.cap) c.self.view_is in
    let held : c.held-held.result ≡ held_since v.seats (words_seen v).start v.zone.cap =
    c.held-held.ensures.value
    ∙ ap (λ xs. held_since xs c.words.result.start c.self.inside.zone.cap) c.deref.ensures.value
    ∙ ap (λ (w : Words). held_since c.self.inside.seats.items w.start c.self.inside.zone.cap) c.words.ensures.value
    ∙ ap (λ (x : SharedSeen). held_since x.seats (words_seen v).start x.zone.cap) c.self.view_is in
    fits h.zone (zone_bytes h.zone h.image) h.operations l.can h.image v l.stands c.args.len
    (λ e. c.if-len-eq-SEATS.false (omega (arith, e, seats, c.len.ensures, c.self.inside.seats.ok)))
    (omega (arith, held, cap, c.if-len-cap.false, c.held-held.ensures.fits))
