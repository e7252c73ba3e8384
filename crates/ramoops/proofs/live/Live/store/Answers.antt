-- The zone's flight can store, and the stores change that zone, the cursor and the count of flying
-- dumps alone. For `Live::store`.
use Rattle.std.proofs.Common.{◌≡◌, ◌+◌, ◌≤◌, Option, is_some, slice_get, refl, sym, subst, ap, ◌∙◌}
use Rattle.ramoops.specs.LiveSeen.{LiveSeen}
use Rattle.ramoops_layout.specs.Laid.{zones_of}
use Rattle.ramoops.specs.declared.zones.Stored.{Stored}
use Rattle.ramoops.specs.Places.{dump_flight, flies_at}
use Rattle.ramoops.specs.Storing.{is_next}
use Rattle.zone_spec.specs.declared.Zone.{Zone}
use Rattle.ramoops.specs.Cursors.{cursor_at, cursor_after}
use Rattle.ramoops.proofs.Flown.{zone_at, zone_read, can_store, has_parity, dumps, flies_here, flies_set, idle_same}
use Rattle.ramoops.proofs.Flown.{stored_by, stores_made}
use Rattle.ramoops.proofs.DumpFlights.{flights_flew, flights_stored}
use Rattle.prz_region.proofs.CutLoop.{no_zone}
use Rattle.ramoops.proofs.live.Live.store.Goals as goal

pub advance-stored-requires-clause-can : goal.advance-stored-requires-clause-can
advance-stored-requires-clause-can c =
    let z = zone_at _ c.args.self.now c.args.i c.index_mut.result.now c.self.view_is c.self.invariant.0 c.requires
    c.index_mut.ensures.value in
    (can_store _ c.self.invariant.0 c.args.i z.0 c.index_mut.result.now z.1 z.2).0

pub advance-stored-requires-clause-room : goal.advance-stored-requires-clause-room
advance-stored-requires-clause-room c =
    let z = zone_at _ c.args.self.now c.args.i c.index_mut.result.now c.self.view_is c.self.invariant.0 c.requires
    c.index_mut.ensures.value in
    (can_store _ c.self.invariant.0 c.args.i z.0 c.index_mut.result.now z.1 z.2).1

pub advance-stored-requires-clause-coder : goal.advance-stored-requires-clause-coder
advance-stored-requires-clause-coder c = λ k e.
    let z = zone_at _ c.args.self.now c.args.i c.index_mut.result.now c.self.view_is c.self.invariant.0 c.requires
    c.index_mut.ensures.value in
    has_parity _ c.self.invariant.0 c.args.i z.0 c.index_mut.result.now z.1 z.2 k.now
    (c.for_zone-coder.ensures k e ∙ ap (λ (y : Zone). y.parity)
    (zone_read (zones_of c.self.inside.layout) c.zones.result.now c.args.i no_zone z.0 c.zones.ensures.value z.1))

pub still_flying-self-inside-requires : goal.still_flying-self-inside-requires
still_flying-self-inside-requires c =
    let z = zone_at _ c.args.self.now c.args.i c.index_mut.result.now c.self.view_is c.self.invariant.0 c.requires
    c.index_mut.ensures.value in
    subst (λ (y : Zone). dump_flight y (is_some c.advance-stored.result) ≤ c.self.inside.flying_dumps)
    (sym (zone_read (zones_of c.self.inside.layout) c.zones.result.now c.args.i no_zone z.0 c.zones.ensures.value z.1))
    (flights_flew (zones_of c.self.inside.layout) c.self.inside.zones.items c.args.i z.0 c.index_mut.result.now _
    c.advance-stored.result z.1 z.2 c.self.invariant.3 c.advance-stored.ensures.flies)

pub returns-clause-idle : goal.returns-clause-idle
returns-clause-idle c e =
    let z = zone_at _ c.args.self.now c.args.i c.index_mut.result.now c.self.view_is c.self.invariant.0 c.requires
    c.index_mut.ensures.value in
    let same = c.advance-stored.ensures.idle e in
    let turned = (c.turn.ensures (zones_of c.self.inside.layout) c.self.invariant.1
    (dumps _ c.self.invariant.0 c.args.i z.0 c.index_mut.result.now z.1 z.2 c.args.count c.advance-stored.result
    c.advance-stored.ensures.last)).0 in
    idle_same _ c.advance-stored.new.spans c.args.i c.index_mut.result.now c.advance-stored.new.held
    (cursor_at c.turn.new.cursor) same.0 same.1 z.2
    (turned ∙ ap (λ (r : Option Stored). cursor_after (zones_of c.self.inside.layout) r
    (cursor_at c.self.inside.cursor)) e)
    ∙ c.self.view_is

pub returns-clause-flies : goal.returns-clause-flies
returns-clause-flies c =
    let z = zone_at _ c.args.self.now c.args.i c.index_mut.result.now c.self.view_is c.self.invariant.0 c.requires
    c.index_mut.ensures.value in
    ap (λ (x : LiveSeen). flies_at (slice_get x.zones c.args.i)) (sym c.self.view_is)
    ∙ flies_here _ c.args.i c.index_mut.result.now z.2 ∙ c.advance-stored.ensures.flies

pub returns-clause-goes_on : goal.returns-clause-goes_on
returns-clause-goes_on c =
    let z = zone_at _ c.args.self.now c.args.i c.index_mut.result.now c.self.view_is c.self.invariant.0 c.requires
    c.index_mut.ensures.value in
    flies_set _ c.args.i c.index_mut.result.now c.advance-stored.new.held z.2 ∙ c.advance-stored.ensures.goes_on

pub invariant_of-self : goal.invariant_of-self
invariant_of-self c =
    let z = zone_at _ c.args.self.now c.args.i c.index_mut.result.now c.self.view_is c.self.invariant.0 c.requires
    c.index_mut.ensures.value in (
      (stored_by c.args.count _ c.args.self.now c.args.i c.index_mut.result.now c.advance-stored.new.held
          c.advance-stored.new.spans c.advance-stored.result (cursor_at c.turn.new.cursor) c.self.view_is
          c.self.invariant.0 c.requires c.index_mut.ensures.value c.advance-stored.ensures.others
          c.advance-stored.ensures.flies c.advance-stored.ensures.goes_on
          c.advance-stored.ensures.same_call c.advance-stored.ensures.capacity
          c.advance-stored.ensures.stored c.advance-stored.ensures.last
          (c.turn.ensures (zones_of c.self.inside.layout) c.self.invariant.1
          (dumps _ c.self.invariant.0 c.args.i z.0 c.index_mut.result.now z.1 z.2 c.args.count c.advance-stored.result
          c.advance-stored.ensures.last)).0).0,
      (c.turn.ensures (zones_of c.self.inside.layout) c.self.invariant.1
          (dumps _ c.self.invariant.0 c.args.i z.0 c.index_mut.result.now z.1 z.2 c.args.count c.advance-stored.result
          c.advance-stored.ensures.last)).1,
      c.self.invariant.2,
      (let read = zone_read (zones_of c.self.inside.layout) c.zones.result.now c.args.i no_zone z.0
          c.zones.ensures.value z.1 in
          flights_stored (zones_of c.self.inside.layout) c.self.inside.zones.items c.args.i z.0 c.index_mut.result.now
          c.advance-stored.new.held c.self.inside.flying_dumps c.still_flying-self-inside.result
          c.advance-stored.result z.1 z.2
          c.self.invariant.3 c.advance-stored.ensures.flies c.advance-stored.ensures.goes_on
          (subst (λ (y : Zone). c.still_flying-self-inside.result + dump_flight y (is_some c.advance-stored.result)
          ≡ c.self.inside.flying_dumps + dump_flight y (is_next c.advance-stored.result)) read
          c.still_flying-self-inside.ensures)),
    )

pub returns-clause-stored : goal.returns-clause-stored
returns-clause-stored c =
    let z = zone_at _ c.args.self.now c.args.i c.index_mut.result.now c.self.view_is c.self.invariant.0 c.requires
    c.index_mut.ensures.value in
    (stored_by c.args.count _ c.args.self.now c.args.i c.index_mut.result.now c.advance-stored.new.held
    c.advance-stored.new.spans c.advance-stored.result (cursor_at c.turn.new.cursor) c.self.view_is
    c.self.invariant.0 c.requires c.index_mut.ensures.value c.advance-stored.ensures.others
    c.advance-stored.ensures.flies c.advance-stored.ensures.goes_on
    c.advance-stored.ensures.same_call c.advance-stored.ensures.capacity c.advance-stored.ensures.stored
    c.advance-stored.ensures.last (c.turn.ensures (zones_of c.self.inside.layout) c.self.invariant.1
    (dumps _ c.self.invariant.0 c.args.i z.0 c.index_mut.result.now z.1 z.2 c.args.count c.advance-stored.result
    c.advance-stored.ensures.last)).0).1

pub returns-clause-stores : goal.returns-clause-stores
returns-clause-stores c =
    stores_made c.args.count _ c.args.self.now c.args.i c.index_mut.result.now c.advance-stored.new.spans
    c.self.view_is c.self.invariant.0 c.requires c.index_mut.ensures.value c.advance-stored.ensures.stores
    (record c.args.self.now { spans = c.advance-stored.new.spans }) refl
