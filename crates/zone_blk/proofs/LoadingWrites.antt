-- A store keeps its room, whatever is written; and the writes of a loading
use Rattle.std.proofs.Common.{◌≡◌, ℕ, ◌==◌, Bool, true, false, if◌then◌else◌, List, [], ◌∷◌, ◌++◌, length, Option, Some}
use Rattle.std.proofs.Common.{None, Result, Ok, Err, refl, sym, ap, ◌∙◌, arith, subst, inl, inr}
use Rattle.blk_laws.proofs.Cuts.{first-all}
use Rattle.outside.specs.declared.outside.Failed.{Failed}
use Rattle.blk_spec.specs.declared.BlkCut.{BlkCut}
use Rattle.blk_spec.specs.declared.BlkCut.TheVariants.{Uncut}
use Rattle.blk_spec.specs.Writes.{Write, store_after, bytes_in, first_bytes, reaching, asks_of}
use Rattle.blk_spec.specs.Rings.{header_write, empty_words}
use Rattle.blk_spec.specs.Answers.{HasRoom, Device, Makes, FailsWithin, Answers, Loads}
use Rattle.zone_blk.specs.Outcomes.{Ends}
use Rattle.zone_blk.specs.Loading.{ReadEnds}
use Rattle.blk_spec.specs.declared.BlkFault.{BlkFault}
use Rattle.blk_spec.specs.declared.BlkFault.TheVariants.{StoreFault, Memory, NoZone, NoRecord}
use Rattle.blk_spec.specs.declared.BlkLayout.{BlkLayout}
use Rattle.blk_spec.specs.declared.BlkZone.{BlkZone}
use Rattle.blk_spec.specs.declared.BlkRing.TheVariants.{Console, Pmsg}
use Rattle.blk_spec.specs.Layout.{ring_zone}
use Rattle.blk_spec.specs.States.{BlkState, clearing, load_writes}
use Rattle.blk_laws.proofs.Lines.{writes-longer}

pub room-after : (n : ℕ) (ws : List Write) (old new : Option (List ℕ)) → new ≡ store_after ws old → HasRoom n old
    → HasRoom n new
room-after n ws None new e h = subst (HasRoom n) (sym e) (record { room = tt })
room-after n ws (Some store) new e h = subst (HasRoom n) (sym e)
    (record { room = omega (arith, h.room, writes-longer ws store) })

pub room-ends : {T : Type 0} (n : ℕ) (r : Result T Failed) (ws : List Write) (c d : BlkCut)
    (old new : Device) → Ends r ws c d old new → HasRoom n old.holds → HasRoom n new.holds
room-ends n (Ok done) ws c d old new p h = room-after n (reaching c ws) old.holds new.holds p.store h
room-ends n (Err failed) ws c d old new p h = room-after n (first_bytes p.kept ws) old.holds new.holds p.store h

-- an uncut loading
pub uncut-store : (ws : List Write) (d : BlkCut) (old new : Device) → Makes ws ws Uncut d old new
    → new.holds ≡ store_after ws old.holds
uncut-store ws d old new p = p.store ∙ ap (λ (vs : List Write). store_after vs old.holds)
    (first-all (bytes_in ws) ws (omega arith))

-- each header asks the store
pub uncut-asks : (l : BlkLayout) → asks_of Uncut (load_writes l) ≡ length (load_writes l)
unfolding load_writes asks_of
uncut-asks l = both (l.pmsg == 0) (l.console == 0)
  where
    both : (p q : Bool) → asks_of Uncut ((if p then [] else header_write (ring_zone l Pmsg) empty_words ∷ [])
        ++ (if q then [] else header_write (ring_zone l Console) empty_words ∷ []))
        ≡ length ((if p then [] else header_write (ring_zone l Pmsg) empty_words ∷ [])
        ++ (if q then [] else header_write (ring_zone l Console) empty_words ∷ []))
    both true true = refl
    both true false = refl
    both false true = refl
    both false false = refl

pub uncut-stays : (ws : List Write) (d : BlkCut) (old new : Device) → FailsWithin ws ws Uncut d old new
    → FailsWithin ws ws Uncut Uncut old new
uncut-stays ws d old new p = subst (λ (c : BlkCut). FailsWithin ws ws Uncut c old new) p.cut p

-- behind a reading that left all
pub fails-behind : (ws : List Write) (before old new : Device) → old ≡ before
    → FailsWithin ws ws Uncut Uncut old new → FailsWithin ws ws Uncut Uncut before new
fails-behind ws before old new e p = subst (λ (d : Device). FailsWithin ws ws Uncut Uncut d new) e p

pub load-writes : (l : BlkLayout) (pmsg console : BlkZone) → pmsg ≡ ring_zone l Pmsg → console ≡ ring_zone l Console
    → clearing pmsg ++ clearing console ≡ load_writes l
unfolding load_writes
load-writes l pmsg console p c = ap (λ (z : BlkZone). clearing z ++ clearing console) p
    ∙ ap (λ (z : BlkZone). clearing (ring_zone l Pmsg) ++ clearing z) c

-- a loading that read not all
pub load-refused : (fault : BlkFault) (l : BlkLayout) (f f' r r' : ℕ) (old new : Device)
    → ReadEnds {T = BlkState} (Err fault) f f' r r' → new.holds ≡ old.holds → new.writes ≡ old.writes
    → Loads (Err fault) l old new
load-refused StoreFault l f f' r r' old new h e w = inl (e, w)
load-refused Memory l f f' r r' old new h e w = (e, w)
load-refused NoZone l f f' r r' old new h e w = absurd h
load-refused NoRecord l f f' r r' old new h e w = absurd h

pub room_loads : (r : Result BlkState BlkFault) (l : BlkLayout) (old new : Device) → Loads r l old new
    → (n : ℕ) → HasRoom n old.holds → HasRoom n new.holds
room_loads (Ok b) l old new h n room = room-after n (load_writes l) old.holds new.holds h.2 room
room_loads (Err StoreFault) l old new (inl quiet) n room = subst (HasRoom n) (sym quiet.0) room
room_loads (Err StoreFault) l old new (inr f) n room =
    room-after n (first_bytes f.kept (load_writes l)) old.holds new.holds f.store room
room_loads (Err Memory) l old new h n room = subst (HasRoom n) (sym h.0) room
room_loads (Err NoZone) l old new h n room = absurd h
room_loads (Err NoRecord) l old new h n room = absurd h

same-room : (n : ℕ) (before now : Device) → now ≡ before → HasRoom n before.holds → HasRoom n now.holds
same-room n before now e room = subst (λ (d : Device). HasRoom n d.holds) (sym e) room

pub room_answers : (r : Result Unit BlkFault) (refusal : Option BlkFault) (ws pieces : List Write)
    (next old new : BlkState) (before now : Device) → Answers r refusal ws pieces next old new before now
    → (n : ℕ) → HasRoom n before.holds → HasRoom n now.holds
room_answers (Ok done) refusal ws pieces next old new before now h n room =
    room-after n (reaching old.cut ws) before.holds now.holds h.1.store room
room_answers (Err StoreFault) refusal ws pieces next old new before now h n room =
    room-after n (first_bytes h.1.kept ws) before.holds now.holds h.1.store room
room_answers (Err Memory) refusal ws pieces next old new before now h n room = same-room n before now h.2 room
room_answers (Err NoZone) refusal ws pieces next old new before now h n room = same-room n before now h.2 room
room_answers (Err NoRecord) refusal ws pieces next old new before now h n room = same-room n before now h.2 room

pub layout_answers : (r : Result Unit BlkFault) (refusal : Option BlkFault) (ws pieces : List Write)
    (next old new : BlkState) (before now : Device) → Answers r refusal ws pieces next old new before now
    → next.layout ≡ old.layout → new.layout ≡ old.layout
layout_answers (Ok done) refusal ws pieces next old new before now h e = ap (λ (b : BlkState). b.layout) h.2 ∙ e
layout_answers (Err StoreFault) refusal ws pieces next old new before now h e = ap (λ (b : BlkState). b.layout) h.2
layout_answers (Err Memory) refusal ws pieces next old new before now h e = ap (λ (b : BlkState). b.layout) h.1
layout_answers (Err NoZone) refusal ws pieces next old new before now h e = ap (λ (b : BlkState). b.layout) h.1
layout_answers (Err NoRecord) refusal ws pieces next old new before now h e = ap (λ (b : BlkState). b.layout) h.1

pub room-makes : (ws pieces : List Write) (c d : BlkCut) (old new : Device) → Makes ws pieces c d old new → (n : ℕ)
    → HasRoom n old.holds → HasRoom n new.holds
room-makes ws pieces c d old new p n h = room-after n (reaching c ws) old.holds new.holds p.store h

pub room-fails : (ws pieces : List Write) (c d : BlkCut) (old new : Device) → FailsWithin ws pieces c d old new
    → (n : ℕ) → HasRoom n old.holds → HasRoom n new.holds
room-fails ws pieces c d old new p n h = room-after n (first_bytes p.kept ws) old.holds new.holds p.store h
