-- A change of one zone of the machine is that of the zone of the state for which it stands
use Rattle.std.proofs.Common.{◌≡◌, ℕ, suc, ◌+◌, ◌%◌, ◌<◌, Bool, cond, ◌&&◌, ◌||◌, not, is_some, List, [], ◌∷◌, length}
use Rattle.std.proofs.Common.{slice_get, set, refl, sym, ap, ◌∙◌, subst, arith, inl, inr, Some, length-set}
use Rattle.std.specs.Prelude.{zip}
use Rattle.std.specs.List.{list_any}
use Rattle.zone_spec.specs.declared.Zone.{Zone}
use Rattle.prz_region.specs.CutRegion.{CutRegion, span, stored}
use Rattle.prz_region.proofs.Cuts.{span-stored}
use Rattle.machine_spec.specs.Zones.{dump_zones}
use Rattle.machine_spec.specs.States.{LiveZone, LiveState}
use Rattle.machine_spec.specs.LiveZones.{flies_dump, with_zone}
use Rattle.machine_laws.proofs.Lists.{get-set}
use Rattle.ramoops.proofs.Lists.{get-same, get-other}
use Rattle.ramoops.specs.declared.zones.HeldZone.{HeldZone}
use Rattle.ramoops.specs.LiveSeen.{LiveSeen, StandsForZone, StandsLive}
use Rattle.ramoops.specs.Made.{StoresIn}

-- the machine after a change of its i-th zone
pub record Changes (v w : LiveSeen) (i : ℕ) (bytes : List ℕ) (held : HeldZone) : Type 0 where
  pub layout : w.layout ≡ v.layout
  pub mem : w.mem ≡ v.mem
  pub spans : w.spans.spans ≡ set v.spans.spans i bytes
  pub rest : w.spans.rest ≡ v.spans.rest
  pub zones : w.zones ≡ set v.zones i held

pub changed_stands : (layout : List Zone) (mem : ℕ) (v w : LiveSeen) (s : LiveState) (i : ℕ) (z : Zone)
    (bytes : List ℕ) (held : HeldZone) (old new : LiveZone)
    → StandsLive layout mem v s → slice_get layout i ≡ Some z → slice_get s.zones i ≡ Some old
    → Changes v w i bytes held → StandsForZone z bytes held new
    → w.cursor ≡ (cond (flies_dump old.flight && not (is_some new.flight)) ((v.cursor + 1) % dump_zones layout)
    v.cursor) → StandsLive layout mem w (with_zone layout s i old new)
changed_stands layout mem v w s i z bytes held old new stands hz hs ch zone turn = record {
  same_layout = ch.layout ∙ stands.same_layout;
  same_mem = ch.mem ∙ stands.same_mem;
  spans = ap length ch.spans ∙ length-set v.spans.spans i bytes ∙ stands.spans;
  kept = ap length ch.zones ∙ length-set v.zones i held ∙ stands.kept;
  count = length-set s.zones i new ∙ stands.count;
  zones = λ j y b h l gy gb gh gl. by j y b h l gy (subst (λ (xs : List (List ℕ)). slice_get xs j ≡ Some b)
      ch.spans gb) (subst (λ (hs : List HeldZone). slice_get hs j ≡ Some h) ch.zones gh) gl;
  rest = stands.rest ∙ sym ch.rest;
  cursor = ap (λ (n : ℕ). cond (flies_dump old.flight && not (is_some new.flight)) ((n + 1) % dump_zones layout) n)
      stands.cursor ∙ sym turn;
}
  where
    by : (j : ℕ) (y : Zone) (b : List ℕ) (h : HeldZone) (l : LiveZone) → slice_get layout j ≡ Some y
        → slice_get (set v.spans.spans i bytes) j ≡ Some b → slice_get (set v.zones i held) j ≡ Some h
        → slice_get (set s.zones i new) j ≡ Some l → StandsForZone y b h l
    by j y b h l gy gb gh gl = elim (get-set s.zones i j new l gl) [
      | inl a ↦ (let ez : z ≡ y = (let g : Some z ≡ Some y = sym hz ∙ ap (slice_get layout) (sym a.0) ∙ gy in cc) in
          let eb : bytes ≡ b = get-same v.spans.spans i bytes b
          (ap (slice_get (set v.spans.spans i bytes)) (sym a.0) ∙ gb) in
          let eh : held ≡ h = get-same v.zones i held h (ap (slice_get (set v.zones i held)) (sym a.0) ∙ gh) in
          subst (λ (t : Zone). StandsForZone t b h l) ez (subst (λ (t : List ℕ). StandsForZone z t h l) eb
          (subst (λ (t : HeldZone). StandsForZone z bytes t l) eh
          (subst (λ (t : LiveZone). StandsForZone z bytes held t) a.1 zone))))
      | inr o ↦ stands.zones j y b h l gy (get-other v.spans.spans i j bytes b o.0 gb)
          (get-other v.zones i j held h o.0 gh) o.1
    ]

-- stores in one span are a change of it alone
pub only_span : (old new : CutRegion) (i : ℕ) → i < length old.spans → StoresIn i old new
    → new.spans ≡ set old.spans i (span new i)
only_span old new i lt s = ap (λ (c : CutRegion). c.spans) s.made
    ∙ ap (set old.spans i) (sym (ap (λ (c : CutRegion). span c i) s.made ∙ span-stored old i s.stores lt))

-- a test of flights is the same of the machine and of the state
pub any_flies : (test : Zone → Bool) (layout : List Zone) (held : List HeldZone) (live : List LiveZone)
    → length held ≡ length layout → length live ≡ length layout
    → ((i : ℕ) (z : Zone) (h : HeldZone) (l : LiveZone) → slice_get layout i ≡ Some z → slice_get held i ≡ Some h
    → slice_get live i ≡ Some l → is_some h.flight ≡ is_some l.flight)
    → list_any (λ (pair : Zone × HeldZone). test pair.0 && is_some pair.1.flight) (zip layout held)
    ≡ list_any (λ (pair : Zone × LiveZone). test pair.0 && is_some pair.1.flight) (zip layout live)
any_flies test [] held live a b same = refl
any_flies test (z ∷ zs) [] live a b same = absurd (omega (arith, a))
any_flies test (z ∷ zs) (h ∷ hs) [] a b same = absurd (omega (arith, b))
any_flies test (z ∷ zs) (h ∷ hs) (l ∷ ls) a b same =
    ap (λ (t : Bool). (test z && t) || list_any (λ (pair : Zone × HeldZone). test pair.0 && is_some pair.1.flight)
    (zip zs hs)) (same 0 z h l refl refl refl)
    ∙ ap (λ (t : Bool). (test z && is_some l.flight) || t)
    (any_flies test zs hs ls (omega (arith, a)) (omega (arith, b))
    (λ i y g m ey eg em. same (suc i) y g m ey eg em))
