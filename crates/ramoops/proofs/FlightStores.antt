-- A flight's next stores are those of the flight for which it stands
use Rattle.std.proofs.Common.{◌≡◌, ◌≢◌, ℕ, ◌+◌, ◌<◌, ◌≤◌, min, Bool, true, false, cond, nat_lt, ◌&&◌, not, is_some}
use Rattle.std.proofs.Common.{List, length, take, drop, refl, sym, ap, ap₂, ◌∙◌, arith, Option, Some, None}
use Rattle.std.proofs.lemmas.Bool.Decides.{nat_tests}
use Rattle.std.proofs.Math.Bool.{and-false}
use Rattle.circular_buffer.specs.Buffer.{Buffer, buffer}
use Rattle.zone_spec.specs.declared.Zone.{Zone}
use Rattle.zone_spec.specs.declared.CallKind.{CallKind}
use Rattle.zone_spec.specs.Told.{Call, Append, Erase, Dump, kind_of, told_after}
use Rattle.zone_spec.specs.Calls.{call_stores, image_after}
use Rattle.machine_spec.specs.States.{Flight, LiveZone}
use Rattle.machine_spec.specs.ZoneCalls.{stepped, stepped_by, total_stores}
use Rattle.machine_spec.specs.LiveZones.{is_dump, flies_dump}
use Rattle.store_steps.specs.Flying.{Flying, IsSameCall}
use Rattle.store_steps.specs.Counts.{total_of}
use Rattle.store_steps.specs.Machine.{StandsFor}
use Rattle.store_steps.proofs.FlightImage.{stands_image}
use Rattle.store_steps.proofs.FlightSteps.{total_same}
use Rattle.prz_region.specs.CutRegion.{CutRegion, span, stored as region_stored}
use Rattle.prz_region.proofs.Cuts.{stored-none}
use Rattle.ramoops.specs.Made.{next_of}
use Rattle.ramoops.specs.LiveSeen.{StandsForFlight, StandsForSome, StandsForZone}
use Rattle.ramoops.specs.Storing.{is_dump_kind}

-- what k stores, or all that are left, make of a flight and of its zone's bytes
pub record Steps (k : ℕ) (f g : Flying) (old new : List ℕ) : Type 0 where
  pub left : f.made < total_of f
  pub same : IsSameCall f g
  pub made : g.made ≡ min (f.made + k) (total_of f)
  pub stands : (before : List ℕ) → StandsFor f old before → StandsFor g new before

more_left : (a k t g : ℕ) → nat_lt (a + k) t ≡ true → g ≡ min (a + k) t → (g ≡ a + k) × (a + k < t)
more_left a k t g e m = let l : a + k < t = grind (arith, nat_tests) in (omega (arith, l, m), l)

none_left : (a k t g : ℕ) → nat_lt (a + k) t ≡ false → g ≡ min (a + k) t → g ≡ t
none_left a k t g e m = let l : t ≤ a + k = grind (arith, nat_tests) in omega (arith, l, m)

-- a flight counts as many stores as that for which it stands has
pub flight_total : (z : Zone) (bytes : List ℕ) (f : Flying) (h : Flight) → StandsForFlight z bytes f h
    → total_of f ≡ total_stores z h
flight_total z bytes f h s =
    s.image.total ∙ ap (λ (y : Zone). length (call_stores y f.call h.image)) s.zone
    ∙ ap (λ (c : Call). length (call_stores z c h.image)) s.call

module _ (k : ℕ) (z : Zone) (f g : Flying) (old new : List ℕ) (steps : Steps k f g old new) where
  image_is : (h : Flight) → StandsForFlight z old f h → image_after z h.call h.image g.made ≡ new
  image_is h s =
      ap (λ (c : Call). image_after z c h.image g.made) (sym s.call ∙ sym steps.same.call)
      ∙ ap (λ (y : Zone). image_after y g.call h.image g.made) (sym s.zone ∙ sym steps.same.zone)
      ∙ sym (stands_image g new h.image (steps.stands h.image s.image))

  total_is : (h : Flight) → StandsForFlight z old f h → total_of g ≡ total_stores z h
  total_is h s = total_same steps.same ∙ flight_total z old f h s

  made_is : (h : Flight) → StandsForFlight z old f h → g.made ≡ min (h.made + k) (total_stores z h)
  made_is h s = steps.made ∙ ap (λ (n : ℕ). min (n + k) (total_of f)) s.made
      ∙ ap (min (h.made + k)) (flight_total z old f h s)

  -- stores are left
  goes_on : (h : Flight) → StandsForFlight z old f h → nat_lt (h.made + k) (total_stores z h) ≡ true
      → (g.made ≡ h.made + k) × (g.made ≢ total_of g)
  goes_on h s e =
      let m = more_left h.made k (total_stores z h) g.made e (made_is h s) in
      (m.0, λ all. omega (arith, m.0, m.1, all, total_is h s))

  -- none is
  comes_to_end : (h : Flight) → StandsForFlight z old f h → nat_lt (h.made + k) (total_stores z h) ≡ false
      → g.made ≡ total_stores z h
  comes_to_end h s e = none_left h.made k (total_stores z h) g.made e (made_is h s)

  -- with stores left the flight goes on
  stored_in : (held : Buffer ℕ) (live : LiveZone) (h : Flight) (t : Bool)
      → StandsForZone z old (record { told = held; flight = Some f }) live → StandsForFlight z old f h
      → g.made ≢ total_of g → nat_lt (h.made + k) (total_stores z h) ≡ t
      → StandsForZone z new (record { told = held; flight = Some g })
      (cond t (record live {
        image = image_after z h.call h.image (h.made + k);
        flight = Some (record h { made = h.made + k });
      })
      (record {
        image = image_after z h.call h.image (total_stores z h);
        told = told_after z.cap h.call live.told;
        flight = None;
      }))
  stored_in held live h true stands s some e = record {
    image = ap (λ (n : ℕ). image_after z h.call h.image n) (sym (goes_on h s e).0) ∙ image_is h s;
    told = stands.told;
    flight = record {
      zone = steps.same.zone ∙ s.zone;
      call = steps.same.call ∙ s.call;
      made = (goes_on h s e).0;
      image = steps.stands h.image s.image;
    };
  }
  stored_in held live h false stands s some e = absurd (some (comes_to_end h s e ∙ sym (total_is h s)))

  stored_by : (held : Buffer ℕ) (live : LiveZone) (o : Option Flight)
      → StandsForZone z old (record { told = held; flight = Some f }) live → StandsForSome z old (Some f) o
      → g.made ≢ total_of g → StandsForZone z new (record { told = held; flight = Some g }) (stepped_by o z k live)
  stored_by held live None stands s some = absurd s
  stored_by held live (Some h) stands s some = stored_in held live h _ stands s some refl

  pub stored : (held : Buffer ℕ) (live : LiveZone) → StandsForZone z old (record { told = held; flight = Some f })
      live → g.made ≢ total_of g
      → StandsForZone z new (record { told = held; flight = Some g }) (stepped z k live)
  stored held live stands some = stored_by held live live.flight stands stands.flight some

  -- with the last store the flight is gone, and the list is told
  ended_in : (held : Buffer ℕ) (told : List ℕ) (live : LiveZone) (h : Flight) (t : Bool) → held.capacity ≡ z.cap
      → StandsForZone z old (record { told = held; flight = Some f }) live
      → StandsForFlight z old f h → g.made ≡ total_of g → told ≡ told_after held.capacity g.call held.items
      → nat_lt (h.made + k) (total_stores z h) ≡ t
      → StandsForZone z new (record { told = buffer told held.capacity; flight = None })
      (cond t (record live {
        image = image_after z h.call h.image (h.made + k);
        flight = Some (record h { made = h.made + k });
      })
      (record {
        image = image_after z h.call h.image (total_stores z h);
        told = told_after z.cap h.call live.told;
        flight = None;
      }))
  ended_in held told live h true room stands s all e test = absurd ((goes_on h s test).1 all)
  ended_in held told live h false room stands s all e test = record {
    image = ap (λ (n : ℕ). image_after z h.call h.image n) (sym (comes_to_end h s test)) ∙ image_is h s;
    told =
        ap (λ (n : ℕ). told_after n h.call live.told) (sym room)
        ∙ ap (λ (c : Call). told_after held.capacity c live.told) (sym s.call ∙ sym steps.same.call)
        ∙ ap (λ (xs : List ℕ). told_after held.capacity g.call xs) stands.told ∙ sym e;
    flight = tt;
  }

  ended_by : (held : Buffer ℕ) (told : List ℕ) (live : LiveZone) (o : Option Flight) → held.capacity ≡ z.cap
      → StandsForZone z old (record { told = held; flight = Some f }) live
      → StandsForSome z old (Some f) o → g.made ≡ total_of g → told ≡ told_after held.capacity g.call held.items
      → StandsForZone z new (record { told = buffer told held.capacity; flight = None }) (stepped_by o z k live)
  ended_by held told live None room stands s all e = absurd s
  ended_by held told live (Some h) room stands s all e = ended_in held told live h _ room stands s all e refl

  pub ended : (held : Buffer ℕ) (told : List ℕ) (live : LiveZone) → held.capacity ≡ z.cap
      → StandsForZone z old (record { told = held; flight = Some f }) live → g.made ≡ total_of g
      → told ≡ told_after held.capacity g.call held.items
      → StandsForZone z new (record { told = buffer told held.capacity; flight = None }) (stepped z k live)
  ended held told live room stands all e = ended_by held told live live.flight room stands stands.flight all e

  -- a dump's last store is a flight's last, whose call is a dump
  pub dump_kind : (c : Call) → is_dump c ≡ is_dump_kind (kind_of c)
  dump_kind (Append payload) = refl
  dump_kind Erase = refl
  dump_kind (Dump line body) = refl

  -- whether a flight of a dump ends by a step, if the test that it goes on says `t`
  abbrev turns : Flight → LiveZone → Bool → Bool
  turns h live t = is_dump h.call && not (is_some (LiveZone.flight (cond t (record live {
    image = image_after z h.call h.image (h.made + k);
    flight = Some (record h { made = h.made + k });
  }) (record {
    image = image_after z h.call h.image (total_stores z h);
    told = told_after z.cap h.call live.told;
    flight = None;
  }))))

  not_last : (live : LiveZone) (o : Option Flight) → StandsForSome z old (Some f) o → g.made ≢ total_of g
      → (flies_dump o && not (is_some (stepped_by o z k live).flight)) ≡ false
  not_last live None s some = absurd s
  not_last live (Some h) s some = by (nat_lt (h.made + k) (total_stores z h)) refl
    where
      by : (t : Bool) → nat_lt (h.made + k) (total_stores z h) ≡ t → turns h live t ≡ false
      by true e = and-false (is_dump h.call)
      by false e = absurd (some (comes_to_end h s e ∙ sym (total_is h s)))

  pub no_last : (live : LiveZone) → StandsForSome z old (Some f) live.flight → g.made ≢ total_of g
      → (flies_dump live.flight && not (is_some (stepped z k live).flight)) ≡ false
  no_last live s some = not_last live live.flight s some

  is_last : (live : LiveZone) (kind : CallKind) (o : Option Flight) → StandsForSome z old (Some f) o
      → g.made ≡ total_of g → kind ≡ kind_of g.call
      → (flies_dump o && not (is_some (stepped_by o z k live).flight)) ≡ is_dump_kind kind
  is_last live kind None s all e = absurd s
  is_last live kind (Some h) s all e = by (nat_lt (h.made + k) (total_stores z h)) refl
    where
      whole : (b : Bool) → (b && true) ≡ b
      whole true = refl
      whole false = refl

      by : (t : Bool) → nat_lt (h.made + k) (total_stores z h) ≡ t → turns h live t ≡ is_dump_kind kind
      by true test = absurd ((goes_on h s test).1 all)
      by false test = whole (is_dump h.call) ∙ dump_kind h.call
          ∙ ap (λ (c : Call). is_dump_kind (kind_of c)) (sym s.call ∙ sym steps.same.call) ∙ ap is_dump_kind (sym e)

  pub last_is : (live : LiveZone) (kind : CallKind) → StandsForSome z old (Some f) live.flight → g.made ≡ total_of g
      → kind ≡ kind_of g.call
      → (flies_dump live.flight && not (is_some (stepped z k live).flight)) ≡ is_dump_kind kind
  last_is live kind s all e = is_last live kind live.flight s all e

-- the next stores of a flight are those of the flight for which it stands
pub next_made : (z : Zone) (k i : ℕ) (old new : CutRegion) (f : Flying) (p : Option Flight)
    → StandsForSome z (span old i) (Some f) p
    → ((before : List ℕ) → StandsFor f (span old i) before
    → new ≡ region_stored old i (take k (drop f.made (call_stores f.zone f.call before))))
    → new ≡ region_stored old i (next_of p z k)
next_made z k i old new f None s made = absurd s
next_made z k i old new f (Some h) s made =
    made h.image s.image
    ∙ ap₂ (λ (y : Zone) (c : Call). region_stored old i (take k (drop f.made (call_stores y c h.image)))) s.zone s.call
    ∙ ap (λ (n : ℕ). region_stored old i (take k (drop n (call_stores z h.call h.image)))) s.made

-- and none where no flight stands
pub none_made : (z : Zone) (k i : ℕ) (old : CutRegion) (o : Option Flying) (p : Option Flight)
    → ((f : Flying) → o ≡ Some f → ⊥)
    → StandsForSome z (span old i) o p → old ≡ region_stored old i (next_of p z k)
none_made z k i old None None e s = sym (stored-none old i)
none_made z k i old None (Some f) e s = absurd s
none_made z k i old (Some f) p e s = absurd (e f refl)
