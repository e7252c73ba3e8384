-- Steps that were begun are on a zone that can be written
use Rattle.std.proofs.Common.{◌≡◌, ℕ, List, sym, subst}
use Rattle.zone_spec.specs.declared.Zone.{Zone}
use Rattle.zone_spec.specs.declared.Words.{Words}
use Rattle.zone_spec.specs.declared.CallKind.{CallKind}
use Rattle.zone_spec.specs.Parts.{standing_words}
use Rattle.zone_spec.specs.Reading.{IsRing}
use Rattle.store_steps.specs.declared.steps.Steps.{Steps}
use Rattle.store_steps.specs.Calls.{call_of, IsOpenFor}
use Rattle.store_steps.specs.Flying.{flying}
use Rattle.store_steps.specs.Machine.{IsKept}
use Rattle.oopsbox_c.specs.Flights.{CanBeWritten}

pub written : (s : Steps) (z : Zone) (k : CallKind) (image line payload : List ℕ) → s.zone ≡ z → s.kind ≡ k
    → standing_words s.zone image ≡ s.words → (standing_words z image).sig ≡ z.sig → IsKept (flying s line payload)
    → CanBeWritten z (call_of k line payload) image
written s z k image line payload ez ek stood sig kept =
    let words : standing_words z image ≡ s.words = subst (λ (x : Zone). standing_words x image ≡ s.words) ez stood in
    record {
      sig = sig;
      ring = subst (λ (w : Words). IsRing w z.cap) (sym words) (subst (λ (x : Zone). IsRing s.words x.cap) ez kept.ring);
      is_open = subst (λ (w : Words). IsOpenFor (call_of k line payload) w z.cap) (sym words)
          (subst (λ (x : Zone). IsOpenFor (call_of k line payload) s.words x.cap) ez
          (subst (λ (k : CallKind). IsOpenFor (call_of k line payload) s.words s.zone.cap) ek kept.is_open));
    }
