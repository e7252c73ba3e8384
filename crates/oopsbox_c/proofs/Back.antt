-- A number stands for the value that it was made of
use Rattle.std.proofs.Common.{◌≡◌, refl, ap, ◌∙◌}
use Rattle.zone_spec.specs.declared.Zone.{Zone}
use Rattle.zone_spec.specs.declared.CallKind.{CallKind}
use Rattle.zone_spec.specs.declared.CallKind.TheVariants.{Append, Erase, Dump}
use Rattle.store_steps.specs.declared.place.Leg.{Leg}
use Rattle.store_steps.specs.declared.place.Leg.TheVariants.{Erasure, Payload, Line, Body}
use Rattle.store_steps.specs.declared.place.Phase.{Phase}
use Rattle.store_steps.specs.declared.place.Phase.TheVariants.{ZeroStart, ZeroSize, Size, Start, First, FirstParity}
use Rattle.store_steps.specs.declared.place.Phase.TheVariants.{Second, SecondParity, Header, Finished}
use Rattle.store_steps.specs.declared.steps.Steps.{Steps}
use Rattle.zone_boot.specs.declared.boots.Boot.{Boot}
use Rattle.zone_boot.specs.declared.boots.Phase.{Phase as BootPhase}
use Rattle.zone_boot.specs.declared.boots.Phase.TheVariants.{Header as BootHeader, Blocks, Signature}
use Rattle.zone_boot.specs.declared.boots.Phase.TheVariants.{Start as BootStart, Size as BootSize, Parity}
use Rattle.zone_boot.specs.declared.boots.Phase.TheVariants.{Finished as BootFinished}
use Rattle.zone_boot.specs.declared.deciding.Erasure.{Erasure as BootErasure}
use Rattle.zone_boot.specs.declared.deciding.Erasure.TheVariants.{Kept, Erased, Signed}
use Rattle.oopsbox_c.specs.BootNumbers.{erasure_in, erasure_number, phase_in as boot_phase_in}
use Rattle.oopsbox_c.specs.BootNumbers.{phase_number as boot_phase_number}
use Rattle.oopsbox_c.specs.Numbers.{call_in, call_number, leg_in, leg_number, phase_in, phase_number}

pub call_back : (k : CallKind) → call_in (call_number k) ≡ k
call_back Append = refl
call_back Erase = refl
call_back Dump = refl

pub leg_back : (l : Leg) → leg_in (leg_number l) ≡ l
leg_back Erasure = refl
leg_back Payload = refl
leg_back Line = refl
leg_back Body = refl

pub phase_back : (p : Phase) → phase_in (phase_number p) ≡ p
phase_back ZeroStart = refl
phase_back ZeroSize = refl
phase_back Size = refl
phase_back Start = refl
phase_back First = refl
phase_back FirstParity = refl
phase_back Second = refl
phase_back SecondParity = refl
phase_back Header = refl
phase_back Finished = refl

abbrev pub remade : Steps → Zone → CallKind → Leg → Phase → Steps
remade s z k l p = record s { zone = z; kind = k; place = record s.place { leg = l; phase = p } }

pub joined : (s : Steps) (z : Zone) (k : CallKind) (l : Leg) (p : Phase) → z ≡ s.zone → k ≡ s.kind
    → l ≡ s.place.leg → p ≡ s.place.phase → remade s z k l p ≡ s
joined s z k l p ez ek el ep =
    ap (λ x. remade s x k l p) ez
    ∙ ap (λ x. remade s s.zone x l p) ek
    ∙ ap (λ x. remade s s.zone s.kind x p) el
    ∙ ap (λ x. remade s s.zone s.kind s.place.leg x) ep

pub boot_phase_back : (p : BootPhase) → boot_phase_in (boot_phase_number p) ≡ p
boot_phase_back BootHeader = refl
boot_phase_back Blocks = refl
boot_phase_back Signature = refl
boot_phase_back BootStart = refl
boot_phase_back BootSize = refl
boot_phase_back Parity = refl
boot_phase_back BootFinished = refl

pub erasure_back : (e : BootErasure) → erasure_in (erasure_number e) ≡ e
erasure_back Kept = refl
erasure_back Erased = refl
erasure_back Signed = refl

pub boot_joined : (b : Boot) (z : Zone) (p : BootPhase) (e : BootErasure) → z ≡ b.zone → p ≡ b.phase → e ≡ b.erasure
    → record b { zone = z; phase = p; erasure = e } ≡ b
boot_joined b z p e ez ep ee =
    ap (λ x. record b { zone = x; phase = p; erasure = e }) ez
    ∙ ap (λ x. record b { phase = x; erasure = e }) ep
    ∙ ap (λ x. record b { erasure = x }) ee
