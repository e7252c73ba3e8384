-- What a flight leaves is the same on images that differ in parity alone, and comes in turn
use Rattle.std.proofs.Common.{◌≡◌, ℕ, ◌+◌, ◌<◌, List, [], ◌∷◌, ◌++◌, length, drop, get_or, refl, sym, ap, ap₂, ◌∙◌}
use Rattle.std.proofs.Common.{subst, arith, inl, inr, get_or-take, append_assoc}
use Rattle.code_spec.specs.Code.{parity_of}
use Rattle.zone_spec.specs.declared.Zone.{Zone}
use Rattle.zone_spec.specs.Parts.{AreBytes, Part, Header, Block, part_bytes, part_at, part_len, part_parity_at}
use Rattle.zone_spec.specs.Stores.{Store, put, after_stores, byte_stores}
use Rattle.zone_spec.specs.Stages.{Stage, SigWord, StartWord, SizeWord, Run, ParityOf, stage_stores, stores_in_turn}
use Rattle.ring_laws.proofs.Images.{after_stores-append, length-after_stores}
use Rattle.ring_laws.proofs.PartsLaw.{SameData, SameData-put, part_end, slice_range-same}
use Rattle.store_steps.specs.declared.steps.Steps.{Steps}
use Rattle.store_steps.specs.declared.place.Phase.{Phase}
use Rattle.store_steps.specs.declared.place.Phase.TheVariants.{ZeroStart, ZeroSize, Size, Start, First, FirstParity}
use Rattle.store_steps.specs.declared.place.Phase.TheVariants.{Second, SecondParity, Header as HeaderPhase, Finished}
use Rattle.store_steps.specs.Flying.{Flying, flying}
use Rattle.store_steps.specs.Machine.{IsSameData, stores_of, behind, stores_left}
use Rattle.oopsbox_c.specs.Stores.{stores_in}
use Rattle.oopsbox_c.specs.Gathered.{IsComing}
use Rattle.oopsbox_c.specs.declared.stores.Stores.{Stores}

-- ---- images with the same data

same_after : (z : Zone) (x y : List ℕ) (ss : List Store) → SameData z x y
    → SameData z (after_stores x ss) (after_stores y ss)
unfolding after_stores
same_after z x y [] same = same
same_after z x y (s ∷ ss) same =
    same_after z (put x s.place s.bytes) (put y s.place s.bytes) ss (SameData-put s.place s.bytes same)

part_same : (z : Zone) (x y : List ℕ) (p : Part) → 0 < z.cap → SameData z x y → part_bytes z x p ≡ part_bytes z y p
unfolding part_bytes
part_same z x y p some same =
    slice_range-same x y (part_at z p) (part_at z p + part_len z p) same.total
    (λ i low high. same.each i (elim (part_end z p some) [
      | inl within ↦ omega (arith, within, high)
      | inr none ↦ absurd (omega (arith, none, low, high))
    ]))

stage_same : (z : Zone) (g : Stage) (x y : List ℕ) → 0 < z.cap → SameData z x y → stage_stores z g x ≡ stage_stores z g y
unfolding stage_stores
stage_same z (SigWord n) x y some same = refl
stage_same z (StartWord n) x y some same = refl
stage_same z (SizeWord n) x y some same = refl
stage_same z (Run place bytes) x y some same = refl
stage_same z (ParityOf p) x y some same =
    ap (λ (bs : List ℕ). byte_stores (part_parity_at z p) (parity_of z.parity bs)) (part_same z x y p some same)

-- the same stores leave the same data
turn_same : (z : Zone) (x y : List ℕ) (xs ys : List Store) → xs ≡ ys → SameData z x y
    → SameData z (after_stores x xs) (after_stores y ys)
turn_same z x y xs ys e same =
    subst (λ (ss : List Store). SameData z (after_stores x xs) (after_stores y ss)) e (same_after z x y xs same)

stages_same : (z : Zone) (gs : List Stage) (x y : List ℕ) → 0 < z.cap → SameData z x y
    → stores_in_turn z gs x ≡ stores_in_turn z gs y
unfolding stores_in_turn
stages_same z [] x y some same = refl
stages_same z (g ∷ gs) x y some same =
    let e : stage_stores z g x ≡ stage_stores z g y = stage_same z g x y some same in
    ap₂ (λ (u v : List Store). u ++ v) e
    (stages_same z gs (after_stores x (stage_stores z g x)) (after_stores y (stage_stores z g y)) some
    (turn_same z x y (stage_stores z g x) (stage_stores z g y) e same))

phase_same : (f : Flying) (x y : List ℕ) (p : Phase) → 0 < f.zone.cap → SameData f.zone x y
    → stores_of f x p ≡ stores_of f y p
phase_same f x y ZeroStart some same = refl
phase_same f x y ZeroSize some same = refl
phase_same f x y Size some same = refl
phase_same f x y Start some same = refl
phase_same f x y First some same = refl
phase_same f x y FirstParity some same = stage_same f.zone (ParityOf (Block f.place.block)) x y some same
phase_same f x y Second some same = refl
phase_same f x y SecondParity some same = stage_same f.zone (ParityOf (Block f.place.block)) x y some same
phase_same f x y HeaderPhase some same = stage_same f.zone (ParityOf Header) x y some same
phase_same f x y Finished some same = refl

left_same : (f : Flying) (x y : List ℕ) → 0 < f.zone.cap → SameData f.zone x y → stores_left f x ≡ stores_left f y
unfolding stores_left
left_same f x y some same =
    let xs : List Store = drop f.place.number (stores_of f x f.place.phase) in
    let ys : List Store = drop f.place.number (stores_of f y f.place.phase) in
    let e : xs ≡ ys = ap (λ (ss : List Store). drop f.place.number ss) (phase_same f x y f.place.phase some same) in
    ap₂ (λ (u v : List Store). u ++ v) e
    (stages_same f.zone (behind f f.place.phase) (after_stores x xs) (after_stores y ys) some
    (turn_same f.zone x y xs ys e same))

-- ---- stores that come next to an image come next also where parity was stored before

same_front : (z : Zone) (x y : List ℕ) → length x ≡ length y → IsSameData z x y → SameData z x y
same_front z x y len same = record {
  total = len;
  each = λ i h. sym (get_or-take (12 + z.cap) x i 0 h) ∙ ap (λ (xs : List ℕ). get_or xs i 0) same
      ∙ get_or-take (12 + z.cap) y i 0 h;
}

pub next_there : (f g : Flying) (image : List ℕ) (before more : List Store) → 0 < f.zone.cap → g.zone ≡ f.zone
    → IsSameData f.zone (after_stores image before) image
    → stores_left f image ≡ more ++ stores_left g (after_stores image more)
    → stores_left f (after_stores image before) ≡ more ++ stores_left g (after_stores (after_stores image before) more)
next_there f g image before more some zone apart next =
    let now : List ℕ = after_stores image before in
    let same : SameData f.zone now image = same_front f.zone now image (length-after_stores image before) apart in
    let behind_same : SameData g.zone (after_stores now more) (after_stores image more) =
    subst (λ (z : Zone). SameData z (after_stores now more) (after_stores image more)) (sym zone)
    (same_after f.zone now image more same) in
    left_same f now image some same ∙ next
    ∙ ap (λ (ss : List Store). more ++ ss) (sym (left_same g (after_stores now more) (after_stores image more)
    (subst (λ (z : Zone). 0 < z.cap) (sym zone) some) behind_same))

-- ---- an answer, store by store

pub coming_yet : (image line payload : List ℕ) (s : Steps) (out : Stores) → stores_in out line payload ≡ []
    → AreBytes image → IsComing (stores_left (flying s line payload) image) image line payload s out
unfolding after_stores
coming_yet image line payload s out none bytes = record {
  bytes = subst (λ (ss : List Store). AreBytes (after_stores image ss)) (sym none) bytes;
  whole = ap (λ (ss : List Store). ss ++ stores_left (flying s line payload) (after_stores image ss)) (sym none);
}

pub coming_more : (all : List Store) (image line payload : List ℕ) (s t : Steps) (out new : Stores) (more : List Store)
    → IsComing all image line payload s out → stores_in new line payload ≡ stores_in out line payload ++ more
    → AreBytes (after_stores (after_stores image (stores_in out line payload)) more)
    → stores_left (flying s line payload) (after_stores image (stores_in out line payload))
    ≡ more ++ stores_left (flying t line payload)
    (after_stores (after_stores image (stores_in out line payload)) more)
    → IsComing all image line payload t new
coming_more all image line payload s t out new more was whole bytes next =
    let xs : List Store = stores_in out line payload in
    let image_is : after_stores image (stores_in new line payload) ≡ after_stores (after_stores image xs) more =
    ap (after_stores image) whole ∙ after_stores-append image xs more in
    record {
      bytes = subst AreBytes (sym image_is) bytes;
      whole = was.whole ∙ ap (λ (ss : List Store). xs ++ ss) next
          ∙ sym (append_assoc xs more (stores_left (flying t line payload) (after_stores (after_stores image xs) more)))
          ∙ ap₂ (λ (ss : List Store) (x : List ℕ). ss ++ stores_left (flying t line payload) x) (sym whole)
          (sym image_is);
    }

pub same_steps : (begun s t ended : Steps) (image line payload : List ℕ) (out : List Store) → s ≡ begun → ended ≡ t
    → stores_left (flying s line payload) image ≡ out ++ stores_left (flying t line payload) (after_stores image out)
    → stores_left (flying begun line payload) image
    ≡ out ++ stores_left (flying ended line payload) (after_stores image out)
same_steps begun s t ended image line payload out first last coming =
    ap (λ (x : Steps). stores_left (flying x line payload) image) (sym first) ∙ coming
    ∙ ap (λ (x : Steps). out ++ stores_left (flying x line payload) (after_stores image out)) (sym last)
