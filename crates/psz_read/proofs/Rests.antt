-- One step of a loop over zones, blocks or marks: what is left is that at the index, and the rest. For the loops of
-- `parts_in`, `cursor_of`, `order_in`, `marks_in`, `step_after`, `rings_len` and `little_machine`.
use Rattle.std.proofs.Common.{◌≡◌, ℕ, zero, suc, ◌+◌, ◌-◌, ◌*◌, ◌<◌, ◌≤◌, refl, sym, ap, ◌∙◌, arith}
use Rattle.std.proofs.Common.{List, [], ◌∷◌, ◌++◌, length, true, false, take, drop, get_or, append-nil}
use Rattle.std.proofs.Common.{append_assoc}
use Rattle.std.specs.Prelude.{Option, Some, None, slice_get}
use Rattle.std.specs.List.{fold}
use Rattle.std.proofs.lemmas.List.{drop_more, drop_all, take_more}
use Rattle.psz_spec.specs.declared.Kind.{Kind}
use Rattle.psz_spec.specs.declared.Kind.TheVariants.{Dump}
use Rattle.psz_spec.specs.declared.Zone.{Zone}
use Rattle.psz_spec.specs.declared.Machine.{Machine}
use Rattle.psz_spec.specs.declared.Machine.TheVariants.{Aligned}
use Rattle.zone_spec.specs.declared.params.ByteOrder.{ByteOrder}
use Rattle.zone_spec.specs.declared.params.ByteOrder.TheVariants.{Little}
use Rattle.psz_spec.specs.declared.Part.{Part}
use Rattle.psz_spec.specs.declared.Cursor.{Cursor}
use Rattle.psz_spec.specs.declared.Mark.{Mark}
use Rattle.psz_spec.specs.States.{data_of}
use Rattle.psz_spec.specs.Parts.{parts_of, as_list}
use Rattle.psz_spec.specs.Records.{is_of}
use Rattle.psz_spec.specs.Marks.{mark_at, order_at, order_or, order_from, as_marks, marks_from, gcd, step_after}
use Rattle.psz_spec.specs.Marks.{rings_of, machine_shown, machine_or, little_machine}
use Rattle.psz_read.specs.Rests.{part_at}

-- ---- zones

drop_none : (n : ℕ) → drop {A = Zone} n [] ≡ []
drop_none zero = refl
drop_none (suc n) = refl

pub parts_step : (machine : Machine) (image : List ℕ) (zones : List Zone) (i : ℕ)
    → parts_of machine (drop i zones) image
    ≡ as_list (part_at machine (slice_get zones i) image) ++ parts_of machine (drop (i + 1) zones) image
unfolding parts_of
parts_step machine image [] zero = refl
parts_step machine image [] (suc i) =
    ap (λ (zs : List Zone). parts_of machine zs image) (sym (drop_none (suc i + 1)))
parts_step machine image (z ∷ zones) zero = refl
parts_step machine image (z ∷ zones) (suc i) = parts_step machine image zones i
    ∙ ap (λ (n : ℕ). as_list (part_at machine (slice_get zones i) image) ++ parts_of machine (drop n (z ∷ zones)) image)
    (let e : suc (i + 1) ≡ suc i + 1 = omega arith in e)

pub parts_more : (machine : Machine) (image : List ℕ) (zones : List Zone) (i : ℕ) (parts : List Part) (p : Option Part)
    (whole : List Part) → p ≡ part_at machine (slice_get zones i) image
    → parts ++ parts_of machine (drop i zones) image ≡ whole
    → (parts ++ as_list p) ++ parts_of machine (drop (i + 1) zones) image ≡ whole
parts_more machine image zones i parts p whole e h =
    append_assoc parts (as_list p) (parts_of machine (drop (i + 1) zones) image)
    ∙ ap (λ (q : Option Part). parts ++ (as_list q ++ parts_of machine (drop (i + 1) zones) image)) e
    ∙ ap (λ (ps : List Part). parts ++ ps) (sym (parts_step machine image zones i)) ∙ h

pub parts_end : (machine : Machine) (image : List ℕ) (zones : List Zone) (i : ℕ) (parts whole : List Part)
    → length zones ≤ i → parts ++ parts_of machine (drop i zones) image ≡ whole → parts ≡ whole
unfolding parts_of
parts_end machine image zones i parts whole past h =
    sym (append-nil parts)
    ∙ ap (λ (zs : List Zone). parts ++ parts_of machine zs image) (sym (drop_all i zones past)) ∙ h

pub fold_step : (f : Cursor → Zone → Cursor) (c : Cursor) (zones : List Zone) (i : ℕ) (z : Zone)
    → slice_get zones i ≡ Some z → fold f c (drop i zones) ≡ fold f (f c z) (drop (i + 1) zones)
fold_step f c [] i z h = cc
fold_step f c (x ∷ zones) zero z h =
    ap (λ (y : Zone). fold f (f c y) zones) (let e : x ≡ z = cc in e)
fold_step f c (x ∷ zones) (suc i) z h = fold_step f c zones i z h
    ∙ ap (λ (n : ℕ). fold f (f c z) (drop n (x ∷ zones))) (let e : suc (i + 1) ≡ suc i + 1 = omega arith in e)

pub fold_end : (f : Cursor → Zone → Cursor) (c : Cursor) (zones : List Zone) (i : ℕ) → length zones ≤ i
    → fold f c (drop i zones) ≡ c
fold_end f c zones i past = ap (λ (zs : List Zone). fold f c zs) (drop_all i zones past)

-- ---- blocks

pub marks_step : (order : ByteOrder) (n i : ℕ) (image : List ℕ) → i < n
    → marks_from order (n - i) (i * 512) image
    ≡ as_marks (mark_at order (length image) (i * 512) (drop (i * 512) image))
    ++ marks_from order (n - (i + 1)) ((i + 1) * 512) image
unfolding marks_from
marks_step order n i image h =
    ap (λ (m : ℕ). marks_from order m (i * 512) image) (let e : n - i ≡ suc (n - (i + 1)) = omega (arith, h) in e)
    ∙ ap (λ (at : ℕ). as_marks (mark_at order (length image) (i * 512) (drop (i * 512) image))
    ++ marks_from order (n - (i + 1)) at image)
    (let e : i * 512 + 512 ≡ (i + 1) * 512 = omega arith in e)

pub marks_more : (order : ByteOrder) (n i : ℕ) (image : List ℕ) (marks : List Mark) (m : Option Mark) (whole : List Mark)
    → i < n
    → m ≡ mark_at order (length image) (i * 512) (drop (i * 512) image)
    → marks ++ marks_from order (n - i) (i * 512) image ≡ whole
    → (marks ++ as_marks m) ++ marks_from order (n - (i + 1)) ((i + 1) * 512) image ≡ whole
marks_more order n i image marks m whole lt e h =
    append_assoc marks (as_marks m) (marks_from order (n - (i + 1)) ((i + 1) * 512) image)
    ∙ ap (λ (q : Option Mark). marks ++ (as_marks q ++ marks_from order (n - (i + 1)) ((i + 1) * 512) image)) e
    ∙ ap (λ (ms : List Mark). marks ++ ms) (sym (marks_step order n i image lt)) ∙ h

pub marks_end : (order : ByteOrder) (n i : ℕ) (image : List ℕ) (marks whole : List Mark) → n ≤ i
    → marks ++ marks_from order (n - i) (i * 512) image ≡ whole → marks ≡ whole
unfolding marks_from
marks_end order n i image marks whole past h =
    sym (append-nil marks)
    ∙ ap (λ (k : ℕ). marks ++ marks_from order k (i * 512) image) (let e : 0 ≡ n - i = omega (arith, past) in e) ∙ h

abbrev order_here : ℕ → List ℕ → Option ByteOrder
order_here i image = order_at (length image) (i * 512) (drop (i * 512) image)

pub order_step : (n i : ℕ) (image : List ℕ) → i < n
    → order_from (n - i) (i * 512) image
    ≡ order_or (order_here i image) (order_from (n - (i + 1)) ((i + 1) * 512) image)
unfolding order_from
order_step n i image h =
    ap (λ (m : ℕ). order_from m (i * 512) image) (let e : n - i ≡ suc (n - (i + 1)) = omega (arith, h) in e)
    ∙ ap (λ (at : ℕ). order_or (order_here i image) (order_from (n - (i + 1)) at image))
    (let e : i * 512 + 512 ≡ (i + 1) * 512 = omega arith in e)

pub order_own : (n i : ℕ) (image : List ℕ) (order whole : ByteOrder) → i < n → Some order ≡ order_here i image
    → order_from (n - i) (i * 512) image ≡ whole → order ≡ whole
order_own n i image order whole h e f =
    ap (λ (o : Option ByteOrder). order_or o (order_from (n - (i + 1)) ((i + 1) * 512) image)) e
    ∙ sym (order_step n i image h) ∙ f

pub order_other : (n i : ℕ) (image : List ℕ) (whole : ByteOrder) → i < n → None ≡ order_here i image
    → order_from (n - i) (i * 512) image ≡ whole → order_from (n - (i + 1)) ((i + 1) * 512) image ≡ whole
order_other n i image whole h e f =
    ap (λ (o : Option ByteOrder). order_or o (order_from (n - (i + 1)) ((i + 1) * 512) image)) e
    ∙ sym (order_step n i image h) ∙ f

pub order_end : (n i : ℕ) (image : List ℕ) (whole : ByteOrder) → n ≤ i
    → order_from (n - i) (i * 512) image ≡ whole → Little ≡ whole
unfolding order_from
order_end n i image whole past f =
    ap (λ (k : ℕ). order_from k (i * 512) image) (let e : 0 ≡ n - i = omega (arith, past) in e) ∙ f

-- ---- marks

pub step_own : (kind : Kind) (step last : ℕ) (ms : List Mark) (i : ℕ) (d : Mark) → i < length ms
    → is_of kind (get_or ms i d).kind ≡ true
    → step_after kind step last (drop i ms)
    ≡ step_after kind (gcd step ((get_or ms i d).at - last)) (get_or ms i d).at (drop (i + 1) ms)
unfolding step_after
step_own kind step last ms i d lt h = ap (step_after kind step last) (drop_more ms i d lt) ∙ rw h refl

pub step_other : (kind : Kind) (step last : ℕ) (ms : List Mark) (i : ℕ) (d : Mark) → i < length ms
    → is_of kind (get_or ms i d).kind ≡ false
    → step_after kind step last (drop i ms) ≡ step_after kind step last (drop (i + 1) ms)
unfolding step_after
step_other kind step last ms i d lt h = ap (step_after kind step last) (drop_more ms i d lt) ∙ rw h refl

pub step_end : (kind : Kind) (step last : ℕ) (ms : List Mark) (i : ℕ) → length ms ≤ i
    → step_after kind step last (drop i ms) ≡ step
unfolding step_after
step_end kind step last ms i past = ap (step_after kind step last) (drop_all i ms past)

pub rings_here : (ms : List Mark) (i : ℕ) (d : Mark) → i < length ms → is_of Dump (get_or ms i d).kind ≡ true
    → rings_of (drop i ms) ≡ []
unfolding rings_of
rings_here ms i d lt h = ap rings_of (drop_more ms i d lt) ∙ rw h refl

pub rings_on : (ms : List Mark) (i : ℕ) (d : Mark) → i < length ms → is_of Dump (get_or ms i d).kind ≡ false
    → rings_of (drop i ms) ≡ get_or ms i d ∷ rings_of (drop (i + 1) ms)
unfolding rings_of
rings_on ms i d lt h = ap rings_of (drop_more ms i d lt) ∙ rw h refl

pub rings_end : (ms : List Mark) (i : ℕ) → length ms ≤ i → rings_of (drop i ms) ≡ []
unfolding rings_of
rings_end ms i past = ap rings_of (drop_all i ms past)

pub rings_stop : (ms : List Mark) (i : ℕ) (d : Mark) → i < length ms → is_of Dump (get_or ms i d).kind ≡ true
    → rings_of ms ≡ take i ms ++ rings_of (drop i ms) → take i ms ≡ rings_of ms
rings_stop ms i d lt h e = sym (append-nil (take i ms))
    ∙ ap (λ (xs : List Mark). take i ms ++ xs) (sym (rings_here ms i d lt h)) ∙ sym e

pub rings_more : (ms : List Mark) (i : ℕ) (d : Mark) → i < length ms → is_of Dump (get_or ms i d).kind ≡ false
    → rings_of ms ≡ take i ms ++ rings_of (drop i ms) → rings_of ms ≡ take (i + 1) ms ++ rings_of (drop (i + 1) ms)
rings_more ms i d lt h e = e
    ∙ ap (λ (xs : List Mark). take i ms ++ xs) (rings_on ms i d lt h)
    ∙ sym (append_assoc (take i ms) (get_or ms i d ∷ []) (rings_of (drop (i + 1) ms)))
    ∙ ap (λ (xs : List Mark). xs ++ rings_of (drop (i + 1) ms)) (sym (take_more ms i d lt))

pub rings_last : (ms : List Mark) (i : ℕ) → length ms ≤ i → rings_of ms ≡ take i ms ++ rings_of (drop i ms)
    → take i ms ≡ rings_of ms
rings_last ms i past e = sym (append-nil (take i ms))
    ∙ ap (λ (xs : List Mark). take i ms ++ xs) (sym (rings_end ms i past)) ∙ sym e

pub machine_own : (image : List ℕ) (ms : List Mark) (i : ℕ) (d : Mark) → i < length ms
    → is_of Dump (get_or ms i d).kind ≡ true
    → little_machine image (drop i ms)
    ≡ machine_or (machine_shown (data_of (drop (get_or ms i d).at image))) (little_machine image (drop (i + 1) ms))
unfolding little_machine
machine_own image ms i d lt h = ap (little_machine image) (drop_more ms i d lt) ∙ rw h refl

pub machine_other : (image : List ℕ) (ms : List Mark) (i : ℕ) (d : Mark) → i < length ms
    → is_of Dump (get_or ms i d).kind ≡ false
    → little_machine image (drop i ms) ≡ little_machine image (drop (i + 1) ms)
unfolding little_machine
machine_other image ms i d lt h = ap (little_machine image) (drop_more ms i d lt) ∙ rw h refl

pub machine_end : (image : List ℕ) (ms : List Mark) (i : ℕ) → length ms ≤ i → little_machine image (drop i ms) ≡ Aligned
unfolding little_machine
machine_end image ms i past = ap (little_machine image) (drop_all i ms past)
