-- What the headers of an image up to a place tell of all of them. For `scan`.
use Rattle.std.proofs.Common.{◌≡◌, ◌∙◌, ℕ, ◌+◌, ◌-◌, ◌*◌, ◌/◌, ◌<◌, ◌≤◌, refl, sym, ap, ap₂, subst, arith}
use Rattle.std.proofs.Common.{List, [], ◌++◌, length, take, drop, Bool, true, false}
use Rattle.std.specs.Prelude.{Option, Some, None, is_some, ◌&&◌, ◌==◌, nat_le, nat_lt, if◌then◌else◌}
use Rattle.std.proofs.lemmas.List.{drop-take, take-take, drop-drop}
use Rattle.zone_spec.specs.declared.params.ByteOrder.{ByteOrder}
use Rattle.zone_spec.specs.declared.params.ByteOrder.TheVariants.{Little, Big}
use Rattle.psz_spec.specs.declared.Kind.{Kind}
use Rattle.psz_spec.specs.declared.Kind.TheVariants.{Pmsg, Console, Ftrace, Dump}
use Rattle.psz_spec.specs.declared.Mark.{Mark}
use Rattle.psz_spec.specs.declared.Machine.{Machine}
use Rattle.psz_spec.specs.declared.Machine.TheVariants.{Aligned, X86}
use Rattle.psz_spec.specs.declared.DumpHeader.{DumpHeader}
use Rattle.psz_spec.specs.Headers.{word}
use Rattle.psz_spec.specs.States.{data_of}
use Rattle.psz_spec.specs.Records.{is_of}
use Rattle.psz_spec.specs.Marks.{kind_of, is_whole, mark_by, mark_at, order_at, order_or, order_from, order_in}
use Rattle.psz_spec.specs.Marks.{as_marks}
use Rattle.psz_spec.specs.Marks.{marks_from, marks_in, machine_if, machine_shown, machine_or}
use Rattle.psz_spec.specs.Marks.{little_machine, machine_in}
use Rattle.psz_read.proofs.Fronts.{word_front, header_front}
use Rattle.psz_read.proofs.Rests.{order_step, marks_step, marks_more, marks_end}
use Rattle.storage_spec.specs.Found.{machine_of}
use Rattle.storage_report.specs.Scans.{order_more, mark_more, shown_if, shown_by, machine_more, machine_by, is_decided}

-- ---- 512 bytes from a place on are enough

whole_same : (order : ByteOrder) (kind : Kind) (a b : List ℕ) → word order a 12 ≡ word order b 12
    → is_whole order kind a ≡ is_whole order kind b
whole_same order Dump a b e = ap (λ (w : ℕ). w == 0x4dfc3ae5) e
whole_same order Pmsg a b e = refl
whole_same order Console a b e = refl
whole_same order Ftrace a b e = refl

abbrev mark_with : Kind → ℕ → ℕ → ℕ → Bool → Option Mark
mark_with kind total at len whole =
    if nat_le (at + 12 + len) total && whole then Some (record { kind = kind; at = at; len = len }) else None

by_same : (order : ByteOrder) (k : Option Kind) (total at : ℕ) (a b : List ℕ) → word order a 4 ≡ word order b 4
    → word order a 12 ≡ word order b 12 → mark_by order k total at a ≡ mark_by order k total at b
by_same order None total at a b e f = refl
by_same order (Some kind) total at a b e f =
    ap₂ (λ (len : ℕ) (whole : Bool). mark_with kind total at len whole) e (whole_same order kind a b f)

mark_front : (order : ByteOrder) (total at : ℕ) (bytes : List ℕ)
    → mark_at order total at (take 512 bytes) ≡ mark_at order total at bytes
unfolding mark_at
mark_front order total at bytes =
    ap (λ (w : ℕ). mark_by order (kind_of w) total at (take 512 bytes)) (word_front order 512 bytes 0 (omega arith))
    ∙ by_same order (kind_of (word order bytes 0)) total at (take 512 bytes) bytes
    (word_front order 512 bytes 4 (omega arith)) (word_front order 512 bytes 12 (omega arith))

abbrev order_by : Option Mark → Option Mark → Option ByteOrder
order_by little big = if is_some little then Some Little else (if is_some big then Some Big else None)

order_is : (total at : ℕ) (bytes : List ℕ)
    → order_at total at bytes ≡ order_by (mark_at Little total at bytes) (mark_at Big total at bytes)
unfolding order_at
order_is total at bytes = refl

order_front : (total at : ℕ) (bytes : List ℕ) → order_at total at (take 512 bytes) ≡ order_at total at bytes
order_front total at bytes = order_is total at (take 512 bytes)
    ∙ ap₂ (λ (l b : Option Mark). order_by l b) (mark_front Little total at bytes) (mark_front Big total at bytes)
    ∙ sym (order_is total at bytes)

abbrev reads_by : DumpHeader → ℕ → Bool
reads_by h packed = (nat_le 1 h.reason && nat_le h.reason 4) && (nat_le packed 1 && nat_lt h.nanos 1_000_000_000)

packed_front : (n : ℕ) (bytes : List ℕ) → n + 4 ≤ 500
    → word Little (data_of (take 512 bytes)) n ≡ word Little (data_of bytes) n
packed_front n bytes h =
    ap (λ (kept : List ℕ). word Little kept n) (drop-take 12 500 bytes) ∙ word_front Little 500 (drop 12 bytes) n h

shown_front : (bytes : List ℕ) → machine_shown (data_of (take 512 bytes)) ≡ machine_shown (data_of bytes)
unfolding machine_shown
shown_front bytes =
    ap₂ (λ (a x : Bool). machine_if a x)
    (ap₂ (λ (h : DumpHeader) (w : ℕ). reads_by h w) (header_front Aligned 512 bytes (omega arith))
    (packed_front 24 bytes (omega arith)))
    (ap₂ (λ (h : DumpHeader) (w : ℕ). reads_by h w) (header_front X86 512 bytes (omega arith))
    (packed_front 16 bytes (omega arith)))

order_block : (order : Option ByteOrder) (total at : ℕ) (bytes : List ℕ)
    → order_more order total at (take 512 bytes) ≡ order_more order total at bytes
order_block None total at bytes = order_front total at bytes
order_block (Some order) total at bytes = refl

mark_block : (order : Option ByteOrder) (total at : ℕ) (bytes : List ℕ)
    → mark_more order total at (take 512 bytes) ≡ mark_more order total at bytes
mark_block None total at bytes = refl
mark_block (Some order) total at bytes = mark_front order total at bytes

if_block : (dump : Bool) (bytes : List ℕ) → shown_if dump (take 512 bytes) ≡ shown_if dump bytes
if_block true bytes = shown_front bytes
if_block false bytes = refl

machine_block : (shown : Option Machine) (mark : Option Mark) (bytes : List ℕ)
    → machine_more shown mark (take 512 bytes) ≡ machine_more shown mark bytes
machine_block (Some machine) mark bytes = refl
machine_block None None bytes = refl
machine_block None (Some mark) bytes = if_block (is_of Dump mark.kind) bytes

-- ---- one place more

-- the headers before a place, and those from it on, are all
pub record SeenTo (image : List ℕ) (i : ℕ) (order : Option ByteOrder) (shown : Option Machine) (marks : List Mark)
    : Type 0 where
  pub order_rest : order_in image ≡ order_or order (order_from (length image / 512 - i) (i * 512) image)
  pub marks_rest : marks ++ marks_from (order_in image) (length image / 512 - i) (i * 512) image
      ≡ marks_in (order_in image) image
  pub machine_rest : order_in image ≡ Little → little_machine image (marks_in Little image)
      ≡ machine_or shown (little_machine image (marks_from Little (length image / 512 - i) (i * 512) image))

pub seen_none : (image : List ℕ) → SeenTo image 0 None None []
seen_none image =
    let none : length image / 512 - 0 ≡ length image / 512 = omega arith in
    record {
      order_rest = ap (λ (n : ℕ). order_from n 0 image) (sym none);
      marks_rest = ap (λ (n : ℕ). marks_from (order_in image) n 0 image) none;
      machine_rest = λ h. ap (λ (n : ℕ). little_machine image (marks_from Little n 0 image)) (sym none);
    }

order_next : (order : Option ByteOrder) (total at : ℕ) (far : List ℕ) (whole rest : ByteOrder)
    → whole ≡ order_or order (order_or (order_at total at far) rest)
    → whole ≡ order_or (order_more order total at far) rest
order_next None total at far whole rest h = h
order_next (Some order) total at far whole rest h = h

mark_none : (little big : Option Mark) (total at : ℕ) (far : List ℕ) (whole rest : ByteOrder)
    → little ≡ mark_at Little total at far → big ≡ mark_at Big total at far
    → whole ≡ order_or (order_by little big) rest
    → mark_more (order_by little big) total at far ≡ mark_at whole total at far
mark_none (Some l) big total at far whole rest e f h = ap (λ (o : ByteOrder). mark_at o total at far) (sym h)
mark_none None (Some b) total at far whole rest e f h = ap (λ (o : ByteOrder). mark_at o total at far) (sym h)
mark_none None None total at far Little rest e f h = e
mark_none None None total at far Big rest e f h = f

-- the header at the place, in the order of all
mark_is : (order : Option ByteOrder) (total at : ℕ) (far : List ℕ) (whole rest : ByteOrder)
    → whole ≡ order_or (order_more order total at far) rest
    → mark_more (order_more order total at far) total at far ≡ mark_at whole total at far
mark_is (Some order) total at far whole rest h = ap (λ (o : ByteOrder). mark_at o total at far) (sym h)
mark_is None total at far whole rest h =
    ap (λ (o : Option ByteOrder). mark_more o total at far) (order_is total at far)
    ∙ mark_none (mark_at Little total at far) (mark_at Big total at far) total at far whole rest refl refl
    (h ∙ ap (λ (o : Option ByteOrder). order_or o rest) (order_is total at far))

place_if : (t : Bool) (m x : Mark) → Some m ≡ (if t then Some x else None) → m.at ≡ x.at
place_if true m x h = let e : m ≡ x = cc in ap (λ (y : Mark). y.at) e
place_if false m x h = cc

place_by : (order : ByteOrder) (k : Option Kind) (total at : ℕ) (bytes : List ℕ) (m : Mark)
    → Some m ≡ mark_by order k total at bytes → m.at ≡ at
place_by order None total at bytes m h = cc
place_by order (Some kind) total at bytes m h =
    place_if (nat_le (at + 12 + word order bytes 4) total && is_whole order kind bytes) m
    (record { kind = kind; at = at; len = word order bytes 4 }) h

mark_place : (order : ByteOrder) (total at : ℕ) (bytes : List ℕ) (m : Mark) → Some m ≡ mark_at order total at bytes
    → m.at ≡ at
unfolding mark_at
mark_place order total at bytes m h = place_by order (kind_of (word order bytes 0)) total at bytes m h

machine_if_dump : (t : Bool) (image : List ℕ) (m at : ℕ) (rest : Machine) → m ≡ at
    → (if t then machine_or (machine_shown (data_of (drop m image))) rest else rest)
    ≡ machine_or (shown_if t (drop at image)) rest
machine_if_dump true image m at rest e =
    ap (λ (n : ℕ). machine_or (machine_shown (data_of (drop n image))) rest) e
machine_if_dump false image m at rest e = refl

machine_here : (image : List ℕ) (total at : ℕ) (mark : Option Mark) (ms : List Mark)
    → mark ≡ mark_at Little total at (drop at image)
    → little_machine image (as_marks mark ++ ms) ≡ machine_or (shown_by mark (drop at image)) (little_machine image ms)
unfolding little_machine
machine_here image total at None ms e = refl
machine_here image total at (Some m) ms e =
    machine_if_dump (is_of Dump m.kind) image m.at at (little_machine image ms)
    (mark_place Little total at (drop at image) m e)

machine_next : (shown : Option Machine) (mark : Option Mark) (far : List ℕ) (rest : Machine)
    → machine_or shown (machine_or (shown_by mark far) rest) ≡ machine_or (machine_more shown mark far) rest
machine_next None mark far rest = refl
machine_next (Some machine) mark far rest = refl

seen_far : (image : List ℕ) (i : ℕ) (order : Option ByteOrder) (shown : Option Machine) (marks : List Mark)
    → i < length image / 512 → SeenTo image i order shown marks
    → let far = drop (i * 512) image in
    let order_now = order_more order (length image) (i * 512) far in
    let mark = mark_more order_now (length image) (i * 512) far in
    SeenTo image (i + 1) order_now (machine_more shown mark far) (marks ++ as_marks mark)
seen_far image i order shown marks lt s =
    let total = length image in
    let n = length image / 512 in
    let at = i * 512 in
    let far : List ℕ = drop at image in
    let rest : ByteOrder = order_from (n - (i + 1)) ((i + 1) * 512) image in
    let order_now : Option ByteOrder = order_more order total at far in
    let mark : Option Mark = mark_more order_now total at far in
    let first : order_in image ≡ order_or order_now rest =
    order_next order total at far (order_in image) rest
    (s.order_rest ∙ ap (λ (o : ByteOrder). order_or order o) (order_step n i image lt)) in
    let is : mark ≡ mark_at (order_in image) total at far = mark_is order total at far (order_in image) rest first in
    record {
      order_rest = first;
      marks_rest = marks_more (order_in image) n i image marks mark (marks_in (order_in image) image) lt is
          s.marks_rest;
      machine_rest = λ h.
          let little : mark ≡ mark_at Little total at far = is ∙ ap (λ (o : ByteOrder). mark_at o total at far) h in
          let more : List Mark = marks_from Little (n - (i + 1)) ((i + 1) * 512) image in
          s.machine_rest h
          ∙ ap (λ (ms : List Mark). machine_or shown (little_machine image ms)) (marks_step Little n i image lt)
          ∙ ap (λ (m : Option Mark). machine_or shown (little_machine image (as_marks m ++ more))) (sym little)
          ∙ ap (λ (m : Machine). machine_or shown m) (machine_here image total at mark more little)
          ∙ machine_next shown mark far (little_machine image more);
    }

pub seen_as : (image : List ℕ) (i : ℕ) (o p : Option ByteOrder) (m n : Option Machine) (xs ys : List Mark) → p ≡ o
    → n ≡ m
    → ys ≡ xs → SeenTo image i o m xs → SeenTo image i p n ys
seen_as image i o p m n xs ys e f g s =
    subst (λ (ms : List Mark). SeenTo image i p n ms) (sym g)
    (subst (λ (x : Option Machine). SeenTo image i p x xs) (sym f)
    (subst (λ (x : Option ByteOrder). SeenTo image i x m xs) (sym e) s))

-- by 512 bytes from a place on
pub seen_more : (image : List ℕ) (i total : ℕ) (order o : Option ByteOrder) (shown m : Option Machine)
    (marks ms : List Mark) (block : List ℕ) → i < length image / 512 → total ≡ length image
    → block ≡ take 512 (drop (i * 512) image) → o ≡ order_more order total (i * 512) block
    → m ≡ machine_more shown (mark_more o total (i * 512) block) block
    → ms ≡ marks ++ as_marks (mark_more o total (i * 512) block) → SeenTo image i order shown marks
    → SeenTo image (i + 1) o m ms
seen_more image i total order o shown m marks ms block lt len e eo em es s =
    let all = length image in
    let at = i * 512 in
    let far : List ℕ = drop at image in
    let now : Option ByteOrder = order_more order all at far in
    let mark : Option Mark = mark_more now all at far in
    let order_is : o ≡ now =
    eo ∙ ap (λ (n : ℕ). order_more order n at block) len ∙ ap (λ (b : List ℕ). order_more order all at b) e
    ∙ order_block order all at far in
    let mark_is : mark_more o total at block ≡ mark =
    ap (λ (n : ℕ). mark_more o n at block) len ∙ ap (λ (b : List ℕ). mark_more o all at b) e
    ∙ ap (λ (p : Option ByteOrder). mark_more p all at (take 512 far)) order_is ∙ mark_block now all at far in
    let machine_is : m ≡ machine_more shown mark far =
    em ∙ ap (λ (k : Option Mark). machine_more shown k block) mark_is
    ∙ ap (λ (b : List ℕ). machine_more shown mark b) e ∙ machine_block shown mark far in
    seen_as image (i + 1) now o (machine_more shown mark far) m (marks ++ as_marks mark) ms order_is machine_is
    (es ∙ ap (λ (k : Option Mark). marks ++ as_marks k) mark_is) (seen_far image i order shown marks lt s)

-- ---- the end

machine_whole : (image : List ℕ) (whole : ByteOrder) (order : Option ByteOrder) (shown : Option Machine)
    → whole ≡ order_or order Little
    → (whole ≡ Little → little_machine image (marks_in Little image) ≡ machine_or shown Aligned)
    → machine_by order shown ≡ machine_in whole image (marks_in whole image)
machine_whole image Little None shown e h = sym (h refl)
machine_whole image Little (Some Little) shown e h = sym (h refl)
machine_whole image Little (Some Big) shown e h = absurd (cc)
machine_whole image Big None shown e h = absurd (cc)
machine_whole image Big (Some Little) shown e h = absurd (cc)
machine_whole image Big (Some Big) shown e h = refl

none_left : (image : List ℕ) (i : ℕ) → length image / 512 ≤ i → length image / 512 - i ≡ 0
none_left image i past = omega (arith, past)

pub seen_all : (image : List ℕ) (i : ℕ) (order : Option ByteOrder) (shown : Option Machine) (marks : List Mark)
    → length image / 512 ≤ i → SeenTo image i order shown marks → machine_by order shown ≡ machine_of image
unfolding order_from marks_from little_machine
seen_all image i order shown marks past s =
    machine_whole image (order_in image) order shown
    (s.order_rest
    ∙ ap (λ (n : ℕ). order_or order (order_from n (i * 512) image)) (none_left image i past))
    (λ h. s.machine_rest h
    ∙ ap (λ (n : ℕ). machine_or shown (little_machine image (marks_from Little n (i * 512) image)))
    (none_left image i past))

pub marks_all : (image : List ℕ) (i : ℕ) (order : Option ByteOrder) (shown : Option Machine) (marks : List Mark)
    → length image / 512 ≤ i → SeenTo image i order shown marks → marks ≡ marks_in (order_in image) image
marks_all image i order shown marks past s =
    marks_end (order_in image) (length image / 512) i image marks (marks_in (order_in image) image) past s.marks_rest

machine_early : (image : List ℕ) (whole rest : ByteOrder) (order : Option ByteOrder) (shown : Option Machine)
    (more : Machine) → is_decided order shown ≡ true → whole ≡ order_or order rest
    → (whole ≡ Little → little_machine image (marks_in Little image) ≡ machine_or shown more)
    → machine_by order shown ≡ machine_in whole image (marks_in whole image)
machine_early image whole rest None shown more t e h = let n : ◌≡◌ {A = Bool} false true = t in absurd (cc)
machine_early image Little rest (Some Little) (Some machine) more t e h = sym (h refl)
machine_early image Big rest (Some Little) (Some machine) more t e h = absurd (cc)
machine_early image whole rest (Some Little) None more t e h = let n : ◌≡◌ {A = Bool} false true = t in absurd (cc)
machine_early image Little rest (Some Big) shown more t e h = absurd (cc)
machine_early image Big rest (Some Big) shown more t e h = refl

-- or before it, where no later header changes the machine
pub seen_enough : (image : List ℕ) (i : ℕ) (order : Option ByteOrder) (shown : Option Machine) (marks : List Mark)
    → is_decided order shown ≡ true → SeenTo image i order shown marks → machine_by order shown ≡ machine_of image
seen_enough image i order shown marks t s =
    machine_early image (order_in image) (order_from (length image / 512 - i) (i * 512) image) order shown
    (little_machine image (marks_from Little (length image / 512 - i) (i * 512) image)) t s.order_rest s.machine_rest

-- ---- pieces

-- 512 bytes of a front stand in it as in the whole
pub front_block : (total at : ℕ) (image : List ℕ) → at + 512 ≤ total
    → take 512 (drop at (take total image)) ≡ take 512 (drop at image)
front_block total at image h =
    ap (λ (n : ℕ). take 512 (drop at (take n image))) (let e : total ≡ at + (total - at) = omega (arith, h) in e)
    ∙ ap (take 512) (drop-take at (total - at) image)
    ∙ take-take 512 (total - at) (drop at image) (omega (arith, h))

-- and of a piece
pub piece_block : (count from at : ℕ) (piece image : List ℕ) → take count piece ≡ take count (drop from image)
    → from ≤ at → at + 512 ≤ from + count → take 512 (drop (at - from) piece) ≡ take 512 (drop at image)
piece_block count from at piece image e before inside =
    let fits : (at - from) + 512 ≤ count = omega (arith, before, inside) in
    sym (front_block count (at - from) piece fits)
    ∙ ap (λ (xs : List ℕ). take 512 (drop (at - from) xs)) e
    ∙ front_block count (at - from) (drop from image) fits ∙ ap (take 512) (drop-drop (at - from) from image)
    ∙ ap (λ (n : ℕ). take 512 (drop n image)) (let n : from + (at - from) ≡ at = omega (arith, before) in n)
