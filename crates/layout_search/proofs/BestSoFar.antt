-- The best so far
use Rattle.std.proofs.Common.{◌≡◌, ℕ, zero, suc, ◌+◌, ◌<◌, ◌≤◌, Bool, true, false, ◌&&◌, ◌||◌, ◌==◌, nat_lt, if◌then◌else◌, List}
use Rattle.std.proofs.Common.{[], ◌∷◌, length, get_or, Option, Some, None, refl, sym, ap, ◌∙◌, subst, arith, true≢false}
use Rattle.std.proofs.Common.{below_more, take, ◌⊎◌, inl, inr}
use Rattle.std.specs.Prelude.{MatchOption, unwrap_or, option_map}
use Rattle.std.specs.Prelude.{nat_le, sum_by}
use Rattle.std.proofs.lemmas.Bool.{and_parts, or_parts, false_from_ne_true, ltb-false, le-leb, lt-leb, eqb-false}
use Rattle.std.proofs.lemmas.Bool.{eqb-true}
use Rattle.layout_spec.specs.declared.Candidate.{Candidate}
use Rattle.layout_spec.specs.declared.Known.{Known}
use Rattle.layout_spec.specs.Laid.{params_of, zones_of, has_layout}
use Rattle.layout_spec.specs.Order.{is_before, faults}
use Rattle.layout_spec.specs.Family.{is_of_family, is_chosen, is_one_of, tags_for, known_or, parities, cpus_for, sizes}
use Rattle.layout_spec.specs.Family.{memories, is_shape, is_told_once, order_number, orders_for, byte_order_for}
use Rattle.zone_spec.specs.Orders.{is_same_order}
use Rattle.zone_spec.specs.declared.params.ByteOrder.{ByteOrder}
use Rattle.zone_spec.specs.declared.params.ByteOrder.TheVariants.{Little, Big}
use Rattle.zone_spec.specs.declared.params.Order.{Order as ZoneOrder}
use Rattle.zone_spec.specs.declared.params.Order.TheVariants.{FtracePmsg, PmsgFtrace}
use Rattle.layout_search.specs.Levels.{Over, IsListed, after, levels_from, next, values, having, order_of}
use Rattle.layout_search.specs.declared.levels.Level.{Level}
use Rattle.layout_search.specs.declared.levels.Level.TheVariants.{Mem, Dump, Console, Ftrace, Pmsg, Order, Cpus, Parity}
use Rattle.layout_search.specs.Walked.{OverBefore, is_walked, all_levels, word, count_of, counted, nowhere}
use Rattle.layout_search.specs.declared.levels.Reached.{Reached}
use Rattle.layout_search.specs.Placed.{IsPlaced, IsPassed}
use Rattle.layout_search.specs.Tried.{Advances, IsSettled, TagsSettled, SettledOver, SettledBefore, is_ahead}
use Rattle.layout_search.specs.Rows.{dump_row_of, console_row_of, ftrace_row_of, pmsg_row_of}
use Rattle.layout_search.proofs.CandidateFaults.{cpus_bad}
use Rattle.zone_spec.specs.declared.params.Params.{Params}
use Rattle.zone_spec.specs.declared.params.Row.{Row}
use Rattle.zone_spec.specs.Layout.{rounded, zones_from, ordered}
use Rattle.layout_search.specs.declared.progress.Best.{Best}
use Rattle.layout_search.specs.declared.progress.Progress.{Progress}
use Rattle.layout_search.specs.declared.progress.Aim.{Aim}
use Rattle.layout_search.proofs.Keys.{not_before}
use Rattle.layout_search.proofs.Members.{member_at, place_of, place_before, member_le}

abbrev count_rows : List Row → ℕ
count_rows rows = sum_by (λ (row : Row). row.count) rows

-- what was not ahead is not ahead of one that is
pub replaced : (k this : List ℕ) (best : Option Best) → is_ahead this best ≡ true → is_ahead k best ≡ false
    → is_before k this ≡ false
replaced k this None h n = absurd (true≢false n)
replaced k this (Some b) h n = not_before k this b.key h n

pub family_layout : (known : Known) (image : List ℕ) (c : Candidate) → is_of_family known image c ≡ true
    → has_layout c ≡ true
unfolding is_of_family
family_layout known image c h = (and_parts _ (has_layout c) h).1

pub advances_refl : (s : Progress) → Advances s s
advances_refl s = record {
  best = λ k h. h;
  some = λ e. e;
  effort = refl;
  work = omega arith;
  all = λ e. refl;
  first = λ e n. refl;
}

pub advances_trans : {a b c : Progress} → Advances a b → Advances b c → Advances a c
advances_trans p q = record {
  best = λ k h. q.best k (p.best k h);
  some = λ e. p.some (q.some e);
  effort = q.effort ∙ p.effort;
  work = omega (arith, p.work, q.work);
  all = λ e. q.all (p.effort ∙ e) ∙ p.all e;
  first = λ e n. q.first (p.effort ∙ e) n ∙ p.first e (q.some n);
}

pub later : {known : Known} {image : List ℕ} {aim : Aim} {c : Candidate} {a b : Progress} → Advances a b
    → IsSettled known image aim c a → IsSettled known image aim c b
later p h = record {
  settled = λ family few other. p.best _ (h.settled family few other);
}

pub tags_later : {known : Known} {image : List ℕ} {aim : Aim} {c : Candidate} {a b : Progress} → Advances a b
    → TagsSettled known image aim a c → TagsSettled known image aim b c
tags_later p h = record { all = λ t m. later p (h.all t m) }

-- what has no layout is settled
pub no_layout : (known : Known) (image : List ℕ) (aim : Aim) (c : Candidate) (s : Progress) → has_layout c ≡ false
    → IsSettled known image aim c s
no_layout known image aim c s e = record {
  settled = λ family few other. absurd (true≢false (sym (family_layout known image c family) ∙ e));
}

same_order : (a b : ByteOrder) → a ≡ b → is_same_order a b ≡ true
same_order Little b e = ap (is_same_order Little) (sym e)
same_order Big b e = ap (is_same_order Big) (sym e)

is_order : (a b : ByteOrder) → is_same_order a b ≡ true → a ≡ b
is_order Little Little e = refl
is_order Little Big e = absurd (true≢false (sym e))
is_order Big Little e = absurd (true≢false (sym e))
is_order Big Big e = refl

pub family_of : (known : Known) (image : List ℕ) (c : Candidate) (t : ℕ) → is_chosen known (length image) c ≡ true
    → c.byte_order ≡ byte_order_for known image
    → is_one_of t (tags_for known image c) ≡ true → has_layout (record c { tag = t }) ≡ true
    → is_of_family known image (record c { tag = t }) ≡ true
unfolding is_of_family is_chosen
family_of known image c t chosen ordered tag has =
    let same = is_same_order c.byte_order (byte_order_for known image) in
    ap (λ b. ((b && is_one_of t (tags_for known image c)) && same) && has_layout (record c { tag = t })) chosen
    ∙ ap (λ b. (b && same) && has_layout (record c { tag = t })) tag
    ∙ ap (λ b. b && has_layout (record c { tag = t })) (same_order c.byte_order (byte_order_for known image) ordered)
    ∙ has

pub tags_done : (known : Known) (image : List ℕ) (aim : Aim) (c : Candidate) (s : Progress) (list : List ℕ)
    → list ≡ tags_for known image c
    → ((j : ℕ) → j < length list → IsSettled known image aim (record c { tag = get_or list j 0 }) s)
    → TagsSettled known image aim s c
tags_done known image aim c s list e h = record {
  all = λ t m.
      let at = place_of list t (subst (λ xs. is_one_of t xs ≡ true) (sym e) m) in
      subst (λ (t : ℕ). IsSettled known image aim (record c { tag = t }) s) at.here (h at.place at.inside);
}

-- ---- over the words of a layout

pub over_map : (known : Known) (len : ℕ) (P Q : Candidate → Type 0) → ((d : Candidate) → P d → Q d)
    → (levels : List Level) (c : Candidate) → Over known len levels P c → Over known len levels Q c
unfolding Over
over_map known len P Q f [] c h = f c h
over_map known len P Q f (level ∷ levels) c h = λ n m. over_map known len P Q f levels (having level c n) (h n m)

-- one word more
pub over_next : (known : Known) (len : ℕ) (Q : Candidate → Type 0) (level : Level) (c : Candidate) (n : ℕ)
    → Over known len (level ∷ after level) Q c → is_one_of n (values level known len c) ≡ true
    → Over known len (after level) Q (having level c n)
unfolding Over
over_next known len Q level c n h m = h n m

pub over_last : (known : Known) (len : ℕ) (Q : Candidate → Type 0) (c : Candidate) → Over known len [] Q c → Q c
unfolding Over
over_last known len Q c h = h

pub over_none : (known : Known) (len : ℕ) (Q : Candidate → Type 0) (c : Candidate) → Q c → Over known len [] Q c
unfolding Over
over_none known len Q c h = h

-- each value of a list
pub over_done : (known : Known) (len : ℕ) (Q : Candidate → Type 0) (level : Level) (c : Candidate) (list : List ℕ)
    → list ≡ values level known len c
    → ((j : ℕ) → j < length list → Over known len (after level) Q (having level c (get_or list j 0)))
    → Over known len (level ∷ after level) Q c
unfolding Over
over_done known len Q level c list e h = λ n m.
    let at = place_of list n (subst (λ xs. is_one_of n xs ≡ true) (sym e) m) in
    subst (λ (n : ℕ). Over known len (after level) Q (having level c n)) at.here (h at.place at.inside)

pub over_later : (known : Known) (image : List ℕ) (aim : Aim) (levels : List Level) (c : Candidate) (a b : Progress)
    → Advances a b → SettledOver known image aim levels c a → SettledOver known image aim levels c b
over_later known image aim levels c a b p h = over_map known (length image) (TagsSettled known image aim a)
    (TagsSettled known image aim b) (λ d. tags_later p) levels c h

pub after_next : (level : Level) → levels_from (next level) ≡ after level
after_next Mem = refl
after_next Dump = refl
after_next Console = refl
after_next Ftrace = refl
after_next Pmsg = refl
after_next Order = refl
after_next Cpus = refl
after_next Parity = refl

-- a word that was not tried yet changes nothing of what is known
placed_with : (known : Known) (len : ℕ) (c : Candidate) (o : ZoneOrder) (n r : ℕ) → IsPlaced known len c
    → IsPlaced known len (record c { order = o; cpus = n; parity = r })
placed_with known len c o n r h = record {
  told = h.told;
  within = h.within;
  roomy = record {
    mem = h.roomy.mem;
    console = h.roomy.console;
    ftrace = h.roomy.ftrace;
    pmsg = h.roomy.pmsg;
  };
}

pub passed_with : (level : Level) (known : Known) (len : ℕ) (c : Candidate) (n : ℕ)
    → IsPassed (Some level) known len c → IsPassed (Some level) known len (having level c n)
passed_with Mem known len c n h = h
passed_with Dump known len c n h = h
passed_with Console known len c n h = h
passed_with Ftrace known len c n h = h
passed_with Pmsg known len c n h = h
passed_with Order known len c n h = placed_with known len c (order_of n) c.cpus c.parity h
passed_with Cpus known len c n h = placed_with known len c c.order n c.parity h
passed_with Parity known len c n h = record {
  placed = placed_with known len c c.order c.cpus n h.placed;
  some = h.some;
  few = h.few;
}

-- a word more is tried
pub fewer_left : (level : Level) (a b : Option Level) → a ≡ Some level → b ≡ next level
    → length (levels_from b) < length (levels_from a)
fewer_left level a b e f =
    let rest : length (levels_from b) ≡ length (after level) =
    ap (λ o. length (levels_from o)) f ∙ ap (length {A = Level}) (after_next level) in
    let whole : length (levels_from a) ≡ length (level ∷ after level) = ap (λ o. length (levels_from o)) e in
    omega (arith, rest, whole)

pub step_listed : (known : Known) (len : ℕ) (a b : Option Level) (level : Level) (c d : Candidate) (list : List ℕ)
    (k : ℕ)
    → a ≡ Some level → b ≡ next level → d ≡ having level c (get_or list k 0) → list ≡ values level known len c
    → k < length list → Over known len (levels_from a) (IsListed known len) c
    → Over known len (levels_from b) (IsListed known len) d
step_listed known len a b level c d list k ea eb ed el lt h =
    let n = get_or list k 0 in
    let member : is_one_of n (values level known len c) ≡ true =
    subst (λ xs. is_one_of n xs ≡ true) el (member_at list k lt) in
    let here : Over known len (level ∷ after level) (IsListed known len) c =
    subst (λ (o : Option Level). Over known len (levels_from o) (IsListed known len) c) ea h in
    let there : Over known len (after level) (IsListed known len) (having level c n) =
    over_next known len (IsListed known len) level c n here member in
    let at : Over known len (levels_from b) (IsListed known len) (having level c n) =
    subst (λ ls. Over known len ls (IsListed known len) (having level c n))
    (sym (ap (λ o. levels_from o) eb ∙ after_next level)) there in
    subst (λ (d : Candidate). Over known len (levels_from b) (IsListed known len) d) (sym ed) at

pub step_settled : (known : Known) (image : List ℕ) (aim : Aim) (b : Option Level) (level : Level) (c d : Candidate)
    (n : ℕ) (s : Progress) → b ≡ next level → d ≡ having level c n → SettledOver known image aim (levels_from b) d s
    → SettledOver known image aim (after level) (having level c n) s
step_settled known image aim b level c d n s eb ed h =
    subst (λ (d : Candidate). SettledOver known image aim (after level) d s) ed
    (subst (λ ls. SettledOver known image aim ls d s) (ap (λ o. levels_from o) eb ∙ after_next level) h)

pub one_more : (known : Known) (image : List ℕ) (aim : Aim) (level : Level) (c : Candidate) (list : List ℕ) (k : ℕ)
    (a b : Progress) → Advances a b
    → ((j : ℕ) → j < k → SettledOver known image aim (after level) (having level c (get_or list j 0)) a)
    → SettledOver known image aim (after level) (having level c (get_or list k 0)) b
    → (j : ℕ) → j < k + 1 → SettledOver known image aim (after level) (having level c (get_or list j 0)) b
one_more known image aim level c list k a b p h last =
    below_more (λ j. SettledOver known image aim (after level) (having level c (get_or list j 0)) b) k
    (λ j lt. over_later known image aim (after level) (having level c (get_or list j 0)) a b p (h j lt)) last

-- ---- what the walk came by

pub before_last : (known : Known) (len : ℕ) (Q : Candidate → Type 0) (c : Candidate) (r : Reached)
    → OverBefore known len [] Q c r
unfolding OverBefore
before_last known len Q c r = tt

count_nowhere : (level : Level) → count_of level nowhere ≡ 0
count_nowhere Mem = refl
count_nowhere Dump = refl
count_nowhere Console = refl
count_nowhere Ftrace = refl
count_nowhere Pmsg = refl
count_nowhere Order = refl
count_nowhere Cpus = refl
count_nowhere Parity = refl

count_counted : (level : Level) (r : Reached) (n : ℕ) → count_of level (counted level r n) ≡ n
count_counted Mem r n = refl
count_counted Dump r n = refl
count_counted Console r n = refl
count_counted Ftrace r n = refl
count_counted Pmsg r n = refl
count_counted Order r n = refl
count_counted Cpus r n = refl
count_counted Parity r n = refl

-- the counts of these words are the same
Same : List Level → Reached → Reached → Type 0
Same [] a b = Unit {0}
Same (level ∷ levels) a b = (count_of level a ≡ count_of level b) × Same levels a b

same_after : (level : Level) (r : Reached) (n : ℕ) → Same (after level) (counted level r n) r
unfolding Same
same_after Mem r n = (refl, (refl, (refl, (refl, (refl, (refl, (refl, tt)))))))
same_after Dump r n = (refl, (refl, (refl, (refl, (refl, (refl, tt))))))
same_after Console r n = (refl, (refl, (refl, (refl, (refl, tt)))))
same_after Ftrace r n = (refl, (refl, (refl, (refl, tt))))
same_after Pmsg r n = (refl, (refl, (refl, tt)))
same_after Order r n = (refl, (refl, tt))
same_after Cpus r n = (refl, tt)
same_after Parity r n = tt

before_same : (known : Known) (len : ℕ) (Q : Candidate → Type 0) (levels : List Level) (c : Candidate) (a b : Reached)
    → Same levels a b → OverBefore known len levels Q c b → OverBefore known len levels Q c a
unfolding OverBefore Same
before_same known len Q [] c a b same h = tt
before_same known len Q (level ∷ levels) c a b same h = (
  (λ n m. h.0 n (subst (λ k. is_one_of n (take k (values level known len c)) ≡ true) same.0 m)),
  subst (λ k. OverBefore known len levels Q (having level c (get_or (values level known len c) k 0)) a) (sym same.0)
      (before_same known len Q levels (having level c (get_or (values level known len c) (count_of level b) 0))
      a b same.1 h.1),
)

-- nothing is claimed of nowhere
pub before_nowhere : (known : Known) (len : ℕ) (Q : Candidate → Type 0) (levels : List Level) (c : Candidate)
    → OverBefore known len levels Q c nowhere
unfolding OverBefore
before_nowhere known len Q [] c = tt
before_nowhere known len Q (level ∷ levels) c = (
  (λ n m. absurd (true≢false (sym (subst (λ k. is_one_of n (take k (values level known len c)) ≡ true)
      (count_nowhere level) m)))),
  before_nowhere known len Q levels (having level c (get_or (values level known len c) (count_of level nowhere) 0)),
)

-- the walk ends at the value k of a word
pub before_here : (known : Known) (image : List ℕ) (aim : Aim) (level : Level) (c : Candidate) (s : Progress)
    (r : Reached)
    (list : List ℕ) (k : ℕ) → list ≡ values level known (length image) c
    → ((j : ℕ) → j < k → SettledOver known image aim (after level) (having level c (get_or list j 0)) s)
    → SettledBefore known image aim (after level) (having level c (get_or list k 0)) s r
    → SettledBefore known image aim (level ∷ after level) c s (counted level r k)
unfolding OverBefore
before_here known image aim level c s r list k e h inner =
    let len = length image in
    let Q : Candidate → Type 0 = TagsSettled known image aim s in
    let count = count_counted level r k in
    let first : (n : ℕ) → is_one_of n (take k list) ≡ true → Over known len (after level) Q (having level c n) =
    λ n m.
    let at = place_before k list n m in
    subst (λ (n : ℕ). Over known len (after level) Q (having level c n)) at.here (h at.place at.before) in
    let rest : OverBefore known len (after level) Q (having level c (get_or list k 0)) (counted level r k) =
    before_same known len Q (after level) (having level c (get_or list k 0)) (counted level r k) r
    (same_after level r k) inner in
    let both : ((n : ℕ) → is_one_of n (take k (values level known len c)) ≡ true
    → Over known len (after level) Q (having level c n))
    × OverBefore known len (after level) Q (having level c (get_or (values level known len c) k 0))
    (counted level r k) =
    subst (λ xs. ((n : ℕ) → is_one_of n (take k xs) ≡ true → Over known len (after level) Q (having level c n))
    × OverBefore known len (after level) Q (having level c (get_or xs k 0)) (counted level r k)) e (first, rest) in
    subst (λ m. ((n : ℕ) → is_one_of n (take m (values level known len c)) ≡ true
    → Over known len (after level) Q (having level c n))
    × OverBefore known len (after level) Q (having level c (get_or (values level known len c) m 0)) (counted level r k))
    (sym count) both

-- one word of a layout that the walk came by
split_word : (known : Known) (len : ℕ) (Q : Candidate → Type 0) (level : Level) (levels : List Level) (r : Reached)
    (c d : Candidate) → values level known len c ≡ values level known len d
    → OverBefore known len (level ∷ levels) Q c r → is_walked known len (level ∷ levels) r d ≡ true
    → Over known len levels Q (having level c (word level d))
    ⊎ (OverBefore known len levels Q (having level c (word level d)) r × (is_walked known len levels r d ≡ true))
unfolding OverBefore is_walked
split_word known len Q level levels r c d e h walked =
    step (is_one_of (word level d) (take (count_of level r) (values level known len d))) refl walked
  where
    step : (b : Bool) → is_one_of (word level d) (take (count_of level r) (values level known len d)) ≡ b
        → (b || ((word level d == get_or (values level known len d) (count_of level r) 0)
        && is_walked known len levels r d)) ≡ true
        → Over known len levels Q (having level c (word level d))
        ⊎ (OverBefore known len levels Q (having level c (word level d)) r × (is_walked known len levels r d ≡ true))
    step true is w =
        inl (h.0 (word level d) (subst (λ xs. is_one_of (word level d) (take (count_of level r) xs) ≡ true) (sym e) is))
    step false is w =
        let parts = and_parts (word level d == get_or (values level known len d) (count_of level r) 0) _ w in
        let same : word level d ≡ get_or (values level known len d) (count_of level r) 0 = eqb-true _ _ parts.0 in
        let there : OverBefore known len levels Q (having level c (get_or (values level known len d)
        (count_of level r) 0)) r =
        subst (λ xs. OverBefore known len levels Q (having level c (get_or xs (count_of level r) 0)) r) e h.1 in
        inr (subst (λ n. OverBefore known len levels Q (having level c n) r) (sym same) there, parts.1)

-- ---- what is not of the family is settled

chosen_in : (known : Known) (image : List ℕ) (c : Candidate) → is_of_family known image c ≡ true
    → is_chosen known (length image) c ≡ true
unfolding is_of_family
chosen_in known image c h =
    (and_parts (is_chosen known (length image) c) _ (and_parts _ (is_same_order c.byte_order (byte_order_for known image))
    (and_parts _ (has_layout c) h).0).0).0

-- (((((shape && told) && within) && order) && cpus) && parity)
pub record AreParts (known : Known) (len : ℕ) (c : Candidate) : Type 0 where
  pub shape : is_shape known len c ≡ true
  pub told : is_told_once known len c ≡ true
  pub within : nat_le c.mem len ≡ true
  pub order : is_one_of (order_number c.order) (orders_for known c) ≡ true
  pub cpus : is_one_of c.cpus (cpus_for known c.ftrace) ≡ true
  pub parity : is_one_of c.parity (known_or known.parity parities) ≡ true

pub parts_in : (known : Known) (image : List ℕ) (c : Candidate) → is_of_family known image c ≡ true
    → AreParts known (length image) c
unfolding is_chosen
parts_in known image c h =
    let len = length image in
    let r = and_parts _ (is_one_of c.parity (known_or known.parity parities)) (chosen_in known image c h) in
    let n = and_parts _ (is_one_of c.cpus (cpus_for known c.ftrace)) r.0 in
    let o = and_parts _ (is_one_of (order_number c.order) (orders_for known c)) n.0 in
    let w = and_parts _ (nat_le c.mem len) o.0 in
    let t = and_parts (is_shape known len c) (is_told_once known len c) w.0 in record {
      shape = t.0;
      told = t.1;
      within = w.1;
      order = o.1;
      cpus = n.1;
      parity = r.1;
    }

pub tag_in : (known : Known) (image : List ℕ) (c : Candidate) → is_of_family known image c ≡ true
    → is_one_of c.tag (tags_for known image c) ≡ true
unfolding is_of_family
tag_in known image c h = (and_parts (is_chosen known (length image) c) (is_one_of c.tag (tags_for known image c))
    (and_parts _ (is_same_order c.byte_order (byte_order_for known image)) (and_parts _ (has_layout c) h).0).0).1

pub same_in : (known : Known) (image : List ℕ) (c : Candidate) → is_of_family known image c ≡ true
    → is_same_order c.byte_order (byte_order_for known image) ≡ true
unfolding is_of_family
same_in known image c h = (and_parts _ (is_same_order c.byte_order (byte_order_for known image))
    (and_parts _ (has_layout c) h).0).1

order_back : (o : ZoneOrder) → order_of (order_number o) ≡ o
order_back FtracePmsg = refl
order_back PmsgFtrace = refl

-- the candidates of the walk have the order of bytes of the family
pub from_start : (known : Known) (image : List ℕ) (aim : Aim) (s : Progress) (c : Candidate) (b : ByteOrder) (t : ℕ)
    → is_of_family known image c ≡ true → b ≡ byte_order_for known image
    → TagsSettled known image aim s (record c { order = order_of (order_number c.order); tag = t; byte_order = b })
    → TagsSettled known image aim s (record c { tag = t })
from_start known image aim s c b t family start h =
    let same : b ≡ c.byte_order =
    start ∙ sym (is_order c.byte_order (byte_order_for known image) (same_in known image c family)) in
    subst (λ (b : ByteOrder). TagsSettled known image aim s (record c { tag = t; byte_order = b })) same
    (subst (λ (o : ZoneOrder). TagsSettled known image aim s (record c { order = o; tag = t; byte_order = b }))
    (order_back c.order) h)

-- a word changes no order of bytes
pub having_order : (level : Level) (c : Candidate) (n : ℕ) → (having level c n).byte_order ≡ c.byte_order
having_order Mem c n = refl
having_order Dump c n = refl
having_order Console c n = refl
having_order Ftrace c n = refl
having_order Pmsg c n = refl
having_order Order c n = refl
having_order Cpus c n = refl
having_order Parity c n = refl

-- whatever the order, the processors, the parity and the tag
strange : (known : Known) (image : List ℕ) (aim : Aim) (c : Candidate) (s : Progress)
    → ((o : ZoneOrder) (n r t : ℕ)
    → is_of_family known image (record c { order = o; cpus = n; parity = r; tag = t }) ≡ true
    → faults image (zones_of (record c { order = o; cpus = n; parity = r; tag = t })) ≤ aim.limit → ⊥)
    → SettledOver known image aim (Order ∷ Cpus ∷ Parity ∷ []) c s
unfolding Over
strange known image aim c s never = λ u e n a r b. record {
  all = λ t d. record { settled = λ family few other. absurd (never (order_of u) n r t family few) };
}

pub not_told : (known : Known) (image : List ℕ) (aim : Aim) (c : Candidate) (s : Progress)
    → is_told_once known (length image) c ≡ false → SettledOver known image aim (Order ∷ Cpus ∷ Parity ∷ []) c s
not_told known image aim c s e = strange known image aim c s (λ o n r t family few.
    absurd (true≢false (sym (parts_in known image (record c { order = o; cpus = n; parity = r; tag = t }) family).told ∙ e)))

pub not_within : (known : Known) (image : List ℕ) (aim : Aim) (c : Candidate) (s : Progress)
    → nat_le c.mem (length image) ≡ false → SettledOver known image aim (Order ∷ Cpus ∷ Parity ∷ []) c s
not_within known image aim c s e = strange known image aim c s (λ o n r t family few.
    absurd (true≢false (sym (parts_in known image (record c { order = o; cpus = n; parity = r; tag = t }) family).within ∙ e)))

pub without_room : (known : Known) (image : List ℕ) (aim : Aim) (c : Candidate) (s : Progress)
    → ((o : ZoneOrder) (n r t : ℕ) → has_layout (record c { order = o; cpus = n; parity = r; tag = t }) ≡ false)
    → SettledOver known image aim (Order ∷ Cpus ∷ Parity ∷ []) c s
without_room known image aim c s e = strange known image aim c s
    (λ o n r t family few. absurd (true≢false
    (sym (family_layout known image (record c { order = o; cpus = n; parity = r; tag = t }) family) ∙ e o n r t)))

count_ordered : (o : ZoneOrder) (a b : Row) → count_rows (ordered o a b) ≡ a.count + b.count
count_ordered FtracePmsg a b = omega arith
count_ordered PmsgFtrace a b = omega arith

few_rows : (c : Candidate) → c.cpus ≤ 64 → count_rows (ordered c.order (ftrace_row_of c) (pmsg_row_of c)) ≤ 65
few_rows c h = omega (
  arith,
  count_ordered c.order (ftrace_row_of c) (pmsg_row_of c),
  step (rounded c.ftrace == 0) (rounded c.pmsg == 0),
)
  where
    step : (a b : Bool) → (if a then 0 else c.cpus) + (if b then 0 else 1) ≤ 65
    step true true = omega arith
    step true false = omega arith
    step false true = omega (arith, h)
    step false false = omega (arith, h)

-- the dump zones and the console have too many faults
pub bad_begin : (known : Known) (image : List ℕ) (aim : Aim) (c : Candidate) (s : Progress)
    → ((p : Params) (rest : List Row) → count_rows rest ≤ 65
    → aim.limit < faults image (zones_from p 0 (dump_row_of c ∷ console_row_of c ∷ rest)))
    → SettledOver known image aim (Order ∷ Cpus ∷ Parity ∷ []) c s
bad_begin known image aim c s far = strange known image aim c s (λ o n r t family few.
    let d : Candidate = record c { order = o; cpus = n; parity = r; tag = t } in
    let good : ((d.cpus == 0) || nat_lt 64 d.cpus) ≡ false = false_from_ne_true ((d.cpus == 0) || nat_lt 64 d.cpus)
    (λ bad. true≢false (sym (family_layout known image d family) ∙ cpus_bad d bad)) in
    let at_most : d.cpus ≤ 64 = ltb-false _ _ (or_parts (d.cpus == 0) (nat_lt 64 d.cpus) good).1 in
    let h : aim.limit < faults image (zones_of d) = far (params_of d) (ordered o (ftrace_row_of d) (pmsg_row_of d))
    (few_rows d at_most) in omega (arith, h, few))

-- all zones together have
pub bad_rows : (known : Known) (image : List ℕ) (aim : Aim) (c : Candidate) (s : Progress)
    → ((p : Params) → aim.limit < faults image
    (zones_from p 0 (dump_row_of c ∷ console_row_of c ∷ ordered c.order (ftrace_row_of c) (pmsg_row_of c))))
    → SettledOver known image aim (Parity ∷ []) c s
unfolding Over
bad_rows known image aim c s far = λ r b. record {
  all = λ t d. record {
    settled = λ family few other.
        let e : Candidate = record c { parity = r; tag = t } in
        let h : aim.limit < faults image (zones_of e) = far (params_of e) in absurd (omega (arith, h, few));
  };
}

pub bad_cpus : (known : Known) (image : List ℕ) (aim : Aim) (c : Candidate) (s : Progress)
    → ((c.cpus == 0) || nat_lt 64 c.cpus) ≡ true → SettledOver known image aim (Parity ∷ []) c s
unfolding Over
bad_cpus known image aim c s bad = λ r b. record {
  all = λ t d. no_layout known image aim (record c { parity = r; tag = t }) s
      (cpus_bad (record c { parity = r; tag = t }) bad);
}

-- the first zone alone has too many faults with the marks
pub bad_first : (known : Known) (image : List ℕ) (aim : Aim) (c : Candidate) (s : Progress)
    → ((t : ℕ) → aim.limit < faults image (zones_of (record c { tag = t }))) → SettledOver known image aim [] c s
unfolding Over
bad_first known image aim c s far = record {
  all = λ t d. record { settled = λ family few other. absurd (omega (arith, far t, few)) };
}

pub good_cpus : (n : ℕ) → ((n == 0) || nat_lt 64 n) ≡ false → (1 ≤ n) × (n ≤ 64)
good_cpus n h =
    let parts = or_parts (n == 0) (nat_lt 64 n) h in (omega (arith, eqb-false n 0 parts.0), ltb-false _ _ parts.1)

-- ---- all of the family

pub both : (a b : Bool) → a ≡ true → b ≡ true → (a && b) ≡ true
both a b p q = ap (λ x. x && b) p ∙ q

pub chosen_of : (known : Known) (len : ℕ) (c : Candidate) → IsListed known len c → IsPlaced known len c
    → is_chosen known len c ≡ true
unfolding is_chosen
chosen_of known len c listed placed =
    let r = and_parts _ (is_one_of c.parity (known_or known.parity parities)) listed in
    let n = and_parts _ (is_one_of c.cpus (cpus_for known c.ftrace)) r.0 in
    let o = and_parts (is_shape known len c) (is_one_of (order_number c.order) (orders_for known c)) n.0 in
    both _ _ (both _ _ (both _ _ (both _ _ (both _ _ o.0 placed.told) (le-leb c.mem len placed.within)) o.1) n.1) r.1

few_orders : (k : Option ZoneOrder) (b : Bool) (n : ℕ)
    → is_one_of n (known_or (option_map order_number k) (if b then 0 ∷ [] else 0 ∷ 1 ∷ [])) ≡ true → n ≤ 1
few_orders None true n h = member_le (0 ∷ []) n 1 refl h
few_orders None false n h = member_le (0 ∷ 1 ∷ []) n 1 refl h
few_orders (Some FtracePmsg) b n h = member_le (0 ∷ []) n 1 refl h
few_orders (Some PmsgFtrace) b n h = member_le (1 ∷ []) n 1 refl h

number_back : (n : ℕ) → n ≤ 1 → order_number (order_of n) ≡ n
number_back zero h = refl
number_back (suc zero) h = refl
number_back (suc (suc n)) h = absurd (omega (arith, h))

-- a number of the list is that of its order
order_listed : (known : Known) (c : Candidate) (n : ℕ) → is_one_of n (orders_for known c) ≡ true
    → is_one_of (order_number (order_of n)) (orders_for known c) ≡ true
order_listed known c n h = subst (λ m. is_one_of m (orders_for known c) ≡ true)
    (sym (number_back n (few_orders known.order ((c.ftrace == 0) || (c.pmsg == 0)) n h))) h

pub start_listed : (known : Known) (len : ℕ) (start : Candidate)
    → Over known len (levels_from (Some Mem)) (IsListed known len) start
unfolding Over
start_listed known len start = λ m a d b o c f e p g u j n h r i.
    let order = order_listed known (record start { mem = m; dump = d; console = o; ftrace = f; pmsg = p }) u j in
    both _ _ (both _ _ (both _ _ (both _ _ (both _ _ (both _ _ (both _ _ a b) c) e) g) order) h) i

pub all_settled : (known : Known) (image : List ℕ) (aim : Aim) (start : Candidate) (s : Progress)
    → start.byte_order ≡ byte_order_for known image
    → SettledOver known image aim (levels_from (Some Mem)) start s → (c : Candidate) → IsSettled known image aim c s
unfolding Over
all_settled known image aim start s ordered h c = record {
  settled = λ family few other.
      let len = length image in
      let parts = parts_in known image c family in
      let p = and_parts _ (is_one_of c.pmsg (known_or known.pmsg (sizes len))) parts.shape in
      let f = and_parts _ (is_one_of c.ftrace (known_or known.ftrace (sizes len))) p.0 in
      let o = and_parts _ (is_one_of c.console (known_or known.console (sizes len))) f.0 in
      let d = and_parts (is_one_of c.mem (known_or known.mem (memories len)))
      (is_one_of c.dump (known_or known.dump (sizes len))) o.0 in
      let sized = h c.mem d.0 c.dump d.1 c.console o.1 c.ftrace f.1 c.pmsg p.1 (order_number c.order) parts.order
      c.cpus parts.cpus c.parity parts.parity in
      let tags : TagsSettled known image aim s (record c { tag = start.tag }) =
      from_start known image aim s c start.byte_order start.tag family ordered sized in
      (tags.all c.tag (tag_in known image c family)).settled family few other;
}

pub walked_settled : (known : Known) (image : List ℕ) (aim : Aim) (start : Candidate) (s : Progress) (r : Reached)
    → start.byte_order ≡ byte_order_for known image
    → SettledBefore known image aim all_levels start s r → (c : Candidate)
    → is_walked known (length image) all_levels r c ≡ true → IsSettled known image aim c s
unfolding Over is_walked
walked_settled known image aim start s r ordered h c walked = record {
  settled = λ family few other.
      let len = length image in
      let Q : Candidate → Type 0 = TagsSettled known image aim s in
      let parts = parts_in known image c family in
      let p = and_parts _ (is_one_of c.pmsg (known_or known.pmsg (sizes len))) parts.shape in
      let f = and_parts _ (is_one_of c.ftrace (known_or known.ftrace (sizes len))) p.0 in
      let o = and_parts _ (is_one_of c.console (known_or known.console (sizes len))) f.0 in
      let d = and_parts (is_one_of c.mem (known_or known.mem (memories len)))
      (is_one_of c.dump (known_or known.dump (sizes len))) o.0 in
      let t = tag_in known image c family in
      let c1 : Candidate = record start { mem = c.mem } in
      let c2 : Candidate = record c1 { dump = c.dump } in
      let c3 : Candidate = record c2 { console = c.console } in
      let c4 : Candidate = record c3 { ftrace = c.ftrace } in
      let c5 : Candidate = record c4 { pmsg = c.pmsg } in
      let u = order_number c.order in
      let c6 : Candidate = record c5 { order = order_of u } in
      let c7 : Candidate = record c6 { cpus = c.cpus } in
      let found : TagsSettled known image aim s
      (record c { order = order_of u; tag = start.tag; byte_order = start.byte_order }) = elim (split_word known len Q Mem
      (after Mem) r start c refl h walked) [
        | inl k ↦ k c.dump d.1 c.console o.1 c.ftrace f.1 c.pmsg p.1 u parts.order c.cpus parts.cpus c.parity parts.parity
        | inr k ↦ elim (split_word known len Q Dump (after Dump) r c1 c refl k.0 k.1) [
          | inl k ↦ k c.console o.1 c.ftrace f.1 c.pmsg p.1 u parts.order c.cpus parts.cpus c.parity parts.parity
          | inr k ↦ elim (split_word known len Q Console (after Console) r c2 c refl k.0 k.1) [
            | inl k ↦ k c.ftrace f.1 c.pmsg p.1 u parts.order c.cpus parts.cpus c.parity parts.parity
            | inr k ↦ elim (split_word known len Q Ftrace (after Ftrace) r c3 c refl k.0 k.1) [
              | inl k ↦ k c.pmsg p.1 u parts.order c.cpus parts.cpus c.parity parts.parity
              | inr k ↦ elim (split_word known len Q Pmsg (after Pmsg) r c4 c refl k.0 k.1) [
                | inl k ↦ k u parts.order c.cpus parts.cpus c.parity parts.parity
                | inr k ↦ elim (split_word known len Q Order (after Order) r c5 c refl k.0 k.1) [
                  | inl k ↦ k c.cpus parts.cpus c.parity parts.parity
                  | inr k ↦ elim (split_word known len Q Cpus (after Cpus) r c6 c refl k.0 k.1) [
                    | inl k ↦ k c.parity parts.parity
                    | inr k ↦ elim (split_word known len Q Parity (after Parity) r c7 c refl k.0 k.1) [
                      | inl k ↦ k
                      | inr k ↦ absurd (true≢false (sym k.1))
                    ]
                  ]
                ]
              ]
            ]
          ]
        ]
      ] in
      let tags : TagsSettled known image aim s (record c { tag = start.tag }) =
      from_start known image aim s c start.byte_order start.tag family ordered found in
      (tags.all c.tag t).settled family few other;
}

pub part_settled : (known : Known) (image : List ℕ) (aim : Aim) (start : Candidate) (s : Progress)
    (stop : Option Reached)
    → start.byte_order ≡ byte_order_for known image
    → MatchOption stop (SettledOver known image aim all_levels start s)
    (SettledBefore known image aim all_levels start s)
    → (c : Candidate) → is_walked known (length image) all_levels (unwrap_or stop nowhere) c ≡ true
    → IsSettled known image aim c s
part_settled known image aim start s None ordered h c walked = all_settled known image aim start s ordered h c
part_settled known image aim start s (Some r) ordered h c walked =
    walked_settled known image aim start s r ordered h c walked

pub stop_here : (known : Known) (image : List ℕ) (aim : Aim) (a : Option Level) (level : Level) (c : Candidate)
    (s : Progress) (r t : Reached) (list : List ℕ) (k : ℕ) → a ≡ Some level → t ≡ counted level r k
    → list ≡ values level known (length image) c
    → ((j : ℕ) → j < k → SettledOver known image aim (after level) (having level c (get_or list j 0)) s)
    → SettledBefore known image aim (after level) (having level c (get_or list k 0)) s r
    → SettledBefore known image aim (levels_from a) c s t
stop_here known image aim a level c s r t list k ea et el h inner =
    subst (λ (o : Option Level). SettledBefore known image aim (levels_from o) c s t) (sym ea)
    (subst (λ (t : Reached). SettledBefore known image aim (level ∷ after level) c s t) (sym et)
    (before_here known image aim level c s r list k el h inner))

pub step_before : (known : Known) (image : List ℕ) (aim : Aim) (b : Option Level) (level : Level) (c d : Candidate)
    (n : ℕ) (s : Progress) (r : Reached) → b ≡ next level → d ≡ having level c n
    → SettledBefore known image aim (levels_from b) d s r
    → SettledBefore known image aim (after level) (having level c n) s r
step_before known image aim b level c d n s r eb ed h =
    subst (λ (d : Candidate). SettledBefore known image aim (after level) d s r) ed
    (subst (λ ls. SettledBefore known image aim ls d s r) (ap (λ o. levels_from o) eb ∙ after_next level) h)

pub above : (a b : ℕ) → b < a → nat_le a b ≡ false
above a b h = lt-leb a b h
