-- A layout's zones but for their tags
use Rattle.std.proofs.Common.{◌≡◌, ℕ, zero, suc, ◌+◌, ◌-◌, ◌*◌, Bool, false, ◌||◌, List, [], ◌∷◌, ◌++◌, map, Option}
use Rattle.std.proofs.Common.{Some, None, refl, sym, ap, ◌∙◌}
use Rattle.layout_spec.specs.declared.Known.{Known}
use Rattle.layout_spec.specs.Family.{is_tagged, tag_read, tags_for, known_or}
use Rattle.std.specs.Prelude.{◌==◌, if◌then◌else◌, filter, is_ok, is_none, nat_lt, nat_le}
use Rattle.std.specs.List.{list_any, range_with_len}
use Rattle.std.proofs.lemmas.List.Folds.{list_any-append}
use Rattle.zone_spec.specs.declared.Kind.{Kind}
use Rattle.zone_spec.specs.declared.Zone.{Zone}
use Rattle.zone_spec.specs.declared.params.Params.{Params}
use Rattle.zone_spec.specs.declared.params.Row.{Row}
use Rattle.zone_spec.specs.declared.params.LayoutFault.{LayoutFault}
use Rattle.zone_spec.specs.declared.params.LayoutFault.TheVariants.{ZoneTooSmall, EccInvalid}
use Rattle.zone_spec.specs.Numbers.{header_len}
use Rattle.zone_spec.specs.Layout.{zone_at, zones_from, parameter_faults, first_fault, ok_unless, layout_of}
use Rattle.layout_spec.specs.declared.Candidate.{Candidate}
use Rattle.layout_spec.specs.Laid.{params_of, rows_of, zones_of, has_layout}

row_any : (f : Zone → Bool) (g h : ℕ → Zone) → ((i : ℕ) → f (g i) ≡ f (h i)) → (a n : ℕ)
    → list_any f (map g (range_with_len a n)) ≡ list_any f (map h (range_with_len a n))
row_any f g h e a zero = refl
row_any f g h e a (suc n) = ap (λ b. b || list_any f (map g (range_with_len (a + 1) n))) (e a)
    ∙ ap (λ b. f (h a) || b) (row_any f g h e (a + 1) n)

-- a test that does not see the difference of two lists of parameters
any_same : (f : Zone → Bool) (p q : Params)
    → ((k : Kind) (s i at : ℕ) → f (zone_at p k s i at) ≡ f (zone_at q k s i at)) → (at : ℕ) (rows : List Row)
    → list_any f (zones_from p at rows) ≡ list_any f (zones_from q at rows)
unfolding zones_from
any_same f p q e at [] = refl
any_same f p q e at (row ∷ rows) =
    let g : ℕ → Zone = λ i. zone_at p row.kind row.size i (at + i * row.size) in
    let h : ℕ → Zone = λ i. zone_at q row.kind row.size i (at + i * row.size) in
    let next = at + row.count * row.size in
    list_any-append f (map g (range_with_len 0 row.count)) (zones_from p next rows)
    ∙ ap (λ b. b || list_any f (zones_from p next rows))
    (row_any f g h (λ i. e row.kind row.size i (at + i * row.size)) 0 row.count)
    ∙ ap (λ b. list_any f (map h (range_with_len 0 row.count)) || b) (any_same f p q e next rows)
    ∙ sym (list_any-append f (map h (range_with_len 0 row.count)) (zones_from q next rows))

ok_none : (o : Option LayoutFault) (zones : List Zone) → is_ok (ok_unless o zones) ≡ is_none o
ok_none None zones = refl
ok_none (Some fault) zones = refl

abbrev small : Zone → Bool
small z = nat_lt z.size 256

abbrev tight : Zone → Bool
tight z = nat_le (z.size - header_len) ((z.blocks + 1) * z.parity) || nat_lt z.cap 64

-- whether there is a layout does not depend on the tag
pub layout_untagged : (c : Candidate) (t : ℕ) → has_layout (record c { tag = t }) ≡ has_layout (record c { tag = 0 })
unfolding layout_of
layout_untagged c t =
    let p = params_of (record c { tag = t }) in
    let q = params_of (record c { tag = 0 }) in
    let fault : Bool → Bool → Option LayoutFault = λ a b.
    first_fault (parameter_faults q ++ (a, ZoneTooSmall) ∷ (b, EccInvalid) ∷ []) in
    ok_none (fault (list_any small (zones_of (record c { tag = t }))) (list_any tight (zones_of (record c { tag = t }))))
    (zones_of (record c { tag = t }))
    ∙ ap (λ a. is_none (fault a (list_any tight (zones_of (record c { tag = t })))))
    (any_same small p q (λ k s i at. refl) 0 (rows_of c))
    ∙ ap (λ b. is_none (fault (list_any small (zones_of (record c { tag = 0 }))) b))
    (any_same tight p q (λ k s i at. refl) 0 (rows_of c))
    ∙ sym (ok_none
    (fault (list_any small (zones_of (record c { tag = 0 }))) (list_any tight (zones_of (record c { tag = 0 }))))
    (zones_of (record c { tag = 0 })))

-- the tags that are tried
pub tags_are : (known : Known) (image : List ℕ) (c : Candidate) (zones : List Zone) (tags : List ℕ)
    → (c.ftrace == 0) ≡ false → known.tag ≡ None → zones ≡ zones_of (record c { tag = 0 })
    → tags ≡ 0x20000 ∷ map (tag_read image) (filter (is_tagged image) zones) → tags ≡ tags_for known image c
tags_are known image c zones tags some none e are =
    are ∙ ap (λ (zs : List Zone). 0x20000 ∷ map (tag_read image) (filter (is_tagged image) zs)) e
    ∙ sym (ap (λ (k : Option ℕ). known_or k
    (0x20000 ∷ map (tag_read image) (filter (is_tagged image) (zones_of (record c { tag = 0 }))))) none)
    ∙ sym (ap (λ (b : Bool). if b then 0 ∷ [] else known_or known.tag
    (0x20000 ∷ map (tag_read image) (filter (is_tagged image) (zones_of (record c { tag = 0 }))))) some)
