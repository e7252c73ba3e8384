-- A turn, and the append that is cut, by their draws. The functions of `turns.rt` cite them.
use Rattle.std.proofs.Common.{◌≡◌, get_or, ℕ, zero, suc, ◌+◌, ◌<◌, ◌≤◌, ◌==◌, Bool, true, false, not, nat_lt, List, []}
use Rattle.std.proofs.Common.{◌∷◌, length, slice_get, Some, refl, sym, ap, ◌∙◌, arith}
use Rattle.std.proofs.lemmas.Bool.{lt-ltb, le-ltb}
use Rattle.zone_spec.specs.declared.Zone.{Zone}
use Rattle.zone_spec.specs.declared.ZoneName.{ZoneName}
use Rattle.machine_spec.specs.Zones.{dump_zones}
use Rattle.machine_spec.specs.LiveCalls.{Append, Dump}
use Rattle.script_spec.specs.Generated.{CutAppend, draw, draws, rings, cut_in, dump_of, drawn_append, drawn_dump}
use Rattle.script_spec.specs.Generated.{drawn_turn, drawn_cut}

-- what is drawn for a cut, in order
abbrev drawn_in_order : List ZoneName → ℕ → List CutAppend × ℕ
drawn_in_order names x =
    let c = draw (length names) x in
    let n = draw 700 c.1 in
    let b = draws (1 + n.0) 256 n.1 in
    let k = draw 900 b.1 in
    (cut_in (slice_get names c.0) b.0 (1 + k.0), k.1)

cut_is : (names : List ZoneName) (x : ℕ) → 0 < length names → drawn_cut names x ≡ drawn_in_order names x
unfolding drawn_cut
cut_is [] x some = absurd (omega (arith, some))
cut_is (ring ∷ others) x some = refl

pub cut_none : (names : List ZoneName) (x : ℕ) → length names ≡ 0 → drawn_cut names x ≡ ([], x)
unfolding drawn_cut
cut_none [] x none = refl
cut_none (ring ∷ others) x none = absurd (omega (arith, none))

pub cut_drawn : (names : List ZoneName) (x c y n z w k v : ℕ) (ring : ZoneName) (bytes : List ℕ) → 0 < length names
    → (c, y) ≡ draw (length names) x → (n, z) ≡ draw 700 y → (bytes, w) ≡ draws (1 + n) 256 z → (k, v) ≡ draw 900 w
    → slice_get names c ≡ Some ring
    → (record { ring = ring; bytes = bytes; stores = 1 + k } ∷ [], v) ≡ drawn_cut names x
cut_drawn names x c y n z w k v ring bytes some e1 e2 e3 e4 found =
    let order : drawn_in_order names x ≡ (cut_in (slice_get names c) bytes (1 + k), v) =
    rw (sym e1, sym e2, sym e3, sym e4) refl in
    sym (cut_is names x some ∙ (order ∙ rw found refl))

pub turn_append : (layout : List Zone) (q x t c y n z w : ℕ) (ring : ZoneName) (bytes : List ℕ)
    → t ≡ length (rings layout) → (c, y) ≡ draw (t + 1) x → (n, z) ≡ draw 700 y
    → c < t → slice_get (rings layout) c ≡ Some ring → (bytes, w) ≡ draws (1 + n) 256 z
    → (Append ring bytes ∷ [], w) ≡ drawn_turn layout q x
unfolding drawn_turn drawn_append
turn_append layout q x t c y n z w ring bytes same e1 e2 lt found e3 =
    let below : nat_lt c (length (rings layout)) ≡ true = lt-ltb c (length (rings layout)) (rw same at lt) in
    let first : draw (length (rings layout) + 1) x ≡ (c, y) = rw same at (sym e1) in
    rw (first, sym e2, below, found, sym e3) refl

pub turn_dump : (layout : List Zone) (q x t c y n z : ℕ) → t ≡ length (rings layout) → (c, y) ≡ draw (t + 1) x
    → (n, z) ≡ draw 700 y → t ≤ c → drawn_dump layout q (1 + n) z ≡ drawn_turn layout q x
unfolding drawn_turn
turn_dump layout q x t c y n z same e1 e2 ge =
    let above : nat_lt c (length (rings layout)) ≡ false = le-ltb c (length (rings layout)) (rw same at ge) in
    let first : draw (length (rings layout) + 1) x ≡ (c, y) = rw same at (sym e1) in
    rw (first, sym e2, above) refl

dump_drawn : (layout : List Zone) (q n x m y w : ℕ) (body : List ℕ) → (m, y) ≡ draw 1000000 x
    → (body, w) ≡ draws n 256 y → drawn_dump layout q n x ≡ (dump_of layout q m body, w)
unfolding drawn_dump
dump_drawn layout q n x m y w body e1 e2 = rw (sym e1, sym e2) refl

pub dump_there : (layout : List Zone) (q n x m y w : ℕ) (body : List ℕ) (dumps : Bool)
    → (dump_zones layout == 0) ≡ not dumps → dumps ≡ true → (m, y) ≡ draw 1000000 x → (body, w) ≡ draws n 256 y
    → (Dump (record { secs = q; micros = m }) false body ∷ [], w) ≡ drawn_dump layout q n x
dump_there layout q n x m y w body dumps e some e1 e2 =
    let f : (dump_zones layout == 0) ≡ false = rw some at e in
    sym (dump_drawn layout q n x m y w body e1 e2 ∙ rw f refl)

pub dump_nowhere : (layout : List Zone) (q n x m y w : ℕ) (body : List ℕ) (dumps : Bool)
    → (dump_zones layout == 0) ≡ not dumps → dumps ≡ false → (m, y) ≡ draw 1000000 x → (body, w) ≡ draws n 256 y
    → ([], w) ≡ drawn_dump layout q n x
dump_nowhere layout q n x m y w body dumps e none e1 e2 =
    let f : (dump_zones layout == 0) ≡ true = rw none at e in
    sym (dump_drawn layout q n x m y w body e1 e2 ∙ rw f refl)

pub found_at : {A : Type 0} (xs : List A) (i : ℕ) (x : A) → i < length xs → x ≡ get_or xs i x → slice_get xs i ≡ Some x
found_at [] i x lt same = absurd (omega (arith, lt))
found_at (y ∷ ys) zero x lt same = ap Some (sym same)
found_at (y ∷ ys) (suc i) x lt same = found_at ys i x (omega (arith, lt)) same
