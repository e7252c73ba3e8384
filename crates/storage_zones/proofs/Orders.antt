-- The order in which the kernel reads loses no zone
use Rattle.std.proofs.Common.{◌≡◌, ℕ, ◌+◌, List, [], ◌∷◌, ◌++◌, length, Bool, true, false, refl, arith, length-append}
use Rattle.std.specs.Prelude.{if◌then◌else◌}
use Rattle.psz_spec.specs.declared.Kind.{Kind}
use Rattle.psz_spec.specs.declared.Kind.TheVariants.{Pmsg, Console, Ftrace, Dump}
use Rattle.psz_spec.specs.declared.Zone.{Zone}
use Rattle.psz_spec.specs.Records.{is_of}
use Rattle.psz_spec.specs.Parts.{read_order, of_kind}

abbrev one : Bool → ℕ
one b = if b then 1 else 0

kept : (b : Bool) (z : Zone) (xs : List Zone) → length (if b then z ∷ xs else xs) ≡ one b + length xs
kept true z xs = omega arith
kept false z xs = omega arith

one_kind : (k : Kind) → one (is_of Dump k) + one (is_of Ftrace k) + one (is_of Pmsg k) + one (is_of Console k) ≡ 1
one_kind Pmsg = refl
one_kind Console = refl
one_kind Ftrace = refl
one_kind Dump = refl

abbrev count : Kind → List Zone → ℕ
count kind zones = length (of_kind kind zones)

counts : (zones : List Zone)
    → count Dump zones + count Ftrace zones + count Pmsg zones + count Console zones ≡ length zones
counts [] = refl
counts (z ∷ zs) =
    let d : count Dump (z ∷ zs) ≡ one (is_of Dump z.kind) + count Dump zs =
    kept (is_of Dump z.kind) z (of_kind Dump zs) in
    let f : count Ftrace (z ∷ zs) ≡ one (is_of Ftrace z.kind) + count Ftrace zs =
    kept (is_of Ftrace z.kind) z (of_kind Ftrace zs) in
    let p : count Pmsg (z ∷ zs) ≡ one (is_of Pmsg z.kind) + count Pmsg zs =
    kept (is_of Pmsg z.kind) z (of_kind Pmsg zs) in
    let c : count Console (z ∷ zs) ≡ one (is_of Console z.kind) + count Console zs =
    kept (is_of Console z.kind) z (of_kind Console zs) in
    let o = one_kind z.kind in
    let rest : count Dump zs + count Ftrace zs + count Pmsg zs + count Console zs ≡ length zs = counts zs in
    omega (arith, d, f, p, c, o, rest)

pub order_len : (zones : List Zone) → length (read_order zones) ≡ length zones
unfolding read_order
order_len zones =
    let a = length-append (of_kind Dump zones) (of_kind Ftrace zones) in
    let b = length-append (of_kind Dump zones ++ of_kind Ftrace zones) (of_kind Pmsg zones) in
    let c = length-append (of_kind Dump zones ++ of_kind Ftrace zones ++ of_kind Pmsg zones) (of_kind Console zones) in
    let all = counts zones in
    omega (arith, a, b, c, all)
