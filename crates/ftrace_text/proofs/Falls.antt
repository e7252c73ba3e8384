-- One entry after another, whose times fall or not
use Rattle.std.proofs.Common.{◌≡◌, ℕ, ◌+◌, ◌<◌, List, [], ◌∷◌, length, get_or, drop, map, refl, sym, ap, ◌∙◌, add-one, nat_lt}
use Rattle.std.specs.Prelude.{if◌then◌else◌}
use Rattle.std.proofs.Math.Seq.{drop-cons}
use Rattle.zone_spec.specs.Ftrace.{entry_time}
use Rattle.ftrace_zone.specs.declared.Entry.{Entry}
use Rattle.ftrace_zone.specs.EntryBytes.{entry_bytes}
use Rattle.ftrace_spec.specs.Forms.{falls_after}

abbrev pub falls_from : ℕ → List Entry → ℕ
falls_from time all = falls_after time (map entry_bytes all)

-- whether one falls, as a count
abbrev pub fall : ℕ → ℕ → ℕ
fall time before = if nat_lt time before then 1 else 0

falls-cons : (e : Entry) (all : List Entry) (time : ℕ)
    → falls_from time (e ∷ all)
    ≡ fall (entry_time (entry_bytes e)) time + falls_from (entry_time (entry_bytes e)) all
unfolding falls_after
falls-cons e all time = refl

pub falls-step : (all : List Entry) (d : Entry) (i time : ℕ) → i < length all
    → falls_from time (drop i all)
    ≡ fall (entry_time (entry_bytes (get_or all i d))) time
    + falls_from (entry_time (entry_bytes (get_or all i d))) (drop (i + 1) all)
falls-step all d i time below =
    ap (falls_from time) (drop-cons all i d below
    ∙ ap (λ n. get_or all i d ∷ drop n all) (sym (add-one i)))
    ∙ falls-cons (get_or all i d) (drop (i + 1) all) time

pub falls-none : (time : ℕ) → falls_from time [] ≡ 0
unfolding falls_after
falls-none time = refl
