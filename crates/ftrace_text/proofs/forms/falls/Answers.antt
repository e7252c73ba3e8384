-- One entry more falls or not, and none is left in the end. For `falls`.
use Rattle.std.proofs.Common.{◌≡◌, ℕ, Bool, true, false, nat_lt, ◌+◌, ◌<◌, ◌≤◌, [], length, get_or, drop, arith, ap, ap₂, sym, ◌∙◌}
use Rattle.std.specs.Prelude.{if◌then◌else◌}
use Rattle.std.proofs.Math.ListN.{drop_of_length-le}
use Rattle.zone_spec.specs.Ftrace.{entry_time}
use Rattle.ftrace_zone.specs.declared.Entry.{Entry}
use Rattle.ftrace_zone.specs.EntryBytes.{entry_bytes}
use Rattle.ftrace_text.proofs.Falls.{fall, falls_from, falls-step, falls-none}
use Rattle.std.proofs.lemmas.Bool.{lt-ltb, le-ltb}
use Rattle.ftrace_text.proofs.forms.falls.Goals as goal
use Rattle.ftrace_text.proofs.forms.falls.Goals.{then-time-last, else-time-last}

abbrev no_entry : Entry
no_entry = record { addr = 0; parent = 0; word = 0 }

-- one, or none
abbrev one_if : Bool → ℕ
one_if b = if b then 1 else 0

plus-none : (n : ℕ) → n ≡ n + 0
plus-none n = omega arith

fall-small : (time before : ℕ) → fall time before ≤ 1
fall-small time before = by (nat_lt time before)
  where
    by : (b : Bool) → one_if b ≤ 1
    by true = omega arith
    by false = omega arith

pub loop-entry-preserved : goal.loop-entry-preserved
loop-entry-preserved c =
    let e = get_or c.args.all.now c.loop-entry.entry-index no_entry in
    let step = falls-step c.args.all.now no_entry c.loop-entry.entry-index c.loop-entry.last c.loop-entry-test.true in
    let now : c.if-time-last.count ≡ c.loop-entry.count + fall c.time.result c.loop-entry.last =
    elim c.if-time-last.branch [
      | then-time-last w ↦
          w.count-is ∙ ap (λ b. c.loop-entry.count + one_if b) (sym (lt-ltb c.time.result c.loop-entry.last w.if-time-last.true))
      | else-time-last w ↦
          w.count-is ∙ plus-none c.loop-entry.count
          ∙ ap (λ b. c.loop-entry.count + one_if b) (sym (le-ltb c.time.result c.loop-entry.last w.if-time-last.false))
    ] in
    let least : fall c.time.result c.loop-entry.last ≤ 1 = fall-small c.time.result c.loop-entry.last in
    let same : c.time.result ≡ entry_time (entry_bytes e) = c.time.ensures.time in
    let last : c.time-last.result ≡ entry_time (entry_bytes e) = c.time-last.ensures.time in
    let whole : c.loop-entry.count + (fall c.time.result c.loop-entry.last
    + falls_from c.time-last.result (drop (c.loop-entry.entry-index + 1) c.args.all.now)) ≡ falls_from 0 c.args.all.now =
    ap₂ (λ n m. c.loop-entry.count + (fall n c.loop-entry.last
    + falls_from m (drop (c.loop-entry.entry-index + 1) c.args.all.now))) same last
    ∙ ap (λ n. c.loop-entry.count + n) (sym step) ∙ c.loop-entry.invariant.counted in
    record {
      counted = omega (arith, now, whole);
      few = omega (arith, now, least, c.loop-entry.invariant.few);
    }

pub returns-clause-falls : goal.returns-clause-falls
returns-clause-falls c =
    let end : drop c.loop-entry.entry-index c.args.all.now ≡ [] = drop_of_length-le c.args.all.now {i = c.loop-entry.entry-index} (omega (arith, c.loop-entry-test.false)) in
    let none = ap (falls_from c.loop-entry.last) end ∙ falls-none c.loop-entry.last in
    omega (arith, c.loop-entry.invariant.counted, none)
