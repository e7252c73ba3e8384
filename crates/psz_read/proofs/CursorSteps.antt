-- One dump zone more, and the cursor over all dump zones. For `cursor_of` and `next_zone`.
use Rattle.std.proofs.Common.{◌≡◌, ℕ, ◌+◌, ◌<◌, ◌≤◌, sym, ap, ◌∙◌, arith, List, length, drop}
use Rattle.std.specs.Prelude.{◌==◌, if◌then◌else◌}
use Rattle.std.specs.List.{fold}
use Rattle.psz_spec.specs.declared.Sizes.{Sizes}
use Rattle.psz_spec.specs.declared.Zone.{Zone}
use Rattle.psz_spec.specs.declared.Machine.{Machine}
use Rattle.psz_spec.specs.declared.Cursor.{Cursor}
use Rattle.psz_spec.specs.Layouts.{zones_of, dump_count}
use Rattle.psz_spec.specs.Cursor.{with_zone, first_cursor, dump_zones, cursor_of, next_zone}
use Rattle.psz_read.specs.declared.zones.Run.{Run}
use Rattle.psz_read.specs.Runs.{run_zones, run_zone, dump_run}
use Rattle.psz_read.proofs.Rests.{fold_step, fold_end}
use Rattle.psz_read.proofs.RunZones.{run_inside, count_of_run, dump_zones_as_run, dump_zones_count}

pub cursor_more : (machine : Machine) (image : List ℕ) (run : Run) (i : ℕ) (c k whole : Cursor) → i < run.count
    → k ≡ with_zone machine image c (run_zone run i)
    → fold (with_zone machine image) c (drop i (run_zones run)) ≡ whole
    → fold (with_zone machine image) k (drop (i + 1) (run_zones run)) ≡ whole
cursor_more machine image run i c k whole lt e h =
    ap (λ (x : Cursor). fold (with_zone machine image) x (drop (i + 1) (run_zones run))) e
    ∙ sym (fold_step (with_zone machine image) c (run_zones run) i (run_zone run i) (run_inside run i lt)) ∙ h

whole_cursor : (machine : Machine) (image : List ℕ) (s : Sizes) (run : Run) → run ≡ dump_run s
    → fold (with_zone machine image) first_cursor (run_zones run) ≡ cursor_of machine (zones_of s) image
unfolding cursor_of
whole_cursor machine image s run e =
    ap (λ (r : Run). fold (with_zone machine image) first_cursor (run_zones r)) e
    ∙ ap (λ (zs : List Zone). fold (with_zone machine image) first_cursor zs) (sym (dump_zones_as_run s))

pub cursor_end : (machine : Machine) (image : List ℕ) (s : Sizes) (run : Run) (i : ℕ) (c : Cursor) → run ≡ dump_run s
    → run.count ≤ i
    → fold (with_zone machine image) c (drop i (run_zones run))
    ≡ fold (with_zone machine image) first_cursor (run_zones run)
    → c ≡ cursor_of machine (zones_of s) image
cursor_end machine image s run i c e past h =
    sym (fold_end (with_zone machine image) c (run_zones run) i
    (let n : length (run_zones run) ≡ run.count = count_of_run run in omega (arith, n, past)))
    ∙ h ∙ whole_cursor machine image s run e

pub next_is : (machine : Machine) (image : List ℕ) (s : Sizes) (c : Cursor) (count : ℕ)
    → c ≡ cursor_of machine (zones_of s) image → count ≡ dump_count s
    → (if c.next == count then 0 else c.next) ≡ next_zone machine (zones_of s) image
next_is machine image s c count e f =
    ap (λ (x : Cursor). if x.next == count then 0 else x.next) e
    ∙ ap (λ (n : ℕ). if (cursor_of machine (zones_of s) image).next == n then 0
    else (cursor_of machine (zones_of s) image).next) (let g : count ≡ length (dump_zones (zones_of s)) =
    f ∙ sym (dump_zones_count s) in g)
