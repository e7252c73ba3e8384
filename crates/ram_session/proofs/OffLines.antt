-- Lines while the machine is off
use Rattle.std.proofs.Common.{◌≡◌, ℕ, ◌<◌, ◌≤◌, true, false, nat_lt, List, [], length, Ok, Err, refl, arith}
use Rattle.std.proofs.lemmas.Bool.Decides.{nat_tests}
use Rattle.zone_spec.specs.declared.Zone.{Zone}
use Rattle.machine_spec.specs.States.{OffState, Off as OffOf, Live as LiveOf}
use Rattle.machine_spec.specs.Off.{flipped}
use Rattle.ramoops.specs.OffSeen.{OffSeen, StandsOff}
use Rattle.grammar_spec.specs.declared.line.Line.TheVariants.{Flip}
use Rattle.script_spec.specs.Scripts.{store_line}
use Rattle.script_spec.specs.declared.Cause.TheVariants.{OutOfImage}
use Rattle.ram_session.specs.Sessions.{Off, LineDone, LineRefused}

nat_lt-true : {a b : ℕ} → a < b → nat_lt a b ≡ true
nat_lt-true h = grind (arith, nat_tests)

nat_lt-false : {a b : ℕ} → b ≤ a → nat_lt a b ≡ false
nat_lt-false h = grind (arith, nat_tests)

flip_line : (layout : List Zone) (s : OffState) (place mask : ℕ) → place < length s.image
    → store_line layout (OffOf s) (Flip place mask) ≡ Ok (record { session = OffOf (flipped s place mask); text = [] })
unfolding store_line
flip_line layout s place mask h = rw (nat_lt-true h) refl

flip_beyond : (layout : List Zone) (s : OffState) (place mask : ℕ) → length s.image ≤ place
    → store_line layout (OffOf s) (Flip place mask) ≡ Err OutOfImage
unfolding store_line
flip_beyond layout s place mask h = rw (nat_lt-false h) refl

pub flip_done : (old new : OffSeen) (place mask : ℕ) → place < old.mem
    → ((layout : List Zone) (mem : ℕ) (s : OffState) → StandsOff layout mem old s
    → StandsOff layout mem new (flipped s place mask)) → LineDone (Off old) (Flip place mask) (Off new) []
flip_done old new place mask below flips layout mem (OffOf s) lies stands state =
    let inside : place < length s.image = rw (state.image.0, ← stands.same_mem) below in
    record {
      next = OffOf (flipped s place mask);
      done = flip_line layout s place mask inside;
      stands = flips layout mem s stands;
    }
flip_done old new place mask below flips layout mem (LiveOf s) lies stands state = absurd stands

pub flip_refused : (old : OffSeen) (place mask : ℕ) → old.mem ≤ place
    → LineRefused (Off old) (Flip place mask) OutOfImage
flip_refused old place mask beyond layout mem (OffOf s) lies stands state =
    let outside : length s.image ≤ place = rw (state.image.0, ← stands.same_mem) beyond in
    flip_beyond layout s place mask outside
flip_refused old place mask beyond layout mem (LiveOf s) lies stands state = absurd stands
