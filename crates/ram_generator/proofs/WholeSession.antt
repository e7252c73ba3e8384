-- The whole session: its first boot, its image and its summary
use Rattle.std.proofs.Common.{◌≡◌, ℕ, List, replicate, refl, sym, ap, ◌∙◌}
use Rattle.std.specs.List.{range_with_len}
use Rattle.zone_spec.specs.declared.Zone.{Zone}
use Rattle.zone_spec.specs.Layouts.{IsLayout}
use Rattle.machine_spec.specs.States.{LiveState, Session, Live}
use Rattle.machine_spec.specs.Off.{fresh}
use Rattle.machine_spec.specs.Boot.{booted}
use Rattle.machine_spec.specs.Stop.{live_image, session_image}
use Rattle.machine_spec.specs.Report.{ZoneReport}
use Rattle.ramoops.specs.LiveSeen.{LiveSeen, StandsLive}
use Rattle.script_spec.specs.Generated.{Generated, first_boot, round, generated, summary}
use Rattle.ram_generator.specs.declared.counts.Counts.{Counts}
use Rattle.ram_generator.specs.Counting.{none_counted, counted}
use Rattle.ram_generator.specs.Sessions.{Runs, GoesOver, IsUp}

-- a store of zeros that is booted
first_runs : (layout : List Zone) (mem : ℕ) (v : LiveSeen) (told : List ZoneReport)
    → IsUp layout mem (fresh layout (replicate mem 0)) v told
    → Runs layout mem v none_counted (first_boot layout mem)
first_runs layout mem v told up = record {
  now = booted layout (fresh layout (replicate mem 0));
  is = refl;
  stands = up.stands;
  sound = up.sound;
}

pub all_runs : (layout : List Zone) (mem n y : ℕ) (v w : LiveSeen) (c : Counts) (told : List ZoneReport)
    → IsLayout layout mem → IsUp layout mem (fresh layout (replicate mem 0)) v told
    → GoesOver (round layout) (range_with_len 0 8) layout v none_counted n w c y
    → Runs layout mem w c (generated layout mem n)
all_runs layout mem n y v w c told lies up goes =
    (goes mem (first_boot layout mem) lies (first_runs layout mem v told up)).runs

pub image_left : (layout : List Zone) (mem : ℕ) (v : LiveSeen) (image : List ℕ) (c : Counts) (g : Generated)
    → Runs layout mem v c g → ((s : LiveState) → StandsLive layout mem v s → image ≡ live_image s)
    → image ≡ session_image g.session
image_left layout mem v image c g r same = same r.now r.stands
    ∙ sym (ap (λ (h : Generated). session_image h.session) r.is)

pub text_left : (layout : List Zone) (mem n : ℕ) (v : LiveSeen) (c : Counts) (g : Generated) (text : List ℕ)
    → Runs layout mem v c g → ((session : Session) → text ≡ summary n layout (counted session c))
    → text ≡ summary n layout g
text_left layout mem n v c g text r told = told (Live r.now) ∙ ap (summary n layout) (sym r.is)
