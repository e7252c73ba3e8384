-- What a contract sees of a flight, and what is so of every flight
use Rattle.std.specs.Prelude.{◌≡◌, ◌≤◌, length}
use Rattle.store_steps.specs.Flying.{Flying}
use Rattle.store_steps.specs.Machine.{IsKept}
use Rattle.prz_write.specs.declared.progress.Progress.{Progress}
use Rattle.prz_write.specs.Calls.{call_seen, kind_seen, line_seen}

abbrev pub seen : Progress → Flying
seen p = record {
  zone = p.steps.zone;
  words = p.steps.words;
  call = call_seen p.call;
  made = p.steps.made;
  place = p.steps.place;
}

-- its steps are those of its call
pub record IsHeld (p : Progress) : Type 0 where
  pub kept : IsKept (seen p)
  pub kind : p.steps.kind ≡ kind_seen p.call
  pub line : length (line_seen p.call) ≤ 36
