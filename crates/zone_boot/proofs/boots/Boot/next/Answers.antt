-- What is handed out is the front of what is left, never nothing before the end. For `Boot::next`.
use Rattle.zone_boot.proofs.BootHandOut.{gives-stands, gives-handed, gives-some, gives-finished}
use Rattle.zone_boot.proofs.boots.Boot.next.Goals as goal

pub returns-clause-stands : goal.returns-clause-stands
returns-clause-stands c = λ before b. gives-stands _ _ _ _ c.go_on.ensures.gives before b

pub returns-clause-handed : goal.returns-clause-handed
returns-clause-handed c = λ before b. gives-handed _ _ _ _ c.go_on.ensures.gives before b

pub returns-clause-some : goal.returns-clause-some
returns-clause-some c = λ before b. gives-some _ _ _ _ c.go_on.ensures.gives before b c.go_on.ensures.some

pub returns-clause-finished : goal.returns-clause-finished
returns-clause-finished c = λ before b. gives-finished _ _ _ _ c.go_on.ensures.gives before b c.go_on.ensures.some
