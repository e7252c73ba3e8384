-- What the insertion of one record more keeps. By `NewestFirst`.
use Rattle.report_html.proofs.NewestFirst.{newest-moved, newest-sorted, newest-stable}
use Rattle.report_html.proofs.laws.the_newest_come_first.Goals as goal

pub returns-clause-all : goal.returns-clause-all
returns-clause-all c = newest-moved

pub returns-clause-sorted : goal.returns-clause-sorted
returns-clause-sorted c = newest-sorted

pub returns-clause-stable : goal.returns-clause-stable
returns-clause-stable c = newest-stable
