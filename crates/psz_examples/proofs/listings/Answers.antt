-- What the next boot lists: the rows compute. By `Worked`.
use Rattle.psz_examples.proofs.Worked.{listing, total, negative, unknown, name, next, all_listed, erased_counts}
use Rattle.psz_examples.proofs.Worked.{negative_time, panic_count}
use Rattle.psz_examples.proofs.Worked.{big_listed, big_next, other_order}
use Rattle.psz_examples.proofs.listings.Goals as goal

pub returns-clause-listing : goal.returns-clause-listing
returns-clause-listing c = listing

pub returns-clause-total : goal.returns-clause-total
returns-clause-total c = total

pub returns-clause-negative : goal.returns-clause-negative
returns-clause-negative c = negative

pub returns-clause-unknown : goal.returns-clause-unknown
returns-clause-unknown c = unknown

pub returns-clause-name : goal.returns-clause-name
returns-clause-name c = name

pub returns-clause-next : goal.returns-clause-next
returns-clause-next c = next

pub returns-clause-all_listed : goal.returns-clause-all_listed
returns-clause-all_listed c = all_listed

pub returns-clause-erased_counts : goal.returns-clause-erased_counts
returns-clause-erased_counts c = erased_counts

pub returns-clause-negative_time : goal.returns-clause-negative_time
returns-clause-negative_time c = negative_time

pub returns-clause-panic_count : goal.returns-clause-panic_count
returns-clause-panic_count c = panic_count

pub returns-clause-big_listed : goal.returns-clause-big_listed
returns-clause-big_listed c = big_listed

pub returns-clause-big_next : goal.returns-clause-big_next
returns-clause-big_next c = big_next

pub returns-clause-other_order : goal.returns-clause-other_order
returns-clause-other_order c = other_order
