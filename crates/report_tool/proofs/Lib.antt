-- The lemmas on whole reports, on words of a better layout, and on a version's words. `report`, `words_of` and `ftrace_tag`
-- cite them.
mod BetterWords
mod PlanZones
mod Splits
mod Tags
mod VersionWords
