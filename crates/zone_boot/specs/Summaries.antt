-- A zone's reading without its log
use Rattle.std.specs.Prelude.{length}
use Rattle.zone_spec.specs.Reading.{ZoneReading}
use Rattle.zone_boot.specs.declared.summaries.Summary.{Summary}

-- the same, and how many bytes the log has
abbrev pub summary_of : ZoneReading → Summary
summary_of r = record {
  state = r.state;
  words = r.words;
  len = length r.log;
  corrected = r.corrected;
  bad = r.bad;
}
