-- What a log says of the machine, as contracts see it
use Rattle.report_spec.specs.Facts.{MachineTold}
use Rattle.region_report.specs.declared.facts.Machine.{Machine}

abbrev pub as_machine : Machine → MachineTold
as_machine m = record {
  hardware = m.hardware.now;
  modules = m.modules.now;
  cmdline = m.cmdline.now;
  version = m.version.now;
  offset = m.offset.now;
}
