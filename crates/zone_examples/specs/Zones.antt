-- The zones of the rows
use Rattle.std.specs.Prelude.{ℕ, ◌*◌, List, [], ◌∷◌}
use Rattle.zone_spec.specs.declared.Zone.{Zone}
use Rattle.zone_spec.specs.declared.ZoneName.{ZoneName}
use Rattle.zone_spec.specs.declared.Kind.TheVariants.{Dump, Console, Ftrace, Pmsg}
use Rattle.zone_spec.specs.declared.params.ByteOrder.TheVariants.{Little}

abbrev pub console : ZoneName
console = record { kind = Console; index = 0 }

abbrev pub pmsg : ZoneName
pmsg = record { kind = Pmsg; index = 0 }

abbrev pub dump : ℕ → ZoneName
dump i = record { kind = Dump; index = i }

abbrev pub ftrace : ℕ → ZoneName
ftrace i = record { kind = Ftrace; index = i }

-- a zone of 4096 bytes without parity
abbrev pub plain_zone : ZoneName → ℕ → Zone
plain_zone name at = record {
  name = name;
  at = at;
  size = 4096;
  cap = 4084;
  blocks = 32;
  parity = 0;
  sig = 0x43474244;
  block = 128;
  byte_order = Little;
}

-- mem_size=4096 record_size=0 ftrace_size=0 pmsg_size=0: a console alone
abbrev pub lone_console : List Zone
lone_console = plain_zone console 0 ∷ []

-- a console alone in 256 bytes: two blocks, the second of 116 bytes
abbrev pub small_zone : ZoneName → ℕ → Zone
small_zone name at = record {
  name = name;
  at = at;
  size = 256;
  cap = 244;
  blocks = 2;
  parity = 0;
  sig = 0x43474244;
  block = 128;
  byte_order = Little;
}

abbrev pub small_console : List Zone
small_console = small_zone console 0 ∷ []

-- four zones of 256 bytes, and one of each kind
abbrev pub four_small_zones : List Zone
four_small_zones = small_zone (dump 0) 0 ∷ small_zone (dump 1) 256 ∷ small_zone console 512 ∷ small_zone pmsg 768 ∷ []

abbrev pub each_kind : List Zone
each_kind = small_zone (dump 0) 0 ∷ small_zone console 256 ∷ small_zone (ftrace 0) 512 ∷ small_zone pmsg 768 ∷ []

-- mem_size=16384 ftrace_size=0: two dump zones, a console and a pmsg zone
abbrev pub four_zones : List Zone
four_zones = plain_zone (dump 0) 0 ∷ plain_zone (dump 1) 4096 ∷ plain_zone console 8192 ∷ plain_zone pmsg 12288 ∷ []

-- mem_size=4096 record_size=0 console_size=0 ftrace_size=4096 cpus=2 pmsg_size=0
abbrev pub ftrace_zone : ℕ → Zone
ftrace_zone i = record {
  name = ftrace i;
  at = 2048 * i;
  size = 2048;
  cap = 2036;
  blocks = 16;
  parity = 0;
  sig = 0x43474244;
  block = 128;
  byte_order = Little;
}

abbrev pub two_processors : List Zone
two_processors = ftrace_zone 0 ∷ ftrace_zone 1 ∷ []

-- a console zone with two parity bytes: the lone console with ecc=2
abbrev pub console_of_two : Zone
console_of_two = record {
  name = console;
  at = 0;
  size = 4096;
  cap = 4018;
  blocks = 32;
  parity = 2;
  sig = 0x43474244;
  block = 128;
  byte_order = Little;
}

-- a console zone with sixteen: that of the four zones with ecc=1
abbrev pub console_of_sixteen : Zone
console_of_sixteen = record {
  name = console;
  at = 8192;
  size = 4096;
  cap = 3604;
  blocks = 29;
  parity = 16;
  sig = 0x43474244;
  block = 128;
  byte_order = Little;
}
