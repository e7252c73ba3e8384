-- What is known of a death besides its line
use Rattle.std.specs.Prelude.{ℕ, ◌+◌, ◌-◌, ◌*◌, ◌%◌, Bool, ◌&&◌, nat_le, nat_lt, if◌then◌else◌, List, [], ◌∷◌}
use Rattle.std.specs.Prelude.{drop, codes, Option, Some, None}
use Rattle.std.specs.List.{prefix_len}
use Rattle.std.specs.Char.{is_ascii_whitespace}
use Rattle.death_spec.specs.declared.Line.{Line}
use Rattle.death_spec.specs.Lines.{part, lines_from}
use Rattle.death_spec.specs.Signatures.{signature_of}
use Rattle.report_spec.specs.Packed.{RecordShown, readable}
use Rattle.report_spec.specs.Deaths.{DeathTold, stamped, has_line}
use Rattle.report_spec.specs.Ends.{EndTold}
use Rattle.report_spec.specs.Said.{said_after}

-- ---- how long the machine had been up

-- bytes without the blanks in front
abbrev pub trimmed : List ℕ → List ℕ
trimmed bytes = drop (prefix_len is_ascii_whitespace bytes) bytes

-- the seconds since boot in a line's stamp, such as `12.345678`; none if it has no stamp
abbrev pub uptime_of : List ℕ → Line → List ℕ
uptime_of text line =
    if nat_lt line.stamp line.caller then trimmed (part text (line.stamp + 1) (line.caller - 1)) else []

abbrev pub is_digit : ℕ → Bool
is_digit b = nat_le 48 b && nat_le b 57

-- a number and one digit more, of which the last twelve are kept
abbrev pub with_digit : ℕ → ℕ → ℕ
with_digit n b = (10 * n + (b - 48)) % 1_000_000_000_000

-- the whole seconds in such bytes: the digits before the point
unfoldable pub seconds_from : ℕ → List ℕ → ℕ
seconds_from n [] = n
seconds_from n (b ∷ bs) = if is_digit b then seconds_from (with_digit n b) bs else n

-- ---- the machine

abbrev pub or_bytes : List ℕ → List ℕ → List ℕ
or_bytes [] other = other
or_bytes (b ∷ bs) other = b ∷ bs

-- what a log says of the machine; each is empty if the log does not say it
pub record MachineTold : Type 0 where
  pub hardware : List ℕ
  pub modules : List ℕ
  pub cmdline : List ℕ
  pub version : List ℕ
  pub offset : List ℕ

-- the machine's name by the lines of its boot: a device tree's, or the firmware's
abbrev pub model_in : List ℕ → List Line → List ℕ
model_in text lines =
    or_bytes (said_after text (codes "Machine model: ") lines)
    (or_bytes (said_after text (codes "OF: fdt: Machine model: ") lines) (said_after text (codes "DMI: ") lines))

-- the hardware, the modules and how far the kernel lies from its link address (`dump_kernel_offset`), by a report below
-- a place; the command line, the kernel's version, and the hardware where no report names it, by the boot's lines
abbrev pub machine_in : List ℕ → ℕ → MachineTold
machine_in text at = record {
  hardware = or_bytes (said_after text (codes "Hardware name: ") (lines_from text at)) (model_in text (lines_from text 0));
  modules = said_after text (codes "Modules linked in: ") (lines_from text at);
  cmdline = or_bytes (said_after text (codes "Kernel command line: ") (lines_from text 0))
      (said_after text (codes "Command line: ") (lines_from text 0));
  version = said_after text (codes "Linux version ") (lines_from text 0);
  offset = said_after text (codes "Kernel Offset: ") (lines_from text at);
}

abbrev pub machine_or : MachineTold → MachineTold → MachineTold
machine_or m other = record {
  hardware = or_bytes m.hardware other.hardware;
  modules = or_bytes m.modules other.modules;
  cmdline = or_bytes m.cmdline other.cmdline;
  version = or_bytes m.version other.version;
  offset = or_bytes m.offset other.offset;
}

-- the console's text, if it has the telling line too: it is then of the same boot
abbrev pub shared_text : DeathTold → Option RecordShown → List ℕ
shared_text t None = []
shared_text t (Some console) =
    if has_line (readable console) (stamped (readable t.teller) t.death.telling) then readable console else []

-- by the record that tells, below its telling line, and what it does not say by the console of the same boot
abbrev pub machine_of : DeathTold → Option RecordShown → MachineTold
machine_of t console =
    machine_or (machine_in (readable t.teller) t.death.telling.next) (machine_in (shared_text t console) 0)

-- by the record that tells how a log ends without a death
abbrev pub machine_ended : EndTold → MachineTold
machine_ended t = machine_in (readable t.teller) 0

-- ---- the signature

-- empty if no record tells why the machine died
abbrev pub signature_told : Option DeathTold → List ℕ
signature_told None = []
signature_told (Some t) = signature_of (readable t.teller) t.death
