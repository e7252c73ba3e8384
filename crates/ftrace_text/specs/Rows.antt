-- Ftrace logs of several machines: worked rows, with bytes and texts of real kernels, typed by hand
use Rattle.std.specs.Prelude.{◌≡◌, ℕ, List, [], ◌∷◌, ◌++◌, replicate, drop, flat_map, codes, Some, None}
use Rattle.zone_spec.specs.declared.params.ByteOrder.TheVariants.{Little, Big}
use Rattle.ftrace_spec.specs.declared.EntryForm.TheVariants.{Long, Short}
use Rattle.ftrace_spec.specs.Forms.{long_entries, form_shown, trace_by, trace_of}
use Rattle.ftrace_spec.specs.Lines.{trace_text}

-- the log of a 32-bit ARM, of one entry: c020fa34, c020fd28, and the word 0
abbrev pub arm_log : List ℕ
arm_log = 0x34 ∷ 0xfa ∷ 0x20 ∷ 0xc0 ∷ 0x28 ∷ 0xfd ∷ 0x20 ∷ 0xc0 ∷ replicate 8 0

-- that of a big-endian MIPS of 32 bits: 80219d28, 8021a0a0, and the word 0
abbrev pub mips_log : List ℕ
mips_log = 0x80 ∷ 0x21 ∷ 0x9d ∷ 0x28 ∷ 0x80 ∷ 0x21 ∷ 0xa0 ∷ 0xa0 ∷ replicate 8 0

-- that of an arm64: ffff800080130874, ffff800080130b60, and the word 0
abbrev pub arm64_log : List ℕ
arm64_log = 0x74 ∷ 0x08 ∷ 0x13 ∷ 0x80 ∷ 0x00 ∷ 0x80 ∷ 0xff ∷ 0xff ∷ 0x60 ∷ 0x0b ∷ 0x13 ∷ 0x80 ∷ 0x00 ∷ 0x80 ∷ 0xff ∷ 0xff
    ∷ replicate 8 0

-- what parity adds to a log
abbrev pub notice : List ℕ
notice = 10 ∷ codes "ECC: No errors detected" ++ 10 ∷ []

-- the lines of each, by the form that it shows
abbrev pub OneEntry : Type 0
OneEntry =
    (trace_text [] 0 (trace_of Little None (arm_log ∷ []))
    ≡ codes "CPU:0 ts:0 c020fa34  c020fd28  0xc020fa34 <- 0xc020fd28" ++ 10 ∷ [])
    × (trace_text [] 0 (trace_of Big None (mips_log ∷ []))
    ≡ codes "CPU:0 ts:0 80219d28  8021a0a0  0x80219d28 <- 0x8021a0a0" ++ 10 ∷ [])
    × (trace_text [] 0 (trace_of Little None (arm64_log ∷ []))
    ≡ codes "CPU:0 ts:0 ffff800080130874  ffff800080130b60  0xffff800080130874 <- 0xffff800080130b60" ++ 10 ∷ [])
    × (trace_of Little None (arm64_log ∷ []) ≡ arm64_log)

-- with parity the kernel takes the notice for a part of the log, so each of its entries begins too late: these are the
-- lines that Linux showed on MIPS and on arm64
abbrev pub KernelsLines : Type 0
KernelsLines =
    (trace_text [] 0 (trace_by Big Short ((mips_log ++ notice) ∷ []))
    ≡ codes "CPU:32 ts:19495729410100847 00000000  0000000a  0x0 <- 0xa" ++ 10
    ∷ codes "CPU:10 ts:28556951456867684 6572726f  72732064  0x6572726f <- 0x72732064" ++ 10
    ∷ [])
    × (trace_text [] 0 (trace_by Little Long ((arm64_log ++ notice) ∷ []))
    ≡ codes "CPU:0 ts:2814749767106560 60ffff8000801308  ffff800080130b  0x60ffff8000801308 <- 0xffff800080130b" ++ 10
    ∷ codes "CPU:101 ts:2925136674252148 206f4e203a434345  642073726f727265  0x206f4e203a434345 <- 0x642073726f727265"
    ++ 10 ∷ [])

-- three entries of 16 bytes and two of 24 are as long: the times tell. Of nothing, and of what both explain alike, it
-- is the form of 64 bits
abbrev pub short_entry : ℕ → ℕ → List ℕ
short_entry processor time = 0x34 ∷ 0xfa ∷ 0x20 ∷ 0xc0 ∷ 0x28 ∷ 0xfd ∷ 0x20 ∷ 0xc0 ∷ processor ∷ time ∷ replicate 6 0

abbrev pub long_entry : ℕ → ℕ → List ℕ
long_entry processor time =
    0x74 ∷ 0x08 ∷ 0x13 ∷ 0x80 ∷ 0x00 ∷ 0x80 ∷ 0xff ∷ 0xff ∷ 0x60 ∷ 0x0b ∷ 0x13 ∷ 0x80 ∷ 0x00 ∷ 0x80 ∷ 0xff ∷ 0xff
    ∷ processor ∷ time ∷ replicate 6 0

abbrev pub FormsShown : Type 0
FormsShown =
    (form_shown Little ((short_entry 0 3 ++ short_entry 0 5 ++ short_entry 0 6) ∷ []) ≡ Short)
    × (form_shown Little ((long_entry 0 3 ++ long_entry 0 5) ∷ []) ≡ Long)
    × (form_shown Little [] ≡ Long)
    × (form_shown Little ([] ∷ []) ≡ Long)
    × (form_shown Big (replicate 48 0 ∷ []) ≡ Long)
    -- the first bytes of a log that went round make no whole entry
    × (form_shown Little ((1 ∷ 2 ∷ 3 ∷ short_entry 0 3 ++ short_entry 0 5 ++ short_entry 0 6) ∷ []) ≡ Short)
    -- one log of three entries decides for a log that has none
    × (form_shown Little ((short_entry 0 3 ++ short_entry 0 5 ++ short_entry 0 6) ∷ [] ∷ []) ≡ Short)

-- a form that is given counts, whatever the bytes show
abbrev pub FormGiven : Type 0
FormGiven = trace_of Little (Some Short) (arm64_log ∷ [])
    ≡ flat_map (λ e. e) (long_entries Little Short (drop 8 arm64_log))

-- the logs of two processors, merged by their times: of equal times the later zone's entry comes first
abbrev pub TwoShortLogs : Type 0
TwoShortLogs =
    trace_of Little None ((short_entry 0 3 ++ short_entry 0 9) ∷ (short_entry 1 3 ++ short_entry 1 4) ∷ [])
    ≡ flat_map (λ e. e) (long_entries Little Short
    (short_entry 1 3 ++ short_entry 0 3 ++ short_entry 1 4 ++ short_entry 0 9))
