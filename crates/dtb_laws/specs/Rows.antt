-- Trees that dtc wrote, with the numbers of their source; and the same, cut and changed
use Rattle.std.specs.Prelude.{◌≡◌, List, [], ◌∷◌, ℕ, codes, take, slice_set, Ok, Err}
use Rattle.dtb_spec.specs.Ramoops.{nodes_of}
use Rattle.dtb_spec.specs.declared.Fault.TheVariants.{NoMagic, UnknownToken, TooShort, TooLarge}

-- / { r { compatible = "ramoops"; reg = <0 4 8>; }; };
unfoldable pub small_tree : List ℕ
small_tree =
    208 ∷ 13 ∷ 254 ∷ 237 ∷ 0 ∷ 0 ∷ 0 ∷ 143 ∷ 0 ∷ 0 ∷ 0 ∷ 56 ∷ 0 ∷ 0 ∷ 0 ∷ 128 ∷ 0 ∷ 0 ∷ 0 ∷ 40 ∷ 0 ∷ 0 ∷ 0 ∷ 17 ∷ 0
    ∷ 0 ∷ 0 ∷ 16 ∷ 0 ∷ 0 ∷ 0 ∷ 0 ∷ 0 ∷ 0 ∷ 0 ∷ 15 ∷ 0 ∷ 0 ∷ 0 ∷ 72 ∷ 0 ∷ 0 ∷ 0 ∷ 0 ∷ 0 ∷ 0 ∷ 0 ∷ 0 ∷ 0 ∷ 0 ∷ 0 ∷ 0 ∷
    0 ∷ 0 ∷ 0 ∷ 0 ∷ 0 ∷ 0 ∷ 0 ∷ 1 ∷ 0 ∷ 0 ∷ 0 ∷ 0 ∷ 0 ∷ 0 ∷ 0 ∷ 1 ∷ 114 ∷ 0 ∷ 0 ∷ 0 ∷ 0 ∷ 0 ∷ 0 ∷ 3 ∷ 0 ∷ 0 ∷ 0 ∷ 8
    ∷ 0 ∷ 0 ∷ 0 ∷ 0 ∷ 114 ∷ 97 ∷ 109 ∷ 111 ∷ 111 ∷ 112 ∷ 115 ∷ 0 ∷ 0 ∷ 0 ∷ 0 ∷ 3 ∷ 0 ∷ 0 ∷ 0 ∷ 12 ∷ 0 ∷ 0 ∷ 0 ∷ 11 ∷
    0 ∷ 0 ∷ 0 ∷ 0 ∷ 0 ∷ 0 ∷ 0 ∷ 4 ∷ 0 ∷ 0 ∷ 0 ∷ 8 ∷ 0 ∷ 0 ∷ 0 ∷ 2 ∷ 0 ∷ 0 ∷ 0 ∷ 2 ∷ 0 ∷ 0 ∷ 0 ∷ 9 ∷ 99 ∷ 111 ∷ 109 ∷
    112 ∷ 97 ∷ 116 ∷ 105 ∷ 98 ∷ 108 ∷ 101 ∷ 0 ∷ 114 ∷ 101 ∷ 103 ∷ 0 ∷ []

abbrev pub SmallRow : Type 0
SmallRow = nodes_of small_tree ≡ Ok (record {
  path = codes "/r";
  numbers = record {
    address = 4;
    size = 8;
    record_size = 0;
    console_size = 0;
    ftrace_size = 0;
    pmsg_size = 0;
    ecc_size = 0;
    flags = 0;
  };
} ∷ [])

abbrev pub CutRow : Type 0
CutRow = nodes_of (take 39 small_tree) ≡ Err NoMagic

-- with another first token
abbrev pub TokenRow : Type 0
TokenRow = nodes_of (slice_set small_tree 59 7) ≡ Err UnknownToken

-- / { r { compatible = "ramoops"; reg = <0 4 8>; status = "ok"; record-size = <1>; ecc-size = <2 3>; }; };
unfoldable pub sized_tree : List ℕ
sized_tree =
    208 ∷ 13 ∷ 254 ∷ 237 ∷ 0 ∷ 0 ∷ 0 ∷ 223 ∷ 0 ∷ 0 ∷ 0 ∷ 56 ∷ 0 ∷ 0 ∷ 0 ∷ 180 ∷ 0 ∷ 0 ∷ 0 ∷ 40 ∷ 0 ∷ 0 ∷ 0 ∷ 17
    ∷ 0 ∷ 0 ∷ 0 ∷ 16 ∷ 0 ∷ 0 ∷ 0 ∷ 0 ∷ 0 ∷ 0 ∷ 0 ∷ 43 ∷ 0 ∷ 0 ∷ 0 ∷ 124 ∷ 0 ∷ 0 ∷ 0 ∷ 0 ∷ 0 ∷ 0 ∷ 0 ∷ 0 ∷ 0 ∷ 0
    ∷ 0 ∷ 0 ∷ 0 ∷ 0 ∷ 0 ∷ 0 ∷ 0 ∷ 0 ∷ 0 ∷ 1 ∷ 0 ∷ 0 ∷ 0 ∷ 0 ∷ 0 ∷ 0 ∷ 0 ∷ 1 ∷ 114 ∷ 0 ∷ 0 ∷ 0 ∷ 0 ∷ 0 ∷ 0 ∷ 3 ∷
    0 ∷ 0 ∷ 0 ∷ 8 ∷ 0 ∷ 0 ∷ 0 ∷ 0 ∷ 114 ∷ 97 ∷ 109 ∷ 111 ∷ 111 ∷ 112 ∷ 115 ∷ 0 ∷ 0 ∷ 0 ∷ 0 ∷ 3 ∷ 0 ∷ 0 ∷ 0 ∷ 12
    ∷ 0 ∷ 0 ∷ 0 ∷ 11 ∷ 0 ∷ 0 ∷ 0 ∷ 0 ∷ 0 ∷ 0 ∷ 0 ∷ 4 ∷ 0 ∷ 0 ∷ 0 ∷ 8 ∷ 0 ∷ 0 ∷ 0 ∷ 3 ∷ 0 ∷ 0 ∷ 0 ∷ 3 ∷ 0 ∷ 0 ∷ 0
    ∷ 15 ∷ 111 ∷ 107 ∷ 0 ∷ 0 ∷ 0 ∷ 0 ∷ 0 ∷ 3 ∷ 0 ∷ 0 ∷ 0 ∷ 4 ∷ 0 ∷ 0 ∷ 0 ∷ 22 ∷ 0 ∷ 0 ∷ 0 ∷ 1 ∷ 0 ∷ 0 ∷ 0 ∷ 3 ∷
    0 ∷ 0 ∷ 0 ∷ 8 ∷ 0 ∷ 0 ∷ 0 ∷ 34 ∷ 0 ∷ 0 ∷ 0 ∷ 2 ∷ 0 ∷ 0 ∷ 0 ∷ 3 ∷ 0 ∷ 0 ∷ 0 ∷ 2 ∷ 0 ∷ 0 ∷ 0 ∷ 2 ∷ 0 ∷ 0 ∷ 0 ∷
    9 ∷ 99 ∷ 111 ∷ 109 ∷ 112 ∷ 97 ∷ 116 ∷ 105 ∷ 98 ∷ 108 ∷ 101 ∷ 0 ∷ 114 ∷ 101 ∷ 103 ∷ 0 ∷ 115 ∷ 116 ∷ 97 ∷ 116
    ∷ 117 ∷ 115 ∷ 0 ∷ 114 ∷ 101 ∷ 99 ∷ 111 ∷ 114 ∷ 100 ∷ 45 ∷ 115 ∷ 105 ∷ 122 ∷ 101 ∷ 0 ∷ 101 ∷ 99 ∷ 99 ∷ 45 ∷
    115 ∷ 105 ∷ 122 ∷ 101 ∷ 0 ∷ []

-- of the two cells of `ecc-size` the first counts
abbrev pub FirstCellRow : Type 0
FirstCellRow = nodes_of sized_tree ≡ Ok (record {
  path = codes "/r";
  numbers = record {
    address = 4;
    size = 8;
    record_size = 1;
    console_size = 0;
    ftrace_size = 0;
    pmsg_size = 0;
    ecc_size = 2;
    flags = 0;
  };
} ∷ [])

-- with an `ecc-size` of 0 the node has record sizes alone
abbrev pub OldBoardRow : Type 0
OldBoardRow = nodes_of (slice_set sized_tree 163 0) ≡ Ok (record {
  path = codes "/r";
  numbers = record {
    address = 4;
    size = 8;
    record_size = 1;
    console_size = 1;
    ftrace_size = 0;
    pmsg_size = 1;
    ecc_size = 0;
    flags = 0;
  };
} ∷ [])

-- a `record-size` of 0x80000001
abbrev pub LargeRow : Type 0
LargeRow = nodes_of (slice_set sized_tree 144 128) ≡ Err TooLarge

-- a `record-size` of three bytes
abbrev pub ShortRow : Type 0
ShortRow = nodes_of (slice_set sized_tree 139 3) ≡ Err TooShort

-- a `status` of "on"
abbrev pub StatusRow : Type 0
StatusRow = nodes_of (slice_set sized_tree 129 110) ≡ Ok []

-- / { reserved-memory { #address-cells = <1>; #size-cells = <1>;
--     r { compatible = "ramoops"; reg = <4 8>; record-size = <0x1000>; }; }; };
unfoldable pub reserved_tree : List ℕ
reserved_tree =
    208 ∷ 13 ∷ 254 ∷ 237 ∷ 0 ∷ 0 ∷ 0 ∷ 250 ∷ 0 ∷ 0 ∷ 0 ∷ 56 ∷ 0 ∷ 0 ∷ 0 ∷ 196 ∷ 0 ∷ 0 ∷ 0 ∷ 40 ∷ 0 ∷ 0 ∷ 0 ∷ 17 ∷ 0
    ∷ 0 ∷ 0 ∷ 16 ∷ 0 ∷ 0 ∷ 0 ∷ 0 ∷ 0 ∷ 0 ∷ 0 ∷ 54 ∷ 0 ∷ 0 ∷ 0 ∷ 140 ∷ 0 ∷ 0 ∷ 0 ∷ 0 ∷ 0 ∷ 0 ∷ 0 ∷ 0 ∷ 0 ∷ 0 ∷ 0 ∷ 0
    ∷ 0 ∷ 0 ∷ 0 ∷ 0 ∷ 0 ∷ 0 ∷ 0 ∷ 1 ∷ 0 ∷ 0 ∷ 0 ∷ 0 ∷ 0 ∷ 0 ∷ 0 ∷ 1 ∷ 114 ∷ 101 ∷ 115 ∷ 101 ∷ 114 ∷ 118 ∷ 101 ∷ 100
    ∷ 45 ∷ 109 ∷ 101 ∷ 109 ∷ 111 ∷ 114 ∷ 121 ∷ 0 ∷ 0 ∷ 0 ∷ 0 ∷ 3 ∷ 0 ∷ 0 ∷ 0 ∷ 4 ∷ 0 ∷ 0 ∷ 0 ∷ 0 ∷ 0 ∷ 0 ∷ 0 ∷ 1 ∷ 0
    ∷ 0 ∷ 0 ∷ 3 ∷ 0 ∷ 0 ∷ 0 ∷ 4 ∷ 0 ∷ 0 ∷ 0 ∷ 15 ∷ 0 ∷ 0 ∷ 0 ∷ 1 ∷ 0 ∷ 0 ∷ 0 ∷ 1 ∷ 114 ∷ 0 ∷ 0 ∷ 0 ∷ 0 ∷ 0 ∷ 0 ∷ 3
    ∷ 0 ∷ 0 ∷ 0 ∷ 8 ∷ 0 ∷ 0 ∷ 0 ∷ 27 ∷ 114 ∷ 97 ∷ 109 ∷ 111 ∷ 111 ∷ 112 ∷ 115 ∷ 0 ∷ 0 ∷ 0 ∷ 0 ∷ 3 ∷ 0 ∷ 0 ∷ 0 ∷ 8
    ∷ 0 ∷ 0 ∷ 0 ∷ 38 ∷ 0 ∷ 0 ∷ 0 ∷ 4 ∷ 0 ∷ 0 ∷ 0 ∷ 8 ∷ 0 ∷ 0 ∷ 0 ∷ 3 ∷ 0 ∷ 0 ∷ 0 ∷ 4 ∷ 0 ∷ 0 ∷ 0 ∷ 42 ∷ 0 ∷ 0 ∷ 16
    ∷ 0 ∷ 0 ∷ 0 ∷ 0 ∷ 2 ∷ 0 ∷ 0 ∷ 0 ∷ 2 ∷ 0 ∷ 0 ∷ 0 ∷ 2 ∷ 0 ∷ 0 ∷ 0 ∷ 9 ∷ 35 ∷ 97 ∷ 100 ∷ 100 ∷ 114 ∷ 101 ∷ 115
    ∷ 115 ∷ 45 ∷ 99 ∷ 101 ∷ 108 ∷ 108 ∷ 115 ∷ 0 ∷ 35 ∷ 115 ∷ 105 ∷ 122 ∷ 101 ∷ 45 ∷ 99 ∷ 101 ∷ 108 ∷ 108 ∷ 115 ∷ 0
    ∷ 99 ∷ 111 ∷ 109 ∷ 112 ∷ 97 ∷ 116 ∷ 105 ∷ 98 ∷ 108 ∷ 101 ∷ 0 ∷ 114 ∷ 101 ∷ 103 ∷ 0 ∷ 114 ∷ 101 ∷ 99 ∷ 111 ∷ 114
    ∷ 100 ∷ 45 ∷ 115 ∷ 105 ∷ 122 ∷ 101 ∷ 0 ∷ []

-- only `record-size` is set. The node is in /reserved-memory, so console and pmsg get no size
abbrev pub ReservedRow : Type 0
ReservedRow = nodes_of reserved_tree ≡ Ok (record {
  path = codes "/reserved-memory/r";
  numbers = record {
    address = 4;
    size = 8;
    record_size = 4096;
    console_size = 0;
    ftrace_size = 0;
    pmsg_size = 0;
    ecc_size = 0;
    flags = 0;
  };
} ∷ [])

-- / { r { compatible = "ramoops"; reg = <0 4 8>; record-size = <0x1000>; ftrace-size = <0x800>; }; };
unfoldable pub traced_tree : List ℕ
traced_tree =
    208 ∷ 13 ∷ 254 ∷ 237 ∷ 0 ∷ 0 ∷ 0 ∷ 199 ∷ 0 ∷ 0 ∷ 0 ∷ 56 ∷ 0 ∷ 0 ∷ 0 ∷ 160 ∷ 0 ∷ 0 ∷ 0 ∷ 40 ∷ 0 ∷ 0 ∷ 0 ∷ 17 ∷ 0
    ∷ 0 ∷ 0 ∷ 16 ∷ 0 ∷ 0 ∷ 0 ∷ 0 ∷ 0 ∷ 0 ∷ 0 ∷ 39 ∷ 0 ∷ 0 ∷ 0 ∷ 104 ∷ 0 ∷ 0 ∷ 0 ∷ 0 ∷ 0 ∷ 0 ∷ 0 ∷ 0 ∷ 0 ∷ 0 ∷ 0 ∷ 0
    ∷ 0 ∷ 0 ∷ 0 ∷ 0 ∷ 0 ∷ 0 ∷ 0 ∷ 1 ∷ 0 ∷ 0 ∷ 0 ∷ 0 ∷ 0 ∷ 0 ∷ 0 ∷ 1 ∷ 114 ∷ 0 ∷ 0 ∷ 0 ∷ 0 ∷ 0 ∷ 0 ∷ 3 ∷ 0 ∷ 0 ∷ 0
    ∷ 8 ∷ 0 ∷ 0 ∷ 0 ∷ 0 ∷ 114 ∷ 97 ∷ 109 ∷ 111 ∷ 111 ∷ 112 ∷ 115 ∷ 0 ∷ 0 ∷ 0 ∷ 0 ∷ 3 ∷ 0 ∷ 0 ∷ 0 ∷ 12 ∷ 0 ∷ 0 ∷ 0
    ∷ 11 ∷ 0 ∷ 0 ∷ 0 ∷ 0 ∷ 0 ∷ 0 ∷ 0 ∷ 4 ∷ 0 ∷ 0 ∷ 0 ∷ 8 ∷ 0 ∷ 0 ∷ 0 ∷ 3 ∷ 0 ∷ 0 ∷ 0 ∷ 4 ∷ 0 ∷ 0 ∷ 0 ∷ 15 ∷ 0 ∷ 0
    ∷ 16 ∷ 0 ∷ 0 ∷ 0 ∷ 0 ∷ 3 ∷ 0 ∷ 0 ∷ 0 ∷ 4 ∷ 0 ∷ 0 ∷ 0 ∷ 27 ∷ 0 ∷ 0 ∷ 8 ∷ 0 ∷ 0 ∷ 0 ∷ 0 ∷ 2 ∷ 0 ∷ 0 ∷ 0 ∷ 2 ∷ 0
    ∷ 0 ∷ 0 ∷ 9 ∷ 99 ∷ 111 ∷ 109 ∷ 112 ∷ 97 ∷ 116 ∷ 105 ∷ 98 ∷ 108 ∷ 101 ∷ 0 ∷ 114 ∷ 101 ∷ 103 ∷ 0 ∷ 114 ∷ 101 ∷ 99
    ∷ 111 ∷ 114 ∷ 100 ∷ 45 ∷ 115 ∷ 105 ∷ 122 ∷ 101 ∷ 0 ∷ 102 ∷ 116 ∷ 114 ∷ 97 ∷ 99 ∷ 101 ∷ 45 ∷ 115 ∷ 105 ∷ 122
    ∷ 101 ∷ 0 ∷ []

-- `ftrace-size` is set too, so console and pmsg get no size
abbrev pub TracedRow : Type 0
TracedRow = nodes_of traced_tree ≡ Ok (record {
  path = codes "/r";
  numbers = record {
    address = 4;
    size = 8;
    record_size = 4096;
    console_size = 0;
    ftrace_size = 2048;
    pmsg_size = 0;
    ecc_size = 0;
    flags = 0;
  };
} ∷ [])
