-- The texts that commands put, as bytes: of a layout, and of the rings of a dump
use Rattle.std.specs.Prelude.{Bool, ◌&&◌, ◌==◌, if◌then◌else◌, List, [], ◌∷◌, ◌++◌, length, flat_map, codes, decimal}
use Rattle.std.specs.List.{list_all}
use Rattle.zone_spec.specs.declared.Kind.TheVariants.{Dump, Console, Ftrace, Pmsg}
use Rattle.zone_spec.specs.declared.Zone.{Zone}
use Rattle.zone_spec.specs.declared.params.Params.{Params}
use Rattle.zone_spec.specs.Layout.{ecc_of}
use Rattle.salvage_spec.specs.declared.FoundRing.{FoundRing}
use Rattle.grammar_spec.specs.Fields.{Text}
use Rattle.grammar_spec.specs.Printed.{zone_text}
use Rattle.script_spec.specs.Texts.{newline}

-- ---- a layout

-- blocks have 128 bytes, and each kind has the parity that `ecc` asks for
abbrev pub is_uniform : Params → Bool
is_uniform p =
    (p.block == 128) && list_all (λ kind. ecc_of p kind == p.ecc)
    (Dump ∷ Console ∷ Ftrace ∷ Pmsg ∷ [])

-- ` parity R block K`, where parameters are not uniform
abbrev pub own_parity : Bool → Zone → Text
own_parity uniform z = if uniform then [] else codes " parity " ++ decimal z.parity ++ codes " block "
    ++ decimal z.block

-- `ZONE at A size S cap C blocks B`
abbrev pub layout_line : Bool → Zone → Text
layout_line uniform z =
    zone_text z.name ++ codes " at " ++ decimal z.at ++ codes " size " ++ decimal z.size
    ++ codes " cap " ++ decimal z.cap ++ codes " blocks " ++ decimal z.blocks ++ own_parity uniform z ++ newline

-- `mem M parity R zones Z`, and a line for each zone
abbrev pub layout_text : Params → List Zone → Text
layout_text p zones =
    codes "mem " ++ decimal p.mem ++ codes " parity " ++ decimal p.ecc
    ++ codes " zones " ++ decimal (length zones) ++ newline ++ flat_map (λ z. layout_line (is_uniform p) z) zones

-- ---- the rings of a dump

-- `ring at A shape ZONE start S size Z corrected X`
abbrev pub ring_line : FoundRing → Text
ring_line ring =
    codes "ring at " ++ decimal ring.at ++ codes " shape " ++ zone_text ring.zone
    ++ codes " start " ++ decimal ring.words.start ++ codes " size " ++ decimal ring.words.size
    ++ codes " corrected " ++ decimal ring.corrected ++ newline

-- `salvage rings N`, and a line for each ring
abbrev pub rings_text : List FoundRing → Text
rings_text rings = codes "salvage rings " ++ decimal (length rings) ++ newline ++ flat_map ring_line rings
