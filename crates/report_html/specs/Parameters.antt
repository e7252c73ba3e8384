-- The parameters of a layout, or the sizes of a storage, in a table
use Rattle.std.specs.Prelude.{ℕ, List, [], ◌∷◌, ◌++◌, codes}
use Rattle.psz_spec.specs.declared.Sizes.{Sizes}
use Rattle.zone_spec.specs.declared.params.ByteOrder.{ByteOrder}
use Rattle.zone_spec.specs.declared.params.Order.{Order}
use Rattle.zone_spec.specs.declared.params.Params.{Params}
use Rattle.zone_spec.specs.Orders.{order_text, byte_order_text}
use Rattle.report_spec.specs.declared.Division.{Division}
use Rattle.report_spec.specs.declared.Division.TheVariants.{Region, Storage}
use Rattle.report_html.specs.declared.words.TheConstants.{PARAMETERS}
use Rattle.report_html.specs.Pieces.{Part, Words, Count}

abbrev pub parameter_parts : (key : List ℕ) → ℕ → List Part
parameter_parts key n =
    Words (codes "<tr><th scope=\"row\">") ∷ Words key ∷ Words (codes "</th><td class=\"n\">") ∷ Count n
    ∷ Words (codes "</td></tr>\n") ∷ []

abbrev pub text_parts : (key text : List ℕ) → List Part
text_parts key text =
    Words (codes "<tr><th scope=\"row\">") ∷ Words key ∷ Words (codes "</th><td>") ∷ Words text
    ∷ Words (codes "</td></tr>\n") ∷ []

abbrev pub order_parts : Order → List Part
order_parts order = text_parts (codes "order") (order_text order)

abbrev pub byte_order_parts : ByteOrder → List Part
byte_order_parts order = text_parts (codes "byte_order") (byte_order_text order)

abbrev pub size_rows : Params → List Part
size_rows p =
    parameter_parts (codes "mem_size") p.mem ++ parameter_parts (codes "record_size") p.dump
    ++ parameter_parts (codes "console_size") p.console ++ parameter_parts (codes "ftrace_size") p.ftrace
    ++ parameter_parts (codes "pmsg_size") p.pmsg ++ parameter_parts (codes "block_size") p.block

abbrev pub parity_rows : Params → List Part
parity_rows p =
    parameter_parts (codes "ecc") p.ecc ++ parameter_parts (codes "ecc_dump") p.ecc_dump
    ++ parameter_parts (codes "ecc_console") p.ecc_console ++ parameter_parts (codes "ecc_ftrace") p.ecc_ftrace
    ++ parameter_parts (codes "ecc_pmsg") p.ecc_pmsg

abbrev pub ftrace_rows : Params → List Part
ftrace_rows p =
    parameter_parts (codes "cpus") p.cpus ++ parameter_parts (codes "ftrace_sig") p.ftrace_sig ++ order_parts p.order
    ++ byte_order_parts p.byte_order

abbrev pub region_rows : Params → List Part
region_rows p = size_rows p ++ parity_rows p ++ ftrace_rows p

-- in bytes
abbrev pub storage_rows : Sizes → List Part
storage_rows s =
    parameter_parts (codes "total_size") s.total ++ parameter_parts (codes "kmsg_size") s.dump
    ++ parameter_parts (codes "console_size") s.console ++ parameter_parts (codes "ftrace_size") s.ftrace
    ++ parameter_parts (codes "pmsg_size") s.pmsg ++ parameter_parts (codes "cpus") s.cpus

abbrev pub division_rows : Division → List Part
division_rows (Region p) = region_rows p
division_rows (Storage s) = storage_rows s

-- with a row for each
abbrev pub parameters_parts : Division → List Part
parameters_parts d = Words PARAMETERS.now ∷ [] ++ division_rows d ++ Words (codes "</table></div>\n") ∷ []
