-- The rows compute
use Rattle.std.proofs.Common.{refl}
use Rattle.dtb_spec.specs.Cells.{cell, text_len}
use Rattle.dtb_spec.specs.Headers.{header_of}
use Rattle.dtb_spec.specs.Tokens.{token_at, property_at}
use Rattle.dtb_spec.specs.Trees.{walk}
use Rattle.dtb_spec.specs.Properties.{name_at, properties_from, value_of}
use Rattle.dtb_spec.specs.Ramoops.{lists_ramoops, region_of, numbers_of, nodes_in, nodes_between}
use Rattle.dtb_laws.specs.Rows.{small_tree, sized_tree, SmallRow, CutRow, TokenRow, FirstCellRow, OldBoardRow, LargeRow}
use Rattle.dtb_laws.specs.Rows.{ShortRow, StatusRow, reserved_tree, traced_tree, ReservedRow, TracedRow}

pub small_row : SmallRow
unfolding cell text_len header_of token_at property_at walk name_at properties_from value_of lists_ramoops region_of
    numbers_of nodes_in nodes_between small_tree
small_row = refl

pub cut_row : CutRow
unfolding cell header_of small_tree
cut_row = refl

pub token_row : TokenRow
unfolding cell text_len header_of token_at property_at walk name_at properties_from value_of lists_ramoops region_of
    numbers_of nodes_in nodes_between small_tree
token_row = refl

pub first_cell_row : FirstCellRow
unfolding cell text_len header_of token_at property_at walk name_at properties_from value_of lists_ramoops region_of
    numbers_of nodes_in nodes_between sized_tree
first_cell_row = refl

pub old_board_row : OldBoardRow
unfolding cell text_len header_of token_at property_at walk name_at properties_from value_of lists_ramoops region_of
    numbers_of nodes_in nodes_between sized_tree
old_board_row = refl

pub large_row : LargeRow
unfolding cell text_len header_of token_at property_at walk name_at properties_from value_of lists_ramoops region_of
    numbers_of nodes_in nodes_between sized_tree
large_row = refl

pub short_row : ShortRow
unfolding cell text_len header_of token_at property_at walk name_at properties_from value_of lists_ramoops region_of
    numbers_of nodes_in nodes_between sized_tree
short_row = refl

pub status_row : StatusRow
unfolding cell text_len header_of token_at property_at walk name_at properties_from value_of lists_ramoops region_of
    numbers_of nodes_in nodes_between sized_tree
status_row = refl

pub reserved_row : ReservedRow
unfolding cell text_len header_of token_at property_at walk name_at properties_from value_of lists_ramoops region_of
    numbers_of nodes_in nodes_between reserved_tree
reserved_row = refl

pub traced_row : TracedRow
unfolding cell text_len header_of token_at property_at walk name_at properties_from value_of lists_ramoops region_of
    numbers_of nodes_in nodes_between traced_tree
traced_row = refl
