-- Ten worked trees: one node, the tree cut off or with a wrong token, and each rule of the kernel for numbers and
-- status. By `RowValues`.
use Rattle.dtb_laws.proofs.RowValues.{small_row, cut_row, token_row, first_cell_row, old_board_row, large_row}
use Rattle.dtb_laws.proofs.RowValues.{short_row, status_row, reserved_row, traced_row}
use Rattle.dtb_laws.proofs.rows.Goals as goal

pub returns-clause-small : goal.returns-clause-small
returns-clause-small c = small_row

pub returns-clause-cut : goal.returns-clause-cut
returns-clause-cut c = cut_row

pub returns-clause-token : goal.returns-clause-token
returns-clause-token c = token_row

pub returns-clause-first_cell : goal.returns-clause-first_cell
returns-clause-first_cell c = first_cell_row

pub returns-clause-old_board : goal.returns-clause-old_board
returns-clause-old_board c = old_board_row

pub returns-clause-large : goal.returns-clause-large
returns-clause-large c = large_row

pub returns-clause-short : goal.returns-clause-short
returns-clause-short c = short_row

pub returns-clause-status : goal.returns-clause-status
returns-clause-status c = status_row

pub returns-clause-reserved : goal.returns-clause-reserved
returns-clause-reserved c = reserved_row

pub returns-clause-traced : goal.returns-clause-traced
returns-clause-traced c = traced_row
