-- Lemmas on seats, tickets and stores, and what a shared zone stands for. The functions of
-- `Shared` cite them.
pub mod SeatLists
pub mod Tickets
pub mod Regions
pub mod RingView
pub mod RingSteps
pub mod Wholes
pub mod OpenAndClosed
pub mod Shareable
