-- The plan of a command on a layout
pub use Rattle.command_line.specs.Words.{plan_for}
