-- What a report by a plan says of the image, and the end of a call by its report. And regions of a size that is
-- given. `region_report`, `placed_layouts`, and the calls of C and of the page cite them.
mod PlanFaults
mod SizedLayouts
pub mod Calls
