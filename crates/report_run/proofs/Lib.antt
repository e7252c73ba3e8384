-- Messages on the best layout, fronts that are not read, reports behind the lines on a layout, files and regions one
-- after another, regions under their names, those that are found, and looks for a layout. `tell_failure`, `is_text`,
-- `packed_log`, `report_part`, `layout_in`, `found_plan`, `sought_report`, `report_file`, `run`, `report_regions`,
-- `report_named`, `report_given` and `regions_found` cite them.
mod BestLines
mod BootSteps
mod FoundRegions
mod Fronts
mod LogEnds
mod LogReports
mod Looks
mod NamedRegions
mod PackedEnds
mod RegionSteps
mod ReportEnds
mod RunSteps
mod Steps
mod StorageEnds
