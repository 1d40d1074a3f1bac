pub mod ControlsReport
pub mod List
