-- Apply: its plan and its copy.
pub mod Plans
pub mod Applied
