-- Worked examples: the twelve settings, and a module on which both machines run.
pub mod Settings
pub mod Example
