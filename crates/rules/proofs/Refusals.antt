-- The order of refusals, and the condition of each.
pub mod Verdicts
pub mod Orders
pub mod CallOrder
pub mod Firsts
pub mod EntryRules
pub mod MediaSide
pub mod EntryNumbers
pub mod Stops
pub mod PlanRules
pub mod OrderRules
pub mod ReaderRules
pub mod Refused
pub mod BankKept
pub mod AllRefusals
