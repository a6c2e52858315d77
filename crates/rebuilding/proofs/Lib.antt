-- Why repair keeps its contract.
pub mod Outcomes
pub mod RepairCalls
