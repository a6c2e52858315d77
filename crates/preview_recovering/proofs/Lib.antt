-- Why recovering a file of previews keeps its contract.
pub mod Outcomes
pub mod RecoverCalls
