-- Why recovery keeps its contract: column by column, from the last one down.
pub mod Outcomes
pub mod RecoverCalls
