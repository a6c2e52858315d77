-- Why help keeps its contract.
pub mod HelpCalls
