pub mod Reports
pub mod Verdicts
pub mod Written
