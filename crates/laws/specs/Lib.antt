pub mod Controllers
pub mod Forms
pub mod Laws
pub mod Limits
pub mod Reports
pub mod Tables
pub mod Controlling
