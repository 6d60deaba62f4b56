pub mod KindCodes
pub mod Tables
pub mod Standing
pub mod Fields
pub mod KindPlans
