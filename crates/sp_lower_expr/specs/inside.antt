pub mod ZeroPlans
