pub mod HandleSteps
pub mod HeldSteps
