-- Numbers of answers, and claims about the operations.
pub mod IsolatedOutputs
