-- What the contracts of the step speak of besides the model's definitions.
pub mod Order
