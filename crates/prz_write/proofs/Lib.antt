-- What a flight stands for, and what its stores make of a span. The functions of `Flight` cite
-- them.
pub mod CallSteps
pub mod SpanStores
pub mod WholeMade
