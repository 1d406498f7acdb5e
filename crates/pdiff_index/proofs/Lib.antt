pub mod SumLemmas
pub mod StepLemmas
pub mod ChainLemmas
pub mod Named
