pub mod Agreeing
pub mod AnsweringLemmas
pub mod Keeping
pub mod MutualLemmas
pub mod OneAgreement
pub mod Printing
pub mod Refusing
pub mod Requested
