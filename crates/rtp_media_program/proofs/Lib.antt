pub mod BehindLemmas
pub mod CommandWords
pub mod Each
pub mod ExchangeWords
pub mod InputLines
pub mod LineCases
mod Noting
pub mod Numbers
pub mod PlayWords
mod Printed
pub mod ReadBack
pub mod ReadSteps
pub mod Relayed
pub mod RelayWords
pub mod Sends
pub mod Sent
pub mod Splits
pub mod Steps
pub mod Stopping
