mod Blocks
mod Factors
mod Delays
mod Codes
