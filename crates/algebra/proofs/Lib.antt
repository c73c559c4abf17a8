pub mod Ring
pub mod Lists
pub mod Polynomial
pub mod Homomorphism
pub mod Syndromes
pub mod Terms
pub mod Recurrence
pub mod Elimination
