pub mod Bits
mod Unpacked
mod Sweep
