mod Bits
mod Going
mod NumberLaws
mod Endings
mod Reading
