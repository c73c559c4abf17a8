mod Turning
mod Going
mod Ending
