pub mod ReadRun
