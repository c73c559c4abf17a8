pub mod Decode
pub mod SendRun
pub mod ReceiveRun
pub mod RecordingBlock
pub mod LossesRun
