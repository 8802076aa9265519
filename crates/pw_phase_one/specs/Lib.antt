pub mod FirstPhase
