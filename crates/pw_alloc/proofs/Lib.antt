pub mod FrameLaws
pub mod SavedLaws
pub mod AllocationLaws
pub mod RoomLaws
