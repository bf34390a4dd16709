pub mod TargetLaws
pub mod RoomLaws
pub mod TypeLaws
pub mod CallLaws
pub mod DeclareLaws
