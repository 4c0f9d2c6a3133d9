-- Theorems about the definitions of specs/, lowest first.
pub mod Lists
pub mod Cut
pub mod LeftOut
pub mod Within
pub mod Sorted
pub mod Streamed
pub mod Mapped
pub mod Narrowed
pub mod Starts
pub mod Chain
pub mod Block
pub mod Renamed
pub mod Inserted
pub mod Apart
