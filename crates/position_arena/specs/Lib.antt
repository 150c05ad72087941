-- The definitions of this crate: rows of positions, the chunks that they lie in, and their index.
pub mod Arenas
pub mod Index
pub mod RowsInside
pub mod SlotRows
pub mod StoreInside
pub mod Stores
