pub mod Totals
pub mod SlotRules
pub mod SlotMeasures
pub mod PoolSeats
pub mod SharedCheckouts
