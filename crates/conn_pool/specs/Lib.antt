pub mod ErrorCauses
pub mod SlotViews
pub mod Managing
pub mod Checkouts
pub mod Managers
pub mod Customizers
pub mod Lending
