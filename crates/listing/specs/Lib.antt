pub mod Hex
pub mod Line
pub mod Operand
pub mod Lines
pub mod Alone
pub mod Rest
pub mod Walk
pub mod Lent
