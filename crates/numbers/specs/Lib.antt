pub mod Tests
pub mod Modulo
pub mod Bits
pub mod Lists
pub mod Centred
pub mod Prime
