pub mod FromHere
