pub mod ExactlyOne
