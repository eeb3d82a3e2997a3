pub mod PowerLaws
