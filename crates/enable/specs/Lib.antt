pub mod Enable
