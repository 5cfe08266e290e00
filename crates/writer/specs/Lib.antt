pub mod Writers
