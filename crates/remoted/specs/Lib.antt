pub mod Launching
