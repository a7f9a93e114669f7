pub mod Multicast
