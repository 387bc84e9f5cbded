-- CRC-32, and the tables that its code looks up.
pub mod Crc
pub mod Tables
