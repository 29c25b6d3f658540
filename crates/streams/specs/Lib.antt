-- What the contracts cite of the shared streams of programs.
pub mod Octets
