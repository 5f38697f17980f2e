pub mod Buffers
pub mod Flows
pub mod Gates
pub mod Opened
pub mod RealDoors
pub mod RealUpstreams
pub mod Sockets
