pub mod LeastOwned
