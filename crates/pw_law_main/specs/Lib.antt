pub mod FromPhaseOne
