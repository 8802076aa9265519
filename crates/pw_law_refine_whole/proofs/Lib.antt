mod Laws
mod Simulation
mod Fitting
mod Parameters
mod Functions
mod Parts
