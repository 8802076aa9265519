mod SavingLaws
mod Fitting
