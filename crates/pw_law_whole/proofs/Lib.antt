mod Names
mod Texts
mod Objects
mod Refining
mod Forms
mod Shown
mod Parts
