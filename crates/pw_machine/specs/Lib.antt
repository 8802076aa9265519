-- Core: the machine's own state, its registers and its memory.
-- Effect: the effect of what an instruction does, and of a step.
-- Run: one step over input and output, and runs of many steps.
-- Start: the state in which a program begins.
-- Stops: what a call of `run` answers.
-- Decoded: the text of a memory, decoded once.
-- Outcomes: what the code of a step answers.
pub mod Core
pub mod Effect
pub mod Start
pub mod Run
pub mod Stops
pub mod Decoded
pub mod Outcomes
