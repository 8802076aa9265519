mod Following
mod Forming
mod SwitchLaws
