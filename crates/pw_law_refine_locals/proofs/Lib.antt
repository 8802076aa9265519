mod Beginning
mod Finishing
mod Scopes
