mod RunLaws
mod StreamLaws
mod TurnLaws
