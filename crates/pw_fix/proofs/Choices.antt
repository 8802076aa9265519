-- What follows from a fact that holds on one answer.
use Rattle.std.proofs.Common.{Bool, true, false}
use Rattle.std.specs.Bool.{OnTrue, OnFalse}

pub OnTrue-then : (b : Bool) {P Q : Type 0} → OnTrue b P → (P → Q) → OnTrue b Q
OnTrue-then true h f = f h
OnTrue-then false h f = h

pub OnFalse-then : (b : Bool) {P Q : Type 0} → OnFalse b P → (P → Q) → OnFalse b Q
OnFalse-then true h f = h
OnFalse-then false h f = f h
