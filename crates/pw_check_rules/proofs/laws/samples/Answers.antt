use Rattle.pw_check_rules.proofs.laws.samples.Goals as goal
use Rattle.pw_check_rules.proofs.SampleLaws.{seven_is_typed, unknown_is_told}

pub returns-clause-typed : goal.returns-clause-typed
returns-clause-typed g = seven_is_typed

pub returns-clause-told : goal.returns-clause-told
returns-clause-told g = unknown_is_told
