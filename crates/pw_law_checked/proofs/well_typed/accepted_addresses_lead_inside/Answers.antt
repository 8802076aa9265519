use Rattle.pw_law_checked.proofs.well_typed.accepted_addresses_lead_inside.Goals as goal
use Rattle.pw_law_checked.proofs.Leading.{addresses_lead, declared_whole}

pub returns-clause-lead : goal.returns-clause-lead
returns-clause-lead g = addresses_lead

pub returns-clause-whole : goal.returns-clause-whole
returns-clause-whole g = declared_whole
