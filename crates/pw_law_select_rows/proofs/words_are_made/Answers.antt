use Rattle.pw_law_select_rows.proofs.Making as making
use Rattle.pw_law_select_rows.proofs.words_are_made.Goals as goal

pub returns-clause-quiet : goal.returns-clause-quiet
returns-clause-quiet c = making.nothing_noted

pub returns-clause-constants : goal.returns-clause-constants
returns-clause-constants c = making.constant_made

pub returns-clause-addresses : goal.returns-clause-addresses
returns-clause-addresses c = making.address_made
