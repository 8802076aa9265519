use Rattle.pw_interp_state.proofs.AccessLaws.{load_is, fetch_is, store_is, copy_is, put_is}
use Rattle.pw_interp_state.proofs.operator_laws.accesses_are_answers.Goals as goal

pub returns-clause-load : goal.returns-clause-load
returns-clause-load c = load_is

pub returns-clause-fetch : goal.returns-clause-fetch
returns-clause-fetch c = fetch_is

pub returns-clause-store : goal.returns-clause-store
returns-clause-store c = store_is

pub returns-clause-copy : goal.returns-clause-copy
returns-clause-copy c = copy_is

pub returns-clause-put : goal.returns-clause-put
returns-clause-put c = put_is
