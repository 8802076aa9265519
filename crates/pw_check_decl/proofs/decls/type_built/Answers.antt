use Rattle.pw_check_init_parts.proofs.WalkLemmas.{same_walk}
use Rattle.pw_check_decl.proofs.decls.type_built.Goals as goal

pub returns : goal.returns
returns c = same_walk (cc (c.in_ok-base.ensures)) c.built.ensures
