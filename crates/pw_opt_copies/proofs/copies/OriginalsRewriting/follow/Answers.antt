use Rattle.std.proofs.Common.{◌∙◌, sym}
use Rattle.pw_opt_copies.proofs.copies.OriginalsRewriting.follow.Goals as goal

pub set-requires-clause-home : goal.set-requires-clause-home
set-requires-clause-home c = c.requires.home c.in-Some.t (sym c.op_defines.ensures ∙ c.in-Some.is)
