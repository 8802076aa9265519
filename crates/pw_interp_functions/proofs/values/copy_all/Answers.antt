use Rattle.std.proofs.Common.{sym, ◌∙◌}
use Rattle.pw_interp_functions.proofs.Copying.{no_ends, all_copied}
use Rattle.pw_interp_functions.proofs.values.copy_all.Goals as goal

pub returns-in-None : goal.returns-in-None
returns-in-None c = no_ends c.args.source c.args.place (sym c.ends_of.ensures ∙ c.in-None.is)

pub returns-in_ok-copy_bytes-in-Some : goal.returns-in_ok-copy_bytes-in-Some
returns-in_ok-copy_bytes-in-Some c =
    all_copied c.args.source c.args.place c.in-Some.from c.in-Some.to c.in-Some.offset c.copy_bytes.new.objects (sym c.ends_of.ensures ∙ c.in-Some.is) c.in_ok-copy_bytes-in-Some.ensures
