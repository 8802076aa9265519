use Rattle.pw_phase_two.proofs.CompiledLaws.{compiled_lawful}
use Rattle.pw_phase_two.proofs.compiling.compile.Goals as goal

pub returns-clause-lawful : goal.returns-clause-lawful
returns-clause-lawful c =
    compiled_lawful c.args.f.now c.args.d.now c.in_ok-made.made c.in_ok-made.ensures
    c.numbers_fit.ensures.frame c.numbers_fit.ensures.words c.numbers_fit.ensures.fixes
