use Rattle.std.proofs.Common.{length, sym}
use Rattle.pw_cpp_expand.proofs.Falling.{out-left}
use Rattle.pw_cpp_expand.proofs.Whole.{no-macro-turn, stands-whole}
use Rattle.pw_cpp_expand.proofs.expansion.Expander.expand_one.Goals as goal

pub put_out-requires : goal.put_out-requires
put_out-requires c = c.requires.ready.limits.1

pub returns-in_default-clause-comes : goal.returns-in_default-clause-comes
returns-in_default-clause-comes c =
    stands-whole c.args.ground.source.now c.args.ground.text.now c.args.ground.macros.now c.args.ground.mode c.args.sets.now c.args.self.now c.args.lexeme c.args.progress.now c.args.self.now.pending c.args.progress.now
    (no-macro-turn c.args.ground.source.now c.args.ground.text.now c.args.ground.macros.now c.args.ground.mode c.args.sets.now c.args.self.now c.args.lexeme c.args.progress.now (sym c.in_default.ensures)) c.requires.ready c.requires.lexeme _ _ c.put_out.result c.put_out.ensures

pub returns-in_default-clause-left : goal.returns-in_default-clause-left
returns-in_default-clause-left c = out-left (length c.args.ground.text.now) c.args.self.now c.args.progress.now c.args.ground.mode c.args.lexeme c.put_out.new.self c.put_out.new.progress c.put_out.result c.put_out.ensures
