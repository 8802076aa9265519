use Rattle.std.proofs.Common.{◌≡◌, ap, arith, length, Bool, Err, Ok, false, rules}
use Rattle.std.proofs.lemmas.Bool.{false≢true}
use Rattle.pw_cpp_expand.proofs.Falling.{turn-first, turn-inner}
use Rattle.pw_cpp_expand.proofs.Whole.{first-turn, inner-turn, no-turn, ready-first, ready-inner, step-failed}
use Rattle.pw_cpp_expand.proofs.expansion.Expander.turn.Goals as goal

pub expand_one-requires-clause-ready : goal.expand_one-requires-clause-ready
expand_one-requires-clause-ready c = (ready-first c.args.ground.text.now c.args.sets.now c.args.self.now c.args.progress.now c.pop.new.self c.in-Some.lexeme c.in-Some.ensures c.requires).0

pub expand_one-requires-clause-lexeme : goal.expand_one-requires-clause-lexeme
expand_one-requires-clause-lexeme c = (ready-first c.args.ground.text.now c.args.sets.now c.args.self.now c.args.progress.now c.pop.new.self c.in-Some.lexeme c.in-Some.ensures c.requires).1

pub returns-in_err-expand_one-clause-comes : goal.returns-in_err-expand_one-clause-comes
returns-in_err-expand_one-clause-comes c =
    step-failed c.args.ground.source.now c.args.ground.text.now c.args.ground.macros.now c.args.ground.mode c.args.sets.now _ _ _ _ c.in_err-expand_one.field-0.0 c.from_residual.result
    (let e : c.from_residual.result ≡ Err c.in_err-expand_one.field-0.0 = first_of (search (rules, c.from_residual.ensures), cc (c.from_residual.ensures)) in e)
    (first-turn c.args.ground.source.now c.args.ground.text.now c.args.ground.macros.now c.args.ground.mode {A = Unit {0}} c.args.sets.now c.expand_one.new.sets c.args.self.now c.args.progress.now c.pop.new.self c.in-Some.lexeme c.in-Some.ensures c.expand_one.new.self c.expand_one.new.progress (Err c.in_err-expand_one.field-0.0) c.in_err-expand_one.ensures.comes)

pub returns-in-Some-clause-comes : goal.returns-in-Some-clause-comes
returns-in-Some-clause-comes c = first-turn c.args.ground.source.now c.args.ground.text.now c.args.ground.macros.now c.args.ground.mode {A = Unit {0}} c.args.sets.now c.expand_one.new.sets c.args.self.now c.args.progress.now c.pop.new.self c.in-Some.lexeme c.in-Some.ensures c.expand_one.new.self c.expand_one.new.progress (Ok (tt {0})) c.in_ok-expand_one.ensures.comes

pub end_argument-requires-clause-ready : goal.end_argument-requires-clause-ready
end_argument-requires-clause-ready c =
    (ready-inner c.args.ground.text.now c.args.sets.now c.args.self.now c.args.progress.now c.pop.new.self c.pop-2.new.self c.in-Some-pop.call c.in_default.ensures.1 c.in-Some-pop.ensures c.requires).0

pub end_argument-requires-clause-call : goal.end_argument-requires-clause-call
end_argument-requires-clause-call c =
    (ready-inner c.args.ground.text.now c.args.sets.now c.args.self.now c.args.progress.now c.pop.new.self c.pop-2.new.self c.in-Some-pop.call c.in_default.ensures.1 c.in-Some-pop.ensures c.requires).1

pub returns-in_err-end_argument-clause-comes : goal.returns-in_err-end_argument-clause-comes
returns-in_err-end_argument-clause-comes c =
    step-failed c.args.ground.source.now c.args.ground.text.now c.args.ground.macros.now c.args.ground.mode c.args.sets.now _ _ _ _ c.in_err-end_argument.field-0.0 c.from_residual-in_err-end_argument.result
    (let e : c.from_residual-in_err-end_argument.result ≡ Err c.in_err-end_argument.field-0.0 = first_of (search (rules, c.from_residual-in_err-end_argument.ensures), cc (c.from_residual-in_err-end_argument.ensures)) in e)
    (inner-turn c.args.ground.source.now c.args.ground.text.now c.args.ground.macros.now c.args.ground.mode {A = Unit {0}} c.args.sets.now c.end_argument.new.sets c.args.self.now c.args.progress.now c.pop.new.self c.pop-2.new.self c.in-Some-pop.call c.in_default.ensures.0 c.in_default.ensures.1
    c.in-Some-pop.ensures c.end_argument.new.self c.end_argument.new.progress (Err c.in_err-end_argument.field-0.0) c.in_err-end_argument.ensures.comes)

pub returns-in-Some-pop-clause-comes : goal.returns-in-Some-pop-clause-comes
returns-in-Some-pop-clause-comes c = inner-turn c.args.ground.source.now c.args.ground.text.now c.args.ground.macros.now c.args.ground.mode {A = Unit {0}} c.args.sets.now c.end_argument.new.sets c.args.self.now c.args.progress.now c.pop.new.self c.pop-2.new.self c.in-Some-pop.call c.in_default.ensures.0 c.in_default.ensures.1
    c.in-Some-pop.ensures c.end_argument.new.self c.end_argument.new.progress (Ok (tt {0})) c.in_ok-end_argument.ensures.comes

pub returns-clause-done : goal.returns-clause-done
returns-clause-done c = λ _. (c.in_default.ensures.1, c.in_default-pop.ensures.1)

pub returns-clause-comes : goal.returns-clause-comes
returns-clause-comes c =
    no-turn c.args.ground.source.now c.args.ground.text.now c.args.ground.macros.now c.args.ground.mode {A = Bool} c.args.sets.now c.args.self.now c.args.progress.now c.pop.new.self c.pop-2.new.self c.in_default.ensures.0 c.in_default.ensures.1 c.in_default-pop.ensures.0 c.in_default-pop.ensures.1 false c.requires

pub returns-in-Some-clause-left : goal.returns-in-Some-clause-left
returns-in-Some-clause-left c = λ _. omega (arith, c.in_ok-expand_one.ensures.left, turn-first (length c.args.ground.text.now) c.args.self.now c.args.progress.now c.pop.new.self c.in-Some.lexeme c.in-Some.ensures)

pub returns-in-Some-pop-clause-left : goal.returns-in-Some-pop-clause-left
returns-in-Some-pop-clause-left c = λ _.
    omega (arith, c.in_ok-end_argument.ensures.left, turn-inner (length c.args.ground.text.now) c.args.self.now c.args.progress.now c.pop-2.new.self c.in-Some-pop.call c.in_default.ensures.0 c.in-Some-pop.ensures, ap length c.in_default.ensures.1)

pub returns-clause-left : goal.returns-clause-left
returns-clause-left c = λ e. absurd (false≢true e)
