use Rattle.std.proofs.Common.{◌≡◌, Err, false, true}
use Rattle.pw_cpp_directives.specs.Directives.{TurnsElif, defines, else_effect, endif_effect, ends, goes_on, one_name, opens, tests, tests_not, turns, undefines, with_definition, with_test, with_undefined}
use Rattle.pw_cpp_directives.specs.Obeying.{IsKept, OpensIf, standing_of}
use Rattle.pw_cpp_directives.specs.declared.directive.Word.TheVariants as word_is
use Rattle.pw_cpp_directives.proofs.Effects.{always, kept-beside, word-done, word-error, word-none}
use Rattle.pw_cpp_directives.proofs.directive.Standing.obey.Goals as goal
use Rattle.pw_cpp_macros.specs.Definitions.{definition_of}

pub returns-in_default-clause-obeys : goal.returns-in_default-clause-obeys
returns-in_default-clause-obeys c = word-none c.args.source.now c.args.digits c.args.d c.args.self.now c.args.self.now (Err c.faulty.result) c.word_of-found.result c.word_of-found.ensures c.faulty.result c.in_default.is c.faulty.ensures

pub returns-in-Error-clause-obeys : goal.returns-in-Error-clause-obeys
returns-in-Error-clause-obeys c =
    word-error c.args.source.now c.args.digits c.args.d c.args.self.now c.args.self.now (Err c.faulty-in-Error.result) c.word_of-found.result c.word_of-found.ensures c.in-Some.word c.faulty-in-Error.result c.in-Some.is
    c.in-Error.is c.faulty-in-Error.ensures

pub returns-in-Define-clause-obeys : goal.returns-in-Define-clause-obeys
returns-in-Define-clause-obeys c =
    word-done c.args.source.now c.args.digits c.args.d c.args.self.now c.define.new.self c.define.result c.word_of-found.result c.word_of-found.ensures c.in-Some.word word_is.Define (λ effect. effect ≡ with_definition c.args.source.now (standing_of c.args.self.now) c.args.d.hash (definition_of c.args.source.now c.args.d.tokens.now))
    c.in-Some.is c.in-Define.is (λ effect e. defines effect e) c.define.ensures.does

pub returns-in-Define-clause-kept : goal.returns-in-Define-clause-kept
returns-in-Define-clause-kept c = always (λ _. IsKept c.args.self.now c.define.new.self) c.define.result (λ _. kept-beside c.args.self.now c.define.new.self c.requires.limits c.define.ensures.beside)

pub returns-in-Undef-clause-obeys : goal.returns-in-Undef-clause-obeys
returns-in-Undef-clause-obeys c =
    word-done c.args.source.now c.args.digits c.args.d c.args.self.now c.undefine.new.self c.undefine.result c.word_of-found.result c.word_of-found.ensures c.in-Some.word word_is.Undef (λ effect. effect ≡ with_undefined (standing_of c.args.self.now) c.args.d.hash (one_name c.args.source.now c.args.d.tokens.now))
    c.in-Some.is c.in-Undef.is (λ effect e. undefines effect e) c.undefine.ensures.does

pub returns-in-Undef-clause-kept : goal.returns-in-Undef-clause-kept
returns-in-Undef-clause-kept c = always (λ _. IsKept c.args.self.now c.undefine.new.self) c.undefine.result (λ _. kept-beside c.args.self.now c.undefine.new.self c.requires.limits c.undefine.ensures.beside)

pub returns-in-Ifdef-clause-obeys : goal.returns-in-Ifdef-clause-obeys
returns-in-Ifdef-clause-obeys c =
    word-done c.args.source.now c.args.digits c.args.d c.args.self.now c.test.new.self c.test.result c.word_of-found.result c.word_of-found.ensures c.in-Some.word word_is.Ifdef (λ effect. effect ≡ with_test true (standing_of c.args.self.now) c.args.d.hash (one_name c.args.source.now c.args.d.tokens.now))
    c.in-Some.is c.in-Ifdef.is (λ effect e. tests effect e) c.test.ensures.does

pub returns-in-Ifdef-clause-kept : goal.returns-in-Ifdef-clause-kept
returns-in-Ifdef-clause-kept c = always (λ _. IsKept c.args.self.now c.test.new.self) c.test.result (λ _. kept-beside c.args.self.now c.test.new.self c.requires.limits c.test.ensures.beside)

pub returns-in-Ifndef-clause-obeys : goal.returns-in-Ifndef-clause-obeys
returns-in-Ifndef-clause-obeys c =
    word-done c.args.source.now c.args.digits c.args.d c.args.self.now c.test-in-Ifndef.new.self c.test-in-Ifndef.result c.word_of-found.result c.word_of-found.ensures c.in-Some.word word_is.Ifndef (λ effect. effect ≡ with_test false (standing_of c.args.self.now) c.args.d.hash (one_name c.args.source.now c.args.d.tokens.now))
    c.in-Some.is c.in-Ifndef.is (λ effect e. tests_not effect e) c.test-in-Ifndef.ensures.does

pub returns-in-Ifndef-clause-kept : goal.returns-in-Ifndef-clause-kept
returns-in-Ifndef-clause-kept c = always (λ _. IsKept c.args.self.now c.test-in-Ifndef.new.self) c.test-in-Ifndef.result (λ _. kept-beside c.args.self.now c.test-in-Ifndef.new.self c.requires.limits c.test-in-Ifndef.ensures.beside)

pub returns-in-If-clause-obeys : goal.returns-in-If-clause-obeys
returns-in-If-clause-obeys c =
    word-done c.args.source.now c.args.digits c.args.d c.args.self.now c.begin.new.self c.begin.result c.word_of-found.result c.word_of-found.ensures c.in-Some.word word_is.If (OpensIf c.args.source.now c.args.digits (standing_of c.args.self.now) c.args.d.hash c.args.d.tokens.now)
    c.in-Some.is c.in-If.is (λ effect e. opens e.0 effect e.1 e.2) c.begin.ensures.does

pub returns-in-Elif-clause-obeys : goal.returns-in-Elif-clause-obeys
returns-in-Elif-clause-obeys c =
    word-done c.args.source.now c.args.digits c.args.d c.args.self.now c.turn_elif.new.self c.turn_elif.result c.word_of-found.result c.word_of-found.ensures c.in-Some.word word_is.Elif (TurnsElif c.args.source.now c.args.digits (standing_of c.args.self.now) c.args.d.hash c.args.d.tokens.now (standing_of c.args.self.now).sections)
    c.in-Some.is c.in-Elif.is (λ effect e. goes_on effect e) c.turn_elif.ensures.does

pub returns-in-Else-clause-obeys : goal.returns-in-Else-clause-obeys
returns-in-Else-clause-obeys c =
    word-done c.args.source.now c.args.digits c.args.d c.args.self.now c.turn_else.new.self c.turn_else.result c.word_of-found.result c.word_of-found.ensures c.in-Some.word word_is.Else (λ effect. effect ≡ else_effect (standing_of c.args.self.now) c.args.d.hash c.args.d.tokens.now (standing_of c.args.self.now).sections)
    c.in-Some.is c.in-Else.is (λ effect e. turns effect e) c.turn_else.ensures.does

pub returns-in-Else-clause-kept : goal.returns-in-Else-clause-kept
returns-in-Else-clause-kept c = always (λ _. IsKept c.args.self.now c.turn_else.new.self) c.turn_else.result (λ _. kept-beside c.args.self.now c.turn_else.new.self c.requires.limits c.turn_else.ensures.beside)

pub returns-in-Endif-clause-obeys : goal.returns-in-Endif-clause-obeys
returns-in-Endif-clause-obeys c =
    word-done c.args.source.now c.args.digits c.args.d c.args.self.now c.end.new.self c.end.result c.word_of-found.result c.word_of-found.ensures c.in-Some.word word_is.Endif (λ effect. effect ≡ endif_effect (standing_of c.args.self.now) c.args.d.hash c.args.d.tokens.now (standing_of c.args.self.now).sections)
    c.in-Some.is c.in-Endif.is (λ effect e. ends effect e) c.end.ensures.does

pub returns-in-Endif-clause-kept : goal.returns-in-Endif-clause-kept
returns-in-Endif-clause-kept c = always (λ _. IsKept c.args.self.now c.end.new.self) c.end.result (λ _. kept-beside c.args.self.now c.end.new.self c.requires.limits c.end.ensures.beside)
