use Rattle.std.proofs.Common.{◌≡◌, Err, List, ap, rules, subst, sym, ◌∙◌, arith}
use Rattle.std.specs.Prelude.{option_map}
use Rattle.pw_cpp_directives.specs.Obeying.{AnswersJudgement, IsVerdictOf}
use Rattle.pw_cpp_directives.specs.Conditions.{items_of}
use Rattle.pw_cpp_expand.specs.Numbered.{all_named}
use Rattle.pw_cpp_expand.specs.declared.progress.Lexeme.{Lexeme}
use Rattle.pw_cpp_expand.specs.declared.progress.Progress.{Progress}
use Rattle.pw_cpp_directives.proofs.Judging.{all-known, judged-malformed, judged-stopped, judged-whole, keeps-self, stopped-on}
use Rattle.pw_cpp_directives.proofs.condition.judge.Goals as goal

pub expand_alone-requires-clause-within : goal.expand_alone-requires-clause-within
expand_alone-requires-clause-within c = omega (arith, ap (λ (p : Progress). p.next) c.requires.fresh)

pub expand_alone-requires-clause-known : goal.expand_alone-requires-clause-known
expand_alone-requires-clause-known c = all-known c.args.sets.now c.in-Some.taken c.requires.empty (rw c.in-Some.is at c.in_ok-found.ensures.known)

pub returns-in_default-clause-keeps : goal.returns-in_default-clause-keeps
returns-in_default-clause-keeps c = keeps-self c.args.sets.now

pub returns-in_default-clause-judges : goal.returns-in_default-clause-judges
returns-in_default-clause-judges c =
    judged-malformed c.args.source.now c.args.macros.now c.args.digits c.args.tokens.now c.args.progress.now c.requires.fresh c.args.progress.now
    (ap (option_map (all_named c.args.sets.now)) (sym c.in_default.is) ∙ c.in_ok-found.ensures.taken c.args.sets.now c.requires.empty)

pub returns-in_err-out-clause-judges : goal.returns-in_err-out-clause-judges
returns-in_err-out-clause-judges c =
    stopped-on (AnswersJudgement c.args.source.now c.args.macros.now c.args.digits c.args.tokens.now c.args.progress.now.produced c.expand_alone.new.progress.produced) c.in_err-out.field-0.0 c.from_residual-in_err-out.result
    (let e : c.from_residual-in_err-out.result ≡ Err c.in_err-out.field-0.0 = first_of (search (rules, c.from_residual-in_err-out.ensures), cc (c.from_residual-in_err-out.ensures)) in e)
    (judged-stopped c.args.source.now c.args.macros.now c.args.digits c.args.tokens.now c.args.progress.now c.requires.fresh _
    (ap (option_map (all_named c.args.sets.now)) (sym c.in-Some.is) ∙ c.in_ok-found.ensures.taken c.args.sets.now c.requires.empty) c.expand_alone.new.progress c.in_err-out.field-0.0 c.in_err-out.ensures)

pub returns-clause-keeps : goal.returns-clause-keeps
returns-clause-keeps c = c.in_ok-out.ensures.1

pub returns-clause-limits : goal.returns-clause-limits
returns-clause-limits c = c.in_ok-out.ensures.4

pub returns-clause-judges : goal.returns-clause-judges
returns-clause-judges c =
    let P : List Lexeme → Type 0 = λ x. IsVerdictOf (items_of c.args.source.now (all_named c.expand_alone.new.sets x)) c.in_ok-verdict.verdict in
    judged-whole c.args.source.now c.args.macros.now c.args.digits c.args.tokens.now c.args.progress.now c.requires.fresh _
    (ap (option_map (all_named c.args.sets.now)) (sym c.in-Some.is) ∙ c.in_ok-found.ensures.taken c.args.sets.now c.requires.empty) _ _ c.in_ok-verdict.verdict c.in_ok-out.ensures.0
    (subst P c.as_slice.ensures (c.in_ok-verdict.ensures c.expand_alone.new.sets))
