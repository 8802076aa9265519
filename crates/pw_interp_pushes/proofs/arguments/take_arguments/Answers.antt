use Rattle.std.proofs.Common.{sym, ap, ◌∙◌, [], ◌∷◌, reverse}
use Rattle.std.proofs.lemmas.List.{reverse-append}
use Rattle.pw_cmean.specs.Acts.{◌>>=◌}
use Rattle.pw_interp_todo.specs.Operands.{call_behind}
use Rattle.pw_interp_todo.specs.Resuming.{Gave, Listed, after, on_list, resume}
use Rattle.pw_interp_pushes.proofs.Pushing.{popped_is}
use Rattle.pw_interp_pushes.proofs.arguments.take_arguments.Goals as goal

pub loop-last-init : goal.loop-last-init
loop-last-init c = λ e n rest. ap (λ vs. resume c.args.todo.now.items rest e n (Listed (reverse vs))) (sym c.new-values.ensures.items)

pub loop-last-preserved : goal.loop-last-preserved
unfolding after on_list
loop-last-preserved c = λ e n rest.
    let v = c.in-Held.value in
    let values = c.loop-last.values.items in
    c.loop-last.invariant e n rest
    ∙ popped_is c.pop.new.self.items c.in-Some.last c.loop-last.todo.items e n (Listed (reverse values)) c.in-Some.ensures.items rest
    ∙ ap (λ k. after k (resume c.pop.new.self.items rest) e n (Listed (reverse values))) c.in-Held.is
    ∙ ap (λ vs. resume c.pop.new.self.items rest e n (Listed vs)) (sym (ap reverse c.in_ok-push-in-Held.ensures.items ∙ reverse-append values (v ∷ [])))

pub returns-in-Call-clause-taken : goal.returns-in-Call-clause-taken
unfolding after on_list
returns-in-Call-clause-taken c = λ e n rest.
    let values = c.loop-last.values.items in
    c.loop-last.invariant e n rest
    ∙ popped_is c.pop.new.self.items c.in-Some.last c.loop-last.todo.items e n (Listed (reverse values)) c.in-Some.ensures.items rest
    ∙ ap (λ k. after k (resume c.pop.new.self.items rest) e n (Listed (reverse values))) c.in-Call.is
    ∙ ap (λ vs. call_behind c.in-Call.callee vs e n >>= λ given. resume c.pop.new.self.items rest e n (Gave given)) (sym c.reverse.ensures.items)
