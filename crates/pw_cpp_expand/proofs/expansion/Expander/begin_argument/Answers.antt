use Rattle.std.proofs.Common.{◌≡◌, ◌++◌, [], ◌∷◌, ap, reverse, ◌∙◌}
use Rattle.pw_cpp_expand.proofs.expansion.Expander.begin_argument.Goals as goal

pub returns : goal.returns
returns c =
    ap (λ x. record c.args.self.now { calls = x; pending = c.put_in_front.new.pending }) c.in_ok-push.ensures
    ∙ ap (λ x. record c.args.self.now { calls = c.args.self.now.calls ++ c.args.call ∷ []; pending = x }) (c.in_ok-put_in_front.ensures ∙ ap (λ x. x ++ reverse c.args.tokens) c.requires)
