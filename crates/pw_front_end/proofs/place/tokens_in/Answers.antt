use Rattle.std.proofs.Common.{◌≡◌, ◌∙◌, IfOk, ap, subst, take}
use Rattle.std.proofs.lemmas.List.{take_min}
use Rattle.pw_token.specs.Limits.{text_limit}
use Rattle.pw_front_end.specs.Lexed.{lexed}
use Rattle.pw_front_end.specs.Places.{tokens_before}
use Rattle.pw_front_end.proofs.place.tokens_in.Goals as goal

pub returns : goal.returns
returns c =
    subst (λ t. IfOk c.tokens_so_far.result (λ tokens. tokens.items ≡ tokens_before t (lexed t)))
    (ap (λ n. take n c.args.text.now) c.min.ensures ∙ take_min text_limit c.args.text.now) c.tokens_so_far.ensures
