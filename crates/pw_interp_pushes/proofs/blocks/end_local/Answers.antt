use Rattle.std.proofs.Common.{sym, ap, ◌∙◌, ℕ, Option, List, length, slice_set}
use Rattle.std.proofs.lemmas.List.{length-set, with_items_is}
use Rattle.pw_interp_calls.specs.Views.{view_env}
use Rattle.pw_interp_pushes.proofs.blocks.end_local.Goals as goal

pub returns-clause-env : goal.returns-clause-env
returns-clause-env c =
    let k = c.args.local in
    let numbers = c.args.call.now.env.numbers in
    let new = c.set_number.new.numbers in
    let long = ap length c.set_number.ensures ∙ length-set c.deref_mut.result.now k c.args.before ∙ ap length c.deref_mut.ensures.value ∙ sym numbers.ok.0 in
    ap (λ (ns : List (Option ℕ)). record (view_env c.args.call.now.env) { numbers = ns })
    (with_items_is numbers new long ∙ c.set_number.ensures ∙ ap (λ ns. slice_set ns k c.args.before) c.deref_mut.ensures.value)
