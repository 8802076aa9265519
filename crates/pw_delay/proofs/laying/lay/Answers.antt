use Rattle.std.proofs.Common.{ℕ, ◌≤◌, ap, ◌∙◌, arith}
use Rattle.pw_delay.specs.Marks.{begins}
use Rattle.pw_delay.specs.Placement.{mark_at, code_of, laid, short_limit}
use Rattle.pw_delay.proofs.MarkLaws.{mark_at_within, words_alike}
use Rattle.pw_delay.proofs.laying.lay.Goals as goal

pub lay_out-requires-clause-near : goal.lay_out-requires-clause-near
lay_out-requires-clause-near c = λ short.
    let few = c.requires.near short in
    let within : (b : ℕ) → begins c.in_ok-blocks.blocks b ≤ short_limit = λ b.
    let at = mark_at_within c.args.long 0 c.args.items.now b in
    let e = c.in_ok-blocks.ensures b in
    omega arith in
    (omega arith, within)

pub returns : goal.returns
unfolding laid
returns c = c.in_ok-code.ensures ∙ ap code_of (words_alike c.args.long (begins c.in_ok-blocks.blocks) (mark_at c.args.long 0 c.args.items.now) 0 c.args.items.now c.in_ok-blocks.ensures)
