use Rattle.std.proofs.Common.{◌≡◌, List, [], length, ap, sym, ◌∙◌, arith}
use Rattle.std.proofs.lemmas.List.{nil_from_length}
use Rattle.pw_delay.specs.declared.items.Item.{Item}
use Rattle.pw_delay.specs.Marks.{begins}
use Rattle.pw_delay.specs.Placement.{words_from, extended}
use Rattle.pw_delay.proofs.Extending.{extended_by_none}
use Rattle.pw_delay.proofs.laying.lay_out.Goals as goal

pub returns : goal.returns
returns c =
    let none : c.loop-rest.rest.now ≡ [] = nil_from_length c.loop-rest.rest.now (omega arith) in
    sym (extended_by_none c.loop-rest.code)
    ∙ ap (λ (items : List Item). extended c.loop-rest.code (words_from c.args.long (begins c.args.blocks.now) (length c.loop-rest.code.words) items)) (sym none)
    ∙ c.loop-rest.invariant.laid
