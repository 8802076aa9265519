use Rattle.std.proofs.Common.{rules, arith}
use Rattle.pw_parse_cursor.proofs.Types.{any_typedef, is_typedef, no_item}
use Rattle.pw_parse_cursor.proofs.word.has_typedef.Goals as goal

pub returns : goal.returns
returns c =
    let e = any_typedef c.args.specifiers.now in
    let z = no_item is_typedef c.loop-rest.rest.now in
    grind (rules, arith, e, z)
