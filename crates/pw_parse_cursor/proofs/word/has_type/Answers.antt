use Rattle.std.proofs.Common.{rules, arith}
use Rattle.pw_parse_cursor.proofs.Types.{any_type, is_type, no_item}
use Rattle.pw_parse_cursor.proofs.word.has_type.Goals as goal

pub returns : goal.returns
returns c =
    let e = any_type c.args.specifiers.now in
    let z = no_item is_type c.loop-rest.rest.now in
    grind (rules, arith, e, z)
