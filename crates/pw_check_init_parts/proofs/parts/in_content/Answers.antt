use Rattle.std.proofs.Common.{sym, arith}
use Rattle.std.proofs.lemmas.Grind.{common_steps}
use Rattle.pw_check_init_parts.proofs.MemberLemmas.{both_found, no_member, no_offset}
use Rattle.pw_check_init_parts.proofs.parts.in_content.Goals as goal

pub returns-in_err-member : goal.returns-in_err-member
returns-in_err-member c =
    let e = no_member c.args.content.now.members.items c.args.content.now.offsets.items c.args.next (sym c.in_err-member.ensures) in
    grind (arith, common_steps)

pub returns-in_err-within : goal.returns-in_err-within
returns-in_err-within c =
    let e = no_offset c.args.content.now.members.items c.args.content.now.offsets.items c.args.next (sym c.in_err-within.ensures) in
    grind (arith, common_steps)

pub returns : goal.returns
returns c =
    sym (both_found c.args.content.now.members.items c.args.content.now.offsets.items c.args.next c.in_ok-member.member.now c.in_ok-within.within (sym c.in_ok-member.ensures) (sym c.in_ok-within.ensures))
