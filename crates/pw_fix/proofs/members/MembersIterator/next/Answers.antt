use Rattle.std.proofs.Common.{rules, ◌+◌, ◌<◌, ◌-◌, length, arith}
use Rattle.pw_fix.specs.Words.{held}
use Rattle.pw_fix.proofs.Held.{held_next, held_none}
use Rattle.pw_fix.proofs.members.MembersIterator.next.Goals as goal

pub returns-in_err-i-clause-steps : goal.returns-in_err-i-clause-steps
returns-in_err-i-clause-steps c =
    let row = c.args.self.now.row.now in
    let at = c.args.self.now.at in
    let e = held_none row.words.items at (row.len - at) c.in_err-i.ensures.none in
    rw c.from_residual.ensures (e, e)

pub returns-clause-steps : goal.returns-clause-steps
returns-clause-steps c =
    let row = c.args.self.now.row.now in
    let found = c.in_ok-i.ensures.found in
    held_next row.words.items row.len c.args.self.now.at c.in_ok-i.i found.0 found.1 found.2 c.in_ok-i.ensures.least

pub returns-clause-goes : goal.returns-clause-goes
returns-clause-goes c =
    let row = c.args.self.now.row.now in
    let found = c.in_ok-i.ensures.found in
    let e = held_next row.words.items row.len c.args.self.now.at c.in_ok-i.i found.0 found.1 found.2 c.in_ok-i.ensures.least in
    let shorter : length (held row.words.items (c.in_ok-i.i + 1) (row.len - (c.in_ok-i.i + 1))) < length (held row.words.items c.args.self.now.at (row.len - c.args.self.now.at)) = rw e (omega arith) in
    search rules
