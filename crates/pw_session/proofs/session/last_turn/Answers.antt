use Rattle.std.proofs.Common.{Ok, Err}
use Rattle.pw_session.proofs.TurnLemmas.{end_is, end_kind, end_part, end_read, end_whole, fault_is_last, fault_whole}
use Rattle.pw_session.proofs.session.last_turn.Goals as goal

pub returns-in-Ok-clause-last : goal.returns-in-Ok-clause-last
returns-in-Ok-clause-last g c = rw c.last_answer.ensures (end_is c.in-Ok.found c.args.offset (g.I.Source.rest c.args.input.now) (g.I.Source.rest c.next.new.self) c.in-Ok.ensures.rest)

pub returns-in-Ok-clause-part : goal.returns-in-Ok-clause-part
returns-in-Ok-clause-part g c = end_part (Ok c.in-Ok.found) (g.I.Source.rest c.args.input.now) (g.I.Source.rest c.next.new.self) c.in-Ok.ensures.rest

pub returns-in-Ok-clause-whole : goal.returns-in-Ok-clause-whole
returns-in-Ok-clause-whole g c = rw c.last_answer.ensures (end_whole c.in-Ok.found c.args.offset (g.I.Source.rest c.args.input.now) (g.I.Source.rest c.next.new.self) c.in-Ok.ensures.rest)

pub returns-in-Ok-clause-read : goal.returns-in-Ok-clause-read
returns-in-Ok-clause-read g c = rw c.last_answer.ensures (end_read c.in-Ok.found c.args.offset (g.I.Source.faults c.args.input.now) (g.I.Source.faults c.next.new.self) c.in-Ok.ensures.cause)

pub returns-in-Ok-clause-kind : goal.returns-in-Ok-clause-kind
returns-in-Ok-clause-kind g c = rw c.last_answer.ensures (end_kind c.in-Ok.found c.args.offset)

pub returns-in-Err-clause-last : goal.returns-in-Err-clause-last
returns-in-Err-clause-last g c = fault_is_last c.args.offset (g.I.Source.rest c.args.input.now)

pub returns-in-Err-clause-part : goal.returns-in-Err-clause-part
returns-in-Err-clause-part g c = end_part (Err _) (g.I.Source.rest c.args.input.now) (g.I.Source.rest c.next.new.self) c.in-Err.ensures.rest

pub returns-in-Err-clause-whole : goal.returns-in-Err-clause-whole
returns-in-Err-clause-whole g c = fault_whole _ (g.I.Source.rest c.args.input.now) (g.I.Source.rest c.next.new.self) c.in-Err.ensures.rest
