use Rattle.std.proofs.Common.{◌≡◌, length, arith}
use Rattle.pw_live_fronts.proofs.Exposing.{named_now, numbered_now, number_kept}
use Rattle.pw_live_fronts.proofs.named.Exposed.add.Goals as goal

pub invariant_of-self-2 : goal.invariant_of-self-2
invariant_of-self-2 c =
    let e = c.args.self.now in
    let size : c.len-number.result ≡ length e.names.items = omega (arith, c.len-number.ensures, e.names.ok.0) in
    record {
      named = named_now e.names.items c.push.new.self.items e.numbers.items c.args.t c.len-number.result size c.in_ok-push.ensures.items c.requires e.named;
      numbered = numbered_now e.names.items c.push.new.self.items e.numbers.items c.args.t c.len-number.result size c.in_ok-push.ensures.items e.numbered;
    }

pub returns-clause-kept : goal.returns-clause-kept
returns-clause-kept c = λ u h. (h.0, number_kept c.args.self.now.numbers.items c.args.t c.len-number.result c.requires u h.0 h.1)
