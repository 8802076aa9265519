use Rattle.std.proofs.Common.{◌≡◌, ◌-◌, ◌++◌, [], map}
use Rattle.pw_fields.specs.Fields.{items_at}
use Rattle.pw_fields.proofs.FieldLoops.{with_front}
use Rattle.pw_db_file.specs.Reading.{web_at, next_web}
use Rattle.pw_db_file.specs.Seen.{known_web}
use Rattle.pw_db_file.proofs.reading.read_webs.Given as goal

abbrev pub invariant-loop : goal.invariant-loop
invariant-loop l =
    let earlier = map known_web l.fn.before.webs.items in
    record {
      seen : map known_web l.seen.webs.items ≡ earlier ++ map (λ w. w.0) l.webs;
      found : with_front l.webs (items_at (λ own. web_at l.names (earlier ++ own) own) next_web (l.count - l.counter) (map (λ w. w.0) l.webs) l.rest) ≡ items_at (λ own. web_at l.names (earlier ++ own) own) next_web l.count [] l.bytes;
    }
