use Rattle.std.proofs.Common.{rules}
use Rattle.pw_typed.specs.Views.{view_form}
use Rattle.pw_interp_todo.proofs.LeadLaws.{leaves, then_more, then_stops}
use Rattle.pw_interp_asks.proofs.PlaceLemmas.{alone_is}
use Rattle.pw_interp_asks.proofs.asks.place_alone.Goals as goal

pub lone_place-requires : goal.lone_place-requires
lone_place-requires c = alone_is (view_form c.args.e.now.form) c.requires

pub returns-in_err-place : goal.returns-in_err-place
returns-in_err-place c bound = then_stops _ (c.lone_place.ensures bound _) c.in_err-place.was (search rules)

pub returns : goal.returns
returns c bound = then_more _ (c.lone_place.ensures bound _) c.in_ok-place.was (leaves _)
