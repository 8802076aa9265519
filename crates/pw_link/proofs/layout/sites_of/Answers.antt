use Rattle.std.proofs.Common.{◌≡◌, [], map, refl}
use Rattle.pw_link.specs.Layout.{function_site}
use Rattle.pw_link.specs.Views.{placed_view}
use Rattle.pw_link.proofs.layout.sites_of.Goals as goal

pub returns : goal.returns
returns c =
    let text = c.in_ok-add_text.ensures [] (λ name. rw c.new-names.ensures.empty refl) in
    let entries : c.names-2.inside.columns.entries ≡ c.add_data.new.names.entries = rw (← c.names-2.view_is) refl in
    record {
      names = rw entries (c.in_ok-add_data.ensures (map function_site (map placed_view c.args.text.now)) text);
      routines = c.in_ok-routine_addresses.ensures;
      stack_end = refl;
    }
