use Rattle.pw_commands.proofs.ShowingLemmas.{listing_needed, listing_refused}
use Rattle.pw_commands.proofs.showing.listed.Goals as goal

pub returns-in-Ok-listing-clause-text : goal.returns-in-Ok-listing-clause-text
returns-in-Ok-listing-clause-text g c =
    listing_needed (g.S.Store.told c.args.store.now) c.in-Ok.bytes.items c.in-Ok-listing.text.items c.in-Ok.ensures.bytes (rw c.deref.ensures.value at c.in-Ok-listing.ensures.exact)

pub returns-in-Err-LoadFault-clause-text : goal.returns-in-Err-LoadFault-clause-text
returns-in-Err-LoadFault-clause-text g c =
    listing_refused (g.S.Store.told c.args.store.now) c.in-Ok.bytes.items c.in-Err-LoadFault.at c.bad_file.result c.in-Ok.ensures.bytes
    (rw (c.deref.ensures.value, c.in-Err-LoadFault.field-0-is) at c.in-Err-LoadFault.ensures.fault) c.bad_file.ensures.bad
