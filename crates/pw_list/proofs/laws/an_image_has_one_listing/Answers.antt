use Rattle.pw_list.proofs.Listings.{one_listing}
use Rattle.pw_list.proofs.laws.an_image_has_one_listing.Goals as goal

pub returns : goal.returns
returns c = one_listing
