-- Places, given to one temporary after the other.
use Rattle.std.specs.Prelude.{ℕ, ◌≡◌, ◌<◌, ◌++◌, List, [], ◌∷◌, length, slice_index_or}
use Rattle.pw_opt_places.specs.declared.homes.Home.{Home}
use Rattle.pw_opt_places.specs.declared.homes.Home.TheVariants as home
use Rattle.pw_opt_places.specs.declared.places.Place.{Place}
use Rattle.pw_opt_places.specs.declared.places.Place.TheVariants as place
use Rattle.pw_opt_places.specs.declared.places.Given.{Given}
use Rattle.pw_opt_places.specs.Homes.{home_of}
use Rattle.pw_opt_places.specs.Places.{place_of, AreGiven}

abbrev pub AreGivenIn : Given → Type 0
AreGivenIn g = AreGiven g.places.items g.names.items g.counts.items

-- one more temporary has this place, and there are as many blocks
abbrev pub HasPlace : Given → Given → Place → Type 0
HasPlace old new p = (new.places.items ≡ old.places.items ++ p ∷ []) × (length new.counts.items ≡ length old.counts.items)

-- it is at home in one of so many blocks, if in one
abbrev pub IsHomeBelow : ℕ → Home → Type 0
IsHomeBelow blocks home.Nowhere = Unit {0}
IsHomeBelow blocks (home.At b) = b < blocks
IsHomeBelow blocks home.Everywhere = Unit {0}

-- the next place that suits a temporary
abbrev pub place_for : Home → List ℕ → List ℕ → Place
place_for home.Nowhere names counts = place.Nowhere
place_for (home.At b) names counts = place.Own b (slice_index_or counts b 0)
place_for home.Everywhere names counts = place.Shared (length names)

-- the place that a temporary needs
abbrev pub IsPlaceFor : Home → Place → Type 0
IsPlaceFor home.Nowhere p = p ≡ place.Nowhere
IsPlaceFor (home.At b) p = (j : ℕ) × (p ≡ place.Own b j)
IsPlaceFor home.Everywhere p = (i : ℕ) × (p ≡ place.Shared i)

abbrev pub ArePlacesFor : ℕ → List Home → List Place → Type 0
ArePlacesFor temps homes places = (length places ≡ temps) × ((t : ℕ) → t < temps → IsPlaceFor (home_of homes t) (place_of places t))
