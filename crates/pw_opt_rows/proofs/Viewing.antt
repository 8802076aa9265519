-- Rows as a block sees them.
use Rattle.std.specs.Prelude.{ℕ, ◌≡◌, ◌≢◌, ◌==◌, ◌<◌, if◌then◌else◌, Bool, true, false, List, length, slice_set, slice_index_or}
use Rattle.std.proofs.Common.{refl, sym, ap, subst, ◌∙◌, arith, inl, inr}
use Rattle.std.proofs.lemmas.Bool.{cases_lt, cases_eq, eqb-true, eq-eqb}
use Rattle.std.proofs.lemmas.List.{ext_get_or, get_or_past, get_or-set_same, get_or-set_other, length-set, length-map}
use Rattle.std.proofs.Math.ListN.{get_or-map}
use Rattle.pw_opt_rules.specs.declared.flat.Flat.{Flat}
use Rattle.pw_opt_rules.specs.declared.flat.Flat.TheVariants.{Many}
use Rattle.pw_opt_rules.specs.Rows.{known}
use Rattle.pw_opt_rules.specs.Copies.{without_copies}
use Rattle.pw_opt_order.specs.Order.{forgotten}
use Rattle.pw_opt_places.specs.declared.places.Place.{Place}
use Rattle.pw_opt_places.specs.declared.places.Place.TheVariants.{Nowhere, Own, Shared}
use Rattle.pw_opt_places.specs.declared.places.Places.{Places}
use Rattle.pw_opt_places.specs.Places.{place_of, IsPlaceIn, IsAtHome}
use Rattle.pw_opt_rows.specs.Places.{at_place, with_place}
use Rattle.pw_opt_rows.specs.Seeing.{seen, at_rest, rested, taken, IsRowOf}
use Rattle.pw_opt_rows.specs.RowLaws.{known_seen, known_rested, rested_long, known_taken, taken_long}

pub seen_long : (places : List Place) (b : ℕ) (row : List Flat × List Flat) → length (seen places b row) ≡ length places
seen_long places b row = length-map places (at_place b row)

-- ---- what is set at one place

own_number : (b c j k : ℕ) (row : List Flat × List Flat) (x : Flat) → c ≡ b → Own c j ≢ Own b k → at_place b (with_place row (Own c j) x) (Own b k) ≡ at_place b row (Own b k)
own_number b c j k row x home other = by (b == b)
  where
    apart : k ≢ j
    apart same = other (ap (λ (d : ℕ). Own d j) home ∙ ap (Own b) (sym same))

    by : (d : Bool) → (if d then known (slice_set row.1 j x) k else Many) ≡ (if d then known row.1 k else Many)
    by true = get_or-set_other row.1 j k x Many apart
    by false = refl

-- other places of the block stay
other_stays : (b : ℕ) (row : List Flat × List Flat) (x : Flat) (p q : Place) → IsPlaceIn b p → p ≢ q → at_place b (with_place row p x) q ≡ at_place b row q
other_stays b row x Nowhere q home other = absurd home
other_stays b row x (Own c j) Nowhere home other = refl
other_stays b row x (Own c j) (Shared k) home other = refl
other_stays b row x (Own c j) (Own d k) home other = elim (cases_eq d b) [
  | inl same ↦
      subst (λ (e : ℕ). at_place b (with_place row (Own c j) x) (Own e k) ≡ at_place b row (Own e k)) (sym same)
      (own_number b c j k row x home (λ e. other (e ∙ ap (λ (i : ℕ). Own i k) (sym same))))
  | inr apart ↦ by (d == b) refl (λ e. apart (eqb-true d b e))
]
  where
    by : (e : Bool) → (d == b) ≡ e → ((d == b) ≡ true → ⊥) → (if e then known (slice_set row.1 j x) k else Many) ≡ (if e then known row.1 k else Many)
    by true e never = absurd (never e)
    by false e never = refl
other_stays b row x (Shared i) Nowhere home other = refl
other_stays b row x (Shared i) (Own d k) home other = refl
other_stays b row x (Shared i) (Shared k) home other = get_or-set_other row.0 i k x Many (λ same. other (ap Shared (sym same)))

abbrev IsWithin : Places → ℕ → Place → Type 0
IsWithin ps b Nowhere = Unit {0}
IsWithin ps b (Own c j) = j < ps.own
IsWithin ps b (Shared i) = i < length ps.names.items

within : (ps : Places) (b t : ℕ) (p : Place) → place_of ps.places.items t ≡ p → IsWithin ps b p
within ps b t Nowhere e = tt
within ps b t (Own c j) e = let few = ps.are.given.within t c j e in let most = ps.are.most c in omega (arith, few, most)
within ps b t (Shared i) e = (ps.are.given.named t i e).0

-- and what is set there is seen
this_set : (ps : Places) (b : ℕ) (row : List Flat × List Flat) (x : Flat) (p : Place) → IsRowOf ps row → IsPlaceIn b p → IsWithin ps b p → at_place b (with_place row p x) p ≡ x
this_set ps b row x Nowhere is home low = absurd home
this_set ps b row x (Own c j) is home low =
    ap (λ (d : Bool). if d then known (slice_set row.1 j x) j else Many) (eq-eqb c b home) ∙ get_or-set_same row.1 j x Many (let long = is.1 in omega (arith, long, low))
this_set ps b row x (Shared i) is home low = get_or-set_same row.0 i x Many (let long = is.0 in omega (arith, long, low))

-- two temporaries that a block may have are not at one place
one_place : (ps : Places) (b t u : ℕ) (p : Place) → place_of ps.places.items t ≡ p → place_of ps.places.items u ≡ p → IsPlaceIn b p → t ≡ u
one_place ps b t u Nowhere e f home = absurd home
one_place ps b t u (Own c j) e f home = ps.are.given.apart t u c j e f
one_place ps b t u (Shared i) e f home = sym (ps.are.given.named t i e).1 ∙ (ps.are.given.named u i f).1

home_of : (places : List Place) (b t : ℕ) → IsAtHome places b t → t < length places → IsPlaceIn b (place_of places t)
home_of places b t home lt = elim home [ inl past ↦ absurd (omega (arith, past, lt)) | inr here ↦ here ]

pub seen_set : (ps : Places) (b : ℕ) (row : List Flat × List Flat) (t : ℕ) (x : Flat) → IsRowOf ps row → IsAtHome ps.places.items b t
    → seen ps.places.items b (with_place row (place_of ps.places.items t) x) ≡ slice_set (seen ps.places.items b row) t x
seen_set ps b row t x is home =
    ext_get_or Many (seen ps.places.items b (with_place row (place_of ps.places.items t) x)) (slice_set (seen ps.places.items b row) t x) (seen_long ps.places.items b (with_place row (place_of ps.places.items t) x) ∙ sym long) (λ u lt.
    let low : u < length ps.places.items = let n = seen_long ps.places.items b (with_place row (place_of ps.places.items t) x) in omega (arith, lt, n) in
    known_seen ps.places.items b (with_place row (place_of ps.places.items t) x) u ∙ elim (cases_eq u t) [
      | inl same ↦ subst (λ (v : ℕ). at_place b (with_place row (place_of ps.places.items t) x) (place_of ps.places.items v) ≡ known (slice_set (seen ps.places.items b row) t x) v) (sym same) (here (subst (λ (v : ℕ). v < length ps.places.items) same low))
      | inr other ↦ there u low other
    ])
  where
    long : length (slice_set (seen ps.places.items b row) t x) ≡ length ps.places.items
    long = length-set (seen ps.places.items b row) t x ∙ seen_long ps.places.items b row

    here : t < length ps.places.items → at_place b (with_place row (place_of ps.places.items t) x) (place_of ps.places.items t) ≡ known (slice_set (seen ps.places.items b row) t x) t
    here lt =
        this_set ps b row x (place_of ps.places.items t) is (home_of ps.places.items b t home lt) (within ps b t (place_of ps.places.items t) refl)
        ∙ sym (get_or-set_same (seen ps.places.items b row) t x Many (let n = seen_long ps.places.items b row in omega (arith, lt, n)))

    stays : (u : ℕ) → u ≢ t → at_place b (with_place row (place_of ps.places.items t) x) (place_of ps.places.items u) ≡ at_place b row (place_of ps.places.items u)
    stays u other = elim (cases_lt t (length ps.places.items)) [
      | inl lt ↦
          let home_t = home_of ps.places.items b t home lt in
          other_stays b row x (place_of ps.places.items t) (place_of ps.places.items u) home_t (λ e. other (sym (one_place ps b t u (place_of ps.places.items t) refl (sym e) home_t)))
      | inr past ↦ ap (λ (p : Place). at_place b (with_place row p x) (place_of ps.places.items u)) (get_or_past ps.places.items t Nowhere past)
    ]

    there : (u : ℕ) → u < length ps.places.items → u ≢ t → at_place b (with_place row (place_of ps.places.items t) x) (place_of ps.places.items u) ≡ known (slice_set (seen ps.places.items b row) t x) u
    there u lt other = stays u other ∙ sym (known_seen ps.places.items b row u) ∙ sym (get_or-set_other (seen ps.places.items b row) t u x Many other)

set_row : (ps : Places) (row : List Flat × List Flat) (p : Place) (x : Flat) → IsRowOf ps row → IsRowOf ps (with_place row p x)
set_row ps row Nowhere x is = is
set_row ps row (Own c j) x is = (is.0, length-set row.1 j x ∙ is.1)
set_row ps row (Shared i) x is = (length-set row.0 i x ∙ is.0, is.1)

pub row_set : (ps : Places) (row new : List Flat × List Flat) (p : Place) (x : Flat) → new ≡ with_place row p x → IsRowOf ps row → IsRowOf ps new
row_set ps row new p x e is = subst (IsRowOf ps) (sym e) (set_row ps row p x is)

-- ---- where nothing is known of what a block has for itself

pub fresh_seen : (ps : Places) (b : ℕ) (row : List Flat × List Flat) → ((j : ℕ) → j < slice_index_or ps.counts.items b 0 → known row.1 j ≡ Many) → seen ps.places.items b row ≡ rested ps.places.items row.0
fresh_seen ps b row nothing =
    ext_get_or Many (seen ps.places.items b row) (rested ps.places.items row.0) (seen_long ps.places.items b row ∙ sym (rested_long ps.places.items row.0))
    (λ t lt. known_seen ps.places.items b row t ∙ by (place_of ps.places.items t) t refl ∙ sym (known_rested ps.places.items row.0 t))
  where
    own : (c j t : ℕ) → place_of ps.places.items t ≡ Own c j → (d : Bool) → (c == b) ≡ d → (if d then known row.1 j else Many) ≡ Many
    own c j t e true f = nothing j (subst (λ (k : ℕ). j < slice_index_or ps.counts.items k 0) (eqb-true c b f) (ps.are.given.within t c j e))
    own c j t e false f = refl

    by : (p : Place) (t : ℕ) → place_of ps.places.items t ≡ p → at_place b row p ≡ at_rest row.0 p
    by Nowhere t e = refl
    by (Own c j) t e = own c j t e (c == b) refl
    by (Shared i) t e = refl

-- shared places have what is known of their temporaries
pub seen_taken : (ps : Places) (b : ℕ) (row : List Flat × List Flat) (full : List Flat) → length row.0 ≡ length ps.names.items → seen ps.places.items b row ≡ full → row.0 ≡ taken ps.names.items full
seen_taken ps b row full long is =
    ext_get_or Many row.0 (taken ps.names.items full) (long ∙ sym (taken_long ps.names.items full)) (λ i lt.
    let low : i < length ps.names.items = omega (arith, lt, long) in
    let name : ℕ = slice_index_or ps.names.items i 0 in
    sym (known_taken ps.names.items full i low ∙ ap (λ (v : List Flat). known v name) (sym is) ∙ known_seen ps.places.items b row name ∙ ap (at_place b row) (ps.are.given.placed i low)))

-- ---- where nothing is a copy of a temporary any more

pub seen_forgotten : (ps : Places) (b of : ℕ) (old row : List Flat × List Flat) → length row.0 ≡ length old.0 → ((i : ℕ) → i < length old.0 → known row.0 i ≡ forgotten of (known old.0 i))
    → ((j : ℕ) → j < slice_index_or ps.counts.items b 0 → known row.1 j ≡ forgotten of (known old.1 j)) → seen ps.places.items b row ≡ without_copies (seen ps.places.items b old) of
seen_forgotten ps b of old row long shared own =
    ext_get_or Many (seen ps.places.items b row) (without_copies (seen ps.places.items b old) of)
    (seen_long ps.places.items b row ∙ sym (length-map (seen ps.places.items b old) (forgotten of) ∙ seen_long ps.places.items b old))
    (λ t lt.
    known_seen ps.places.items b row t ∙ by (place_of ps.places.items t) t refl ∙ ap (forgotten of) (sym (known_seen ps.places.items b old t))
    ∙ sym (get_or-map (forgotten of) (seen ps.places.items b old) t Many))
  where
    mine : (c j t : ℕ) → place_of ps.places.items t ≡ Own c j → (d : Bool) → (c == b) ≡ d → (if d then known row.1 j else Many) ≡ forgotten of (if d then known old.1 j else Many)
    mine c j t e true f = own j (subst (λ (k : ℕ). j < slice_index_or ps.counts.items k 0) (eqb-true c b f) (ps.are.given.within t c j e))
    mine c j t e false f = refl

    by : (p : Place) (t : ℕ) → place_of ps.places.items t ≡ p → at_place b row p ≡ forgotten of (at_place b old p)
    by Nowhere t e = refl
    by (Own c j) t e = mine c j t e (c == b) refl
    by (Shared i) t e = elim (cases_lt i (length old.0)) [
      | inl lt ↦ shared i lt
      | inr past ↦ get_or_past row.0 i Many (omega (arith, past, long)) ∙ ap (forgotten of) (sym (get_or_past old.0 i Many past))
    ]
