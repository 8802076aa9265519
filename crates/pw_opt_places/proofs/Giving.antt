-- Places, given to one temporary after the other.
use Rattle.std.specs.Prelude.{ℕ, zero, suc, ◌≡◌, ◌≢◌, ◌+◌, ◌<◌, ◌≤◌, ◌++◌, Some, List, [], ◌∷◌, All, length, take, replicate, slice_get, slice_set, slice_index_or}
use Rattle.std.proofs.Common.{refl, sym, ap, subst, ◌∙◌, arith, inl, inr}
use Rattle.std.proofs.lemmas.Bool.{cases_lt, cases_eq}
use Rattle.std.proofs.lemmas.List.{get_or-set_same, get_or-set_other, get_or_past, length-replicate}
use Rattle.std.proofs.lemmas.List.Elements.{Contains-get_or, All-from_get_or, All-more, All-weaker}
use Rattle.pw_flow.specs.declared.flow.Block.{Block}
use Rattle.pw_flow.specs.declared.flow.FlowFn.{FlowFn}
use Rattle.pw_opt_places.specs.declared.homes.Home.{Home}
use Rattle.pw_opt_places.specs.declared.homes.Home.TheVariants as home
use Rattle.pw_opt_places.specs.declared.places.Place.{Place}
use Rattle.pw_opt_places.specs.declared.places.Place.TheVariants.{Nowhere, Own, Shared}
use Rattle.pw_opt_places.specs.Homes.{home_of, homes_of}
use Rattle.pw_opt_places.specs.Places.{place_of, IsShared, IsPlaceIn, AreGiven, ArePlacesOf}
use Rattle.pw_opt_places.specs.Giving.{IsHomeBelow, IsPlaceFor, ArePlacesFor, place_for}
use Rattle.pw_opt_places.proofs.Listing.{pushed_at, pushed_long, all_alike}
use Rattle.pw_opt_places.proofs.Homing.{IsIn, Serves, none_below, blocks_below, blocks_long, blocks_serve}

-- ---- what is somewhere is not past the end

shared_low : (places : List Place) (t i : ℕ) → place_of places t ≡ Shared i → t < length places
shared_low places t i e = elim (cases_lt t (length places)) [
  | inl low ↦ low
  | inr past ↦ absurd (let none : Nowhere ≡ Shared i = sym (get_or_past places t Nowhere past) ∙ e in cc)
]

pub none_given : (blocks : ℕ) → AreGiven [] [] (replicate blocks 0)
none_given blocks = record {
  named = λ t i e. absurd cc;
  placed = λ i lt. absurd (omega (arith, lt));
  within = λ t b j e. absurd cc;
  apart = λ t u b j e f. absurd cc;
  fewer = λ b. let none = all_alike {X = ℕ} blocks b 0 in omega (arith, none);
}

-- a shared one stays at its place where one is added
still_placed : (places : List Place) (p : Place) (t i : ℕ) → place_of places t ≡ Shared i → place_of (places ++ p ∷ []) t ≡ Shared i
still_placed places p t i e = elim (pushed_at places p Nowhere t) [
  | inl w ↦ absurd (let low = shared_low places t i e in let here = w.0 in omega (arith, low, here))
  | inr w ↦ w.1 ∙ e
]

-- ---- one more

pub over_given : (places : List Place) (names counts : List ℕ) → AreGiven places names counts → AreGiven (places ++ Nowhere ∷ []) names counts
over_given places names counts g = record {
  named = λ t i e. elim (pushed_at places Nowhere Nowhere t) [
    | inl w ↦ absurd (let clash : Nowhere ≡ Shared i = sym w.1 ∙ e in cc)
    | inr w ↦ g.named t i (sym w.1 ∙ e)
  ];
  placed = λ i lt. still_placed places Nowhere (slice_index_or names i 0) i (g.placed i lt);
  within = λ t b j e. elim (pushed_at places Nowhere Nowhere t) [
    | inl w ↦ absurd (let clash : Nowhere ≡ Own b j = sym w.1 ∙ e in cc)
    | inr w ↦ g.within t b j (sym w.1 ∙ e)
  ];
  apart = λ t u b j e f. elim (pushed_at places Nowhere Nowhere t) [
    | inl w ↦ absurd (let clash : Nowhere ≡ Own b j = sym w.1 ∙ e in cc)
    | inr w ↦ elim (pushed_at places Nowhere Nowhere u) [
      | inl v ↦ absurd (let clash : Nowhere ≡ Own b j = sym v.1 ∙ f in cc)
      | inr v ↦ g.apart t u b j (sym w.1 ∙ e) (sym v.1 ∙ f)
    ]
  ];
  fewer = λ b. let le = g.fewer b in let long = pushed_long places Nowhere in omega (arith, le, long);
}

pub share_given : (places : List Place) (names counts : List ℕ) (n : ℕ) → n ≡ length places → AreGiven places names counts → AreGiven (places ++ Shared (length names) ∷ []) (names ++ n ∷ []) counts
share_given places names counts n next g = record {
  named = λ t i e. elim (pushed_at places (Shared (length names)) Nowhere t) [
    | inl w ↦
        let same : length names ≡ i = (let f : (Shared (length names)) ≡ Shared i = sym w.1 ∙ e in cc) in
        (omega (arith, same, more), own_name t i same w.0)
    | inr w ↦
        let old = g.named t i (sym w.1 ∙ e) in
        let low : i < length names = old.0 in
        (omega (arith, low, more), other_name i low ∙ old.1)
  ];
  placed = λ i lt. elim (cases_eq i (length names)) [
    | inl last ↦ subst (λ k. place_of (places ++ (Shared (length names)) ∷ []) (slice_index_or (names ++ n ∷ []) k 0) ≡ Shared k) (sym last) placed_last
    | inr other ↦
        let low : i < length names = omega (arith, lt, other, more) in
        ap (place_of (places ++ (Shared (length names)) ∷ [])) (other_name i low) ∙ still_placed places (Shared (length names)) (slice_index_or names i 0) i (g.placed i low)
  ];
  within = λ t b j e. elim (pushed_at places (Shared (length names)) Nowhere t) [
    | inl w ↦ absurd (let clash : (Shared (length names)) ≡ Own b j = sym w.1 ∙ e in cc)
    | inr w ↦ g.within t b j (sym w.1 ∙ e)
  ];
  apart = λ t u b j e f. elim (pushed_at places (Shared (length names)) Nowhere t) [
    | inl w ↦ absurd (let clash : (Shared (length names)) ≡ Own b j = sym w.1 ∙ e in cc)
    | inr w ↦ elim (pushed_at places (Shared (length names)) Nowhere u) [
      | inl v ↦ absurd (let clash : (Shared (length names)) ≡ Own b j = sym v.1 ∙ f in cc)
      | inr v ↦ g.apart t u b j (sym w.1 ∙ e) (sym v.1 ∙ f)
    ]
  ];
  fewer = λ b. let le = g.fewer b in let long = pushed_long places (Shared (length names)) in omega (arith, le, long);
}
  where
    more : length (names ++ n ∷ []) ≡ suc (length names)
    more = pushed_long names n

    last_name : slice_index_or (names ++ n ∷ []) (length names) 0 ≡ n
    last_name = elim (pushed_at names n 0 (length names)) [ inl w ↦ w.1 | inr w ↦ absurd (w.0 refl) ]

    own_name : (t i : ℕ) → length names ≡ i → t ≡ length places → slice_index_or (names ++ n ∷ []) i 0 ≡ t
    own_name t i same here = ap (λ (k : ℕ). slice_index_or (names ++ n ∷ []) k 0) (sym same) ∙ last_name ∙ next ∙ sym here

    other_name : (i : ℕ) → i < length names → slice_index_or (names ++ n ∷ []) i 0 ≡ slice_index_or names i 0
    other_name i low = elim (pushed_at names n 0 i) [ inl w ↦ absurd (let here = w.0 in omega (arith, low, here)) | inr w ↦ w.1 ]

    placed_last : place_of (places ++ (Shared (length names)) ∷ []) (slice_index_or (names ++ n ∷ []) (length names) 0) ≡ (Shared (length names))
    placed_last = ap (place_of (places ++ (Shared (length names)) ∷ [])) last_name ∙ elim (pushed_at places (Shared (length names)) Nowhere n) [ inl w ↦ w.1 | inr w ↦ absurd (w.0 next) ]

pub own_given : (places : List Place) (names counts : List ℕ) (b : ℕ) → b < length counts → AreGiven places names counts
    → AreGiven (places ++ Own b (slice_index_or counts b 0) ∷ []) names (slice_set counts b (slice_index_or counts b 0 + 1))
own_given places names counts b low g = record {
  named = λ t i e. elim (pushed_at places (Own b (slice_index_or counts b 0)) Nowhere t) [
    | inl w ↦ absurd (let clash : (Own b (slice_index_or counts b 0)) ≡ Shared i = sym w.1 ∙ e in cc)
    | inr w ↦ g.named t i (sym w.1 ∙ e)
  ];
  placed = λ i lt. still_placed places (Own b (slice_index_or counts b 0)) (slice_index_or names i 0) i (g.placed i lt);
  within = λ t c j e. elim (pushed_at places (Own b (slice_index_or counts b 0)) Nowhere t) [
    | inl w ↦ own_within c j (sym w.1 ∙ e)
    | inr w ↦ let old = g.within t c j (sym w.1 ∙ e) in let up = counted_up c in omega (arith, old, up)
  ];
  apart = λ t u c j e f. elim (pushed_at places (Own b (slice_index_or counts b 0)) Nowhere t) [
    | inl w ↦ elim (pushed_at places (Own b (slice_index_or counts b 0)) Nowhere u) [
      | inl v ↦ w.0 ∙ sym v.0
      | inr v ↦ absurd (no_two c j (sym w.1 ∙ e) u (sym v.1 ∙ f))
    ]
    | inr w ↦ elim (pushed_at places (Own b (slice_index_or counts b 0)) Nowhere u) [
      | inl v ↦ absurd (no_two c j (sym v.1 ∙ f) t (sym w.1 ∙ e))
      | inr v ↦ g.apart t u c j (sym w.1 ∙ e) (sym v.1 ∙ f)
    ]
  ];
  fewer = λ c. counted_few c;
}
  where
    here : slice_index_or (slice_set counts b ((slice_index_or counts b 0) + 1)) b 0 ≡ (slice_index_or counts b 0) + 1
    here = get_or-set_same counts b ((slice_index_or counts b 0) + 1) 0 low

    own_block : (c j : ℕ) → (Own b (slice_index_or counts b 0)) ≡ Own c j → b ≡ c
    own_block c j e = cc

    own_number : (c j : ℕ) → (Own b (slice_index_or counts b 0)) ≡ Own c j → (slice_index_or counts b 0) ≡ j
    own_number c j e = cc

    own_within : (c j : ℕ) → (Own b (slice_index_or counts b 0)) ≡ Own c j → j < slice_index_or (slice_set counts b ((slice_index_or counts b 0) + 1)) c 0
    own_within c j e =
        let same : (slice_index_or counts b 0) ≡ j = own_number c j e in
        subst (λ k. j < slice_index_or (slice_set counts b ((slice_index_or counts b 0) + 1)) k 0) (own_block c j e) (omega (arith, here, same))

    counted_up : (c : ℕ) → slice_index_or counts c 0 ≤ slice_index_or (slice_set counts b ((slice_index_or counts b 0) + 1)) c 0
    counted_up c = elim (cases_eq c b) [
      | inl same ↦ subst (λ k. slice_index_or counts k 0 ≤ slice_index_or (slice_set counts b ((slice_index_or counts b 0) + 1)) k 0) (sym same) (omega (arith, here))
      | inr other ↦ let stays = get_or-set_other counts b c ((slice_index_or counts b 0) + 1) 0 other in omega (arith, stays)
    ]

    counted_few : (c : ℕ) → slice_index_or (slice_set counts b ((slice_index_or counts b 0) + 1)) c 0 ≤ length (places ++ (Own b (slice_index_or counts b 0)) ∷ [])
    counted_few c =
        let long = pushed_long places (Own b (slice_index_or counts b 0)) in
        elim (cases_eq c b) [
          | inl same ↦ subst (λ k. slice_index_or (slice_set counts b ((slice_index_or counts b 0) + 1)) k 0 ≤ length (places ++ (Own b (slice_index_or counts b 0)) ∷ [])) (sym same) (let le = g.fewer b in omega (arith, here, le, long))
          | inr other ↦ let stays = get_or-set_other counts b c ((slice_index_or counts b 0) + 1) 0 other in let le = g.fewer c in omega (arith, stays, le, long)
        ]

    no_two : (c j : ℕ) → (Own b (slice_index_or counts b 0)) ≡ Own c j → (t : ℕ) → place_of places t ≡ Own c j → ⊥
    no_two c j e t old =
        let lt : j < slice_index_or counts c 0 = g.within t c j old in
        let same : (slice_index_or counts b 0) ≡ j = own_number c j e in
        let block : slice_index_or counts b 0 ≡ slice_index_or counts c 0 = ap (λ (k : ℕ). slice_index_or counts k 0) (own_block c j e) in
        omega (arith, lt, same, block)

-- ---- the places that temporaries need

pub for_none : (homes : List Home) → ArePlacesFor 0 homes []
for_none homes = (refl, λ t lt. absurd (omega (arith, lt)))

pub for_more : (n : ℕ) (homes : List Home) (places : List Place) (p : Place) → ArePlacesFor n homes places → IsPlaceFor (home_of homes n) p → ArePlacesFor (n + 1) homes (places ++ p ∷ [])
for_more n homes places p are fits = (
  (let long = pushed_long places p in let before = are.0 in omega (arith, long, before)),
  λ t lt. elim (pushed_at places p Nowhere t) [
    | inl w ↦ subst (IsPlaceFor (home_of homes t)) (sym w.1) (subst (λ k. IsPlaceFor (home_of homes k) p) (sym (w.0 ∙ are.0)) fits)
    | inr w ↦
        let low : t < n = let other = w.0 in let before = are.0 in lower t lt (λ e. other (e ∙ sym before)) in
        subst (IsPlaceFor (home_of homes t)) (sym w.1) (are.1 t low)
  ],
)
  where
    lower : (t : ℕ) → t < n + 1 → t ≢ n → t < n
    lower t lt other = elim (cases_eq t n) [ inl e ↦ absurd (other e) | inr e ↦ omega (arith, lt, e) ]

pub place_fits : (h : Home) (names counts : List ℕ) → IsPlaceFor h (place_for h names counts)
place_fits home.Nowhere names counts = refl
place_fits (home.At b) names counts = (slice_index_or counts b 0, refl)
place_fits home.Everywhere names counts = (length names, refl)

pub greatest_more : (numbers : List ℕ) (i old new : ℕ) → i < length numbers → All (λ n. n ≤ old) (take i numbers) → old ≤ new → slice_index_or numbers i 0 ≤ new → All (λ n. n ≤ new) (take (i + 1) numbers)
greatest_more numbers i old new lt before up here =
    All-more (λ n. n ≤ new) numbers i 0 lt (All-weaker (λ n. n ≤ old) (λ n. n ≤ new) (λ n le. omega (arith, le, up)) (take i numbers) before) here

pub greatest_least : (numbers : List ℕ) (i old new : ℕ) → i < length numbers → ((n : ℕ) → All (λ m. m ≤ n) numbers → old ≤ n) → ((n : ℕ) → old ≤ n → slice_index_or numbers i 0 ≤ n → new ≤ n)
    → (n : ℕ) → All (λ m. m ≤ n) numbers → new ≤ n
greatest_least numbers i old new lt before up n all = up n (before n all) (all i 0 lt)

pub counts_few : (counts : List ℕ) (n : ℕ) → ((b : ℕ) → slice_index_or counts b 0 ≤ n) → All (λ m. m ≤ n) counts
counts_few counts n each = All-from_get_or (λ m. m ≤ n) counts 0 (λ b lt. each b)

pub greatest_few : (counts : List ℕ) (most : ℕ) → All (λ n. n ≤ most) counts → (b : ℕ) → slice_index_or counts b 0 ≤ most
greatest_few counts most all b = elim (cases_lt b (length counts)) [
  | inl low ↦ all b 0 low
  | inr past ↦ let none : slice_index_or counts b 0 ≡ 0 = get_or_past counts b 0 past in omega (arith, none)
]

pub home_below : (blocks : ℕ) (homes : List Home) (t : ℕ) → All (IsHomeBelow blocks) homes → IsHomeBelow blocks (home_of homes t)
home_below blocks homes t all = elim (cases_lt t (length homes)) [
  | inl low ↦ all t home.Nowhere low
  | inr past ↦ subst (IsHomeBelow blocks) (sym (get_or_past homes t home.Nowhere past)) tt
]

below_here : (blocks : ℕ) (h : Home) → ((c : ℕ) → h ≡ home.At c → c < blocks) → IsHomeBelow blocks h
below_here blocks home.Nowhere f = tt
below_here blocks (home.At c) f = f c refl
below_here blocks home.Everywhere f = tt

at_its_place : (homes : List Home) (t : ℕ) (d : Home) → t < length homes → slice_index_or homes t d ≡ home_of homes t
at_its_place [] t d lt = absurd (omega (arith, lt))
at_its_place (h ∷ homes) zero d lt = refl
at_its_place (h ∷ homes) (suc t) d lt = at_its_place homes t d (omega (arith, lt))

pub homes_below : (f : FlowFn) → All (IsHomeBelow (length f.blocks)) (homes_of f)
homes_below f = λ t d lt.
    subst (IsHomeBelow (length f.blocks)) (sym (at_its_place (homes_of f) t d lt))
    (below_here (length f.blocks) (home_of (homes_of f) t) (λ c e. blocks_below 0 (length f.blocks) (replicate f.temps home.Nowhere) f.blocks (omega arith) (none_below f.temps) t c e))

-- ---- the places of a function

place_in : (b : ℕ) (h : Home) (p : Place) → IsIn b h → IsPlaceFor h p → IsPlaceIn b p
place_in b home.Nowhere p i fits = absurd i
place_in b (home.At c) p i fits = subst (IsPlaceIn b) (sym fits.1) i
place_in b home.Everywhere p i fits = subst (IsPlaceIn b) (sym fits.1) tt

everywhere_shared : (h : Home) (places : List Place) (t : ℕ) → h ≡ home.Everywhere → IsPlaceFor h (place_of places t) → IsShared places t
everywhere_shared home.Nowhere places t e fits = absurd cc
everywhere_shared (home.At c) places t e fits = absurd cc
everywhere_shared home.Everywhere places t e fits = fits

pub places_of_function : (f : FlowFn) (homes : List Home) (places : List Place) → homes ≡ homes_of f → ArePlacesFor f.temps homes places → ArePlacesOf f places
places_of_function f homes places is are = record {
  each = are.0;
  home = λ b block at k d low t e. elim (cases_lt t f.temps) [
    | inl lt ↦
        let serves = serve b block at in
        inr (place_in b (home_of homes t) (place_of places t) (subst (λ hs. IsIn b (home_of hs t)) (sym is) (serves.defines (slice_index_or block.ops k d) t (Contains-get_or block.ops k d low) e (omega (arith, lt, long)))) (are.1 t lt))
    | inr past ↦ inl (let each = are.0 in omega (arith, past, each))
  ];
  first = λ b block t at reads. elim (cases_lt t f.temps) [
    | inl lt ↦
        let serves = serve b block at in
        inr (everywhere_shared (home_of homes t) places t (ap (λ (hs : List Home). home_of hs t) is ∙ serves.first t reads (omega (arith, lt, long))) (are.1 t lt))
    | inr past ↦ inl past
  ];
}
  where
    long : length (homes_of f) ≡ f.temps
    long = blocks_long 0 (replicate f.temps home.Nowhere) f.blocks ∙ length-replicate f.temps home.Nowhere

    serve : (b : ℕ) (block : Block) → slice_get f.blocks b ≡ Some block → Serves b block (homes_of f)
    serve b block at = blocks_serve 0 b b (replicate f.temps home.Nowhere) f.blocks block (omega arith) (none_below f.temps) at
