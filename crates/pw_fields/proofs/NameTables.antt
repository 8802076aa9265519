-- How names are found in a table, and how a table is made of the names that are used.
use Rattle.std.proofs.Common.{◌≡◌, ◌≢◌, ℕ, zero, suc, ◌+◌, ◌-◌, ◌<◌, ◌≤◌, Bool, true, false, cond, List, [], ◌∷◌, ◌++◌, length, get_or, drop, map, Result, Ok, Err, Bor, refl, sym, ap, subst, ◌∙◌, append_assoc, arith, add-one, inl, inr}
use Rattle.std.specs.Prelude.{not, IfOk, OnOk, IfSome, IfNone, is_some, Option, Some, None, Contains}
use Rattle.std.specs.Global.{Vec}
use Rattle.std.specs.Str.{bytes_eq}
use Rattle.std.specs.List.{HoldsAt, flat_map}
use Rattle.std.specs.List.Sorted.{IsNonDecreasingBy, IsPartitionPoint, IsSortedBy, IsPermutation}
use Rattle.std.specs.Ordering.{nat_cmp, is_lt, is_eq, is_gt, ordering_index}
use Rattle.std.specs.Cmp.Lexicographic.{slice_cmp, texts_ties}
use Rattle.std.specs.declared.cmp.Ordering.{Ordering}
use Rattle.std.specs.declared.cmp.Ordering.TheVariants.{Less, Equal, Greater}
use Rattle.std.specs.Ordering.{ordering_reverse}
use Rattle.std.proofs.lemmas.Cmp.{tied_itself, nat_list_cmp_total}
use Rattle.std.proofs.lemmas.Slice.Eq.{bytes_eq-Decides}
use Rattle.std.proofs.lemmas.List.Sorted.{searchable_from_sorted, IsPermutation-map, IsPermutation-sym, Contains-permutation}
use Rattle.std.specs.Cmp.{both_ways}
use Rattle.std.proofs.lemmas.Bool.{cases_lt}
use Rattle.std.proofs.lemmas.List.Concat.{flat_map-cons}
use Rattle.std.proofs.lemmas.List.{at_drop_more, drop_more, length-map, length-append}
use Rattle.pw_value.specs.Names.{IsNameLength}
use Rattle.pw_fields.specs.FieldNames.{names_at, IsRisingFrom, place_of, unrepeated, name_table, is_among, first_unused, IsTableOf}
use Rattle.pw_fields.specs.Fields.{u32, text}
use Rattle.pw_fields.specs.FieldFaults.{AnswersField}
use Rattle.pw_fields.specs.FieldLaws.{AreBytes}
use Rattle.pw_fields.specs.declared.fault.FieldFault.{FieldFault}
use Rattle.pw_fields.proofs.NameLaws.{above, place-get, among_contains, contains_among, get-place, names_spell}
use Rattle.pw_fields.proofs.FileLaws.{length-u32}

-- what the order does not tell apart is the same text
tied : (a b : List ℕ) → slice_cmp nat_cmp a b ≡ Equal → a ≡ b
tied a b e = (bytes_eq-Decides a b).0 (texts_ties a b ∙ ap is_eq e)

pub search_found : (names : List (List ℕ)) (name : List ℕ) → IsRisingFrom [] names → (i : ℕ) → i < length names → HoldsAt (λ y. slice_cmp nat_cmp y name ≡ Equal) names i → place_of names name ≡ i
search_found names name rising i lt at =
    ap (place_of names) (sym (tied (get_or names i []) name (at []))) ∙ place-get [] names rising i [] lt

adjacent : (before : List ℕ) (names : List (List ℕ)) → IsRisingFrom before names → (k : ℕ) (d : List ℕ) → suc k < length names → is_lt (slice_cmp nat_cmp (get_or names (suc k) d) (get_or names k d)) ≡ false
adjacent before [] rising k d lt = absurd (omega arith)
adjacent before (name ∷ names) rising zero d lt =
    ap is_lt (nat_list_cmp_total.antisymm (get_or names 0 d) name ∙ ap ordering_reverse (above name names rising.2 0 d (omega arith)))
adjacent before (name ∷ names) rising (suc k) d lt = adjacent name names rising.2 k d (omega arith)

rising_sorted : (names : List (List ℕ)) → IsRisingFrom [] names → IsSortedBy (λ a b. is_lt (slice_cmp nat_cmp a b)) names
rising_sorted names rising k d low high = rw add-one (adjacent [] names rising k d (omega arith))

pub search_none : (names : List (List ℕ)) (name : List ℕ) → IsRisingFrom [] names → (i : ℕ)
    → (IsNonDecreasingBy (λ y. ordering_index (slice_cmp nat_cmp y name)) names → IsPartitionPoint (λ y. slice_cmp nat_cmp y name ≡ Less) (λ y. slice_cmp nat_cmp y name ≡ Greater) names i)
    → Contains names name → ⊥
search_none names name rising i point stands =
    let parts = point (searchable_from_sorted nat_list_cmp_total (λ y. y) names name (rising_sorted names rising)) in
    let level : slice_cmp nat_cmp (get_or names stands.0 name) name ≡ Equal = ap (λ y. slice_cmp nat_cmp y name) stands.2 ∙ tied_itself nat_list_cmp_total name in
    elim (cases_lt stands.0 i) [
      | inl lt ↦ let less = parts.0 stands.0 name (omega arith) lt in cc
      | inr le ↦ let greater = parts.1 stands.0 name le stands.1 in cc
    ]

-- ---- a table of the names that are used

-- no name is below the one before it
abbrev pub IsSortedFrom : List ℕ → List (List ℕ) → Type 0
IsSortedFrom before [] = Unit {0}
IsSortedFrom before (name ∷ names) = (is_gt (slice_cmp nat_cmp before name) ≡ false) × IsSortedFrom name names

abbrev pub HaveLengths : List (List ℕ) → Type 0
HaveLengths [] = Unit {0}
HaveLengths (name ∷ names) = IsNameLength (length name) × HaveLengths names

apart : false ≡ true → ⊥
apart e = cc

below_by : (o : Ordering) → is_gt o ≡ false → is_eq o ≡ false → o ≡ Less
below_by Less g e = refl
below_by Equal g e = absurd cc
below_by Greater g e = absurd cc

rising_by : (before name : List ℕ) (names : List (List ℕ)) (b : Bool) → bytes_eq before name ≡ b → is_gt (slice_cmp nat_cmp before name) ≡ false → IsNameLength (length name)
    → (b ≡ true → IsRisingFrom before (unrepeated before names)) → IsRisingFrom name (unrepeated name names) → IsRisingFrom before (cond b (unrepeated before names) (name ∷ unrepeated name names))
rising_by before name names true is up len same_before later = same_before refl
rising_by before name names false is up len same_before later = (len, below_by _ up (sym (texts_ties before name) ∙ is), later)

pub rising_unrepeated : (before : List ℕ) (names : List (List ℕ)) → IsSortedFrom before names → HaveLengths names → IsRisingFrom before (unrepeated before names)
rising_unrepeated before [] up lens = tt
rising_unrepeated before (name ∷ names) up lens =
    rising_by before name names (bytes_eq before name) refl up.0 lens.0
    (λ e. rising_unrepeated before names (subst (λ b. IsSortedFrom b names) (sym ((bytes_eq-Decides before name).0 e)) up.1) lens.1)
    (rising_unrepeated name names up.1 lens.1)

-- nothing is lost but what stands behind its like, and nothing is added
fewer_by : (before name wanted : List ℕ) (names : List (List ℕ)) (b : Bool) → (Contains (unrepeated before names) wanted → Contains names wanted) → (Contains (unrepeated name names) wanted → Contains names wanted)
    → Contains (cond b (unrepeated before names) (name ∷ unrepeated name names)) wanted → Contains (name ∷ names) wanted
fewer_by before name wanted names true one two (k, lt, e) = let h = one (k, lt, e) in (suc h.0, omega (arith, h.1), h.2)
fewer_by before name wanted names false one two (zero, lt, e) = (0, omega arith, e)
fewer_by before name wanted names false one two (suc k, lt, e) = let h = two (k, omega arith, e) in (suc h.0, omega (arith, h.1), h.2)

pub fewer : (before : List ℕ) (names : List (List ℕ)) (wanted : List ℕ) → Contains (unrepeated before names) wanted → Contains names wanted
fewer before [] wanted h = h
fewer before (name ∷ names) wanted h = fewer_by before name wanted names (bytes_eq before name) (fewer before names wanted) (fewer name names wanted) h

kept_by : (before name wanted : List ℕ) (names : List (List ℕ)) (b c : Bool) → bytes_eq before name ≡ b → bytes_eq name wanted ≡ c → (before ≢ wanted) → (Contains names wanted → before ≢ wanted → Contains (unrepeated before names) wanted)
    → (Contains names wanted → name ≢ wanted → Contains (unrepeated name names) wanted) → Contains (name ∷ names) wanted → Contains (cond b (unrepeated before names) (name ∷ unrepeated name names)) wanted
kept_by before name wanted names true c is at differs one two (zero, lt, e) = absurd (differs ((bytes_eq-Decides before name).0 is ∙ e))
kept_by before name wanted names true c is at differs one two (suc k, lt, e) = one (k, omega arith, e) differs
kept_by before name wanted names false true is at differs one two h = (0, omega arith, (bytes_eq-Decides name wanted).0 at)
kept_by before name wanted names false false is at differs one two (zero, lt, e) = (0, omega arith, e)
kept_by before name wanted names false false is at differs one two (suc k, lt, e) =
    let h = two (k, omega arith, e) (λ same_name. absurd (apart (sym at ∙ (bytes_eq-Decides name wanted).1 same_name))) in (suc h.0, omega (arith, h.1), h.2)

pub kept : (before : List ℕ) (names : List (List ℕ)) (wanted : List ℕ) → Contains names wanted → before ≢ wanted → Contains (unrepeated before names) wanted
kept before [] wanted h differs = h
kept before (name ∷ names) wanted h differs = kept_by before name wanted names (bytes_eq before name) (bytes_eq name wanted) refl refl differs (kept before names wanted) (kept name names wanted) h

-- ---- the loop

pub taken : (front : List (List ℕ)) (before name : List ℕ) (rest total : List (List ℕ)) → bytes_eq before name ≡ false → front ++ unrepeated before (name ∷ rest) ≡ total → (front ++ name ∷ []) ++ unrepeated name rest ≡ total
taken front before name rest total e so_far = append_assoc front (name ∷ []) (unrepeated name rest) ∙ ap (λ (b : Bool). front ++ cond b (unrepeated before rest) (name ∷ unrepeated name rest)) (sym e) ∙ so_far

pub skipped : (front : List (List ℕ)) (before name : List ℕ) (rest total : List (List ℕ)) → bytes_eq before name ≡ true → front ++ unrepeated before (name ∷ rest) ≡ total → front ++ unrepeated before rest ≡ total
skipped front before name rest total e so_far = ap (λ (b : Bool). front ++ cond b (unrepeated before rest) (name ∷ unrepeated name rest)) (sym e) ∙ so_far

pub not_true : (b : Bool) → true ≡ not b → b ≡ false
not_true true e = e
not_true false e = refl

pub not_false : (b : Bool) → false ≡ not b → b ≡ true
not_false true e = refl
not_false false e = e

-- the next item of the loop
pub read_on : {R : Type 0} (now : R → List ℕ) (front : List (List ℕ)) (before : List ℕ) (sorted : List R) (i : ℕ) (item : R) (total : List (List ℕ)) → i < length sorted → item ≡ get_or sorted i item
    → front ++ unrepeated before (map now (drop i sorted)) ≡ total → front ++ unrepeated before (now item ∷ map now (drop (i + 1) sorted)) ≡ total
read_on {R} now front before sorted i item total lt is so_far =
    ap (λ (x : R). front ++ unrepeated before (now x ∷ map now (drop (i + 1) sorted))) is
    ∙ sym (at_drop_more (λ (rest : List R). front ++ unrepeated before (map now rest)) sorted i item lt) ∙ so_far

pub seen_at : {R : Type 0} (now : R → List ℕ) (xs : List R) (i : ℕ) (item : R) → i < length xs → item ≡ get_or xs i item → (d : List ℕ) → get_or (map now xs) i d ≡ now item
seen_at now [] i item lt is d = absurd (omega arith)
seen_at now (x ∷ xs) zero item lt is d = ap now (sym is)
seen_at now (x ∷ xs) (suc i) item lt is d = seen_at now xs i item (omega arith) is d

-- ---- the table

turned_by : (o p : Ordering) → o ≡ ordering_reverse p → is_lt p ≡ false → is_gt o ≡ false
turned_by o Less e l = absurd cc
turned_by o Equal e l = rw e refl
turned_by o Greater e l = rw e refl

turned : (a b : List ℕ) → is_lt (slice_cmp nat_cmp b a) ≡ false → is_gt (slice_cmp nat_cmp a b) ≡ false
turned a b e = turned_by (slice_cmp nat_cmp a b) (slice_cmp nat_cmp b a) (nat_list_cmp_total.antisymm a b) e

sorted_from : {R : Type 0} (now : R → List ℕ) (before : List ℕ) (x : R) (xs : List R) → is_gt (slice_cmp nat_cmp before (now x)) ≡ false
    → IsSortedBy (λ a b. is_lt (slice_cmp nat_cmp (now a) (now b))) (x ∷ xs) → IsSortedFrom before (map now (x ∷ xs))
sorted_from now before x [] g up = (g, tt)
sorted_from now before x (y ∷ xs) g up = (
  g,
  sorted_from now (now x) y xs (turned (now x) (now y) (up 0 y (omega arith) (omega arith)))
      (λ k d low high. let shift : suc k + 1 ≡ suc (k + 1) = omega arith in
      subst (λ n. is_lt (slice_cmp nat_cmp (now (get_or (x ∷ y ∷ xs) n d)) (now (get_or (y ∷ xs) k d))) ≡ false) shift (up (suc k) d (omega arith) (omega arith))),
)

none_below : (name : List ℕ) → is_gt (slice_cmp nat_cmp [] name) ≡ false
none_below [] = refl
none_below (b ∷ name) = refl

chain : {R : Type 0} (now : R → List ℕ) (xs : List R) → IsSortedBy (λ a b. is_lt (slice_cmp nat_cmp (now a) (now b))) xs → IsSortedFrom [] (map now xs)
chain now [] up = tt
chain now (x ∷ xs) up = sorted_from now [] x xs (none_below (now x)) up

have_lengths : (names : List (List ℕ)) → ((k : ℕ) → k < length names → (d : List ℕ) → IsNameLength (length (get_or names k d))) → HaveLengths names
have_lengths [] h = tt
have_lengths (name ∷ names) h = (h 0 (omega arith) [], have_lengths names (λ k lt d. h (suc k) (omega arith) d))

not_empty : (names : List (List ℕ)) → HaveLengths names → (k : ℕ) → k < length names → (name : List ℕ) → get_or names k name ≡ name → [] ≢ name
not_empty [] lens k lt name e empty = absurd (omega arith)
not_empty (first ∷ names) lens zero lt name e empty = absurd (omega (arith, lens.0, ap length e, ap length empty))
not_empty (first ∷ names) lens (suc k) lt name e empty = not_empty names lens.1 k (omega arith) name e empty

pub table_made : {R : Type 0} (now : R → List ℕ) (used sorted : List R) → IsPermutation used sorted → IsSortedBy (λ a b. is_lt (slice_cmp nat_cmp (now a) (now b))) sorted
    → ((k : ℕ) → k < length sorted → (d : List ℕ) → IsNameLength (length (get_or (map now sorted) k d))) → IsTableOf (unrepeated [] (map now sorted)) (map now used)
table_made now used sorted moved up lens =
    let have = have_lengths (map now sorted) (λ k lt d. lens k (omega (arith, length-map sorted now)) d) in
    let seen = IsPermutation-map now used sorted moved in
    let back = IsPermutation-sym (map now used) (map now sorted) seen in
    record {
      rising = rising_unrepeated [] (map now sorted) (chain now sorted up) have;
      of = λ name. (
        λ h. Contains-permutation (map now sorted) (map now used) name back (fewer [] (map now sorted) name h),
        λ h. let g = Contains-permutation (map now used) (map now sorted) name seen h in kept [] (map now sorted) name g (not_empty (map now sorted) have g.0 g.1 name g.2),
      );
    }

-- the same of what a function returned
pub table_result : {R E : Type 0} (now : R → List ℕ) (used sorted : List R) (r : Result (Vec (List ℕ)) E) → IsPermutation used sorted → IsSortedBy (λ a b. is_lt (slice_cmp nat_cmp (now a) (now b))) sorted
    → IfOk r (λ v. v.items ≡ unrepeated [] (map now sorted)) → OnOk r ((k : ℕ) → k < length sorted → (d : List ℕ) → IsNameLength (length (get_or (map now sorted) k d)))
    → IfOk r (λ v. IsTableOf v.items (map now used))
table_result now used sorted (Ok v) moved up made lens = subst (λ (names : List (List ℕ)). IsTableOf names (map now used)) (sym made) (table_made now used sorted moved up lens)
table_result now used sorted (Err e) moved up made lens = tt

-- ---- a table is determined by its names

not_below_itself : (a : List ℕ) → slice_cmp nat_cmp a a ≡ Less → ⊥
not_below_itself a less = let level = tied_itself nat_list_cmp_total a in cc

heads : (x y : List ℕ) (xs ys : List (List ℕ)) → IsRisingFrom x xs → IsRisingFrom y ys → Contains (y ∷ ys) x → Contains (x ∷ xs) y → x ≡ y
heads x y xs ys rx ry (zero, lt, e) h = sym e
heads x y xs ys rx ry (suc k, lt, e) (zero, lt', e') = e'
heads x y xs ys rx ry (suc k, lt, e) (suc j, lt', e') =
    let one : slice_cmp nat_cmp y x ≡ Less = subst (λ z. slice_cmp nat_cmp y z ≡ Less) e (above y ys ry k x (omega arith)) in
    let two : slice_cmp nat_cmp x y ≡ Less = subst (λ z. slice_cmp nat_cmp x z ≡ Less) e' (above x xs rx j y (omega arith)) in
    absurd (not_below_itself x (nat_list_cmp_total.trans x y x two one))

tail_of : (x name : List ℕ) (xs ys : List (List ℕ)) → IsRisingFrom x xs → Contains xs name → Contains (x ∷ ys) name → Contains ys name
tail_of x name xs ys rising h (zero, lt, e) =
    let less : slice_cmp nat_cmp x name ≡ Less = subst (λ z. slice_cmp nat_cmp x z ≡ Less) h.2 (above x xs rising h.0 name h.1) in
    absurd (not_below_itself x (subst (λ z. slice_cmp nat_cmp x z ≡ Less) (sym e) less))
tail_of x name xs ys rising h (suc k, lt, e) = (k, omega arith, e)

later : (x name : List ℕ) (xs : List (List ℕ)) → Contains xs name → Contains (x ∷ xs) name
later x name xs h = (suc h.0, omega (arith, h.1), h.2)

pub table_unique : (before before' : List ℕ) (xs ys : List (List ℕ)) → IsRisingFrom before xs → IsRisingFrom before' ys → ((name : List ℕ) → Contains xs name → Contains ys name) → ((name : List ℕ) → Contains ys name → Contains xs name) → xs ≡ ys
table_unique before before' [] [] rx ry one two = refl
table_unique before before' [] (y ∷ ys) rx ry one two = absurd (omega (arith, (two y (0, omega arith, refl)).1))
table_unique before before' (x ∷ xs) [] rx ry one two = absurd (omega (arith, (one x (0, omega arith, refl)).1))
table_unique before before' (x ∷ xs) (y ∷ ys) rx ry one two =
    let e = heads x y xs ys rx.2 ry.2 (one x (0, omega arith, refl)) (two y (0, omega arith, refl)) in
    let tails = table_unique x y xs ys rx.2 ry.2
    (λ name h. tail_of x name xs ys rx.2 h (subst (λ z. Contains (z ∷ ys) name) (sym e) (one name (later x name xs h))))
    (λ name h. tail_of y name ys xs ry.2 h (subst (λ z. Contains (z ∷ xs) name) e (two name (later y name ys h)))) in
    ap (λ z. z ∷ xs) e ∙ ap (λ (zs : List (List ℕ)). y ∷ zs) tails

pub one_table : (names others used : List (List ℕ)) → IsTableOf names used → IsTableOf others used → names ≡ others
one_table names others used a b = table_unique [] [] names others a.rising b.rising (λ name h. (b.of name).1 ((a.of name).0 h)) (λ name h. (a.of name).1 ((b.of name).0 h))

-- ---- the rule that each name is used, by a table of those that are

among_alike : (wanted used : List (List ℕ)) → IsTableOf wanted used → (name : List ℕ) → is_among wanted name ≡ is_among used name
among_alike wanted used table name = both_ways (is_among wanted name) (is_among used name)
    (λ e. let h = (table.of name).0 (among_contains wanted name e) in contains_among used name h.0 h.1 h.2)
    (λ e. let h = (table.of name).1 (among_contains used name e) in contains_among wanted name h.0 h.1 h.2)

pub unused_alike : (names wanted used : List (List ℕ)) (behind : ℕ) → IsTableOf wanted used → first_unused names wanted behind ≡ first_unused names used behind
unused_alike [] wanted used behind table = refl
unused_alike (name ∷ names) wanted used behind table = rw (among_alike wanted used table name, unused_alike names wanted used behind table) refl

pub length-name_table : (names : List (List ℕ)) → length (name_table names) ≡ 4 + length (flat_map text names)
unfolding name_table
length-name_table names = length-append (u32 (length names)) (flat_map text names) ∙ omega (arith, length-u32 (length names))

length-text : (name : List ℕ) → length (text name) ≡ 4 + length name
unfolding text
length-text name = length-append (u32 (length name)) name ∙ omega (arith, length-u32 (length name))

-- the bytes of the table from the name at i on
pub from_name : (names : List (List ℕ)) (i : ℕ) (name : List ℕ) → i < length names → name ≡ get_or names i name → length (flat_map text (drop i names)) ≡ 4 + length name + length (flat_map text (drop (i + 1) names))
from_name names i name lt is =
    let one : length (flat_map text (drop i names)) ≡ length (flat_map text (name ∷ drop (i + 1) names)) = at_drop_more (λ (rest : List (List ℕ)). length (flat_map text rest)) names i name lt ∙ ap (λ z. length (flat_map text (z ∷ drop (i + 1) names))) (sym is) in
    one ∙ ap length (flat_map-cons text name (drop (i + 1) names)) ∙ length-append (text name) (flat_map text (drop (i + 1) names)) ∙ omega (arith, length-text name)

-- no part of the table is longer than the whole
pub part_of_table : (names : List (List ℕ)) (i : ℕ) → length (flat_map text (drop i names)) ≤ length (flat_map text names)
part_of_table names zero = omega arith
part_of_table [] (suc i) = omega arith
part_of_table (name ∷ names) (suc i) = omega (arith, part_of_table names i, ap length (flat_map-cons text name names), length-append (text name) (flat_map text names))

-- one name further to the front
pub outside_at : (names wanted : List (List ℕ)) (behind i : ℕ) (name : List ℕ) → i < length names → name ≡ get_or names i name → first_unused (drop i names) wanted behind ≡ cond (is_among wanted name) (first_unused (drop (i + 1) names) wanted behind) (Some (length (flat_map text (drop i names)) + behind))
outside_at names wanted behind i name lt is =
    let one : drop i names ≡ name ∷ drop (i + 1) names = drop_more names i name lt ∙ ap (λ z. z ∷ drop (i + 1) names) (sym is) in
    rw one refl

not_among : (wanted : List (List ℕ)) (name : List ℕ) (b : Bool) → is_among wanted name ≡ b → (Contains wanted name → ⊥) → is_among wanted name ≡ false
not_among wanted name true is none = absurd (none (among_contains wanted name is))
not_among wanted name false is none = is

pub found_among : (wanted : List (List ℕ)) (name : List ℕ) (found : Option ℕ) → IfSome found (λ i. (i < length wanted) × (place_of wanted name ≡ i)) → IfNone found (Contains wanted name → ⊥) → is_among wanted name ≡ is_some found
found_among wanted name (Some i) found none = contains_among wanted name (place_of wanted name) (rw found.1 found.0) (get-place wanted name name (rw found.1 found.0))
found_among wanted name None found none = not_among wanted name (is_among wanted name) refl none

-- what is left from a name on, one name further to the front
pub further : (names : List (List ℕ)) (behind i left : ℕ) (name : List ℕ) → 0 < i → i ≤ length names → name ≡ get_or names (i - 1) name → left ≡ length (flat_map text (drop i names)) + behind
    → left + (4 + length name) ≡ length (flat_map text (drop (i - 1) names)) + behind
further names behind i left name some within is so_far =
    let back : i - 1 + 1 ≡ i = omega arith in
    let one = from_name names (i - 1) name (omega arith) is in
    omega (arith, one, ap (λ k. length (flat_map text (drop k names))) back)

-- the same of the first name that is not there
pub outside : (names wanted : List (List ℕ)) (behind i left : ℕ) (name : List ℕ) (found : Option ℕ) (b : Bool) → 0 < i → i ≤ length names → name ≡ get_or names (i - 1) name → left ≡ length (flat_map text (drop i names)) + behind
    → found ≡ first_unused (drop i names) wanted behind → is_among wanted name ≡ b → cond b found (Some (left + (4 + length name))) ≡ first_unused (drop (i - 1) names) wanted behind
outside names wanted behind i left name found b some within is so_far found_is among =
    let back : i - 1 + 1 ≡ i = omega arith in
    rw (outside_at names wanted behind (i - 1) name (omega arith) is, among, back, further names behind i left name some within is so_far, found_is) refl

-- a table that is read takes its bytes from the beginning
pub table_within : (bytes : List ℕ) (r : Result (Vec (List ℕ) × Bor (List ℕ)) FieldFault) → AreBytes bytes → AnswersField (λ x. (x.0.items, x.1.now)) r (names_at bytes)
    → IfOk r (λ x. length (flat_map text x.0.items) + length x.1.now ≤ length bytes)
table_within bytes (Ok x) fits given =
    let t = names_spell.takes bytes x.0.items x.1.now fits given in
    omega (arith, ap length t.0, length-append (name_table x.0.items) x.1.now, length-name_table x.0.items)
table_within bytes (Err e) fits given = tt
