-- The table of names, and names by their index.
use Rattle.std.proofs.Common.{subst, ◌≡◌, ℕ, zero, suc, ◌<◌, Bool, true, false, cond, List, [], ◌∷◌, ◌++◌, length, get_or, refl, sym, ap, ◌∙◌, arith}
use Rattle.std.specs.Prelude.{IsTrue, nat_le, nat_lt, ◌||◌, slice_index_or, Contains, Some, None}
use Rattle.std.specs.List.{flat_map}
use Rattle.std.specs.Str.{bytes_eq}
use Rattle.std.specs.Ordering.{nat_cmp, is_lt, is_eq}
use Rattle.std.specs.Cmp.{first_so, second_so}
use Rattle.std.specs.Cmp.Derive.{both_true}
use Rattle.std.specs.Cmp.Lexicographic.{slice_cmp, texts_ties}
use Rattle.std.specs.declared.cmp.Ordering.{Ordering}
use Rattle.std.specs.declared.cmp.Ordering.TheVariants.{Less, Equal, Greater}
use Rattle.std.proofs.lemmas.Cmp.{nat_list_cmp_total}
use Rattle.std.proofs.lemmas.Slice.Eq.{bytes_eq-Decides}
use Rattle.std.proofs.Math.Bool.{or-true}
use Rattle.std.proofs.lemmas.Bool.{leb-true, le-leb, ltb-true, lt-ltb}
use Rattle.std.proofs.lemmas.List.{append-nil, get_or_default}
use Rattle.pw_value.specs.Limits.{name_limit}
use Rattle.pw_value.specs.Names.{is_name_length, is_before}
use Rattle.pw_fields.specs.Fields.{checked, u32_at, text_at, u32, text, FitsU32, FitsText, FitInTurn}
use Rattle.pw_fields.specs.FieldLaws.{Spells}
use Rattle.pw_fields.specs.FieldNames.{IsTableOf, is_entry, entry_at, next_entry, names_at, IsRisingFrom, IsNameTable, name_table, place_of, name_at, name_index, is_among, first_unused}
use Rattle.pw_fields.proofs.FieldLaws.{checked_spells, u32_spells, text_spells, mapped_spells}
use Rattle.pw_fields.proofs.FieldSteps.{step, step_where, finish, format, items_spell}

-- ---- the table

abbrev FitsEntry : List ℕ → List ℕ → Type 0
FitsEntry before name = FitsText name × IsTrue (is_entry before name)

entry_spells : (before : List ℕ) → Spells text (FitsEntry before) (entry_at before)
unfolding entry_at
entry_spells before = checked_spells text FitsText text_at (is_entry before) text_spells

less_is : (o : Ordering) → is_lt o ≡ true → o ≡ Less
less_is Less e = refl
less_is Equal e = absurd cc
less_is Greater e = absurd cc

rising_forth : (before : List ℕ) (names : List (List ℕ)) → FitInTurn FitsEntry next_entry before names → IsRisingFrom before names
rising_forth before [] fits = tt
rising_forth before (name ∷ names) fits =
    let rule = fits.0.1 in
    let sized = first_so (is_name_length (length name)) (is_before before name) rule in (
      (leb-true 1 (length name) (first_so (nat_le 1 (length name)) (nat_le (length name) name_limit) sized), leb-true (length name) name_limit (second_so (nat_le 1 (length name)) (nat_le (length name) name_limit) sized)),
      less_is _ (second_so (is_name_length (length name)) (is_before before name) rule),
      rising_forth name names fits.1,
    )

rising_back : (before : List ℕ) (names : List (List ℕ)) → IsRisingFrom before names → FitInTurn FitsEntry next_entry before names
rising_back before [] rising = tt
rising_back before (name ∷ names) rising =
    let l = rising.0 in
    ((omega arith, both_true (both_true (le-leb 1 (length name) l.0) (le-leb (length name) name_limit l.1)) (ap is_lt rising.1)), rising_back name names rising.2)

pub names_spell : Spells name_table IsNameTable names_at
unfolding names_at name_table
names_spell = format name_table IsNameTable (λ names. u32 (length names) ++ (flat_map text names ++ [])) (λ names. FitsU32 (length names) × (((length names ≡ length names) × FitInTurn FitsEntry next_entry [] names) × Unit {0})) _
    (step _ _ u32 FitsU32 u32_at _ _ _ length u32_spells
    (λ n fits. step_where _ _ (flat_map text) (λ names. (length names ≡ n) × FitInTurn FitsEntry next_entry [] names) _ _ (λ names. (length names ≡ length names) × FitInTurn FitsEntry next_entry [] names) _ _ (λ names. names)
    (items_spell text FitsEntry entry_at next_entry entry_spells n [])
    (λ names known h. (refl, h.1)) (λ names known h. (known.1, h.1))
    (λ names h. finish _ names ((tt, h.0), refl) (λ other known. sym known.1))))
    (λ names. simp append-nil)
    (λ names h. record { count = h.0; rising = rising_forth [] names h.1.0.1 })
    (λ names h. (h.count, ((refl, rising_back [] names h.rising), tt)))

-- ---- no name stands twice

-- in a rising list each name is above what stands before the list
pub above : (before : List ℕ) (names : List (List ℕ)) → IsRisingFrom before names → (i : ℕ) (d : List ℕ) → i < length names → slice_cmp nat_cmp before (get_or names i d) ≡ Less
above before [] rising i d lt = absurd (omega arith)
above before (name ∷ names) rising zero d lt = rising.1
above before (name ∷ names) rising (suc i) d lt = nat_list_cmp_total.trans before name (get_or names i d) rising.1 (above name names rising.2 i d (omega arith))

-- what is below another is another
pub other : (a b : List ℕ) → slice_cmp nat_cmp a b ≡ Less → bytes_eq a b ≡ false
other a b less = texts_ties a b ∙ ap is_eq less

pub same : (a : List ℕ) → bytes_eq a a ≡ true
same a = (bytes_eq-Decides a a).1 refl

pub place-get : (before : List ℕ) (names : List (List ℕ)) → IsRisingFrom before names → (i : ℕ) (d : List ℕ) → i < length names → place_of names (get_or names i d) ≡ i
place-get before [] rising i d lt = absurd (omega arith)
place-get before (name ∷ names) rising zero d lt = rw (same name) refl
place-get before (name ∷ names) rising (suc i) d lt =
    rw (other name (get_or names i d) (above name names rising.2 i d (omega arith))) (ap suc (place-get name names rising.2 i d (omega arith)))

get-place_by : (first : List ℕ) (names : List (List ℕ)) (name d : List ℕ) (b : Bool) → bytes_eq first name ≡ b → (place_of names name < length names → get_or names (place_of names name) d ≡ name)
    → cond b 0 (suc (place_of names name)) < suc (length names) → get_or (first ∷ names) (cond b 0 (suc (place_of names name))) d ≡ name
get-place_by first names name d true is later lt = (bytes_eq-Decides first name).0 is
get-place_by first names name d false is later lt = later (omega arith)

pub get-place : (names : List (List ℕ)) (name d : List ℕ) → place_of names name < length names → get_or names (place_of names name) d ≡ name
get-place [] name d lt = absurd (omega arith)
get-place (first ∷ names) name d lt = get-place_by first names name d (bytes_eq first name) refl (get-place names name d) lt

-- the place of a name that stands in the table
pub place-is : (names : List (List ℕ)) → IsNameTable names → (name : List ℕ) → (h : Contains names name) → place_of names name ≡ h.0
place-is names table name h = ap (place_of names) (sym h.2) ∙ place-get [] names table.rising h.0 name h.1

pub name_spells : (names : List (List ℕ)) → IsNameTable names → Spells (name_index names) (Contains names) (name_at names)
unfolding name_at
name_spells names table = mapped_spells u32 (λ i. FitsU32 i × IsTrue (nat_lt i (length names))) (Contains names) (checked (λ i. nat_lt i (length names)) u32_at) (λ i. slice_index_or names i []) (place_of names)
    (checked_spells u32 FitsU32 u32_at (λ i. nat_lt i (length names)) u32_spells)
    (λ i fits. let lt : i < length names = ltb-true _ _ fits.1 in (place-get [] names table.rising i [] lt, (i, lt, get_or_default names i _ _ lt)))
    (λ name h. let at = place-is names table name h in
    (ap (λ k. get_or names k []) at ∙ get_or_default names h.0 [] name h.1 ∙ h.2, (rw at (omega (arith, table.count, h.1)), rw at (lt-ltb _ _ h.1))))

-- ---- names that are used

among_by : (first : List ℕ) (used : List (List ℕ)) (name : List ℕ) (b : Bool) → bytes_eq first name ≡ b → (b || is_among used name) ≡ true → (is_among used name ≡ true → Contains used name) → Contains (first ∷ used) name
among_by first used name true is e later = (0, omega arith, (bytes_eq-Decides first name).0 is)
among_by first used name false is e later = let k = later e in (suc k.0, omega (arith, k.1), k.2)

pub among_contains : (used : List (List ℕ)) (name : List ℕ) → is_among used name ≡ true → Contains used name
among_contains [] name e = absurd cc
among_contains (first ∷ used) name e = among_by first used name (bytes_eq first name) refl e (among_contains used name)

pub contains_among : (used : List (List ℕ)) (name : List ℕ) (k : ℕ) → k < length used → get_or used k name ≡ name → is_among used name ≡ true
contains_among [] name k lt e = absurd (omega arith)
contains_among (first ∷ used) name zero lt e = rw (e, same name) refl
contains_among (first ∷ used) name (suc k) lt e = rw (contains_among used name k (omega arith) e) (or-true (bytes_eq first name))

-- each name of the list is among those that are used
abbrev pub AllUsed : List (List ℕ) → List (List ℕ) → Type 0
AllUsed [] used = Unit {0}
AllUsed (name ∷ names) used = Contains used name × AllUsed names used

unused_by : (name : List ℕ) (names used : List (List ℕ)) (behind left : ℕ) (b : Bool) → is_among used name ≡ b → cond b (first_unused names used behind) (Some left) ≡ None → (first_unused names used behind ≡ None → AllUsed names used) → AllUsed (name ∷ names) used
unused_by name names used behind left true is e later = (among_contains used name is, later e)
unused_by name names used behind left false is e later = absurd cc

pub all_used : (names used : List (List ℕ)) (behind : ℕ) → first_unused names used behind ≡ None → AllUsed names used
all_used [] used behind e = tt
all_used (name ∷ names) used behind e = unused_by name names used behind _ (is_among used name) refl e (all_used names used behind)

pub none_unused : (names used : List (List ℕ)) (behind : ℕ) → AllUsed names used → first_unused names used behind ≡ None
none_unused [] used behind all = refl
none_unused (name ∷ names) used behind all = rw (contains_among used name all.0.0 all.0.1 all.0.2) (none_unused names used behind all.1)

-- ---- a table of the names that are used

each_used : (names used : List (List ℕ)) → ((name : List ℕ) → Contains names name → Contains used name) → AllUsed names used
each_used [] used h = tt
each_used (name ∷ names) used h = (h name (0, omega arith, refl), each_used names used (λ other k. h other (suc k.0, omega (arith, k.1), k.2)))

used_at : (names used : List (List ℕ)) → AllUsed names used → (k : ℕ) (name : List ℕ) → k < length names → get_or names k name ≡ name → Contains used name
used_at [] used all k name lt e = absurd (omega arith)
used_at (first ∷ names) used all zero name lt e = subst (Contains used) e all.0
used_at (first ∷ names) used all (suc k) name lt e = used_at names used all.1 k name (omega arith) e

pub table_of_used : (names used : List (List ℕ)) → IsNameTable names → AllUsed names used → AllUsed used names → IsTableOf names used
table_of_used names used table one two = record {
  rising = table.rising;
  of = λ name. (λ h. used_at names used one h.0 name h.1 h.2, λ h. used_at used names two h.0 name h.1 h.2);
}

pub used_by_table : (names used : List (List ℕ)) → IsTableOf names used → AllUsed names used × AllUsed used names
used_by_table names used table = (each_used names used (λ name. (table.of name).0), each_used used names (λ name. (table.of name).1))
