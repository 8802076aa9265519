-- Marks beside a table of names say which names were met.
use Rattle.std.proofs.Common.{◌≡◌, ◌≢◌, ℕ, zero, suc, ◌<◌, ◌⊎◌, Bool, true, false, List, [], ◌∷◌, ◌++◌, length, get_or, set, Result, Ok, Err, refl, sym, ap, subst, ◌∙◌, arith, inl, inr, get_or-set_same, get_or-set_other}
use Rattle.std.specs.Prelude.{slice_index_or, replicate}
use Rattle.std.specs.Str.{bytes_eq}
use Rattle.std.proofs.Math.ListN.{length-set}
use Rattle.std.proofs.lemmas.Slice.Eq.{bytes_eq-Decides}
use Rattle.pw_fields.specs.declared.fault.FieldFault.{FieldFault}
use Rattle.pw_fields.specs.declared.fault.FieldFault.TheVariants as field
use Rattle.pw_fields.specs.FieldFaults.{Fails}
use Rattle.pw_fields.specs.Fields.{◌>>=◌}
use Rattle.pw_fields.specs.FieldNames.{is_among, name_at, place_of, IsRisingFrom}
use Rattle.pw_fields.proofs.NameLaws.{place-get}
use Rattle.pw_flow_ops.specs.Reading.{below_at}
use Rattle.pw_flowfile.specs.Reading.{fresh_at, seen_after}
use Rattle.pw_flowfile.specs.Marks.{Marks}

pub fresh_fails : (names seen : List (List ℕ)) (bytes : List ℕ) (e : FieldFault) → Fails e (below_at (length names) bytes) → Fails e (fresh_at names seen bytes)
unfolding fresh_at name_at
fresh_fails names seen bytes field.NoMemory fails = tt
fresh_fails names seen bytes (field.Fault left) fails = rw fails refl

-- a name that is marked was met
pub fresh_met : (names seen : List (List ℕ)) (flags : List Bool) (bytes : List ℕ) (i : ℕ) (rest : List ℕ) → Marks names seen flags → i < length names → slice_index_or flags i false ≡ true
    → below_at (length names) bytes ≡ Ok (i, rest) → fresh_at names seen bytes ≡ Err (length bytes)
unfolding fresh_at name_at
fresh_met names seen flags bytes i rest marks lt met found =
    let among : is_among seen (slice_index_or names i []) ≡ true = sym (marks.each i lt) ∙ met in
    rw (found, among) refl

-- another one is new
pub fresh_new : (names seen : List (List ℕ)) (flags : List Bool) (bytes : List ℕ) (i : ℕ) (rest : List ℕ) → Marks names seen flags → i < length names → slice_index_or flags i false ≡ false
    → below_at (length names) bytes ≡ Ok (i, rest) → fresh_at names seen bytes ≡ Ok (slice_index_or names i [], rest)
unfolding fresh_at name_at
fresh_new names seen flags bytes i rest marks lt met found =
    let among : is_among seen (slice_index_or names i []) ≡ false = sym (marks.each i lt) ∙ met in
    rw (found, among) refl

other_name : (names : List (List ℕ)) → IsRisingFrom [] names → (i j : ℕ) → i < length names → j < length names → j ≢ i → (b : Bool) → bytes_eq (get_or names i []) (get_or names j []) ≡ b → b ≡ false
other_name names rising i j lt lt' differ true is =
    let same : get_or names i [] ≡ get_or names j [] = (bytes_eq-Decides _ _).0 is in
    absurd (differ (sym (place-get [] names rising j [] lt') ∙ ap (place_of names) (sym same) ∙ place-get [] names rising i [] lt))
other_name names rising i j lt lt' differ false is = refl

marked_at : (names seen : List (List ℕ)) (flags : List Bool) → IsRisingFrom [] names → Marks names seen flags → (i : ℕ) → i < length names → (j : ℕ) → j < length names → (j ≡ i) ⊎ (j ≢ i)
    → get_or (set flags i true) j false ≡ is_among (get_or names i [] ∷ seen) (get_or names j [])
marked_at names seen flags rising marks i lt j lt' (inl same) =
    let within : i < length flags = omega (arith, marks.count) in
    let t : bytes_eq (get_or names i []) (get_or names j []) ≡ true = (bytes_eq-Decides _ _).1 (ap (λ k. get_or names k []) (sym same)) in
    ap (λ k. get_or (set flags i true) k false) same ∙ get_or-set_same flags i true false within ∙ sym (rw t refl)
marked_at names seen flags rising marks i lt j lt' (inr differ) =
    let f : bytes_eq (get_or names i []) (get_or names j []) ≡ false = other_name names rising i j lt lt' differ _ refl in
    get_or-set_other flags i j true false differ ∙ marks.each j lt' ∙ sym (rw f refl)

same_or_not : (i j : ℕ) → (j ≡ i) ⊎ (j ≢ i)
same_or_not zero zero = inl refl
same_or_not zero (suc j) = inr (λ e. omega (arith, e))
same_or_not (suc i) zero = inr (λ e. omega (arith, e))
same_or_not (suc i) (suc j) = elim (same_or_not i j) [ inl e ↦ inl (ap suc e) | inr d ↦ inr (λ e. d (omega (arith, e))) ]

pub marked : (names seen : List (List ℕ)) (flags : List Bool) → IsRisingFrom [] names → Marks names seen flags → (i : ℕ) → i < length names → (name : List ℕ) → name ≡ get_or names i name → Marks names (name ∷ seen) (set flags i true)
marked names seen flags rising marks i lt name is =
    let at : get_or names i [] ≡ name = same_default names i name lt ∙ sym is in
    record {
      count = length-set flags i true ∙ marks.count;
      each = λ j lt'. subst (λ (n : List ℕ). get_or (set flags i true) j false ≡ is_among (n ∷ seen) (get_or names j [])) at (marked_at names seen flags rising marks i lt j lt' (same_or_not i j));
    }
  where
    same_default : (names : List (List ℕ)) (i : ℕ) (d : List ℕ) → i < length names → get_or names i [] ≡ get_or names i d
    same_default [] i d lt = absurd (omega arith)
    same_default (x ∷ xs) zero d lt = refl
    same_default (x ∷ xs) (suc i) d lt = same_default xs i d (omega arith)

pub same_at : (names : List (List ℕ)) (i : ℕ) (name : List ℕ) → i < length names → name ≡ get_or names i name → get_or names i [] ≡ name
same_at [] i name lt is = absurd (omega arith)
same_at (x ∷ xs) zero name lt is = sym is
same_at (x ∷ xs) (suc i) name lt is = same_at xs i name (omega arith) is

-- ---- names met so far

pub seen_more : (seen names : List (List ℕ)) (name : List ℕ) → seen_after seen (names ++ name ∷ []) ≡ name ∷ seen_after seen names
seen_more seen [] name = refl
seen_more seen (first ∷ names) name = seen_more (first ∷ seen) names name

-- no name was met at first
none_met : (n i : ℕ) → get_or (replicate n false) i false ≡ false
none_met zero i = refl
none_met (suc n) zero = refl
none_met (suc n) (suc i) = none_met n i

length_replicate : (n : ℕ) → length (replicate n false) ≡ n
length_replicate zero = refl
length_replicate (suc n) = ap suc (length_replicate n)

pub nothing_met : (names : List (List ℕ)) → Marks names [] (replicate (length names) false)
nothing_met names = record { count = length_replicate (length names); each = λ i lt. none_met (length names) i }

-- ---- a field and what its value says

pub then_fails : {A B : Type 0} (first : List ℕ → Result (A × List ℕ) ℕ) (next : A → List ℕ → Result (B × List ℕ) ℕ) (bytes : List ℕ) (e : FieldFault) → Fails e (first bytes) → Fails e ((first >>= next) bytes)
then_fails first next bytes field.NoMemory fails = tt
then_fails first next bytes (field.Fault left) fails = rw fails refl

pub then_found : {A B : Type 0} (first : List ℕ → Result (A × List ℕ) ℕ) (next : A → List ℕ → Result (B × List ℕ) ℕ) (bytes : List ℕ) (a : A) (rest : List ℕ) → first bytes ≡ Ok (a, rest) → (first >>= next) bytes ≡ next a rest
then_found first next bytes a rest found = rw found refl
