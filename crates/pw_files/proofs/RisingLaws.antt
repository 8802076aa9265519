-- Lists of a file: what is read is spelled so, and what is spelled so is read again.
use Rattle.std.proofs.Common.{◌≡◌, ℕ, true, List, [], ◌∷◌, ◌++◌, length, map, Result, refl, sym, ap, ◌∙◌}
use Rattle.std.specs.Prelude.{IsTrue, Option, Some, None, Contains}
use Rattle.std.specs.List.{flat_map, AllByRecursion}
use Rattle.std.specs.Ordering.{is_lt}
use Rattle.std.specs.declared.cmp.Ordering.{Ordering}
use Rattle.std.specs.declared.cmp.Ordering.TheVariants.{Less, Equal, Greater}
use Rattle.std.proofs.lemmas.List.{append-nil}
use Rattle.pw_fields.specs.Fields.{u32_at, u32, FitsU32, FitInTurn}
use Rattle.pw_fields.specs.FieldLaws.{Spells, SpellsWhole}
use Rattle.pw_fields.proofs.FieldLaws.{u32_spells}
use Rattle.pw_fields.proofs.FieldSteps.{Completes, step, step_where, finish, format, items_spell, repeated_spells}
use Rattle.pw_fields.proofs.NameLaws.{AllUsed}
use Rattle.pw_files.specs.Rising.{IsAbove, IsRisingBehind, IsRising, counted, FitsList, counted_at, is_above, next_key, rising_at}

-- ---- the same rules in other words

pub refit : {X : Type 0} (spelling : X → List ℕ) (Fits Others : X → Type 0) (read : List ℕ → Result (X × List ℕ) ℕ) → ((x : X) → Fits x → Others x) → ((x : X) → Others x → Fits x) → Spells spelling Fits read → Spells spelling Others read
refit spelling Fits Others read forth back laws = record {
  takes = λ bytes x rest fits e. let t = laws.takes bytes x rest fits e in (t.0, forth x t.1);
  again = λ x rest fits. laws.again x rest (back x fits);
}

pub refit_whole : {X : Type 0} (spelling : X → List ℕ) (Fits Others : X → Type 0) (read : List ℕ → Result (X × List ℕ) ℕ) → ((x : X) → Fits x → Others x) → ((x : X) → Others x → Fits x) → SpellsWhole spelling Fits read → SpellsWhole spelling Others read
refit_whole spelling Fits Others read forth back laws = record {
  takes = λ bytes x rest fits e. let t = laws.takes bytes x rest fits e in (t.0, forth x t.1);
  again = λ x fits. laws.again x (back x fits);
}

-- the steps of a format where what is known allows other words for the spelling and the rules
pub respell : {X : Type 0} (Follows : List ℕ → Type 0) (Known : X → Type 0) (one other : X → List ℕ) (Fits Others : X → Type 0) (read : List ℕ → Result (X × List ℕ) ℕ)
    → ((x : X) → Known x → one x ≡ other x) → ((x : X) → Known x → Fits x → Others x) → ((x : X) → Known x → Others x → Fits x) → Completes Follows Known one Fits read → Completes Follows Known other Others read
respell Follows Known one other Fits Others read same forth back laws = record {
  takes = λ bytes x rest fits e. let u = laws.takes bytes x rest fits e in (u.0 ∙ ap (λ (w : List ℕ). w ++ rest) (same x u.1), u.1, forth x u.1 u.2, u.3);
  again = λ x rest follows k fits. ap read (ap (λ (w : List ℕ). w ++ rest) (sym (same x k))) ∙ laws.again x rest follows k (back x k fits);
}

-- ---- lists

pub counted_spells : {X : Type 0} (spelling : X → List ℕ) (Fits : X → Type 0) (item : List ℕ → Result (X × List ℕ) ℕ) → Spells spelling Fits item → Spells (counted spelling) (FitsList Fits) (counted_at item)
unfolding counted counted_at
counted_spells spelling Fits item laws = format (counted spelling) (FitsList Fits) (λ xs. u32 (length xs) ++ (flat_map spelling xs ++ [])) (λ xs. FitsU32 (length xs) × (AllByRecursion Fits xs × Unit {0})) _
    (step _ _ u32 FitsU32 u32_at _ _ _ length u32_spells
    (λ n fits. step_where _ _ (flat_map spelling) (λ xs. (length xs ≡ n) × AllByRecursion Fits xs) _ _ (λ xs. AllByRecursion Fits xs) _ _ (λ xs. xs)
    (repeated_spells spelling Fits item laws n)
    (λ xs known h. h.1) (λ xs known h. (known.1, h))
    (λ xs h. finish _ xs ((tt, h.0), refl) (λ other known. sym known.1))))
    (λ xs. simp append-nil)
    (λ xs h. (h.0, h.1.0))
    (λ xs h. (h.0, (h.1, tt)))

-- ---- lists in byte order

less_is : (o : Ordering) → is_lt o ≡ true → o ≡ Less
less_is Less e = refl
less_is Equal e = absurd cc
less_is Greater e = absurd cc

pub above_forth : (before : Option (List ℕ)) (text : List ℕ) → is_above before text ≡ true → IsAbove before text
above_forth None text e = tt
above_forth (Some before) text e = less_is _ e

pub above_back : (before : Option (List ℕ)) (text : List ℕ) → IsAbove before text → is_above before text ≡ true
above_back None text above = refl
above_back (Some before) text above = ap is_lt above

abbrev pub FitsBehind : {X : Type 0} → (X → List ℕ) → (X → Type 0) → Option (List ℕ) → X → Type 0
FitsBehind key Fits before x = Fits x × IsTrue (is_above before (key x))

rising_forth : {X : Type 0} (key : X → List ℕ) (Fits : X → Type 0) (before : Option (List ℕ)) (xs : List X) → FitInTurn (FitsBehind key Fits) (next_key key) before xs → IsRisingBehind before (map key xs) × AllByRecursion Fits xs
rising_forth key Fits before [] fits = (tt, tt)
rising_forth key Fits before (x ∷ xs) fits = let later = rising_forth key Fits (Some (key x)) xs fits.1 in ((above_forth before (key x) fits.0.1, later.0), (fits.0.0, later.1))

rising_back : {X : Type 0} (key : X → List ℕ) (Fits : X → Type 0) (before : Option (List ℕ)) (xs : List X) → IsRisingBehind before (map key xs) → AllByRecursion Fits xs → FitInTurn (FitsBehind key Fits) (next_key key) before xs
rising_back key Fits before [] rising fits = tt
rising_back key Fits before (x ∷ xs) rising fits = ((fits.0, above_back before (key x) rising.0), rising_back key Fits (Some (key x)) xs rising.1 fits.1)

-- the rules of a list in byte order
pub record FitsRising {X : Type 0} (key : X → List ℕ) (Fits : X → Type 0) (xs : List X) : Type 0 where
  pub count : FitsU32 (length xs)
  pub rising : IsRising (map key xs)
  pub each : AllByRecursion Fits xs

pub rising_spells : {X : Type 0} (spelling : X → List ℕ) (key : X → List ℕ) (Fits : X → Type 0) (item : Option (List ℕ) → List ℕ → Result (X × List ℕ) ℕ)
    → ((before : Option (List ℕ)) → Spells spelling (FitsBehind key Fits before) (item before)) → Spells (counted spelling) (FitsRising key Fits) (rising_at key item)
unfolding counted rising_at
rising_spells spelling key Fits item laws = format (counted spelling) (FitsRising key Fits) (λ xs. u32 (length xs) ++ (flat_map spelling xs ++ [])) (λ xs. FitsU32 (length xs) × ((IsRising (map key xs) × AllByRecursion Fits xs) × Unit {0})) _
    (step _ _ u32 FitsU32 u32_at _ _ _ length u32_spells
    (λ n fits. step_where _ _ (flat_map spelling) (λ xs. (length xs ≡ n) × FitInTurn (FitsBehind key Fits) (next_key key) None xs) _ _ (λ xs. IsRising (map key xs) × AllByRecursion Fits xs) _ _ (λ xs. xs)
    (items_spell spelling (FitsBehind key Fits) item (next_key key) laws n None)
    (λ xs known h. rising_forth key Fits None xs h.1) (λ xs known h. (known.1, rising_back key Fits None xs h.0 h.1))
    (λ xs h. finish _ xs ((tt, h.0), refl) (λ other known. sym known.1))))
    (λ xs. simp append-nil)
    (λ xs h. record { count = h.0; rising = h.1.0.0; each = h.1.0.1 })
    (λ xs h. (h.count, ((h.rising, h.each), tt)))

-- ---- the rules of items one by one

pub each_weaker : {X : Type 0} (P Q : X → Type 0) → ((x : X) → P x → Q x) → (xs : List X) → AllByRecursion P xs → AllByRecursion Q xs
each_weaker P Q f [] all = tt
each_weaker P Q f (x ∷ xs) all = (f x all.0, each_weaker P Q f xs all.1)

pub each_both : {X : Type 0} (P Q : X → Type 0) (xs : List X) → AllByRecursion P xs → AllByRecursion Q xs → AllByRecursion (λ x. P x × Q x) xs
each_both P Q [] one two = tt
each_both P Q (x ∷ xs) one two = ((one.0, two.0), each_both P Q xs one.1 two.1)

-- names of items that stand in a table
pub used_by_each : {X : Type 0} (key : X → List ℕ) (names : List (List ℕ)) (xs : List X) → AllByRecursion (λ x. Contains names (key x)) xs → AllUsed (map key xs) names
used_by_each key names [] all = tt
used_by_each key names (x ∷ xs) all = (all.0, used_by_each key names xs all.1)

pub each_by_used : {X : Type 0} (key : X → List ℕ) (names : List (List ℕ)) (xs : List X) → AllUsed (map key xs) names → AllByRecursion (λ x. Contains names (key x)) xs
each_by_used key names [] used = tt
each_by_used key names (x ∷ xs) used = (used.0, each_by_used key names xs used.1)

-- names of two lists
pub used_append : (xs ys names : List (List ℕ)) → AllUsed xs names → AllUsed ys names → AllUsed (xs ++ ys) names
used_append [] ys names one two = two
used_append (x ∷ xs) ys names one two = (one.0, used_append xs ys names one.1 two)

pub used_front : (xs ys names : List (List ℕ)) → AllUsed (xs ++ ys) names → AllUsed xs names
used_front [] ys names both = tt
used_front (x ∷ xs) ys names both = (both.0, used_front xs ys names both.1)

pub used_back : (xs ys names : List (List ℕ)) → AllUsed (xs ++ ys) names → AllUsed ys names
used_back [] ys names both = both
used_back (x ∷ xs) ys names both = used_back xs ys names both.1
