-- A format is proved field by field, as its reader is written: each step names the field of the value
-- that was read, and at the end the fields that are known make the value.
use Rattle.std.proofs.Common.{◌≡◌, ℕ, zero, suc, List, [], ◌∷◌, ◌++◌, length, Result, Ok, refl, sym, ap, subst, ◌∙◌, append_assoc}
use Rattle.std.specs.Prelude.{Option, Some, None}
use Rattle.std.specs.List.{flat_map, AllByRecursion}
use Rattle.std.proofs.lemmas.List.{append-nil}
use Rattle.std.proofs.lemmas.List.Concat.{flat_map-cons}
use Rattle.pw_fields.specs.Fields.{◌>>=◌, done, items_at, same_state, repeated, FitInTurn}
use Rattle.pw_fields.specs.FieldFrame.{here, ended}
use Rattle.pw_fields.specs.FieldLaws.{AreBytes, Spells, SpellsWhole}
use Rattle.pw_fields.proofs.FieldLaws.{AreBytes-rest, joins, same_text, found_is, not_found, after_passes}

-- what may follow a format: anything follows a field, and nothing a payload
abbrev pub Anything : List ℕ → Type 0
Anything rest = Unit {0}

abbrev pub Nothing : List ℕ → Type 0
Nothing rest = rest ≡ []

-- a reader that goes on where something is known of the value already
pub record Completes {X : Type 0} (Follows : List ℕ → Type 0) (Known : X → Type 0) (spelling : X → List ℕ) (Fits : X → Type 0) (read : List ℕ → Result (X × List ℕ) ℕ) : Type 0 where
  pub takes : (bytes : List ℕ) (x : X) (rest : List ℕ) → AreBytes bytes → read bytes ≡ Ok (x, rest) → (bytes ≡ spelling x ++ rest) × Known x × Fits x × Follows rest
  pub again : (x : X) (rest : List ℕ) → Follows rest → Known x → Fits x → read (spelling x ++ rest) ≡ Ok (x, rest)

-- all fields are known
pub finish : {X : Type 0} (Known : X → Type 0) (x : X) → Known x → ((y : X) → Known y → x ≡ y) → Completes Anything Known (λ y. []) (λ y. Unit {0}) (done x)
finish Known x known only = record {
  takes = λ bytes y rest fits e. let p = found_is x y bytes rest e in (p.1, subst Known p.0 known, tt, tt);
  again = λ y rest follows k fits. rw (← only y k) refl;
}

-- all fields of a payload are known, which ends here, and the late rules say what Holds says
ended_is : {X : Type 0} (late : Option ℕ) (x y : X) (bytes rest : List ℕ) → ended late x bytes ≡ Ok (y, rest) → (bytes ≡ []) × (late ≡ None) × (x ≡ y) × (rest ≡ [])
ended_is late x y (b ∷ bytes) rest e = absurd (not_found _ y rest e)
ended_is (Some left) x y [] rest e = absurd (not_found left y rest e)
ended_is None x y [] rest e = let p = found_is x y [] rest e in (refl, refl, p.0, sym p.1)

pub finish_whole : {X : Type 0} (Known Holds : X → Type 0) (late : Option ℕ) (x : X) → Known x → ((y : X) → Known y → x ≡ y) → (late ≡ None → Holds x) → (Holds x → late ≡ None)
    → Completes Nothing Known (λ y. []) Holds (ended late x)
finish_whole Known Holds late x known only forth back = record {
  takes = λ bytes y rest fits e. let p = ended_is late x y bytes rest e in (p.0 ∙ sym p.3, subst Known p.2 known, subst Holds p.2 (forth p.1), p.3);
  again = λ y rest follows k holds. rw (follows, back (subst Holds (sym (only y k)) holds), ← only y k) refl;
}

-- the next field, whose rule may speak of the fields before it
pub step_where : {X A : Type 0} (Follows : List ℕ → Type 0) (Known : X → Type 0) (text : A → List ℕ) (FitsField : A → Type 0) (field : List ℕ → Result (A × List ℕ) ℕ)
    (spelling : X → List ℕ) (FitsHere FitsRest : X → Type 0) (others : A → List ℕ → Result (X × List ℕ) ℕ) (get : X → A)
    → Spells text FitsField field
    → ((x : X) → Known x → FitsField (get x) → FitsHere x)
    → ((x : X) → Known x → FitsHere x → FitsField (get x))
    → ((a : A) → FitsField a → Completes Follows (λ x. Known x × (get x ≡ a)) spelling FitsRest (others a))
    → Completes Follows Known (λ x. text (get x) ++ spelling x) (λ x. FitsHere x × FitsRest x) (field >>= others)
step_where Follows Known text FitsField field spelling FitsHere FitsRest others get one to from rest_laws = record {
  takes = λ bytes x rest fits e.
      let p = after_passes (field bytes) others x rest e in
      let t = one.takes bytes p.0 p.1 fits p.2 in
      let u = (rest_laws p.0 t.1).takes p.1 x rest (AreBytes-rest bytes (text p.0) p.1 fits t.0) p.3 in
      (t.0 ∙ rw (u.0, u.1.1) (sym (append_assoc (text p.0) (spelling x) rest)), u.1.0, (to x u.1.0 (rw u.1.1 t.1), u.2), u.3);
  again = λ x rest follows known fits.
      let here = from x known fits.0 in
      ap (field >>= others) (append_assoc (text (get x)) (spelling x) rest)
      ∙ rw (one.again (get x) (spelling x ++ rest) here) ((rest_laws (get x) here).again x rest follows (known, refl) fits.1);
}

-- the next field, whose rule speaks of it alone
pub step : {X A : Type 0} (Follows : List ℕ → Type 0) (Known : X → Type 0) (text : A → List ℕ) (FitsField : A → Type 0) (field : List ℕ → Result (A × List ℕ) ℕ)
    (spelling : X → List ℕ) (FitsRest : X → Type 0) (others : A → List ℕ → Result (X × List ℕ) ℕ) (get : X → A)
    → Spells text FitsField field
    → ((a : A) → FitsField a → Completes Follows (λ x. Known x × (get x ≡ a)) spelling FitsRest (others a))
    → Completes Follows Known (λ x. text (get x) ++ spelling x) (λ x. FitsField (get x) × FitsRest x) (field >>= others)
step Follows Known text FitsField field spelling FitsRest others get one rest_laws =
    step_where Follows Known text FitsField field spelling (λ x. FitsField (get x)) FitsRest others get one (λ x k f. f) (λ x k f. f) rest_laws

-- the place of the next field is kept for a late rule
pub keep_place : {X : Type 0} (Follows : List ℕ → Type 0) (Known : X → Type 0) (spelling : X → List ℕ) (Fits : X → Type 0) (others : ℕ → List ℕ → Result (X × List ℕ) ℕ)
    → ((left : ℕ) → Completes Follows Known spelling Fits (others left)) → Completes Follows Known spelling Fits (here >>= others)
keep_place Follows Known spelling Fits others laws = record {
  takes = λ bytes x rest fits e. (laws (length bytes)).takes bytes x rest fits e;
  again = λ x rest follows known fits. (laws (length (spelling x ++ rest))).again x rest follows known fits;
}

-- all steps together, with the spelling and the rules in the format's own words
pub format : {X : Type 0} (spelling : X → List ℕ) (Fits : X → Type 0) (steps : X → List ℕ) (FitsSteps : X → Type 0) (read : List ℕ → Result (X × List ℕ) ℕ)
    → Completes Anything (λ x. Unit {0}) steps FitsSteps read
    → ((x : X) → steps x ≡ spelling x)
    → ((x : X) → FitsSteps x → Fits x)
    → ((x : X) → Fits x → FitsSteps x)
    → Spells spelling Fits read
format spelling Fits steps FitsSteps read laws alike to from = record {
  takes = λ bytes x rest fits e. let t = laws.takes bytes x rest fits e in (rw (← alike x) t.0, to x t.2);
  again = λ x rest fits. rw (← alike x) (laws.again x rest tt tt (from x fits));
}

-- the same of a payload
pub payload_format : {X : Type 0} (spelling : X → List ℕ) (Fits : X → Type 0) (steps : X → List ℕ) (FitsSteps : X → Type 0) (read : List ℕ → Result (X × List ℕ) ℕ)
    → Completes Nothing (λ x. Unit {0}) steps FitsSteps read
    → ((x : X) → steps x ≡ spelling x)
    → ((x : X) → FitsSteps x → Fits x)
    → ((x : X) → Fits x → FitsSteps x)
    → SpellsWhole spelling Fits read
payload_format spelling Fits steps FitsSteps read laws alike to from = record {
  takes = λ bytes x rest fits e. let t = laws.takes bytes x rest fits e in (t.0 ∙ rw t.3 (append-nil (steps x)) ∙ alike x, to x t.2);
  again = λ x fits. ap read (sym (append-nil (steps x) ∙ alike x)) ∙ laws.again x [] refl tt (from x fits);
}

-- ---- lists

abbrev ItemLaws : {S X : Type 0} → (X → List ℕ) → (S → X → Type 0) → (S → List ℕ → Result (X × List ℕ) ℕ) → Type 0
ItemLaws {S} spelling Fits item = (s : S) → Spells spelling (Fits s) (item s)

items_take : {S X : Type 0} (spelling : X → List ℕ) (Fits : S → X → Type 0) (item : S → List ℕ → Result (X × List ℕ) ℕ) (next : S → X → S) → ItemLaws spelling Fits item
    → (n : ℕ) (s : S) (bytes : List ℕ) (xs : List X) (rest : List ℕ) → AreBytes bytes → items_at item next n s bytes ≡ Ok (xs, rest)
    → (bytes ≡ flat_map spelling xs ++ rest) × (length xs ≡ n) × FitInTurn Fits next s xs
unfolding items_at
items_take spelling Fits item next laws zero s bytes xs rest fits e =
    let p = found_is [] xs bytes rest e in
    (rw (← p.0) p.1, rw (← p.0) refl, subst (FitInTurn Fits next s) p.0 tt)
items_take {S} {X} spelling Fits item next laws (suc n) s bytes xs rest fits e =
    let a = after_passes (item s bytes) (λ x. items_at item next n (next s x) >>= λ others. done (x ∷ others)) xs rest e in
    let b = after_passes (items_at item next n (next s a.0) a.1) (λ others. done (a.0 ∷ others)) xs rest a.3 in
    let p = found_is (a.0 ∷ b.0) xs b.1 rest b.3 in
    let t = (laws s).takes bytes a.0 a.1 fits a.2 in
    let u = items_take spelling Fits item next laws n (next s a.0) a.1 b.0 b.1 (AreBytes-rest bytes (spelling a.0) a.1 fits t.0) b.2 in
    let whole = joins bytes (spelling a.0) a.1 (flat_map spelling b.0) b.1 t.0 u.0 ∙ ap (λ (w : List ℕ). w ++ b.1) (sym (flat_map-cons spelling a.0 b.0)) in
    (same_text (flat_map spelling) bytes (a.0 ∷ b.0) xs b.1 rest whole p.0 p.1, ap length (sym p.0) ∙ ap suc u.1, subst (FitInTurn Fits next s) p.0 (t.1, u.2))

items_again : {S X : Type 0} (spelling : X → List ℕ) (Fits : S → X → Type 0) (item : S → List ℕ → Result (X × List ℕ) ℕ) (next : S → X → S) → ItemLaws spelling Fits item
    → (xs : List X) (s : S) (rest : List ℕ) → FitInTurn Fits next s xs → items_at item next (length xs) s (flat_map spelling xs ++ rest) ≡ Ok (xs, rest)
unfolding items_at
items_again spelling Fits item next laws [] s rest fits = refl
items_again spelling Fits item next laws (x ∷ xs) s rest fits =
    let regrouped : flat_map spelling (x ∷ xs) ++ rest ≡ spelling x ++ (flat_map spelling xs ++ rest) = ap (λ (w : List ℕ). w ++ rest) (flat_map-cons spelling x xs) ∙ append_assoc (spelling x) (flat_map spelling xs) rest in
    ap (items_at item next (suc (length xs)) s) regrouped ∙ rw ((laws s).again x (flat_map spelling xs ++ rest) fits.0, items_again spelling Fits item next laws xs (next s x) rest fits.1) refl

-- as many items as a count says, each read in the state that the items before it lead to
pub items_spell : {S X : Type 0} (spelling : X → List ℕ) (Fits : S → X → Type 0) (item : S → List ℕ → Result (X × List ℕ) ℕ) (next : S → X → S)
    → ((s : S) → Spells spelling (Fits s) (item s))
    → (n : ℕ) (s : S) → Spells (flat_map spelling) (λ xs. (length xs ≡ n) × FitInTurn Fits next s xs) (items_at item next n s)
items_spell spelling Fits item next laws n s = record {
  takes = λ bytes xs rest fits e. let t = items_take spelling Fits item next laws n s bytes xs rest fits e in (t.0, (t.1, t.2));
  again = λ xs rest fits. subst (λ k. items_at item next k s (flat_map spelling xs ++ rest) ≡ Ok (xs, rest)) fits.0 (items_again spelling Fits item next laws xs s rest fits.1);
}

-- the same where each item is read alike

alike_forth : {X : Type 0} (Fits : X → Type 0) (s : ℕ) (xs : List X) → FitInTurn (λ s. Fits) same_state s xs → AllByRecursion Fits xs
alike_forth Fits s [] fits = tt
alike_forth Fits s (x ∷ xs) fits = (fits.0, alike_forth Fits s xs fits.1)

alike_back : {X : Type 0} (Fits : X → Type 0) (s : ℕ) (xs : List X) → AllByRecursion Fits xs → FitInTurn (λ s. Fits) same_state s xs
alike_back Fits s [] fits = tt
alike_back Fits s (x ∷ xs) fits = (fits.0, alike_back Fits s xs fits.1)

pub repeated_spells : {X : Type 0} (spelling : X → List ℕ) (Fits : X → Type 0) (item : List ℕ → Result (X × List ℕ) ℕ) → Spells spelling Fits item
    → (n : ℕ) → Spells (flat_map spelling) (λ xs. (length xs ≡ n) × AllByRecursion Fits xs) (repeated item n)
unfolding repeated
repeated_spells spelling Fits item laws n =
    let items = items_spell spelling (λ s. Fits) (λ s. item) same_state (λ s. laws) n 0 in
    record {
      takes = λ bytes xs rest fits e. let t = items.takes bytes xs rest fits e in (t.0, (t.1.0, alike_forth Fits 0 xs t.1.1));
      again = λ xs rest fits. items.again xs rest (fits.0, alike_back Fits 0 xs fits.1);
    }
