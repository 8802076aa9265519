-- What loads and stores note of the global objects.
use Rattle.std.proofs.Common.{ℕ, zero, suc, ℤ, ◌≡◌, ◌≢◌, ◌+◌, ◌<◌, ◌≤◌, ◌⊎◌, inl, inr, refl, ap, ap₂, sym, ◌∙◌, arith, Bool, true, false, true≢false, not, ◌&&◌, nat_lt, if◌then◌else◌, cond, Option, Some, None, List, [], ◌∷◌, ◌++◌, append-nil, map, length, slice_get, count_by}
use Rattle.std.specs.Prelude.{◌||◌, ◌==◌}
use Rattle.std.specs.List.{AllByRecursion, flat_map, list_any, position_or_len}
use Rattle.std.specs.Str.{bytes_eq}
use Rattle.std.proofs.lemmas.Bool.{lt-ltb, le-ltb, cases_eq, eq-eqb}
use Rattle.std.proofs.lemmas.List.Sums.{sum_by-cons}
use Rattle.std.proofs.lemmas.Slice.Eq.{bytes_eq-Decides}
use Rattle.pw_value.specs.declared.value.Kind.{Kind}
use Rattle.pw_value.specs.declared.value.Kind.TheVariants.{S8, U8, S16, U16, W32}
use Rattle.pw_value.specs.declared.value.Value.TheVariants.{At}
use Rattle.pw_value.specs.declared.value.Pointer.TheVariants as P
use Rattle.pw_value.specs.Objects.{Object}
use Rattle.pw_flow.specs.declared.flow.FlowGlobal.{FlowGlobal}
use Rattle.pw_flow.specs.ValidFlow.{AreDistinct, kind_size}
use Rattle.pw_inst.specs.declared.Inst.{Inst}
use Rattle.pw_inst.specs.Computing.{offset_by}
use Rattle.pw_alloc.specs.declared.located.Located.{Located}
use Rattle.pw_run_languages.specs.Traces.{Event, Loaded, Stored, touches}
use Rattle.pw_run_languages.specs.Programs.{Program, names_of, globals_of, global_number}
use Rattle.pw_run_languages.specs.LawfulPrograms.{IsProgram, eligible_names}
use Rattle.pw_run_languages.specs.PlacedRun.{is_eligible, is_reserved}
use Rattle.pw_run_languages.specs.Direction.{with_functions}
use Rattle.pw_run_languages.specs.SelectionLaws.{line_program}
use Rattle.pw_run_languages.specs.Addresses.{Addresses}
use Rattle.pw_run_languages.specs.Acts.{Core, register, loaded_at, stored_at}
use Rattle.pw_run_languages.specs.LineRun.{LineProgram, accesses}
use Rattle.pw_select_lines.specs.Registers.{load_scalar, store_scalar}
use Rattle.pw_law_select_rows.specs.Scalars.{LoadNotes, StoreNotes}
use Rattle.pw_law_select_states.specs.Laid.{Lives, size_of, AreLaid}
use Rattle.pw_law_select_ops.proofs.Naming.{named_from}

-- ---- by what is loaded and stored

abbrev pub eligible_in : LineProgram → FlowGlobal → Bool
eligible_in lines g = nat_lt 0 (count_by (bytes_eq g.name) lines.eligible)

-- of one global
abbrev pub notes_of : LineProgram → Addresses → Option (ℕ × ℕ) → Option (ℕ × ℕ) → FlowGlobal → List (Event ℕ ℕ)
notes_of lines w loads stores g =
    (if eligible_in lines g && touches loads (w.named g.name) g.size then Loaded g.name ∷ [] else [])
    ++ (if eligible_in lines g && touches stores (w.named g.name) g.size then Stored g.name ∷ [] else [])

pub all_notes : (lines : LineProgram) (w : Addresses) (i : Inst) (c : Core) (loads stores : Option (ℕ × ℕ)) → c.skip ≡ false → loaded_at i c ≡ loads → stored_at i c ≡ stores
    → accesses lines w (Some i) c ≡ flat_map (notes_of lines w loads stores) (globals_of lines.flow)
all_notes lines w i c loads stores skip one two =
    by_skip c.skip (flat_map (notes_of lines w (loaded_at i c) (stored_at i c)) (globals_of lines.flow)) skip
    ∙ (ap (λ (o : Option (ℕ × ℕ)). flat_map (notes_of lines w o (stored_at i c)) (globals_of lines.flow)) one
    ∙ ap (λ (o : Option (ℕ × ℕ)). flat_map (notes_of lines w loads o) (globals_of lines.flow)) two)
  where
    by_skip : (t : Bool) (l : List (Event ℕ ℕ)) → t ≡ false → (if t then [] else l) ≡ l
    by_skip true l e = absurd (true≢false e)
    by_skip false l e = refl

-- ---- over all globals

none_noted : (f : FlowGlobal → List (Event ℕ ℕ)) (gs : List FlowGlobal) → ((j : ℕ) (h : FlowGlobal) → slice_get gs j ≡ Some h → f h ≡ []) → flat_map f gs ≡ []
none_noted f [] quiet = refl
none_noted f (g ∷ gs) quiet =
    ap (λ (l : List (Event ℕ ℕ)). l ++ flat_map f gs) (quiet 0 g refl) ∙ none_noted f gs (λ j h is. quiet (suc j) h is)

one_noted : (f : FlowGlobal → List (Event ℕ ℕ)) (gs : List FlowGlobal) (i : ℕ) (g : FlowGlobal) → slice_get gs i ≡ Some g
    → ((j : ℕ) (h : FlowGlobal) → slice_get gs j ≡ Some h → j ≢ i → f h ≡ []) → flat_map f gs ≡ f g
one_noted f [] i g there quiet = absurd cc
one_noted f (x ∷ gs) zero g there quiet =
    let same : x ≡ g = cc in
    ap (λ (l : List (Event ℕ ℕ)). f x ++ l) (none_noted f gs (λ j h is. quiet (suc j) h is (λ e. omega (arith, e)))) ∙ (append-nil (f x) ∙ ap f same)
one_noted f (x ∷ gs) (suc i) g there quiet =
    ap (λ (l : List (Event ℕ ℕ)). l ++ flat_map f gs) (quiet 0 x refl (λ e. omega (arith, e)))
    ∙ one_noted f gs i g there (λ j h is ne. quiet (suc j) h is (λ e. ne (omega (arith, e))))

-- ---- eligible globals

count_any : (test : List ℕ → Bool) (xs : List (List ℕ)) → nat_lt 0 (count_by test xs) ≡ list_any test xs
count_any test [] = refl
count_any test (x ∷ xs) =
    let more = count_any test xs in
    let sum : count_by test (x ∷ xs) ≡ cond (test x) 1 0 + count_by test xs = sum_by-cons (λ (y : List ℕ). cond (test y) 1 0) x xs in
    ap (nat_lt 0) sum ∙ by_test (test x) (count_by test xs) (list_any test xs) more
  where
    by_test : (t : Bool) (n : ℕ) (rest : Bool) → nat_lt 0 n ≡ rest → nat_lt 0 (cond t 1 0 + n) ≡ (t || rest)
    by_test true n rest e = lt-ltb 0 (1 + n) (omega arith)
    by_test false n rest e = let none : 0 + n ≡ n = omega arith in ap (nat_lt 0) none ∙ e

pub eligible_same : (p : Program) (functions : List Located) (g : FlowGlobal) → eligible_in (line_program p functions) g ≡ is_eligible (with_functions p functions) g.name
eligible_same p functions g = count_any (bytes_eq g.name) (eligible_names p)

-- ---- what an access touches

touch_none : (a size b n : ℕ) → (a + size ≤ b) ⊎ (b + n ≤ a) → touches (Some (a, size)) b n ≡ false
touch_none a size b n (inl before) = by_first (nat_lt a (b + n))
  where
    by_first : (t : Bool) → (t && nat_lt b (a + size)) ≡ false
    by_first true = le-ltb b (a + size) before
    by_first false = refl
touch_none a size b n (inr behind) = ap (λ (t : Bool). t && nat_lt b (a + size)) (le-ltb a (b + n) behind)

touch_all : (a size n : ℕ) → 0 < size → 0 < n → touches (Some (a, size)) a n ≡ true
touch_all a size n some also =
    ap₂ (λ (s t : Bool). s && t) (lt-ltb a (a + n) (omega (arith, also))) (lt-ltb a (a + size) (omega (arith, some)))

both_false : (t : Bool) → (t && false) ≡ false
both_false true = refl
both_false false = refl

-- nothing is noted of a global that is not eligible, or not touched
quiet_by : (lines : LineProgram) (w : Addresses) (loads stores : Option (ℕ × ℕ)) (g : FlowGlobal)
    → (eligible_in lines g && touches loads (w.named g.name) g.size) ≡ false → (eligible_in lines g && touches stores (w.named g.name) g.size) ≡ false
    → notes_of lines w loads stores g ≡ []
quiet_by lines w loads stores g one two =
    ap₂ (λ (s t : Bool). (if s then Loaded g.name ∷ [] else []) ++ (if t then Stored g.name ∷ [] else [])) one two

-- ---- numbers of globals

position_is : (gs : List FlowGlobal) (j : ℕ) (h : FlowGlobal) → AreDistinct (map (λ g. g.name) gs) → slice_get gs j ≡ Some h → (position_or_len (λ g. bytes_eq g.name h.name) gs ≡ j) × (j < length gs)
position_is [] j h distinct there = absurd cc
position_is (x ∷ gs) zero h distinct there =
    let same : x ≡ h = cc in
    let test : bytes_eq x.name h.name ≡ true = (bytes_eq-Decides x.name h.name).1 (ap (λ (g : FlowGlobal). g.name) same) in
    (ap (λ (t : Bool). cond (not t) (1 + position_or_len (λ g. bytes_eq g.name h.name) gs) 0) test, omega arith)
position_is (x ∷ gs) (suc j) h distinct there =
    let r = position_is gs j h distinct.1 there in
    let test : bytes_eq x.name h.name ≡ false = by_test (bytes_eq x.name h.name) refl in (
      ap (λ (t : Bool). cond (not t) (1 + position_or_len (λ g. bytes_eq g.name h.name) gs) 0) test ∙ (let e = r.0 in omega (arith, e)),
      omega (arith, r.1),
    )
  where
    other_name : (ys : List FlowGlobal) (k : ℕ) → AllByRecursion (λ other. other ≢ x.name) (map (λ g. g.name) ys) → slice_get ys k ≡ Some h → h.name ≢ x.name
    other_name [] k all is = absurd cc
    other_name (y ∷ ys) zero all is = let same : y ≡ h = cc in λ e. all.0 (ap (λ (g : FlowGlobal). g.name) same ∙ e)
    other_name (y ∷ ys) (suc k) all is = other_name ys k all.1 is

    by_test : (t : Bool) → bytes_eq x.name h.name ≡ t → bytes_eq x.name h.name ≡ false
    by_test true e = absurd (other_name gs j distinct.0 there (sym ((bytes_eq-Decides x.name h.name).0 e)))
    by_test false e = e

distinct_right : (xs ys : List (List ℕ)) → AreDistinct (xs ++ ys) → AreDistinct ys
distinct_right [] ys h = h
distinct_right (x ∷ xs) ys h = distinct_right xs ys h.1

pub number_is : (p : Program) (j : ℕ) (h : FlowGlobal) → IsProgram p → slice_get (globals_of p) j ≡ Some h → global_number p h.name ≡ Some j
number_is p j h lawful there =
    let r = position_is (globals_of p) j h (distinct_right (names_of p) (map (λ g. g.name) (globals_of p)) lawful.names) there in
    let e = r.0 in
    ap (λ (t : Bool). cond t (Some (position_or_len (λ g. bytes_eq g.name h.name) (globals_of p))) None)
    (lt-ltb (position_or_len (λ g. bytes_eq g.name h.name) (globals_of p)) (length (globals_of p)) (let less = r.1 in omega (arith, less, e)))
    ∙ ap Some e

-- ---- accesses by a pointer

abbrev number_test : ℕ → Option ℕ → Bool
number_test o (Some n) = n == o
number_test o None = false

any_not : (test : List ℕ → Bool) (xs : List (List ℕ)) (x : List ℕ) → list_any test xs ≡ false → list_any (bytes_eq x) xs ≡ true → test x ≡ false
any_not test [] x none some = absurd (true≢false (sym some))
any_not test (y ∷ ys) x none some = by_first (test y) (bytes_eq x y) refl refl (λ none some. any_not test ys x none some) none some
  where
    by_first : (t s : Bool) → test y ≡ t → bytes_eq x y ≡ s → (list_any test ys ≡ false → list_any (bytes_eq x) ys ≡ true → test x ≡ false)
        → (t || list_any test ys) ≡ false → (s || list_any (bytes_eq x) ys) ≡ true → test x ≡ false
    by_first true s is same later none some = absurd (true≢false none)
    by_first false true is same later none some = ap test ((bytes_eq-Decides x y).0 same) ∙ is
    by_first false false is same later none some = later none some

module _ (p : Program) (functions : List Located) (w : Addresses) (site : ℕ → ℕ) (objects : List Object) (lawful : IsProgram p) (laid : AreLaid p w site objects) where
  abbrev lines : LineProgram
  lines = line_program p functions

  -- a global stands where its number does
  global_site : (j : ℕ) (h : FlowGlobal) → slice_get (globals_of p) j ≡ Some h → site j ≡ w.named h.name
  global_site j h there = let none : 0 + j ≡ j = omega arith in sym (ap site none) ∙ named_from p w.named site 0 j (globals_of p) h laid.named there

  -- bytes of one object touch no other
  untouched : (o i size a j : ℕ) (h : FlowGlobal) → Lives objects o → i + size ≤ size_of objects o → a ≡ site o + i → slice_get (globals_of p) j ≡ Some h → j ≢ o
      → touches (Some (a, size)) (w.named h.name) h.size ≡ false
  untouched o i size a j h live within is there ne =
      touch_none a size (w.named h.name) h.size (by_side (laid.apart j o (laid.live j h there) live ne))
    where
      here : site j ≡ w.named h.name
      here = global_site j h there

      by_side : (site j + size_of objects j < site o) ⊎ (site o + size_of objects o < site j) → (a + size ≤ w.named h.name) ⊎ (w.named h.name + h.size ≤ a)
      by_side (inl below) = let s = laid.size j h there in inr (omega (arith, below, here, s, is))
      by_side (inr above) = inl (omega (arith, above, here, is, within))

  -- no pointer leads to an eligible global
  reserved_quiet : (o i j : ℕ) (h : FlowGlobal) → is_reserved (with_functions p functions) (At (P.Object o i)) ≡ false → slice_get (globals_of p) j ≡ Some h → j ≡ o → eligible_in lines h ≡ false
  reserved_quiet o i j h free there same = by_test (eligible_in lines h) refl
    where
      by_test : (t : Bool) → eligible_in lines h ≡ t → eligible_in lines h ≡ false
      by_test false e = e
      by_test true e =
          let some : list_any (bytes_eq h.name) (eligible_names p) ≡ true = sym (eligible_same p functions h) ∙ e in
          let not_it : number_test o (global_number p h.name) ≡ false =
          any_not (λ g. number_test o (global_number p g)) (eligible_names p) h.name free some in
          let it : number_test o (global_number p h.name) ≡ true = ap (number_test o) (number_is p j h lawful there) ∙ eq-eqb j o same in
          absurd (true≢false (sym it ∙ not_it))

  quiet_access : (o i size a : ℕ) → Lives objects o → i + size ≤ size_of objects o → a ≡ site o + i → is_reserved (with_functions p functions) (At (P.Object o i)) ≡ false
      → (j : ℕ) (h : FlowGlobal) → slice_get (globals_of p) j ≡ Some h → (eligible_in lines h && touches (Some (a, size)) (w.named h.name) h.size) ≡ false
  quiet_access o i size a live within is free j h there = by_number (cases_eq j o)
    where
      by_number : (j ≡ o) ⊎ (j ≡ o → ⊥) → (eligible_in lines h && touches (Some (a, size)) (w.named h.name) h.size) ≡ false
      by_number (inl same) = ap (λ (t : Bool). t && touches (Some (a, size)) (w.named h.name) h.size) (reserved_quiet o i j h free there same)
      by_number (inr ne) = ap (λ (t : Bool). eligible_in lines h && t) (untouched o i size a j h live within is there ne) ∙ both_false (eligible_in lines h)

  -- what a load or a store is
  load_is : (k : Kind) (im : ℤ) (b d a : ℕ) (e : Core) → offset_by (register e b) im ≡ a → loaded_at (load_scalar k im b d) e ≡ Some (a, kind_size k)
  load_is S8 im b d a e at = ap (λ (a : ℕ). Some (a, 1)) at
  load_is U8 im b d a e at = ap (λ (a : ℕ). Some (a, 1)) at
  load_is S16 im b d a e at = ap (λ (a : ℕ). Some (a, 2)) at
  load_is U16 im b d a e at = ap (λ (a : ℕ). Some (a, 2)) at
  load_is W32 im b d a e at = ap (λ (a : ℕ). Some (a, 4)) at

  load_stores : (k : Kind) (im : ℤ) (b d : ℕ) (e : Core) → stored_at (load_scalar k im b d) e ≡ None
  load_stores S8 im b d e = refl
  load_stores U8 im b d e = refl
  load_stores S16 im b d e = refl
  load_stores U16 im b d e = refl
  load_stores W32 im b d e = refl

  store_is : (k : Kind) (im : ℤ) (b r a : ℕ) (e : Core) → offset_by (register e b) im ≡ a → stored_at (store_scalar k r im b) e ≡ Some (a, kind_size k)
  store_is S8 im b r a e at = ap (λ (a : ℕ). Some (a, 1)) at
  store_is U8 im b r a e at = ap (λ (a : ℕ). Some (a, 1)) at
  store_is S16 im b r a e at = ap (λ (a : ℕ). Some (a, 2)) at
  store_is U16 im b r a e at = ap (λ (a : ℕ). Some (a, 2)) at
  store_is W32 im b r a e at = ap (λ (a : ℕ). Some (a, 4)) at

  store_loads : (k : Kind) (im : ℤ) (b r : ℕ) (e : Core) → loaded_at (store_scalar k r im b) e ≡ None
  store_loads S8 im b r e = refl
  store_loads U8 im b r e = refl
  store_loads S16 im b r e = refl
  store_loads U16 im b r e = refl
  store_loads W32 im b r e = refl

  pub pointer_load_notes : (k : Kind) (o i a : ℕ) → Lives objects o → i + kind_size k ≤ size_of objects o → a ≡ site o + i
      → is_reserved (with_functions p functions) (At (P.Object o i)) ≡ false → LoadNotes lines w k a []
  pointer_load_notes k o i a live within is free = λ e im b d skip at.
      all_notes lines w (load_scalar k im b d) e (Some (a, kind_size k)) None skip (load_is k im b d a e at) (load_stores k im b d e)
      ∙ none_noted (notes_of lines w (Some (a, kind_size k)) None) (globals_of p)
      (λ j h there. quiet_by lines w (Some (a, kind_size k)) None h (quiet_access o i (kind_size k) a live within is free j h there) (both_false (eligible_in lines h)))

  pub pointer_store_notes : (k : Kind) (o i a : ℕ) → Lives objects o → i + kind_size k ≤ size_of objects o → a ≡ site o + i
      → is_reserved (with_functions p functions) (At (P.Object o i)) ≡ false → StoreNotes lines w k a []
  pointer_store_notes k o i a live within is free = λ e im b r skip at.
      all_notes lines w (store_scalar k r im b) e None (Some (a, kind_size k)) skip (store_loads k im b r e) (store_is k im b r a e at)
      ∙ none_noted (notes_of lines w None (Some (a, kind_size k))) (globals_of p)
      (λ j h there. quiet_by lines w None (Some (a, kind_size k)) h (both_false (eligible_in lines h)) (quiet_access o i (kind_size k) a live within is free j h there))

  -- ---- accesses by name

  kind_some : (k : Kind) → 0 < kind_size k
  kind_some S8 = omega arith
  kind_some U8 = omega arith
  kind_some S16 = omega arith
  kind_some U16 = omega arith
  kind_some W32 = omega arith

  -- the global at a number, of which a scalar of the kind is loaded or stored
  others_untouched : (k : Kind) (n j : ℕ) (g h : FlowGlobal) → slice_get (globals_of p) n ≡ Some g → kind_size k ≤ g.size → slice_get (globals_of p) j ≡ Some h → j ≢ n
      → touches (Some (w.named g.name, kind_size k)) (w.named h.name) h.size ≡ false
  others_untouched k n j g h here fits there ne =
      let site_is = global_site n g here in
      let size = laid.size n g here in
      untouched n 0 (kind_size k) (w.named g.name) j h (laid.live n g here) (omega (arith, fits, size)) (omega (arith, site_is)) there ne

  itself_touched : (k : Kind) (g : FlowGlobal) → kind_size k ≤ g.size → touches (Some (w.named g.name, kind_size k)) (w.named g.name) g.size ≡ true
  itself_touched k g fits = let some = kind_some k in touch_all (w.named g.name) (kind_size k) g.size some (omega (arith, fits, some))

  and_true : (t : Bool) → (t && true) ≡ t
  and_true true = refl
  and_true false = refl

  pub named_load_notes : (k : Kind) (n : ℕ) (g : FlowGlobal) → slice_get (globals_of p) n ≡ Some g → kind_size k ≤ g.size
      → LoadNotes lines w k (w.named g.name) (if eligible_in lines g then Loaded g.name ∷ [] else [])
  named_load_notes k n g here fits = λ e im b d skip at.
      let access : Option (ℕ × ℕ) = Some (w.named g.name, kind_size k) in
      all_notes lines w (load_scalar k im b d) e access None skip (load_is k im b d (w.named g.name) e at) (load_stores k im b d e)
      ∙ (one_noted (notes_of lines w access None) (globals_of p) n g here
      (λ j h there ne. quiet_by lines w access None h (ap (λ (t : Bool). eligible_in lines h && t) (others_untouched k n j g h here fits there ne) ∙ both_false (eligible_in lines h)) (both_false (eligible_in lines h)))
      ∙ (ap₂ (λ (s t : Bool). (if s then Loaded g.name ∷ [] else []) ++ (if t then Stored g.name ∷ [] else []))
      (ap (λ (t : Bool). eligible_in lines g && t) (itself_touched k g fits) ∙ and_true (eligible_in lines g)) (both_false (eligible_in lines g))
      ∙ append-nil (if eligible_in lines g then Loaded g.name ∷ [] else [])))

  pub named_store_notes : (k : Kind) (n : ℕ) (g : FlowGlobal) → slice_get (globals_of p) n ≡ Some g → kind_size k ≤ g.size
      → StoreNotes lines w k (w.named g.name) (if eligible_in lines g then Stored g.name ∷ [] else [])
  named_store_notes k n g here fits = λ e im b r skip at.
      let access : Option (ℕ × ℕ) = Some (w.named g.name, kind_size k) in
      all_notes lines w (store_scalar k r im b) e None access skip (store_loads k im b r e) (store_is k im b r (w.named g.name) e at)
      ∙ (one_noted (notes_of lines w None access) (globals_of p) n g here
      (λ j h there ne. quiet_by lines w None access h (both_false (eligible_in lines h)) (ap (λ (t : Bool). eligible_in lines h && t) (others_untouched k n j g h here fits there ne) ∙ both_false (eligible_in lines h)))
      ∙ ap₂ (λ (s t : Bool). (if s then Loaded g.name ∷ [] else []) ++ (if t then Stored g.name ∷ [] else []))
      (both_false (eligible_in lines g)) (ap (λ (t : Bool). eligible_in lines g && t) (itself_touched k g fits) ∙ and_true (eligible_in lines g)))
