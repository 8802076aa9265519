-- The directives of a module in the database of its program have a payload.
use Rattle.std.proofs.Common.{◌≡◌, ◌⊎◌, ℕ, zero, suc, ◌+◌, ◌^◌, ◌<◌, ◌≤◌, Bool, true, false, List, [], ◌∷◌, ◌++◌, length, map, refl, sym, ap, subst, ◌∙◌, arith, inl, inr, length-append}
use Rattle.std.specs.Prelude.{Contains, Option, Some, None, slice_index_or, cond, if◌then◌else◌}
use Rattle.std.specs.List.{flat_map, filter}
use Rattle.std.proofs.lemmas.List.{length-map}
use Rattle.std.proofs.lemmas.List.Concat.{flat_map-cons}
use Rattle.std.proofs.lemmas.List.Elements.{recursion_from_All}
use Rattle.pw_value.specs.declared.value.Kind.{Kind}
use Rattle.pw_value.specs.declared.value.Kind.TheVariants.{W32}
use Rattle.pw_value.specs.Names.{IsNameLength}
use Rattle.pw_fields.specs.FieldNames.{IsTableOf}
use Rattle.pw_files.proofs.Standing.{Has, contains_by, has_by, has_each, each_by, has_map, has_map_back, has_split, has_left, has_right, has_flat, has_flat_back, stands_or_not}
use Rattle.pw_files.proofs.ByteOrder.{table_rises}
use Rattle.pw_flow.specs.FlowGraph.{global_names, function_names}
use Rattle.pw_flow.specs.ValidFlow.{AreDistinct, IsValid}
use Rattle.pw_flow.specs.declared.flow.FlowModule.{FlowModule}
use Rattle.pw_flow.proofs.Once.{distinct_right}
use Rattle.pw_db.specs.Database.{EachTwo, IsDirectives, Agree, IsDatabase, HasDirectives, IsStored, all_webs, webs_of as webs_in, says_something, empty, database_version, newest}
use Rattle.pw_db_file.specs.Spelling.{FitsFunction, FitsDatabase, IsDatabaseContents, names_of, names_of_function, spelling}
use Rattle.pw_db_file.proofs.WritingLemmas.{newest_lawful}
use Rattle.pw_db.specs.declared.database.Directives.{Directives}
use Rattle.pw_db.specs.declared.database.Role.{Role}
use Rattle.pw_db.specs.declared.database.Role.TheVariants.{Entry, Member}
use Rattle.pw_db.specs.declared.database.Web.{Web}
use Rattle.pw_graph.specs.declared.graph.CallGraph.{CallGraph}
use Rattle.pw_graph.specs.CallGraph.{IsGraph}
use Rattle.pw_graph.proofs.Lists.{Apart, rising_apart}
use Rattle.pw_webs.specs.declared.web.RawWeb.{RawWeb}
use Rattle.pw_colour.specs.Colours.{numbered, global_of, web_of, has_number, webs_of, directives_of}
use Rattle.pw_colour.specs.Giving.{entry_of, entries_from}
use Rattle.pw_phase_two.specs.Phases.{AreDirectivesIn, IsPayloadOf}
use Rattle.pw_law_answers.proofs.Ordering.{ordered, table_exists}
use Rattle.pw_law_answers.proofs.Summaries.{one_item}

-- ---- what a database of a call graph holds

-- each function has few webs with small numbers, and it and their globals are of the call graph
pub record IsSmall (g : CallGraph) (f : List ℕ × Directives) : Type 0 where
  pub function : Has f.0 g.functions
  pub few : length f.1.webs < 2 ^ 32
  pub numbers : (w : Web) → Has w (webs_in f.1) → w.id < 2 ^ 32
  pub globals : (w : Web) → Has w (webs_in f.1) → Has w.global (map (λ v. v.0) g.globals)

in_entry : (b : Bool) (x : List ℕ) (d : Directives) (f : List ℕ × Directives) → Has f (if b then ((x, d) ∷ []) else []) → (x ≡ f.0) × (d ≡ f.1)
in_entry true x d f (inl e) = (ap (λ (p : List ℕ × Directives). p.0) e, ap (λ (p : List ℕ × Directives). p.1) e)
in_entry true x d f (inr h) = absurd h
in_entry false x d f h = absurd h

-- where the directives of a function come from
record Source (g : CallGraph) (roots : List ℕ) (ws : List (ℕ × RawWeb × ℕ)) (fs : List (List ℕ)) (f : List ℕ × Directives) : Type 0 where
  place : ℕ
  name : Has f.0 fs
  is : directives_of g roots ws place ≡ f.1

source_of : (g : CallGraph) (roots : List ℕ) (ws : List (ℕ × RawWeb × ℕ)) (n : ℕ) (fs : List (List ℕ)) (f : List ℕ × Directives) → Has f (entries_from g roots ws n fs) → Source g roots ws fs f
source_of g roots ws n [] f h = absurd h
source_of g roots ws n (x ∷ fs) f h = elim (has_split f (entry_of g roots ws n x) (entries_from g roots ws (suc n) fs) h) [
  | inl k ↦ let e = in_entry (says_something (x, directives_of g roots ws n)) x (directives_of g roots ws n) f k in record { place = n; name = inl e.0; is = e.1 }
  | inr k ↦ let s = source_of g roots ws (suc n) fs f k in record { place = s.place; name = inr s.name; is = s.is }
]

one_at_most : {X : Type 0} (b : Bool) (x : X) → length (if b then (x ∷ []) else []) ≤ 1
one_at_most true x = omega arith
one_at_most false x = omega arith

few_parts : {X Y : Type 0} (part : X → List Y) (xs : List X) → ((x : X) → length (part x) ≤ 1) → length (flat_map part xs) ≤ length xs
few_parts part [] each = omega arith
few_parts {X} {Y} part (x ∷ xs) each =
    let one = each x in
    let rest = few_parts part xs each in
    let split : length (flat_map part (x ∷ xs)) ≡ length (part x) + length (flat_map part xs) = ap (λ (ys : List Y). length ys) (flat_map-cons part x xs) ∙ length-append (part x) (flat_map part xs) in
    omega (arith, one, rest, split)

in_if : {X : Type 0} (b : Bool) (x y : X) → Has y (if b then (x ∷ []) else []) → x ≡ y
in_if true x y (inl e) = e
in_if true x y (inr h) = absurd h
in_if false x y h = absurd h

few_numbered : (n : ℕ) (ps : List (RawWeb × Option ℕ)) → length (numbered n ps) ≤ length ps
few_numbered n [] = omega arith
few_numbered n ((w, None) ∷ ps) = let rest = few_numbered n ps in omega (arith, rest)
few_numbered n ((w, Some r) ∷ ps) = let rest = few_numbered (suc n) ps in omega (arith, rest)

number_below : (n : ℕ) (ps : List (RawWeb × Option ℕ)) (q : ℕ × RawWeb × ℕ) → Has q (numbered n ps) → q.0 < n + length (numbered n ps)
number_below n [] q h = absurd h
number_below n ((w, None) ∷ ps) q h = number_below n ps q h
number_below n ((w, Some r) ∷ ps) q (inl e) = let same : n ≡ q.0 = ap (λ (t : ℕ × RawWeb × ℕ). t.0) e in omega (arith, same)
number_below n ((w, Some r) ∷ ps) q (inr h) = let lt = number_below (suc n) ps q h in omega (arith, lt)

number_of : (n : ℕ) (ps : List (RawWeb × Option ℕ)) (q : ℕ × RawWeb × ℕ) → Has q (numbered n ps) → Has (q.1, Some q.2) ps
number_of n [] q h = absurd h
number_of n ((w, None) ∷ ps) q h = inr (number_of n ps q h)
number_of n ((w, Some r) ∷ ps) q (inl e) = inl (ap (λ (t : ℕ × RawWeb × ℕ). (t.1, Some t.2)) e)
number_of n ((w, Some r) ∷ ps) q (inr h) = inr (number_of (suc n) ps q h)

stands_at : {X : Type 0} (xs : List X) (k : ℕ) (d : X) → k < length xs → Has (slice_index_or xs k d) xs
stands_at [] k d lt = absurd (omega (arith, lt))
stands_at (x ∷ xs) zero d lt = inl refl
stands_at (x ∷ xs) (suc k) d lt = inr (stands_at xs k d (omega (arith, lt)))

module _ (g : CallGraph) (roots : List ℕ) (ps : List (RawWeb × Option ℕ)) (few : length ps < 2 ^ 32) (raw : (w : RawWeb) (o : Option ℕ) → Has (w, o) ps → w.global < length g.globals) where
  abbrev all : List (ℕ × RawWeb × ℕ)
  all = numbered 0 ps

  abbrev part : ℕ → ℕ × RawWeb × ℕ → List (Web × Role)
  part f w = if has_number w.1.members f then ((web_of g w, (if has_number w.1.entries f then Entry else Member)) ∷ []) else []

  record From (w : Web) : Type 0 where
    number : ℕ × RawWeb × ℕ
    there : Has number all
    is : web_of g number ≡ w

  from : (place : ℕ) (w : Web) → Has w (webs_in (directives_of g roots all place)) → From w
  from place w h =
      let p = has_map_back (λ (x : Web × Role). x.0) w (webs_of g all place) h in
      let q = has_flat_back (part place) p.0 all p.1 in
      let e = in_if (has_number q.0.1.members place) _ p.0 q.2 in
      record { number = q.0; there = q.1; is = ap (λ (x : Web × Role). x.0) e ∙ p.2 }

  small_at : (place : ℕ) (name : List ℕ) → Has name g.functions → IsSmall g (name, directives_of g roots all place)
  small_at place name there = record {
    function = there;
    few = (let le = few_parts (part place) all (λ w. one_at_most (has_number w.1.members place) _) in let n = few_numbered 0 ps in omega (arith, le, n, few));
    numbers = λ w h.
        let x = from place w h in
        let lt = number_below 0 ps x.number x.there in
        let n = few_numbered 0 ps in
        let same : x.number.0 ≡ w.id = ap (λ (v : Web). v.id) x.is in
        omega (arith, lt, n, few, same);
    globals = λ w h.
        let x = from place w h in
        let lt = raw x.number.1 (Some x.number.2) (number_of 0 ps x.number x.there) in
        let at = has_map (λ (v : List ℕ × Kind). v.0) (global_of g x.number.1) g.globals (stands_at g.globals x.number.1.global ([], W32) lt) in
        subst (λ (n : List ℕ). Has n (map (λ v. v.0) g.globals)) (ap (λ (v : Web). v.global) x.is) at;
  }

  pub entries_small : (f : List ℕ × Directives) → Has f (entries_from g roots all 0 g.functions) → IsSmall g f
  entries_small f h =
      let s = source_of g roots all 0 g.functions f h in
      subst (λ (d : Directives). IsSmall g (f.0, d)) s.is (small_at s.place f.0 s.name)

-- ---- lists of names without repeats

abbrev without : (x : List ℕ) (ys : List (List ℕ)) → Has x ys → List (List ℕ)
without x [] h = []
without x (y ∷ ys) (inl e) = ys
without x (y ∷ ys) (inr h) = y ∷ without x ys h

one_less : (x : List ℕ) (ys : List (List ℕ)) (h : Has x ys) → length ys ≡ suc (length (without x ys h))
one_less x [] h = absurd h
one_less x (y ∷ ys) (inl e) = refl
one_less x (y ∷ ys) (inr h) = ap suc (one_less x ys h)

others_stay : (x z : List ℕ) (ys : List (List ℕ)) (h : Has x ys) → Has z ys → (z ≡ x → ⊥) → Has z (without x ys h)
others_stay x z [] h k other = absurd h
others_stay x z (y ∷ ys) (inl e) (inl d) other = absurd (other (sym d ∙ e))
others_stay x z (y ∷ ys) (inl e) (inr k) other = k
others_stay x z (y ∷ ys) (inr h) (inl d) other = inl d
others_stay x z (y ∷ ys) (inr h) (inr k) other = inr (others_stay x z ys h k other)

no_more : (xs ys : List (List ℕ)) → Apart xs → ((x : List ℕ) → Has x xs → Has x ys) → length xs ≤ length ys
no_more [] ys all sub = omega arith
no_more (x ∷ xs) ys all sub =
    let h = sub x (inl refl) in
    let rest = no_more xs (without x ys h) all.1 (λ z k. others_stay x z ys h (sub z (inr k)) (λ e. all.0 (subst (λ (n : List ℕ). Has n xs) e k))) in
    let less = one_less x ys h in
    omega (arith, rest, less)

-- ---- functions whose directives say something

kept_if : {X : Type 0} (b : Bool) (x y : X) (ys : List X) → Has y (cond b (x ∷ ys) ys) → ((x ≡ y) × (b ≡ true)) ⊎ Has y ys
kept_if true x y ys (inl e) = inl (e, refl)
kept_if true x y ys (inr h) = inr h
kept_if false x y ys h = inr h

kept_back : {X : Type 0} (p : X → Bool) (xs : List X) (y : X) → Has y (filter p xs) → Has y xs × (p y ≡ true)
kept_back p [] y h = absurd h
kept_back {X} p (x ∷ xs) y h = elim (kept_if (p x) x y (filter p xs) h) [
  | inl k ↦ (inl k.0, subst (λ (z : X). p z ≡ true) k.0 k.1)
  | inr k ↦ let r = kept_back p xs y k in (inr r.0, r.1)
]

kept_first : {X : Type 0} (b : Bool) (x y : X) (ys : List X) → b ≡ true → x ≡ y → Has y (cond b (x ∷ ys) ys)
kept_first true x y ys on e = inl e
kept_first false x y ys on e = absurd cc

kept_later : {X : Type 0} (b : Bool) (x y : X) (ys : List X) → Has y ys → Has y (cond b (x ∷ ys) ys)
kept_later true x y ys h = inr h
kept_later false x y ys h = h

kept_there : {X : Type 0} (p : X → Bool) (xs : List X) (y : X) → Has y xs → p y ≡ true → Has y (filter p xs)
kept_there p [] y h on = absurd h
kept_there {X} p (x ∷ xs) y (inl e) on = kept_first (p x) x y (filter p xs) (subst (λ (z : X). p z ≡ true) (sym e) on) e
kept_there p (x ∷ xs) y (inr h) on = kept_later (p x) x y (filter p xs) (kept_there p xs y h on)

length_if : {X : Type 0} (b : Bool) (x : X) (ys : List X) (n : ℕ) → length ys ≤ n → length (cond b (x ∷ ys) ys) ≤ suc n
length_if true x ys n le = omega (arith, le)
length_if false x ys n le = omega (arith, le)

few_kept : {X : Type 0} (p : X → Bool) (xs : List X) → length (filter p xs) ≤ length xs
few_kept p [] = omega arith
few_kept p (x ∷ xs) = length_if (p x) x (filter p xs) (length xs) (few_kept p xs)

-- ---- webs of one number are one web

agree_any : (xs : List Web) → EachTwo Agree xs → (a b : Web) → Has a xs → Has b xs → a.id ≡ b.id → a ≡ b
agree_any [] two a b h k same = absurd h
agree_any (x ∷ xs) two a b (inl e) (inl d) same = sym e ∙ d
agree_any (x ∷ xs) two a b (inl e) (inr k) same = sym e ∙ has_each (Agree x) xs b two.0 k (ap (λ (w : Web). w.id) e ∙ same)
agree_any (x ∷ xs) two a b (inr h) (inl d) same = sym (has_each (Agree x) xs a two.0 h (ap (λ (w : Web). w.id) d ∙ sym same)) ∙ d
agree_any (x ∷ xs) two a b (inr h) (inr k) same = agree_any xs two.1 a b h k same

all_agree : (xs : List Web) → ((a b : Web) → Has a xs → Has b xs → a.id ≡ b.id → a ≡ b) → EachTwo Agree xs
all_agree [] f = tt
all_agree (x ∷ xs) f = (each_by (Agree x) xs (λ y h. f x y (inl refl) (inr h)), all_agree xs (λ a b h k. f a b (inr h) (inr k)))

-- ---- the payload

module _ (g : CallGraph) (graph : IsGraph g) (named : (n : List ℕ) → Has n (g.functions ++ map (λ v. v.0) g.globals) → IsNameLength (length n))
    (db : List (List ℕ × Directives)) (small : (f : List ℕ × Directives) → Has f db → IsSmall g f)
    (flow : FlowModule) (valid : IsValid flow) (few : length flow.functions < 2 ^ 32) (ds : List (List ℕ × Directives)) (are : AreDirectivesIn db flow ds) where
  names_differ : AreDistinct (map (λ (f : List ℕ × Directives). f.0) ds) → (x y : List ℕ × Directives) → Has x (filter says_something ds) → Has y (filter says_something ds) → x.0 ≡ y.0 → x ≡ y
  names_differ distinct x y h k e = one_item (λ (f : List ℕ × Directives). f.0) ds distinct x y (kept_back says_something ds x h).0 (kept_back says_something ds y k).0 e

  says_nothing : (f : List ℕ × Directives) → f.1 ≡ empty → says_something f ≡ true → ⊥
  says_nothing f e on = let off : says_something f ≡ false = ap (λ (x : Directives). says_something (f.0, x)) e in cc

  -- a function whose directives say something stands in the database
  in_database : (f : List ℕ × Directives) → Has f ds → says_something f ≡ true → IsSmall g f
  in_database f h on =
      let has = has_each (HasDirectives db) ds f (recursion_from_All (HasDirectives db) ds are.each) h in
      elim (stands_or_not f.0 (map (λ (x : List ℕ × Directives). x.0) db)) [
        | inl there ↦ small f (has_by f db (has.found (contains_by f.0 (map (λ (x : List ℕ × Directives). x.0) db) there)))
        | inr lacks ↦ absurd (says_nothing f (has.lacks (λ c. lacks (has_by f.0 (map (λ (x : List ℕ × Directives). x.0) db) c))) on)
      ]

  abbrev Stored : List (List ℕ × Directives) → Type 0
  Stored stored = (f : List ℕ × Directives) → Has f stored → Has f ds × (says_something f ≡ true)

  used_there : (stored : List (List ℕ × Directives)) → Stored stored → (n : List ℕ) → Has n (names_of stored) → Has n (g.functions ++ map (λ v. v.0) g.globals)
  used_there stored from n h =
      let p = has_flat_back names_of_function n stored h in
      let s = from p.0 p.1 in
      let is = in_database p.0 s.0 s.1 in
      elim p.2 [
        | inl e ↦ has_left n g.functions (map (λ v. v.0) g.globals) (subst (λ (m : List ℕ). Has m g.functions) e is.function)
        | inr k ↦
            let w = has_map_back (λ (x : Web). x.global) n (webs_in p.0.1) k in
            has_right n g.functions (map (λ v. v.0) g.globals) (subst (λ (m : List ℕ). Has m (map (λ v. v.0) g.globals)) w.2 (is.globals w.0 w.1))
      ]

  few_names : (names : List (List ℕ)) → Apart names → ((n : List ℕ) → Has n names → Has n (g.functions ++ map (λ v. v.0) g.globals)) → length names < 2 ^ 32
  few_names names apart there =
      let le = no_more names (g.functions ++ map (λ v. v.0) g.globals) apart there in
      let size : length (g.functions ++ map (λ v. v.0) g.globals) ≡ length g.functions + length (map (λ v. v.0) g.globals) = length-append g.functions (map (λ v. v.0) g.globals) in
      let same : length (map (λ v. v.0) g.globals) ≡ length g.globals = length-map g.globals (λ v. v.0) in
      let functions = graph.functions in
      let globals = graph.globals in
      omega (arith, le, size, same, functions, globals)

  database_of : (stored : List (List ℕ × Directives)) → IsStored ds stored → Stored stored → IsDatabase stored
  database_of stored is from = record {
    functions = is.order;
    directives = each_by (λ (f : List ℕ × Directives). IsDirectives f.1) stored (λ f h. has_each (λ (x : List ℕ × Directives). IsDirectives x.1) ds f are.of_module.storable.directives (from f h).0);
    agree = all_agree (all_webs stored) (λ a b h k.
        let p = has_flat_back (λ (f : List ℕ × Directives). webs_in f.1) a stored h in
        let q = has_flat_back (λ (f : List ℕ × Directives). webs_in f.1) b stored k in
        agree_any (all_webs ds) are.of_module.storable.agree a b
        (has_flat (λ (f : List ℕ × Directives). webs_in f.1) p.0 a ds (from p.0 p.1).0 p.2)
        (has_flat (λ (f : List ℕ × Directives). webs_in f.1) q.0 b ds (from q.0 q.1).0 q.2));
  }

  fits_of : (stored : List (List ℕ × Directives)) → length stored ≤ length ds → Stored stored → FitsDatabase stored
  fits_of stored le from = record {
    count = (let size : length (map (λ (f : List ℕ × Directives). f.0) ds) ≡ length ds = length-map ds (λ f. f.0) in
        let names : length (map (λ (f : List ℕ × Directives). f.0) ds) ≡ length (function_names flow) = ap length are.of_module.functions in
        let own : length (function_names flow) ≡ length flow.functions = length-map flow.functions (λ f. f.name) in
        omega (arith, le, size, names, own, few));
    each = each_by FitsFunction stored (λ f h.
        let s = from f h in
        let is = in_database f s.0 s.1 in
        record { count = is.few; numbers = each_by (λ (w : Web). w.id < 2 ^ 32) (webs_in f.1) is.numbers });
  }

  payload_with : (stored : List (List ℕ × Directives)) (names : List (List ℕ)) → IsStored ds stored → Stored stored → length stored ≤ length ds → IsTableOf names (names_of stored) → (bytes : List ℕ) × IsPayloadOf bytes ds
  payload_with stored names is from le table =
      let contents : IsDatabaseContents database_version (record { names = names; value = newest stored }) = record {
        version_is = refl;
        contents = record {
          lawful = newest_lawful stored (database_of stored is from);
          fits = fits_of stored le from;
          name_count = few_names names (rising_apart names (table_rises names table.rising)) (λ n h. used_there stored from n (has_by n (names_of stored) ((table.of n).0 (contains_by n names h))));
          names = table;
        };
      } in
      (spelling database_version (record { names = names; value = newest stored }), (stored, is, (names, contents, refl)))

  stored_is : (stored : List (List ℕ × Directives)) → ((x : List ℕ × Directives) → Contains stored x → Contains (filter says_something ds) x) → Stored stored
  stored_is stored of f h = kept_back says_something ds f (has_by f (filter says_something ds) (of f (contains_by f stored h)))

  pub payload_exists : (bytes : List ℕ) × IsPayloadOf bytes ds
  payload_exists =
      let distinct : AreDistinct (map (λ (f : List ℕ × Directives). f.0) ds) = subst AreDistinct (sym are.of_module.functions) (distinct_right (global_names flow) (function_names flow) valid.names.distinct.defined) in
      let o = ordered (λ (f : List ℕ × Directives). f.0) (filter says_something ds) (names_differ distinct) in
      let from = stored_is o.0 (λ x. (o.1.of x).0) in
      let table = table_exists (names_of o.0) (λ n h. named n (used_there o.0 from n h)) in
      payload_with o.0 table.0
      (record {
        order = o.1.rising;
        of = λ f. (
          λ h. let k = from f (has_by f o.0 h) in (contains_by f ds k.0, k.1),
          λ h. (o.1.of f).1 (contains_by f (filter says_something ds) (kept_there says_something ds f (has_by f ds h.0) h.1)),
        );
      }) from (let le = o.2 in let fewer = few_kept says_something ds in omega (arith, le, fewer)) table.1
