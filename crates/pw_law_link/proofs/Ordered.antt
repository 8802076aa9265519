-- The modules stand in byte order of their names, and those of one name in the order given.
use Rattle.std.proofs.Common.{◌≡◌, ℕ, suc, ◌+◌, Bool, true, false, not, cond, List, [], ◌∷◌, ◌++◌, insert, refl, sym, ap, subst, ◌∙◌, arith, append_assoc, append-nil, map, if◌then◌else◌}
use Rattle.std.specs.Prelude.{fold, Option, Some, None}
use Rattle.std.specs.List.{AllByRecursion, filter}
use Rattle.std.specs.Str.{bytes_eq}
use Rattle.std.specs.Ordering.{nat_cmp, is_lt, ordering_reverse}
use Rattle.std.specs.Cmp.Lexicographic.{slice_cmp}
use Rattle.std.specs.declared.cmp.Ordering.{Ordering}
use Rattle.std.specs.declared.cmp.Ordering.TheVariants.{Less, Equal, Greater}
use Rattle.std.proofs.lemmas.Cmp.{nat_list_cmp_total, tied_itself}
use Rattle.std.proofs.lemmas.List.Sorted.{ranks_by}
use Rattle.std.proofs.lemmas.Slice.Eq.{bytes_eq-Decides}
use Rattle.pw_files.specs.Rising.{IsRising, IsRisingBehind}
use Rattle.pw_object.specs.declared.object.Object.{Object}
use Rattle.pw_value.specs.Names.{is_before}
use Rattle.pw_link.specs.Layout.{inserted, in_order}
use Rattle.pw_law_link.specs.Standing.{AreInOrder}
use Rattle.pw_law_link.proofs.Kept.{all_append, all_insert, all_by}
use Rattle.pw_law_link.proofs.Fitting.{place_of}

-- a name that is not below another
abbrev Up : List ℕ → List ℕ → Type 0
Up a b = is_before b a ≡ false

up_over : (a b c : List ℕ) → Up a b → Up b c → Up a c
up_over a b c ab bc = (ranks_by nat_list_cmp_total (λ (x : List ℕ). x)).chain c b a bc ab

turned : (one other : Ordering) → one ≡ ordering_reverse other → is_lt other ≡ true → is_lt one ≡ false
turned Less Less e h = absurd cc
turned Less Equal e h = absurd cc
turned Less Greater e h = absurd cc
turned Equal other e h = refl
turned Greater other e h = refl

below_up : (a b : List ℕ) → is_before a b ≡ true → Up a b
below_up a b h = turned (slice_cmp nat_cmp b a) (slice_cmp nat_cmp a b) (nat_list_cmp_total.antisymm b a) h

not_itself : (a : List ℕ) → is_before a a ≡ false
not_itself a = ap is_lt (tied_itself nat_list_cmp_total a)

-- what is behind the one behind another has another name
apart : (a b c : List ℕ) → is_before a b ≡ true → Up b c → bytes_eq a c ≡ false
apart a b c below up = by (bytes_eq a c) refl
  where
    by : (same : Bool) → bytes_eq a c ≡ same → bytes_eq a c ≡ false
    by false e = e
    by true e =
        let c_is : c ≡ a = sym ((bytes_eq-Decides a c).0 e) in
        let no : is_before a b ≡ false = subst (λ (x : List ℕ). is_before x b ≡ false) c_is up in
        let wrong : true ≡ false = sym below ∙ no in
        absurd cc

-- ---- an object put in its place

abbrev Named : List ℕ → Object → Bool
Named name o = bytes_eq name o.module

one_more : (n : ℕ) → 1 + n ≡ suc n
one_more n = omega arith

front : (o x : Object) (xs : List Object) → is_before o.module x.module ≡ true → inserted o (x ∷ xs) ≡ o ∷ x ∷ xs
front o x xs e = ap (λ (b : Bool). insert (x ∷ xs) (cond (not b) (1 + place_of o xs) 0) o) e

later : (o x : Object) (xs : List Object) → is_before o.module x.module ≡ false → inserted o (x ∷ xs) ≡ x ∷ inserted o xs
later o x xs e = ap (λ (b : Bool). insert (x ∷ xs) (cond (not b) (1 + place_of o xs) 0) o) e ∙ ap (λ (n : ℕ). insert (x ∷ xs) n o) (one_more (place_of o xs))

put_in_order : (o : Object) (xs : List Object) → AreInOrder xs → AreInOrder (inserted o xs)
put_in_order o [] order = (tt, tt)
put_in_order o (x ∷ xs) order = by (is_before o.module x.module) refl (put_in_order o xs order.1)
  where
    by : (b : Bool) → is_before o.module x.module ≡ b → AreInOrder (inserted o xs) → AreInOrder (inserted o (x ∷ xs))
    by true e next =
        let up = below_up o.module x.module e in
        let behind = all_by (λ (p : Object). Up x.module p.module) (λ (p : Object). Up o.module p.module) xs (λ p h. up_over o.module x.module p.module up h) order.0 in
        subst AreInOrder (sym (front o x xs e)) ((up, behind), order)
    by false e next =
        subst AreInOrder (sym (later o x xs e)) (all_insert (λ (p : Object). Up x.module p.module) xs (place_of o xs) o order.0 e, next)

none_named : (name : List ℕ) (xs : List Object) → AllByRecursion (λ p. bytes_eq name p.module ≡ false) xs → filter (Named name) xs ≡ []
none_named name [] all = refl
none_named name (x ∷ xs) all = rw all.0 (none_named name xs all.1)

-- the objects of a name with one more behind them
abbrev more_named : List ℕ → Object → List Object
more_named name o = if Named name o then o ∷ [] else []

put_behind : (name : List ℕ) (o : Object) (xs : List Object) → AreInOrder xs → filter (Named name) (inserted o xs) ≡ filter (Named name) xs ++ more_named name o
put_behind name o [] order = by (Named name o)
  where
    by : (b : Bool) → (if b then o ∷ [] else []) ≡ [] ++ (if b then o ∷ [] else [])
    by true = refl
    by false = refl
put_behind name o (x ∷ xs) order = by (is_before o.module x.module) refl (put_behind name o xs order.1)
  where
    first : (b : Bool) → Named name o ≡ b → is_before o.module x.module ≡ true → filter (Named name) (o ∷ x ∷ xs) ≡ filter (Named name) (x ∷ xs) ++ more_named name o
    first true same e =
        let name_is : name ≡ o.module = (bytes_eq-Decides name o.module).0 same in
        let here : bytes_eq name x.module ≡ false = subst (λ (n : List ℕ). bytes_eq n x.module ≡ false) (sym name_is) (apart o.module x.module x.module e (not_itself x.module)) in
        let rest = all_by (λ (p : Object). Up x.module p.module) (λ (p : Object). bytes_eq name p.module ≡ false) xs (λ p up. subst (λ (n : List ℕ). bytes_eq n p.module ≡ false) (sym name_is) (apart o.module x.module p.module e up)) order.0 in
        let none = none_named name xs rest in
        rw (same, here, none) refl
    first false other e = rw other (sym (append-nil (filter (Named name) (x ∷ xs))))

    second : (b : Bool) → Named name x ≡ b → filter (Named name) (inserted o xs) ≡ filter (Named name) xs ++ more_named name o → filter (Named name) (x ∷ inserted o xs) ≡ filter (Named name) (x ∷ xs) ++ more_named name o
    second true e next = rw e (ap (λ (rest : List Object). x ∷ rest) next)
    second false e next = rw e next

    by : (b : Bool) → is_before o.module x.module ≡ b → filter (Named name) (inserted o xs) ≡ filter (Named name) xs ++ more_named name o → filter (Named name) (inserted o (x ∷ xs)) ≡ filter (Named name) (x ∷ xs) ++ more_named name o
    by true e next = ap (filter (Named name)) (front o x xs e) ∙ first (Named name o) refl e
    by false e next = ap (filter (Named name)) (later o x xs e) ∙ second (Named name x) refl next

-- ---- all of them

put_all : (xs order : List Object) → AreInOrder order → AreInOrder (fold (λ before o. inserted o before) order xs)
put_all [] order before = before
put_all (x ∷ xs) order before = put_all xs (inserted x order) (put_in_order x order before)

pub modules_in_order : (objects : List Object) → AreInOrder (in_order objects)
modules_in_order objects = put_all objects [] tt

one_named : (name : List ℕ) (x : Object) (xs : List Object) → more_named name x ++ filter (Named name) xs ≡ filter (Named name) (x ∷ xs)
one_named name x xs = by (Named name x)
  where
    by : (b : Bool) → (if b then x ∷ [] else []) ++ filter (Named name) xs ≡ (if b then x ∷ filter (Named name) xs else filter (Named name) xs)
    by true = refl
    by false = refl

all_behind : (name : List ℕ) (xs order : List Object) → AreInOrder order → filter (Named name) (fold (λ before o. inserted o before) order xs) ≡ filter (Named name) order ++ filter (Named name) xs
all_behind name [] order before = sym (append-nil (filter (Named name) order))
all_behind name (x ∷ xs) order before =
    all_behind name xs (inserted x order) (put_in_order x order before)
    ∙ ap (λ (front : List Object). front ++ filter (Named name) xs) (put_behind name x order before)
    ∙ append_assoc (filter (Named name) order) (more_named name x) (filter (Named name) xs)
    ∙ ap (λ (rest : List Object). filter (Named name) order ++ rest) (one_named name x xs)

pub modules_of_a_name : (objects : List Object) (name : List ℕ) → filter (λ o. bytes_eq name o.module) (in_order objects) ≡ filter (λ o. bytes_eq name o.module) objects
modules_of_a_name objects name = all_behind name objects [] tt

-- ---- objects that are in order stay so

last_in_order : (o : Object) (xs : List Object) → AllByRecursion (λ x. Up x.module o.module) xs → inserted o xs ≡ xs ++ o ∷ []
last_in_order o [] behind = refl
last_in_order o (x ∷ xs) behind = later o x xs behind.0 ∙ ap (λ (rest : List Object). x ∷ rest) (last_in_order o xs behind.1)

one_behind : (x : Object) (order xs : List Object) → AllByRecursion (λ (o : Object). AllByRecursion (λ (y : Object). Up y.module o.module) order) xs
    → AllByRecursion (λ o. Up x.module o.module) xs → AllByRecursion (λ (o : Object). AllByRecursion (λ (y : Object). Up y.module o.module) (order ++ x ∷ [])) xs
one_behind x order [] behind first = tt
one_behind x order (o ∷ xs) behind first =
    (all_append (λ (y : Object). Up y.module o.module) order (x ∷ []) behind.0 (first.0, tt), one_behind x order xs behind.1 first.1)

stay : (xs order : List Object) → AreInOrder xs → AllByRecursion (λ (o : Object). AllByRecursion (λ (y : Object). Up y.module o.module) order) xs
    → fold (λ before o. inserted o before) order xs ≡ order ++ xs
stay [] order sorted behind = sym (append-nil order)
stay (x ∷ xs) order sorted behind =
    ap (λ (next : List Object). fold (λ before o. inserted o before) next xs) (last_in_order x order behind.0)
    ∙ (stay xs (order ++ x ∷ []) sorted.1 (one_behind x order xs behind.1 sorted.0) ∙ append_assoc order (x ∷ []) xs)

nothing_before : (xs : List Object) → AllByRecursion (λ (o : Object). AllByRecursion (λ (y : Object). Up y.module o.module) []) xs
nothing_before [] = tt
nothing_before (x ∷ xs) = (tt, nothing_before xs)

behind_all : (before : List ℕ) (xs : List Object) → IsRisingBehind (Some before) (map (λ o. o.module) xs) → AllByRecursion (λ o. Up before o.module) xs
behind_all before [] rising = tt
behind_all before (x ∷ xs) rising =
    let up : Up before x.module = below_up before x.module (ap is_lt rising.0) in
    (up, all_by (λ (o : Object). Up x.module o.module) (λ (o : Object). Up before o.module) xs (λ o h. up_over before x.module o.module up h) (behind_all x.module xs rising.1))

rising_in_order : (before : Option (List ℕ)) (xs : List Object) → IsRisingBehind before (map (λ o. o.module) xs) → AreInOrder xs
rising_in_order before [] rising = tt
rising_in_order before (x ∷ xs) rising = (behind_all x.module xs rising.1, rising_in_order (Some x.module) xs rising.1)

pub modules_stay : (objects : List Object) → IsRising (map (λ o. o.module) objects) → in_order objects ≡ objects
modules_stay objects rising = stay objects [] (rising_in_order None objects rising) (nothing_before objects)
