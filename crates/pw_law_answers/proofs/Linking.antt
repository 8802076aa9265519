-- Modules make a program, or they are refused.
use Rattle.std.proofs.Common.{◌≡◌, ◌≢◌, ◌⊎◌, ℕ, zero, suc, ◌<◌, List, [], ◌∷◌, length, map, refl, sym, ap, subst, ◌∙◌, arith, inl, inr}
use Rattle.std.specs.Prelude.{Contains, Option, Some, None, slice_get}
use Rattle.std.specs.List.{flat_map}
use Rattle.std.specs.Cmp.{IsTotalOrder}
use Rattle.std.specs.Cmp.Lexicographic.{slice_cmp}
use Rattle.std.specs.Ordering.{nat_cmp, on}
use Rattle.std.specs.declared.cmp.Ordering.{Ordering}
use Rattle.std.specs.declared.cmp.Ordering.TheVariants.{Less, Equal, Greater}
use Rattle.std.proofs.lemmas.Bool.{cases_eq, cases_lt}
use Rattle.std.proofs.lemmas.Cmp.{nat_list_cmp_total, lists_total, on_total, tied_itself}
use Rattle.std.proofs.lemmas.Option.{same_Some, slice_get_within}
use Rattle.pw_value.specs.Caps.{capped}
use Rattle.pw_value.specs.Limits.{function_limit, global_limit}
use Rattle.pw_value.specs.ProgramNames.{IsOrdinary, main_shape, start_name}
use Rattle.pw_value.specs.Shapes.{Agree}
use Rattle.pw_value.specs.declared.fault.LinkFault.{LinkFault}
use Rattle.pw_value.specs.declared.fault.LinkFault.TheVariants as F
use Rattle.pw_value.specs.declared.fault.What.TheVariants.{Functions, Globals}
use Rattle.pw_files.proofs.Standing.{Has, contains_by, has_by, has_flat, has_map, stands_or_not}
use Rattle.pw_link_rules.specs.declared.interface.Interface.{Interface}
use Rattle.pw_link_rules.specs.Linking.{Test, few_functions, few_globals, all_defined, defined_once, all_agree, has_main, rank, Passes, Fails, Links, Refusal, IsUndefined, IsDefinedTwice, IsInConflict, HasMain, IsLeastName, IsLeastPair, definitions, declarations, defined_names, used_names, function_count, global_count}
use Rattle.pw_law_answers.proofs.Agreeing.{told_agree}
use Rattle.pw_law_answers.proofs.Telling.{Told, told_both, told_same, told_some, told_below, told_not, told_bytes}

-- ---- the least item of a list of which something holds

pub record LeastOf {X : Type 0} (cmp : X → X → Ordering) (P : X → Type 0) (xs : List X) : Type 0 where
  pub item : X
  pub there : Has item xs
  pub is : P item
  pub least : (y : X) → Has y xs → P y → cmp y item ≡ Less → ⊥

less_or_not : (o : Ordering) → (o ≡ Less) ⊎ (o ≡ Less → ⊥)
less_or_not Less = inl refl
less_or_not Equal = inr apart
  where
    apart : Equal ≡ Less → ⊥
    apart e = cc
less_or_not Greater = inr apart
  where
    apart : Greater ≡ Less → ⊥
    apart e = cc

equal_apart : Equal ≡ Less → ⊥
equal_apart e = cc

module _ {X : Type 0} (cmp : X → X → Ordering) (total : IsTotalOrder cmp) (P : X → Type 0) where
  itself : (x y : X) → x ≡ y → cmp y x ≡ Less → ⊥
  itself x y e below = equal_apart (sym (tied_itself total x) ∙ ap (λ (z : X). cmp z x) e ∙ below)

  -- an item before a list of which none is so
  first_least : (x : X) (xs : List X) → P x → ((y : X) → Has y xs → P y → ⊥) → LeastOf cmp P (x ∷ xs)
  first_least x xs p none = record {
    item = x;
    there = inl refl;
    is = p;
    least = λ y h q below. elim h [ inl e ↦ itself x y e below | inr k ↦ none y k q ];
  }

  -- an item that is not so before a list
  later_least : (x : X) (xs : List X) → (P x → ⊥) → LeastOf cmp P xs → LeastOf cmp P (x ∷ xs)
  later_least x xs lacks l = record {
    item = l.item;
    there = inr l.there;
    is = l.is;
    least = λ y h q below. elim h [ inl e ↦ lacks (subst P (sym e) q) | inr k ↦ l.least y k q below ];
  }

  -- an item that is so before a list with one that is so
  lesser : (x : X) (xs : List X) → P x → (l : LeastOf cmp P xs) → (cmp x l.item ≡ Less) ⊎ (cmp x l.item ≡ Less → ⊥) → LeastOf cmp P (x ∷ xs)
  lesser x xs p l (inl lt) = record {
    item = x;
    there = inl refl;
    is = p;
    least = λ y h q below. elim h [ inl e ↦ itself x y e below | inr k ↦ l.least y k q (total.trans y x l.item below lt) ];
  }
  lesser x xs p l (inr ge) = record {
    item = l.item;
    there = inr l.there;
    is = l.is;
    least = λ y h q below. elim h [ inl e ↦ ge (ap (λ (z : X). cmp z l.item) e ∙ below) | inr k ↦ l.least y k q below ];
  }

  pub least_among : ((x : X) → Told (P x)) → (xs : List X) → LeastOf cmp P xs ⊎ ((x : X) → Has x xs → P x → ⊥)
  least_among tell [] = inr (λ x h p. h)
  least_among tell (x ∷ xs) = by (tell x) (least_among tell xs)
    where
      by : Told (P x) → LeastOf cmp P xs ⊎ ((y : X) → Has y xs → P y → ⊥) → LeastOf cmp P (x ∷ xs) ⊎ ((y : X) → Has y (x ∷ xs) → P y → ⊥)
      by (inl p) (inl l) = inl (lesser x xs p l (less_or_not (cmp x l.item)))
      by (inl p) (inr none) = inl (first_least x xs p none)
      by (inr lacks) (inl l) = inl (later_least x xs lacks l)
      by (inr lacks) (inr none) = inr (λ y h q. elim h [ inl e ↦ lacks (subst P (sym e) q) | inr k ↦ none y k q ])

-- ---- names, and names with two modules

abbrev Triple : Type 0
Triple = List ℕ × List ℕ × List ℕ

abbrev key : Triple → List (List ℕ)
key t = t.0 ∷ t.1 ∷ t.2 ∷ []

triples_total : IsTotalOrder (on key (slice_cmp (slice_cmp nat_cmp)))
triples_total = on_total key (lists_total nat_list_cmp_total)

-- a pair, which decides a name and two modules, or a name that holds of none
least_pair : (Is : List ℕ → List ℕ → List ℕ → Type 0) (ts : List Triple) → ((t : Triple) → Told (Is t.0 t.1 t.2)) → ((name one other : List ℕ) → Is name one other → Has (name, one, other) ts)
    → ((name : List ℕ) × (one : List ℕ) × (other : List ℕ) × IsLeastPair Is name one other) ⊎ ((name one other : List ℕ) → Is name one other → ⊥)
least_pair Is ts tell there = by (least_among (on key (slice_cmp (slice_cmp nat_cmp))) triples_total (λ t. Is t.0 t.1 t.2) tell ts)
  where
    by : LeastOf (on key (slice_cmp (slice_cmp nat_cmp))) (λ t. Is t.0 t.1 t.2) ts ⊎ ((t : Triple) → Has t ts → Is t.0 t.1 t.2 → ⊥)
        → ((name : List ℕ) × (one : List ℕ) × (other : List ℕ) × IsLeastPair Is name one other) ⊎ ((name one other : List ℕ) → Is name one other → ⊥)
    by (inl l) = inl (l.item.0, l.item.1, l.item.2, record { is = l.is; least = λ n a b h below. l.least (n, a, b) (there n a b h) h below })
    by (inr none) = inr (λ name one other h. none (name, one, other) (there name one other h) h)

there_at : {X : Type 0} (xs : List X) (k : ℕ) (x : X) → slice_get xs k ≡ Some x → Has x xs
there_at [] k x e = absurd (never e)
  where
    never : None ≡ Some x → ⊥
    never e = cc
there_at (y ∷ ys) zero x e = inl (same_Some y x e)
there_at (y ∷ ys) (suc k) x e = inr (there_at ys k x e)

-- names of two items, with something of each
abbrev pairs : {X : Type 0} → (X → List ℕ) → (X → List ℕ) → List X → List Triple
pairs name of xs = flat_map (λ x. map (λ y. (name x, of x, of y)) xs) xs

in_pairs : {X : Type 0} (name of : X → List ℕ) (xs : List X) (x y : X) → Has x xs → Has y xs → Has (name x, of x, of y) (pairs name of xs)
in_pairs {X} name of xs x y h k = has_flat (λ z. map (λ y. (name z, of z, of y)) xs) x (name x, of x, of y) xs h (has_map (λ z. (name x, of x, of z)) y xs k)

told_at : (ds : List (List ℕ × List ℕ)) (k : ℕ) (name one : List ℕ) → Told (slice_get ds k ≡ Some (name, one))
told_at ds k name one = by (slice_get ds k)
  where
    pair : (d : List ℕ × List ℕ) → Told ((d.0 ≡ name) × (d.1 ≡ one)) → Told (Some d ≡ Some (name, one))
    pair d (inl h) = inl (ap (λ (n : List ℕ). Some (n, d.1)) h.0 ∙ ap (λ (m : List ℕ). Some (name, m)) h.1)
    pair d (inr lacks) = inr (λ e. let same : d ≡ (name, one) = same_Some d (name, one) e in lacks (ap (λ (p : List ℕ × List ℕ). p.0) same, ap (λ (p : List ℕ × List ℕ). p.1) same))

    never : ◌≡◌ {A = Option (List ℕ × List ℕ)} None (Some (name, one)) → ⊥
    never e = cc

    by : (o : Option (List ℕ × List ℕ)) → Told (o ≡ Some (name, one))
    by None = inr never
    by (Some d) = pair d (told_both (told_bytes d.0 name) (told_bytes d.1 one))

-- ---- the tests

-- the test of a rank
abbrev of_rank : ℕ → Test
of_rank zero = few_functions
of_rank (suc zero) = few_globals
of_rank (suc (suc zero)) = all_defined
of_rank (suc (suc (suc zero))) = defined_once
of_rank (suc (suc (suc (suc zero)))) = all_agree
of_rank (suc (suc (suc (suc (suc n))))) = has_main

ranked : (test : Test) → of_rank (rank test) ≡ test
ranked few_functions = refl
ranked few_globals = refl
ranked all_defined = refl
ranked defined_once = refl
ranked all_agree = refl
ranked has_main = refl

only : (next test : Test) → rank test ≡ rank next → test ≡ next
only next test e = sym (ranked test) ∙ ap of_rank e ∙ ranked next

module _ (modules : List Interface) where
  told_ordinary : (name : List ℕ) → Told (IsOrdinary name)
  told_ordinary name = told_not (told_bytes name start_name)

  told_undefined : (name : List ℕ) → Told (IsUndefined modules name)
  told_undefined name =
      told_same
      (λ h. record { ordinary = h.0; used = contains_by name (used_names modules) h.1.0; nowhere = λ c. h.1.1 (has_by name (defined_names modules) c) })
      (λ u. (u.ordinary, (has_by name (used_names modules) u.used, λ h. u.nowhere (contains_by name (defined_names modules) h))))
      (told_both (told_ordinary name) (told_both (stands_or_not name (used_names modules)) (told_not (stands_or_not name (defined_names modules)))))

  undefined : ((name : List ℕ) × IsLeastName (IsUndefined modules) name) ⊎ ((name : List ℕ) → IsUndefined modules name → ⊥)
  undefined = by (least_among (slice_cmp nat_cmp) nat_list_cmp_total (IsUndefined modules) told_undefined (used_names modules))
    where
      by : LeastOf (slice_cmp nat_cmp) (IsUndefined modules) (used_names modules) ⊎ ((name : List ℕ) → Has name (used_names modules) → IsUndefined modules name → ⊥)
          → ((name : List ℕ) × IsLeastName (IsUndefined modules) name) ⊎ ((name : List ℕ) → IsUndefined modules name → ⊥)
      by (inl l) = inl (l.item, record { is = l.is; least = λ other u below. l.least other (has_by other (used_names modules) u.used) u below })
      by (inr none) = inr (λ name u. none name (has_by name (used_names modules) u.used) u)

  -- the name is defined at two places
  abbrev Places : Triple → ℕ → ℕ → Type 0
  Places t place again = (place ≢ again) × ((slice_get (definitions modules) place ≡ Some (t.0, t.1)) × (slice_get (definitions modules) again ≡ Some (t.0, t.2)))

  told_places : (t : Triple) (place again : ℕ) → Told (Places t place again)
  told_places t place again = told_both (told_not (cases_eq place again)) (told_both (told_at (definitions modules) place t.0 t.1) (told_at (definitions modules) again t.0 t.2))

  told_twice : (t : Triple) → Told (IsDefinedTwice modules t.0 t.1 t.2)
  told_twice t =
      let n = length (definitions modules) in
      told_same
      (λ h. record { ordinary = h.0; place = h.1.0; again = h.1.2.0; apart = h.1.2.2.0; at_place = h.1.2.2.1.0; at_again = h.1.2.2.1.1 })
      (λ d. (d.ordinary, (d.place, slice_get_within (definitions modules) d.place (t.0, t.1) d.at_place, (d.again, slice_get_within (definitions modules) d.again (t.0, t.2) d.at_again, (d.apart, (d.at_place, d.at_again))))))
      (told_both (told_ordinary t.0) (told_below n (λ place. (again : ℕ) × (again < n) × Places t place again) (λ place. told_below n (Places t place) (told_places t place))))

  twice : ((name : List ℕ) × (one : List ℕ) × (other : List ℕ) × IsLeastPair (IsDefinedTwice modules) name one other) ⊎ ((name one other : List ℕ) → IsDefinedTwice modules name one other → ⊥)
  twice = least_pair (IsDefinedTwice modules) (pairs (λ d. d.0) (λ d. d.1) (definitions modules)) told_twice (λ name one other d.
      in_pairs (λ (p : List ℕ × List ℕ). p.0) (λ p. p.1) (definitions modules) (name, one) (name, other)
      (there_at (definitions modules) d.place (name, one) d.at_place) (there_at (definitions modules) d.again (name, other) d.at_again))

  -- a declaration of the name by a module
  abbrev Declares : List ℕ → List ℕ → Triple → Type 0
  Declares name one d = (d.0 ≡ name) × (d.1 ≡ one)

  told_declares : (name one : List ℕ) (d : Triple) → Told (Declares name one d)
  told_declares name one d = told_both (told_bytes d.0 name) (told_bytes d.1 one)

  -- another, of a shape that does not agree with it
  abbrev Disagrees : List ℕ → List ℕ → Triple → Triple → Type 0
  Disagrees name other d e = Declares name other e × (Agree d.2 e.2 → ⊥)

  abbrev Conflicts : List ℕ → List ℕ → List ℕ → Triple → Type 0
  Conflicts name one other d = Declares name one d × ((e : Triple) × Has e (declarations modules) × Disagrees name other d e)

  declared_as : (name one : List ℕ) (d : Triple) → Declares name one d → Has d (declarations modules) → Contains (declarations modules) (name, one, d.2)
  declared_as name one d is h =
      contains_by (name, one, d.2) (declarations modules) (subst (λ (m : List ℕ). Has (name, m, d.2) (declarations modules)) is.1 (subst (λ (n : List ℕ). Has (n, d.1, d.2) (declarations modules)) is.0 h))

  told_conflict : (t : Triple) → Told (IsInConflict modules t.0 t.1 t.2)
  told_conflict t =
      told_same
      (λ h. record {
        ordinary = h.0;
        shape = h.1.0.2;
        against = h.1.2.1.0.2;
        first = declared_as t.0 t.1 h.1.0 h.1.2.0 h.1.1;
        second = declared_as t.0 t.2 h.1.2.1.0 h.1.2.1.2.0 h.1.2.1.1;
        disagree = h.1.2.1.2.1;
      })
      (λ c. (
        c.ordinary,
        (
          (t.0, t.1, c.shape),
          has_by (t.0, t.1, c.shape) (declarations modules) c.first,
          ((refl, refl), ((t.0, t.2, c.against), has_by (t.0, t.2, c.against) (declarations modules) c.second, ((refl, refl), c.disagree))),
        ),
      ))
      (told_both (told_ordinary t.0) (told_some (Conflicts t.0 t.1 t.2) (declarations modules) (λ d.
      told_both (told_declares t.0 t.1 d) (told_some (Disagrees t.0 t.2 d) (declarations modules) (λ e. told_both (told_declares t.0 t.2 e) (told_not (told_agree d.2 e.2)))))))

  conflict : ((name : List ℕ) × (one : List ℕ) × (other : List ℕ) × IsLeastPair (IsInConflict modules) name one other) ⊎ ((name one other : List ℕ) → IsInConflict modules name one other → ⊥)
  conflict = least_pair (IsInConflict modules) (pairs (λ d. d.0) (λ d. d.1) (declarations modules)) told_conflict (λ name one other c.
      in_pairs (λ (d : Triple). d.0) (λ d. d.1) (declarations modules) (name, one, c.shape) (name, other, c.against)
      (has_by (name, one, c.shape) (declarations modules) c.first) (has_by (name, other, c.against) (declarations modules) c.second))

  told_main_shape : (o : Option (List ℕ)) → Told (o ≡ Some main_shape)
  told_main_shape None = inr never
    where
      never : None ≡ Some main_shape → ⊥
      never e = cc
  told_main_shape (Some shape) = told_same (λ (e : shape ≡ main_shape). ap (λ (s : List ℕ). Some s) e) (λ (e : Some shape ≡ Some main_shape). same_Some shape main_shape e) (told_bytes shape main_shape)

  told_main : Told (HasMain modules)
  told_main =
      told_same
      (λ h. record { where_it_is = h.0; stands = contains_by h.0 modules h.1; shape = h.2 })
      (λ m. (m.where_it_is, has_by m.where_it_is modules m.stands, m.shape))
      (told_some (λ (i : Interface). i.main ≡ Some main_shape) modules (λ i. told_main_shape i.main))

  -- ---- one test, and all

  -- a test passes, or it fails
  test_told : (test : Test) → Passes test modules ⊎ ((fault : LinkFault) × Fails test modules fault)
  test_told few_functions = elim (cases_lt function_limit (function_count modules)) [ inl lt ↦ inr (F.TooMany Functions (capped (function_count modules)), (lt, refl)) | inr le ↦ inl le ]
  test_told few_globals = elim (cases_lt global_limit (global_count modules)) [ inl lt ↦ inr (F.TooMany Globals (capped (global_count modules)), (lt, refl)) | inr le ↦ inl le ]
  test_told all_defined = elim undefined [ inl h ↦ inr (F.Undefined h.0, (h.0, h.1, refl)) | inr none ↦ inl none ]
  test_told defined_once = elim twice [ inl h ↦ inr (F.Duplicate h.0 h.1 h.2, (h.0, h.1, h.2, h.3, refl)) | inr none ↦ inl none ]
  test_told all_agree = elim conflict [ inl h ↦ inr (F.Conflict h.0 h.1 h.2, (h.0, h.1, h.2, h.3, refl)) | inr none ↦ inl none ]
  test_told has_main = elim told_main [ inl h ↦ inl h | inr lacks ↦ inr (F.NoMain, (lacks, refl)) ]

  -- the tests below a rank are passed, or one of them is the first that fails
  abbrev PassedBelow : ℕ → Type 0
  PassedBelow n = (test : Test) → rank test < n → Passes test modules

  one_more : (n : ℕ) (next : Test) → rank next ≡ n → ((test : Test) → rank test ≡ n → test ≡ next) → PassedBelow n ⊎ ((fault : LinkFault) × Refusal modules fault) → PassedBelow (suc n) ⊎ ((fault : LinkFault) × Refusal modules fault)
  one_more n next is only (inr refused) = inr refused
  one_more n next is only (inl passed) = elim (test_told next) [
    | inl h ↦ inl (λ test lt. elim (cases_eq (rank test) n) [
      | inl e ↦ subst (λ (t : Test). Passes t modules) (sym (only test e)) h
      | inr other ↦ passed test (omega (arith, lt, other))
    ])
    | inr f ↦ inr (f.0, record { failed = next; fails = f.1; earlier = λ test lt. passed test (subst (λ (m : ℕ). rank test < m) is lt) })
  ]

  rank_below : (test : Test) → rank test < 6
  rank_below few_functions = omega arith
  rank_below few_globals = omega arith
  rank_below all_defined = omega arith
  rank_below defined_once = omega arith
  rank_below all_agree = omega arith
  rank_below has_main = omega arith

  pub links_or_refused : Links modules ⊎ ((fault : LinkFault) × Refusal modules fault)
  links_or_refused =
      let first : PassedBelow 0 ⊎ ((fault : LinkFault) × Refusal modules fault) = inl (λ test lt. absurd (omega (arith, lt))) in
      let one = one_more 0 few_functions refl (only few_functions) first in
      let two = one_more 1 few_globals refl (only few_globals) one in
      let three = one_more 2 all_defined refl (only all_defined) two in
      let four = one_more 3 defined_once refl (only defined_once) three in
      let five = one_more 4 all_agree refl (only all_agree) four in
      let six = one_more 5 has_main refl (only has_main) five in
      elim six [ inl passed ↦ inl (λ test. passed test (rank_below test)) | inr refused ↦ inr refused ]
