-- The lists that are made of summaries are the call graph of their program.
use Rattle.std.proofs.Common.{◌≡◌, ◌⊎◌, ℕ, zero, suc, ◌+◌, Bool, true, false, ◌||◌, List, [], ◌∷◌, map, refl, sym, ap, subst, ◌∙◌, arith, inl, inr}
use Rattle.std.specs.Prelude.{Option, Some, None, slice_get, if◌then◌else◌}
use Rattle.std.specs.List.{flat_map}
use Rattle.std.proofs.lemmas.Option.{same_Some}
use Rattle.pw_value.specs.declared.value.Kind.{Kind}
use Rattle.pw_fields.specs.FieldNames.{is_among, IsTableOf}
use Rattle.pw_fields.proofs.NameLaws.{among_contains, contains_among}
use Rattle.pw_files.proofs.Standing.{Has, has_by, contains_by, has_left, has_right, has_split, has_flat, has_flat_back}
use Rattle.pw_summary.specs.declared.summary.Summary.{Summary}
use Rattle.pw_summary.specs.declared.summary.Uses.{Uses}
use Rattle.pw_link_rules.specs.Linking.{library_declarations}
use Rattle.pw_graph.specs.Program.{functions_of, IsUseOf, IsTaken, IsEscaped, IsEligible}
use Rattle.pw_graph.specs.Making.{homes_in, module_homes, all_homes, all_taken, all_escaped, with_kind, eligible_one, eligible_in, all_eligible, targets_from}
use Rattle.pw_graph.proofs.Lists.{has_at, has_filtered, has_filtered_back}

abbrev pub Entry : Type 0
Entry = List ℕ × List ℕ × Option Uses

-- ---- functions with what they use

record HomeAt (fs : List (List ℕ × List ℕ)) (us : List Uses) (e : Entry) : Type 0 where
  place : ℕ
  function : slice_get fs place ≡ Some (e.0, e.1)
  uses : slice_get us place ≡ e.2

home_back : (fs : List (List ℕ × List ℕ)) (us : List Uses) (e : Entry) → Has e (homes_in fs us) → HomeAt fs us e
home_back [] us e h = absurd h
home_back (f ∷ fs) [] e (inl same) = record { place = 0; function = ap (λ (x : Entry). Some (x.0, x.1)) same; uses = ap (λ (x : Entry). x.2) same }
home_back (f ∷ fs) [] e (inr h) = let r = home_back fs [] e h in record { place = suc r.place; function = r.function; uses = r.uses }
home_back (f ∷ fs) (u ∷ us) e (inl same) = record { place = 0; function = ap (λ (x : Entry). Some (x.0, x.1)) same; uses = ap (λ (x : Entry). x.2) same }
home_back (f ∷ fs) (u ∷ us) e (inr h) = let r = home_back fs us e h in record { place = suc r.place; function = r.function; uses = r.uses }

home_there : (fs : List (List ℕ × List ℕ)) (us : List Uses) (k : ℕ) (name shape : List ℕ) (u : Uses) → slice_get fs k ≡ Some (name, shape) → slice_get us k ≡ Some u → Has (name, shape, Some u) (homes_in fs us)
home_there [] us k name shape u one two = absurd cc
home_there (f ∷ fs) [] k name shape u one two = absurd cc
home_there (f ∷ fs) (v ∷ us) zero name shape u one two =
    let e : f ≡ (name, shape) = same_Some f (name, shape) one in
    let d : v ≡ u = same_Some v u two in
    inl (ap (λ (p : List ℕ × List ℕ). (p.0, p.1, Some v)) e ∙ ap (λ (w : Uses). (name, shape, Some w)) d)
home_there (f ∷ fs) (v ∷ us) (suc k) name shape u one two = inr (home_there fs us k name shape u one two)

home_function : (fs : List (List ℕ × List ℕ)) (us : List Uses) (e : Entry) → Has e (homes_in fs us) → Has (e.0, e.1) fs
home_function fs us e h = let r = home_back fs us e h in has_at fs r.place (e.0, e.1) r.function

function_home : (fs : List (List ℕ × List ℕ)) (us : List Uses) (f : List ℕ × List ℕ) → Has f fs → (o : Option Uses) × Has (f.0, f.1, o) (homes_in fs us)
function_home [] us f h = absurd h
function_home (g ∷ fs) [] f (inl same) = (None, inl (ap (λ (p : List ℕ × List ℕ). (p.0, p.1, None)) same))
function_home (g ∷ fs) [] f (inr h) = let r = function_home fs [] f h in (r.0, inr r.1)
function_home (g ∷ fs) (u ∷ us) f (inl same) = (Some u, inl (ap (λ (p : List ℕ × List ℕ). (p.0, p.1, Some u)) same))
function_home (g ∷ fs) (u ∷ us) f (inr h) = let r = function_home fs us f h in (r.0, inr r.1)

-- ---- of all modules

library_home : (e : Entry) (u : Uses) → Has e (homes_in library_declarations []) → e.2 ≡ Some u → ⊥
library_home e u h same = let r = home_back library_declarations [] e h in let lacks : None ≡ Some u = r.uses ∙ same in cc

pub use_forth : (ss : List Summary) (e : Entry) (u : Uses) → Has e (all_homes ss) → e.2 ≡ Some u → IsUseOf ss e.0 u
use_forth ss e u h same = elim (has_split e (homes_in library_declarations []) (flat_map module_homes ss) h) [
  | inl k ↦ absurd (library_home e u k same)
  | inr k ↦
      let p = has_flat_back module_homes e ss k in
      let r = home_back p.0.functions p.0.uses e p.2 in
      record { summary = p.0; stands = contains_by p.0 ss p.1; place = r.place; shape = e.1; at = r.function; uses = r.uses ∙ same }
]

pub use_back : (ss : List Summary) (f : List ℕ) (u : Uses) (of : IsUseOf ss f u) → Has (f, of.shape, Some u) (all_homes ss)
use_back ss f u of =
    has_right (f, of.shape, Some u) (homes_in library_declarations []) (flat_map module_homes ss)
    (has_flat module_homes of.summary (f, of.shape, Some u) ss (has_by of.summary ss of.stands) (home_there of.summary.functions of.summary.uses of.place f of.shape u of.at of.uses))

pub functions_forth : (ss : List Summary) (e : Entry) → Has e (all_homes ss) → Has (e.0, e.1) (functions_of ss)
functions_forth ss e h = elim (has_split e (homes_in library_declarations []) (flat_map module_homes ss) h) [
  | inl k ↦ has_left (e.0, e.1) library_declarations (flat_map (λ s. s.functions) ss) (home_function library_declarations [] e k)
  | inr k ↦
      let p = has_flat_back module_homes e ss k in
      has_right (e.0, e.1) library_declarations (flat_map (λ s. s.functions) ss) (has_flat (λ s. s.functions) p.0 (e.0, e.1) ss p.1 (home_function p.0.functions p.0.uses e p.2))
]

pub functions_back : (ss : List Summary) (f : List ℕ × List ℕ) → Has f (functions_of ss) → (o : Option Uses) × Has (f.0, f.1, o) (all_homes ss)
functions_back ss f h = elim (has_split f library_declarations (flat_map (λ s. s.functions) ss) h) [
  | inl k ↦ let r = function_home library_declarations [] f k in (r.0, has_left (f.0, f.1, r.0) (homes_in library_declarations []) (flat_map module_homes ss) r.1)
  | inr k ↦
      let p = has_flat_back (λ s. s.functions) f ss k in
      let r = function_home p.0.functions p.0.uses f p.2 in
      (r.0, has_right (f.0, f.1, r.0) (homes_in library_declarations []) (flat_map module_homes ss) (has_flat module_homes p.0 (f.0, f.1, r.0) ss p.1 r.1))
]

-- ---- addresses that are taken

pub among_taken : (ss : List Summary) (taken : List (List ℕ)) → IsTableOf taken (all_taken ss) → (name : List ℕ) → IsTaken ss name → is_among taken name ≡ true
among_taken ss taken table name t =
    let all = has_flat (λ s. map (λ f. f.0) s.taken) t.summary name ss (has_by t.summary ss t.stands) (has_by name (map (λ f. f.0) t.summary.taken) t.taken) in
    let c = (table.of name).1 (contains_by name (all_taken ss) all) in
    contains_among taken name c.0 c.1 c.2

pub taken_among : (ss : List Summary) (taken : List (List ℕ)) → IsTableOf taken (all_taken ss) → (name : List ℕ) → is_among taken name ≡ true → IsTaken ss name
taken_among ss taken table name on =
    let c = (table.of name).0 (among_contains taken name on) in
    let p = has_flat_back (λ s. map (λ f. f.0) s.taken) name ss (has_by name (all_taken ss) c) in
    record { summary = p.0; stands = contains_by p.0 ss p.1; taken = contains_by name (map (λ f. f.0) p.0.taken) p.2 }

pub among_escaped : (ss : List Summary) (escaped : List (List ℕ)) → IsTableOf escaped (all_escaped ss) → (name : List ℕ) → IsEscaped ss name → is_among escaped name ≡ true
among_escaped ss escaped table name t =
    let all = has_flat (λ s. s.escaped) t.summary name ss (has_by t.summary ss t.stands) (has_by name t.summary.escaped t.escaped) in
    let c = (table.of name).1 (contains_by name (all_escaped ss) all) in
    contains_among escaped name c.0 c.1 c.2

pub escaped_among : (ss : List Summary) (escaped : List (List ℕ)) → IsTableOf escaped (all_escaped ss) → (name : List ℕ) → is_among escaped name ≡ true → IsEscaped ss name
escaped_among ss escaped table name on =
    let c = (table.of name).0 (among_contains escaped name on) in
    let p = has_flat_back (λ s. s.escaped) name ss (has_by name (all_escaped ss) c) in
    record { summary = p.0; stands = contains_by p.0 ss p.1; escaped = contains_by name p.0.escaped p.2 }

-- ---- eligible globals

either : (a b c : Bool) → (a || b || c) ≡ false → (a ≡ false) × (b ≡ false) × (c ≡ false)
either true b c e = absurd cc
either false true c e = absurd cc
either false false true e = absurd cc
either false false false e = (refl, refl, refl)

neither : (a b c : Bool) → a ≡ false → b ≡ false → c ≡ false → (a || b || c) ≡ false
neither true b c x y z = absurd cc
neither false true c x y z = absurd cc
neither false false true x y z = absurd cc
neither false false false x y z = refl

kind_back : (barred : Bool) (name : List ℕ) (kind : Option Kind) (v : List ℕ × Kind) → with_kind barred name kind ≡ Some v → (barred ≡ false) × (name ≡ v.0) × (kind ≡ Some v.1)
kind_back barred name None v e = absurd cc
kind_back true name (Some k) v e = absurd cc
kind_back false name (Some k) v e = let same : (name, k) ≡ v = same_Some (name, k) v e in (refl, ap (λ (p : List ℕ × Kind). p.0) same, ap (λ (p : List ℕ × Kind). Some p.1) same)

off : (b : Bool) → (b ≡ true → ⊥) → b ≡ false
off true h = absurd (h refl)
off false h = refl

not_both : (b : Bool) → b ≡ false → b ≡ true → ⊥
not_both true x y = cc
not_both false x y = cc

module _ (ss : List Summary) (taken escaped : List (List ℕ)) (of_taken : IsTableOf taken (all_taken ss)) (of_escaped : IsTableOf escaped (all_escaped ss)) where
  pub eligible_forth : (v : List ℕ) (kind : Kind) → Has (v, kind) (all_eligible taken escaped ss) → IsEligible ss v kind
  eligible_forth v kind h =
      let p = has_flat_back (λ s. eligible_in taken escaped s.globals) (v, kind) ss h in
      let q = has_filtered_back (eligible_one taken escaped) p.0.globals (v, kind) p.2 in
      let g = q.0 in
      let k = kind_back (g.3 || is_among taken g.0 || is_among escaped g.0) g.0 g.2 (v, kind) q.2 in
      let b = either g.3 (is_among taken g.0) (is_among escaped g.0) k.0 in
      let same : g ≡ (v, g.1, Some kind, false) =
      ap (λ (n : List ℕ). (n, g.1, g.2, g.3)) k.1 ∙ ap (λ (o : Option Kind). (v, g.1, o, g.3)) k.2 ∙ ap (λ (t : Bool). (v, g.1, Some kind, t)) b.0 in
      record {
        summary = p.0;
        stands = contains_by p.0 ss p.1;
        shape = g.1;
        defined = contains_by (v, g.1, Some kind, false) p.0.globals (subst (λ (x : List ℕ × List ℕ × Option Kind × Bool). Has x p.0.globals) same q.1);
        kept = λ e. not_both (is_among escaped v) (subst (λ (n : List ℕ). is_among escaped n ≡ false) k.1 b.2) (among_escaped ss escaped of_escaped v e);
        no_function = λ t. not_both (is_among taken v) (subst (λ (n : List ℕ). is_among taken n ≡ false) k.1 b.1) (among_taken ss taken of_taken v t);
      }

  pub eligible_back : (v : List ℕ) (kind : Kind) → IsEligible ss v kind → Has (v, kind) (all_eligible taken escaped ss)
  eligible_back v kind e =
      let t = off (is_among taken v) (λ on. e.no_function (taken_among ss taken of_taken v on)) in
      let x = off (is_among escaped v) (λ on. e.kept (escaped_among ss escaped of_escaped v on)) in
      let barred = neither false (is_among taken v) (is_among escaped v) refl t x in
      let one : eligible_one taken escaped (v, e.shape, Some kind, false) ≡ Some (v, kind) = ap (λ (b : Bool). with_kind b v (Some kind)) barred in
      has_flat (λ s. eligible_in taken escaped s.globals) e.summary (v, kind) ss (has_by e.summary ss e.stands)
      (has_filtered (eligible_one taken escaped) e.summary.globals (v, e.shape, Some kind, false) (v, kind) (has_by (v, e.shape, Some kind, false) e.summary.globals e.defined) one)

-- ---- targets

pub record TargetAt (taken : List (List ℕ)) (n : ℕ) (hs : List Entry) (t : List ℕ × ℕ) : Type 0 where
  pub place : ℕ
  pub entry : Entry
  pub counted : t.1 ≡ n + place
  pub at : slice_get hs place ≡ Some entry
  pub shape : entry.1 ≡ t.0
  pub taken_there : is_among taken entry.0 ≡ true

if_has : {X : Type 0} (b : Bool) (x y : X) (ys : List X) → Has y (if b then (x ∷ ys) else ys) → ((b ≡ true) × (x ≡ y)) ⊎ Has y ys
if_has true x y ys (inl e) = inl (refl, e)
if_has true x y ys (inr h) = inr h
if_has false x y ys h = inr h

has_if : {X : Type 0} (b : Bool) (x y : X) (ys : List X) → ((b ≡ true) × (x ≡ y)) ⊎ Has y ys → Has y (if b then (x ∷ ys) else ys)
has_if true x y ys (inl e) = inl e.1
has_if false x y ys (inl e) = absurd (not_both false refl e.0)
has_if true x y ys (inr h) = inr h
has_if false x y ys (inr h) = h

pub target_back : (taken : List (List ℕ)) (n : ℕ) (hs : List Entry) (t : List ℕ × ℕ) → Has t (targets_from taken n hs) → TargetAt taken n hs t
target_back taken n [] t h = absurd h
target_back taken n (e ∷ hs) t h = elim (if_has (is_among taken e.0) (e.1, n) t (targets_from taken (suc n) hs) h) [
  | inl k ↦ record { place = 0; entry = e; counted = let c : n ≡ t.1 = ap (λ (p : List ℕ × ℕ). p.1) k.1 in omega arith; at = refl; shape = ap (λ (p : List ℕ × ℕ). p.0) k.1; taken_there = k.0 }
  | inr k ↦ let r = target_back taken (suc n) hs t k in record { place = suc r.place; entry = r.entry; counted = omega (arith, r.counted); at = r.at; shape = r.shape; taken_there = r.taken_there }
]

pub target_there : (taken : List (List ℕ)) (n : ℕ) (hs : List Entry) (k : ℕ) (e : Entry) → slice_get hs k ≡ Some e → is_among taken e.0 ≡ true → Has (e.1, n + k) (targets_from taken n hs)
target_there taken n [] k e at on = absurd cc
target_there taken n (x ∷ hs) zero e at on =
    let same : x ≡ e = same_Some x e at in
    let place : n ≡ n + 0 = omega arith in
    has_if (is_among taken x.0) (x.1, n) (e.1, n + 0) (targets_from taken (suc n) hs) (inl (subst (λ (y : Entry). is_among taken y.0 ≡ true) (sym same) on, ap (λ (y : Entry). (y.1, n)) same ∙ ap (λ m. (e.1, m)) place))
target_there taken n (x ∷ hs) (suc k) e at on =
    let place : suc n + k ≡ n + suc k = omega arith in
    has_if (is_among taken x.0) (x.1, n) (e.1, n + suc k) (targets_from taken (suc n) hs) (inr (subst (λ m. Has (e.1, m) (targets_from taken (suc n) hs)) place (target_there taken (suc n) hs k e at on)))

pub shape_if : (b : Bool) (p i : ℕ) → (if b then Some p else None) ≡ Some i → (b ≡ true) × (p ≡ i)
shape_if true p i e = (refl, same_Some p i e)
shape_if false p i e = absurd cc

pub map_id : (xs : List (List ℕ)) → map (λ x. x) xs ≡ xs
map_id [] = refl
map_id (x ∷ xs) = ap (λ (ys : List (List ℕ)). x ∷ ys) (map_id xs)
