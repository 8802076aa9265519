-- How the lists of a call graph are made: functions with what they use, eligible globals, what each function calls and
-- refers to, by places, and what it needs.
use Rattle.std.specs.Prelude.{ℕ, suc, ◌≡◌, ◌↔◌, ◌||◌, nat_lt, Bool, true, false, Option, Some, None, option_map, List, [], ◌∷◌, ◌++◌, length, map, Contains, if◌then◌else◌}
use Rattle.std.specs.List.{flat_map, filter_map}
use Rattle.std.specs.List.Sorted.{IsStrictlyIncreasing}
use Rattle.std.specs.Str.{bytes_eq}
use Rattle.pw_value.specs.declared.value.Kind.{Kind}
use Rattle.pw_fields.specs.FieldNames.{is_among, place_of, IsTableOf}
use Rattle.pw_files.specs.Rising.{IsRising}
use Rattle.pw_summary.specs.declared.summary.Summary.{Summary}
use Rattle.pw_summary.specs.declared.summary.Uses.{Uses}
use Rattle.pw_link_rules.specs.Linking.{library_declarations}
use Rattle.pw_graph.specs.declared.homes.Home.{Home}
use Rattle.pw_graph.specs.declared.eligible.Scalar.{Scalar}
use Rattle.pw_graph.specs.declared.calls.Target.{Target}

-- the items of a list in byte order of their keys
abbrev pub IsOrdered : {X : Type 0} → (X → List ℕ) → List X → List X → Type 0
IsOrdered {X} key xs ordered = IsRising (map key ordered) × ((x : X) → Contains ordered x ↔ Contains xs x)

-- ---- functions

-- a function: its name, its shape, and what it uses
abbrev pub Entry : Type 0
Entry = List ℕ × List ℕ × Option Uses

abbrev pub home : Home → List ℕ × List ℕ × Option Uses
home h = (h.name.now, h.shape.now, option_map (λ u. u.now) h.uses)

-- functions with what they use, in the same order
abbrev pub homes_in : List (List ℕ × List ℕ) → List Uses → List (List ℕ × List ℕ × Option Uses)
homes_in [] us = []
homes_in (f ∷ fs) [] = (f.0, f.1, None) ∷ homes_in fs []
homes_in (f ∷ fs) (u ∷ us) = (f.0, f.1, Some u) ∷ homes_in fs us

abbrev pub module_homes : Summary → List (List ℕ × List ℕ × Option Uses)
module_homes s = homes_in s.functions s.uses

-- those of the library and of all modules
abbrev pub all_homes : List Summary → List (List ℕ × List ℕ × Option Uses)
all_homes ss = homes_in library_declarations [] ++ flat_map module_homes ss

-- ---- globals

abbrev pub scalar : Scalar → List ℕ × Kind
scalar s = (s.name.now, s.kind)

abbrev pub all_taken : List Summary → List (List ℕ)
all_taken ss = flat_map (λ s. map (λ f. f.0) s.taken) ss

abbrev pub all_escaped : List Summary → List (List ℕ)
all_escaped ss = flat_map (λ s. s.escaped) ss

abbrev pub unless : {X : Type 0} → Bool → X → Option X
unless true x = None
unless false x = Some x

abbrev pub with_kind : Bool → List ℕ → Option Kind → Option (List ℕ × Kind)
with_kind barred name None = None
with_kind barred name (Some kind) = unless barred (name, kind)

-- a global, where it is eligible
abbrev pub eligible_one : List (List ℕ) → List (List ℕ) → List ℕ × List ℕ × Option Kind × Bool → Option (List ℕ × Kind)
eligible_one taken escaped g = with_kind (g.3 || is_among taken g.0 || is_among escaped g.0) g.0 g.2

abbrev pub eligible_in : List (List ℕ) → List (List ℕ) → List (List ℕ × List ℕ × Option Kind × Bool) → List (List ℕ × Kind)
eligible_in taken escaped globals = filter_map (eligible_one taken escaped) globals

abbrev pub all_eligible : List (List ℕ) → List (List ℕ) → List Summary → List (List ℕ × Kind)
all_eligible taken escaped ss = flat_map (λ s. eligible_in taken escaped s.globals) ss

-- ---- calls

-- the place of a name, where it stands in the list
abbrev pub place_in : List (List ℕ) → List ℕ → Option ℕ
place_in names name = if nat_lt (place_of names name) (length names) then Some (place_of names name) else None

abbrev pub target : Target → List ℕ × ℕ
target t = (t.shape.now, t.place)

-- the functions whose address is taken, by shape and place, counted from here on
abbrev pub targets_from : List (List ℕ) → ℕ → List (List ℕ × List ℕ × Option Uses) → List (List ℕ × ℕ)
targets_from taken n [] = []
targets_from taken n (h ∷ hs) = if is_among taken h.0 then ((h.1, n) ∷ targets_from taken (suc n) hs) else targets_from taken (suc n) hs

-- the places of the functions of a shape
abbrev pub place_if : List ℕ → List ℕ × ℕ → Option ℕ
place_if shape t = if bytes_eq t.0 shape then Some t.1 else None

abbrev pub of_shape : List (List ℕ × ℕ) → List ℕ → List ℕ
of_shape targets shape = filter_map (place_if shape) targets

-- the places of what a function calls
abbrev pub callees : List (List ℕ) → List (List ℕ × ℕ) → Option Uses → List ℕ
callees names targets None = []
callees names targets (Some u) = filter_map (place_in names) u.calls ++ flat_map (of_shape targets) u.shapes

abbrev pub IsCallRow : List (List ℕ) → List (List ℕ × ℕ) → List ℕ × List ℕ × Option Uses → List ℕ → Type 0
IsCallRow names targets h row = IsStrictlyIncreasing row × ((b : ℕ) → Contains row b ↔ Contains (callees names targets h.2) b)

-- ---- references

abbrev pub with_weights : List ℕ × ℕ × ℕ → ℕ → ℕ × ℕ × ℕ
with_weights r place = (place, r.1, r.2)

abbrev pub placed : List (List ℕ) → List ℕ × ℕ × ℕ → Option (ℕ × ℕ × ℕ)
placed globals r = option_map (with_weights r) (place_in globals r.0)

abbrev pub ref_row : List (List ℕ) → Option Uses → List (ℕ × ℕ × ℕ)
ref_row globals None = []
ref_row globals (Some u) = filter_map (placed globals) u.refs

-- what each function refers to, by the places of eligible globals
pub record HasRefs (scalars : List (List ℕ × Kind)) (homes : List (List ℕ × List ℕ × Option Uses)) (refs : List (List (ℕ × ℕ × ℕ))) : Type 0 where
  pub globals : List (List ℕ)
  pub table : IsTableOf globals (map (λ v. v.0) scalars)
  pub rows : refs ≡ map (λ h. ref_row globals h.2) homes

-- ---- needs

abbrev pub need_of : Option Uses → ℕ
need_of None = 0
need_of (Some u) = u.need
