-- Who declares a name in a program, and that all agree.
use Rattle.std.proofs.Common.{◌≡◌, ◌⊎◌, ℕ, List, map, refl, sym, ap, subst, ◌∙◌, inl, inr}
use Rattle.std.specs.Prelude.{Contains, Option, Some}
use Rattle.std.specs.List.{flat_map}
use Rattle.pw_value.specs.Shapes.{Agree}
use Rattle.pw_flow.specs.declared.flow.FlowModule.{FlowModule}
use Rattle.pw_files.proofs.Standing.{Has, has_by, contains_by, has_split, has_map_back, has_flat_back}
use Rattle.pw_link_rules.specs.declared.interface.Interface.{Interface}
use Rattle.pw_link_rules.specs.Linking.{library, library_declarations, declared_in, declarations, IsInConflict}
use Rattle.pw_run_languages.specs.Programs.{Program, Library, Exit, GetChar, PutChar, library_at, library_shape}
use Rattle.pw_law_source.specs.Lowering.{DeclareAlike}
use Rattle.pw_law_build.specs.Alike.{shown}

-- ---- the library's functions

pub record IsLibrary (name shape : List ℕ) : Type 0 where
  pub function : Library
  pub at : library_at name ≡ Some function
  pub has : library_shape function ≡ shape

in_library : (d : List ℕ × List ℕ) → Has d library_declarations → IsLibrary d.0 d.1
in_library d (inl e) = subst (λ (x : List ℕ × List ℕ). IsLibrary x.0 x.1) e (record { function = Exit; at = refl; has = refl })
in_library d (inr (inl e)) = subst (λ (x : List ℕ × List ℕ). IsLibrary x.0 x.1) e (record { function = GetChar; at = refl; has = refl })
in_library d (inr (inr (inl e))) = subst (λ (x : List ℕ × List ℕ). IsLibrary x.0 x.1) e (record { function = PutChar; at = refl; has = refl })
in_library d (inr (inr (inr h))) = absurd h

-- ---- who declares

pub record IsOfModule (flows : List FlowModule) (name shape : List ℕ) : Type 0 where
  pub flow : FlowModule
  pub there : Has flow flows
  pub declared : Has (name, shape) flow.declared

-- a declaration without the module's name
abbrev plain : List ℕ × List ℕ × List ℕ → List ℕ × List ℕ
plain x = (x.0, x.2)

declarer : (flows : List FlowModule) (name home shape : List ℕ) → Contains (declarations (map shown flows)) (name, home, shape) → IsLibrary name shape ⊎ IsOfModule flows name shape
declarer flows name home shape c =
    let x : List ℕ × List ℕ × List ℕ = (name, home, shape) in
    elim (has_split x (declared_in library) (flat_map declared_in (map shown flows)) (has_by x (declarations (map shown flows)) c)) [
      | inl k ↦
          let d = has_map_back (λ (d : List ℕ × List ℕ). (d.0, library.module, d.1)) x library_declarations k in
          inl (subst (λ (y : List ℕ × List ℕ). IsLibrary y.0 y.1) (ap plain d.2) (in_library d.0 d.1))
      | inr k ↦
          let i = has_flat_back declared_in x (map shown flows) k in
          let m = has_map_back shown i.0 flows i.1 in
          let own : Has x (declared_in (shown m.0)) = subst (λ (j : Interface). Has x (declared_in j)) (sym m.2) i.2 in
          let d = has_map_back (λ (d : List ℕ × List ℕ). (d.0, m.0.name, d.1)) x m.0.declared own in
          inr (record { flow = m.0; there = m.1; declared = subst (λ (y : List ℕ × List ℕ). Has y m.0.declared) (ap plain d.2) d.1 })
    ]

-- ---- all agree

flipped : (s t : List ℕ) → Agree s t → Agree t s
flipped s t (inl e) = inl (sym e)
flipped s t (inr (inl g)) = inr (inr g)
flipped s t (inr (inr g)) = inr (inl g)

same_some : (a b : Library) → ◌≡◌ {A = Option Library} (Some a) (Some b) → a ≡ b
same_some a b e = cc

module _ (q : Program) (alike : DeclareAlike q) where
  with_library : (name s t : List ℕ) → IsOfModule q.modules name s → IsLibrary name t → Agree s t
  with_library name s t m l =
      subst (Agree s) l.has (alike.library m.flow l.function name s (contains_by m.flow q.modules m.there) (contains_by (name, s) m.flow.declared m.declared) l.at)

  agree : (name s t : List ℕ) → IsLibrary name s ⊎ IsOfModule q.modules name s → IsLibrary name t ⊎ IsOfModule q.modules name t → Agree s t
  agree name s t (inl a) (inl b) = inl (sym a.has ∙ ap library_shape (same_some a.function b.function (sym a.at ∙ b.at)) ∙ b.has)
  agree name s t (inl a) (inr m) = flipped t s (with_library name t s m a)
  agree name s t (inr m) (inl b) = with_library name s t m b
  agree name s t (inr m) (inr n) =
      alike.declared m.flow n.flow name s t (contains_by m.flow q.modules m.there) (contains_by n.flow q.modules n.there) (contains_by (name, s) m.flow.declared m.declared) (contains_by (name, t) n.flow.declared n.declared)

  pub no_conflict : (name one other : List ℕ) → IsInConflict (map shown q.modules) name one other → ⊥
  no_conflict name one other c =
      c.disagree (agree name c.shape c.against (declarer q.modules name one c.shape c.first) (declarer q.modules name other c.against c.second))
