-- A register that a callee keeps and that a function may not change: it is saved, or the function has no use for it.
use Rattle.std.proofs.Common.{◌≡◌, ◌≢◌, ◌⊎◌, ℕ, ℤ, Bool, true, false, if◌then◌else◌, List, [], ◌∷◌, map, refl, sym, ap, subst, ◌∙◌, inl, inr}
use Rattle.std.specs.Prelude.{Contains}
use Rattle.std.specs.Str.{bytes_eq}
use Rattle.std.proofs.lemmas.Bool.{cases_eq}
use Rattle.std.proofs.lemmas.Slice.Eq.{bytes_eq-Decides}
use Rattle.pw_files.proofs.Standing.{Has, has_by, contains_by, has_map_back}
use Rattle.pw_db.specs.Database.{empty}
use Rattle.pw_db.specs.declared.database.Web.{Web}
use Rattle.pw_db.specs.declared.database.Role.{Role}
use Rattle.pw_db.specs.declared.database.Role.TheVariants.{Entry, Member}
use Rattle.pw_db.specs.declared.database.Directives.{Directives}
use Rattle.pw_flow.specs.declared.flow.FlowFn.{FlowFn}
use Rattle.pw_webflow.specs.declared.web.WebFn.{WebFn}
use Rattle.pw_webflow.specs.Direction.{directed}
use Rattle.pw_alloc.specs.declared.located.Place.{Place}
use Rattle.pw_alloc.specs.declared.located.Place.TheVariants.{Slot, Reg}
use Rattle.pw_alloc.specs.declared.located.Located.{Located}
use Rattle.pw_run_languages.specs.Traces.{MayChange}
use Rattle.pw_run_languages.specs.Traces as traces
use Rattle.pw_run_languages.specs.Direction.{directives_of, directed_by}
use Rattle.pw_run_languages.specs.Serving.{Serves}
use Rattle.pw_run_languages.specs.Serving as serving
use Rattle.pw_law_select_states.specs.Passes.{IsNoneOf}
use Rattle.pw_law_select_kept.specs.Keeping.{IsKept, KeptRegistersAreSaved}

-- ---- whether a list has a register

pub has_or_not : (r : ℕ) (xs : List ℕ) → Has r xs ⊎ (¬ Has r xs)
has_or_not r [] = inr (λ h. h)
has_or_not r (y ∷ ys) = elim (cases_eq y r) [
  | inl e ↦ inl (inl e)
  | inr ne ↦ elim (has_or_not r ys) [
    | inl h ↦ inl (inr h)
    | inr lacks ↦ inr (λ h. elim h [ inl e ↦ ne e | inr k ↦ lacks k ])
  ]
]

abbrev register_of : Place → ℕ
register_of (Reg r) = r
register_of (Slot offset) = 0

no_slot : (offset : ℤ) (r : ℕ) → Slot offset ≡ Reg r → ⊥
no_slot offset r e = cc

has_place : (r : ℕ) (places : List Place) → Has (Reg r) places ⊎ (¬ Has (Reg r) places)
has_place r [] = inr (λ h. h)
has_place r (Slot offset ∷ rest) = elim (has_place r rest) [
  | inl h ↦ inl (inr h)
  | inr lacks ↦ inr (λ h. elim h [ inl e ↦ no_slot offset r e | inr k ↦ lacks k ])
]
has_place r (Reg q ∷ rest) = elim (cases_eq q r) [
  | inl e ↦ inl (inl (ap Reg e))
  | inr ne ↦ elim (has_place r rest) [
    | inl h ↦ inl (inr h)
    | inr lacks ↦ inr (λ h. elim h [ inl e ↦ ne (ap register_of e) | inr k ↦ lacks k ])
  ]
]

-- ---- directives

-- what holds of a function's directives, and not of empty ones, holds of some that the database has
abbrev Found : (P : Directives → Type 0) → List (List ℕ × Directives) → List ℕ → Type 0
Found P d f = (x : Directives) × Has {X = List ℕ × Directives} (f, x) d × P x

there_by : (P : Directives → Type 0) (g : List ℕ × Directives) (rest : List (List ℕ × Directives)) (f : List ℕ) (b : Bool) → bytes_eq g.0 f ≡ b
    → (P (directives_of rest f) → Found P rest f) → P (if b then g.1 else directives_of rest f) → Found P (g ∷ rest) f
there_by P g rest f true e later h = (g.1, inl (ap (λ (n : List ℕ). (n, g.1)) ((bytes_eq-Decides g.0 f).0 e)), h)
there_by P g rest f false e later h = let r = later h in (r.0, inr r.1, r.2)

there : (P : Directives → Type 0) → ¬ P empty → (d : List (List ℕ × Directives)) (f : List ℕ) → P (directives_of d f) → Found P d f
there P none [] f h = absurd (none h)
there P none (g ∷ rest) f h = there_by P g rest f (bytes_eq g.0 f) refl (there P none rest f) h

own : (d : List (List ℕ × Directives)) (f : FlowFn) → (directed_by d f).directives ≡ directives_of d f.name
unfolding directed
own d f = refl

module _ (d : List (List ℕ × Directives)) (f : FlowFn) (l : Located) (r : ℕ) (serve : Serves (directed_by d f) l) (kept : IsKept r) (may : ¬ MayChange d f.name r) where
  not_free : ¬ Contains (directed_by d f).directives.free r
  not_free c =
      let x = there (λ (x : Directives). Has r x.free) (λ h. h) d f.name (has_by r (directives_of d f.name).free (subst (λ (x : Directives). Contains x.free r) (own d f) c)) in
      may (traces.free x.0 (contains_by (f.name, x.0) d x.1) (contains_by r x.0.free x.2))

  by_role : (w : Web) (role : Role) → Has {X = Web × Role} (w, role) (directives_of d f.name).webs → w.reg ≡ r → Contains l.saved r
  by_role w Entry has is = (serve.saved r).1 (serving.enters (record {
    web = w;
    there = subst (λ (x : Directives). Contains x.webs (w, Entry)) (sym (own d f)) (contains_by (w, Entry) (directives_of d f.name).webs has);
    is = is;
  }))
  by_role w Member has is =
      let x = there (λ (x : Directives). Has {X = Web × Role} (w, Member) x.webs) (λ h. h) d f.name has in
      absurd (may (traces.member (record {
        web = w;
        has = record { directives = x.0; there = contains_by (f.name, x.0) d x.1; web = contains_by (w, Member) x.0.webs x.2 };
        is = is;
      })))

  same_directives : l.body.directives ≡ directives_of d f.name
  same_directives = ap (λ (b : WebFn). b.directives) serve.body ∙ own d f

  by_web : ¬ Has (Reg r) l.places → Contains l.saved r ⊎ IsNoneOf l r
  by_web lacks = elim (has_or_not r (map (λ (w : Web × Role). w.0.reg) (directives_of d f.name).webs)) [
    | inl h ↦ let w = has_map_back (λ (w : Web × Role). w.0.reg) r (directives_of d f.name).webs h in inl (by_role w.0.0 w.0.1 w.1 w.2)
    | inr none ↦ inr (record {
      low = kept.low;
      high = kept.high;
      places = λ c. lacks (has_by (Reg r) l.places c);
      webs = λ c. none (has_by r (map (λ (w : Web × Role). w.0.reg) (directives_of d f.name).webs)
          (subst (λ (x : Directives). Contains (map (λ (w : Web × Role). w.0.reg) x.webs) r) same_directives c));
    })
  ]

  by_place : Contains l.saved r ⊎ IsNoneOf l r
  by_place = elim (has_place r l.places) [
    | inl h ↦ inl ((serve.saved r).1 (serving.places (contains_by (Reg r) l.places h) kept.high not_free))
    | inr lacks ↦ by_web lacks
  ]

pub kept_registers_are_saved : KeptRegistersAreSaved
kept_registers_are_saved d f l r serve kept may = by_place d f l r serve kept may
