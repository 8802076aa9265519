-- Webs of a function in a database: it has one set of directives, and one web of a global.
use Rattle.std.proofs.Common.{◌≡◌, ◌≢◌, ℕ, inl, inr, Bool, true, false, true≢false, if◌then◌else◌, Option, Some, None, List, [], ◌∷◌, map, refl, ap, sym, ◌∙◌, subst}
use Rattle.std.specs.Prelude.{Contains}
use Rattle.std.specs.Str.{bytes_eq}
use Rattle.std.specs.Ordering.{nat_cmp}
use Rattle.std.specs.Cmp.Lexicographic.{slice_cmp}
use Rattle.std.specs.declared.cmp.Ordering.TheVariants.{Less, Equal}
use Rattle.std.proofs.lemmas.Cmp.{nat_list_cmp_total, tied_itself}
use Rattle.std.proofs.lemmas.List.Elements.{Contains-append_cases}
use Rattle.std.proofs.lemmas.Slice.Eq.{bytes_eq-Decides}
use Rattle.pw_files.specs.Rising.{IsRisingBehind}
use Rattle.pw_db.specs.declared.database.Web.{Web}
use Rattle.pw_db.specs.declared.database.Role.{Role}
use Rattle.pw_db.specs.declared.database.Directives.{Directives}
use Rattle.pw_db.specs.Database.{EachTwo, IsWeb, IsDirectives, IsDatabase}
use Rattle.pw_webflow.specs.Direction.{register_of}
use Rattle.pw_db_sound.specs.Sound.{Has, In}
use Rattle.pw_run_languages.specs.Direction.{directives_of}
use Rattle.pw_law_direction.specs.Pairs.{Active, webs_of}
use Rattle.pw_law_direction.proofs.Elements.{nowhere, the-first, map-there}
use Rattle.pw_law_direction.proofs.Globals.{all-hold}

-- ---- one set of directives

behind : (low : List ℕ) (names : List (List ℕ)) (name : List ℕ) → IsRisingBehind (Some low) names → Contains names name → slice_cmp nat_cmp low name ≡ Less
behind low [] name up c = absurd (nowhere name c)
behind low (next ∷ names) name up c = elim (Contains-append_cases (next ∷ []) names name c) [
  | inl first ↦ subst (λ n. slice_cmp nat_cmp low n ≡ Less) (the-first next name first) up.0
  | inr later ↦ nat_list_cmp_total.trans low next name up.0 (behind next names name up.1 later)
]

not-behind : (name : List ℕ) (names : List (List ℕ)) → IsRisingBehind (Some name) names → Contains names name → ⊥
not-behind name names up c = let less = behind name names name up c in let level : slice_cmp nat_cmp name name ≡ Equal = tied_itself nat_list_cmp_total name in cc

of-by : (b : Bool) (h : List ℕ × Directives) (rest : List (List ℕ × Directives)) (f : List ℕ) (ds : Directives) → bytes_eq h.0 f ≡ b → IsRisingBehind (Some h.0) (map (λ g. g.0) rest)
    → Contains (h ∷ rest) (f, ds) → (Contains rest (f, ds) → directives_of rest f ≡ ds) → (if b then h.1 else directives_of rest f) ≡ ds
of-by true h rest f ds e up c more = elim (Contains-append_cases (h ∷ []) rest (f, ds) c) [
  | inl first ↦ ap (λ (g : List ℕ × Directives). g.1) (the-first h (f, ds) first)
  | inr later ↦ absurd (not-behind h.0 (map (λ g. g.0) rest) up
      (subst (Contains (map (λ g. g.0) rest)) (sym ((bytes_eq-Decides h.0 f).0 e)) (map-there (λ (g : List ℕ × Directives). g.0) rest (f, ds) later)))
]
of-by false h rest f ds e up c more = elim (Contains-append_cases (h ∷ []) rest (f, ds) c) [
  | inl first ↦ absurd (true≢false (sym ((bytes_eq-Decides h.0 f).1 (ap (λ (g : List ℕ × Directives). g.0) (the-first h (f, ds) first))) ∙ e))
  | inr later ↦ more later
]

of-rising : (before : Option (List ℕ)) (d : List (List ℕ × Directives)) (f : List ℕ) (ds : Directives) → IsRisingBehind before (map (λ g. g.0) d) → Contains d (f, ds) → directives_of d f ≡ ds
of-rising before [] f ds up c = absurd (nowhere (f, ds) c)
of-rising before (h ∷ rest) f ds up c = of-by (bytes_eq h.0 f) h rest f ds refl up.1 c (of-rising (Some h.0) rest f ds up.1)

-- a web in which a function is, among its directives
pub web-there : (d : List (List ℕ × Directives)) (f : List ℕ) (w : Web) (role : Role) → IsDatabase d → Has d f w role → Contains (directives_of d f).webs (w, role)
web-there d f w role is has = subst (λ (ds : Directives). Contains ds.webs (w, role)) (sym (of-rising None d f has.directives is.functions has.there)) has.web

pub lawful-directives : (d : List (List ℕ × Directives)) (f : List ℕ) (w : Web) (role : Role) → IsDatabase d → Has d f w role → IsDirectives (directives_of d f)
lawful-directives d f w role is has =
    subst IsDirectives (sym (of-rising None d f has.directives is.functions has.there)) (all-hold (λ (g : List ℕ × Directives). IsDirectives g.1) d (f, has.directives) is.directives has.there)

-- ---- one web of a global

one-of : (webs : List (Web × Role)) (w u : Web × Role) → EachTwo (λ a b. a.global ≢ b.global) (map (λ w. w.0) webs) → Contains webs w → Contains webs u → w.0.global ≡ u.0.global → w ≡ u
one-of [] w u two c k e = absurd (nowhere w c)
one-of (z ∷ zs) w u two c k e = elim (Contains-append_cases (z ∷ []) zs w c) [
  | inl first ↦ elim (Contains-append_cases (z ∷ []) zs u k) [
    | inl both ↦ sym (the-first z w first) ∙ the-first z u both
    | inr later ↦ absurd (all-hold (λ (b : Web). z.0.global ≢ b.global) (map (λ w. w.0) zs) u.0 two.0 (map-there (λ (w : Web × Role). w.0) zs u later)
        (ap (λ (w : Web × Role). w.0.global) (the-first z w first) ∙ e))
  ]
  | inr later ↦ elim (Contains-append_cases (z ∷ []) zs u k) [
    | inl first ↦ absurd (all-hold (λ (b : Web). z.0.global ≢ b.global) (map (λ w. w.0) zs) w.0 two.0 (map-there (λ (w : Web × Role). w.0) zs w later)
        (ap (λ (w : Web × Role). w.0.global) (the-first z u first) ∙ sym e))
    | inr both ↦ one-of zs w u two.1 later both e
  ]
]

pub one-web : (d : List (List ℕ × Directives)) (f : List ℕ) (w u : Web) → IsDatabase d → In d w f → In d u f → w.global ≡ u.global → w ≡ u
one-web d f w u is i j e =
    ap (λ (x : Web × Role). x.0) (one-of (directives_of d f).webs (w, i.role) (u, j.role) (lawful-directives d f w i.role is i.has).globals (web-there d f w i.role is i.has) (web-there d f u j.role is j.has) e)

register-by : (b : Bool) (h : Web × Role) (rest : List (Web × Role)) (w : Web) (role : Role) → bytes_eq h.0.global w.global ≡ b → EachTwo (λ a b. a.global ≢ b.global) (map (λ w. w.0) (h ∷ rest))
    → Contains (h ∷ rest) (w, role) → (Contains rest (w, role) → register_of rest w.global ≡ Some w.reg) → (if b then Some h.0.reg else register_of rest w.global) ≡ Some w.reg
register-by true h rest w role e two c more = elim (Contains-append_cases (h ∷ []) rest (w, role) c) [
  | inl first ↦ ap (λ (x : Web × Role). Some x.0.reg) (the-first h (w, role) first)
  | inr later ↦ absurd (all-hold (λ (b : Web). h.0.global ≢ b.global) (map (λ w. w.0) rest) w two.0 (map-there (λ (w : Web × Role). w.0) rest (w, role) later) ((bytes_eq-Decides h.0.global w.global).0 e))
]
register-by false h rest w role e two c more = elim (Contains-append_cases (h ∷ []) rest (w, role) c) [
  | inl first ↦ absurd (true≢false (sym ((bytes_eq-Decides h.0.global w.global).1 (ap (λ (x : Web × Role). x.0.global) (the-first h (w, role) first))) ∙ e))
  | inr later ↦ more later
]

register-there : (webs : List (Web × Role)) (w : Web) (role : Role) → EachTwo (λ a b. a.global ≢ b.global) (map (λ w. w.0) webs) → Contains webs (w, role) → register_of webs w.global ≡ Some w.reg
register-there [] w role two c = absurd (nowhere (w, role) c)
register-there (h ∷ rest) w role two c = register-by (bytes_eq h.0.global w.global) h rest w role refl two c (register-there rest w role two.1)

-- a function finds the global of its web in the web's register
pub register-in : (d : List (List ℕ × Directives)) (f : Active) (w : Web) → IsDatabase d → In d w f.function.name → register_of (webs_of d f.function) w.global ≡ Some w.reg
register-in d f w is i = register-there (webs_of d f.function) w i.role (lawful-directives d f.function.name w i.role is i.has).globals (web-there d f.function.name w i.role is i.has)

pub is-web : (d : List (List ℕ × Directives)) (f : List ℕ) (w : Web) → IsDatabase d → In d w f → IsWeb w
is-web d f w is i = all-hold IsWeb (map (λ w. w.0) (directives_of d f).webs) w (lawful-directives d f w i.role is i.has).each
    (map-there (λ (x : Web × Role). x.0) (directives_of d f).webs (w, i.role) (web-there d f w i.role is i.has))
