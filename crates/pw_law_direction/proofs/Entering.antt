-- The start of a function that enters webs: each of their globals is loaded to its register.
use Rattle.std.proofs.Common.{◌≡◌, ◌≤◌, ◌<◌, ◌+◌, ◌==◌, ◌&&◌, ◌%◌, ℕ, zero, suc, inl, inr, Bool, true, false, true≢false, if◌then◌else◌, Option, Some, None, List, [], ◌∷◌, map, length, refl, ap, sym, ◌∙◌, subst, arith}
use Rattle.std.specs.Prelude.{cond, find, nat_le, Contains}
use Rattle.std.specs.List.{flat_map, range_with_len}
use Rattle.std.specs.Str.{bytes_eq}
use Rattle.std.proofs.lemmas.Bool.{cases_lt, cases_eq}
use Rattle.std.proofs.lemmas.List.Elements.{Contains-append_cases}
use Rattle.std.proofs.lemmas.Slice.Eq.{bytes_eq-Decides}
use denote.Enum.Bare.{sameb}
use Rattle.pw_value.specs.contracts.value.Kind.{the_type as the_kinds}
use Rattle.pw_value.specs.declared.value.Kind.{Kind}
use Rattle.pw_value.specs.declared.value.Kind.TheVariants.{S8, U8, S16, U16, W32}
use Rattle.pw_value.specs.declared.value.Value.{Value}
use Rattle.pw_value.specs.declared.value.Byte.{Byte}
use Rattle.pw_value.specs.Objects.{Object, object_at, bytes_from}
use Rattle.pw_db.specs.Limits.{first_register, register_count, kept_registers}
use Rattle.pw_db.specs.declared.database.Web.{Web}
use Rattle.pw_db.specs.declared.database.Role.{Role}
use Rattle.pw_db.specs.declared.database.Role.TheVariants.{Entry, Member}
use Rattle.pw_db.specs.declared.database.Directives.{Directives}
use Rattle.pw_db.specs.Database.{IsDatabase}
use Rattle.pw_flow.specs.declared.flow.FlowFn.{FlowFn}
use Rattle.pw_flow.specs.declared.flow.FlowGlobal.{FlowGlobal}
use Rattle.pw_flow.specs.ValidFlow.{kind_size}
use Rattle.pw_alloc.specs.Allocation.{is_entry}
use Rattle.pw_db_sound.specs.CallGraphs.{Graph}
use Rattle.pw_db_sound.specs.Sound.{Has, Sound}
use Rattle.pw_run_languages.specs.Traces.{Event, Loaded, calls_alone}
use Rattle.pw_run_languages.specs.Programs.{Program, globals_of, names_of, global_named, global_number}
use Rattle.pw_run_languages.specs.Memory.{scalar_of}
use Rattle.pw_run_languages.specs.FlowRun.{is_own_kind, get_global}
use Rattle.pw_run_languages.specs.LawfulPrograms.{IsProgram}
use Rattle.pw_run_languages.specs.PlacedRun as web
use Rattle.pw_run_languages.specs.PlacedRun.{with_register, is_eligible}
use Rattle.pw_law_direction.specs.Pairs.{webs_of, under}
use Rattle.pw_law_direction.proofs.Elements.{nowhere, first-there, later-there, the-first, flat-there, flat-back}
use Rattle.pw_law_direction.proofs.Names.{IsEligible, named}
use Rattle.pw_law_direction.proofs.Globals.{bytes-whole, distinct-right, one-of-name, found-there, kind-is, own-by, get-by}
use Rattle.pw_law_direction.proofs.Registers.{itself, if-same, if-other, has-web}
use Rattle.pw_law_direction.proofs.Webs.{web-there, one-web, is-web}

-- ---- the webs that a function enters are those of which it is an entry

abbrev pub of-register : ℕ → Web × Role → List Web
of-register r w = if is_entry w.1 && (w.0.reg == r) then w.0 ∷ [] else []

abbrev pub entered-among : List (Web × Role) → List Web
entered-among webs = flat_map (λ r. flat_map (of-register r) webs) kept_registers

in-range : (a n x : ℕ) → a ≤ x → x < a + n → Contains (range_with_len a n) x
in-range a zero x low high = absurd (omega (arith, low, high))
in-range a (suc n) x low high = elim (cases_lt a x) [
  | inl above ↦ later-there a x (range_with_len (a + 1) n) (in-range (a + 1) n x (omega (arith, above)) (omega (arith, high)))
  | inr same ↦ let e : a ≡ x = omega (arith, low, same) in subst (Contains (range_with_len a (suc n))) e (first-there a (range_with_len (a + 1) n))
]

pub all-entered : (d : List (List ℕ × Directives)) (fn : FlowFn) (w : Web) → IsDatabase d → Has d fn.name w Entry → Contains (entered-among (webs_of d fn)) w
all-entered d fn w is has =
    let lawful = is-web d fn.name w is (record { role = Entry; has = has }) in
    let low : first_register ≤ w.reg = lawful.low in
    let high : w.reg ≤ 18 = lawful.high in
    flat-there (λ (r : ℕ). flat_map (of-register r) (webs_of d fn)) kept_registers w.reg w (in-range first_register register_count w.reg low (omega (arith, high)))
    (flat-there (of-register w.reg) (webs_of d fn) (w, Entry) w (web-there d fn.name w Entry is has)
    (subst (λ (b : Bool). Contains {X = Web} (if true && b then w ∷ [] else []) w) (sym (itself w.reg)) (first-there w [])))

one-entered : (x : Web × Role) (r : ℕ) (role : Role) (b : Bool) (w : Web) → x.1 ≡ role → Contains (if is_entry role && b then x.0 ∷ [] else []) w → (w, Entry) ≡ x
one-entered x r Entry true w e c = ap (λ (v : Web). (v, Entry)) (sym (the-first x.0 w c)) ∙ ap (λ (o : Role). (x.0, o)) (sym e)
one-entered x r Entry false w e c = absurd (nowhere w c)
one-entered x r Member b w e c = absurd (nowhere w c)

pub entered-only : (d : List (List ℕ × Directives)) (fn : FlowFn) (w : Web) → Contains (entered-among (webs_of d fn)) w → Has d fn.name w Entry
entered-only d fn w c =
    let r = flat-back (λ (r : ℕ). flat_map (of-register r) (webs_of d fn)) kept_registers w c in
    let x = flat-back (of-register r.is) (webs_of d fn) w r.holds in
    has-web d fn.name w Entry (subst (Contains (webs_of d fn)) (sym (one-entered x.is r.is x.is.1 (x.is.0.reg == r.is) w refl x.holds)) x.there)

-- two webs that a function enters, of one register, are one
same-web : (g : Graph) (d : List (List ℕ × Directives)) (f : List ℕ) (u w : Web) → IsDatabase d → Sound g d → Has d f u Entry → Has d f w Entry → u.reg ≡ w.reg → u ≡ w
same-web g d f u w is s one other reg = by (bytes_eq u.global w.global) refl
  where
    by : (b : Bool) → bytes_eq u.global w.global ≡ b → u ≡ w
    by true e = one-web d f u w is (record { role = Entry; has = one }) (record { role = Entry; has = other }) ((bytes_eq-Decides u.global w.global).0 e)
    by false e = absurd (s.registers u w f (record { role = Entry; has = one }) (record { role = Entry; has = other })
        (λ same. true≢false (sym ((bytes_eq-Decides u.global w.global).1 (ap (λ (v : Web). v.global) same)) ∙ e)) reg)

-- ---- a load of an eligible global

kinds-same : (k : Kind) → sameb the_kinds k k ≡ true
kinds-same S8 = refl
kinds-same U8 = refl
kinds-same S16 = refl
kinds-same U16 = refl
kinds-same W32 = refl

lost-by : (b : Bool) (y : FlowGlobal) (ys : List FlowGlobal) (x : FlowGlobal) (g : List ℕ) → named g y ≡ b → x.name ≡ g → Contains (y ∷ ys) x → (Contains ys x → find (named g) ys ≡ None → ⊥)
    → cond b (Some y) (find (named g) ys) ≡ None → ⊥
lost-by true y ys x g is name c later none = cc
lost-by false y ys x g is name c later none = elim (Contains-append_cases (y ∷ []) ys x c) [
  | inl first ↦ true≢false (sym ((bytes_eq-Decides y.name g).1 (ap (λ (z : FlowGlobal). z.name) (the-first y x first) ∙ name)) ∙ is)
  | inr more ↦ later more none
]

-- a name that a global has is found
lost : (xs : List FlowGlobal) (x : FlowGlobal) (g : List ℕ) → x.name ≡ g → Contains xs x → find (named g) xs ≡ None → ⊥
lost [] x g name c none = nowhere x c
lost (y ∷ ys) x g name c none = lost-by (named g y) y ys x g refl name c (lost ys x g name) none

own-by-name : (p : Program) (g : List ℕ) (k : Kind) (found : Option FlowGlobal) → global_named p g ≡ found → IsProgram p → IsEligible p g k → own-by k found ≡ true
own-by-name p g k (Some x) e lawful el =
    let r = found-there (named g) (globals_of p) x e in
    let same : x ≡ el.global = one-of-name (globals_of p) x el.global (distinct-right (names_of p) (map (λ g. g.name) (globals_of p)) lawful.names) r.0 el.there
    ((bytes_eq-Decides x.name g).0 r.1 ∙ sym el.name) in
    ap (λ (o : Option Kind). kind-is k o) (ap (λ (y : FlowGlobal). y.kind) same ∙ el.kind) ∙ kinds-same k
own-by-name p g k None e lawful el = absurd (lost (globals_of p) el.global g el.name el.there e)

pub own-kind-of : (p : Program) (g : List ℕ) (k : Kind) → IsProgram p → IsEligible p g k → is_own_kind p g k ≡ true
own-kind-of p g k lawful el = own-by-name p g k (global_named p g) refl lawful el

fits-kind : (k : Kind) → (nat_le (0 + kind_size k) (kind_size k) && (0 % kind_size k == 0)) ≡ true
fits-kind S8 = refl
fits-kind U8 = refl
fits-kind S16 = refl
fits-kind U16 = refl
fits-kind W32 = refl

pub open-of-kind : (k : Kind) (x : Object) → x.live ≡ true → length x.bytes ≡ kind_size k → (x.live && (nat_le (0 + kind_size k) (length x.bytes) && (0 % kind_size k == 0))) ≡ true
open-of-kind k x live size =
    ap (λ (b : Bool). b && (nat_le (0 + kind_size k) (length x.bytes) && (0 % kind_size k == 0))) live
    ∙ ap (λ (n : ℕ). nat_le (0 + kind_size k) n && (0 % kind_size k == 0)) size ∙ fits-kind k

pub load-of-eligible : (p : Program) (g : List ℕ) (k : Kind) (n : ℕ) (objects : List Object) → IsProgram p → IsEligible p g k → global_number p g ≡ Some n → (object_at objects n).live ≡ true → length (object_at objects n).bytes ≡ kind_size k
    → get_global p g k objects ≡ Some (scalar_of k (object_at objects n).bytes)
load-of-eligible p g k n objects lawful el number live size =
    ap (λ (b : Bool). if b then get-by k objects (global_number p g) else None) (own-kind-of p g k lawful el)
    ∙ ap (λ (o : Option ℕ). get-by k objects o) number
    ∙ ap (λ (b : Bool). if b then Some (scalar_of k (bytes_from (kind_size k) 0 (object_at objects n).bytes)) else None) (open-of-kind k (object_at objects n) live size)
    ∙ ap (λ (l : List Byte). Some (scalar_of k l)) (bytes-whole (kind_size k) (object_at objects n).bytes size)

-- ---- the loads

-- What the registers hold while these webs are still to be loaded: those of the webs that are done hold their globals, and
-- those of no web that is entered hold what they did.
pub record Loads (p : Program) (d : List (List ℕ × Directives)) (f : List ℕ) (memory : List Object) (now : ℕ → Value) (todo : List Web) (registers : ℕ → Value) : Type 0 where
  pub loaded : (w : Web) → Has d f w Entry → (Contains todo w → ⊥) → get_global p w.global w.kind memory ≡ Some (registers w.reg)
  pub others : (q : ℕ) → ((w : Web) → Has d f w Entry → w.reg ≡ q → ⊥) → registers q ≡ now q

-- where all webs are loaded
pub record Entered (p : Program) (d : List (List ℕ × Directives)) (f : List ℕ) (memory : List Object) (now : ℕ → Value) (m : web.Machine) (s : web.Step) : Type 0 where
  pub registers : ℕ → Value
  pub trace : List (Event Byte Value)
  pub on : s ≡ web.On (record m { registers = registers; trace = trace })
  pub quiet : calls_alone trace ≡ calls_alone m.trace
  pub loads : Loads p d f memory now [] registers

load-one : (p : Program) (g : Graph) (d : List (List ℕ × Directives)) (f : List ℕ) (memory : List Object) (now : ℕ → Value) (w : Web) (rest : List Web) (v : Value) (registers : ℕ → Value) → IsDatabase d → Sound g d → Has d f w Entry
    → get_global p w.global w.kind memory ≡ Some v → Loads p d f memory now (w ∷ rest) registers → Loads p d f memory now rest (with_register w.reg v registers)
load-one p g d f memory now w rest v registers is s has got l = record {
  loaded = λ u entry done. elim (cases_eq u.reg w.reg) [
    | inl e ↦
        let same : w ≡ u = sym (same-web g d f u w is s entry has e) in
        subst (λ (x : Web). get_global p x.global x.kind memory ≡ Some (with_register w.reg v registers x.reg)) same (got ∙ ap (λ (z : Value). Some z) (sym (if-same w.reg v (registers w.reg))))
    | inr ne ↦
        l.loaded u entry (λ c. elim (Contains-append_cases (w ∷ []) rest u c) [
          | inl first ↦ ne (ap (λ (x : Web). x.reg) (sym (the-first w u first)))
          | inr later ↦ done later
        ]) ∙ ap (λ (z : Value). Some z) (sym (if-other u.reg w.reg v (registers u.reg) ne))
  ];
  others = λ q none. if-other q w.reg v (registers q) (λ e. none w has (sym e)) ∙ l.others q none;
}

abbrev loaded-so : web.PlacedProgram → Web → web.Machine → Option Value → web.Step
loaded-so p w m (Some v) = web.On (web.noted_if (is_eligible p w.global) (Loaded w.global) (record m { registers = with_register w.reg v m.registers }))
loaded-so p w m None = web.Astray

noted-on : (p : Program) (d : List (List ℕ × Directives)) (f : List ℕ) (memory : List Object) (now : ℕ → Value) (m : web.Machine) (w : Web) (v : Value) (rest : List Web) (b : Bool)
    → ((m : web.Machine) → m.objects ≡ memory → Loads p d f memory now rest m.registers → Entered p d f memory now m (web.enters_webs (under p d) rest m))
    → m.objects ≡ memory → Loads p d f memory now rest (with_register w.reg v m.registers)
    → Entered p d f memory now m (web.enters_webs (under p d) rest (web.noted_if b (Loaded w.global) (record m { registers = with_register w.reg v m.registers })))
noted-on p d f memory now m w v rest true next same l =
    let r = next (record m { registers = with_register w.reg v m.registers; trace = Loaded w.global ∷ m.trace }) same l in
    record { registers = r.registers; trace = r.trace; on = r.on; quiet = r.quiet; loads = r.loads }
noted-on p d f memory now m w v rest false next same l =
    let r = next (record m { registers = with_register w.reg v m.registers }) same l in
    record { registers = r.registers; trace = r.trace; on = r.on; quiet = r.quiet; loads = r.loads }

pub enters-on : (p : Program) (g : Graph) (d : List (List ℕ × Directives)) (f : List ℕ) (memory : List Object) (now : ℕ → Value) → IsDatabase d → Sound g d
    → ((w : Web) → Has d f w Entry → (v : Value) × (get_global p w.global w.kind memory ≡ Some v)) → (ws : List Web) → ((w : Web) → Contains ws w → Has d f w Entry)
    → (m : web.Machine) → m.objects ≡ memory → Loads p d f memory now ws m.registers → Entered p d f memory now m (web.enters_webs (under p d) ws m)
enters-on p g d f memory now is s may [] each m same l = record { registers = m.registers; trace = m.trace; on = refl; quiet = refl; loads = l }
enters-on p g d f memory now is s may (w ∷ rest) each m same l =
    let has = each w (first-there w rest) in
    let v = may w has in
    subst (λ (o : Option Value). Entered p d f memory now m (web.and_then (loaded-so (under p d) w m o) (web.enters_webs (under p d) rest)))
    (sym (ap (λ (objects : List Object). get_global p w.global w.kind objects) same ∙ v.1))
    (noted-on p d f memory now m w v.0 rest (is_eligible (under p d) w.global) (λ n e k. enters-on p g d f memory now is s may rest (λ u c. each u (later-there w u rest c)) n e k) same
    (load-one p g d f memory now w rest v.0 m.registers is s has v.1 l))
