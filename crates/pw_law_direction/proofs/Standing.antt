-- Each global in its place has the value that it has in the flow run, as the calls and returns of both runs note it.
use Rattle.std.proofs.Common.{◌≡◌, ◌≢◌, ◌<◌, ◌+◌, ℕ, suc, Bool, true, false, true≢false, Option, Some, None, List, [], ◌∷◌, ◌++◌, map, length, refl, ap, sym, ◌∙◌, subst, arith, inl, inr}
use Rattle.std.specs.Prelude.{cond, not, position, Contains}
use Rattle.std.specs.List.{AllByRecursion, position_or_len}
use Rattle.std.specs.Str.{bytes_eq}
use Rattle.std.proofs.lemmas.Bool.{lt-ltb}
use Rattle.std.proofs.lemmas.List.Elements.{Contains-append_right, Contains-append_cases}
use Rattle.std.proofs.lemmas.Map.Views.{Contains-from_any}
use Rattle.std.proofs.lemmas.Slice.Eq.{bytes_eq-Decides}
use Rattle.pw_value.specs.declared.value.Kind.{Kind}
use Rattle.pw_value.specs.declared.value.Value.{Value}
use Rattle.pw_value.specs.Objects.{Object, object_at}
use Rattle.pw_db.specs.declared.database.Web.{Web}
use Rattle.pw_db.specs.declared.database.Directives.{Directives}
use Rattle.pw_db.specs.Database.{IsDatabase}
use Rattle.pw_flow.specs.declared.flow.FlowGlobal.{FlowGlobal}
use Rattle.pw_flow.specs.ValidFlow.{AreDistinct}
use Rattle.pw_webflow.specs.Direction.{register_of}
use Rattle.pw_db_sound.specs.Sound.{In, Sound}
use Rattle.pw_run_languages.specs.Programs.{Program, globals_of, names_of, global_number}
use Rattle.pw_run_languages.specs.LawfulPrograms.{IsProgram, graph_of, has_name, eligible_of, eligible_names}
use Rattle.pw_run_languages.specs.PlacedRun.{held, standing, standings, globals_now, with_registers}
use Rattle.pw_run_languages.specs.Direction.{HoldsAs, StandsFor, AllStand}
use Rattle.pw_law_direction.specs.Pairs.{Active, webs_of, web_frames, under}
use Rattle.pw_law_direction.specs.Alike.{IsPlain, names_active, IsWritten, GlobalStands, ObjectsAlike}
use Rattle.pw_law_direction.proofs.Elements.{nowhere, first-there, the-first, map-back}
use Rattle.pw_law_direction.proofs.Names.{named, is-eligible, name-eligible, one-number, has-there, place-below}
use Rattle.pw_law_direction.proofs.Globals.{distinct-right, one-of-name}
use Rattle.pw_law_direction.proofs.Memory.{eligible-name}
use Rattle.pw_law_direction.proofs.Webs.{register-in}
use Rattle.pw_law_direction.proofs.WebReads.{eligible-in}
use Rattle.pw_law_direction.proofs.Calls.{here, further}
use Rattle.pw_law_direction.proofs.StoresByName.{held-none}

-- ---- a global's number is its place

pub unequal : (b : Bool) (x y : List ℕ) → bytes_eq x y ≡ b → (x ≡ y → ⊥) → b ≡ false
unequal true x y e ne = absurd (ne ((bytes_eq-Decides x y).0 e))
unequal false x y e ne = refl

apart-from : (x : FlowGlobal) (before : List FlowGlobal) (g : FlowGlobal) (rest : List FlowGlobal) → AllByRecursion (λ (n : List ℕ). n ≢ x.name) (map (λ y. y.name) (before ++ g ∷ rest)) → x.name ≡ g.name → ⊥
apart-from x [] g rest h e = h.0 (sym e)
apart-from x (y ∷ before) g rest h e = apart-from x before g rest h.1 e

place-is : (before : List FlowGlobal) (g : FlowGlobal) (rest : List FlowGlobal) → AreDistinct (map (λ y. y.name) (before ++ g ∷ rest)) → position_or_len (named g.name) (before ++ g ∷ rest) ≡ length before
place-is [] g rest h = ap (λ (b : Bool). cond (not b) (1 + position_or_len (named g.name) rest) 0) ((bytes_eq-Decides g.name g.name).1 refl)
place-is (x ∷ before) g rest h =
    ap (λ (b : Bool). cond (not b) (1 + position_or_len (named g.name) (before ++ g ∷ rest)) 0) (unequal (bytes_eq x.name g.name) x.name g.name refl (apart-from x before g rest h.0))
    ∙ ap (λ (n : ℕ). 1 + n) (place-is before g rest h.1)
    ∙ (let e : 1 + length before ≡ suc (length before) = omega arith in e)

number-is : (p : Program) (before : List FlowGlobal) (g : FlowGlobal) (rest : List FlowGlobal) → globals_of p ≡ before ++ g ∷ rest → AreDistinct (map (λ y. y.name) (globals_of p)) → global_number p g.name ≡ Some (length before)
number-is p before g rest e h =
    let xs : List FlowGlobal = before ++ g ∷ rest in
    let place : ℕ = position_or_len (named g.name) xs in
    let less : place < length xs = place-below (named g.name) xs g (Contains-append_right before (g ∷ rest) g (first-there g rest)) ((bytes_eq-Decides g.name g.name).1 refl) in
    let found : position (named g.name) xs ≡ Some place = ap (λ (b : Bool). cond b (Some place) None) (lt-ltb place (length xs) less) in
    ap (λ (l : List FlowGlobal). position (named g.name) l) e ∙ found ∙ ap (λ (n : ℕ). Some n) (place-is before g rest (subst (λ (l : List FlowGlobal). AreDistinct (map (λ y. y.name) l)) e h))

-- ---- where nothing holds a global

-- a function that is in a web of a global holds it
holds-by : (d : List (List ℕ × Directives)) (v : List ℕ) (f : Active) (fs : List Active) (a : ℕ → Value) → IsDatabase d → held v a (web_frames d (f ∷ fs)) ≡ None → (w : Web) → In d w f.function.name → w.global ≡ v → ⊥
holds-by d v f fs a is none w i e =
    let some : Some (a w.reg) ≡ None = sym (here d f v w.reg fs a (subst (λ (n : List ℕ). register_of (webs_of d f.function) n ≡ Some w.reg) e (register-in d f w is i))) ∙ none in absurd cc

below-none : (d : List (List ℕ × Directives)) (v : List ℕ) (f : Active) (fs : List Active) (a : ℕ → Value) (o : Option ℕ) → register_of (webs_of d f.function) v ≡ o → held v a (web_frames d (f ∷ fs)) ≡ None
    → held v (with_registers f.saved a) (web_frames d fs) ≡ None
below-none d v f fs a None e none = sym (further d f v fs a e) ∙ none
below-none d v f fs a (Some r) e none = let some : Some (a r) ≡ None = sym (here d f v r fs a e) ∙ none in absurd cc

nobody-holds : (d : List (List ℕ × Directives)) (v : List ℕ) (fs : List Active) (a : ℕ → Value) → IsDatabase d → held v a (web_frames d fs) ≡ None
    → (n : List ℕ) → Contains (names_active fs) n → (w : Web) → In d w n → w.global ≡ v → ⊥
nobody-holds d v [] a is none n c w i e = nowhere n c
nobody-holds d v (f ∷ fs) a is none n c w i e = elim (Contains-append_cases (f.function.name ∷ []) (names_active fs) n c) [
  | inl first ↦ holds-by d v f fs a is none w (subst (In d w) (sym (the-first f.function.name n first)) i) e
  | inr later ↦ nobody-holds d v fs (with_registers f.saved a) is (below-none d v f fs a (register_of (webs_of d f.function) v) refl none) n later w i e
]

-- ---- one global

by-place : (d : List (List ℕ × Directives)) (active : List (List ℕ)) (g : FlowGlobal) (k : Kind) (place : Option Value) (a b : Object) → g.kind ≡ Some k → GlobalStands d active g.name k place a b
    → (place ≡ None → IsWritten d g.name active → ⊥) → StandsFor g a (standing place b)
by-place d active g k None a b kind st none = st.memory (none refl)
by-place d active g k (Some v) a b kind st none = subst (λ (o : Option Kind). HoldsAs o v a.bytes) (sym kind) st.stands

one-stands : (p : Program) (d : List (List ℕ × Directives)) (fs : List Active) (registers : ℕ → Value) (objects memory : List Object) → IsProgram p → IsDatabase d → Sound (graph_of p) d
    → ObjectsAlike p d fs registers objects memory → (g : FlowGlobal) (n : ℕ) → Contains (globals_of p) g → global_number p g.name ≡ Some n → (b : Bool) → has_name (eligible_names p) g.name ≡ b
    → StandsFor g (object_at objects n) (standing (held g.name registers (web_frames d fs)) (object_at memory n))
one-stands p d fs registers objects memory lawful is s a g n there number true e =
    let c : Contains (eligible_names p) g.name = Contains-from_any (λ (u v : List ℕ) q. (bytes_eq-Decides u v).0 q) g.name (eligible_names p) e in
    let r = map-back (λ (e : List ℕ × Kind). e.0) (eligible_of p) g.name c in
    let el : Contains (eligible_of p) (g.name, r.is.1) = subst (λ (m : List ℕ). Contains (eligible_of p) (m, r.is.1)) r.holds r.there in
    let x = is-eligible p g.name r.is.1 el in
    let same : g ≡ x.global = one-of-name (globals_of p) g x.global (distinct-right (names_of p) (map (λ y. y.name) (globals_of p)) lawful.names) there x.there (sym x.name) in
    by-place d (names_active fs) g r.is.1 (held g.name registers (web_frames d fs)) (object_at objects n) (object_at memory n) (ap (λ (y : FlowGlobal). y.kind) same ∙ x.kind) (a.globals g.name r.is.1 n el number)
    (λ none t. nobody-holds d g.name fs registers is none t.function t.is_active t.web t.within t.global)
one-stands p d fs registers objects memory lawful is s a g n there number false e =
    let not-eligible : Contains (eligible_names p) g.name → ⊥ = λ c. true≢false (sym (has-there (eligible_names p) g.name c) ∙ e) in
    let none : held g.name registers (web_frames d fs) ≡ None = held-none d g.name fs registers
    (λ m c w i q. not-eligible (subst (Contains (eligible_names p)) q (eligible-name p w.global w.kind (eligible-in p d s w m i)))) in
    let plain : IsPlain p n = λ h c f. not-eligible (subst (Contains (eligible_names p)) (one-number p (name-eligible p h c).1.global h g.name n f number) c) in
    subst (λ (o : Option Value). StandsFor g (object_at objects n) (standing o (object_at memory n))) (sym none) (ap (λ (o : Object). o.bytes) (a.others n plain))

-- ---- all of them

all-from : (p : Program) (d : List (List ℕ × Directives)) (fs : List Active) (registers : ℕ → Value) (objects memory : List Object) → IsProgram p → IsDatabase d → Sound (graph_of p) d
    → ObjectsAlike p d fs registers objects memory → (before gs : List FlowGlobal) → globals_of p ≡ before ++ gs
    → AllStand gs (length before) objects (standings (map (λ g. g.name) gs) (length before) registers (web_frames d fs) memory)
all-from p d fs registers objects memory lawful is s a before [] e = tt
all-from p d fs registers objects memory lawful is s a before (g ∷ gs) e =
    let there : Contains (globals_of p) g = subst (λ (l : List FlowGlobal). Contains l g) (sym e) (Contains-append_right before (g ∷ gs) g (first-there g gs)) in
    let number = number-is p before g gs e (distinct-right (names_of p) (map (λ y. y.name) (globals_of p)) lawful.names) in
    let longer : length (before ++ g ∷ []) ≡ suc (length before) = lengthened before g in (
      one-stands p d fs registers objects memory lawful is s a g (length before) there number (has_name (eligible_names p) g.name) refl,
      subst (λ (n : ℕ). AllStand gs n objects (standings (map (λ g. g.name) gs) n registers (web_frames d fs) memory)) longer
          (all-from p d fs registers objects memory lawful is s a (before ++ g ∷ []) gs (e ∙ moved before g gs)),
    )
  where
    lengthened : (xs : List FlowGlobal) (x : FlowGlobal) → length (xs ++ x ∷ []) ≡ suc (length xs)
    lengthened [] x = refl
    lengthened (y ∷ xs) x = ap (λ (n : ℕ). suc n) (lengthened xs x)

    moved : (xs : List FlowGlobal) (x : FlowGlobal) (ys : List FlowGlobal) → xs ++ x ∷ ys ≡ (xs ++ x ∷ []) ++ ys
    moved [] x ys = refl
    moved (y ∷ xs) x ys = ap (λ (l : List FlowGlobal). y ∷ l) (moved xs x ys)

pub globals-all-stand : (p : Program) (d : List (List ℕ × Directives)) (fs : List Active) (registers : ℕ → Value) (objects memory : List Object) → IsProgram p → IsDatabase d → Sound (graph_of p) d
    → ObjectsAlike p d fs registers objects memory → AllStand (globals_of p) 0 objects (globals_now (under p d) registers (web_frames d fs) memory)
globals-all-stand p d fs registers objects memory lawful is s a = all-from p d fs registers objects memory lawful is s a [] (globals_of p) refl
