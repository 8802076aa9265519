-- Where globals stand: what a write of a web's register, and what saving and restoring, leave of it.
use Rattle.std.proofs.Common.{◌≡◌, ◌≢◌, ◌==◌, ℕ, inl, inr, Bool, true, false, if◌then◌else◌, Option, Some, None, List, [], ◌∷◌, map, refl, ap, sym, ◌∙◌, subst, arith}
use Rattle.std.specs.Prelude.{option_map, Contains}
use Rattle.std.specs.List.{AllByRecursion}
use Rattle.std.specs.Option.{option_or}
use Rattle.std.specs.Str.{bytes_eq}
use Rattle.std.proofs.lemmas.Bool.{cases_eq}
use Rattle.std.proofs.lemmas.Option.{same_Some}
use Rattle.std.proofs.lemmas.List.Elements.{Contains-append_cases}
use Rattle.std.proofs.lemmas.Slice.Eq.{bytes_eq-Decides}
use Rattle.pw_value.specs.declared.value.Value.{Value}
use Rattle.pw_db.specs.declared.database.Web.{Web}
use Rattle.pw_db.specs.declared.database.Role.{Role}
use Rattle.pw_db.specs.declared.database.Role.TheVariants.{Entry, Member}
use Rattle.pw_db.specs.declared.database.Directives.{Directives}
use Rattle.pw_webflow.specs.Direction.{register_of, directed}
use Rattle.pw_db_sound.specs.CallGraphs.{Graph}
use Rattle.pw_db_sound.specs.Sound.{Has, In, Sound}
use Rattle.pw_run_languages.specs.PlacedRun.{with_register, with_registers, held}
use Rattle.pw_run_languages.specs.Direction.{directives_of}
use Rattle.pw_law_direction.specs.Pairs.{Active, webs_of, web_frames}
use Rattle.pw_law_direction.specs.Alike.{Linked, Saves}
use Rattle.pw_law_direction.proofs.Elements.{nowhere, first-there, later-there, the-first}

-- ---- registers

abbrev pub Agree : (ℕ → Value) → (ℕ → Value) → Type 0
Agree a b = (q : ℕ) → a q ≡ b q

pub itself : (n : ℕ) → (n == n) ≡ true
itself n = grind arith

pub if-same : (n : ℕ) (v w : Value) → (if n == n then v else w) ≡ v
if-same n v w = ap (λ (b : Bool). if b then v else w) (itself n)

pub if-other : (q r : ℕ) (v w : Value) → q ≢ r → (if q == r then v else w) ≡ w
if-other q r v w ne = let e : (q == r) ≡ false = grind (arith, ne) in ap (λ (b : Bool). if b then v else w) e

with-agree : (r : ℕ) (v : Value) (a b : ℕ → Value) → Agree a b → Agree (with_register r v a) (with_register r v b)
with-agree r v a b h q = ap (λ (w : Value). if q == r then v else w) (h q)

pub all-agree : (l : List (ℕ × Value)) (a b : ℕ → Value) → Agree a b → Agree (with_registers l a) (with_registers l b)
all-agree [] a b h = h
all-agree (n ∷ rest) a b h = all-agree rest (with_register n.0 n.1 a) (with_register n.0 n.1 b) (with-agree n.0 n.1 a b h)

overwrites : (r : ℕ) (v w : Value) (a : ℕ → Value) → Agree (with_register r w (with_register r v a)) (with_register r w a)
overwrites r v w a q = elim (cases_eq q r) [
  | inl e ↦ subst (λ (k : ℕ). (if k == r then w else (if k == r then v else a k)) ≡ (if k == r then w else a k)) (sym e) (if-same r w (if r == r then v else a r) ∙ sym (if-same r w (a r)))
  | inr ne ↦ ap (λ (z : Value). if q == r then w else z) (if-other q r v (a q) ne)
]

commutes : (r s : ℕ) (v w : Value) (a : ℕ → Value) → s ≢ r → Agree (with_register s w (with_register r v a)) (with_register r v (with_register s w a))
commutes r s v w a ne q = elim (cases_eq q s) [
  | inl e ↦ subst (λ (k : ℕ). (if k == s then w else (if k == r then v else a k)) ≡ (if k == r then v else (if k == s then w else a k))) (sym e)
      (if-same s w (if s == r then v else a s) ∙ sym (if-other s r v (if s == s then w else a s) ne ∙ if-same s w (a s)))
  | inr other ↦ if-other q s w (if q == r then v else a q) other ∙ ap (λ (z : Value). if q == r then v else z) (sym (if-other q s w (a q) other))
]

abbrev pub names-saved : List (ℕ × Value) → List ℕ
names-saved l = map (λ s. s.0) l

-- what is restored anyway is not seen
pub restored-anyway : (l : List (ℕ × Value)) (a : ℕ → Value) (r : ℕ) (v : Value) → Contains (names-saved l) r → Agree (with_registers l (with_register r v a)) (with_registers l a)
restored-anyway [] a r v c = absurd (nowhere r c)
restored-anyway (n ∷ rest) a r v c = elim (cases_eq n.0 r) [
  | inl e ↦ all-agree rest (with_register n.0 n.1 (with_register r v a)) (with_register n.0 n.1 a)
      (subst (λ (k : ℕ). Agree (with_register k n.1 (with_register r v a)) (with_register k n.1 a)) (sym e) (overwrites r v n.1 a))
  | inr ne ↦ elim (Contains-append_cases (n.0 ∷ []) (names-saved rest) r c) [
    | inl first ↦ absurd (ne (the-first n.0 r first))
    | inr later ↦ λ q. all-agree rest (with_register n.0 n.1 (with_register r v a)) (with_register r v (with_register n.0 n.1 a)) (commutes r n.0 v n.1 a ne) q
        ∙ restored-anyway rest (with_register n.0 n.1 a) r v later q
  ]
]

-- what is not restored stays
pub not-restored : (l : List (ℕ × Value)) (a : ℕ → Value) (r : ℕ) (v : Value) → (Contains (names-saved l) r → ⊥) → Agree (with_registers l (with_register r v a)) (with_register r v (with_registers l a))
not-restored [] a r v h = λ q. refl
not-restored (n ∷ rest) a r v h = λ q.
    all-agree rest (with_register n.0 n.1 (with_register r v a)) (with_register r v (with_register n.0 n.1 a)) (commutes r n.0 v n.1 a (λ e. h (subst (λ (k : ℕ). Contains (n.0 ∷ names-saved rest) k) e (first-there n.0 (names-saved rest))))) q
    ∙ not-restored rest (with_register n.0 n.1 a) r v (λ c. h (later-there n.0 r (names-saved rest) c)) q

-- ---- the place of a global

same-else : (o : Option ℕ) (a b : ℕ → Value) (x y : Option Value) → Agree a b → x ≡ y → option_or (option_map a o) x ≡ option_or (option_map b o) y
same-else (Some r) a b x y h e = ap Some (h r)
same-else None a b x y h e = e

pub held-agree : (d : List (List ℕ × Directives)) (g : List ℕ) (fs : List Active) (a b : ℕ → Value) → Agree a b → held g a (web_frames d fs) ≡ held g b (web_frames d fs)
unfolding directed
held-agree d g [] a b h = refl
held-agree d g (f ∷ fs) a b h =
    same-else (register_of (webs_of d f.function) g) a b (held g (with_registers f.saved a) (web_frames d fs)) (held g (with_registers f.saved b) (web_frames d fs)) h
    (held-agree d g fs (with_registers f.saved a) (with_registers f.saved b) (all-agree f.saved a b h))

-- ---- webs of a function

pub record Kept (d : List (List ℕ × Directives)) (f g : List ℕ) (r : ℕ) : Type 0 where
  pub web : Web
  pub within : In d web f
  pub global : web.global ≡ g
  pub is : web.reg ≡ r

record Found (webs : List (Web × Role)) (g : List ℕ) (r : ℕ) : Type 0 where
  web : Web
  role : Role
  there : Contains webs (web, role)
  global : web.global ≡ g
  is : web.reg ≡ r

found-by : (b : Bool) (w : Web × Role) (rest : List (Web × Role)) (g : List ℕ) (r : ℕ) → bytes_eq w.0.global g ≡ b
    → (register_of rest g ≡ Some r → Found rest g r) → (if b then Some w.0.reg else register_of rest g) ≡ Some r → Found (w ∷ rest) g r
found-by true w rest g r e more is = record {
  web = w.0;
  role = w.1;
  there = first-there w rest;
  global = (bytes_eq-Decides w.0.global g).0 e;
  is = same_Some w.0.reg r is;
}
found-by false w rest g r e more is = let f = more is in record { web = f.web; role = f.role; there = later-there w (f.web, f.role) rest f.there; global = f.global; is = f.is }

found : (webs : List (Web × Role)) (g : List ℕ) (r : ℕ) → register_of webs g ≡ Some r → Found webs g r
found [] g r is = absurd cc
found (w ∷ rest) g r is = found-by (bytes_eq w.0.global g) w rest g r refl (found rest g r) is

has-by : (b : Bool) (h : List ℕ × Directives) (rest : List (List ℕ × Directives)) (f : List ℕ) (w : Web) (role : Role) → bytes_eq h.0 f ≡ b
    → (Contains (directives_of rest f).webs (w, role) → Has rest f w role) → Contains (if b then h.1 else directives_of rest f).webs (w, role) → Has (h ∷ rest) f w role
has-by true h rest f w role e more c = record {
  directives = h.1;
  there = subst (λ (n : List ℕ). Contains (h ∷ rest) (n, h.1)) ((bytes_eq-Decides h.0 f).0 e) (first-there h rest);
  web = c;
}
has-by false h rest f w role e more c = let r = more c in record { directives = r.directives; there = later-there h (f, r.directives) rest r.there; web = r.web }

pub has-web : (d : List (List ℕ × Directives)) (f : List ℕ) (w : Web) (role : Role) → Contains (directives_of d f).webs (w, role) → Has d f w role
has-web [] f w role c = absurd (nowhere (w, role) c)
has-web (h ∷ rest) f w role c = has-by (bytes_eq h.0 f) h rest f w role refl (has-web rest f w role) c

pub kept-in : (d : List (List ℕ × Directives)) (f : Active) (g : List ℕ) (r : ℕ) → register_of (webs_of d f.function) g ≡ Some r → Kept d f.function.name g r
kept-in d f g r e = let k = found (webs_of d f.function) g r e in record {
  web = k.web;
  within = record { role = k.role; has = has-web d f.function.name k.web k.role k.there };
  global = k.global;
  is = k.is;
}

-- ---- a web's register is written

-- no function is both an entry and a member of a web, where it is called or is `$start`
pub one-role : (g : Graph) (d : List (List ℕ × Directives)) → Sound g d → (w : Web) (f : Active) (fs : List Active) → Linked g (f ∷ fs)
    → Has d f.function.name w Entry → Has d f.function.name w Member → ⊥
one-role g d s w f [] l entry member = s.start w (subst (λ (n : List ℕ). Has d n w Member) l member)
one-role g d s w f (c ∷ fs) l entry member =
    s.entry_callers w f.function.name c.function.name entry l.0 (s.member_callers w f.function.name c.function.name member l.0)

-- the registers of the webs of which a function is a member are not among those that it saves
pub member-not-saved : (g : Graph) (d : List (List ℕ × Directives)) → Sound g d → (w : Web) (f : Active) (fs : List Active) → Linked g (f ∷ fs) → Saves d f
    → Has d f.function.name w Member → Contains (names-saved f.saved) w.reg → ⊥
member-not-saved g d s w f fs l saves member c =
    let r = saves.alone w.reg c in
    s.registers w r.0 f.function.name (record { role = Member; has = member }) (record { role = Entry; has = r.1 })
    (λ e. one-role g d s w f fs l (subst (λ (u : Web). Has d f.function.name u Entry) (sym e) r.1) member) (sym r.2)

other-place : (d : List (List ℕ × Directives)) (g : Graph) → Sound g d → (w : Web) (f : Active) (h : List ℕ) (v : Value) (a : ℕ → Value) (x y : Option Value) (o : Option ℕ)
    → In d w f.function.name → w.global ≢ h → register_of (webs_of d f.function) h ≡ o → x ≡ y → option_or (option_map (with_register w.reg v a) o) x ≡ option_or (option_map a o) y
other-place d g s w f h v a x y None i ne e same = same
other-place d g s w f h v a x y (Some r) i ne e same =
    let k = kept-in d f h r e in
    ap Some (if-other r w.reg v (a r) (λ q. s.registers w k.web f.function.name i k.within (λ u. ne (ap (λ (u : Web). u.global) u ∙ k.global)) (sym (k.is ∙ q))))

by-role : (g : Graph) (d : List (List ℕ × Directives)) → Sound g d → (w : Web) (h : List ℕ) (v : Value) (f c : Active) (fs : List Active) (a : ℕ → Value)
    → Linked g (f ∷ c ∷ fs) → Saves d f → (role : Role) → Has d f.function.name w role
    → (In d w c.function.name → (b : ℕ → Value) → held h (with_register w.reg v b) (web_frames d (c ∷ fs)) ≡ held h b (web_frames d (c ∷ fs)))
    → held h (with_registers f.saved (with_register w.reg v a)) (web_frames d (c ∷ fs)) ≡ held h (with_registers f.saved a) (web_frames d (c ∷ fs))
by-role g d s w h v f c fs a l saves Entry has below =
    held-agree d h (c ∷ fs) (with_registers f.saved (with_register w.reg v a)) (with_registers f.saved a) (restored-anyway f.saved a w.reg v (saves.entries w has))
by-role g d s w h v f c fs a l saves Member has below =
    held-agree d h (c ∷ fs) (with_registers f.saved (with_register w.reg v a)) (with_register w.reg v (with_registers f.saved a))
    (not-restored f.saved a w.reg v (member-not-saved g d s w f (c ∷ fs) l saves has))
    ∙ below (s.member_callers w f.function.name c.function.name has l.0) (with_registers f.saved a)

-- A write of a web's register, by a function that is in the web, leaves the places of all other globals.
pub other-globals-stay : (g : Graph) (d : List (List ℕ × Directives)) → Sound g d → (w : Web) (h : List ℕ) (v : Value) (f : Active) (fs : List Active) (a : ℕ → Value)
    → Linked g (f ∷ fs) → AllByRecursion (Saves d) (f ∷ fs) → In d w f.function.name → w.global ≢ h
    → held h (with_register w.reg v a) (web_frames d (f ∷ fs)) ≡ held h a (web_frames d (f ∷ fs))
unfolding directed
other-globals-stay g d s w h v f [] a l saves i ne = other-place d g s w f h v a None None (register_of (webs_of d f.function) h) i ne refl refl
other-globals-stay g d s w h v f (c ∷ fs) a l saves i ne =
    other-place d g s w f h v a (held h (with_registers f.saved (with_register w.reg v a)) (web_frames d (c ∷ fs))) (held h (with_registers f.saved a) (web_frames d (c ∷ fs)))
    (register_of (webs_of d f.function) h) i ne refl
    (by-role g d s w h v f c fs a l saves.0 i.role i.has (λ j b. other-globals-stay g d s w h v c fs b l.1 saves.1 j ne))
