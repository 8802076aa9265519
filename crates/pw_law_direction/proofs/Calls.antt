-- Where globals stand at calls and returns.
use Rattle.std.proofs.Common.{◌≡◌, ℕ, inl, inr, Option, Some, None, List, [], ◌∷◌, refl, ap, sym, ◌∙◌, subst}
use Rattle.std.specs.Prelude.{option_map, Contains}
use Rattle.std.specs.Option.{option_or}
use Rattle.std.proofs.lemmas.Bool.{cases_eq}
use Rattle.std.proofs.lemmas.List.Elements.{Contains-append_cases}
use Rattle.pw_value.specs.declared.value.Value.{Value}
use Rattle.pw_db.specs.declared.database.Web.{Web}
use Rattle.pw_db.specs.declared.database.Role.{Role}
use Rattle.pw_db.specs.declared.database.Role.TheVariants.{Entry, Member}
use Rattle.pw_db.specs.declared.database.Directives.{Directives}
use Rattle.pw_db.specs.Database.{IsDatabase}
use Rattle.pw_webflow.specs.Direction.{register_of, directed}
use Rattle.pw_db_sound.specs.CallGraphs.{Graph, Calls, Path, call, on}
use Rattle.pw_db_sound.specs.Sound.{Has, In, keeps, Sound}
use Rattle.pw_run_languages.specs.PlacedRun.{with_register, with_registers, held}
use Rattle.pw_law_direction.specs.Pairs.{Active, webs_of, web_frames}
use Rattle.pw_law_direction.specs.Alike.{Linked, Saves, names_active}
use Rattle.pw_law_direction.specs.SideBySide.{StandsAtCalls, StandsAtReturns, EntriesAreAlone, AfterSaving}
use Rattle.pw_law_direction.proofs.Elements.{nowhere, first-there, later-there, the-first}
use Rattle.pw_law_direction.proofs.Registers.{Agree, if-same, if-other, names-saved, held-agree, member-not-saved, kept-in}
use Rattle.pw_law_direction.proofs.Webs.{one-web, register-in}

-- ---- what is saved comes back

-- a register that is not restored keeps what it holds
pub left-alone : (l : List (ℕ × Value)) (a : ℕ → Value) (q : ℕ) → (Contains (names-saved l) q → ⊥) → with_registers l a q ≡ a q
left-alone [] a q h = refl
left-alone (n ∷ rest) a q h =
    left-alone rest (with_register n.0 n.1 a) q (λ c. h (later-there n.0 q (names-saved rest) c))
    ∙ if-other q n.0 n.1 (a q) (λ e. h (subst (λ (k : ℕ). Contains (n.0 ∷ names-saved rest) k) (sym e) (first-there n.0 (names-saved rest))))

-- where every saved word is what the register held, restoring gives that back
pub comes-back : (l : List (ℕ × Value)) (a b : ℕ → Value) → ((n : ℕ × Value) → Contains l n → n.1 ≡ b n.0) → ((q : ℕ) → (Contains (names-saved l) q → ⊥) → a q ≡ b q) → Agree (with_registers l a) b
comes-back [] a b saved others = λ q. others q (λ c. nowhere q c)
comes-back (n ∷ rest) a b saved others =
    comes-back rest (with_register n.0 n.1 a) b (λ m c. saved m (later-there n m rest c)) (λ q free. elim (cases_eq q n.0) [
      | inl e ↦ subst (λ (k : ℕ). with_register n.0 n.1 a k ≡ b k) (sym e) (if-same n.0 n.1 (a n.0) ∙ saved n (first-there n rest))
      | inr ne ↦ if-other q n.0 n.1 (a q) ne ∙ others q (λ c. elim (Contains-append_cases (n.0 ∷ []) (names-saved rest) q c) [
        | inl first ↦ ne (sym (the-first n.0 q first))
        | inr later ↦ free later
      ])
    ])

-- ---- calls

pub here : (d : List (List ℕ × Directives)) (f : Active) (h : List ℕ) (r : ℕ) (fs : List Active) (a : ℕ → Value) → register_of (webs_of d f.function) h ≡ Some r → held h a (web_frames d (f ∷ fs)) ≡ Some (a r)
unfolding directed
here d f h r fs a e = ap (λ (o : Option ℕ). option_or (option_map a o) (held h (with_registers f.saved a) (web_frames d fs))) e

pub further : (d : List (List ℕ × Directives)) (f : Active) (h : List ℕ) (fs : List Active) (a : ℕ → Value) → register_of (webs_of d f.function) h ≡ None
    → held h a (web_frames d (f ∷ fs)) ≡ held h (with_registers f.saved a) (web_frames d fs)
unfolding directed
further d f h fs a e = ap (λ (o : Option ℕ). option_or (option_map a o) (held h (with_registers f.saved a) (web_frames d fs))) e

-- a global of which the callee is no entry stands where it stood
stands-by : (g : Graph) (d : List (List ℕ × Directives)) (h : List ℕ) (f c : Active) (fs : List Active) (after now : ℕ → Value) → IsDatabase d → Sound g d → Linked g (f ∷ c ∷ fs)
    → Saves d f → AfterSaving f after now → ((w : Web) → w.global ≡ h → Has d f.function.name w Entry → ⊥) → (o : Option ℕ) → register_of (webs_of d f.function) h ≡ o
    → held h after (web_frames d (f ∷ c ∷ fs)) ≡ held h now (web_frames d (c ∷ fs))
stands-by g d h f c fs after now is s l saves saving none None e =
    further d f h (c ∷ fs) after e ∙ held-agree d h (c ∷ fs) (with_registers f.saved after) now (comes-back f.saved after now saving.saved saving.others)
stands-by g d h f c fs after now is s l saves saving none (Some r) e =
    let k = kept-in d f h r e in by-member g d h f c fs after now is s l saves saving none r e k.web k.global k.is k.within.role k.within.has
  where
    by-member : (g : Graph) (d : List (List ℕ × Directives)) (h : List ℕ) (f c : Active) (fs : List Active) (after now : ℕ → Value) → IsDatabase d → Sound g d → Linked g (f ∷ c ∷ fs)
        → Saves d f → AfterSaving f after now → ((w : Web) → w.global ≡ h → Has d f.function.name w Entry → ⊥) → (r : ℕ) → register_of (webs_of d f.function) h ≡ Some r
        → (w : Web) → w.global ≡ h → w.reg ≡ r → (role : Role) → Has d f.function.name w role → held h after (web_frames d (f ∷ c ∷ fs)) ≡ held h now (web_frames d (c ∷ fs))
    by-member g d h f c fs after now is s l saves saving none r e w global reg Entry has = absurd (none w global has)
    by-member g d h f c fs after now is s l saves saving none r e w global reg Member has =
        let caller : register_of (webs_of d c.function) h ≡ Some r =
        subst (λ (n : List ℕ). register_of (webs_of d c.function) n ≡ Some r) global
        (register-in d c w is (s.member_callers w f.function.name c.function.name has l.0) ∙ ap (λ (q : ℕ). Some q) reg) in
        here d f h r (c ∷ fs) after e
        ∙ ap (λ (v : Value). Some v) (saving.others r (λ there. member-not-saved g d s w f (c ∷ fs) l saves has (subst (Contains (names-saved f.saved)) (sym reg) there)))
        ∙ sym (here d c h r fs now caller)

pub stands-at-calls : StandsAtCalls
stands-at-calls g d h f c fs after now is s l saves saving none = stands-by g d h f c fs after now is s l saves saving none (register_of (webs_of d f.function) h) refl

-- ---- entries

path-then : (g : Graph) (a b c : List ℕ) → Path g a b → Calls g b c → Path g a c
path-then g a b c (call _ _ k) l = on a b c k (call b c l)
path-then g a b c (on _ via _ k q) l = on a via c k (path-then g via b c q l)

pub path-below : (g : Graph) (f : Active) (fs : List Active) (n : List ℕ) → Linked g (f ∷ fs) → Contains (names_active fs) n → Path g n f.function.name
path-below g f [] n l c = absurd (nowhere n c)
path-below g f (e ∷ fs) n l c = elim (Contains-append_cases (e.function.name ∷ []) (names_active fs) n c) [
  | inl first ↦ subst (λ (m : List ℕ). Path g m f.function.name) (the-first e.function.name n first) (call e.function.name f.function.name l.0)
  | inr later ↦ path-then g n e.function.name f.function.name (path-below g e fs n l.1 later) l.0
]

alone-by : (g : Graph) (d : List (List ℕ × Directives)) (w : Web) (f : Active) (fs : List Active) (n : List ℕ) → Sound g d → Linked g (f ∷ fs) → Has d f.function.name w Entry → Contains (names_active fs) n → In d w n → ⊥
alone-by g d w f [] n s l entry c i = nowhere n c
alone-by g d w f (e ∷ fs) n s l entry c i = elim (Contains-append_cases (e.function.name ∷ []) (names_active fs) n c) [
  | inl first ↦ s.entry_callers w f.function.name e.function.name entry l.0 (subst (λ (m : List ℕ). In d w m) (sym (the-first e.function.name n first)) i)
  | inr later ↦ s.entry_callers w f.function.name e.function.name entry l.0
      (s.between w n e.function.name f.function.name i (path-below g e fs n l.1 later) (call e.function.name f.function.name l.0) (record { role = Entry; has = entry }))
]

-- where a function enters a web, no function that is active below it is in a web of the global
pub entries-are-alone : EntriesAreAlone
entries-are-alone g d w u f fs n is s l entry c i e =
    let within : In d u f.function.name = s.references u n f.function.name i (path-below g f fs n l c) (keeps w (sym e) (record { role = Entry; has = entry })) in
    let same : u ≡ w = one-web d f.function.name u w is within (record { role = Entry; has = entry }) e in
    alone-by g d w f fs n s l entry c (subst (λ (v : Web). In d v n) same i)

-- ---- returns

returns-by : (g : Graph) (d : List (List ℕ × Directives)) (h : List ℕ) (f c : Active) (fs : List Active) (registers : ℕ → Value) → IsDatabase d → Sound g d → Linked g (f ∷ c ∷ fs) → Saves d f
    → ((w : Web) → w.global ≡ h → Has d f.function.name w Entry → ⊥) → (o : Option ℕ) → register_of (webs_of d f.function) h ≡ o
    → held h (with_registers f.saved registers) (web_frames d (c ∷ fs)) ≡ held h registers (web_frames d (f ∷ c ∷ fs))
returns-by g d h f c fs registers is s l saves none None e = sym (further d f h (c ∷ fs) registers e)
returns-by g d h f c fs registers is s l saves none (Some r) e =
    let k = kept-in d f h r e in by-member g d h f c fs registers is s l saves none r e k.web k.global k.is k.within.role k.within.has
  where
    by-member : (g : Graph) (d : List (List ℕ × Directives)) (h : List ℕ) (f c : Active) (fs : List Active) (registers : ℕ → Value) → IsDatabase d → Sound g d → Linked g (f ∷ c ∷ fs) → Saves d f
        → ((w : Web) → w.global ≡ h → Has d f.function.name w Entry → ⊥) → (r : ℕ) → register_of (webs_of d f.function) h ≡ Some r
        → (w : Web) → w.global ≡ h → w.reg ≡ r → (role : Role) → Has d f.function.name w role
        → held h (with_registers f.saved registers) (web_frames d (c ∷ fs)) ≡ held h registers (web_frames d (f ∷ c ∷ fs))
    by-member g d h f c fs registers is s l saves none r e w global reg Entry has = absurd (none w global has)
    by-member g d h f c fs registers is s l saves none r e w global reg Member has =
        let caller : register_of (webs_of d c.function) h ≡ Some r =
        subst (λ (n : List ℕ). register_of (webs_of d c.function) n ≡ Some r) global
        (register-in d c w is (s.member_callers w f.function.name c.function.name has l.0) ∙ ap (λ (q : ℕ). Some q) reg) in
        here d c h r fs (with_registers f.saved registers) caller
        ∙ ap (λ (v : Value). Some v) (left-alone f.saved registers r (λ there. member-not-saved g d s w f (c ∷ fs) l saves has (subst (Contains (names-saved f.saved)) (sym reg) there)))
        ∙ sym (here d f h r (c ∷ fs) registers e)

pub stands-at-returns : StandsAtReturns
stands-at-returns g d h f c fs registers is s l saves none = returns-by g d h f c fs registers is s l saves none (register_of (webs_of d f.function) h) refl
