-- Under sound directives each return gives back the registers that a callee keeps, but those of webs in which the function
-- is a member.
use Rattle.std.proofs.Common.{◌≡◌, ◌⊎◌, ℕ, ◌+◌, ◌-◌, ◌<◌, ◌≤◌, ◌==◌, ◌&&◌, nat_lt, nat_le, Bool, true, false, if◌then◌else◌, List, [], ◌∷◌, length, map, refl, sym, ap, subst, ◌∙◌, arith, inl, inr}
use Rattle.std.specs.Prelude.{Some, slice_get}
use Rattle.std.proofs.lemmas.Bool.{cases_eq, eqb-true, eqb-false, ltb-true}
use Rattle.std.proofs.lemmas.Option.{slice_get-get_or}
use Rattle.std.proofs.lemmas.List.FromFn.{length-map-range_with_len, get_or-map-range_with_len}
use Rattle.pw_value.specs.ProgramNames.{start_name}
use Rattle.pw_value.specs.declared.value.Value.{Value}
use Rattle.pw_value.specs.declared.value.Value.TheVariants.{Undefined}
use Rattle.pw_files.proofs.Standing.{Has, has_map, contains_by, has_by}
use Rattle.pw_db.specs.Database.{IsDatabase}
use Rattle.pw_db.specs.Limits.{first_register, last_register, register_count, last_temporary}
use Rattle.pw_db.specs.declared.database.Web.{Web}
use Rattle.pw_db.specs.declared.database.Role.{Role}
use Rattle.pw_db.specs.declared.database.Role.TheVariants.{Entry, Member}
use Rattle.pw_db.specs.declared.database.Directives.{Directives}
use Rattle.pw_alloc.specs.Allocation.{is_entered, entered_from}
use Rattle.pw_db_sound.specs.Sound.{Sound}
use Rattle.pw_db_sound.specs.Sound.{Has as HasRole}
use Rattle.pw_run_languages.specs.Traces.{Called, Loaded, Stored, MayChange, member, KeepRegisters}
use Rattle.pw_run_languages.specs.Programs.{Program}
use Rattle.pw_run_languages.specs.LawfulPrograms.{graph_of}
use Rattle.pw_run_languages.specs.Direction.{directives_of}
use Rattle.pw_run_languages.specs.PlacedRun.{with_register, with_registers, without_scratch, kept}
use Rattle.pw_law_direction.proofs.Trails.{Log, is_kept, noted_in, entered_among, loads, stored_in, stores, Act, Registers, saves, acted, AgreeBut, nothing, Trail, begun, write, load, store, library, call, return, Last, ended, refused}
use Rattle.pw_law_direction.proofs.Entered.{enters_so, so_saved}
use Rattle.pw_law_direction.proofs.Directives.{role_there, there_role, entered_role, web_range}
use Rattle.pw_law_direction.proofs.Traffic.{Linked, linked}

-- ---- registers

pub kept_at : (regs : Registers) (r : ℕ) → first_register ≤ r → r ≤ last_register → slice_get (kept regs) (r - first_register) ≡ Some (regs r)
kept_at regs r low high =
    let count : length (kept regs) ≡ register_count = length-map-range_with_len regs first_register register_count in
    slice_get-get_or (kept regs) (r - first_register) Undefined (omega (arith, low, high, count))
    ∙ ap Some (get_or-map-range_with_len regs first_register register_count (r - first_register) r Undefined (omega (arith, low, high)) (omega (arith, low)))

scratch_by : (b c : Bool) (v w : Value) → (b ≡ true → ⊥) → (if b && c then v else w) ≡ w
scratch_by true c v w h = absurd (h refl)
scratch_by false c v w h = refl

pub scratch_keeps : (regs : Registers) (r : ℕ) → r ≤ last_register → without_scratch regs r ≡ regs r
scratch_keeps regs r le = scratch_by (nat_lt last_register r) (nat_le r last_temporary) Undefined (regs r) (λ e. let lt = ltb-true last_register r e in omega (arith, lt, le))

one_same : (b : Bool) (v x y : Value) → x ≡ y → (if b then v else x) ≡ (if b then v else y)
one_same true v x y e = refl
one_same false v x y e = e

pub with_same : (news : List (ℕ × Value)) (a b : Registers) (q : ℕ) → a q ≡ b q → with_registers news a q ≡ with_registers news b q
with_same [] a b q e = e
with_same (new ∷ rest) a b q e = with_same rest (with_register new.0 new.1 a) (with_register new.0 new.1 b) q (one_same (q == new.0) new.1 (a q) (b q) e)

one_covered : (b : Bool) (v x y : Value) → (b ≡ false → ⊥) → (if b then v else x) ≡ (if b then v else y)
one_covered true v x y h = refl
one_covered false v x y h = absurd (h refl)

pub with_covered : (news : List (ℕ × Value)) (a b : Registers) (q : ℕ) → Has q (map (λ s. s.0) news) → with_registers news a q ≡ with_registers news b q
with_covered [] a b q h = absurd h
with_covered (new ∷ rest) a b q (inl e) =
    with_same rest (with_register new.0 new.1 a) (with_register new.0 new.1 b) q (one_covered (q == new.0) new.1 (a q) (b q) (λ f. eqb-false q new.0 f (sym e)))
with_covered (new ∷ rest) a b q (inr h) = with_covered rest (with_register new.0 new.1 a) (with_register new.0 new.1 b) q h

-- what was saved comes back
one_value : (b : Bool) (v x y : Value) → (b ≡ true → v ≡ y) → (b ≡ false → x ≡ y) → (if b then v else x) ≡ y
one_value true v x y h k = h refl
one_value false v x y h k = k refl

pub saved_same : (rs : List ℕ) (a b : Registers) (q : ℕ) → b q ≡ a q → with_registers (map (λ r. (r, a r)) rs) b q ≡ a q
saved_same [] a b q e = e
saved_same (r ∷ rs) a b q e = saved_same rs a (with_register r (a r) b) q (one_value (q == r) (a r) (b q) (a q) (λ t. ap a (sym (eqb-true q r t))) (λ f. e))

pub saved_covered : (rs : List ℕ) (a b : Registers) (q : ℕ) → Has q rs → with_registers (map (λ r. (r, a r)) rs) b q ≡ a q
saved_covered [] a b q h = absurd h
saved_covered (r ∷ rs) a b q (inl e) = saved_same rs a (with_register r (a r) b) q (one_value (q == r) (a r) (b q) (a q) (λ t. ap a e) (λ f. absurd (eqb-false q r f (sym e))))
saved_covered (r ∷ rs) a b q (inr h) = saved_covered rs a (with_register r (a r) b) q h

pub written_other : (r q : ℕ) (v : Value) (regs : Registers) → (q ≡ r → ⊥) → regs q ≡ with_register r v regs q
written_other r q v regs apart = sym (one_value (q == r) v (regs q) (regs q) (λ t. absurd (apart (eqb-true q r t))) (λ f. refl))

pub has_or_not : (q : ℕ) (rs : List ℕ) → Has q rs ⊎ (Has q rs → ⊥)
has_or_not q [] = inr (λ h. h)
has_or_not q (r ∷ rs) = elim (cases_eq r q) [
  | inl e ↦ inl (inl e)
  | inr other ↦ elim (has_or_not q rs) [
    | inl h ↦ inl (inr h)
    | inr lacks ↦ inr (λ h. elim h [ inl e ↦ other e | inr k ↦ lacks k ])
  ]
]

-- ---- what a function saves

pub is_entered_by : (webs : List (Web × Role)) (w : Web) → Has (w, Entry) webs → is_entered webs w.reg ≡ true
is_entered_by webs w h = enters_so webs w w.reg (contains_by (w, Entry) webs h) refl

pub in_from : (webs : List (Web × Role)) (q : ℕ) → is_entered webs q ≡ true → (r more : ℕ) → r ≤ q → q < r + more → Has q (entered_from webs r more)
in_from webs q on r more low high = has_by q (entered_from webs r more) (so_saved webs r more q low high on)

module _ (p : Program) (d : List (List ℕ × Directives)) (base : IsDatabase d) (sound : Sound (graph_of p) d) where
  pub saves_has : (f : List ℕ) (w : Web) → HasRole d f w Entry → Has w.reg (saves (directives_of d f).webs)
  saves_has f w h =
      let range = web_range d base f w Entry h in
      in_from (directives_of d f).webs w.reg (is_entered_by (directives_of d f).webs w (role_there d base f w Entry h)) first_register register_count range.0 (omega (arith, range.1))

  -- ---- what the active functions give back

  -- what a function gives back, if it returns now, is what the registers held at its call
  abbrev Gives : Act → Registers → Type 0
  Gives a regs = (r : ℕ) → first_register ≤ r → r ≤ last_register → (MayChange d a.name r → ⊥) → slice_get a.before (r - first_register) ≡ Some (with_registers a.saved regs r)

  -- it saved the registers of the webs that it enters
  abbrev Covers : Act → Type 0
  Covers a = (w : Web) → HasRole d a.name w Entry → Has w.reg (map (λ s. s.0) a.saved)

  abbrev Banks : List Act → Registers → Type 0
  Banks [] regs = Unit {0}
  Banks (a ∷ fs) regs = Gives a regs × (Covers a × Banks fs (with_registers a.saved regs))

  banks_same : (fs : List Act) (x y : Registers) → ((r : ℕ) → r ≤ last_register → x r ≡ y r) → Banks fs x → Banks fs y
  banks_same [] x y e b = tt
  banks_same (a ∷ fs) x y e b = (
    λ r low high out. b.0 r low high out ∙ ap Some (with_same a.saved x y r (e r high)),
    (b.1.0, banks_same fs (with_registers a.saved x) (with_registers a.saved y) (λ r h. with_same a.saved x y r (e r h)) b.1.1),
  )

  -- a register of a web of the latest function changes: its entry saved it, and members down to there have it for their own
  changed : (fs : List Act) (a : Act) (w : Web) (role : Role) (x y : Registers) → HasRole d a.name w role → Linked p d base sound (a.name ∷ map (λ c. c.name) fs) → ((r : ℕ) → (r ≡ w.reg → ⊥) → x r ≡ y r) → Banks (a ∷ fs) x → Banks (a ∷ fs) y
  changed fs a w Entry x y has links e b =
      let same : (r : ℕ) → with_registers a.saved x r ≡ with_registers a.saved y r = λ r. elim (cases_eq r w.reg) [
        | inl here ↦ with_covered a.saved x y r (subst (λ (q : ℕ). Has q (map (λ (s : ℕ × Value). s.0) a.saved)) (sym here) (b.1.0 w has))
        | inr other ↦ with_same a.saved x y r (e r other)
      ] in (
        λ r low high out. b.0 r low high out ∙ ap Some (same r),
        (b.1.0, banks_same fs (with_registers a.saved x) (with_registers a.saved y) (λ r h. same r) b.1.1),
      )
  changed [] a w Member x y has links e b = (
    λ r low high out. b.0 r low high out ∙ ap Some (with_same a.saved x y r (e r (λ here. out (member (record { web = w; has = has; is = sym here }))))),
    (b.1.0, tt),
  )
  changed (c ∷ fs) a w Member x y has links e b =
      let i = sound.member_callers w a.name c.name has links.0 in (
        λ r low high out. b.0 r low high out ∙ ap Some (with_same a.saved x y r (e r (λ here. out (member (record { web = w; has = has; is = sym here }))))),
        (b.1.0, changed fs c w i.role (with_registers a.saved x) (with_registers a.saved y) i.has links.1 (λ r other. with_same a.saved x y r (e r other)) b.1.1),
      )

  -- a function that was just called
  called : (h : List ℕ) (fs : List Act) (regs now : Registers) → AgreeBut (entered_among (directives_of d h).webs) now regs → Banks fs regs → Banks (acted d h regs ∷ fs) now
  called h fs regs now agree b =
      let rs = saves (directives_of d h).webs in
      let saved = map (λ (r : ℕ). (r, regs r)) rs in
      let given : (q : ℕ) → with_registers saved now q ≡ regs q = λ q. elim (has_or_not q rs) [
        | inl there ↦ saved_covered rs regs now q there
        | inr lacks ↦ saved_same rs regs now q (agree q (λ w has is. lacks (subst (λ (r : ℕ). Has r rs) is (saves_has h w (entered_role d base h w has)))))
      ] in (
        λ r low high out. kept_at regs r low high ∙ ap Some (sym (given r)),
        (
          λ w has. has_map (λ (s : ℕ × Value). s.0) (w.reg, regs w.reg) saved (has_map (λ (r : ℕ). (r, regs r)) w.reg rs (saves_has h w has)),
          banks_same fs regs (with_registers saved now) (λ r le. sym (given r)) b,
        ),
      )

  -- ---- the law

  loaded_keeps : (b : Bool) (v : List ℕ) (l : Log) → KeepRegisters d l → KeepRegisters d (noted_in b (Loaded v) l)
  loaded_keeps true v l k = (tt, k)
  loaded_keeps false v l k = k

  loads_keep : (ws : List Web) (l : Log) → KeepRegisters d l → KeepRegisters d (loads p ws l)
  loads_keep [] l k = k
  loads_keep (w ∷ ws) l k = loads_keep ws (noted_in (is_kept p w.global) (Loaded w.global) l) (loaded_keeps (is_kept p w.global) w.global l k)

  left_keeps : (writes b : Bool) (v : List ℕ) (l : Log) → KeepRegisters d l → KeepRegisters d (if writes then noted_in b (Stored v) l else l)
  left_keeps true true v l k = (tt, k)
  left_keeps true false v l k = k
  left_keeps false b v l k = k

  stores_keep : (ws : List Web) (l : Log) → KeepRegisters d l → KeepRegisters d (stores p ws l)
  stores_keep [] l k = k
  stores_keep (w ∷ ws) l k = stores_keep ws (stored_in p w l) (left_keeps w.writes (is_kept p w.global) w.global l k)

  pub gives_back : {acts : List Act} {regs : Registers} {l : Log} → Trail p d acts regs l → Banks acts regs × KeepRegisters d l
  gives_back (begun gs rs now agree) = (called start_name [] nothing now agree tt, loads_keep (entered_among (directives_of d start_name).webs) (Called start_name gs rs ∷ []) (tt, tt))
  gives_back (write a fs regs w role v l h t) =
      let k = gives_back t in
      (changed fs a w role regs (with_register w.reg v regs) (there_role d base a.name w role h) (linked p d base sound t) (λ r other. written_other w.reg r v regs other) k.0, k.1)
  gives_back (load a fs regs v l h t) = let k = gives_back t in (k.0, (tt, k.1))
  gives_back (store a fs regs v l h t) = let k = gives_back t in (k.0, (tt, k.1))
  gives_back (library a h fs regs gs hs rs ss l e t) =
      let k = gives_back t in
      (banks_same (a ∷ fs) regs (without_scratch regs) (λ r le. sym (scratch_keeps regs r le)) k.0, ((λ r low high out. refl), (tt, k.1)))
  gives_back (call a h fs regs now gs rs l e agree t) =
      let k = gives_back t in
      (called h (a ∷ fs) regs now agree k.0, loads_keep (entered_among (directives_of d h).webs) (Called h gs rs ∷ l) (tt, k.1))
  gives_back (return a b fs regs gs l t) =
      let k = gives_back t in
      let back = with_registers b.saved regs in (
        banks_same (a ∷ fs) back (without_scratch back) (λ r le. sym (scratch_keeps back r le)) k.0.1.1,
        ((λ r low high out. kept_at (without_scratch back) r low high ∙ ap Some (scratch_keeps back r high) ∙ sym (k.0.0 r low high out)), stores_keep (entered_among (directives_of d b.name).webs) l k.1),
      )

  pub last_gives_back : {l : Log} → Last p d l → KeepRegisters d l
  last_gives_back (ended a h fs regs gs rs l e t) = (tt, (gives_back t).1)
  last_gives_back (refused a h fs regs l e t) = (tt, (gives_back t).1)
