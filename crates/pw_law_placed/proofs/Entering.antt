-- The webs that a function enters are loaded, in both runs.
use Rattle.std.specs.Prelude.{ℕ, ◌≡◌, ◌≤◌, Bool, true, false, Option, Some, None, List, [], ◌∷◌, slice_get}
use Rattle.std.proofs.Common.{refl, sym, ap, subst, ◌∙◌, inl, inr}
use Rattle.std.proofs.lemmas.Bool.{cases_eq}
use Rattle.pw_value.specs.declared.value.Value.{Value}
use Rattle.pw_files.proofs.Standing.{Has}
use Rattle.pw_db.specs.Limits.{last_register}
use Rattle.pw_db.specs.Database.{IsDatabase}
use Rattle.pw_db.specs.declared.database.Web.{Web}
use Rattle.pw_db.specs.declared.database.Role.TheVariants.{Entry}
use Rattle.pw_db.specs.declared.database.Directives.{Directives}
use Rattle.pw_webflow.specs.ValidWebs.{HasRegister}
use Rattle.pw_webflow.specs.declared.web.WebBlock.{WebBlock}
use Rattle.pw_alloc.specs.declared.located.Located.{Located}
use Rattle.pw_alloc.specs.declared.located.Place.TheVariants.{Reg}
use Rattle.pw_run.specs.Runs as run
use Rattle.pw_run.specs.Runs.{Same}
use Rattle.pw_db_sound.specs.Sound.{Sound, IsFree}
use Rattle.pw_db_sound.specs.Sound.{Has as HasRole}
use Rattle.pw_run_languages.specs.Traces.{Loaded, EventAlike, loaded, KeepRegisters}
use Rattle.pw_run_languages.specs.Programs.{Program}
use Rattle.pw_run_languages.specs.FlowRun.{get_global}
use Rattle.pw_run_languages.specs.LawfulPrograms.{graph_of}
use Rattle.pw_run_languages.specs.Direction.{with_functions}
use Rattle.pw_run_languages.specs.PlacedRun.{PlacedProgram, Machine, Step, On, Astray, kept, with_register, noted_if, is_eligible, and_then, enters_webs}
use Rattle.pw_law_direction.proofs.Banks.{written_other, is_entered_by}
use Rattle.pw_law_direction.proofs.Directives.{web_range}
use Rattle.pw_law_placed.specs.Twins.{Active, Twin, bare_side, placed_side, bare_program, bare_value, placed_value}
use Rattle.pw_law_placed.specs.Alike.{Registers, given_back, name_of, IsPlaced}
use Rattle.pw_law_placed.proofs.Places.{placed_same, place_there}
use Rattle.pw_law_placed.proofs.Writing.{with_here}
use Rattle.pw_law_placed.proofs.Webs.{web_has, web_register, covered_both, covered_same}

-- A function that still has to load some of the webs that it enters, above those that are active. The registers of its other
-- webs hold the same, and so do all its temporaries; and what it would give back is what the registers held at its call, but
-- for those that it is free to use.
pub record Entering (p : Program) (d : List (List ℕ × Directives)) (old old_bank : Registers) (below : List Active) (l : Located) (to : Option ℕ) (left : List Web) (x : Twin) : Type 0 where
  pub placed : IsPlaced p d x.frame
  pub block : WebBlock
  pub first : slice_get x.frame.function.body.blocks 0 ≡ Some block
  pub ops : x.frame.ops ≡ block.ops
  pub end : x.frame.end ≡ block.end
  pub result : x.frame.result ≡ to
  pub function : x.frame.function ≡ l
  pub webs : (r : ℕ) → HasRegister x.frame.function.body.directives r → ((w : Web) → Has w left → w.reg ≡ r → ⊥) → x.registers r ≡ x.bank r
  pub temps : (t : ℕ) → bare_value x.frame t ≡ placed_value x.frame x.bank t
  pub bare_under : (q : ℕ) → q ≤ last_register → given_back x.frame.bare x.registers q ≡ old q
  pub placed_under : (q : ℕ) → q ≤ last_register → (IsFree d (name_of x.frame) q → ⊥) → given_back x.frame.placed x.bank q ≡ old_bank q
  pub before : x.frame.placed.before ≡ kept old_bank
  pub callers : x.callers ≡ below
  pub log : run.AreAlike (EventAlike Same Same) x.trace x.notes
  pub keeps : KeepRegisters d x.notes

-- both runs come to such a state with nothing left to load, or both go astray
pub data LoadsBoth (p : Program) (d : List (List ℕ × Directives)) (old old_bank : Registers) (below : List Active) (l : Located) (to : Option ℕ) : Step → Step → Type 0 where
  all_loaded : (x : Twin) → Entering p d old old_bank below l to [] x → LoadsBoth p d old old_bank below l to (On (bare_side x)) (On (placed_side x))
  unloaded : LoadsBoth p d old old_bank below l to Astray Astray

module _ (p : Program) (d : List (List ℕ × Directives)) (base : IsDatabase d) (sound : Sound (graph_of p) d) (ls : List Located) (old old_bank : Registers) (below : List Active) (l : Located) (to : Option ℕ) where
  abbrev web_loaded : Twin → Web → Value → Twin
  web_loaded x w v = record x { registers = with_register w.reg v x.registers; bank = with_register w.reg v x.bank }

  one_loaded : (x : Twin) (w : Web) (left : List Web) (v : Value) → HasRole d (name_of x.frame) w Entry → Entering p d old old_bank below l to (w ∷ left) x → Entering p d old old_bank below l to left (web_loaded x w v)
  one_loaded x w left v role e =
      let own : HasRegister x.frame.function.body.directives w.reg = web_register p d base sound x.frame w e.placed (record { role = Entry; has = role }) in
      let range = web_range d base (name_of x.frame) w Entry role in
      let covered = covered_both p d base sound x.frame w.reg e.placed range.0 range.1
      (is_entered_by x.frame.function.body.directives.webs w (web_has p d base sound x.frame w Entry e.placed role)) in
      record {
        placed = e.placed;
        block = e.block;
        first = e.first;
        ops = e.ops;
        end = e.end;
        result = e.result;
        function = e.function;
        webs = λ r h others. elim (cases_eq r w.reg) [
          | inl here ↦ subst (λ (n : ℕ). with_register w.reg v x.registers n ≡ with_register w.reg v x.bank n) (sym here) (with_here w.reg v x.registers ∙ sym (with_here w.reg v x.bank))
          | inr other ↦ sym (written_other w.reg r v x.registers other)
              ∙ e.webs r h (λ u among same. elim among [ inl first ↦ other (sym same ∙ sym (ap (λ (a : Web). a.reg) first)) | inr later ↦ others u later same ])
              ∙ written_other w.reg r v x.bank other
        ];
        temps = λ t. e.temps t ∙ placed_same x.frame x.bank (with_register w.reg v x.bank) t (λ r there. written_other w.reg r v x.bank (λ here.
            (e.placed.serves.registers r (place_there x.frame.function.places t (Reg r) there)).1 (subst (HasRegister x.frame.function.body.directives) (sym here) own)));
        bare_under = λ q high. covered_same x.frame.bare.saved w.reg (with_register w.reg v x.registers) x.registers covered.0 (λ r other. sym (written_other w.reg r v x.registers other)) q ∙ e.bare_under q high;
        placed_under = λ q high out. covered_same x.frame.placed.saved w.reg (with_register w.reg v x.bank) x.bank covered.1 (λ r other. sym (written_other w.reg r v x.bank other)) q ∙ e.placed_under q high out;
        before = e.before;
        callers = e.callers;
        log = e.log;
        keeps = e.keeps;
      }

  abbrev noted_both : Bool → List ℕ → Twin → Twin
  noted_both true g x = record x { trace = Loaded g ∷ x.trace; notes = Loaded g ∷ x.notes }
  noted_both false g x = x

  noted_entering : (b : Bool) (g : List ℕ) (left : List Web) (x : Twin) → Entering p d old old_bank below l to left x → Entering p d old old_bank below l to left (noted_both b g x)
  noted_entering true g left x e = record {
    placed = e.placed;
    block = e.block;
    first = e.first;
    ops = e.ops;
    end = e.end;
    result = e.result;
    function = e.function;
    webs = e.webs;
    temps = e.temps;
    bare_under = e.bare_under;
    placed_under = e.placed_under;
    before = e.before;
    callers = e.callers;
    log = run.also (Loaded g) (Loaded g) x.trace x.notes (loaded g) e.log;
    keeps = (tt, e.keeps);
  }
  noted_entering false g left x e = e

  bare_noted : (b : Bool) (g : List ℕ) (x : Twin) → noted_if b (Loaded g) (bare_side x) ≡ bare_side (noted_both b g x)
  bare_noted true g x = refl
  bare_noted false g x = refl

  placed_noted : (b : Bool) (g : List ℕ) (x : Twin) → noted_if b (Loaded g) (placed_side x) ≡ placed_side (noted_both b g x)
  placed_noted true g x = refl
  placed_noted false g x = refl

  same_name : (b : Bool) (g : List ℕ) (x : Twin) → name_of (noted_both b g x).frame ≡ name_of x.frame
  same_name true g x = refl
  same_name false g x = refl

  abbrev loaded_by : PlacedProgram → Web → Machine → Option Value → Step
  loaded_by q w m (Some v) = On (noted_if (is_eligible q w.global) (Loaded w.global) (record m { registers = with_register w.reg v m.registers }))
  loaded_by q w m None = Astray

  pub loads_both : (ws : List Web) (x : Twin) → ((w : Web) → Has w ws → HasRole d (name_of x.frame) w Entry) → Entering p d old old_bank below l to ws x
      → LoadsBoth p d old old_bank below l to (enters_webs (bare_program p d) ws (bare_side x)) (enters_webs (with_functions p ls) ws (placed_side x))
  loads_both [] x roles e = all_loaded x e
  loads_both (w ∷ ws) x roles e = by_value (get_global p w.global w.kind x.objects) (loads_both ws) where
    b : Bool
    b = is_eligible (bare_program p d) w.global

    by_value : (v : Option Value) → ((y : Twin) → ((u : Web) → Has u ws → HasRole d (name_of y.frame) u Entry) → Entering p d old old_bank below l to ws y
        → LoadsBoth p d old old_bank below l to (enters_webs (bare_program p d) ws (bare_side y)) (enters_webs (with_functions p ls) ws (placed_side y)))
        → LoadsBoth p d old old_bank below l to (and_then (loaded_by (bare_program p d) w (bare_side x) v) (enters_webs (bare_program p d) ws)) (and_then (loaded_by (with_functions p ls) w (placed_side x) v) (enters_webs (with_functions p ls) ws))
    by_value (Some v) rest =
        let y : Twin = web_loaded x w v in
        subst (λ (m : Machine). LoadsBoth p d old old_bank below l to (enters_webs (bare_program p d) ws m) (enters_webs (with_functions p ls) ws (noted_if b (Loaded w.global) (placed_side y)))) (sym (bare_noted b w.global y))
        (subst (λ (m : Machine). LoadsBoth p d old old_bank below l to (enters_webs (bare_program p d) ws (bare_side (noted_both b w.global y))) (enters_webs (with_functions p ls) ws m)) (sym (placed_noted b w.global y))
        (rest (noted_both b w.global y)
        (λ u among. subst (λ (n : List ℕ). HasRole d n u Entry) (sym (same_name b w.global y)) (roles u (inr among)))
        (noted_entering b w.global ws y (one_loaded x w ws v (roles w (inl refl)) e))))
    by_value None rest = unloaded
