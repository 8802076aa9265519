-- The parameters of a function that was called, which are its first temporaries.
use Rattle.std.specs.Prelude.{ℕ, suc, ◌≡◌, ◌≤◌, ◌<◌, ◌+◌, ◌-◌, Option, Some, None, List, [], ◌∷◌, length, slice_get, Contains}
use Rattle.std.proofs.Common.{◌⊎◌, arith, refl, sym, ap, subst, ◌∙◌, inl, inr}
use Rattle.std.proofs.lemmas.Bool.{cases_eq}
use Rattle.std.proofs.lemmas.List.Elements.{Contains-get_or}
use Rattle.std.proofs.lemmas.Option.{slice_get_within, get_or_from_slice_get}
use Rattle.pw_value.specs.declared.value.Value.{Value}
use Rattle.pw_value.specs.ProgramNames.{start_name}
use Rattle.pw_db.specs.Limits.{first_register, last_register}
use Rattle.pw_db.specs.declared.database.Directives.{Directives}
use Rattle.pw_webflow.specs.ValidWebs.{HasRegister}
use Rattle.pw_webflow.specs.declared.web.WebOp.{WebOp}
use Rattle.pw_webflow.specs.declared.web.WebBlock.{WebBlock}
use Rattle.pw_alloc.specs.declared.located.Place.TheVariants.{Reg}
use Rattle.pw_alloc.specs.declared.located.Located.{Located}
use Rattle.pw_run.specs.Runs as run
use Rattle.pw_run.specs.Runs.{Same}
use Rattle.pw_db_sound.specs.CallGraphs.{Calls}
use Rattle.pw_db_sound.specs.Sound.{IsFree}
use Rattle.pw_run_languages.specs.Traces.{EventAlike, KeepRegisters}
use Rattle.pw_run_languages.specs.Programs.{Program}
use Rattle.pw_run_languages.specs.LawfulPrograms.{graph_of}
use Rattle.pw_run_languages.specs.PlacedRun.{Machine, kept, with_parameters}
use Rattle.pw_run_languages.specs.Serving.{Live, Interfere, by_start, parameters}
use Rattle.pw_law_direction.proofs.Banks.{kept_at, with_same, written_other}
use Rattle.pw_law_placed.specs.Twins.{Active, Twin, bare_side, placed_side, bare_value, placed_value}
use Rattle.pw_law_placed.specs.Alike.{Registers, given_back, name_of, IsPlaced, LeavesIt, Runs, AllWait, IsCalling, IsAlike}
use Rattle.pw_law_placed.proofs.Places.{register_of_place, place_there}
use Rattle.pw_law_placed.proofs.Writing.{puts, bare_puts, placed_puts, own_put, other_put, put_placed, given_same, of_register}
use Rattle.pw_law_placed.proofs.Free.{not_free}
use Rattle.pw_law_placed.proofs.Waiting.{back_same, gets_kept, waiting_same}

-- Its webs hold the same in both runs, and so do its parameters and what is needed of its first block. What it would give back is
-- what the registers held at its call, but for those that it is free to use.
pub record Receiving (p : Program) (d : List (List ℕ × Directives)) (old old_bank : Registers) (below : List Active) (l : Located) (to : Option ℕ) (x : Twin) : Type 0 where
  pub placed : IsPlaced p d x.frame
  pub block : WebBlock
  pub first : slice_get x.frame.function.body.blocks 0 ≡ Some block
  pub ops : x.frame.ops ≡ block.ops
  pub end : x.frame.end ≡ block.end
  pub result : x.frame.result ≡ to
  pub function : x.frame.function ≡ l
  pub webs : (r : ℕ) → HasRegister x.frame.function.body.directives r → x.registers r ≡ x.bank r
  pub temps : (t : ℕ) → (t < x.frame.function.body.params) ⊎ Live x.frame.function.body t block.ops block.end → bare_value x.frame t ≡ placed_value x.frame x.bank t
  pub bare_under : (q : ℕ) → q ≤ last_register → given_back x.frame.bare x.registers q ≡ old q
  pub placed_under : (q : ℕ) → q ≤ last_register → (IsFree d (name_of x.frame) q → ⊥) → given_back x.frame.placed x.bank q ≡ old_bank q
  pub before : x.frame.placed.before ≡ kept old_bank
  pub callers : x.callers ≡ below
  pub log : run.AreAlike (EventAlike Same Same) x.trace x.notes
  pub keeps : KeepRegisters d x.notes

module _ (p : Program) (d : List (List ℕ × Directives)) (old old_bank : Registers) (below : List Active) (l : Located) (to : Option ℕ) where
  -- a parameter is in no place of another temporary that is needed at the start
  interfere : (x : Twin) (t u : ℕ) (e : Receiving p d old old_bank below l to x) → t < x.frame.function.body.params → (t ≡ u → ⊥)
      → (u < x.frame.function.body.params) ⊎ Live x.frame.function.body u e.block.ops e.block.end → Interfere x.frame.function.body t u
  interfere x t u e low apart (inl also) = parameters low also apart
  interfere x t u e low apart (inr lives) = by_start e.block e.first low lives apart

  other_place : (x : Twin) (t u r : ℕ) (e : Receiving p d old old_bank below l to x) → t < x.frame.function.body.params → (t ≡ u → ⊥)
      → (u < x.frame.function.body.params) ⊎ Live x.frame.function.body u e.block.ops e.block.end
      → slice_get x.frame.function.places t ≡ Some (Reg r) → slice_get x.frame.function.places u ≡ Some (Reg r) → ⊥
  other_place x t u r e low apart needed here there =
      let within = slice_get_within x.frame.function.places u (Reg r) there in
      let count = e.placed.serves.count in
      e.placed.serves.apart t u (omega (arith, within, count)) (interfere x t u e low apart needed) (there ∙ sym here)

  -- one gets its value
  one_received : (x : Twin) (t : ℕ) (v : Value) (o : Option ℕ) → register_of_place (slice_get x.frame.function.places t) ≡ o → t < x.frame.function.body.params
      → Receiving p d old old_bank below l to x → Receiving p d old old_bank below l to (puts x t v o)
  one_received x t v (Some r) is low e =
      let there = of_register (slice_get x.frame.function.places t) r is in
      record {
        placed = put_placed p d x t v (Some r) e.placed;
        block = e.block;
        first = e.first;
        ops = e.ops;
        end = e.end;
        result = e.result;
        function = e.function;
        webs = λ q h. e.webs q h ∙ written_other r q v x.bank (λ same.
            (e.placed.serves.registers r (place_there x.frame.function.places t (Reg r) there)).1 (subst (HasRegister x.frame.function.body.directives) same h));
        temps = λ u needed. elim (cases_eq t u) [
          | inl same ↦ subst (λ (n : ℕ). bare_value (puts x t v (Some r)).frame n ≡ placed_value (puts x t v (Some r)).frame (puts x t v (Some r)).bank n) same (own_put p d x t v (Some r) is e.placed)
          | inr other ↦ other_put x t u v (Some r) is other (λ q here h. other_place x t u q e low other needed here h) (e.temps u needed)
        ];
        bare_under = e.bare_under;
        placed_under = λ q high out. given_same p d x.frame t r q v x.bank e.placed there high out ∙ e.placed_under q high out;
        before = e.before;
        callers = e.callers;
        log = e.log;
        keeps = e.keeps;
      }
  one_received x t v None is low e = record {
    placed = put_placed p d x t v None e.placed;
    block = e.block;
    first = e.first;
    ops = e.ops;
    end = e.end;
    result = e.result;
    function = e.function;
    webs = e.webs;
    temps = λ u needed. elim (cases_eq t u) [
      | inl same ↦ subst (λ (n : ℕ). bare_value (puts x t v None).frame n ≡ placed_value (puts x t v None).frame (puts x t v None).bank n) same (own_put p d x t v None is e.placed)
      | inr other ↦ other_put x t u v None is other (λ q here h. other_place x t u q e low other needed here h) (e.temps u needed)
    ];
    bare_under = e.bare_under;
    placed_under = e.placed_under;
    before = e.before;
    callers = e.callers;
    log = e.log;
    keeps = e.keeps;
  }

  -- both runs with all of them
  pub record Received (k : ℕ) (args : List Value) (x : Twin) : Type 0 where
    pub twin : Twin
    pub bare : with_parameters k args (bare_side x) ≡ bare_side twin
    pub full : with_parameters k args (placed_side x) ≡ placed_side twin
    pub receiving : Receiving p d old old_bank below l to twin

  same_params : (x : Twin) (t : ℕ) (v : Value) (o : Option ℕ) → (puts x t v o).frame.function.body.params ≡ x.frame.function.body.params
  same_params x t v (Some r) = refl
  same_params x t v None = refl

  pub all_received : (args : List Value) (k : ℕ) (x : Twin) → k + length args ≡ x.frame.function.body.params → Receiving p d old old_bank below l to x → Received k args x
  all_received [] k x count e = record { twin = x; bare = refl; full = refl; receiving = e }
  all_received (v ∷ vs) k x count e =
      let o : Option ℕ = register_of_place (slice_get x.frame.function.places k) in
      let y : Twin = puts x k v o in
      let r = all_received vs (suc k) y (omega (arith, count, same_params x k v o)) (one_received x k v o refl (omega (arith, count)) e) in
      record {
        twin = r.twin;
        bare = ap (λ (m : Machine). with_parameters (suc k) vs m) (bare_puts x k v o) ∙ r.bare;
        full = ap (λ (m : Machine). with_parameters (suc k) vs m) (placed_puts x k v) ∙ r.full;
        receiving = r.receiving;
      }

  first_there_block : (x : Twin) (e : Receiving p d old old_bank below l to x) → Contains x.frame.function.body.blocks e.block
  first_there_block x e =
      subst (Contains x.frame.function.body.blocks) (get_or_from_slice_get x.frame.function.body.blocks 0 e.block e.block e.first)
      (Contains-get_or x.frame.function.body.blocks 0 e.block (slice_get_within x.frame.function.body.blocks 0 e.block e.first))

  -- then it runs
  pub received_runs : (x : Twin) → Receiving p d old old_bank below l to x → Runs p d x.frame x.registers x.bank
  received_runs x e = record {
    placed = e.placed;
    inside = record { block = e.block; there = first_there_block x e; before = []; ops = sym e.ops; is = sym e.end };
    webs = e.webs;
    temps = λ t lives. e.temps t (inr (subst (λ (ops : List WebOp). Live x.frame.function.body t ops e.block.end) e.ops
        (subst (λ end. Live x.frame.function.body t x.frame.ops end) e.end lives)));
    gives = λ q low high out.
        ap (λ (vs : List Value). slice_get vs (q - first_register)) e.before ∙ kept_at old_bank q low high ∙ ap Some (sym (e.placed_under q high (not_free p d (name_of x.frame) q out)));
  }

module _ (p : Program) (d : List (List ℕ × Directives)) where
  -- above its caller both states are alike
  pub received_alike : (was : Twin) (l : Located) (to : Option ℕ) (x : Twin) → IsCalling p d was to → Calls (graph_of p) (name_of was.frame) l.body.name
      → ((r : ℕ) → IsFree d l.body.name r → LeavesIt was.frame.function.body.directives r) → Receiving p d was.registers was.bank (was.frame ∷ was.callers) l to x → IsAlike p d x
  unfolding gets_kept
  received_alike was l to x c edge leaves e = record {
    frame = received_runs p d was.registers was.bank (was.frame ∷ was.callers) l to x e;
    callers = subst (λ (fs : List Active). AllWait p d (name_of x.frame) x.frame.result fs (given_back x.frame.bare x.registers) (given_back x.frame.placed x.bank)) (sym e.callers)
        (subst (λ (o : Option ℕ). AllWait p d (name_of x.frame) o (was.frame ∷ was.callers) (given_back x.frame.bare x.registers) (given_back x.frame.placed x.bank)) (sym e.result) (
          record {
            edge = subst (λ (f : Located). Calls (graph_of p) (name_of was.frame) f.body.name) (sym e.function) edge;
            alone = alone;
            gets = gets_kept p d (IsFree d (name_of x.frame)) was.frame to was.registers was.bank (given_back x.frame.bare x.registers) (given_back x.frame.placed x.bank) c.ready.frame c.calls alone e.bare_under e.placed_under;
            calls = c.calls;
          },
          waiting_same p d (name_of was.frame) was.frame.result was.callers (given_back was.frame.bare was.registers) (given_back was.frame.placed was.bank)
              (given_back was.frame.bare (given_back x.frame.bare x.registers)) (given_back was.frame.placed (given_back x.frame.placed x.bank))
              (λ r high. with_same was.frame.bare.saved (given_back x.frame.bare x.registers) was.registers r (e.bare_under r high))
              (λ r high out. back_same p d (IsFree d (name_of x.frame)) was.frame was.bank (given_back x.frame.placed x.bank) c.ready.frame.placed alone e.placed_under r high out) c.ready.callers,
        ));
    log = e.log;
    kept = e.keeps;
  } where
    alone : (r : ℕ) → IsFree d (name_of x.frame) r → LeavesIt was.frame.function.body.directives r
    alone r free = leaves r (subst (λ (f : Located). IsFree d f.body.name r) e.function free)

  -- above none it is `$start`
  pub started_alike : (old old_bank : Registers) (l : Located) (x : Twin) → l.body.name ≡ start_name → Receiving p d old old_bank [] l None x → IsAlike p d x
  started_alike old old_bank l x name e = record {
    frame = received_runs p d old old_bank [] l None x e;
    callers = subst (λ (fs : List Active). AllWait p d (name_of x.frame) x.frame.result fs (given_back x.frame.bare x.registers) (given_back x.frame.placed x.bank)) (sym e.callers)
        (ap (λ (f : Located). f.body.name) e.function ∙ name);
    log = e.log;
    kept = e.keeps;
  }
