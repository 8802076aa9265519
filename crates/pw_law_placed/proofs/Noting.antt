-- What both runs note of where globals stand, and how deep the stack is.
use Rattle.std.specs.Prelude.{ℕ, ◌≡◌, ◌+◌, List, [], ◌∷◌, map, Option}
use Rattle.std.proofs.Common.{refl, sym, ap, subst, ◌∙◌}
use Rattle.std.proofs.lemmas.List.Sums.{sum_by-cons}
use Rattle.pw_value.specs.declared.value.Value.{Value}
use Rattle.pw_value.specs.declared.value.Byte.{Byte}
use Rattle.pw_db.specs.declared.database.Directives.{Directives}
use Rattle.pw_alloc.specs.declared.located.Located.{Located}
use Rattle.pw_run.specs.Runs.{AreAlike, none, also, Same}
use Rattle.pw_run_languages.specs.Traces.{Standing, InMemory, InPlace, StandAlike, in_memory, in_place}
use Rattle.pw_run_languages.specs.Programs.{Program}
use Rattle.pw_run_languages.specs.PlacedRun.{Frame, depth, globals_now, name_of}
use Rattle.pw_run_languages.specs.Direction.{with_functions}
use Rattle.pw_law_placed.specs.Twins.{Active, Twin, bare_frame, placed_frame, bare_program}
use Rattle.pw_law_placed.specs.Alike.{Registers, given_back, AllWait, IsReady}
use Rattle.pw_law_placed.specs.Laws.{AllWebsAgree}
use Rattle.pw_law_placed.proofs.Standing.{globals_same}

each_alike : {M : Type 0} (F : M → M → Type 0) → ((m : M) → F m m) → (l : List M) → AreAlike F l l
each_alike F itself [] = none
each_alike F itself (m ∷ l) = also m m l l (itself m) (each_alike F itself l)

standing_alike : (s : Standing Byte Value) → StandAlike Same Same s s
standing_alike (InMemory bytes) = in_memory bytes bytes (each_alike Same (λ b. refl) bytes)
standing_alike (InPlace v) = in_place v v refl

pub standings_alike : (gs hs : List (Standing Byte Value)) → hs ≡ gs → AreAlike (StandAlike Same Same) gs hs
standings_alike gs hs e = subst (λ (l : List (Standing Byte Value)). AreAlike (StandAlike Same Same) gs l) (sym e) (each_alike (StandAlike Same Same) standing_alike gs)

module _ (p : Program) (d : List (List ℕ × Directives)) where
  pub waiting_agree : (callee : List ℕ) (result : Option ℕ) (fs : List Active) (x y : Registers) → AllWait p d callee result fs x y → AllWebsAgree fs x y
  waiting_agree callee result [] x y w = tt
  waiting_agree callee result (f ∷ fs) x y w = (w.0.gets.webs, waiting_agree f.function.body.name f.result fs (given_back f.bare x) (given_back f.placed y) w.1)

  abbrev pub bare_globals : Twin → List (Standing Byte Value)
  bare_globals x = globals_now (bare_program p d) x.registers (map bare_frame (x.frame ∷ x.callers)) x.objects

  abbrev pub placed_globals : List Located → Twin → List (Standing Byte Value)
  placed_globals ls x = globals_now (with_functions p ls) x.bank (map placed_frame (x.frame ∷ x.callers)) x.objects

  -- globals stand alike in states that are ready
  pub ready_globals : (ls : List Located) (x : Twin) (to : Option ℕ) → IsReady p d x to → AreAlike (StandAlike Same Same) (bare_globals x) (placed_globals ls x)
  ready_globals ls x to ready =
      standings_alike (bare_globals x) (placed_globals ls x)
      (globals_same (bare_program p d) (with_functions p ls) (x.frame ∷ x.callers) x.registers x.bank x.objects refl
      (ready.frame.webs, waiting_agree x.frame.function.body.name x.frame.result x.callers (given_back x.frame.bare x.registers) (given_back x.frame.placed x.bank) ready.callers))

  pub depth_same : (ls : List Located) (fs : List Active) → depth (with_functions p ls) (map placed_frame fs) ≡ depth (bare_program p d) (map bare_frame fs)
  depth_same ls [] = refl
  depth_same ls (f ∷ fs) =
      sum_by-cons (λ (g : Frame). p.frame_of (name_of g)) (placed_frame f) (map placed_frame fs)
      ∙ ap (λ (n : ℕ). p.frame_of f.function.body.name + n) (depth_same ls fs)
      ∙ sym (sum_by-cons (λ (g : Frame). p.frame_of (name_of g)) (bare_frame f) (map bare_frame fs))
