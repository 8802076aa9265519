-- A register that a function saves for others is none that it may leave with something else in it.
use Rattle.std.proofs.Common.{◌≡◌, ℕ, ◌≤◌, List, sym, subst, ◌∙◌}
use Rattle.std.specs.Prelude.{Contains}
use Rattle.pw_files.proofs.Standing.{has_by, has_each}
use Rattle.pw_db.specs.Limits.{first_register, last_register}
use Rattle.pw_db.specs.Database.{IsDirectives, IsDatabase}
use Rattle.pw_db.specs.declared.database.Directives.{Directives}
use Rattle.pw_db.proofs.Keeping.{kept_from}
use Rattle.pw_db_sound.specs.CallGraphs.{Graph}
use Rattle.pw_db_sound.specs.Sound.{Sound, IsSaver}
use Rattle.pw_image.specs.declared.image.Image.{Image}
use Rattle.pw_run_languages.specs.Traces.{MayChange, member, free}
use Rattle.pw_run_languages.proofs.Directives.{one_directives}
use Rattle.pw_law_analysis.specs.ImageRegisters.{CallsKeepRegisters, SavedRegistersComeBack}

module _ (g : Graph) (d : List (List ℕ × Directives)) (base : IsDatabase d) (sound : Sound g d) (f : List ℕ) (r : ℕ) (s : IsSaver d f r) where
  lawful : IsDirectives s.directives
  lawful = has_each (λ (x : List ℕ × Directives). IsDirectives x.1) d (f, s.directives) base.directives (has_by (f, s.directives) d s.there)

  stays : MayChange d f r → ⊥
  stays (member m) = sound.saves f r s m.web m.has m.is
  stays (free directives there among) =
      let same : directives ≡ s.directives = sym (one_directives d base f directives there) ∙ one_directives d base f s.directives s.there in
      has_each (λ (q : ℕ). ¬ Contains s.directives.free q) s.directives.saves r lawful.apart (has_by r s.directives.saves s.register)
      (subst (λ (x : Directives). Contains x.free r) same among)

  within : (first_register ≤ r) × (r ≤ last_register)
  within = kept_from first_register s.directives.saves r lawful.saves (has_by r s.directives.saves s.register)

pub saved_come_back : (g : Graph) (d : List (List ℕ × Directives)) (v : Image) (input : List ℕ) → IsDatabase d → Sound g d → CallsKeepRegisters d v input → SavedRegistersComeBack d v input
saved_come_back g d v input base sound keeps f n m called returned call r s =
    let bounds = within g d base sound f r s in
    keeps f n m called returned call r bounds.0 bounds.1 (stays g d base sound f r s)
