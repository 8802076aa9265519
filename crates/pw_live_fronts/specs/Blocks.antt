-- What a block does to what is needed behind it.
use Rattle.std.specs.Prelude.{ℕ, ◌<◌, ◌≤◌, ◌&&◌, ◌||◌, not, Bool, IfSome, List, [], ◌∷◌, length}
use Rattle.std.specs.List.{AllByRecursion, list_any}
use Rattle.pw_flow.specs.Outline.{Act, Stretch, Outline}
use Rattle.pw_live.specs.Liveness.{has, is_that}

-- whether it uses the temporary before it defines it
abbrev pub uses_first : ℕ → List Act → List ℕ → Bool
uses_first t [] uses = has t uses
uses_first t (a ∷ acts) uses = has t a.uses || (not (is_that a.defines t) && uses_first t acts uses)

-- whether some of its operations defines it
abbrev pub defines_any : ℕ → List Act → Bool
defines_any t acts = list_any (λ a. is_that a.defines t) acts

-- ---- outlines whose temporaries and blocks are those of the function

pub record IsAct (temps : ℕ) (a : Act) : Type 0 where
  pub defines : IfSome a.defines (λ t. t < temps)
  pub uses : AllByRecursion (λ t. t < temps) a.uses

pub record IsStretch (temps blocks : ℕ) (s : Stretch) : Type 0 where
  pub acts : AllByRecursion (IsAct temps) s.acts
  pub uses : AllByRecursion (λ t. t < temps) s.uses
  pub next : AllByRecursion (λ b. b < blocks) s.next

pub record IsOutline (f : Outline) : Type 0 where
  pub params : f.params ≤ f.temps
  pub blocks : AllByRecursion (IsStretch f.temps (length f.blocks)) f.blocks
