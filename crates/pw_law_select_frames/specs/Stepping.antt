-- States of both runs that stand whole: what follows for their frames, and what an operation leaves.
use Rattle.std.specs.Prelude.{ℕ, ◌≡◌, ◌+◌, ◌<◌, List, ◌∷◌, length, sum_by}
use Rattle.std.specs.List.{AllByRecursion}
use Rattle.pw_inst.specs.Registers.{stack_pointer}
use Rattle.pw_webflow.specs.declared.web.WebOp.{WebOp}
use Rattle.pw_alloc.specs.declared.located.Located.{Located}
use Rattle.pw_run_languages.specs.Programs.{Program}
use Rattle.pw_run_languages.specs.Addresses.{Addresses, AreLawful}
use Rattle.pw_run_languages.specs.Acts.{register}
use Rattle.pw_run_languages.specs.LineRun as run
use Rattle.pw_run_languages.specs.Links.{LinksStand}
use Rattle.pw_run_languages.specs.PlacedRun as placed
use Rattle.pw_run_languages.specs.SelectionLaws.{line_program}
use Rattle.pw_law_select_states.specs.Laid.{address, Lives, size_of}
use Rattle.pw_law_select_states.specs.Passes.{Follows, further}
use Rattle.pw_law_select_states.specs.Pointers.{AreKnown}
use Rattle.pw_law_select_frames.specs.Blocks.{items_from}
use Rattle.pw_law_select_frames.specs.Chain.{AllActive, BothStand, frame_top}
use Rattle.pw_law_select_frames.specs.Extending.{KeepsObjects}

-- every function that is active is so in both runs
abbrev pub AllAreActive : Type 0
AllAreActive =
    (p : Program) (w : Addresses) (site : ℕ → ℕ) (m : placed.Machine) (l : run.Machine) → BothStand p w site m l
    → AllActive (address p w site) l.core.memory (m.frame ∷ m.callers) (l.frame ∷ l.callers)

-- the return addresses of all stand in memory
abbrev pub ReturnAddressesStand : Type 0
ReturnAddressesStand =
    (p : Program) (w : Addresses) (site : ℕ → ℕ) (m : placed.Machine) (l : run.Machine) → BothStand p w site m l → LinksStand w l.core (l.frame ∷ l.callers)

-- the stack pointer is so far above the base as the frames come to
abbrev pub FramesAreStacked : Type 0
FramesAreStacked =
    (p : Program) (w : Addresses) (site : ℕ → ℕ) (m : placed.Machine) (l : run.Machine) → BothStand p w site m l
    → AllByRecursion (λ (f : placed.Frame). p.frame_of f.function.body.name ≡ f.function.frame) (m.frame ∷ m.callers)
    → frame_top m.frame l.frame ≡ w.base + sum_by (λ (f : placed.Frame). p.frame_of f.function.body.name) (m.frame ∷ m.callers)

-- all objects that live stand below the stack pointer
abbrev pub ObjectsStandBelow : Type 0
ObjectsStandBelow =
    (p : Program) (w : Addresses) (site : ℕ → ℕ) (m : placed.Machine) (l : run.Machine) → AreLawful p w → BothStand p w site m l
    → (o : ℕ) → Lives m.objects o → site o + size_of m.objects o < register l.core stack_pointer

-- An operation that calls nothing leaves a state that stands whole, where objects stay what they are but for their bytes.
abbrev pub OperationsGoOn : Type 0
OperationsGoOn =
    (p : Program) (w : Addresses) (functions : List Located) (scratch : ℕ → (ℕ → ℕ) → ℕ → ℕ) (site : ℕ → ℕ) (m n : placed.Machine) (l : run.Machine) (o : WebOp) (ops : List WebOp)
    → AreLawful p w → BothStand p w site m l → AreKnown p m → m.frame.ops ≡ o ∷ ops
    → (follows : Follows p (line_program p functions) w scratch site (record m { frame = record m.frame { ops = ops } }) n l (items_from m.frame.function m.frame.block ops m.frame.end))
    → KeepsObjects site site m.objects n.objects → length n.objects ≡ length m.objects → length n.frame.temps ≡ length m.frame.temps
    → BothStand p w site n (further (items_from m.frame.function m.frame.block ops m.frame.end) follows.core follows.passes.more follows.log l)
