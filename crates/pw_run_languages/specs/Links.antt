-- Where return addresses stand in memory while functions are active: each function keeps its own in the frame of its
-- caller, below the stack pointer at its call.
use Rattle.std.specs.Prelude.{ℕ, ◌≡◌, ◌≤◌, ◌-◌, List, [], ◌∷◌, ◌++◌}
use Rattle.pw_inst.specs.declared.relocation.Symbol.TheVariants as symbol
use Rattle.pw_alloc.specs.Frames.{link_place}
use Rattle.pw_delay.specs.declared.items.Item.{Item}
use Rattle.pw_delay.specs.declared.items.Turn.TheVariants.{CallTo, CallReg}
use Rattle.pw_delay.specs.declared.items.Item.TheVariants.{Turns}
use Rattle.pw_run_languages.specs.Addresses.{Addresses}
use Rattle.pw_run_languages.specs.Acts.{Core, number_at}
use Rattle.pw_run_languages.specs.LineRun.{LineProgram, Frame, Machine, On, return_address, steps, start}

-- For each of these active functions, the innermost first, the address at which its caller goes on. The first function of
-- a run has no caller.
abbrev pub LinksStand : Addresses → Core → List Frame → Type 0
LinksStand w c [] = Unit {0}
LinksStand w c (f ∷ []) = Unit {0}
LinksStand w c (f ∷ caller ∷ callers) =
    (number_at 4 c.memory (f.stack - link_place) ≡ return_address w caller caller.left) × LinksStand w c (caller ∷ callers)

-- a function stands at its first item
abbrev pub Begins : Frame → Type 0
Begins f = f.left ≡ f.function.items

-- a turn that calls a function
abbrev pub IsFunctionCall : Item → Type 0
IsFunctionCall (Turns (CallTo (symbol.Named f) link) slot) = Unit {0}
IsFunctionCall (Turns CallReg slot) = Unit {0}
IsFunctionCall _ = ⊥

-- it stands directly behind a call of a function
pub record GoesOn (f : Frame) : Type 0 where
  pub before : List Item
  pub item : Item
  pub call : IsFunctionCall item
  pub items : f.function.items ≡ before ++ item ∷ f.left

-- At a call the callers have their return addresses in memory; at a return, the function that goes on has its own too.
pub record HasLinks (w : Addresses) (m : Machine) : Type 0 where
  pub at_call : Begins m.frame → LinksStand w m.core m.callers
  pub at_return : GoesOn m.frame → LinksStand w m.core (m.frame ∷ m.callers)

-- each state of a run up to so many steps has its links
abbrev pub HaveLinks : LineProgram → Addresses → (ℕ → (ℕ → ℕ) → ℕ → ℕ) → List ℕ → ℕ → Type 0
HaveLinks p w scratch input n =
    (k : ℕ) (m : Machine) → k ≤ n → steps p w scratch k (start p w input) ≡ On m → HasLinks w m
