-- When places serve a function: no value is lost that is still needed. What is needed is said by paths over what is
-- left of the code.
use Rattle.std.specs.Prelude.{ℕ, true, ◌≡◌, ◌≢◌, ◌≤◌, ◌<◌, Some, List, [], ◌∷◌, ◌++◌, length, slice_get, Contains, ◌↔◌}
use Rattle.pw_db.specs.Limits.{first_register, last_register, last_temporary}
use Rattle.pw_db.specs.Database.{EachTwo}
use Rattle.pw_db.specs.declared.database.Role.{Role}
use Rattle.pw_db.specs.declared.database.Web.{Web}
use Rattle.pw_db.specs.declared.database.Role.TheVariants.{Entry}
use Rattle.pw_flow.specs.declared.flow.End.{End}
use Rattle.pw_flow.specs.Uses.{end_uses, successors}
use Rattle.pw_webflow.specs.declared.web.WebOp.{WebOp}
use Rattle.pw_webflow.specs.declared.web.WebBlock.{WebBlock}
use Rattle.pw_webflow.specs.declared.web.WebFn.{WebFn}
use Rattle.pw_webflow.specs.ValidWebs.{HasRegister}
use Rattle.pw_webflow.specs.WebOutline.{uses, defines, calls}
use Rattle.pw_alloc.specs.declared.located.Place.{Place}
use Rattle.pw_alloc.specs.declared.located.Place.TheVariants.{Slot, Reg}
use Rattle.pw_alloc.specs.declared.located.Located.{Located}
use Rattle.pw_alloc.specs.Allocation.{slots_from}
use Rattle.pw_alloc.specs.Frames.{head_size, slots_begin, last_reach}

-- ---- what is needed

-- some path from what is left of a block leads to a use of the temporary with no definition of it before
pub data Live (f : WebFn) (t : ℕ) : List WebOp → End → Type 0 where
  used : (o : WebOp) (ops : List WebOp) (end : End) → Contains (uses o) t → Live f t (o ∷ ops) end
  past : (o : WebOp) (ops : List WebOp) (end : End) → defines o ≢ Some t → Live f t ops end → Live f t (o ∷ ops) end
  at_end : (end : End) → Contains (end_uses end) t → Live f t [] end
  on : (end : End) (b : ℕ) (block : WebBlock) → Contains (successors end) b → slice_get f.blocks b ≡ Some block
      → Live f t block.ops block.end → Live f t [] end

-- an operation of a block, and what is left behind it
pub record StandsIn (f : WebFn) (o : WebOp) (after : List WebOp) (end : End) : Type 0 where
  pub block : WebBlock
  pub there : Contains f.blocks block
  pub before : List WebOp
  pub ops : block.ops ≡ before ++ o ∷ after
  pub is : block.end ≡ end

-- one is defined where the other is needed directly after; the start defines all parameters, and any two of them
-- interfere
pub data Interfere (f : WebFn) (d t : ℕ) : Type 0 where
  by_operation : (o : WebOp) (after : List WebOp) (end : End) → StandsIn f o after end → defines o ≡ Some d
      → Live f t after end → d ≢ t → Interfere f d t
  by_start : (block : WebBlock) → slice_get f.blocks 0 ≡ Some block → d < f.params → Live f t block.ops block.end
      → d ≢ t → Interfere f d t
  parameters : d < f.params → t < f.params → d ≢ t → Interfere f d t

-- it is needed directly after a call that does not define it
pub record IsHeld (f : WebFn) (t : ℕ) : Type 0 where
  pub op : WebOp
  pub after : List WebOp
  pub end : End
  pub there : StandsIn f op after end
  pub call : calls op ≡ true
  pub lives : Live f t after end
  pub other : defines op ≢ Some t

-- ---- places

-- the registers that temporaries may have; of these a callee keeps the ones that webs may have
pub record IsTempRegister (r : ℕ) : Type 0 where
  pub low : first_register ≤ r
  pub high : r ≤ last_temporary

-- A call leaves the place as it is: a word of the frame, or a register that a callee keeps and that neither this function
-- nor one below it is free to use.
abbrev pub IsKeptOver : WebFn → Place → Type 0
IsKeptOver f (Reg r) = (first_register ≤ r) × (r ≤ last_register) × (¬ Contains f.directives.free r) × (¬ Contains f.directives.saves r)
IsKeptOver f (Slot offset) = Unit {0}

-- the places that are words of the frame
abbrev pub slots_alone : List Place → List Place
slots_alone [] = []
slots_alone (Slot offset ∷ rest) = Slot offset ∷ slots_alone rest
slots_alone (Reg r ∷ rest) = slots_alone rest

-- the register of a web in which the function has the role
pub record HasWebIn (f : WebFn) (role : Role) (r : ℕ) : Type 0 where
  pub web : Web
  pub there : Contains f.directives.webs (web, role)
  pub is : web.reg ≡ r

-- a register that the function has to save: a temporary's that is not free, that of a web that it enters, or one for the
-- functions below it
pub data Changes (f : WebFn) (l : Located) (r : ℕ) : Type 0 where
  places : Contains l.places (Reg r) → r ≤ last_register → ¬ Contains f.directives.free r → Changes f l r
  enters : HasWebIn f Entry r → Changes f l r
  saves : Contains f.directives.saves r → Changes f l r

pub record Serves (f : WebFn) (l : Located) : Type 0 where
  pub body : l.body ≡ f
  pub count : length l.places ≡ f.temps
  -- what is needed is not overwritten, and survives calls
  pub apart : (d t : ℕ) → t < f.temps → Interfere f d t → slice_get l.places t ≢ slice_get l.places d
  pub held : (t : ℕ) (place : Place) → IsHeld f t → slice_get l.places t ≡ Some place → IsKeptOver f place
  -- registers are those of temporaries, and of no web of the function
  pub registers : (r : ℕ) → Contains l.places (Reg r) → IsTempRegister r × (¬ HasRegister f.directives r)
  -- exactly those are saved that the function has to save, each once, rising
  pub saved : (r : ℕ) → Contains l.saved r ↔ Changes f l r
  pub order : EachTwo (λ r q. r < q) l.saved
  -- the words of the frame, from the stack pointer downward: arguments, saved registers, temporaries, slots
  pub words : slots_alone l.places ≡ slots_from (head_size f) (length l.saved) 0 (length (slots_alone l.places))
  pub frame : l.frame ≡ last_reach (slots_begin (head_size f) (length l.saved) (length (slots_alone l.places))) f.slots

-- the functions one by one
abbrev pub AllServe : List WebFn → List Located → Type 0
AllServe [] [] = Unit {0}
AllServe (f ∷ fs) (l ∷ ls) = Serves f l × AllServe fs ls
AllServe fs ls = ⊥
