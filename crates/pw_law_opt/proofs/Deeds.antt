-- What a command does, and where an end leads, as the run has it.
use Rattle.std.specs.Prelude.{ℕ, zero, suc, ◌≡◌, Bool, true, false, if◌then◌else◌, Option, Some, None, option_map, List, map, bytes_eq}
use Rattle.std.proofs.Common.{refl}
use Rattle.pw_value.specs.declared.value.Value.{Value}
use Rattle.pw_value.specs.declared.value.Value.TheVariants.{Undefined, Num, Null, At, Piece}
use Rattle.pw_value.specs.declared.value.Pointer.TheVariants as P
use Rattle.pw_value.specs.Objects.{Object}
use Rattle.pw_flow.specs.declared.flow.Op.{Op}
use Rattle.pw_flow.specs.declared.flow.Op.TheVariants as op
use Rattle.pw_flow.specs.declared.flow.End.{End}
use Rattle.pw_flow.specs.declared.flow.End.TheVariants.{Jump, Branch, Return}
use Rattle.pw_flow.specs.Uses.{op_calls, op_defines}
use Rattle.pw_run_languages.specs.Values.{binary, is_somewhere}
use Rattle.pw_run_languages.specs.Memory.{look, poke, copy}
use Rattle.pw_run_languages.specs.Programs.{Program, function_at, shape_of}
use Rattle.pw_run_languages.specs.Commands.{Command, Give, Combine, Look, Poke, Copied, GetGlobal, PutGlobal, Enter, Fail, enter_as, enter_at, enter_value, command}
use Rattle.pw_run_languages.specs.FlowRun.{Machine, Astray, gives, changes, get_global, put_global, jumps, branches, returns, ends, obeys, value_in}
use Rattle.pw_law_operations.specs.Laws.{StaysInside}
use Rattle.pw_law_opt.specs.Deeds.{Gets, Changes, deed, done, To, branch_way, returned, way, back, went}

-- ---- commands

gives_done : (t : ℕ) (v : Option Value) (m : Machine) → gives t v m ≡ done (option_map (Gets t) v) m
gives_done t None m = refl
gives_done t (Some v) m = refl

changes_done : (objects : Option (List Object)) (m : Machine) → changes objects m ≡ done (option_map Changes objects) m
changes_done None m = refl
changes_done (Some objects) m = refl

pub obeys_done : (p : Program) (c : Command) (m : Machine) → StaysInside c → obeys p c m ≡ done (deed p m.objects c) m
obeys_done p (Give t v) m s = refl
obeys_done p (Combine k t v w) m s = gives_done t (binary m.objects k v w) m
obeys_done p (Look k t a) m s = gives_done t (look k a m.objects) m
obeys_done p (Poke k a v) m s = changes_done (poke k a v m.objects) m
obeys_done p (Copied to from size unit) m s = changes_done (copy to from size unit m.objects) m
obeys_done p (GetGlobal t g k) m s = gives_done t (get_global p g k m.objects) m
obeys_done p (PutGlobal g k v) m s = changes_done (put_global p g k v m.objects) m
obeys_done p (Enter t f args) m s = absurd s
obeys_done p Fail m s = refl

-- ---- calls

-- what a call asks for: a function, whose result goes to this temporary; or it fails
pub data Asks (t : Option ℕ) (c : Command) : Type 0 where
  enters : (f : List ℕ) (args : List Value) → c ≡ Enter t f args → Asks t c
  fails : c ≡ Fail → Asks t c

asks_as : (t : Option ℕ) (shape : List ℕ) (args : List Value) (f own : Option (List ℕ)) → Asks t (enter_as t shape args f own)
asks_as t shape args None own = fails refl
asks_as t shape args (Some f) None = fails refl
asks_as t shape args (Some f) (Some own) = either (bytes_eq own shape) where
  either : (b : Bool) → Asks t (if b then Enter t f args else Fail)
  either true = enters f args refl
  either false = fails refl

asks_at : (p : Program) (t : Option ℕ) (shape : List ℕ) (args : List Value) (f : Option (List ℕ)) → Asks t (enter_at p t shape args f)
asks_at p t shape args None = fails refl
asks_at p t shape args (Some f) = asks_as t shape args (Some f) (shape_of p f)

asks_value : (p : Program) (t : Option ℕ) (v : Value) (shape : List ℕ) (args : List Value) → Asks t (enter_value p t v shape args)
asks_value p t (At (P.Function n)) shape args = asks_at p t shape args (function_at p n)
asks_value p t _ shape args = fails refl

pub calls_ask : (p : Program) (base : ℕ) (o : Op) (v : ℕ → Value) → op_calls o ≡ true → Asks (op_defines o) (command p base o v)
unfolding command
calls_ask p base (op.Call t f args) v e = enters f (map v args) refl
calls_ask p base (op.CallInd t a shape args) v e = asks_value p t (v a) shape (map v args)
calls_ask p base o v e = absurd cc

-- ---- ends

branches_go : (v : Value) (b c : ℕ) (m : Machine) → branches v b c m ≡ went (branch_way m.objects v b c) m
branches_go (Num zero) b c m = refl
branches_go (Num (suc n)) b c m = refl
branches_go (At q) b c m = either (is_somewhere m.objects q) where
  either : (w : Bool) → (if w then jumps b m else Astray) ≡ went (if w then Some (To b) else None) m
  either true = refl
  either false = refl
branches_go Undefined b c m = refl
branches_go Null b c m = refl
branches_go (Piece q i) b c m = refl

returns_go : (t : Option ℕ) (m : Machine) → returns t m ≡ back (returned t (value_in m.frame)) m m.callers
returns_go None m = refl
returns_go (Some t) m = refl

pub ends_go : (e : End) (m : Machine) → ends e m ≡ went (way m.objects e (value_in m.frame)) m
ends_go (Jump b) m = refl
ends_go (Branch a b c) m = branches_go (value_in m.frame a) b c m
ends_go (Return t) m = returns_go t m
