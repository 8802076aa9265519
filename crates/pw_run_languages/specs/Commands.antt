-- What an operation asks for, given what the temporaries hold. It is the same wherever temporaries, registers and
-- global objects stand; a run says that.
use Rattle.std.specs.Prelude.{ℕ, ◌+◌, if◌then◌else◌, Option, Some, None, List, map, bytes_eq}
use Rattle.pw_value.specs.declared.value.Kind.{Kind}
use Rattle.pw_value.specs.declared.value.Value.{Value}
use Rattle.pw_value.specs.declared.value.Value.TheVariants.{Num, At}
use Rattle.pw_value.specs.declared.value.Pointer.TheVariants as P
use Rattle.pw_flow.specs.declared.flow.Op.{Op}
use Rattle.pw_flow.specs.declared.flow.Op.TheVariants as op
use Rattle.pw_flow.specs.declared.flow.BinKind.{BinKind}
use Rattle.pw_run_languages.specs.Values.{unary, extension}
use Rattle.pw_run_languages.specs.Programs.{Program, pointer_to, function_number, function_at, shape_of}

pub data Command : Type 0 where
  -- a temporary gets a value
  Give : (t : ℕ) (v : Value) → Command
  -- a temporary gets what an operation makes of two values
  Combine : (k : BinKind) (t : ℕ) (v w : Value) → Command
  -- a temporary gets what stands where a pointer leads; a value is written there
  Look : (k : Kind) (t : ℕ) (p : Value) → Command
  Poke : (k : Kind) (p v : Value) → Command
  -- bytes are copied to the first place from the second
  Copied : (to from : Value) (size unit : ℕ) → Command
  -- a global object is read or written by its name
  GetGlobal : (t : ℕ) (g : List ℕ) (k : Kind) → Command
  PutGlobal : (g : List ℕ) (k : Kind) (v : Value) → Command
  -- a function is called; its result goes to a temporary
  Enter : (t : Option ℕ) (f : List ℕ) (args : List Value) → Command
  Fail : Command

abbrev pub give : ℕ → Option Value → Command
give t (Some v) = Give t v
give t None = Fail

-- a call through a value is one of the function that it points to, where that has the shape of the call
abbrev pub enter_as : Option ℕ → List ℕ → List Value → Option (List ℕ) → Option (List ℕ) → Command
enter_as t shape args (Some f) (Some own) = if bytes_eq own shape then Enter t f args else Fail
enter_as t shape args name own = Fail

abbrev pub enter_at : Program → Option ℕ → List ℕ → List Value → Option (List ℕ) → Command
enter_at p t shape args None = Fail
enter_at p t shape args (Some f) = enter_as t shape args (Some f) (shape_of p f)

abbrev pub enter_value : Program → Option ℕ → Value → List ℕ → List Value → Command
enter_value p t (At (P.Function n)) shape args = enter_at p t shape args (function_at p n)
enter_value p t v shape args = Fail

-- by the number of the object of the function's first slot
unfoldable pub command : Program → ℕ → Op → (ℕ → Value) → Command
command p base (op.Const t n) value = Give t (Num n)
command p base (op.Copy t a) value = Give t (value a)
command p base (op.Un k t a) value = give t (unary k (value a))
command p base (op.Bin k t a b) value = Combine k t (value a) (value b)
command p base (op.Ext k t a) value = give t (extension k (value a))
command p base (op.AddrGlobal t g n) value = Give t (At (pointer_to p g n))
command p base (op.AddrSlot t s) value = Give t (At (P.Object (base + s) 0))
command p base (op.AddrFn t f) value = Give t (At (P.Function (function_number p f)))
command p base (op.LoadG t g k) value = GetGlobal t g k
command p base (op.StoreG g a k) value = PutGlobal g k (value a)
command p base (op.Load k t a) value = Look k t (value a)
command p base (op.Store k a b) value = Poke k (value a) (value b)
command p base (op.Move a b size unit) value = Copied (value a) (value b) size unit
command p base (op.Call t f args) value = Enter t f (map value args)
command p base (op.CallInd t a shape args) value = enter_value p t (value a) shape (map value args)
