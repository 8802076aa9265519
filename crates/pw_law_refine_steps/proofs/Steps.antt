-- Steps of a machine: they add up, and the events that it counts only rise.
use Rattle.std.proofs.Common.{◌≡◌, ℕ, zero, suc, ◌+◌, ◌-◌, ◌%◌, ◌^◌, ◌≤◌, ◌==◌, Bool, true, false, nat_lt, if◌then◌else◌, Option, Some, None, List, [], ◌∷◌, ◌++◌, length, ap, ◌∙◌, subst, arith}
use Rattle.pw_value.specs.declared.value.Value.{Value}
use Rattle.pw_value.specs.declared.value.Value.TheVariants as V
use Rattle.pw_value.specs.Objects.{Object}
use Rattle.pw_flow.specs.declared.flow.Op.{Op}
use Rattle.pw_flow.specs.declared.flow.End.{End}
use Rattle.pw_flow.specs.declared.flow.End.TheVariants.{Jump, Branch, Return}
use Rattle.pw_flow.specs.declared.flow.Block.{Block}
use Rattle.pw_flow.specs.declared.flow.FlowFn.{FlowFn}
use Rattle.pw_run.specs.Runs as run
use Rattle.pw_law_source.specs.FromRunLanguages.Values.{binary, is_somewhere}
use Rattle.pw_law_source.specs.FromRunLanguages.Memory.{look, poke, copy}
use Rattle.pw_law_source.specs.FromRunLanguages.Programs.{Program, Library, GetChar, PutChar, Exit, library_at, function_named, block_at}
use Rattle.pw_law_source.specs.FromRunLanguages.Commands.{Command, Give, Combine, Look, Poke, Copied, GetGlobal, PutGlobal, Enter, Fail, command}
use Rattle.pw_law_source.specs.FromRunLanguages.FlowRun.{Frame, Machine, Step, On, Stopped, Astray, value_in, gives, changes, counted, get_global, put_global, depth, takes_result, calls_library, entered, calls_defined, calls, jumps, branches, returns, ends, obeys, step, goes_on, steps}

-- ---- steps add up

pub steps-more : (p : Program) (a b : ℕ) (s : Step) → steps p (a + b) s ≡ steps p b (steps p a s)
unfolding steps
steps-more p zero b s = let e : 0 + b ≡ b = omega arith in ap (λ (n : ℕ). steps p n s) e
steps-more p (suc a) b s =
    let e : suc a + b ≡ suc (a + b) = omega arith in
    ap (λ (n : ℕ). steps p n s) e ∙ steps-more p a b (goes_on p s)

-- ---- events rise: of one step

-- a machine that a step comes to has counted at least so many
abbrev pub Rises : ℕ → Step → Type 0
Rises e (On m) = e ≤ m.events
Rises e (Stopped end m) = Unit {0}
Rises e Astray = Unit {0}

choice : (e : ℕ) (b : Bool) (x y : Step) → Rises e x → Rises e y → Rises e (if b then x else y)
choice e true x y h k = h
choice e false x y h k = k

gives-rises : (e t : ℕ) (v : Option Value) (m : Machine) → e ≤ m.events → Rises e (gives t v m)
gives-rises e t (Some v) m h = h
gives-rises e t None m h = tt

changes-rises : (e : ℕ) (objects : Option (List Object)) (m : Machine) → e ≤ m.events → Rises e (changes objects m)
changes-rises e (Some objects) m h = h
changes-rises e None m h = tt

takes : (e : ℕ) (t : Option ℕ) (v : Value) (m : Machine) → e ≤ m.events → e ≤ (takes_result t v m).events
takes e None v m h = h
takes e (Some t) v m h = h

takes-counts : (e : ℕ) (t : Option ℕ) (v : Value) (m : Machine) → e ≤ m.events → e ≤ (counted (takes_result t v m)).events
takes-counts e t v m h = omega (arith, takes e t v m h)

-- with what is left of the input
reads-rises : (e : ℕ) (t : Option ℕ) (m : Machine) (rest : List ℕ) → e ≤ m.events → Rises e (calls_library GetChar t [] (record m { rest = rest }))
reads-rises e t m [] h = takes-counts e t (V.Num (2 ^ 32 - 1)) (record m { rest = [] }) h
reads-rises e t m (byte ∷ rest) h = takes-counts e t (V.Num byte) (record m { rest = rest; read = m.read + 1 }) h

library-rises : (e : ℕ) (g : Library) (t : Option ℕ) (args : List Value) (m : Machine) → e ≤ m.events → Rises e (calls_library g t args m)
library-rises e GetChar t [] m h = reads-rises e t m m.rest h
library-rises e PutChar t (V.Num n ∷ []) m h = takes-counts e t (V.Num (n % 256)) (record m { out = m.out ++ n % 256 ∷ [] }) h
library-rises e Exit t (V.Num n ∷ []) m h = tt
library-rises e g t args m h = tt

-- the same steps by what they look up

abbrev begins_by : FlowFn → Option ℕ → List Value → Machine → Option Block → Step
begins_by f t args m (Some b) = if length args == f.params then On (counted (entered f b t args m)) else Astray
begins_by f t args m None = Astray

begins-rises : (e : ℕ) (f : FlowFn) (t : Option ℕ) (args : List Value) (m : Machine) (b : Option Block) → e ≤ m.events → Rises e (begins_by f t args m b)
begins-rises e f t args m (Some b) h =
    choice e (length args == f.params) (On (counted (entered f b t args m))) Astray (omega (arith, h)) tt
begins-rises e f t args m None h = tt

defined-rises : (e : ℕ) (p : Program) (f : FlowFn) (t : Option ℕ) (args : List Value) (m : Machine) → e ≤ m.events → Rises e (calls_defined p f t args m)
defined-rises e p f t args m h =
    choice e (nat_lt p.stack (p.frame_of f.name + depth p m)) (Stopped run.StackFull m) (begins_by f t args m (block_at f 0)) tt
    (begins-rises e f t args m (block_at f 0) h)

abbrev calls_by : Program → Option ℕ → List ℕ → List Value → Machine → Option Library → Option FlowFn → Step
calls_by p t f args m (Some g) defined =
    if nat_lt p.stack (p.frame_of f + depth p m) then Stopped run.StackFull m else calls_library g t args m
calls_by p t f args m None (Some defined) = calls_defined p defined t args m
calls_by p t f args m None None = Astray

calls_by-rises : (e : ℕ) (p : Program) (t : Option ℕ) (f : List ℕ) (args : List Value) (m : Machine) (g : Option Library) (d : Option FlowFn) → e ≤ m.events → Rises e (calls_by p t f args m g d)
calls_by-rises e p t f args m (Some g) d h =
    choice e (nat_lt p.stack (p.frame_of f + depth p m)) (Stopped run.StackFull m) (calls_library g t args m) tt (library-rises e g t args m h)
calls_by-rises e p t f args m None (Some d) h = defined-rises e p d t args m h
calls_by-rises e p t f args m None None h = tt

calls-rises : (e : ℕ) (p : Program) (t : Option ℕ) (f : List ℕ) (args : List Value) (m : Machine) → e ≤ m.events → Rises e (calls p t f args m)
calls-rises e p t f args m h = calls_by-rises e p t f args m (library_at f) (function_named p f) h

abbrev to_block_by : ℕ → Machine → Option Block → Step
to_block_by b m (Some next) =
    On (if b == m.frame.block + 1
    then record m { frame = record m.frame { block = b; ops = next.ops; end = next.end } }
    else counted (record m { frame = record m.frame { block = b; ops = next.ops; end = next.end } }))
to_block_by b m None = Astray

either_machine : (e : ℕ) (b : Bool) (x y : Machine) → e ≤ x.events → e ≤ y.events → e ≤ (if b then x else y).events
either_machine e true x y h k = h
either_machine e false x y h k = k

to_block-rises : (e b : ℕ) (m : Machine) (next : Option Block) → e ≤ m.events → Rises e (to_block_by b m next)
to_block-rises e b m (Some next) h =
    either_machine e (b == m.frame.block + 1)
    (record m { frame = record m.frame { block = b; ops = next.ops; end = next.end } })
    (counted (record m { frame = record m.frame { block = b; ops = next.ops; end = next.end } })) h (omega (arith, h))
to_block-rises e b m None h = tt

jumps-rises : (e b : ℕ) (m : Machine) → e ≤ m.events → Rises e (jumps b m)
jumps-rises e b m h = to_block-rises e b m (block_at m.frame.function b) h

branches-rises : (e : ℕ) (v : Value) (b c : ℕ) (m : Machine) → e ≤ m.events → Rises e (branches v b c m)
branches-rises e (V.Num zero) b c m h = jumps-rises e c m h
branches-rises e (V.Num (suc n)) b c m h = jumps-rises e b m h
branches-rises e (V.At q) b c m h = choice e (is_somewhere m.objects q) (jumps b m) Astray (jumps-rises e b m h) tt
branches-rises e V.Undefined b c m h = tt
branches-rises e V.Null b c m h = tt
branches-rises e (V.Piece q i) b c m h = tt

-- with these callers
returns-rises : (e : ℕ) (t : Option ℕ) (m : Machine) (callers : List Frame) → e ≤ m.events → Rises e (returns t (record m { callers = callers }))
returns-rises e t m [] h = tt
returns-rises e t m (caller ∷ callers) h = takes e m.frame.result _ _ h

ends-rises : (e : ℕ) (end : End) (m : Machine) → e ≤ m.events → Rises e (ends end m)
ends-rises e (Jump b) m h = jumps-rises e b m h
ends-rises e (Branch a b c) m h = branches-rises e (value_in m.frame a) b c m h
ends-rises e (Return t) m h = returns-rises e t m m.callers h

obeys-rises : (e : ℕ) (p : Program) (c : Command) (m : Machine) → e ≤ m.events → Rises e (obeys p c m)
obeys-rises e p (Give t v) m h = h
obeys-rises e p (Combine k t v w) m h = gives-rises e t (binary m.objects k v w) m h
obeys-rises e p (Look k t a) m h = gives-rises e t (look k a m.objects) m h
obeys-rises e p (Poke k a v) m h = changes-rises e (poke k a v m.objects) m h
obeys-rises e p (Copied to from size unit) m h = changes-rises e (copy to from size unit m.objects) m h
obeys-rises e p (GetGlobal t g k) m h = gives-rises e t (get_global p g k m.objects) m h
obeys-rises e p (PutGlobal g k v) m h = changes-rises e (put_global p g k v m.objects) m h
obeys-rises e p (Enter t f args) m h = calls-rises e p t f args m h
obeys-rises e p Fail m h = tt

-- with these operations left
next-rises : (e : ℕ) (p : Program) (m : Machine) (ops : List Op) → e ≤ m.events → Rises e (step p (record m { frame = record m.frame { ops = ops } }))
unfolding step
next-rises e p m [] h = ends-rises e m.frame.end (record m { frame = record m.frame { ops = [] } }) h
next-rises e p m (o ∷ ops) h =
    obeys-rises e p (command p m.frame.base o (value_in m.frame)) (record m { frame = record m.frame { ops = ops } }) h

step-rises : (e : ℕ) (p : Program) (s : Step) → Rises e s → Rises e (goes_on p s)
step-rises e p (On m) h = next-rises e p m m.frame.ops h
step-rises e p (Stopped end m) h = tt
step-rises e p Astray h = tt

-- ---- of many

rises : (e : ℕ) (p : Program) (k : ℕ) (s : Step) → Rises e s → Rises e (steps p k s)
unfolding steps
rises e p zero s h = h
rises e p (suc k) s h = rises e p k (goes_on p s) (step-rises e p s h)

pub events-rise : (p : Program) (k : ℕ) (m n : Machine) → steps p k (On m) ≡ On n → m.events ≤ n.events
events-rise p k m n is = subst (λ (s : Step). Rises m.events s) is (rises m.events p k (On m) (omega arith))
