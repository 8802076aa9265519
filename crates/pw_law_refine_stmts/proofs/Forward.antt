-- A stretch of the flow run that counts no event goes forward: it calls nothing, and each block that it goes to is the next
-- by number.
use Rattle.std.proofs.Common.{◌≡◌, ℕ, zero, suc, ◌+◌, ◌<◌, ◌≤◌, ◌==◌, nat_lt, ◌⊎◌, inl, inr, Bool, true, false, if◌then◌else◌, Option, Some, None, List, [], ◌∷◌, length, refl, ap, subst, arith, eqb-true}
use Rattle.pw_value.specs.declared.value.Value.{Value}
use Rattle.pw_value.specs.declared.value.Value.TheVariants as V
use Rattle.pw_value.specs.Objects.{Object}
use Rattle.pw_flow.specs.declared.flow.Op.{Op}
use Rattle.pw_flow.specs.declared.flow.End.{End}
use Rattle.pw_flow.specs.declared.flow.End.TheVariants.{Jump, Branch, Return}
use Rattle.pw_flow.specs.declared.flow.Block.{Block}
use Rattle.pw_flow.specs.declared.flow.FlowFn.{FlowFn}
use Rattle.pw_run.specs.Runs as run
use Rattle.pw_run_languages.specs.Values.{binary, is_somewhere}
use Rattle.pw_run_languages.specs.Memory.{look, poke, copy}
use Rattle.pw_run_languages.specs.Programs.{Program, Library, GetChar, PutChar, Exit, library_at, function_named, block_at}
use Rattle.pw_run_languages.specs.Commands.{Command, Give, Combine, Look, Poke, Copied, GetGlobal, PutGlobal, Enter, Fail, command}
use Rattle.pw_run_languages.specs.FlowRun.{Frame, Machine, Step, On, Stopped, Astray, value_in, with_temp, gives, changes, counted, get_global, put_global, depth, takes_result, calls_library, entered, calls_defined, jumps, branches, returns, ends, obeys, step, goes_on, steps}

-- ---- what a stretch does

-- it has left a function
record HasLeftOne (events callers : ℕ) (n : Machine) : Type 0 where
  rises : events ≤ n.events
  fewer : length n.callers < callers

-- it is in the same function, at a block that is no earlier
record IsFurther (events callers block : ℕ) (n : Machine) : Type 0 where
  rises : events ≤ n.events
  same : length n.callers ≡ callers
  later : block ≤ n.frame.block

-- from so many events, so many callers and a block: an event was counted, or a function left, or it went forward
abbrev Moved : (events callers block : ℕ) → Step → Type 0
Moved e c b (On n) = (e < n.events) ⊎ (HasLeftOne e c n ⊎ IsFurther e c b n)
Moved e c b (Stopped end n) = Unit {0}
Moved e c b Astray = Unit {0}

abbrev MovedFrom : Machine → Step → Type 0
MovedFrom m s = Moved m.events (length m.callers) m.frame.block s

-- ---- a step

further : (m n : Machine) → m.events ≤ n.events → length n.callers ≡ length m.callers → m.frame.block ≤ n.frame.block → MovedFrom m (On n)
further m n e c b = inr (inr (record { rises = e; same = c; later = b }))

gives-moves : (t : ℕ) (v : Option Value) (m : Machine) → MovedFrom m (gives t v m)
gives-moves t (Some v) m = further m (with_temp t v m) (omega arith) refl (omega arith)
gives-moves t None m = tt

changes-moves : (objects : Option (List Object)) (m : Machine) → MovedFrom m (changes objects m)
changes-moves (Some objects) m = further m (record m { objects = objects }) (omega arith) refl (omega arith)
changes-moves None m = tt

either-moves : (e c b : ℕ) (v : Bool) (s t : Step) → Moved e c b s → Moved e c b t → Moved e c b (if v then s else t)
either-moves e c b true s t h k = h
either-moves e c b false s t h k = k

-- a call of the library counts
takes-counts : (e c b : ℕ) (t : Option ℕ) (v : Value) (m : Machine) → e ≤ m.events → Moved e c b (On (counted (takes_result t v m)))
takes-counts e c b None v m h = inl (omega (arith, h))
takes-counts e c b (Some t) v m h = inl (omega (arith, h))

reads-moves : (e c b : ℕ) (t : Option ℕ) (m : Machine) (rest : List ℕ) → e ≤ m.events → Moved e c b (calls_library GetChar t [] (record m { rest = rest }))
reads-moves e c b t m [] h = takes-counts e c b t _ (record m { rest = [] }) h
reads-moves e c b t m (byte ∷ rest) h = takes-counts e c b t (V.Num byte) (record m { rest = rest; read = m.read + 1 }) h

library-moves : (e c b : ℕ) (g : Library) (t : Option ℕ) (args : List Value) (m : Machine) → e ≤ m.events → Moved e c b (calls_library g t args m)
library-moves e c b GetChar t [] m h = reads-moves e c b t m m.rest h
library-moves e c b PutChar t (V.Num n ∷ []) m h = takes-counts e c b t _ (record m { out = _ }) h
library-moves e c b Exit t (V.Num n ∷ []) m h = tt
library-moves e c b g t args m h = tt

abbrev begins_by : FlowFn → Option ℕ → List Value → Machine → Option Block → Step
begins_by f t args m (Some b) = if length args == f.params then On (counted (entered f b t args m)) else Astray
begins_by f t args m None = Astray

begins-moves : (e c b : ℕ) (f : FlowFn) (t : Option ℕ) (args : List Value) (m : Machine) (next : Option Block) → e ≤ m.events → Moved e c b (begins_by f t args m next)
begins-moves e c b f t args m (Some next) h = either-moves e c b (length args == f.params) (On (counted (entered f next t args m))) Astray (inl (omega (arith, h))) tt
begins-moves e c b f t args m None h = tt

defined-moves : (e c b : ℕ) (p : Program) (f : FlowFn) (t : Option ℕ) (args : List Value) (m : Machine) → e ≤ m.events → Moved e c b (calls_defined p f t args m)
defined-moves e c b p f t args m h =
    either-moves e c b (nat_lt p.stack (p.frame_of f.name + depth p m)) (Stopped run.StackFull m) (begins_by f t args m (block_at f 0)) tt (begins-moves e c b f t args m (block_at f 0) h)

abbrev calls_by : Program → Option ℕ → List ℕ → List Value → Machine → Option Library → Option FlowFn → Step
calls_by p t f args m (Some g) defined = if nat_lt p.stack (p.frame_of f + depth p m) then Stopped run.StackFull m else calls_library g t args m
calls_by p t f args m None (Some defined) = calls_defined p defined t args m
calls_by p t f args m None None = Astray

calls_by-moves : (e c b : ℕ) (p : Program) (t : Option ℕ) (f : List ℕ) (args : List Value) (m : Machine) (g : Option Library) (d : Option FlowFn) → e ≤ m.events → Moved e c b (calls_by p t f args m g d)
calls_by-moves e c b p t f args m (Some g) d h =
    either-moves e c b (nat_lt p.stack (p.frame_of f + depth p m)) (Stopped run.StackFull m) (calls_library g t args m) tt (library-moves e c b g t args m h)
calls_by-moves e c b p t f args m None (Some d) h = defined-moves e c b p d t args m h
calls_by-moves e c b p t f args m None None h = tt

obeys-moves : (p : Program) (c : Command) (m : Machine) → MovedFrom m (obeys p c m)
obeys-moves p (Give t v) m = further m (with_temp t v m) (omega arith) refl (omega arith)
obeys-moves p (Combine k t v w) m = gives-moves t (binary m.objects k v w) m
obeys-moves p (Look k t a) m = gives-moves t (look k a m.objects) m
obeys-moves p (Poke k a v) m = changes-moves (poke k a v m.objects) m
obeys-moves p (Copied to from size unit) m = changes-moves (copy to from size unit m.objects) m
obeys-moves p (GetGlobal t g k) m = gives-moves t (get_global p g k m.objects) m
obeys-moves p (PutGlobal g k v) m = changes-moves (put_global p g k v m.objects) m
obeys-moves p (Enter t f args) m = calls_by-moves m.events (length m.callers) m.frame.block p t f args m (library_at f) (function_named p f) (omega arith)
obeys-moves p Fail m = tt

-- a jump that is not counted is to the next block by number
abbrev gone : ℕ → Block → Machine → Machine
gone b next m = record m { frame = record m.frame { block = b; ops = next.ops; end = next.end } }

abbrev to_block : ℕ → Machine → Option Block → Step
to_block b m (Some next) = On (if b == m.frame.block + 1 then gone b next m else counted (gone b next m))
to_block b m None = Astray

to_block-moves : (b : ℕ) (m : Machine) (next : Option Block) → MovedFrom m (to_block b m next)
to_block-moves b m (Some next) = by_test (b == m.frame.block + 1) refl
  where
    by_test : (v : Bool) → (b == m.frame.block + 1) ≡ v → MovedFrom m (On (if v then gone b next m else counted (gone b next m)))
    by_test true e = further m (gone b next m) (omega arith) refl (omega (arith, eqb-true b (m.frame.block + 1) e))
    by_test false e = inl (omega arith)
to_block-moves b m None = tt

jumps-moves : (b : ℕ) (m : Machine) → MovedFrom m (jumps b m)
jumps-moves b m = to_block-moves b m (block_at m.frame.function b)

branches-moves : (v : Value) (b c : ℕ) (m : Machine) → MovedFrom m (branches v b c m)
branches-moves (V.Num zero) b c m = jumps-moves c m
branches-moves (V.Num (suc n)) b c m = jumps-moves b m
branches-moves (V.At q) b c m = either-moves m.events (length m.callers) m.frame.block (is_somewhere m.objects q) (jumps b m) Astray (jumps-moves b m) tt
branches-moves V.Undefined b c m = tt
branches-moves V.Null b c m = tt
branches-moves (V.Piece q i) b c m = tt

-- a return leaves a function
takes-leaves : (e c b : ℕ) (t : Option ℕ) (v : Value) (m : Machine) → e ≤ m.events → length m.callers < c → Moved e c b (On (takes_result t v m))
takes-leaves e c b None v m h k = inr (inl (record { rises = h; fewer = k }))
takes-leaves e c b (Some t) v m h k = inr (inl (record { rises = h; fewer = k }))

returns-moves : (t : Option ℕ) (m : Machine) (callers : List Frame) → MovedFrom (record m { callers = callers }) (returns t (record m { callers = callers }))
returns-moves t m [] = tt
returns-moves t m (caller ∷ callers) = takes-leaves m.events (length (caller ∷ callers)) m.frame.block m.frame.result _ _ (omega arith) (omega arith)

ends-moves : (e : End) (m : Machine) → MovedFrom m (ends e m)
ends-moves (Jump b) m = jumps-moves b m
ends-moves (Branch a b c) m = branches-moves (value_in m.frame a) b c m
ends-moves (Return t) m = returns-moves t m m.callers

next-moves : (p : Program) (m : Machine) (ops : List Op) → MovedFrom m (step p (record m { frame = record m.frame { ops = ops } }))
unfolding step
next-moves p m [] = ends-moves m.frame.end (record m { frame = record m.frame { ops = [] } })
next-moves p m (o ∷ ops) = obeys-moves p (command p m.frame.base o (value_in m.frame)) (record m { frame = record m.frame { ops = ops } })

-- ---- many steps

joined : (e c b : ℕ) (m : Machine) (s : Step) → Moved e c b (On m) → MovedFrom m s → Moved e c b s
joined e c b m (On n) first second = by_both first second
  where
    by_both :
        (e < m.events) ⊎ (HasLeftOne e c m ⊎ IsFurther e c b m)
        → (m.events < n.events) ⊎ (HasLeftOne m.events (length m.callers) n ⊎ IsFurther m.events (length m.callers) m.frame.block n)
        → (e < n.events) ⊎ (HasLeftOne e c n ⊎ IsFurther e c b n)
    by_both (inl h) (inl k) = inl (omega (arith, h, k))
    by_both (inl h) (inr (inl k)) = inl (omega (arith, h, k.rises))
    by_both (inl h) (inr (inr k)) = inl (omega (arith, h, k.rises))
    by_both (inr (inl h)) (inl k) = inl (omega (arith, h.rises, k))
    by_both (inr (inl h)) (inr (inl k)) = inr (inl (record { rises = omega (arith, h.rises, k.rises); fewer = omega (arith, h.fewer, k.fewer) }))
    by_both (inr (inl h)) (inr (inr k)) = inr (inl (record { rises = omega (arith, h.rises, k.rises); fewer = omega (arith, h.fewer, k.same) }))
    by_both (inr (inr h)) (inl k) = inl (omega (arith, h.rises, k))
    by_both (inr (inr h)) (inr (inl k)) = inr (inl (record { rises = omega (arith, h.rises, k.rises); fewer = omega (arith, h.same, k.fewer) }))
    by_both (inr (inr h)) (inr (inr k)) =
        inr (inr (record { rises = omega (arith, h.rises, k.rises); same = omega (arith, h.same, k.same); later = omega (arith, h.later, k.later) }))
joined e c b m (Stopped end n) first second = tt
joined e c b m Astray first second = tt

goes_on-moves : (e c b : ℕ) (p : Program) (s : Step) → Moved e c b s → Moved e c b (goes_on p s)
goes_on-moves e c b p (On m) h = joined e c b m (step p m) h (next-moves p m m.frame.ops)
goes_on-moves e c b p (Stopped end m) h = tt
goes_on-moves e c b p Astray h = tt

steps-move : (e c b : ℕ) (p : Program) (k : ℕ) (s : Step) → Moved e c b s → Moved e c b (steps p k s)
unfolding steps
steps-move e c b p zero s h = h
steps-move e c b p (suc k) s h = steps-move e c b p k (goes_on p s) (goes_on-moves e c b p s h)

-- where the same functions are active, a way back to an earlier block counts
pub back-counts : (p : Program) (k : ℕ) (m n : Machine) → steps p k (On m) ≡ On n → n.callers ≡ m.callers → n.frame.block < m.frame.block → m.events < n.events
back-counts p k m n is callers back =
    by_case (subst (λ (s : Step). MovedFrom m s) is (steps-move m.events (length m.callers) m.frame.block p k (On m) (further m m (omega arith) refl (omega arith))))
  where
    by_case : (m.events < n.events) ⊎ (HasLeftOne m.events (length m.callers) n ⊎ IsFurther m.events (length m.callers) m.frame.block n) → m.events < n.events
    by_case (inl h) = h
    by_case (inr (inl h)) = absurd (omega (arith, h.fewer, ap (λ (l : List Frame). length l) callers))
    by_case (inr (inr h)) = absurd (omega (arith, h.later, back))
