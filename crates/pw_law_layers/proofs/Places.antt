-- From a global's value in the C meaning to its place in the machine, through the moments of all runs between.
use Rattle.std.specs.Prelude.{ℕ, suc, ◌≡◌, Option, Some, None, List, [], ◌∷◌}
use Rattle.std.proofs.Common.{subst, sym, ap, ◌∙◌}
use Rattle.pw_value.specs.declared.value.Kind.{Kind}
use Rattle.pw_value.specs.declared.value.Value.{Value}
use Rattle.pw_value.specs.declared.value.Value.TheVariants as V
use Rattle.pw_value.specs.declared.value.Byte.{Byte}
use Rattle.pw_value.specs.declared.value.Byte.TheVariants as B
use Rattle.pw_value.specs.declared.value.Pointer.TheVariants as P
use Rattle.pw_value.specs.Objects.{Object, object_at}
use Rattle.pw_flow.specs.declared.flow.FlowGlobal.{FlowGlobal}
use Rattle.pw_cmean.specs.Acts as source
use Rattle.pw_run.specs.Runs.{AreAlike, none, also, Through, Same}
use Rattle.pw_run_languages.specs.Traces.{Standing, Event, StandAlike, in_memory, in_place, EventAlike, called, refused, returned, loaded, stored}
use Rattle.pw_run_languages.specs.Memory.{scalar_of}
use Rattle.pw_run_languages.specs.Programs.{Program, globals_of}
use Rattle.pw_run_languages.specs.FlowRun as flow
use Rattle.pw_run_languages.specs.Direction.{HoldsAs, StandsFor, AllStand, MomentAlike}
use Rattle.pw_run_languages.specs.Standing.{pointer_address, ByteStands, ValueStands, GlobalsAreNamed, EventInWords}
use Rattle.pw_law_source.specs.Lowering.{ByteKept, ValueKept, ScalarKept, GlobalKept, GlobalsKept, SameGlobals, MomentKept}
use Rattle.pw_law_layers.specs.Whole.{ByteInMachine, ValueInMachine, ScalarInMachine, GlobalInMachine, GlobalsInMachine, AllInMachine, InMachine}

-- where the object that stands for one stands
abbrev through : (ℕ → ℕ) → (ℕ → ℕ) → ℕ → ℕ
through place objects o = objects (place o)

-- ---- bytes and values

byte_follows : (p : Program) (named : List ℕ → ℕ) (place objects : ℕ → ℕ) (things : List Object) (b c : Byte) (n : ℕ)
    → ByteKept place things b c → ByteStands (pointer_address p named objects) c n
    → ByteInMachine (pointer_address p named (through place objects)) things b n
byte_follows p named place objects things B.Undefined c n h s = tt
byte_follows p named place objects things (B.Num b) c n h s = subst (λ c. ByteStands (pointer_address p named objects) c n) h s
byte_follows p named place objects things (B.Piece (P.Function f) i) c n h s =
    subst (λ c. ByteStands (pointer_address p named objects) c n) h s
byte_follows p named place objects things (B.Piece (P.Object o j) i) c n h s =
    λ live. subst (λ c. ByteStands (pointer_address p named objects) c n) (h live) s

value_follows : (p : Program) (named : List ℕ → ℕ) (place objects : ℕ → ℕ) (things : List Object) (v w : Value) (n : ℕ)
    → ValueKept place things v w → ValueStands (pointer_address p named objects) w n
    → ValueInMachine (pointer_address p named (through place objects)) things v n
value_follows p named place objects things V.Undefined w n h s = tt
value_follows p named place objects things (V.Num v) w n h s = subst (λ w. ValueStands (pointer_address p named objects) w n) h s
value_follows p named place objects things V.Null w n h s = subst (λ w. ValueStands (pointer_address p named objects) w n) h s
value_follows p named place objects things (V.At (P.Function f)) w n h s =
    subst (λ w. ValueStands (pointer_address p named objects) w n) h s
value_follows p named place objects things (V.At (P.Object o j)) w n h s =
    λ live. subst (λ w. ValueStands (pointer_address p named objects) w n) (h live) s
value_follows p named place objects things (V.Piece (P.Function f) i) w n h s =
    subst (λ w. ValueStands (pointer_address p named objects) w n) h s
value_follows p named place objects things (V.Piece (P.Object o j) i) w n h s =
    λ live. subst (λ w. ValueStands (pointer_address p named objects) w n) (h live) s

bytes_follow : (p : Program) (named : List ℕ → ℕ) (place objects : ℕ → ℕ) (things : List Object) (bs cs ds : List Byte) (ns : List ℕ)
    → AreAlike (ByteKept place things) bs cs → AreAlike Same cs ds → AreAlike (ByteStands (pointer_address p named objects)) ds ns
    → AreAlike (ByteInMachine (pointer_address p named (through place objects)) things) bs ns
bytes_follow p named place objects things bs cs ds ns none none none = none
bytes_follow p named place objects things bs cs ds ns (also b c bs' cs' h hs) (also _ d _ ds' e es) (also _ n _ ns' s ss) =
    also b n bs' ns' (byte_follows p named place objects things b c n h (subst (λ d. ByteStands (pointer_address p named objects) d n) (sym e) s))
    (bytes_follow p named place objects things bs' cs' ds' ns' hs es ss)

-- ---- one global

scalar_follows : (p : Program) (named : List ℕ → ℕ) (place objects : ℕ → ℕ) (things : List Object) (k : Option Kind)
    (bytes kept : List Byte) (v w : Value) (n : ℕ)
    → ScalarKept place things k bytes kept → HoldsAs k v kept → v ≡ w → ValueStands (pointer_address p named objects) w n
    → ScalarInMachine (pointer_address p named (through place objects)) things k bytes n
scalar_follows p named place objects things None bytes kept v w n h holds e s = holds
scalar_follows p named place objects things (Some k) bytes kept v w n h holds e s =
    value_follows p named place objects things (scalar_of k bytes) (scalar_of k kept) n h
    (subst (λ w. ValueStands (pointer_address p named objects) w n) (sym (sym holds ∙ e)) s)

global_follows : (p : Program) (named : List ℕ → ℕ) (place objects : ℕ → ℕ) (things : List Object) (g : FlowGlobal)
    (bytes : List Byte) (kept : Object) (s t : Standing Byte Value) (u : Standing ℕ ℕ)
    → GlobalKept place things g bytes kept.bytes → StandsFor g kept s → StandAlike Same Same s t
    → StandAlike (ByteStands (pointer_address p named objects)) (ValueStands (pointer_address p named objects)) t u
    → GlobalInMachine (pointer_address p named (through place objects)) things g bytes u
global_follows p named place objects things g bytes kept s t u h stands (in_memory bs cs a) (in_memory _ ns b) =
    bytes_follow p named place objects things bytes bs cs ns
    (subst (λ bs. AreAlike (ByteKept place things) bytes bs) (sym stands) h.bytes) a b
global_follows p named place objects things g bytes kept s t u h stands (in_place v w e) (in_place _ n b) =
    scalar_follows p named place objects things g.kind bytes kept.bytes v w n h.scalar stands e b

-- ---- all globals

globals_follow : (p : Program) (named : List ℕ → ℕ) (place objects : ℕ → ℕ) (things kept : List Object) (gs : List FlowGlobal) (n : ℕ)
    (ss ts : List (Standing Byte Value)) (us : List (Standing ℕ ℕ))
    → GlobalsKept place gs n things kept → GlobalsAreNamed named objects n gs → AllStand gs n kept ss
    → AreAlike (StandAlike Same Same) ss ts
    → AreAlike (StandAlike (ByteStands (pointer_address p named objects)) (ValueStands (pointer_address p named objects))) ts us
    → GlobalsInMachine p named (through place objects) things gs n us
globals_follow p named place objects things kept [] n ss ts us h names stand none none = tt
globals_follow p named place objects things kept (g ∷ gs) n ss ts us h names stand none none = stand
globals_follow p named place objects things kept [] n ss ts us h names stand (also s t ss' ts' a as') (also _ u _ us' b bs) = absurd stand
globals_follow p named place objects things kept (g ∷ gs) n ss ts us h names stand (also s t ss' ts' a as') (also _ u _ us' b bs) = (
  ap objects h.0 ∙ names.0,
  global_follows p named place objects things g (object_at things n).bytes (object_at kept n) s t u h.1 stand.0 a b,
  globals_follow p named place objects things kept gs (suc n) ss' ts' us' h.2 names.1 stand.1 as' bs,
)

all_follow : (p : Program) (named : List ℕ → ℕ) (things kept : List Object) (ss ts : List (Standing Byte Value)) (us : List (Standing ℕ ℕ))
    (objects : ℕ → ℕ) → SameGlobals p things kept → GlobalsAreNamed named objects 0 (globals_of p) → AllStand (globals_of p) 0 kept ss
    → AreAlike (StandAlike Same Same) ss ts
    → AreAlike (StandAlike (ByteStands (pointer_address p named objects)) (ValueStands (pointer_address p named objects))) ts us
    → AllInMachine p named things us
all_follow p named things kept ss ts us objects h names stand a b = record {
  place = through h.place objects;
  each = globals_follow p named h.place objects things kept (globals_of p) 0 ss ts us h.globals names stand a b;
}

-- ---- events

called_follows : (p : Program) (named : List ℕ → ℕ) (f g : List ℕ) (things kept : List Object) (e d : Event Byte Value) (c : Event ℕ ℕ)
    (objects : ℕ → ℕ) → g ≡ f → SameGlobals p things kept → GlobalsAreNamed named objects 0 (globals_of p)
    → MomentAlike p (flow.Called g kept) e → EventAlike Same Same e d
    → EventAlike (ByteStands (pointer_address p named objects)) (ValueStands (pointer_address p named objects)) d c
    → InMachine p named (source.Called f things) c
called_follows p named f g things kept e d c objects same h names m (called k ss ts rs qs a) (called _ _ us _ ws b) =
    (m.0 ∙ same, all_follow p named things kept ss ts us objects h names m.1 a b)
called_follows p named f g things kept e d c objects same h names m (refused k) b = absurd m
called_follows p named f g things kept e d c objects same h names m (returned k i ss ts rs qs xs ys a) b = absurd m
called_follows p named f g things kept e d c objects same h names m (loaded v) b = absurd m
called_follows p named f g things kept e d c objects same h names m (stored v) b = absurd m

returned_follows : (p : Program) (named : List ℕ → ℕ) (f g : List ℕ) (things kept : List Object) (e d : Event Byte Value) (c : Event ℕ ℕ)
    (objects : ℕ → ℕ) → g ≡ f → SameGlobals p things kept → GlobalsAreNamed named objects 0 (globals_of p)
    → MomentAlike p (flow.Returned g kept) e → EventAlike Same Same e d
    → EventAlike (ByteStands (pointer_address p named objects)) (ValueStands (pointer_address p named objects)) d c
    → InMachine p named (source.Returned f things) c
returned_follows p named f g things kept e d c objects same h names m (returned k i ss ts rs qs xs ys a) (returned _ _ _ us _ _ ws zs b) =
    (m.0 ∙ same, m.1, all_follow p named things kept ss ts us objects h names m.2 a b)
returned_follows p named f g things kept e d c objects same h names m (refused k) b = absurd m
returned_follows p named f g things kept e d c objects same h names m (called k ss ts rs qs a) b = absurd m
returned_follows p named f g things kept e d c objects same h names m (loaded v) b = absurd m
returned_follows p named f g things kept e d c objects same h names m (stored v) b = absurd m

moment_follows : (p : Program) (named : List ℕ → ℕ) (m : source.Moment) (k : flow.Moment) (e d : Event Byte Value) (c : Event ℕ ℕ)
    → MomentKept p m k → MomentAlike p k e → EventAlike Same Same e d → EventInWords p named d c → InMachine p named m c
moment_follows p named (source.Called f things) (flow.Called g kept) e d c h m a w =
    called_follows p named f g things kept e d c w.objects h.0 h.1 w.globals m a w.alike
moment_follows p named (source.Returned f things) (flow.Returned g kept) e d c h m a w =
    returned_follows p named f g things kept e d c w.objects h.0 h.1 w.globals m a w.alike
moment_follows p named (source.Called f things) (flow.Returned g kept) e d c h m a w = absurd h
moment_follows p named (source.Returned f things) (flow.Called g kept) e d c h m a w = absurd h

-- through all layers
pub all_layers : (p : Program) (named : List ℕ → ℕ) (m : source.Moment) (c : Event ℕ ℕ)
    → Through (MomentKept p) (Through (MomentAlike p) (Through (EventAlike Same Same) (Through (EventInWords p named) Same))) m c
    → InMachine p named m c
all_layers p named m c t =
    subst (λ c. InMachine p named m c) t.second.second.second.second
    (moment_follows p named m t.between t.second.between t.second.second.between t.second.second.second.between
    t.first t.second.first t.second.second.first t.second.second.second.first)
