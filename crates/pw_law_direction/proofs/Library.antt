-- Calls of the library's functions.
use Rattle.std.proofs.Common.{◌≡◌, ◌≤◌, ◌+◌, ◌%◌, ◌&&◌, ◌==◌, ◌++◌, ℕ, Bool, true, false, if◌then◌else◌, Option, Some, None, List, [], ◌∷◌, map, refl, ap, sym, ◌∙◌, subst}
use Rattle.std.specs.Prelude.{option_map, nat_lt, nat_le, sum_by}
use Rattle.std.specs.Option.{option_or}
use Rattle.std.proofs.lemmas.Bool.{le-ltb}
use Rattle.std.proofs.lemmas.List.Sums.{sum_by-cons}
use Rattle.pw_value.specs.declared.value.Kind.{Kind}
use Rattle.pw_value.specs.declared.value.Value.{Value}
use Rattle.pw_value.specs.declared.value.Value.TheVariants.{Undefined, Num}
use Rattle.pw_value.specs.declared.value.Byte.{Byte}
use Rattle.pw_value.specs.ProgramNames.{exit_name, getchar_name, putchar_name}
use Rattle.pw_value.specs.Objects.{object_at}
use Rattle.pw_value.specs.Words.{end_of_input}
use Rattle.pw_db.specs.declared.database.Directives.{Directives}
use Rattle.pw_db.specs.Database.{IsDatabase}
use Rattle.pw_db.specs.Limits.{last_register, last_temporary}
use Rattle.pw_flow.specs.declared.flow.FlowFn.{FlowFn}
use Rattle.pw_webflow.specs.Direction.{register_of, directed}
use Rattle.pw_alloc.specs.declared.located.Located.{Located}
use Rattle.pw_run.specs.Runs as run
use Rattle.pw_run_languages.specs.Traces.{Event, Called, Returned, Refused}
use Rattle.pw_run_languages.specs.Programs.{Program, Library, GetChar, PutChar, Exit, library_at}
use Rattle.pw_run_languages.specs.Programs as programs
use Rattle.pw_run_languages.specs.FlowRun as flow
use Rattle.pw_run_languages.specs.PlacedRun as web
use Rattle.pw_run_languages.specs.PlacedRun.{with_register, with_registers, held, without_scratch}
use Rattle.pw_law_direction.specs.Pairs.{Active, Pair, active_of, flow_frame, flow_side, web_side, web_frame, web_frames, webs_of, under}
use Rattle.pw_law_direction.specs.Alike.{names_active, GlobalStands, IsAlike, Follows}
use Rattle.pw_law_direction.specs.SideBySide.{LibraryFollows}
use Rattle.pw_law_direction.proofs.Registers.{kept-in}
use Rattle.pw_law_direction.proofs.Webs.{is-web}
use Rattle.pw_law_direction.proofs.Steps.{with-value, value-alike}

-- ---- registers that no web has

abbrev pub AgreeLow : (ℕ → Value) → (ℕ → Value) → Type 0
AgreeLow a b = (q : ℕ) → q ≤ last_register → a q ≡ b q

all-low : (l : List (ℕ × Value)) (a b : ℕ → Value) → AgreeLow a b → AgreeLow (with_registers l a) (with_registers l b)
all-low [] a b h = h
all-low (n ∷ rest) a b h = all-low rest (with_register n.0 n.1 a) (with_register n.0 n.1 b) (λ q low. ap (λ (w : Value). if q == n.0 then n.1 else w) (h q low))

low-else : (o : Option ℕ) (a b : ℕ → Value) (x y : Option Value) → ((r : ℕ) → o ≡ Some r → a r ≡ b r) → x ≡ y → option_or (option_map a o) x ≡ option_or (option_map b o) y
low-else (Some r) a b x y h e = ap (λ (v : Value). Some v) (h r refl)
low-else None a b x y h e = e

-- registers behind those of webs have no part in where globals stand
pub held-low : (d : List (List ℕ × Directives)) (g : List ℕ) (fs : List Active) (a b : ℕ → Value) → IsDatabase d → AgreeLow a b → held g a (web_frames d fs) ≡ held g b (web_frames d fs)
unfolding directed
held-low d g [] a b is h = refl
held-low d g (f ∷ fs) a b is h =
    low-else (register_of (webs_of d f.function) g) a b (held g (with_registers f.saved a) (web_frames d fs)) (held g (with_registers f.saved b) (web_frames d fs))
    (λ r e. let k = kept-in d f g r e in h r (subst (λ (n : ℕ). n ≤ last_register) k.is (is-web d f.function.name k.web is k.within).high))
    (held-low d g fs (with_registers f.saved a) (with_registers f.saved b) is (all-low f.saved a b h))

pub scratch-low : (a : ℕ → Value) → AgreeLow (without_scratch a) a
scratch-low a q low = ap (λ (b : Bool). if b && nat_le q last_temporary then Undefined else a q) (le-ltb last_register q low)

-- ---- the stack

sums : (p : Program) (d : List (List ℕ × Directives)) (fs : List Active) → sum_by (λ f. p.frame_of (web.name_of f)) (web_frames d fs) ≡ sum_by (λ f. p.frame_of f.function.name) (map flow_frame fs)
unfolding directed
sums p d [] = refl
sums p d (f ∷ fs) =
    sum_by-cons (λ f. p.frame_of (web.name_of f)) (web_frame d f) (web_frames d fs)
    ∙ ap (λ (n : ℕ). p.frame_of f.function.name + n) (sums p d fs)
    ∙ sym (sum_by-cons (λ f. p.frame_of f.function.name) (flow_frame f) (map flow_frame fs))

pub depths : (p : Program) (d : List (List ℕ × Directives)) (x : Pair) → web.depth (under p d) (web_frames d (active_of x)) ≡ flow.depth p (flow_side x)
depths p d x = sums p d (active_of x) ∙ sum_by-cons (λ f. p.frame_of f.function.name) (flow_frame x.frame) (map flow_frame x.callers)

-- ---- the pair after a call of the library

abbrev note-call : Program → List (List ℕ × Directives) → List ℕ → Pair → Event Byte Value
note-call p d f x = Called f (web.globals_now (under p d) x.registers (web_frames d (active_of x)) x.memory) (web.kept x.registers)

abbrev note-return : Program → List (List ℕ × Directives) → List ℕ → Pair → Event Byte Value
note-return p d f x =
    Returned f 0 (web.globals_now (under p d) (without_scratch x.registers) (web_frames d (active_of x)) x.memory) (web.kept (without_scratch x.registers)) (web.kept (without_scratch x.registers))

abbrev answered : Program → List (List ℕ × Directives) → List ℕ → List ℕ → ℕ → List ℕ → Pair → Pair
answered p d f rest read out x = record x {
  rest = rest;
  read = read;
  out = out;
  events = x.events + 1;
  registers = without_scratch x.registers;
  trace = note-return p d f x ∷ note-call p d f x ∷ x.trace;
}

abbrev IsNoted : List ℕ → Type 0
IsNoted f = (p : Program) (d : List (List ℕ × Directives)) (rest : List ℕ) (read : ℕ) (out : List ℕ) (x : Pair) → IsDatabase d → IsAlike p d x → IsAlike p d (answered p d f rest read out x)

same-places : (p : Program) (d : List (List ℕ × Directives)) (x : Pair) (g : List ℕ) (k : Kind) (n : ℕ) → IsDatabase d
    → GlobalStands d (names_active (active_of x)) g k (held g x.registers (web_frames d (active_of x))) (object_at x.objects n) (object_at x.memory n)
    → GlobalStands d (names_active (active_of x)) g k (held g (without_scratch x.registers) (web_frames d (active_of x))) (object_at x.objects n) (object_at x.memory n)
same-places p d x g k n is st =
    subst (λ (o : Option Value). GlobalStands d (names_active (active_of x)) g k o (object_at x.objects n) (object_at x.memory n))
    (sym (held-low d g (active_of x) (without_scratch x.registers) x.registers is (scratch-low x.registers))) st

getchar-noted : IsNoted getchar_name
getchar-noted p d rest read out x is a = record {
  frame = a.frame;
  callers = a.callers;
  linked = a.linked;
  objects = record { count = a.objects.count; others = a.objects.others; globals = λ g k n c e. same-places p d x g k n is (a.objects.globals g k n c e); tame = a.objects.tame };
  log = a.log;
}

putchar-noted : IsNoted putchar_name
putchar-noted p d rest read out x is a = record {
  frame = a.frame;
  callers = a.callers;
  linked = a.linked;
  objects = record { count = a.objects.count; others = a.objects.others; globals = λ g k n c e. same-places p d x g k n is (a.objects.globals g k n c e); tame = a.objects.tame };
  log = a.log;
}

-- ---- the calls

getchar-follows : (p : Program) (d : List (List ℕ × Directives)) (x : Pair) (t : Option ℕ) (rest : List ℕ) → IsDatabase d → IsAlike p d x
    → Follows p d (flow.calls_library GetChar t [] (flow_side (record x { rest = rest }))) (web.calls_library (under p d) GetChar t [] (web_side d (record x { rest = rest })))
getchar-follows p d x None [] is a = record { pair = answered p d getchar_name [] x.read x.out x; flow = refl; web = refl; alike = getchar-noted p d [] x.read x.out x is a }
getchar-follows p d x (Some t) [] is a = record {
  pair = with-value t (Num end_of_input) (answered p d getchar_name [] x.read x.out x);
  flow = refl;
  web = refl;
  alike = value-alike p d (answered p d getchar_name [] x.read x.out x) t (Num end_of_input) tt (getchar-noted p d [] x.read x.out x is a);
}
getchar-follows p d x None (byte ∷ rest) is a =
    record { pair = answered p d getchar_name rest (x.read + 1) x.out x; flow = refl; web = refl; alike = getchar-noted p d rest (x.read + 1) x.out x is a }
getchar-follows p d x (Some t) (byte ∷ rest) is a = record {
  pair = with-value t (Num byte) (answered p d getchar_name rest (x.read + 1) x.out x);
  flow = refl;
  web = refl;
  alike = value-alike p d (answered p d getchar_name rest (x.read + 1) x.out x) t (Num byte) tt (getchar-noted p d rest (x.read + 1) x.out x is a);
}

putchar-follows : (p : Program) (d : List (List ℕ × Directives)) (x : Pair) (t : Option ℕ) (n : ℕ) → IsDatabase d → IsAlike p d x
    → Follows p d (flow.calls_library PutChar t (Num n ∷ []) (flow_side x)) (web.calls_library (under p d) PutChar t (Num n ∷ []) (web_side d x))
putchar-follows p d x None n is a =
    record { pair = answered p d putchar_name x.rest x.read (x.out ++ n % 256 ∷ []) x; flow = refl; web = refl; alike = putchar-noted p d x.rest x.read (x.out ++ n % 256 ∷ []) x is a }
putchar-follows p d x (Some t) n is a = record {
  pair = with-value t (Num (n % 256)) (answered p d putchar_name x.rest x.read (x.out ++ n % 256 ∷ []) x);
  flow = refl;
  web = refl;
  alike = value-alike p d (answered p d putchar_name x.rest x.read (x.out ++ n % 256 ∷ []) x) t (Num (n % 256)) tt (putchar-noted p d x.rest x.read (x.out ++ n % 256 ∷ []) x is a);
}

exit-follows : (p : Program) (d : List (List ℕ × Directives)) (x : Pair) (t : Option ℕ) (n : ℕ) → IsAlike p d x
    → Follows p d (flow.calls_library Exit t (Num n ∷ []) (flow_side x)) (web.calls_library (under p d) Exit t (Num n ∷ []) (web_side d x))
exit-follows p d x t n a = record {
  pair = record x { trace = note-call p d exit_name x ∷ x.trace };
  flow = refl;
  web = refl;
  alike = record { frame = a.frame; callers = a.callers; linked = a.linked; objects = a.objects; log = a.log };
}

library-follows : (p : Program) (d : List (List ℕ × Directives)) (x : Pair) (lib : Library) (t : Option ℕ) (args : List Value) → IsDatabase d → IsAlike p d x
    → Follows p d (flow.calls_library lib t args (flow_side x)) (web.calls_library (under p d) lib t args (web_side d x))
library-follows p d x GetChar t [] is a = getchar-follows p d x t x.rest is a
library-follows p d x PutChar t (Num n ∷ []) is a = putchar-follows p d x t n is a
library-follows p d x Exit t (Num n ∷ []) is a = exit-follows p d x t n a
library-follows p d x lib t args is a = tt

enough-follows : (p : Program) (d : List (List ℕ × Directives)) (x : Pair) (f : List ℕ) (lib : Library) (t : Option ℕ) (args : List Value) (b : Bool) → IsDatabase d → IsAlike p d x
    → Follows p d (if b then flow.Stopped run.StackFull (flow_side x) else flow.calls_library lib t args (flow_side x))
    (if b then web.Stopped run.StackFull (web.noted (Refused f) (web_side d x)) else web.calls_library (under p d) lib t args (web_side d x))
enough-follows p d x f lib t args true is a = record {
  pair = record x { trace = Refused f ∷ x.trace };
  flow = refl;
  web = refl;
  alike = record { frame = a.frame; callers = a.callers; linked = a.linked; objects = a.objects; log = a.log };
}
enough-follows p d x f lib t args false is a = library-follows p d x lib t args is a

abbrev pub flow-by : Program → Option ℕ → List ℕ → List Value → flow.Machine → Option Library → Option FlowFn → flow.Step
flow-by p t f args m (Some g) defined =
    if nat_lt p.stack (p.frame_of f + flow.depth p m) then flow.Stopped run.StackFull m else flow.calls_library g t args m
flow-by p t f args m None (Some defined) = flow.calls_defined p defined t args m
flow-by p t f args m None None = flow.Astray

abbrev pub web-by : web.PlacedProgram → Option ℕ → List ℕ → List Value → web.Machine → Option Library → Option Located → web.Step
web-by p t f args m (Some g) defined =
    if web.exceeds p f (m.frame ∷ m.callers) then web.Stopped run.StackFull (web.noted (Refused f) m) else web.calls_library p g t args m
web-by p t f args m None (Some defined) = web.calls_defined p defined t args m
web-by p t f args m None None = web.Astray

pub library-calls-follow : LibraryFollows
library-calls-follow p d x t f args lib is a e =
    subst (λ (o : Option Library). Follows p d (flow-by p t f args (flow_side x) o (programs.function_named p f)) (web-by (under p d) t f args (web_side d x) o (web.function_named (under p d) f))) (sym e)
    (subst (λ (n : ℕ). Follows p d (if nat_lt p.stack (p.frame_of f + flow.depth p (flow_side x)) then flow.Stopped run.StackFull (flow_side x) else flow.calls_library lib t args (flow_side x))
    (if nat_lt p.stack (p.frame_of f + n) then web.Stopped run.StackFull (web.noted (Refused f) (web_side d x)) else web.calls_library (under p d) lib t args (web_side d x))) (sym (depths p d x))
    (enough-follows p d x f lib t args (nat_lt p.stack (p.frame_of f + flow.depth p (flow_side x))) is a))
