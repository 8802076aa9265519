-- Results, and calls of functions: both runs do the same.
use Rattle.std.specs.Prelude.{ℕ, ◌≡◌, ◌+◌, ◌%◌, ◌==◌, nat_lt, Bool, true, false, if◌then◌else◌, Option, Some, None, List, [], ◌∷◌, ◌++◌, length, map, slice_get, sum_by}
use Rattle.std.proofs.Common.{refl, sym, ap, subst, ◌∙◌, arith}
use Rattle.std.proofs.lemmas.Bool.{eqb-true}
use Rattle.std.proofs.lemmas.List.Sums.{sum_by-cons}
use Rattle.pw_value.specs.declared.value.Value.{Value}
use Rattle.pw_value.specs.declared.value.Value.TheVariants.{Num}
use Rattle.pw_value.specs.Words.{end_of_input}
use Rattle.pw_flow.specs.declared.flow.Block.{Block}
use Rattle.pw_flow.specs.declared.flow.FlowFn.{FlowFn}
use Rattle.pw_flow.specs.declared.flow.FlowModule.{FlowModule}
use Rattle.pw_run.specs.Runs.{Ended, StackFull}
use Rattle.pw_run_languages.specs.Programs.{Program, Library, GetChar, PutChar, Exit, library_at, function_named}
use Rattle.pw_run_languages.specs.FlowRun.{Frame, Machine, Step, On, Stopped, Astray, Called, depth, takes_result, counted, calls_library, with_slots, start_temps, entered, calls_defined, calls}
use Rattle.pw_opt_rules.specs.Rewriting.{with_blocks}
use Rattle.pw_law_opt.specs.Sides.{left, Active, Twin, first_frame, second_frame, first_side, second_side, both_getting, with_modules}
use Rattle.pw_law_opt.specs.Passes.{Pass, IsSound, Follows, IsAlike, IsReady, Both, goes, stops, strays}
use Rattle.pw_law_opt.proofs.Programs.{Found, nothing, both, named}

-- ---- results

pub first_takes : (t : Option ℕ) (v : Value) (x : Twin) → takes_result t v (first_side x) ≡ first_side (both_getting t v x)
first_takes None v x = refl
first_takes (Some t) v x = refl

pub second_takes : (t : Option ℕ) (v : Value) (x : Twin) → takes_result t v (second_side x) ≡ second_side (both_getting t v x)
second_takes None v x = refl
second_takes (Some t) v x = refl

pub ready_gets : (w : Pass) (t : Option ℕ) (v : Value) (x : Twin) → IsReady w t x → IsAlike w (both_getting t v x)
ready_gets w t v x r = record { frame = record { pair = r.frame.pair; at = r.frame.at v }; callers = r.callers }

pub gets_both : (w : Pass) (t : Option ℕ) (v : Value) (x : Twin) → IsReady w t x → Both w (On (takes_result t v (first_side x))) (On (takes_result t v (second_side x)))
gets_both w t v x r = goes (both_getting t v x) (ap On (first_takes t v x)) (ap On (second_takes t v x)) (ready_gets w t v x r)

counts_both : (w : Pass) (t : Option ℕ) (v : Value) (x : Twin) → IsReady w t x → Both w (On (counted (takes_result t v (first_side x)))) (On (counted (takes_result t v (second_side x))))
counts_both w t v x r =
    goes (record (both_getting t v x) { events = x.events + 1 }) (ap (λ (m : Machine). On (counted m)) (first_takes t v x)) (ap (λ (m : Machine). On (counted m)) (second_takes t v x))
    (let a = ready_gets w t v x r in record { frame = a.frame; callers = a.callers })

-- ---- the library

abbrev reads : Option ℕ → Machine → List ℕ → Step
reads t m [] = On (counted (takes_result t (Num end_of_input) m))
reads t m (byte ∷ rest) = On (counted (takes_result t (Num byte) (record m { rest = rest; read = m.read + 1 })))

reads_both : (w : Pass) (t : Option ℕ) (x : Twin) (input : List ℕ) → IsReady w t x → Both w (reads t (first_side x) input) (reads t (second_side x) input)
reads_both w t x [] r = counts_both w t (Num end_of_input) x r
reads_both w t x (byte ∷ rest) r = counts_both w t (Num byte) (record x { rest = rest; read = x.read + 1 }) (record { frame = r.frame; callers = r.callers })

library_both : (w : Pass) (g : Library) (t : Option ℕ) (args : List Value) (x : Twin) → IsReady w t x → Both w (calls_library g t args (first_side x)) (calls_library g t args (second_side x))
library_both w GetChar t [] x r = reads_both w t x x.rest r
library_both w PutChar t (Num n ∷ []) x r = counts_both w t (Num (n % 256)) (record x { out = x.out ++ n % 256 ∷ [] }) (record { frame = r.frame; callers = r.callers })
library_both w Exit t (Num n ∷ []) x r = stops (Ended (n % 256)) x refl refl
library_both w g t args x r = strays refl

-- ---- the stack

deep : (p : Program) (fs : List Active) → sum_by (λ (f : Frame). p.frame_of f.function.name) (map second_frame fs) ≡ sum_by (λ (f : Frame). p.frame_of f.function.name) (map first_frame fs)
deep p [] = refl
deep p (a ∷ fs) =
    sum_by-cons (λ (f : Frame). p.frame_of f.function.name) (second_frame a) (map second_frame fs)
    ∙ ap (λ (n : ℕ). p.frame_of a.function.name + n) (deep p fs)
    ∙ sym (sum_by-cons (λ (f : Frame). p.frame_of f.function.name) (first_frame a) (map first_frame fs))

pub depth_same : (p : Program) (ms : List FlowModule) (x : Twin) → depth (with_modules p ms) (second_side x) ≡ depth p (first_side x)
depth_same p ms x = ap (λ (n : ℕ). p.frame_of x.frame.function.name + n) (deep p x.callers)

either_way : (w : Pass) {s t u v : Step} (b : Bool) → Both w s t → Both w u v → Both w (if b then s else u) (if b then t else v)
either_way w true h k = h
either_way w false h k = k

full_both : (w : Pass) (x : Twin) → Both w (Stopped StackFull (first_side x)) (Stopped StackFull (second_side x))
full_both w x = stops StackFull x refl refl

-- ---- functions of the modules

abbrev begins : FlowFn → Option ℕ → List Value → Machine → Option Block → Step
begins f t args m (Some b) = if length args == f.params then On (counted (entered f b t args m)) else Astray
begins f t args m None = Astray

-- both at the start of a function, the first at this block and the second at that
abbrev begun : FlowFn → List Block → Option ℕ → List Value → Block → Block → Twin → Twin
begun f bs t args b c x = record {
  frame = record {
    function = f;
    blocks = bs;
    block = 0;
    first = left b.ops b.end (start_temps f args);
    second = left c.ops c.end (start_temps f args);
    base = length x.objects;
    result = t;
  };
  callers = x.frame ∷ x.callers;
  objects = with_slots f.slots x.objects;
  rest = x.rest;
  read = x.read;
  out = x.out;
  events = x.events + 1;
  moments = Called f.name x.objects ∷ x.moments;
}

begins_both : (w : Pass) → IsSound w → (f : FlowFn) (bs : List Block) (t : Option ℕ) (args : List Value) (x : Twin) (b : Option Block) → w.pairs f bs → IsReady w t x → slice_get f.blocks 0 ≡ b
    → Both w (begins f t args (first_side x) b) (begins (with_blocks f bs) t args (second_side x) (slice_get bs 0))
begins_both w s f bs t args x None pair r is = strays refl
begins_both w s f bs t args x (Some b) pair r is = by_count (length args == f.params) refl where
  other : Option Block → Step
  other c = begins (with_blocks f bs) t args (second_side x) c

  by_count : (c : Bool) → (length args == f.params) ≡ c → Both w (if c then On (counted (entered f b t args (first_side x))) else Astray) (other (slice_get bs 0))
  by_count true e =
      let same : length args ≡ f.params = eqb-true (length args) f.params e in
      let k = s.start f bs args b pair (let fits = s.params f bs pair in omega (arith, fits, same)) is in
      subst (λ (o : Option Block). Both w (On (counted (entered f b t args (first_side x)))) (other o)) (sym k.is)
      (subst (λ (c : Bool). Both w (On (counted (entered f b t args (first_side x)))) (if c then On (counted (entered (with_blocks f bs) k.entered t args (second_side x))) else Astray)) (sym e)
      (goes (begun f bs t args b k.entered x) refl refl (record { frame = record { pair = pair; at = k.at_front }; callers = (r.frame, r.callers) })))
  by_count false e = strays refl

pub defined_both : (w : Pass) → IsSound w → (p : Program) (ms : List FlowModule) (f : FlowFn) (bs : List Block) (t : Option ℕ) (args : List Value) (x : Twin) → w.pairs f bs → IsReady w t x
    → Both w (calls_defined p f t args (first_side x)) (calls_defined (with_modules p ms) (with_blocks f bs) t args (second_side x))
defined_both w s p ms f bs t args x pair r =
    subst (λ (n : ℕ). Both w (calls_defined p f t args (first_side x)) (if nat_lt p.stack (p.frame_of f.name + n) then Stopped StackFull (second_side x) else begins (with_blocks f bs) t args (second_side x) (slice_get bs 0)))
    (sym (depth_same p ms x))
    (either_way w (nat_lt p.stack (p.frame_of f.name + depth p (first_side x))) (full_both w x) (begins_both w s f bs t args x (slice_get f.blocks 0) pair r refl))

abbrev calls_by : Program → Option ℕ → List ℕ → List Value → Machine → ℕ → Option Library → Option FlowFn → Step
calls_by p t f args m n (Some g) defined = if nat_lt p.stack (p.frame_of f + n) then Stopped StackFull m else calls_library g t args m
calls_by p t f args m n None (Some defined) = calls_defined p defined t args m
calls_by p t f args m n None None = Astray

by_name : (w : Pass) → IsSound w → (p : Program) (ms : List FlowModule) (t : Option ℕ) (f : List ℕ) (args : List Value) (x : Twin) (g : Option Library) (defined other : Option FlowFn) → Found w defined other → IsReady w t x
    → Both w (calls_by p t f args (first_side x) (depth p (first_side x)) g defined) (calls_by (with_modules p ms) t f args (second_side x) (depth p (first_side x)) g other)
by_name w s p ms t f args x (Some g) defined other found r = either_way w (nat_lt p.stack (p.frame_of f + depth p (first_side x))) (full_both w x) (library_both w g t args x r)
by_name w s p ms t f args x None defined other nothing r = strays refl
by_name w s p ms t f args x None defined other (both fn bs pair) r = defined_both w s p ms fn bs t args x pair r

pub calls_both : (w : Pass) → IsSound w → (p : Program) (ms : List FlowModule) → Follows w p ms → (t : Option ℕ) (f : List ℕ) (args : List Value) (x : Twin) → IsReady w t x
    → Both w (calls p t f args (first_side x)) (calls (with_modules p ms) t f args (second_side x))
calls_both w s p ms fine t f args x r =
    subst (λ (n : ℕ). Both w (calls p t f args (first_side x)) (calls_by (with_modules p ms) t f args (second_side x) n (library_at f) (function_named (with_modules p ms) f)))
    (sym (depth_same p ms x))
    (by_name w s p ms t f args x (library_at f) (function_named p f) (function_named (with_modules p ms) f) (named w p ms fine f) r)
