-- The assignment in `bump` keeps its promise, in a state in which n is 5: related states, by computing the definitions.
use Rattle.std.proofs.Common.{ℕ, zero, suc, ◌≡◌, ◌<◌, ◌≤◌, refl, ap, sym, subst, true, false, true≢false, Bool, is_some, arith, All, length, Option, List, [], ◌∷◌, Some, None}
use Rattle.std.proofs.lemmas.List.Elements.{All-from_recursion}
use Rattle.std.specs.Prelude.{codes}
use Rattle.pw_value.specs.declared.value.Value.{Value}
use Rattle.pw_value.specs.declared.value.Value.TheVariants as V
use Rattle.pw_value.specs.declared.value.Kind.TheVariants.{W32}
use Rattle.pw_value.specs.Objects.{Object, object_at, byte_at}
use Rattle.pw_flow.specs.declared.flow.Op.{Op}
use Rattle.pw_flow.specs.declared.flow.Op.TheVariants as op
use Rattle.pw_flow.specs.declared.flow.BinKind.TheVariants.{Add}
use Rattle.pw_flow.specs.declared.flow.End.TheVariants as end
use Rattle.pw_lower.specs.Expressions.{lower}
use Rattle.pw_lower.specs.Statements.{lower_statement}
use Rattle.pw_lower.specs.Modules.{lowered, lowered_function, entered}
use Rattle.pw_cmean.specs.Worlds.{World}
use Rattle.pw_cmean.specs.Acts.{State, give, stop, go_on, ◌>>=◌, branch, wrong, look, make, end_object, write, next_byte, get_char, put_char, called, returned, during, with_object, need, undefined, told, judge}
use Rattle.pw_cmean.specs.Access.{objects_now, within, load, store, copy, fetch, put}
use Rattle.pw_cmean.specs.Operators.{truth, outcome_of, on_numbers, unary_number, unary, advance, advance_elements, difference, ordered, compared, on_pointers, pointer_and_number, number_and_pointer, binary, convert}
use Rattle.pw_cmean.specs.Evaluation.{local_place, symbol_place, used, value_by, value_at, cast, bounded_call, take_room, library_call, call_body, call, call_value, old_value, update, step, answer_of, place_of, values_of}
use Rattle.pw_cmean.specs.SourceRun.{calls}
use Rattle.pw_cmean.specs.Typed.{IsByte, HoldsBytes}
use Rattle.pw_run.specs.Runs.{none}
use Rattle.pw_run_languages.specs.Commands.{command}
use Rattle.pw_run_languages.specs.FlowRun as flow
use Rattle.pw_run_languages.specs.FlowRun.{Machine}
use Rattle.pw_law_refine.specs.Standing.{Spot, Nowhere, In, spot_of, ByteStands, Holds, MemoryStands}
use Rattle.pw_law_refine.specs.Activations.{Activation, number_of, graph_of, env_of}
use Rattle.pw_law_refine.specs.Matching.{AreSmall, IsGlobalAt, global_size, Matches, IsFrameOf, Related, Lasts}
use Rattle.pw_law_refine.specs.Meeting.{Meets}
use Rattle.pw_law_refine.specs.Expressions.{HasResult}
use Rattle.pw_tests_refine.proofs.Examples.{number, n_is, tree, program, frames, bump, one_more}

-- ---- the states

abbrev pub world : World
world = record { program = program; frame_of = frames; stack = 1000 }

abbrev pub x : Activation
x = record {
  world = world;
  home = record { name = codes "a"; tree = tree };
  function = bump;
  base = 1;
  result = None;
  callers = [];
}

abbrev spots : List Spot
spots = In 0 4 ∷ []

abbrev pub state : ℕ → State
state k = record { objects = n_is k; active = codes "bump" ∷ []; rest = []; read = 0; out = []; moments = [] }

abbrev machine : ℕ → List Op → List Value → Machine
machine k ops temps = record {
  frame = record { function = graph_of x; block = 0; ops = ops; end = end.Return None; temps = temps; base = 1; result = None };
  callers = [];
  objects = n_is k;
  rest = [];
  read = 0;
  out = [];
  events = 0;
  moments = [];
}

abbrev before : Machine
before = machine 5 (op.LoadG 0 (codes "n") W32 ∷ op.Const 1 1 ∷ op.Bin Add 2 0 1 ∷ op.StoreG (codes "n") 2 W32 ∷ []) (V.Undefined ∷ V.Undefined ∷ V.Undefined ∷ [])

abbrev behind : Machine
behind = machine 6 [] (V.Num 5 ∷ V.Num 1 ∷ V.Num 6 ∷ [])

-- ---- they are related

object_in : Spot → ℕ
object_in Nowhere = 0
object_in (In f size) = f

size_in : Spot → ℕ
size_in Nowhere = 0
size_in (In f size) = size

is_in : Spot → Bool
is_in Nowhere = false
is_in (In f size) = true

each_byte : (k i : ℕ) → ByteStands spots (byte_at (number k) i) (byte_at (number k) i)
each_byte k zero = refl
each_byte k (suc zero) = refl
each_byte k (suc (suc zero)) = refl
each_byte k (suc (suc (suc zero))) = refl
each_byte k (suc (suc (suc (suc i)))) = tt

n_holds : (k : ℕ) → Holds spots 4 (object_at (n_is k) 0) (object_at (n_is k) 0)
n_holds k = record { live = refl; own_size = refl; same_size = refl; bytes = each_byte k }

holds : (k o f size : ℕ) → (object_at (n_is k) o).live ≡ true → spot_of spots o ≡ In f size → Holds spots size (object_at (n_is k) o) (object_at (n_is k) f)
unfolding object_in size_in
holds k zero f size live there =
    subst (λ (f : ℕ). Holds spots size (object_at (n_is k) 0) (object_at (n_is k) f)) (ap object_in there)
    (subst (λ (size : ℕ). Holds spots size (object_at (n_is k) 0) (object_at (n_is k) 0)) (ap size_in there) (n_holds k))
holds k (suc o) f size live there = absurd (true≢false (sym live))

apart : (k o p : ℕ) → (object_at (n_is k) o).live ≡ true → (object_at (n_is k) p).live ≡ true → o ≡ p
apart k zero zero l m = refl
apart k (suc o) p l m = absurd (true≢false (sym l))
apart k zero (suc p) l m = absurd (true≢false (sym m))

memory : (k : ℕ) → MemoryStands spots (n_is k) (n_is k)
memory k = record { count = refl; holds = holds k; apart = λ o p f n m l h s t. apart k o p l h }

bytes : (k : ℕ) → k < 256 → HoldsBytes (state k)
bytes k h = record {
  objects = All-from_recursion (λ (o : Object). All IsByte o.bytes) (n_is k) (All-from_recursion IsByte (number k) (omega arith, (omega arith, (omega arith, (h, tt)))), tt);
  input = All-from_recursion (λ (b : ℕ). b < 256) [] tt;
}

small : (k : ℕ) → AreSmall (n_is k)
small k zero = omega arith
small k (suc o) = omega arith

no_number : (k o : ℕ) → number_of [] k ≡ Some o → ⊥
no_number k o e = true≢false (sym (ap (λ (n : Option ℕ). is_some n) e))

matches : (k : ℕ) (ops : List Op) (temps : List Value) → k < 256 → Matches world spots (state k) (machine k ops temps)
unfolding lower lower_statement lowered_function lowered
matches k ops temps h = record {
  memory = memory k;
  globals = first;
  input = refl;
  shows = record { output = refl; read = refl; log = none };
  active = refl;
  bytes = bytes k h;
  small = small k;
}
  where
    first : (g : ℕ) → g < 1 → IsGlobalAt (global_size world g) spots (n_is k) g
    first zero h = record { there = refl; live = refl }
    first (suc g) h = absurd (omega (arith, h))

frame : (k : ℕ) (ops : List Op) (a b c : Value) → IsFrameOf x [] spots (state k) (machine k ops (a ∷ b ∷ c ∷ []))
unfolding lower lower_statement lowered_function
frame k ops a b c = record {
  function = refl;
  base = refl;
  result = refl;
  callers = refl;
  temps = refl;
  scope = refl;
  locals = λ k o e. absurd (no_number k o e);
  apart = λ j k o e f. absurd (no_number j o e);
  slots = λ n h. absurd (omega (arith, h));
  owned = λ o n size live there h. absurd (omega (arith, h));
}

abbrev related : (k : ℕ) (ops : List Op) (a b c : Value) → k < 256 → Related x [] spots (state k) (machine k ops (a ∷ b ∷ c ∷ []))
related k ops a b c h = record { matches = matches k ops (a ∷ b ∷ c ∷ []) h; frame = frame k ops a b c }

lasts : Lasts [] spots spots (state 5) (state 6) before behind
unfolding is_in
lasts = record {
  more = ([], refl);
  unnamed = λ o h there n. unnamed o h there;
  lives = living;
  ended = ended;
  count = omega arith;
  living = living;
  sizes = sizes;
}
  where
    unnamed : (o : ℕ) → o < 1 → spot_of spots o ≡ Nowhere → object_at (n_is 6) o ≡ object_at (n_is 5) o
    unnamed zero h there = absurd (true≢false (ap is_in there))
    unnamed (suc o) h there = refl

    ended : (o : ℕ) → 1 ≤ o → (object_at (n_is 6) o).live ≡ false
    ended zero h = absurd (omega (arith, h))
    ended (suc o) h = refl

    living : (f : ℕ) → f < 1 → (object_at (n_is 6) f).live ≡ (object_at (n_is 5) f).live
    living zero h = refl
    living (suc f) h = refl

    sizes : (f : ℕ) → f < 1 → length (object_at (n_is 6) f).bytes ≡ length (object_at (n_is 5) f).bytes
    sizes zero h = refl
    sizes (suc f) h = refl

-- ---- the promise

keeps : Meets world 1 before (answer_of one_more (calls world 1) (env_of x []) (state 5)) (HasResult x [] spots one_more (entered bump) (state 5) before)
unfolding give stop go_on ◌>>=◌ branch wrong look make end_object write next_byte get_char put_char called returned during with_object need undefined told judge objects_now within load store copy fetch put truth outcome_of on_numbers unary_number unary advance advance_elements difference ordered compared on_pointers pointer_and_number number_and_pointer binary convert local_place symbol_place used value_by value_at cast bounded_call take_room library_call call_body call call_value old_value update step answer_of place_of values_of lower lower_statement lowered_function lowered command flow.step flow.steps
keeps = record {
  count = 4;
  machine = behind;
  comes = refl;
  holds = record {
    done = record {
      later = record { spots = spots; related = related 6 [] (V.Num 5) (V.Num 1) (V.Num 6) (omega arith); lasts = lasts };
      temps = λ i h n. absurd (omega (arith, h));
    };
    behind = record { block = _; there = refl; here = refl; ops = refl; end = refl };
    stands = refl;
  };
}
