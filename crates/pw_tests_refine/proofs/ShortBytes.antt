-- A local that gets the bytes of a hidden object (C90 6.5.7): `void f(void){char a[5]="abcd";}`. The code copies as many
-- bytes as the type has. Where the hidden object has fewer, C's meaning copies these and goes on, and the machine goes
-- astray: such a state and machine do not match, whatever the spots. By computing the definitions.
use Rattle.std.proofs.Common.{ℕ, ◌≡◌, ◌<◌, refl, true, false, Bool, arith, replicate, List, [], ◌∷◌, ◌++◌, Some, None}
use Rattle.std.specs.Prelude.{codes, decimal}
use Rattle.std.specs.Str.{bytes_eq}
use Rattle.std.proofs.lemmas.Slice.Eq.{bytes_eq-Decides}
use Rattle.pw_value.specs.declared.value.Value.TheVariants as V
use Rattle.pw_value.specs.declared.value.Byte.TheVariants as B
use Rattle.pw_value.specs.Objects.{Object, written}
use Rattle.pw_types.specs.TypeTrees.{Void, Int, Array, Function as FunctionType, QType, Qualified, NoType}
use Rattle.pw_types.specs.declared.kind.IntKind.TheVariants as K
use Rattle.pw_types.specs.TypedTrees.{External, Hidden, Bytes, Block, NoStatement, LocalValue, FunctionValue, ItemBytes, GlobalValue, ModuleValue}
use Rattle.pw_flow.specs.declared.flow.End.TheVariants as end
use Rattle.pw_lower.specs.Expressions.{lower}
use Rattle.pw_lower.specs.Statements.{initialised, lower_statement}
use Rattle.pw_lower.specs.Modules.{lowered, lowered_function, entered}
use Rattle.pw_cmean.specs.Worlds.{World}
use Rattle.pw_cmean.specs.Acts.{State, Gives, give, stop, go_on, ◌>>=◌, wrong, look, write, need, undefined, told, judge}
use Rattle.pw_cmean.specs.Access.{within}
use Rattle.pw_cmean.specs.Evaluation.{local_place, symbol_place}
use Rattle.pw_cmean.specs.Execution.{initialise}
use Rattle.pw_run_languages.specs.Commands.{command}
use Rattle.pw_run_languages.specs.FlowRun as flow
use Rattle.pw_run_languages.specs.FlowRun.{Machine, Step, On, Stopped, Astray}
use Rattle.pw_law_refine.specs.Standing.{Spot}
use Rattle.pw_law_refine.specs.Activations.{Activation, graphs, graph_of, home_of, env_of}
use Rattle.pw_law_refine.specs.Matching.{Matches}
use Rattle.pw_tests_refine.proofs.Examples.{frames}

abbrev five_chars : QType
five_chars = Qualified (Array (Qualified (Int K.Char) false false) (Some 5)) false false

abbrev hidden : GlobalValue
hidden = record {
  name = Hidden 0;
  ty = five_chars;
  writable = false;
  items = record { offset = 0; item = ItemBytes (codes "abcd" ++ 0 ∷ []) } ∷ [];
}

abbrev a : LocalValue
a = record { name = codes "a"; ty = five_chars; writable = true }

abbrev f : FunctionValue
f = record {
  name = External (codes "f");
  token = 1;
  ty = Qualified (FunctionType (Qualified Void false false) NoType) false false;
  params = 0;
  locals = a ∷ [];
  labels = 0;
  named = [];
  body = Block 5 0 1 (Bytes 0 0 [] ∷ []) NoStatement;
}

abbrev tree : ModuleValue
tree = record { records = []; globals = hidden ∷ []; functions = f ∷ []; declared = [] }

abbrev world : World
world = record { program = record { modules = record { name = codes "a"; tree = tree } ∷ [] }; frame_of = frames; stack = 1000 }

abbrev x : Activation
x = record {
  world = world;
  home = record { name = codes "a"; tree = tree };
  function = f;
  base = 1;
  result = None;
  callers = [];
}

-- the hidden object with so many bytes, and the array
abbrev objects : ℕ → List Object
objects size =
    record { bytes = replicate size (B.Num 97); live = true; writable = false }
    ∷ record { bytes = replicate 5 B.Undefined; live = true; writable = true } ∷ []

abbrev state : ℕ → State
state size = record { objects = objects size; active = codes "f" ∷ []; rest = []; read = 0; out = []; moments = [] }

-- before the code of the initialiser
abbrev machine : ℕ → Machine
machine size = record {
  frame = record {
    function = graph_of x;
    block = 0;
    ops = (initialised (home_of x) (a ∷ []) (Bytes 0 0 []) (entered f)).ops;
    end = end.Return None;
    temps = V.Undefined ∷ V.Undefined ∷ [];
    base = 1;
    result = None;
  };
  callers = [];
  objects = objects size;
  rest = [];
  read = 0;
  out = [];
  events = 0;
  moments = [];
}

-- the hidden object's name has its number in it
own_name : bytes_eq (decimal 0) (decimal 0) ≡ true
own_name = (bytes_eq-Decides (decimal 0) (decimal 0)).1 refl

goes_on_in_c : initialise (Bytes 0 0 []) [] (env_of x (Some 1 ∷ [])) (state 3) ≡ Gives tt (record (state 3) { objects = written 1 0 (replicate 3 (B.Num 97)) (objects 3) })
unfolding give stop go_on ◌>>=◌ wrong look write need undefined told judge within local_place symbol_place initialise
goes_on_in_c = rw own_name refl

goes_astray : flow.steps (graphs world) 3 (On (machine 3)) ≡ Astray
unfolding lower lower_statement lowered_function lowered command flow.step flow.steps
goes_astray = rw own_name refl

is_on : Step → Bool
is_on (On m) = true
is_on s = false

-- with all of its bytes the hidden object is copied
goes_on : is_on (flow.steps (graphs world) 3 (On (machine 5))) ≡ true
unfolding is_on lower lower_statement lowered_function lowered command flow.step flow.steps
goes_on = rw own_name refl

do_not_match : (spots : List Spot) → Matches world spots (state 3) (machine 3) → ⊥
unfolding lowered
do_not_match spots m =
    let own = m.memory.holds 0 0 5 refl (m.globals 0 (let first : 0 < 1 = omega arith in first)).there in
    absurd (let few : 3 ≡ 5 = own.own_size in omega (arith, few))
