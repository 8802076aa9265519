-- Where no function takes room on the stack, a program is accepted as it is with room, and moments are alike as they are there; and
-- what meets the source's stages up to an undefined operation meets those that promise nothing there.
use Rattle.std.specs.Prelude.{ℕ, List, [], ◌∷◌}
use Rattle.std.specs.List.{AllByRecursion}
use Rattle.std.proofs.Common.{arith}
use Rattle.pw_flow.specs.declared.flow.Item.{Item}
use Rattle.pw_flow.specs.declared.flow.Item.TheVariants.{Bytes, Address}
use Rattle.pw_flow.specs.declared.flow.Op.{Op}
use Rattle.pw_flow.specs.declared.flow.Op.TheVariants.{AddrGlobal, AddrFn, LoadG, StoreG, Call}
use Rattle.pw_cmean.specs.Worlds.{Program}
use Rattle.pw_cmean.specs.Acts as source
use Rattle.pw_cmean.specs.Acts.{Outcome, Gives, Ends}
use Rattle.pw_cmean.specs.SourceRun.{run_main, start_state}
use Rattle.pw_run.specs.Runs.{Stage, Going, Over, Wrong, AreAlike, none, also, Met, Refines}
use Rattle.pw_run_languages.specs.Programs as flows
use Rattle.pw_run_languages.specs.FlowRun as flow
use Rattle.pw_run_languages.specs.LawfulPrograms.{NamesRightly, IsItem, IsProgram}
use Rattle.pw_law_source.specs.Source.{staged, staged_within, source_stages, source_progress}
use Rattle.pw_law_source.specs.Lowering.{MomentKept, flow_program, IsAccepted}
use Rattle.pw_law_layers.specs.Whole.{roomless}

-- ---- programs

names_rightly : (q : flows.Program) (o : Op) → NamesRightly q o → NamesRightly (roomless q) o
names_rightly q (AddrGlobal t g n) h = h
names_rightly q (AddrFn t f) h = h
names_rightly q (LoadG t g k) h = h
names_rightly q (StoreG g a k) h = h
names_rightly q (Call t f args) h = h
names_rightly q o h = tt

item_stays : (q : flows.Program) (i : Item) → IsItem q i → IsItem (roomless q) i
item_stays q (Bytes bytes) h = h
item_stays q (Address name offset) h = h

items_stay : (q : flows.Program) (items : List (ℕ × Item)) → AllByRecursion (λ i. IsItem q i.1) items → AllByRecursion (λ i. IsItem (roomless q) i.1) items
items_stay q [] h = tt
items_stay q (i ∷ rest) h = (item_stays q i.1 h.0, items_stay q rest h.1)

pub program_stays : (q : flows.Program) → IsProgram q → IsProgram (roomless q)
program_stays q is = record {
  modules = is.modules;
  order = is.order;
  names = is.names;
  defined = is.defined;
  ops = λ f o there within. names_rightly q o (is.ops f o there within);
  items = λ g there. items_stay q g.items (is.items g there);
  start = is.start;
  start_takes_nothing = is.start_takes_nothing;
  stack = omega arith;
}

pub accepted_stays : (p : Program) (frame_of : List ℕ → ℕ) (stack : ℕ) → IsAccepted p frame_of stack → IsAccepted p (λ f. 0) 0
accepted_stays p frame_of stack accepted = record {
  typed = accepted.typed;
  program = program_stays (flow_program p frame_of stack) accepted.program;
  alike = record { declared = accepted.alike.declared; library = accepted.alike.library; main = accepted.alike.main };
}

-- ---- moments

pub kept_with_room : (q : flows.Program) (m : source.Moment) (n : flow.Moment) → MomentKept (roomless q) m n → MomentKept q m n
kept_with_room q (source.Called f objects) (flow.Called g kept) h = (h.0, record { place = h.1.place; globals = h.1.globals })
kept_with_room q (source.Called f objects) (flow.Returned g kept) h = absurd h
kept_with_room q (source.Returned f objects) (flow.Called g kept) h = absurd h
kept_with_room q (source.Returned f objects) (flow.Returned g kept) h = (h.0, record { place = h.1.place; globals = h.1.globals })

-- what is alike in one way is so in a weaker one
module _ {M N : Type 0} (F G : M → N → Type 0) (weaker : (m : M) (n : N) → F m n → G m n) where
  alike_so : (l : List M) (k : List N) → AreAlike F l k → AreAlike G l k
  alike_so l k none = none
  alike_so l k (also m n ms ns f rest) = also m n ms ns (weaker m n f) (alike_so ms ns rest)

  pub met_so : (s : Stage M) (b : ℕ → Stage N) → Met F s b → Met G s b
  met_so (Going v) b h = record {
    at = h.at;
    view = h.view;
    is = h.is;
    same = record { output = h.same.output; read = h.same.read; log = alike_so v.log h.view.log h.same.log };
    counted = h.counted;
  }
  met_so (Over end v) b h = record {
    at = h.at;
    view = h.view;
    is = h.is;
    same = record { output = h.same.output; read = h.same.read; log = alike_so v.log h.view.log h.same.log };
    counted = h.counted;
  }
  met_so Wrong b h = tt

-- ---- stages

stages_met : {N : Type 0} (Alike : source.Moment → N → Type 0) (n : ℕ) (o : Outcome (Unit {0})) (b : ℕ → Stage N) → Met Alike (staged_within n o) b → Met Alike (staged n o) b
stages_met Alike n (Gives done s) b h = h
stages_met Alike n (Ends (source.Exit status) s) b h = h
stages_met Alike n (Ends source.StackFull s) b h = h
stages_met Alike n (Ends source.Bound s) b h = h
stages_met Alike n (Ends (source.Undefined operation home token) s) b h = tt
stages_met Alike n (Ends source.Wrong s) b h = tt

pub stages_kept : {N : Type 0} (Alike : source.Moment → N → Type 0) (p : Program) (frame_of : List ℕ → ℕ) (stack : ℕ) (input : List ℕ) (b : ℕ → Stage N)
    → Refines Alike (source_progress p frame_of stack input) b → Refines Alike (source_stages p frame_of stack input) b
unfolding source_stages source_progress
stages_kept Alike p frame_of stack input b h =
    λ n. stages_met Alike n (run_main (record { program = p; frame_of = frame_of; stack = stack }) n (start_state p input)) b (h n)
