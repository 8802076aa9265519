-- How a command's own clauses say what the call did.
use Rattle.std.proofs.Common.{◌≡◌, ℕ, List, [], Option, Some, None, refl, sym, subst, append-nil}
use Rattle.std.specs.Prelude.{IfSome}
use Rattle.pw_io.specs.Files.{Told}
use Rattle.pw_io.specs.Streams.{Appends}
use Rattle.pw_top_answer.specs.declared.answer.Answer.{Answer}
use Rattle.pw_top_answer.specs.declared.answer.Answer.TheVariants.{Usage, ReadFault, WriteFault, StoreFault, NoMemory}
use Rattle.pw_top_answer.specs.Effects.{Effect, NamedFile, PutsFiles, answers_alone}
use Rattle.pw_top_answer.specs.Outcomes.{Answers, IsWhole, LeavesInput, PutsOut, WasReadInPart}
use Rattle.pw_go.specs.Ends.{EndsIn}
use Rattle.pw_commands.specs.Outcome.{IsFound, Obeys}
use Rattle.pw_commands.specs.Showing.{Shows}
use Rattle.pw_top.specs.Does.{Does}

-- ---- nothing was put, put out or read

pub nothing_put : (answer : Answer) (told : Told) (new : Option Told) → new ≡ Some told → PutsFiles [] answer told new
nothing_put StoreFault told new e = record { done = []; more = []; split = refl; left = e }
nothing_put NoMemory told new e = record { done = []; more = []; split = refl; left = e }
nothing_put _ told new e = e

whole_none : (answer : Answer) → IsWhole answer []
whole_none ReadFault = tt
whole_none WriteFault = tt
whole_none StoreFault = tt
whole_none NoMemory = tt
whole_none _ = refl

appends_none : (taken : Option (List ℕ)) → Appends taken taken []
appends_none None = tt
appends_none (Some xs) = sym (append-nil xs)

pub nothing_out : (answer : Answer) (taken : Option (List ℕ)) → PutsOut [] answer taken taken
nothing_out answer taken = record { output = []; more = []; taken = appends_none taken; front = refl; whole = whole_none answer }

pub none_out_yet : (wanted : List ℕ) (taken : Option (List ℕ)) → PutsOut wanted NoMemory taken taken
none_out_yet wanted taken = record { output = []; more = wanted; taken = appends_none taken; front = refl; whole = tt }

nothing_read : (answer : Answer) (input : List ℕ) → LeavesInput input input answer (Some input)
nothing_read ReadFault input = ([], [], (refl, refl))
nothing_read WriteFault input = ([], [], (refl, refl))
nothing_read StoreFault input = ([], [], (refl, refl))
nothing_read NoMemory input = ([], [], (refl, refl))
nothing_read _ input = refl

pub left_so : (answer : Answer) (wanted input : List ℕ) → wanted ≡ input → LeavesInput wanted input answer (Some input)
left_so answer wanted input e = subst (λ (w : List ℕ). LeavesInput w input answer (Some input)) (sym e) (nothing_read answer input)

-- ---- a command that touches the store alone

-- it puts nothing out and reads nothing
pub record Quiet (input : List ℕ) (effect : Effect) : Type 0 where
  pub output : effect.output ≡ []
  pub rest : effect.rest ≡ input

pub quiet_does : (comes : Effect → Type 0) (answer : Answer) (told : Told) (new : Option Told) (input : List ℕ) (taken : Option (List ℕ)) → ((e : Effect) → comes e → Quiet input e) → Obeys comes answer told new
    → Does comes answer told new input (Some input) taken taken
quiet_does comes answer told new input taken quiet h = record {
  answers = λ e d. h.answers e d;
  puts = λ e d. h.puts e d;
  output = λ e d. subst (λ (o : List ℕ). PutsOut o answer taken taken) (sym (quiet e d).output) (nothing_out answer taken);
  rest = λ e d. left_so answer e.rest input (quiet e d).rest;
  found = h.found;
}

-- ---- a command that prints

-- it puts no file and reads nothing
pub record Prints (input : List ℕ) (effect : Effect) : Type 0 where
  pub puts : effect.puts ≡ []
  pub rest : effect.rest ≡ input

pub prints_does : (comes : Effect → Type 0) (answer : Answer) (told : Told) (new : Option Told) (input : List ℕ) (taken taken' : Option (List ℕ)) → ((e : Effect) → comes e → Prints input e) → new ≡ Some told → Shows comes answer taken taken'
    → Does comes answer told new input (Some input) taken taken'
prints_does comes answer told new input taken taken' prints same h = record {
  answers = λ e d. h.answers e d;
  puts = λ e d. subst (λ (fs : List NamedFile). PutsFiles fs answer told new) (sym (prints e d).puts) (nothing_put answer told new same);
  output = λ e d. h.output e d;
  rest = λ e d. left_so answer e.rest input (prints e d).rest;
  found = h.found;
}

-- ---- a command that comes to one effect

found_one : (one : Effect) (answer : Answer) → Answers one.answer answer → IsFound (λ e. e ≡ one) answer
found_one one ReadFault h = (one, refl)
found_one one WriteFault h = (one, refl)
found_one one StoreFault h = tt
found_one one NoMemory h = tt
found_one one _ h = (one, refl, h)

pub one_does : (one : Effect) (answer : Answer) (told : Told) (new : Option Told) (input : List ℕ) (rest taken taken' : Option (List ℕ)) → Answers one.answer answer → PutsFiles one.puts answer told new
    → PutsOut one.output answer taken taken' → LeavesInput one.rest input answer rest → Does (λ e. e ≡ one) answer told new input rest taken taken'
one_does one answer told new input rest taken taken' h puts out left = record {
  answers = λ e d. subst (λ (x : Effect). Answers x.answer answer) (sym d) h;
  puts = λ e d. subst (λ (x : Effect). PutsFiles x.puts answer told new) (sym d) puts;
  output = λ e d. subst (λ (x : Effect). PutsOut x.output answer taken taken') (sym d) out;
  rest = λ e d. subst (λ (x : Effect). LeavesInput x.rest input answer rest) (sym d) left;
  found = found_one one answer h;
}

-- ---- words that say no command, and want of memory

pub usage_does : (told : Option Told) (rest taken : Option (List ℕ)) → IfSome told (λ t. IfSome rest (λ input. Does (λ e. e ≡ answers_alone Usage input) Usage t told input rest taken taken))
usage_does None rest taken = tt
usage_does (Some t) None taken = tt
usage_does (Some t) (Some input) taken = one_does (answers_alone Usage input) Usage t (Some t) input (Some input) taken taken refl (nothing_put Usage t (Some t) refl) (nothing_out Usage taken) (nothing_read Usage input)

untouched_part : (wanted input : List ℕ) → EndsIn input wanted → WasReadInPart wanted input (Some input)
untouched_part wanted input e = ([], e.0, (refl, e.1))

pub memory_here : (comes : Effect → Type 0) (told : Told) (input : List ℕ) (taken : Option (List ℕ)) → ((e : Effect) → comes e → EndsIn input e.rest) → Does comes NoMemory told (Some told) input (Some input) taken taken
memory_here comes told input taken ends = record {
  answers = λ e d. tt;
  puts = λ e d. record { done = []; more = e.puts; split = refl; left = refl };
  output = λ e d. none_out_yet e.output taken;
  rest = λ e d. untouched_part e.rest input (ends e d);
  found = tt;
}

-- a prefix of what is wanted was put out, whatever came then
pub out_part : (wanted : List ℕ) (answer : Answer) (old new : Option (List ℕ)) → PutsOut wanted answer old new → PutsOut wanted NoMemory old new
out_part wanted answer old new p = record { output = p.output; more = p.more; taken = p.taken; front = p.front; whole = tt }
