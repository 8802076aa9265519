-- The first two steps of the machine, behind which it stands at its first call, and the walk over its frames there.
use Rattle.std.proofs.Common.{◌≡◌, ℕ, ◌+◌, ◌*◌, ◌<◌, ◌≤◌, ◌^◌, List, [], ◌∷◌, ◌++◌, replicate, length, Some, None, Ok, Err, false, refl, sym, ap, ◌∙◌, subst, arith, lit<, lit≤}
use Rattle.std.specs.Prelude.{slice_index, slice_set}
use Rattle.pw_value.specs.ProgramNames.{main_name}
use Rattle.pw_value.specs.declared.value.Kind.TheVariants.{S16}
use Rattle.pw_inst.specs.InstructionTable.{decoded, form_of, three_register, branch}
use Rattle.pw_image.specs.declared.image.DataItem.{DataItem}
use Rattle.pw_image.specs.declared.image.Memory.{Memory}
use Rattle.pw_image.specs.Image.{IsMemory}
use Rattle.pw_machine.specs.Core.{word_at, byte_at}
use Rattle.pw_machine.specs.Effect.{effect_of, effect_of_inst}
use Rattle.pw_machine.specs.Run.{State, Progress, Running, taken, step, goes_on, run_of}
use Rattle.pw_machine.specs.Start.{data_start_of, image_start, start_core, start_memory}
use Rattle.pw_debug.specs.declared.turning.Finding.TheVariants.{Found}
use Rattle.pw_debug.specs.Walk.{WalksTo, cut, found_at, lost_at, of_kind, seen, start_of}
use Rattle.pw_where.specs.Calls.{IsCall, call_at, one_if}
use Rattle.pw_where.specs.Shown.{call_line, value_line}
use Rattle.pw_where.specs.Looks.{ShowsAt, entries_in, start_over, lost_of, no_more, value_of}
use Rattle.pw_tests_where.specs.Images.{frames, image, objects, words}
use Rattle.pw_tests_where.proofs.Lines.{is_shown, shown}

-- ---- two steps, over any memory that holds the words that are met

abbrev state : List ℕ → ℕ → ℕ → List ℕ → State
state memory front back registers = record {
  core = record { registers = registers; front = front; back = back; nullify = false; shift = 0; memory = memory; text = 5; data_start = 4120; stopped = None };
  rest = [];
  output = [];
}

-- the registers at the start, and with the return address
abbrev r0 : List ℕ
r0 = slice_set (replicate 32 0) 30 4224

abbrev r1 : List ℕ
r1 = slice_set r0 2 4104

abbrev at0 : List ℕ → State
at0 memory = state memory 4096 4100 r0

abbrev at1 : List ℕ → State
at1 memory = state memory 4100 4108 r1

abbrev at2 : List ℕ → State
at2 memory = state memory 4108 4112 r1

pub record Holds (memory : List ℕ) (low : ℕ) : Type 0 where
  pub call : word_at memory 4096 ≡ 3896508424
  pub slot : word_at memory 4100 ≡ 134218304
  pub image : word_at memory 4120 ≡ 255 * 16777216 + low * 65536

does : (s : State) (w : ℕ) → word_at s.core.memory s.core.front ≡ w → taken (effect_of_inst s.core (decoded (word_at s.core.memory s.core.front))) s ≡ taken (effect_of_inst s.core (decoded w)) s
does s w at = ap (λ w. taken (effect_of_inst s.core (decoded w)) s) at

first : (memory : List ℕ) (low : ℕ) → Holds memory low → step (at0 memory) ≡ Running (at1 memory)
unfolding effect_of decoded form_of branch
first memory low h = does (at0 memory) 3896508424 h.call

second : (memory : List ℕ) (low : ℕ) → Holds memory low → step (at1 memory) ≡ Running (at2 memory)
unfolding effect_of decoded form_of three_register
second memory low h = does (at1 memory) 134218304 h.slot

none : (memory : List ℕ) → run_of 0 (at0 memory) ≡ Running (at0 memory)
unfolding run_of
none memory = refl

one : (memory : List ℕ) (low : ℕ) → Holds memory low → run_of 1 (at0 memory) ≡ Running (at1 memory)
unfolding run_of
one memory low h = first memory low h

two : (memory : List ℕ) (low : ℕ) → Holds memory low → run_of 2 (at0 memory) ≡ Running (at2 memory)
unfolding run_of
two memory low h = ap goes_on (one memory low h) ∙ second memory low h

abbrev entries : ℕ → List ℕ
entries low = entries_in (image low) objects

is_call : (memory : List ℕ) (low : ℕ) → Holds memory low → IsCall (entries low) (at0 memory) 1 2 (at2 memory)
is_call memory low h = record {
  goes = two memory low h;
  at = refl;
  before =
      ap (λ (p : Progress). 0 + one_if (call_at (entries low) p) + one_if (call_at (entries low) (run_of 1 (at0 memory))) + 1) (none memory)
      ∙ ap (λ (p : Progress). 0 + one_if (call_at (entries low) (Running (at0 memory))) + one_if (call_at (entries low) p) + 1) (one memory low h);
}

-- ---- the walk

abbrev value : ℕ → ℕ
value low = of_kind S16 (cut 2 (255 * 16777216 + low * 65536))

walks : (memory : List ℕ) (low : ℕ) → Holds memory low → WalksTo (seen memory (image low).functions frames shown.object S16) (start_of (at2 memory).core) (Ok (value low))
walks memory low h = found_at (start_of (at2 memory).core) (value low) (ap (λ (word : ℕ). Found (of_kind S16 (cut 2 word))) h.image)

-- where nothing is known of functions
loses : (memory : List ℕ) (low : ℕ) → WalksTo (seen memory (image low).functions [] shown.object S16) (start_of (at2 memory).core) (Err 4104)
loses memory low = lost_at (start_of (at2 memory).core) refl

-- ---- the image's own memory

abbrev items : ℕ → List DataItem
items low = record { offset = 0; bytes = 255 ∷ low ∷ 0 ∷ 0 ∷ [] } ∷ []

abbrev own : ℕ → List ℕ
own low = start_memory words (items low)

starts : (low : ℕ) → start_over (image low) [] ≡ at0 (own low)
unfolding start_core
starts low = refl

abbrev pub Words : Type 0
Words = (words : List ℕ) (items : List DataItem) (i : ℕ) → length words ≤ 65536 → i < length words → slice_index words i < 2 ^ 32 → word_at (start_memory words items) (4096 + 4 * i) ≡ slice_index words i

abbrev pub DataStands : Type 0
DataStands = (m : Memory) (before after : List DataItem) (i : DataItem) (k : ℕ) → IsMemory m → m.items ≡ before ++ i ∷ after → k < length i.bytes → byte_at (image_start m).memory (data_start_of m.words + i.offset + k) ≡ slice_index i.bytes k

is_memory : (low : ℕ) → IsMemory (image low).memory
is_memory low = record {
  entry = record { aligned = refl; start = lit≤ tt; within = lit< tt };
  stack = lit< tt;
  stack_end = lit≤ tt;
  count = lit≤ tt;
  words = (lit< tt, (lit< tt, (lit< tt, (lit< tt, (lit< tt, tt)))));
  data_fits = lit≤ tt;
  items = (lit≤ tt, lit≤ tt, tt);
}

byte_stands : DataStands → (low k : ℕ) → k < 4 → byte_at (own low) (4120 + k) ≡ slice_index (255 ∷ low ∷ 0 ∷ 0 ∷ []) k
unfolding start_core
byte_stands stands low k lt = stands (image low).memory [] [] (record { offset = 0; bytes = 255 ∷ low ∷ 0 ∷ 0 ∷ [] }) k (is_memory low) refl lt

word_of : (memory : List ℕ) (low : ℕ) → byte_at memory 4120 ≡ 255 → byte_at memory 4121 ≡ low → byte_at memory 4122 ≡ 0 → byte_at memory 4123 ≡ 0 → word_at memory 4120 ≡ 255 * 16777216 + low * 65536
word_of memory low a b c d = omega (arith, a, b, c, d)

pub holds : Words → DataStands → (low : ℕ) → Holds (own low) low
holds stand stands low = record {
  call = stand words (items low) 0 (lit≤ tt) (lit< tt) (lit< tt);
  slot = stand words (items low) 1 (lit≤ tt) (lit< tt) (lit< tt);
  image = word_of (own low) low (byte_stands stands low 0 (lit< tt)) (byte_stands stands low 1 (lit< tt)) (byte_stands stands low 2 (lit< tt)) (byte_stands stands low 3 (lit< tt));
}

-- ---- what is shown at the first call

pub shows : (low : ℕ) → Holds (own low) low → ShowsAt (image low) objects frames 1 1000 [] (Ok (call_line 1 main_name ++ (value_line shown (value low) ++ []))) (Some [])
shows low h = record {
  step = 2;
  state = at2 (own low);
  within = lit< tt;
  call = subst (λ (s : State). IsCall (entries low) s 1 2 (at2 (own low))) (sym (starts low)) (is_call (own low) low h);
  shows = record {
    ordered = shown ∷ [];
    shown = is_shown low;
    values = Ok (value_line shown (value low) ++ []);
    walks = value_of shown [] (value low) (Ok []) (walks (own low) low h) no_more;
    lines_are = refl;
  };
  rest_is = refl;
}

pub shows_lost : (low : ℕ) → Holds (own low) low → ShowsAt (image low) objects [] 1 1000 [] (Err 4104) (Some [])
shows_lost low h = record {
  step = 2;
  state = at2 (own low);
  within = lit< tt;
  call = subst (λ (s : State). IsCall (entries low) s 1 2 (at2 (own low))) (sym (starts low)) (is_call (own low) low h);
  shows = record {
    ordered = shown ∷ [];
    shown = is_shown low;
    values = Err 4104;
    walks = lost_of shown [] 4104 (loses (own low) low);
    lines_are = refl;
  };
  rest_is = refl;
}
