-- What holds of the items of each function by itself holds of each state of the run of lines: so nothing seems to return.
use Rattle.std.specs.Prelude.{ℕ, ◌≡◌, ◌≢◌, ◌+◌, ◌*◌, ◌<◌, ◌≤◌, ◌⊎◌, ◌==◌, Bool, false, Option, Some, None, List, [], ◌∷◌, ◌++◌, length, Contains}
use Rattle.std.specs.List.{AllByRecursion, flat_map}
use Rattle.std.proofs.Common.{arith, subst, sym, ap, ◌∙◌, inl, inr, length-append}
use Rattle.std.proofs.lemmas.Bool.{ne_eqb, and_left}
use Rattle.pw_alloc.specs.Frames.{head_size}
use Rattle.pw_delay.specs.declared.items.Word.{Word}
use Rattle.pw_delay.specs.declared.items.Turn.TheVariants.{Back, Goto, If, CallTo, CallReg, Leave}
use Rattle.pw_delay.specs.declared.items.Item.{Item}
use Rattle.pw_delay.specs.declared.items.Item.TheVariants.{Plain, Turns, Mark}
use Rattle.pw_delay.specs.Placement.{size}
use Rattle.pw_run_languages.specs.Acts as lines
use Rattle.pw_run_languages.specs.LineRun.{LineFn, Frame, Machine, left_behind, return_address, IsCalling}
use Rattle.pw_run_languages.specs.MachineRun.{Call, function_at, active_as}
use Rattle.pw_law_link_run.specs.Steps.{Setting, map_in, is_back, IsSavedFrom, AreInData}
use Rattle.pw_law_link_run.specs.Placing.{name_in, own_address, words_of, Parts}
use Rattle.pw_law_link_run.specs.Simulating.{link_of, call_from, calls_behind, calls_from, IsLinked, IsCalm, IsCalmInside, IsCalmPast, IsHigh, IsCaller}
use Rattle.pw_law_link_run.specs.Leveled.{IsStack, IsRaised, IsCold, IsApart, IsPassing, IsFramed, AreFramed, IsBehind, ChainFrom, IsInLevel}
use Rattle.pw_law_link_run.proofs.Noting.{high_none}
use Rattle.pw_law_link_run.proofs.Placed.{joined, more}
use Rattle.pw_law_link_run.proofs.Calls.{found_as}

-- ---- stack pointers of callers

frame_some : (x : Setting) (f : LineFn) → IsFramed x f → 1 ≤ f.located.frame
frame_some x f h = omega (arith, h.frame)

callers_low : (x : Setting) → AreFramed x → (stack r : ℕ) (callers : List Frame) → ChainFrom x stack callers → stack ≤ r
    → AllByRecursion (λ call. call.stack < r) (calls_behind x callers)
callers_low x a stack r [] h le = tt
callers_low x a stack r (g ∷ gs) h le =
    let some = frame_some x g.function (a.framed g.function h.0.caller.there) in
    (omega (arith, some, h.1, le), callers_low x a g.stack r gs h.2 (omega (arith, some, h.1, le)))

-- the stack pointer is at the end of the frame
pub raised_high : (x : Setting) → AreFramed x → (m : Machine) → Contains x.program.functions m.frame.function → ChainFrom x m.frame.stack m.callers
    → IsRaised x m.frame.function m.frame.stack m.core → IsHigh x m
raised_high x a m there chain r =
    let some = frame_some x m.frame.function (a.framed m.frame.function there) in
    let pointer = r.pointer in
    (omega (arith, some, pointer), callers_low x a m.frame.stack (lines.register m.core 30) m.callers chain (omega (arith, pointer)))

-- ---- return addresses

pub calling_passes : (item : Item) → IsCalling item → IsPassing item
calling_passes (Plain w) h = absurd h
calling_passes (Mark b) h = absurd h
calling_passes (Turns (Back i) slot) h = absurd h
calling_passes (Turns (Goto b) slot) h = absurd h
calling_passes (Turns (If r b) slot) h = absurd h
calling_passes (Turns (CallTo s link) slot) h = tt
calling_passes (Turns CallReg slot) h = tt
calling_passes (Turns Leave slot) h = absurd h

calling_size : (long : Bool) (item : Item) → IsCalling item → 1 ≤ size long item
calling_size long (Plain w) h = absurd h
calling_size long (Mark b) h = absurd h
calling_size long (Turns (Back i) slot) h = absurd h
calling_size long (Turns (Goto b) slot) h = absurd h
calling_size long (Turns (If r b) slot) h = absurd h
calling_size long (Turns (CallTo s link) slot) h = omega arith
calling_size long (Turns CallReg slot) h = omega arith
calling_size long (Turns Leave slot) h = absurd h

-- what stands behind a caller's function stands behind its return address
pub caller_below : (x : Setting) (g : Frame) (a : ℕ) → IsFramed x g.function → IsCaller x g → own_address x g.function + 4 * words_of x g.function g.function.items ≤ a
    → return_address x.addresses g g.left < a
caller_below x g a framed h fits =
    let f = g.function in
    let long = x.long (name_in f) in
    let total : words_of x f f.items ≡ words_of x f h.before + words_of x f (h.call ∷ g.left) = ap (words_of x f) h.parts ∙ joined long h.before (h.call ∷ g.left) in
    let one : words_of x f (h.before ++ h.call ∷ []) ≡ words_of x f h.before + words_of x f (h.call ∷ []) = joined long h.before (h.call ∷ []) in
    let left = framed.goes h.before g.left h.call h.parts (calling_passes h.call h.calling) in
    omega (arith, total, one, more long h.call [], more long h.call g.left, left, h.at, fits)

-- a caller's return address is behind a call in its function, and inside it
pub record IsReturnIn (x : Setting) (g : Frame) (link : ℕ) : Type 0 where
  pub words : ℕ
  pub at : link ≡ own_address x g.function + 4 * words
  pub some : 1 ≤ words
  pub below : words < words_of x g.function g.function.items
  pub cold : (n : ℕ) → IsCold x g.function n → n ≢ words

pub returns_in : (x : Setting) → AreFramed x → (g : Frame) → IsBehind x g → IsReturnIn x g (return_address x.addresses g g.left)
returns_in x a g behind =
    let f = g.function in
    let h = behind.caller in
    let fr = a.framed f h.there in
    let long = x.long (name_in f) in
    let total : words_of x f f.items ≡ words_of x f h.before + words_of x f (h.call ∷ g.left) = ap (words_of x f) h.parts ∙ joined long h.before (h.call ∷ g.left) in
    let one : words_of x f (h.before ++ h.call ∷ []) ≡ words_of x f h.before + words_of x f (h.call ∷ []) = joined long h.before (h.call ∷ []) in
    let left = fr.goes h.before g.left h.call h.parts (calling_passes h.call h.calling) in
    let two = calling_size long h.call h.calling in
    record {
      words = words_of x f (h.before ++ h.call ∷ []);
      at = h.at;
      some = omega (arith, one, more long h.call [], two);
      below = omega (arith, total, one, more long h.call [], more long h.call g.left, left);
      cold = λ n c. c h.before g.left h.call h.parts h.calling;
    }

-- A place of a function, at or behind whose words no call of it leads back, is no return address.
pub no_return : (x : Setting) → AreFramed x → (f : LineFn) (g : Frame) (n : ℕ) → Contains x.program.functions f → IsBehind x g → n ≤ words_of x f f.items
    → IsCold x f n → own_address x f + 4 * n ≢ return_address x.addresses g g.left
no_return x a f g n there h le cold e =
    let r = returns_in x a g h in
    elim (a.apart f g.function there h.caller.there) [
      | inl same ↦
          let other = r.cold n (subst (λ (f : LineFn). IsCold x f n) same cold) in
          let own : own_address x f ≡ own_address x g.function = ap (own_address x) same in
          other (omega (arith, e, r.at, own))
      | inr ranges ↦ elim ranges [
        | inl before ↦ absurd (omega (arith, e, r.at, r.some, r.below, before, le))
        | inr behind ↦ absurd (omega (arith, e, r.at, r.some, r.below, behind, le))
      ]
    ]

-- ---- what is quiet

not_there : (c : lines.Core) (a : ℕ) (call : Call) → a ≢ call.link → is_back c a call ≡ false
not_there c a call ne = and_left (a == call.link) (lines.register c 30 == call.stack) (ne_eqb a call.link ne)

-- no call of the function's caller leads to a place where no call leads
not_link : (x : Setting) → AreFramed x → (f : LineFn) (n stack : ℕ) (callers : List Frame) → Contains x.program.functions f → 1 ≤ own_address x f
    → ChainFrom x stack callers → n ≤ words_of x f f.items → IsCold x f n → own_address x f + 4 * n ≢ link_of x callers
not_link x a f n stack [] there some chain le cold = λ e. omega (arith, e, some)
not_link x a f n stack (g ∷ gs) there some chain le cold = no_return x a f g n there chain.0 le cold

none_there : (x : Setting) → AreFramed x → (f : LineFn) (n a : ℕ) (c : lines.Core) → Contains x.program.functions f → 1 ≤ own_address x f
    → n ≤ words_of x f f.items → IsCold x f n → a ≡ own_address x f + 4 * n
    → (g : Frame) (stack : ℕ) (callers : List Frame) → ChainFrom x stack callers → AllByRecursion (λ call. is_back c a call ≡ false) (calls_from x g callers)
none_there x fr f n a c there some le cold at g stack [] chain =
    (not_there c a (call_from x g []) (λ e. not_link x fr f n stack [] there some chain le cold (sym at ∙ e)), tt)
none_there x fr f n a c there some le cold at g stack (h ∷ hs) chain = (
  not_there c a (call_from x g (h ∷ hs)) (λ e. not_link x fr f n stack (h ∷ hs) there some chain le cold (sym at ∙ e)),
  none_there x fr f n a c there some le cold at h h.stack hs chain.2,
)

-- at a place of the function, where the stack pointer is above the one at the call, or no call leads
pub none_back : (x : Setting) → AreFramed x → (m : Machine) (n a : ℕ) → Contains x.program.functions m.frame.function → 1 ≤ own_address x m.frame.function
    → ChainFrom x m.frame.stack m.callers → n ≤ words_of x m.frame.function m.frame.function.items → a ≡ own_address x m.frame.function + 4 * n
    → IsApart x m.frame.function n m.frame.stack m.core
    → AllByRecursion (λ call. is_back m.core a call ≡ false) (calls_from x m.frame m.callers)
none_back x fr m n a there some chain le at (inl above) =
    high_none m.core a (calls_from x m.frame m.callers) (above, callers_low x fr m.frame.stack (lines.register m.core 30) m.callers chain (omega (arith, above)))
none_back x fr m n a there some chain le at (inr cold) = none_there x fr m.frame.function n a m.core there some le cold at m.frame m.frame.stack m.callers chain

-- the place of what is left
pub record Place (x : Setting) (m : Machine) (before : List Item) : Type 0 where
  pub some : 1 ≤ words_of x m.frame.function before
  pub left : 1 ≤ words_of x m.frame.function m.frame.left

pub calm : (x : Setting) → IsLinked x → (a : AreFramed x) (m : Machine) → IsInLevel x a m → ((before : List Item) → Parts m.frame.function before m.frame.left → Place x m before)
    → IsCalm x m
calm x l fr m h place = λ a left.
    let f = m.frame.function in
    let framed = fr.framed f h.there in
    let before = left.before in
    let n = words_of x f before in
    let p = place before left.items in
    let total : words_of x f f.items ≡ n + words_of x f m.frame.left = ap (words_of x f) left.items ∙ joined (x.long (name_in f)) before m.frame.left in
    let own : 1 ≤ own_address x f = let above = (l.stands f h.there).above in omega (arith, above) in
    record {
      returns = none_back x fr m n a h.there own h.chain (omega (arith, total)) left.at (framed.leveled.quiet before m.frame.left m.frame.stack m.core left.items h.holds);
      enters = inr (ap (λ a. function_at (map_in x) a) left.at ∙ framed.entries n p.some (omega (arith, total, p.left)));
    }

-- at the words of a turn
pub calm_inside : (x : Setting) → (fr : AreFramed x) (m : Machine) (item : Item) (rest : List Item) → Contains x.program.functions m.frame.function
    → m.frame.left ≡ item ∷ rest → IsHigh x m → IsCalmInside x m (size (x.long (name_in m.frame.function)) item)
calm_inside x fr m item rest there is high = λ a j left one below.
    let f = m.frame.function in
    let long = x.long (name_in f) in
    let before = left.before in
    let n = words_of x f before in
    let total : words_of x f f.items ≡ n + words_of x f m.frame.left = ap (words_of x f) left.items ∙ joined long before m.frame.left in
    let here : words_of x f m.frame.left ≡ size long item + words_of x f rest = ap (words_of x f) is ∙ more long item rest in
    let at : a + 4 * j ≡ own_address x f + 4 * (n + j) = omega (arith, left.at) in
    record {
      returns = high_none m.core (a + 4 * j) (calls_from x m.frame m.callers) high;
      enters = inr (ap (λ a. function_at (map_in x) a) at ∙ (fr.framed f there).entries (n + j) (omega (arith, one)) (omega (arith, total, here, below)));
    }

-- behind a return: at the word that is passed over, or at the one in its slot
pub calm_past : (x : Setting) → IsLinked x → (fr : AreFramed x) (m : Machine) (slot : Option Word) (rest : List Item) → IsInLevel x fr (left_behind (Turns Leave slot ∷ rest) m)
    → IsCalmPast x (left_behind (Turns Leave slot ∷ rest) m) slot
calm_past x l fr m None rest h = λ a left.
    let f = m.frame.function in
    let long = x.long (name_in f) in
    let item = Turns Leave None in
    let before = left.before in
    let n = words_of x f before in
    let leaves = (fr.framed f h.there).leveled.leave before rest None m.frame.stack m.core left.items h.holds in
    let total : words_of x f f.items ≡ n + words_of x f (item ∷ rest) = ap (words_of x f) left.items ∙ joined long before (item ∷ rest) in
    let own : 1 ≤ own_address x f = let above = (l.stands f h.there).above in omega (arith, above) in
    none_back x fr m (n + 1) (a + 4) h.there own h.chain (omega (arith, total, more long item rest)) (omega (arith, left.at)) leaves
calm_past x l fr m (Some word) rest h = λ a j left one below.
    let f = m.frame.function in
    let long = x.long (name_in f) in
    let item = Turns Leave (Some word) in
    let before = left.before in
    let n = words_of x f before in
    let framed = fr.framed f h.there in
    let leaves = framed.leveled.leave before rest (Some word) m.frame.stack m.core left.items h.holds in
    let total : words_of x f f.items ≡ n + words_of x f (item ∷ rest) = ap (words_of x f) left.items ∙ joined long before (item ∷ rest) in
    let own : 1 ≤ own_address x f = let above = (l.stands f h.there).above in omega (arith, above) in
    let at : a + 4 * j ≡ own_address x f + 4 * (n + 1) = omega (arith, left.at, one, below) in
    record {
      returns = none_back x fr m (n + 1) (a + 4 * j) h.there own h.chain (omega (arith, total, more long item rest)) at leaves;
      enters = inr (ap (λ a. function_at (map_in x) a) at ∙ framed.entries (n + 1) (omega arith) (omega (arith, total, more long item rest)));
    }

-- ---- what is saved

saved_as : (x : Setting) → (f : LineFn) (stack : ℕ) (before : List ℕ) → 4 * length f.located.saved + head_size f.located.body ≤ f.located.frame → x.addresses.data_start ≤ stack
    → IsSavedFrom x.addresses.data_start (record { function = f.located; stack = stack; before = before })
saved_as x f stack before le low = omega (arith, le, low)

saved_behind : (x : Setting) → IsLinked x → (fr : AreFramed x) (stack : ℕ) (callers : List Frame) → ChainFrom x stack callers
    → AllByRecursion (IsSavedFrom x.addresses.data_start) (flat_map (active_as (map_in x)) (calls_behind x callers))
saved_behind x l fr stack [] h = tt
saved_behind x l fr stack (g ∷ gs) h =
    subst (λ r. AllByRecursion (IsSavedFrom x.addresses.data_start) (r ++ flat_map (active_as (map_in x)) (calls_behind x gs)))
    (sym (found_as (map_in x) (call_from x g gs) g.function.located (l.found g.function h.0.caller.there)))
    (saved_as x g.function g.stack g.before (fr.framed g.function h.0.caller.there).frame h.0.stack.low, saved_behind x l fr g.stack gs h.2)

pub callers_saved : (x : Setting) → IsLinked x → (fr : AreFramed x) (stack : ℕ) (callers : List Frame) → ChainFrom x stack callers → AreInData x (calls_behind x callers)
callers_saved x l fr stack callers h = record { saved = saved_behind x l fr stack callers h; globals = fr.globals }

pub all_saved : (x : Setting) → IsLinked x → (fr : AreFramed x) (m : Machine) → Contains x.program.functions m.frame.function → ChainFrom x m.frame.stack m.callers
    → IsStack x m.frame.function m.frame.stack → AreInData x (calls_from x m.frame m.callers)
all_saved x l fr m there h stack = record {
  saved = subst (λ r. AllByRecursion (IsSavedFrom x.addresses.data_start) (r ++ flat_map (active_as (map_in x)) (calls_behind x m.callers)))
      (sym (found_as (map_in x) (call_from x m.frame m.callers) m.frame.function.located (l.found m.frame.function there)))
      (saved_as x m.frame.function m.frame.stack m.frame.before (fr.framed m.frame.function there).frame stack.low, saved_behind x l fr m.frame.stack m.callers h);
  globals = fr.globals;
}

-- ---- places behind an item

longer : (xs ys : List Item) (item : Item) → ys ≡ xs ++ item ∷ ys → ⊥
longer xs ys item e =
    let lengths : length ys ≡ length xs + length (item ∷ ys) = ap length e ∙ length-append xs (item ∷ ys) in
    omega (arith, lengths)

pub behind_place : (x : Setting) → (fr : AreFramed x) (m : Machine) (before rest : List Item) (item : Item) → Contains x.program.functions m.frame.function
    → Parts m.frame.function before (item ∷ rest) → IsPassing item → m.frame.left ≡ rest
    → (b : List Item) → Parts m.frame.function b m.frame.left → Place x m b
behind_place x fr m before rest item there parts passes is = λ b p.
    let f = m.frame.function in
    let framed = fr.framed f there in
    let nonempty : b ≢ [] = λ e. longer before rest item (sym is ∙ (sym (p ∙ ap (λ b. b ++ m.frame.left) e) ∙ parts)) in
    record {
      some = framed.first b m.frame.left p nonempty;
      left = subst (λ r. 1 ≤ words_of x f r) (sym is) (framed.goes before rest item parts passes);
    }
