-- A step of the lines leads from a state in level to one in level.
use Rattle.std.specs.Prelude.{ℕ, ◌≡◌, ◌+◌, ◌*◌, ◌==◌, Bool, true, false, if◌then◌else◌, Some, None, List, [], ◌∷◌, ◌++◌, Contains}
use Rattle.std.proofs.Common.{arith, subst, sym, ap, refl, ◌∙◌}
use Rattle.std.proofs.lemmas.List.{append_assoc}
use Rattle.pw_delay.specs.declared.items.Word.{Word}
use Rattle.pw_delay.specs.declared.items.Turn.TheVariants.{Back, Goto, If, CallTo, CallReg, Leave}
use Rattle.pw_delay.specs.declared.items.Item.{Item}
use Rattle.pw_delay.specs.declared.items.Item.TheVariants.{Plain, Turns, Mark}
use Rattle.pw_run_languages.specs.Acts as lines
use Rattle.pw_run_languages.specs.Acts.{Acts, acts, settled}
use Rattle.pw_run_languages.specs.LineRun.{LineFn, Frame, Machine, On, left_behind, accesses, does, from_mark, back_over, turns, enters, IsCalling}
use Rattle.pw_law_link_run.specs.Steps.{Setting}
use Rattle.pw_law_link_run.specs.Placing.{name_in, own_address, words_of, Parts}
use Rattle.pw_law_link_run.specs.Simulating.{IsLinked, IsCalm}
use Rattle.pw_law_link_run.specs.Meeting.{IsTurning}
use Rattle.pw_law_link_run.specs.Leveled.{HoldsAt, IsRaised, IsPassing, AreFramed, ChainFrom, IsInLevel}
use Rattle.pw_law_link_run.proofs.Placed.{left_stands, loop_left, joined, more}
use Rattle.pw_law_link_run.proofs.Items.{does_goes}
use Rattle.pw_law_link_run.proofs.Levels.{Place, calling_passes, behind_place, calm}

-- a state in level, not where a function begins
pub record Keeps (x : Setting) (fr : AreFramed x) (t : Machine) : Type 0 where
  pub level : IsInLevel x fr t
  pub place : (b : List Item) → Parts t.frame.function b t.frame.left → Place x t b

pub keeps_calm : (x : Setting) → IsLinked x → (fr : AreFramed x) (t : Machine) → Keeps x fr t → IsCalm x t
keeps_calm x l fr t k = calm x l fr t k.level k.place

parts_behind : (f : LineFn) (before rest : List Item) (item : Item) → Parts f before (item ∷ rest) → Parts f (before ++ item ∷ []) rest
parts_behind f before rest item p = p ∙ sym (append_assoc before (item ∷ []) rest)

-- ---- words

pub word_keeps : (x : Setting) (fr : AreFramed x) (m t : Machine) (w : Word) (rest : List Item) → IsInLevel x fr (left_behind (Plain w ∷ rest) m)
    → does x.program x.addresses w (left_behind rest m) ≡ On t → Keeps x fr t
word_keeps x fr m t w rest h e =
    let f = m.frame.function in
    let g = does_goes x w (left_behind rest m) t e in
    let act : acts x.addresses (settled x.addresses w) m.core ≡ Acts g.core = ap (λ o. acts x.addresses o m.core) g.is ∙ g.acts in
    let new : Machine = record (left_behind rest m) { core = g.core; trace = accesses x.program x.addresses (Some g.inst) m.core ++ m.trace } in
    subst (λ (t : Machine). Keeps x fr t) (sym g.result) (record {
      level = record {
        there = h.there;
        before = h.before ++ Plain w ∷ [];
        parts = parts_behind f h.before rest (Plain w) h.parts;
        holds = (fr.framed f h.there).leveled.word h.before rest w m.frame.stack m.core g.core h.parts h.holds act;
        chain = h.chain;
      };
      place = behind_place x fr new h.before rest (Plain w) h.there h.parts tt refl;
    })

-- ---- behind blocks and turns, where the stack pointer is at the end of the frame

pub block_keeps : (x : Setting) (fr : AreFramed x) (t : Machine) (before rest : List Item) (b : ℕ) → Contains x.program.functions t.frame.function
    → Parts t.frame.function before (Mark b ∷ rest) → t.frame.left ≡ rest → IsRaised x t.frame.function t.frame.stack t.core → ChainFrom x t.frame.stack t.callers
    → Keeps x fr t
block_keeps x fr t before rest b there parts is raised chain =
    let f = t.frame.function in
    let leveled = (fr.framed f there).leveled in
    record {
      level = record {
        there = there;
        before = before ++ Mark b ∷ [];
        parts = parts_behind f before rest (Mark b) parts ∙ ap (λ r. (before ++ Mark b ∷ []) ++ r) (sym is);
        holds = subst (λ r. HoldsAt x f (leveled.at r) t.frame.stack t.core) (sym is) (leveled.behind_block before rest b t.frame.stack t.core parts raised);
        chain = chain;
      };
      place = behind_place x fr t before rest (Mark b) there parts tt is;
    }

pub turn_keeps : (x : Setting) (fr : AreFramed x) (t : Machine) (before rest : List Item) (item : Item) → Contains x.program.functions t.frame.function
    → Parts t.frame.function before (item ∷ rest) → IsTurning item → IsPassing item → t.frame.left ≡ rest → IsRaised x t.frame.function t.frame.stack t.core
    → ChainFrom x t.frame.stack t.callers → Keeps x fr t
turn_keeps x fr t before rest item there parts turning passes is raised chain =
    let f = t.frame.function in
    let leveled = (fr.framed f there).leveled in
    record {
      level = record {
        there = there;
        before = before ++ item ∷ [];
        parts = parts_behind f before rest item parts ∙ ap (λ r. (before ++ item ∷ []) ++ r) (sym is);
        holds = subst (λ r. HoldsAt x f (leveled.at r) t.frame.stack t.core) (sym is) (leveled.behind_turn before rest item t.frame.stack t.core parts turning raised);
        chain = chain;
      };
      place = behind_place x fr t before rest item there parts passes is;
    }

-- where a block begins
record BegunIn (items rest : List Item) : Type 0 where
  pub mark : ℕ
  pub before : List Item
  pub parts : items ≡ before ++ Mark mark ∷ rest

begun_more : (item : Item) (items rest : List Item) → BegunIn items rest → BegunIn (item ∷ items) rest
begun_more item items rest h = record { mark = h.mark; before = item ∷ h.before; parts = ap (λ r. item ∷ r) h.parts }

begun_by : (n : ℕ) (items rest : List Item) (same : Bool) → (if same then Some items else None) ≡ Some rest → BegunIn (Mark n ∷ items) rest
begun_by n items rest true e = let same : items ≡ rest = cc in record { mark = n; before = []; parts = ap (λ r. Mark n ∷ r) same }
begun_by n items rest false e = absurd cc

begun_if : (n b : ℕ) (items rest : List Item) (same : Bool) → (from_mark b items ≡ Some rest → BegunIn items rest)
    → (if same then Some items else from_mark b items) ≡ Some rest → BegunIn (Mark n ∷ items) rest
begun_if n b items rest true later e = begun_by n items rest true e
begun_if n b items rest false later e = begun_more (Mark n) items rest (later e)

begun : (b : ℕ) (items rest : List Item) → from_mark b items ≡ Some rest → BegunIn items rest
begun b [] rest e = absurd cc
begun b (Plain w ∷ items) rest e = begun_more (Plain w) items rest (begun b items rest e)
begun b (Turns turn slot ∷ items) rest e = begun_more (Turns turn slot) items rest (begun b items rest e)
begun b (Mark n ∷ items) rest e = begun_if n b items rest (n == b) (begun b items rest) e

pub goes_keeps : (x : Setting) (fr : AreFramed x) (t : Machine) (b : ℕ) → Contains x.program.functions t.frame.function
    → from_mark b t.frame.function.items ≡ Some t.frame.left → IsRaised x t.frame.function t.frame.stack t.core → ChainFrom x t.frame.stack t.callers → Keeps x fr t
goes_keeps x fr t b there e raised chain =
    let h = begun b t.frame.function.items t.frame.left e in
    block_keeps x fr t h.before t.frame.left h.mark there h.parts refl raised chain

-- where a loop goes back to
pub loop_keeps : (x : Setting) (fr : AreFramed x) (t : Machine) (before rest : List Item) (item : Item) (n : ℕ) → Contains x.program.functions t.frame.function
    → Parts t.frame.function before (item ∷ rest) → IsTurning item → back_over n (item ∷ rest) t.frame.function.items ≡ Some t.frame.left
    → IsRaised x t.frame.function t.frame.stack t.core → ChainFrom x t.frame.stack t.callers → Keeps x fr t
loop_keeps x fr t before rest item n there parts turning e raised chain =
    let f = t.frame.function in
    let framed = fr.framed f there in
    let loop = loop_left x f n (item ∷ rest) t.frame.left (own_address x f + 4 * words_of x f before) (record { before = before; items = parts; at = refl }) e in
    let apart = framed.loops before rest t.frame.left item n parts turning e in
    record {
      level = record {
        there = there;
        before = loop.left.before;
        parts = loop.left.items;
        holds = framed.leveled.loop before rest t.frame.left item n t.frame.stack t.core parts turning e raised;
        chain = chain;
      };
      place = λ b p. record {
        some = framed.first b t.frame.left p (λ none. apart.0 (sym (p ∙ ap (λ b. b ++ t.frame.left) none)));
        left = apart.1;
      };
    }

-- ---- calls and returns

call_at : (x : Setting) → IsLinked x → (f : LineFn) → Contains x.program.functions f → (before rest : List Item) (item : Item) → Parts f before (item ∷ rest) → IsCalling item
    → x.addresses.behind (name_in f) (turns rest) ≡ own_address x f + 4 * words_of x f (before ++ item ∷ [])
call_at x l f there before rest (Turns (CallTo s link) slot) parts calling =
    let a = own_address x f + 4 * words_of x f before in
    let item = Turns (CallTo s link) slot in
    let stands = left_stands x f (l.stands f there) (item ∷ rest) a (record { before = before; items = parts; at = refl }) in
    let back : x.addresses.behind (name_in f) (turns rest) ≡ a + 8 = stands.0.2 in
    omega (arith, back, joined (x.long (name_in f)) before (item ∷ []), more (x.long (name_in f)) item [])
call_at x l f there before rest (Turns CallReg slot) parts calling =
    let a = own_address x f + 4 * words_of x f before in
    let item = Turns CallReg slot in
    let stands = left_stands x f (l.stands f there) (item ∷ rest) a (record { before = before; items = parts; at = refl }) in
    let back : x.addresses.behind (name_in f) (turns rest) ≡ a + 8 = stands.0.2 in
    omega (arith, back, joined (x.long (name_in f)) before (item ∷ []), more (x.long (name_in f)) item [])
call_at x l f there before rest (Plain w) parts calling = absurd calling
call_at x l f there before rest (Mark b) parts calling = absurd calling
call_at x l f there before rest (Turns (Back i) slot) parts calling = absurd calling
call_at x l f there before rest (Turns (Goto b) slot) parts calling = absurd calling
call_at x l f there before rest (Turns (If r b) slot) parts calling = absurd calling
call_at x l f there before rest (Turns Leave slot) parts calling = absurd calling

-- a function is entered from behind a call
pub enters_level : (x : Setting) → IsLinked x → (fr : AreFramed x) (m : Machine) (g : LineFn) (before rest : List Item) (item : Item) → Contains x.program.functions g
    → Contains x.program.functions m.frame.function → Parts m.frame.function before (item ∷ rest) → IsCalling item → m.frame.left ≡ rest
    → IsRaised x m.frame.function m.frame.stack m.core → ChainFrom x m.frame.stack m.callers → m.core.skip ≡ false
    → IsInLevel x fr (enters x.program x.addresses g m)
enters_level x l fr m g before rest item there caller parts calling is raised chain run =
    let f = m.frame.function in
    let parts_left : Parts f before (item ∷ m.frame.left) = parts ∙ ap (λ r. before ++ item ∷ r) (sym is) in
    record {
      there = there;
      before = [];
      parts = refl;
      holds = (fr.framed g there).leveled.entry (lines.register m.core 30) m.core (let p = raised.pointer in let b = raised.bounds.high in omega (arith, p, b)) refl run;
      chain = (
        record {
          caller = record {
            there = caller;
            before = before;
            call = item;
            parts = parts_left;
            calling = calling;
            at = call_at x l f caller before m.frame.left item parts_left calling;
          };
          stack = raised.bounds;
        },
        raised.pointer,
        chain,
      );
    }

calling_turns : (item : Item) → IsCalling item → IsTurning item
calling_turns (Turns (CallTo s link) slot) h = tt
calling_turns (Turns CallReg slot) h = tt
calling_turns (Plain w) h = absurd h
calling_turns (Mark b) h = absurd h
calling_turns (Turns (Back i) slot) h = absurd h
calling_turns (Turns (Goto b) slot) h = absurd h
calling_turns (Turns (If r b) slot) h = absurd h
calling_turns (Turns Leave slot) h = absurd h

-- a caller goes on, with the stack pointer as it was at the call
pub returns_keeps : (x : Setting) (fr : AreFramed x) (t : Machine) (stack : ℕ) (g : Frame) (gs : List Frame) → ChainFrom x stack (g ∷ gs)
    → lines.register t.core 30 ≡ stack → Keeps x fr (record t { frame = g; callers = gs })
returns_keeps x fr t stack g gs chain pointer =
    let one = chain.0.caller in
    turn_keeps x fr (record t { frame = g; callers = gs }) one.before g.left one.call one.there one.parts
    (calling_turns one.call one.calling) (calling_passes one.call one.calling) refl
    (record { bounds = chain.0.stack; pointer = pointer ∙ chain.1 }) chain.2
