-- What a run keeps, step by step.
use Rattle.std.proofs.Common.{ℕ, zero, suc, ◌≡◌, ◌+◌, ◌^◌, ◌<◌, List, [], ◌∷◌, ◌++◌, Option, Some, None, refl, sym, ap, subst, ◌∙◌, arith, append_assoc, append-nil}
use Rattle.pw_machine.specs.declared.ends.End.{End}
use Rattle.pw_machine.specs.Effect.{Effect, Goes, Reads, Writes, Stops, effect_of}
use Rattle.pw_machine.specs.Run.{State, Progress, Running, Stopped, input_word, reads, taken, step, goes_on, began, run_of, continued}
use Rattle.pw_machine.proofs.Runs.{run_of_sum}
use Rattle.pw_law_code.specs.Lawful.{AreBytes, IsLawful, IsLater, state_of}
use Rattle.pw_law_code.proofs.StepLaws.{FollowsBy, same_text, same_twice, effect_follows, answered_follows}

no_bytes : AreBytes []
no_bytes i = omega arith

one_byte : (byte : ℕ) → byte < 2 ^ 8 → AreBytes (byte ∷ [])
one_byte byte small zero = small
one_byte byte small (suc i) = omega arith

byte_of : (byte : ℕ) (rest : List ℕ) → AreBytes (byte ∷ rest) → byte < 2 ^ 8
byte_of byte rest bytes = bytes 0

rest_of : (byte : ℕ) (rest : List ℕ) → AreBytes (byte ∷ rest) → AreBytes rest
rest_of byte rest bytes i = bytes (suc i)

pub both_bytes : (xs ys : List ℕ) → AreBytes xs → AreBytes ys → AreBytes (xs ++ ys)
both_bytes [] ys one two i = two i
both_bytes (x ∷ xs) ys one two zero = one 0
both_bytes (x ∷ xs) ys one two (suc i) = both_bytes xs ys (λ k. one (suc k)) two i

pub later_same : (s : State) → IsLawful s → IsLater s s
later_same s is = record {
  lawful = is;
  text = same_text s.core;
  streams = record { consumed = []; rest = refl; appended = []; output = sym (append-nil s.output); bytes = no_bytes };
}

pub later_twice : (a b c : State) → IsLater a b → IsLater b c → IsLater a c
later_twice a b c one two =
    let p = one.streams in
    let q = two.streams in
    record {
      lawful = two.lawful;
      text = same_twice a.core b.core c.core one.text two.text;
      streams = record {
        consumed = p.consumed ++ q.consumed;
        rest = p.rest ∙ ap (λ (xs : List ℕ). p.consumed ++ xs) q.rest ∙ sym (append_assoc p.consumed q.consumed c.rest);
        appended = p.appended ++ q.appended;
        output = q.output ∙ ap (λ (xs : List ℕ). xs ++ q.appended) p.output ∙ append_assoc a.output p.appended q.appended;
        bytes = both_bytes p.appended q.appended p.bytes q.bytes;
      };
    }

reads_later : (s : State) (rest : List ℕ) → s.rest ≡ rest → IsLawful s → IsLater s (state_of (reads s.core rest s.output))
reads_later s [] e is =
    let f = answered_follows s.core (input_word None) is.core (omega arith) in
    record {
      lawful = record { core = f.lawful; input = no_bytes };
      text = f.same;
      streams = record { consumed = []; rest = e; appended = []; output = sym (append-nil s.output); bytes = no_bytes };
    }
reads_later s (byte ∷ rest) e is =
    let bytes : AreBytes (byte ∷ rest) = subst AreBytes e is.input in
    let f = answered_follows s.core (input_word (Some byte)) is.core (omega (arith, byte_of byte rest bytes)) in
    record {
      lawful = record { core = f.lawful; input = rest_of byte rest bytes };
      text = f.same;
      streams = record { consumed = byte ∷ []; rest = e; appended = []; output = sym (append-nil s.output); bytes = no_bytes };
    }

taken_later : (s : State) (e : Effect) → IsLawful s → FollowsBy s.core e → IsLater s (state_of (taken e s))
taken_later s (Goes core) is f = record {
  lawful = record { core = f.lawful; input = is.input };
  text = f.same;
  streams = record { consumed = []; rest = refl; appended = []; output = sym (append-nil s.output); bytes = no_bytes };
}
taken_later s Reads is f = reads_later s s.rest refl is
taken_later s (Writes byte) is f =
    let a = answered_follows s.core byte is.core (omega (arith, f)) in
    record {
      lawful = record { core = a.lawful; input = is.input };
      text = a.same;
      streams = record { consumed = []; rest = refl; appended = byte ∷ []; output = refl; bytes = one_byte byte f };
    }
taken_later s (Stops end) is f =
    let r = is.core.registers in
    let m = is.core.memory in
    record {
      lawful = record {
        core = record {
          registers = record { count = r.count; words = r.words; zero = r.zero; front = r.front; back = r.back; shift = r.shift };
          memory = record { size = m.size; bytes = m.bytes; text = m.text; data_from = m.data_from };
        };
        input = is.input;
      };
      text = record { text = refl; data_from = refl; bytes = λ a below. refl };
      streams = record { consumed = []; rest = refl; appended = []; output = sym (append-nil s.output); bytes = no_bytes };
    }

step_later : (s : State) → IsLawful s → IsLater s (state_of (step s))
step_later s is = taken_later s (effect_of s.core) is (effect_follows s.core is.core)

goes_on_later : (s : State) (p : Progress) → IsLater s (state_of p) → IsLater s (state_of (goes_on p))
goes_on_later s (Running t) h = later_twice s t (state_of (step t)) h (step_later t h.lawful)
goes_on_later s (Stopped end t) h = h

began_later : (s : State) (o : Option End) → IsLawful s → IsLater s (state_of (began o s))
began_later s None is = later_same s is
began_later s (Some end) is = later_same s is

pub later_from_start : (m : ℕ) (s : State) → IsLawful s → IsLater s (state_of (run_of m s))
unfolding run_of
later_from_start zero s is = began_later s s.core.stopped is
later_from_start (suc m) s is = goes_on_later s (run_of m s) (later_from_start m s is)

continued_later : (n : ℕ) (p : Progress) → IsLawful (state_of p) → IsLater (state_of p) (state_of (continued n p))
continued_later n (Running t) is = later_from_start n t is
continued_later n (Stopped end t) is = later_same t is

pub later_in_run : (m n : ℕ) (s : State) → IsLawful s → IsLater (state_of (run_of m s)) (state_of (run_of (m + n) s))
later_in_run m n s is =
    subst (λ (p : Progress). IsLater (state_of (run_of m s)) (state_of p)) (sym (run_of_sum n m s))
    (continued_later n (run_of m s) (later_from_start m s is).lawful)
