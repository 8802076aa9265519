-- Directives that are sound for a graph are so for every graph that says the same.
use Rattle.std.specs.Prelude.{ℕ, List}
use Rattle.std.proofs.Common.{inl, inr}
use Rattle.pw_db.specs.declared.database.Directives.{Directives}
use Rattle.pw_db_sound.specs.CallGraphs.{Graph, Path, call, on, References, SayTheSame, IsInner, RootOf, outer, of_callers, of_two, PathBelow, here, further}
use Rattle.pw_db_sound.specs.Sound.{Needs, refers, keeps, IsSavedAbove, Sound}

-- ---- from the second graph back to the first

pub references_back : (g h : Graph) → SayTheSame g h → (f v : List ℕ) → References h f v → References g f v
references_back g h s f v (inl reads) = inl ((s.reads f v).1 reads)
references_back g h s f v (inr writes) = inr ((s.writes f v).1 writes)

path_back : (g h : Graph) → SayTheSame g h → (a b : List ℕ) → Path h a b → Path g a b
path_back g h s a b (call _ _ c) = call a b ((s.calls a b).1 c)
path_back g h s a b (on _ via _ c p) = on a via b ((s.calls a via).1 c) (path_back g h s via b p)

needs_back : (g h : Graph) (d : List (List ℕ × Directives)) → SayTheSame g h → (f v : List ℕ) → Needs h d f v → Needs g d f v
needs_back g h d s f v (refers r) = refers (references_back g h s f v r)
needs_back g h d s f v (keeps u e i) = keeps u e i

-- ---- roots

path_forth : (g h : Graph) → SayTheSame g h → (a b : List ℕ) → Path g a b → Path h a b
path_forth g h s a b (call _ _ c) = call a b ((s.calls a b).0 c)
path_forth g h s a b (on _ via _ c p) = on a via b ((s.calls a via).0 c) (path_forth g h s via b p)

inner_forth : (g h : Graph) → SayTheSame g h → (f : List ℕ) → IsInner g f → IsInner h f
inner_forth g h s f i = record {
  movable = (s.movable f).0 i.movable;
  other = i.other;
  once = λ p. i.once (path_back g h s f f p);
  caller = i.caller;
  called = (s.calls i.caller f).0 i.called;
}

inner_back : (g h : Graph) → SayTheSame g h → (f : List ℕ) → IsInner h f → IsInner g f
inner_back g h s f i = record {
  movable = (s.movable f).1 i.movable;
  other = i.other;
  once = λ p. i.once (path_forth g h s f f p);
  caller = i.caller;
  called = (s.calls i.caller f).1 i.called;
}

root_forth : (g h : Graph) → SayTheSame g h → (f root : List ℕ) → RootOf g f root → RootOf h f root
root_forth g h s f root (outer _ not) = outer f (λ i. not (inner_back g h s f i))
root_forth g h s f root (of_callers _ _ i each) =
    of_callers f root (inner_forth g h s f i) (λ a c. root_forth g h s a root (each a ((s.calls a f).1 c)))
root_forth g h s f root (of_two _ a b q r i one two first second apart) =
    of_two f a b q r (inner_forth g h s f i) ((s.calls a f).0 one) ((s.calls b f).0 two) (root_forth g h s a q first) (root_forth g h s b r second) apart

below_back : (g h : Graph) → SayTheSame g h → (root a b : List ℕ) → PathBelow h root a b → PathBelow g root a b
below_back g h s root a b here = here
below_back g h s root a b (further m _ p c apart) = further m b (below_back g h s root a m p) ((s.calls m b).1 c) apart

above_again : (g h : Graph) (d : List (List ℕ × Directives)) → SayTheSame g h → (f : List ℕ) (r : ℕ) → IsSavedAbove g d f r → IsSavedAbove h d f r
above_again g h d s f r a = record {
  root = a.root;
  is = root_forth g h s f a.root a.is;
  saver = a.saver;
  way = λ k there back. a.way k (below_back g h s a.root a.root k there) (below_back g h s a.root k f back);
}

-- ---- sound directives

pub sound_again : (g h : Graph) (d : List (List ℕ × Directives)) → SayTheSame g h → Sound g d → Sound h d
sound_again g h d s t = record {
  member_callers = λ w f a has c. t.member_callers w f a has ((s.calls a f).1 c);
  entry_callers = λ w f a has c. t.entry_callers w f a has ((s.calls a f).1 c);
  start = t.start;
  references = λ w a f within path needs. t.references w a f within (path_back g h s a f path) (needs_back g h d s f w.global needs);
  between = λ w a f b within there back stands. t.between w a f b within (path_back g h s a f there) (path_back g h s f b back) stands;
  registers = t.registers;
  eligible = λ w f i. (s.eligible w.global w.kind).0 (t.eligible w f i);
  writes = λ w f i writes. t.writes w f i ((s.writes f w.global).1 writes);
  free = λ f r i. above_again g h d s f r (t.free f r i);
  saves = t.saves;
}
