-- What was put out, piece by piece.
use Rattle.std.proofs.Common.{◌≡◌, ℕ, List, [], ◌++◌, Option, Some, None, refl, sym, ap, ◌∙◌, subst, append_assoc, append-nil}
use Rattle.pw_io.specs.Streams.{Appends}
use Rattle.pw_top_answer.specs.declared.answer.Answer.{Answer}
use Rattle.pw_top_answer.specs.declared.answer.Answer.TheVariants.{ReadFault, WriteFault, StoreFault, NoMemory}
use Rattle.pw_top_answer.specs.Outcomes.{IsWhole, PutsOut}

-- nothing need be whole
abbrev pub MayStop : Answer → Type 0
MayStop answer = (more : List ℕ) → IsWhole answer more

-- all is whole
abbrev pub GoesOn : Answer → Type 0
GoesOn answer = (more : List ℕ) → IsWhole answer more → more ≡ []

appends_nothing : (taken : Option (List ℕ)) → Appends taken taken []
appends_nothing None = tt
appends_nothing (Some xs) = sym (append-nil xs)

appends_told : (before mid after first second : List ℕ) → mid ≡ before ++ first → after ≡ mid ++ second → after ≡ before ++ (first ++ second)
appends_told before mid after first second e f = f ∙ ap (λ (xs : List ℕ). xs ++ second) e ∙ append_assoc before first second

appends_more : (t0 t1 t2 : Option (List ℕ)) (first second : List ℕ) → Appends t0 t1 first → Appends t1 t2 second → Appends t0 t2 (first ++ second)
appends_more t0 t1 None first second a b = tt
appends_more t0 None (Some after) first second a b = absurd b
appends_more None (Some mid) (Some after) first second a b = absurd a
appends_more (Some before) (Some mid) (Some after) first second a b = appends_told before mid after first second a b

whole_none : (answer : Answer) → IsWhole answer []
whole_none ReadFault = tt
whole_none WriteFault = tt
whole_none StoreFault = tt
whole_none NoMemory = tt
whole_none _ = refl

-- nothing was put out, of nothing
pub puts_none : (answer : Answer) (taken : Option (List ℕ)) → PutsOut [] answer taken taken
puts_none answer taken = record { output = []; more = []; taken = appends_nothing taken; front = refl; whole = whole_none answer }

-- nothing was put out, and the answer says why
pub puts_alone : (wanted : List ℕ) (answer : Answer) (old new : Option (List ℕ)) → MayStop answer → new ≡ old → PutsOut wanted answer old new
puts_alone wanted answer old new h e = record { output = []; more = wanted; taken = subst (λ (t : Option (List ℕ)). Appends old t []) (sym e) (appends_nothing old); front = refl; whole = h wanted }

whole_output : (first output more : List ℕ) → more ≡ [] → first ≡ output ++ more → output ≡ first
whole_output first output more e f = sym (f ∙ ap (λ (xs : List ℕ). output ++ xs) e ∙ append-nil output)

-- one behind another
pub puts_then : (first second : List ℕ) (x y : Answer) (t0 t1 t2 : Option (List ℕ)) → GoesOn x → PutsOut first x t0 t1 → PutsOut second y t1 t2 → PutsOut (first ++ second) y t0 t2
puts_then first second x y t0 t1 t2 h p q = record {
  output = first ++ q.output;
  more = q.more;
  taken = appends_more t0 t1 t2 first q.output (subst (Appends t0 t1) (whole_output first p.output p.more (h p.more p.whole) p.front) p.taken) q.taken;
  front = ap (λ (xs : List ℕ). first ++ xs) q.front ∙ sym (append_assoc first q.output q.more);
  whole = q.whole;
}

-- no more behind the first
pub puts_stop : (first second : List ℕ) (y : Answer) (t0 t1 : Option (List ℕ)) → MayStop y → PutsOut first y t0 t1 → PutsOut (first ++ second) y t0 t1
puts_stop first second y t0 t1 h p = record {
  output = p.output;
  more = p.more ++ second;
  taken = p.taken;
  front = ap (λ (xs : List ℕ). xs ++ second) p.front ∙ append_assoc p.output p.more second;
  whole = h (p.more ++ second);
}
