-- What blocks code without labels begins: those whose numbers were given out since, each once.
use Rattle.std.proofs.Common.{◌≡◌, ℕ, ◌+◌, ◌≤◌, Bool, if◌then◌else◌, List, [], ◌∷◌, ◌++◌, refl, ap, ◌∙◌, arith}
use Rattle.pw_types.specs.TypedTrees.{Expression}
use Rattle.pw_flow.specs.declared.flow.Op.{Op}
use Rattle.pw_flow.specs.declared.flow.End.{End}
use Rattle.pw_lower.specs.declared.code.Code.{Code}
use Rattle.pw_lower.specs.declared.code.Numbered.{Numbered}
use Rattle.pw_lower.specs.Codes.{emit, fresh, reserve, cut, cut_here, leave}
use Rattle.pw_lower.specs.Expressions.{Home, lower}
use Rattle.pw_law_refine_steps.specs.FromLawRefine.Containing.{same, given, times_closed, begun, Spreads}

-- ---- numbers

-- 1 where a test holds
abbrev pub one_if : Bool → ℕ
one_if v = if v then 1 else 0

pub given-more : (b n : ℕ) → given b (n + 1) ≡ given b n + same n b
given-more b n = grind arith

pub given-two : (b n : ℕ) → given b (n + 2) ≡ given b n + (same n b + same (n + 1) b)
given-two b n = grind arith

pub given-three : (b n : ℕ) → given b (n + 3) ≡ given b n + (same n b + (same (n + 1) b + same (n + 2) b))
given-three b n = grind arith

pub given-four : (b n : ℕ) → given b (n + 4) ≡ given b n + (same n b + (same (n + 1) b + (same (n + 2) b + same (n + 3) b)))
given-four b n = grind arith

pub times_closed-append : (b : ℕ) (xs ys : List Numbered) → times_closed b (xs ++ ys) ≡ times_closed b xs + times_closed b ys
times_closed-append b [] ys = omega arith
times_closed-append b (x ∷ xs) ys = omega (arith, times_closed-append b xs ys)

-- ---- what is begun

abbrev pub none : ℕ → ℕ
none b = 0

-- The code d begins numbers that were given out since: of these it leaves `saved`, and begins `spent` besides them.
pub record Spread (c d : Code) (saved spent : ℕ → ℕ) : Type 0 where
  pub blocks : (b : ℕ) → begun b d + given b c.blocks + saved b ≤ begun b c + given b d.blocks + spent b
  pub counts : c.blocks ≤ d.blocks
  pub temps : c.temps ≤ d.temps
  pub labels : d.labels ≡ c.labels

pub joins : {c d e : Code} {s n s' n' : ℕ → ℕ} → Spread c d s n → Spread d e s' n' → Spread c e (λ b. s b + s' b) (λ b. n b + n' b)
joins f g = record {
  blocks = λ b. omega (arith, f.blocks b, g.blocks b);
  counts = omega (arith, f.counts, g.counts);
  temps = omega (arith, f.temps, g.temps);
  labels = g.labels ∙ f.labels;
}

pub within : {c d : Code} {s n k m : ℕ → ℕ} → Spread c d s n → ((b : ℕ) → n b + k b ≤ s b + m b) → Spread c d k m
within f h = record { blocks = λ b. omega (arith, f.blocks b, h b); counts = f.counts; temps = f.temps; labels = f.labels }

pub and : {c d e : Code} → Spread c d none none → Spread d e none none → Spread c e none none
and f g = within (joins f g) (λ b. omega arith)

-- operations and temporaries more
stays : (c d : Code) → d.closed ≡ c.closed → d.cur ≡ c.cur → d.blocks ≡ c.blocks → c.temps ≤ d.temps → d.labels ≡ c.labels → Spread c d none none
stays c d closed cur blocks temps labels = record {
  blocks = λ b. omega (arith, ap (λ (n : ℕ). same n b) cur, ap (λ (l : List Numbered). times_closed b l) closed, ap (λ (n : ℕ). given b n) blocks);
  counts = omega (arith, blocks);
  temps = temps;
  labels = labels;
}

pub same_code : (c : Code) → Spread c c none none
same_code c = stays c c refl refl refl (omega arith) refl

pub emits : (o : Op) (c : Code) → Spread c (emit o c) none none
emits o c = stays c (emit o c) refl refl refl (omega arith) refl

pub adds : (o : ℕ → Op) (c : Code) → Spread c (fresh o c).code none none
adds o c = stays c (fresh o c).code refl refl refl (omega arith) refl

pub reserves : (n : ℕ) (c : Code) → Spread c (reserve n c) (λ b. given b (c.blocks + n)) (λ b. given b c.blocks)
reserves n c = record { blocks = λ b. omega arith; counts = omega arith; temps = omega arith; labels = refl }

pub cuts : (end : End) (number depth : ℕ) (c : Code) → Spread c (cut end number depth c) none (λ b. same number b)
cuts end number depth c = record {
  blocks = λ b. omega (arith, times_closed-append b c.closed (record { number = c.cur; block = record { depth = c.depth; ops = c.ops; end = end } } ∷ []));
  counts = omega arith;
  temps = omega arith;
  labels = refl;
}

pub turns : (end : End) (number : ℕ) (c : Code) → Spread c (cut_here end number c) none (λ b. same number b)
turns end number c = cuts end number c.depth c

pub leaves : (end : End) (c : Code) → Spread c (leave end c) none none
leaves end c = within (joins (reserves 1 c) (turns end c.blocks (reserve 1 c))) (λ b. omega (arith, given-more b c.blocks))

-- ---- expressions

-- what is known of the code of expressions
pub record OfExpressions : Type 0 where
  pub blocks : (h : Home) (a : Expression) (c : Code) → Spreads c (lower h a c).code []
  pub labels : (h : Home) (a : Expression) (c : Code) → (lower h a c).code.labels ≡ c.labels

pub lower-spreads : OfExpressions → (h : Home) (a : Expression) (c : Code) → Spread c (lower h a c).code none none
lower-spreads known h a c =
    let s = known.blocks h a c in
    record { blocks = λ b. omega (arith, s.blocks b); counts = s.counts; temps = s.temps; labels = known.labels h a c }
