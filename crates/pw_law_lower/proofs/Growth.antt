-- How the code of a function grows: what stays of it, and how many temporaries and arguments are added.
use Rattle.std.proofs.Common.{◌≡◌, ℕ, ◌+◌, ◌≤◌, ◌⊎◌, inl, inr, List, [], ◌∷◌, ◌++◌, refl, ap, sym, ◌∙◌, arith, append_assoc}
use Rattle.pw_flow.specs.declared.flow.Op.{Op}
use Rattle.pw_flow.specs.declared.flow.End.{End}
use Rattle.pw_lower.specs.declared.code.Code.{Code}
use Rattle.pw_lower.specs.declared.code.Numbered.{Numbered}
use Rattle.pw_lower.specs.Codes.{emit, fresh, reserve, reserve_temps, cut, cut_here, leave, named_from}
use Rattle.pw_flow.specs.FrameRooms.{argument_count}
use Rattle.pw_law_lower.specs.Kept.{IsStillFilled, IsClosedNext, Keeps}

-- ---- what stays

append_nothing : {A : Type 0} (xs : List A) → xs ++ [] ≡ xs
append_nothing [] = refl
append_nothing (x ∷ xs) = ap (λ ys. x ∷ ys) (append_nothing xs)

closed_more : (c : Code) (ops ops' : List Op) (end : End) (rest : List Numbered) → ops ≡ ops' → (c.closed ++ record { number = c.cur; block = record { depth = c.depth; ops = ops; end = end } } ∷ rest) ≡ (c.closed ++ record { number = c.cur; block = record { depth = c.depth; ops = ops'; end = end } } ∷ rest)
closed_more c ops ops' end rest e = ap (λ (o : List Op). c.closed ++ record { number = c.cur; block = record { depth = c.depth; ops = o; end = end } } ∷ rest) e

filled_then : (c d e : Code) → IsStillFilled c d ⊎ IsClosedNext c d → IsStillFilled d e ⊎ IsClosedNext d e → IsStillFilled c e ⊎ IsClosedNext c e
filled_then c d e (inl f) (inl g) = inl record {
  more = f.more ++ g.more;
  ops = g.ops ∙ ap (λ xs. xs ++ g.more) f.ops ∙ append_assoc c.ops f.more g.more;
  closed = g.closed ∙ f.closed;
  cur = g.cur ∙ f.cur;
  depth = g.depth ∙ f.depth;
}
filled_then c d e (inl f) (inr g) = inr record {
  more = f.more ++ g.more;
  end = g.end;
  rest = g.rest;
  closed = let e : (c.ops ++ f.more) ++ g.more ≡ c.ops ++ (f.more ++ g.more) = append_assoc c.ops f.more g.more in cc;
}
filled_then c d e (inr f) (inl g) = inr record { more = f.more; end = f.end; rest = f.rest; closed = g.closed ∙ f.closed }
filled_then c d e (inr f) (inr g) = inr record {
  more = f.more;
  end = f.end;
  rest = f.rest ++ record { number = d.cur; block = record { depth = d.depth; ops = d.ops ++ g.more; end = g.end } } ∷ g.rest;
  closed = g.closed ∙ ap (λ xs. xs ++ record { number = d.cur; block = record { depth = d.depth; ops = d.ops ++ g.more; end = g.end } } ∷ g.rest) f.closed ∙ append_assoc c.closed (record { number = c.cur; block = record { depth = c.depth; ops = c.ops ++ f.more; end = f.end } } ∷ f.rest) (record { number = d.cur; block = record { depth = d.depth; ops = d.ops ++ g.more; end = g.end } } ∷ g.rest);
}

-- ---- what is added

abbrev pub argument_total : List Op → ℕ
argument_total [] = 0
argument_total (o ∷ rest) = argument_count o + argument_total rest

abbrev pub closed_total : List Numbered → ℕ
closed_total [] = 0
closed_total (b ∷ rest) = argument_total b.block.ops + closed_total rest

-- the temporaries of a code, and the arguments of all calls in it
abbrev pub weight : Code → ℕ
weight c = c.temps + (closed_total c.closed + argument_total c.ops)

argument_total-append : (xs ys : List Op) → argument_total (xs ++ ys) ≡ argument_total xs + argument_total ys
argument_total-append [] ys = omega arith
argument_total-append (x ∷ xs) ys = omega (arith, argument_total-append xs ys)

closed_total-append : (xs ys : List Numbered) → closed_total (xs ++ ys) ≡ closed_total xs + closed_total ys
closed_total-append [] ys = omega arith
closed_total-append (x ∷ xs) ys = omega (arith, closed_total-append xs ys)

-- The code d keeps what c is. It has at most `spent` temporaries and arguments of calls more, and `saved` less than that.
pub record Grows (c d : Code) (saved spent : ℕ) : Type 0 where
  pub keeps : Keeps c d
  pub weighs : weight d + saved ≤ weight c + spent

pub joins : {c d e : Code} {s n s' n' : ℕ} → Grows c d s n → Grows d e s' n' → Grows c e (s + s') (n + n')
joins {c = c} {d = d} {e = e} f g = record {
  keeps = record { filled = filled_then c d e f.keeps.filled g.keeps.filled; blocks = omega (arith, f.keeps.blocks, g.keeps.blocks); temps = omega (arith, f.keeps.temps, g.keeps.temps) };
  weighs = omega (arith, f.weighs, g.weighs);
}

pub within : {c d : Code} {s n k m : ℕ} → Grows c d s n → n + k ≤ s + m → Grows c d k m
within f h = record { keeps = f.keeps; weighs = omega (arith, f.weighs, h) }

pub same : (c : Code) → Grows c c 0 0
same c = record {
  keeps = record { filled = inl record { more = []; ops = sym (append_nothing c.ops); closed = refl; cur = refl; depth = refl }; blocks = omega arith; temps = omega arith };
  weighs = omega arith;
}

pub emits : (o : Op) (n : ℕ) (c : Code) → argument_count o ≡ n → Grows c (emit o c) 0 n
emits o n c h = record {
  keeps = record { filled = inl record { more = o ∷ []; ops = refl; closed = refl; cur = refl; depth = refl }; blocks = omega arith; temps = omega arith };
  weighs = omega (arith, argument_total-append c.ops (o ∷ []), h);
}

pub reserves_temps : (n : ℕ) (c : Code) → Grows c (reserve_temps n c) 0 n
reserves_temps n c = record {
  keeps = record { filled = inl record { more = []; ops = sym (append_nothing c.ops); closed = refl; cur = refl; depth = refl }; blocks = omega arith; temps = omega arith };
  weighs = omega arith;
}

pub reserves : (n : ℕ) (c : Code) → Grows c (reserve n c) 0 0
reserves n c = record {
  keeps = record { filled = inl record { more = []; ops = sym (append_nothing c.ops); closed = refl; cur = refl; depth = refl }; blocks = omega arith; temps = omega arith };
  weighs = omega arith;
}

pub names : (n : ℕ) (labels : List ℕ) (c : Code) → Grows c (named_from n labels c) 0 0
names n labels c = record {
  keeps = record { filled = inl record { more = []; ops = sym (append_nothing c.ops); closed = refl; cur = refl; depth = refl }; blocks = omega arith; temps = omega arith };
  weighs = omega arith;
}

pub cuts : (end : End) (number depth : ℕ) (c : Code) → Grows c (cut end number depth c) 0 0
cuts end number depth c = record {
  keeps = record {
    filled = inr record { more = []; end = end; rest = []; closed = closed_more c c.ops (c.ops ++ []) end [] (sym (append_nothing c.ops)) };
    blocks = omega arith;
    temps = omega arith;
  };
  weighs = omega (arith, closed_total-append c.closed (record { number = c.cur; block = record { depth = c.depth; ops = c.ops; end = end } } ∷ []));
}

pub turns : (end : End) (number : ℕ) (c : Code) → Grows c (cut_here end number c) 0 0
turns end number c = cuts end number c.depth c

pub leaves : (end : End) (c : Code) → Grows c (leave end c) 0 0
leaves end c = within (joins (reserves 1 c) (cuts end c.blocks c.depth (reserve 1 c))) (omega arith)

pub adds : (o : ℕ → Op) (n : ℕ) (c : Code) → argument_count (o c.temps) ≡ n → Grows c (fresh o c).code 0 (1 + n)
adds o n c h = within (joins (reserves_temps 1 c) (emits (o c.temps) n (reserve_temps 1 c) h)) (omega arith)
