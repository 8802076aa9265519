-- What is read on keeps within the limits.
use Rattle.std.proofs.Common.{◌≡◌, ℕ, ◌<◌, ◌≤◌, Bool, true, false, if◌then◌else◌, List, [], ◌∷◌, length, Result, Ok, Err, refl, sym, subst, arith}
use Rattle.std.proofs.lemmas.Bool.{leb-false}
use Rattle.std.specs.Prelude.{nat_le}
use Rattle.pw_cpp_lines.specs.declared.head.Head.{Head}
use Rattle.pw_cpp_lines.specs.declared.line.Line.{Line}
use Rattle.pw_cpp_lines.specs.declared.line.LineFault.{LineFault}
use Rattle.pw_cpp_expand.specs.AtHand.{IsWithinLimits}
use Rattle.pw_cpp_expand.specs.Calls.{Called, Closed, Open, Fails, Collects, CollectsCut, CollectsFrom}
use Rattle.pw_cpp_expand.specs.Calls as call
use Rattle.pw_cpp_expand.specs.declared.arguments.Cut.{Cut}
use Rattle.pw_cpp_expand.specs.Lookahead.{Ahead, At, Faulty, Further, Nothing, Tokens, Fault, Lexeme, LooksAhead, LooksOn, ReadsAs, ReadsOn, of_text_line, output_limit, read_to}
use Rattle.pw_cpp_expand.specs.Lookahead as ahead
use Rattle.pw_cpp_expand.specs.declared.progress.ExpandFault.TheVariants.{Length}
use Rattle.pw_cpp_expand.specs.declared.progress.Mode.{Mode}
use Rattle.pw_cpp_expand.specs.declared.progress.Progress.{Progress}

abbrev pub IsFurtherWithin : Further → Type 0
IsFurtherWithin Nothing = Unit {0}
IsFurtherWithin (Tokens tokens q) = IsWithinLimits q
IsFurtherWithin (Fault fault) = Unit {0}

abbrev pub IsAheadWithin : Ahead → Type 0
IsAheadWithin (At tokens q) = IsWithinLimits q
IsAheadWithin (Faulty fault) = Unit {0}

abbrev pub IsCalledWithin : Called → Type 0
IsCalledWithin (Closed arguments close behind q) = IsWithinLimits q
IsCalledWithin Open = Unit {0}
IsCalledWithin (Fails fault) = Unit {0}

of_line : (at : ℕ) (p : Progress) (found : Result Line LineFault) → IsWithinLimits p → IsFurtherWithin (of_text_line at p found)
of_line at p (Ok line) h = by (nat_le output_limit p.size) refl
  where
    by : (b : Bool) → nat_le output_limit p.size ≡ b → IsFurtherWithin (if b then Fault (Length at) else Tokens line.tokens (read_to p at line.next))
    by true e = tt
    by false e = (h.0, omega (arith, leb-false output_limit p.size e))
of_line at p (Err fault) h = tt

mutual
  pub reads-within : (text : List ℕ) (at : ℕ) (p : Progress) (x : Further) → ReadsOn text at p x → IsWithinLimits p → IsFurtherWithin x
  reads-within text at p x (ahead.ends _ _ l) h = tt
  reads-within text at p x (ahead.reads _ _ what _ w k r) h = as_within text at p what x r h

  as_within : (text : List ℕ) (at : ℕ) (p : Progress) (what : Head) (x : Further) → ReadsAs text at p what x → IsWithinLimits p → IsFurtherWithin x
  as_within text at p what x (ahead.directive _ _ hash name) h = tt
  as_within text at p what x (ahead.marker _ _ hash next _ r k) h = reads-within text next p x k h
  as_within text at p what x (ahead.text_line _ _ found _ l e) h =
      let P : Further → Type 0 = λ z. IsFurtherWithin z in subst P (sym e) (of_line at p found h)

mutual
  pub looks-within : (text : List ℕ) (mode : Mode) (tokens : List Lexeme) (p : Progress) (x : Ahead) → LooksAhead text mode tokens p x → IsWithinLimits p → IsAheadWithin x
  looks-within text mode tokens p x (ahead.here _ first rest _) h = h
  looks-within text mode tokens p x (ahead.alone _) h = h
  looks-within text mode tokens p x (ahead.on _ found _ r k) h = on_within text p found x k h (reads-within text p.next p found r h)

  on_within : (text : List ℕ) (p : Progress) (found : Further) (x : Ahead) → LooksOn text p found x → IsWithinLimits p → IsFurtherWithin found → IsAheadWithin x
  on_within text p found x (ahead.nothing _) h k = h
  on_within text p found x (ahead.further _ q tokens _ l) h k = looks-within text _ _ q x l k
  on_within text p found x (ahead.faulty _ fault) h k = tt

module _ (source text : List ℕ) (mode : Mode) where
  mutual
    pub collects-within : (depth : ℕ) (arguments : List (List Lexeme)) (pending : List Lexeme) (p : Progress) (x : Called) → Collects source text mode depth arguments pending p x
        → IsWithinLimits p → IsCalledWithin x
    collects-within depth arguments pending p x (call.looks _ _ _ _ found _ l r) h = from_within depth arguments found x r (looks-within text mode pending p found l h)

    from_within : (depth : ℕ) (arguments : List (List Lexeme)) (found : Ahead) (x : Called) → CollectsFrom source text mode depth arguments found x → IsAheadWithin found → IsCalledWithin x
    from_within depth arguments found x (call.open_end _ _ q) h = tt
    from_within depth arguments found x (call.faulty _ _ fault) h = tt
    from_within depth arguments found x (call.one_token _ _ t rest q _ c) h = cut_within _ arguments t rest q x c h

    cut_within : (what : Cut) (arguments : List (List Lexeme)) (t : Lexeme) (rest : List Lexeme) (q : Progress) (x : Called) → CollectsCut source text mode what arguments t rest q x
        → IsWithinLimits q → IsCalledWithin x
    cut_within what arguments t rest q x (call.within depth _ _ _ _ _ c) h = collects-within depth _ rest q x c h
    cut_within what arguments t rest q x (call.next _ _ _ _ _ c) h = collects-within 0 _ rest q x c h
    cut_within what arguments t rest q x (call.ends _ _ _ _) h = h
