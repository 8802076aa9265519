-- What is read is the tokens' one answer.
use Rattle.std.proofs.Common.{◌≡◌, ℕ, List, map, Result, Ok, Err, refl, sym, ap, subst}
use Rattle.std.specs.Prelude.{◌↔◌}
use Rattle.pw_tree.specs.Grammar.{IsSyntaxFault}
use Rattle.pw_tree.specs.Symbols.{Spelled, symbol_of}
use Rattle.pw_tree.specs.Trees.{Module}
use Rattle.pw_parse_grammar.specs.Answers.{IsAnswer, answer_in}
use Rattle.pw_parse_grammar.specs.Input.{Outcome}
use Rattle.pw_parse_grammar.specs.Modules.{read}
use Rattle.pw_parse_grammar.proofs.FaultLaw.{fault-sound}
use Rattle.pw_parse_grammar.proofs.OneFault.{one-fault}
use Rattle.pw_parse_grammar.proofs.Sound.Laws.{tree-sound}
use Rattle.pw_parse_grammar.proofs.Written.Laws.{tree-read}
use Rattle.pw_parse_grammar.proofs.Written.Symbols.{OneSymbol}

module _ (one : OneSymbol) where
  is_answer : (tokens : List Spelled) (o : Outcome Module) → read (map symbol_of tokens) ≡ o → IsAnswer tokens (answer_in o)
  is_answer tokens (Ok p) h = tree-sound tokens p.0 p.1 h
  is_answer tokens (Err at) h = fault-sound one tokens at h

  fault_is : (tokens : List Spelled) (number : ℕ) (o : Outcome Module) → read (map symbol_of tokens) ≡ o → IsSyntaxFault tokens number → Err number ≡ answer_in o
  fault_is tokens number (Ok p) h f =
      let t = tree-sound tokens p.0 p.1 h in
      absurd (f.no_tree p.0 t.well_formed t.spells)
  fault_is tokens number (Err at) h f = ap (λ n. Err n) (one-fault tokens number at.next f (fault-sound one tokens at h))

  answer_is : (tokens : List Spelled) (answer : Result Module ℕ) → IsAnswer tokens answer → answer ≡ answer_in (read (map symbol_of tokens))
  answer_is tokens (Ok tree) h = ap answer_in (sym (tree-read one tokens tree h))
  answer_is tokens (Err number) h = fault_is tokens number (read (map symbol_of tokens)) refl h

  pub exact : (tokens : List Spelled) (answer : Result Module ℕ) → IsAnswer tokens answer ↔ (answer ≡ answer_in (read (map symbol_of tokens)))
  exact tokens answer = (answer_is tokens answer, λ e. subst (IsAnswer tokens) (sym e) (is_answer tokens (read (map symbol_of tokens)) refl))
