-- How a session ends, by its script alone.
use Rattle.std.proofs.Common.{◌≡◌, ◌≢◌, ℕ, zero, suc, ◌+◌, ◌-◌, List, [], ◌∷◌, ◌++◌, length, Option, Some, None, Ok, Err, Contains, refl, sym, ap, ◌∙◌, subst, append_assoc, arith}
use Rattle.std.specs.Prelude.{IfSome, IsSomeAnd}
use Rattle.std.proofs.lemmas.List.Elements.{Contains-append_right}
use Rattle.pw_io.specs.Files.{Told}
use Rattle.pw_top_answer.specs.declared.answer.Answer.{Answer}
use Rattle.pw_top_answer.specs.declared.answer.Answer.TheVariants.{Done, WriteFault, StoreFault, NoMemory, BadScript}
use Rattle.pw_top_answer.specs.Outcomes.{Answers}
use Rattle.pw_session_script.specs.declared.line.TakenLine.{TakenLine}
use Rattle.pw_session_script.specs.declared.line.ScriptFault.{ScriptFault}
use Rattle.pw_session_script.specs.declared.line.ScriptFault.TheVariants as script
use Rattle.pw_session_script.specs.Reading.{ReadsLine, line_view}
use Rattle.pw_session_script.specs.Script.{LineValue, RemoveText, first_line}
use Rattle.pw_session.specs.declared.session.Turn.{Turn}
use Rattle.pw_session.specs.declared.session.Turn.TheVariants.{Over, Obeyed}
use Rattle.pw_session.specs.Changes.{MakesSome}
use Rattle.pw_session.specs.Removals.{IsRemovedBy, IsRemovedFirst, IsRemovedIn, MayRemove, MayRemoveFirst}
use Rattle.pw_session.specs.Session.{ScriptLines, bad_at, script_lines_from, lines_limit, script_lines, script_answer, with_line}
use Rattle.pw_session.specs.Outcomes.{EndsAs, EndsTurn, IsLastAnswer, IsLineAnswer, IsLineTaken, unread}
use Rattle.pw_session.proofs.ChangeLemmas.{some_weaker}
use Rattle.pw_session.proofs.SessionLemmas.{bad_there, lines_first, lines_next, lines_over, lines_stop}

-- ---- no line was read

bad_ends : (n offset : ℕ) (left : List ℕ) → left ≢ [] → first_line left ≡ None → Answers (script_answer (script_lines_from (suc n) offset left).bad) (BadScript offset)
bad_ends n offset left some none = ap (λ (l : ScriptLines). script_answer l.bad) (lines_stop n offset left none) ∙ ap script_answer (bad_there offset left some)

unread_told : (n offset : ℕ) (left : List ℕ) (rest : Option (List ℕ)) (fault : ScriptFault) → ReadsLine left rest (Err fault) → Answers (script_answer (script_lines_from (suc n) offset left).bad) (unread fault offset)
unread_told n offset left rest script.BadLine h = bad_ends n offset left h.0 h.1
unread_told n offset left rest script.ReadFault h = tt
unread_told n offset left rest script.NoMemory h = tt

pub unread_ends : (offset : ℕ) (fault : ScriptFault) (answer : Answer) (first rest : Option (List ℕ)) → answer ≡ unread fault offset → IfSome first (λ left. ReadsLine left rest (Err fault)) → IfSome first (λ left. EndsTurn offset left (Over answer) rest)
unread_ends offset fault answer None rest e h = tt
unread_ends offset fault answer (Some left) rest e h = λ n. subst (λ (a : Answer). Answers (script_answer (script_lines_from (suc n) offset left).bad) a) (sym e) (unread_told n offset left rest fault h)

-- ---- the script is over

over_told : (n offset : ℕ) (left : List ℕ) → left ≡ [] → Answers (script_answer (script_lines_from (suc n) offset left).bad) Done
over_told n offset left e =
    ap (λ (xs : List ℕ). script_answer (script_lines_from (suc n) offset xs).bad) e ∙ ap (λ (l : ScriptLines). script_answer l.bad) (lines_stop n offset [] refl)

pub over_ends : (offset : ℕ) (found : Option TakenLine) (first rest : Option (List ℕ)) → found ≡ None → IfSome first (λ left. ReadsLine left rest (Ok found)) → IfSome first (λ left. EndsTurn offset left (Over Done) rest)
over_ends offset found None rest e h = tt
over_ends offset found (Some left) rest e h =
    let k : ReadsLine left rest (Ok None) = subst (λ (o : Option TakenLine). ReadsLine left rest (Ok o)) e h in
    λ n. over_told n offset left k.0

-- ---- a line was read

line_ends : (wanted answer : Answer) → IsLineAnswer answer → (answer ≡ Done → ⊥) → Answers wanted answer
line_ends wanted Done k ne = absurd (ne refl)
line_ends wanted WriteFault k ne = tt
line_ends wanted StoreFault k ne = tt
line_ends wanted NoMemory k ne = tt
line_ends wanted _ k ne = absurd k

obeyed_ends : (offset size : ℕ) (left : List ℕ) (rest : Option (List ℕ)) (line : TakenLine) → size ≡ line.length → ReadsLine left rest (Ok (Some line)) → EndsTurn offset left (Obeyed size) rest
obeyed_ends offset size left None line e h = absurd h.1
obeyed_ends offset size left (Some later) line e h =
    (line_view line.line, λ n. lines_next n offset line.length left later (line_view line.line) h.1.0 h.1.1 ∙ ap (λ (k : ℕ). with_line (line_view line.line) (script_lines_from n (offset + k) later)) (sym e))

taken_told : (offset : ℕ) (line : TakenLine) (turn : Turn) (left : List ℕ) (rest : Option (List ℕ)) → IsLineTaken line turn → ReadsLine left rest (Ok (Some line)) → EndsTurn offset left turn rest
taken_told offset line (Over answer) left rest k h = λ n. line_ends (script_answer (script_lines_from (suc n) offset left).bad) answer k.0 k.1
taken_told offset line (Obeyed size) left rest k h = obeyed_ends offset size left rest line k h

pub taken_ends : (offset : ℕ) (found : Option TakenLine) (line : TakenLine) (turn : Turn) (first rest : Option (List ℕ)) → found ≡ Some line → IsLineTaken line turn → IfSome first (λ left. ReadsLine left rest (Ok found)) → IfSome first (λ left. EndsTurn offset left turn rest)
taken_ends offset found line turn None rest e k h = tt
taken_ends offset found line turn (Some left) rest e k h = taken_told offset line turn left rest k (subst (λ (o : Option TakenLine). ReadsLine left rest (Ok o)) e h)

-- ---- the whole script

-- The session ends as what is left of the script says, of which so many lines may be taken, and the lines that are left are
-- the last ones.
pub record Behind (script : List ℕ) (n offset : ℕ) (left : List ℕ) : Type 0 where
  pub bad : (script_lines script).bad ≡ (script_lines_from n offset left).bad
  pub before : List LineValue
  pub lines : (script_lines script).lines ≡ before ++ (script_lines_from n offset left).lines

abbrev pub EndsBehind : ℕ → ℕ → Option (List ℕ) → Option (List ℕ) → Type 0
EndsBehind n offset first rest = IfSome first (λ script. IsSomeAnd rest (Behind script n offset))

whole_script : (script : List ℕ) → script_lines script ≡ script_lines_from lines_limit 0 script
unfolding script_lines
whole_script script = refl

pub ends_begin : (n : ℕ) (first : Option (List ℕ)) → n ≡ lines_limit → EndsBehind n 0 first first
ends_begin n None e = tt
ends_begin n (Some script) e =
    let whole : script_lines script ≡ script_lines_from n 0 script = whole_script script ∙ ap (λ (k : ℕ). script_lines_from k 0 script) (sym e) in
    record { bad = ap (λ (l : ScriptLines). l.bad) whole; before = []; lines = ap (λ (l : ScriptLines). l.lines) whole }

behind_at : (n m offset : ℕ) (script left : List ℕ) → n ≡ m → Behind script n offset left → Behind script m offset left
behind_at n m offset script left e so = subst (λ (k : ℕ). Behind script k offset left) e so

further_told : (m offset size : ℕ) (script left : List ℕ) (rest : Option (List ℕ)) → Behind script (suc m) offset left → EndsTurn offset left (Obeyed size) rest → IsSomeAnd rest (Behind script m (offset + size))
further_told m offset size script left None so h = absurd h
further_told m offset size script left (Some later) so h =
    let next : script_lines_from (suc m) offset left ≡ with_line h.0 (script_lines_from m (offset + size) later) = h.1 m in
    record {
      bad = so.bad ∙ ap (λ (l : ScriptLines). l.bad) next;
      before = so.before ++ h.0 ∷ [];
      lines = so.lines ∙ ap (λ (l : ScriptLines). so.before ++ l.lines) next ∙ sym (append_assoc so.before (h.0 ∷ []) (script_lines_from m (offset + size) later).lines);
    }

pub ends_further : (n m offset size : ℕ) (first now rest : Option (List ℕ)) → n ≡ suc m → EndsBehind n offset first now → IfSome now (λ left. EndsTurn offset left (Obeyed size) rest) → EndsBehind m (offset + size) first rest
ends_further n m offset size None now rest e so h = tt
ends_further n m offset size (Some script) None rest e so h = absurd so
ends_further n m offset size (Some script) (Some left) rest e so h = further_told m offset size script left rest (behind_at n (suc m) offset script left e so) h

ended_by : (script : List ℕ) (bad : Option ℕ) (answer : Answer) → (script_lines script).bad ≡ bad → Answers (script_answer bad) answer → EndsAs script answer
ended_by script bad answer e h = subst (λ (b : Option ℕ). Answers (script_answer b) answer) (sym e) h

pub ends_over : (n m offset : ℕ) (answer : Answer) (first now rest : Option (List ℕ)) → n ≡ suc m → EndsBehind n offset first now → IfSome now (λ left. EndsTurn offset left (Over answer) rest) → IfSome first (λ script. EndsAs script answer)
ends_over n m offset answer None now rest e so h = tt
ends_over n m offset answer (Some script) None rest e so h = absurd so
ends_over n m offset answer (Some script) (Some left) rest e so h =
    let here = behind_at n (suc m) offset script left e so in
    ended_by script (script_lines_from (suc m) offset left).bad answer here.bad (h m)

pub ends_last : (n offset : ℕ) (answer : Answer) (first now : Option (List ℕ)) → n ≡ zero → EndsBehind n offset first now → IfSome now (λ left. IsLastAnswer offset left answer) → IfSome first (λ script. EndsAs script answer)
ends_last n offset answer None now e so h = tt
ends_last n offset answer (Some script) None e so h = absurd so
ends_last n offset answer (Some script) (Some left) e so h =
    let here = behind_at n zero offset script left e so in
    ended_by script (bad_at offset left) answer (here.bad ∙ ap (λ (l : ScriptLines). l.bad) (lines_over offset left)) h

-- ---- which files are removed

-- by a line of the script, since one removes it that stands first in what is left
removed_in : (m offset : ℕ) (script left : List ℕ) (name : List ℕ) → Behind script (suc m) offset left → IsRemovedFirst left name → IsRemovedIn script name
removed_in m offset script left name so h =
    let more : List LineValue = (script_lines_from m (offset + (length left - length h.1)) h.1).lines in
    let whole : (script_lines script).lines ≡ so.before ++ h.0 ∷ more = so.lines ∙ ap (λ (l : ScriptLines). so.before ++ l.lines) (lines_first m offset left h.1 h.0 h.2) in
    let there : Contains (so.before ++ h.0 ∷ more) h.0 = Contains-append_right so.before (h.0 ∷ more) h.0 (zero, omega arith, refl) in (
      h.3.0,
      subst (λ (ls : List LineValue). Contains ls (RemoveText name)) (sym whole) (subst (λ (line : LineValue). Contains (so.before ++ h.0 ∷ more) line) h.3.1 there),
    )

may_remove : (n m offset : ℕ) (first now : Option (List ℕ)) → n ≡ suc m → EndsBehind n offset first now → (name : List ℕ) → MayRemoveFirst now name → MayRemove first name
may_remove n m offset None None e so name h = h
may_remove n m offset None (Some left) e so name h = h.3.0
may_remove n m offset (Some script) None e so name h = absurd so
may_remove n m offset (Some script) (Some left) e so name h = removed_in m offset script left name (behind_at n (suc m) offset script left e so) h

pub some_removed : (n m offset : ℕ) (answer : Answer) (first now : Option (List ℕ)) (store new : Option Told) → n ≡ suc m → EndsBehind n offset first now → IfSome store (λ told. MakesSome (MayRemoveFirst now) answer told new) → IfSome store (λ told. MakesSome (MayRemove first) answer told new)
some_removed n m offset answer first now None new e so h = tt
some_removed n m offset answer first now (Some told) new e so h = some_weaker (MayRemoveFirst now) (MayRemove first) (may_remove n m offset first now e so) answer told new h

-- by the first line, which was read
first_removes : (line : TakenLine) (first rest : Option (List ℕ)) → IfSome first (λ left. ReadsLine left rest (Ok (Some line))) → (name : List ℕ) → IsRemovedBy (line_view line.line) name → MayRemoveFirst first name
first_removes line None rest h name by = by.0
first_removes line (Some left) None h name by = absurd h.1
first_removes line (Some left) (Some later) h name by = (line_view line.line, later, h.1.0, by)

pub taken_some : (found : Option TakenLine) (line : TakenLine) (answer : Answer) (first rest : Option (List ℕ)) (store new : Option Told) → found ≡ Some line → IfSome first (λ left. ReadsLine left rest (Ok found))
    → IfSome store (λ told. MakesSome (IsRemovedBy (line_view line.line)) answer told new) → IfSome store (λ told. MakesSome (MayRemoveFirst first) answer told new)
taken_some found line answer first rest None new e h some = tt
taken_some found line answer first rest (Some told) new e h some =
    some_weaker (IsRemovedBy (line_view line.line)) (MayRemoveFirst first) (first_removes line first rest (subst (λ (o : Option TakenLine). IfSome first (λ left. ReadsLine left rest (Ok o))) e h)) answer told new some
