-- The tokens before a fault in a statement that holds others begin one (6.6.4, 6.6.5).
use Rattle.std.proofs.Common.{◌≡◌, ℕ, suc, ◌<◌, ◌≤◌, true, false, if◌then◌else◌, List, ◌∷◌, length, Some, None, arith, refl, sym, ap, ◌∙◌}
use Rattle.pw_tree.specs.Scopes.{after_expr, after_optional, after_stmt, Env}
use Rattle.pw_tree.specs.Spelling.{spell_expr, spell_stmt, spell_alternative}
use Rattle.pw_tree.specs.Symbols.{Symbol, Reserved, Sign}
use Rattle.pw_tree.specs.Trees.{Stmt, Empty, If, Switch, While, Do, For, Alternative, NoElse, Otherwise, ElseIf}
use Rattle.pw_tree.specs.WellFormed.{WellFormed, NotIf, ends_open, MayPrecede, WellFormedStmt, WellFormedAlternative}
use Rattle.pw_token.specs.declared.symbol.Keyword.TheVariants as k
use Rattle.pw_token.specs.declared.symbol.Mark.TheVariants as m
use Rattle.pw_parse_grammar.specs.Input.{Input, ahead, step, is_keyword, same_keyword, sees_keyword, Parser, and_then, ◌>>=◌, ◌>>◌, pure, ◌<$>◌, expect, expect_keyword, turns, repeat, More, Last}
use Rattle.pw_parse_grammar.specs.Input as input
use Rattle.pw_parse_grammar.specs.Statements.{up_to, condition, else_if, behind_else, alternative, alternatives, if_stmt, switch_stmt, while_stmt, do_stmt, for_stmt}
use Rattle.pw_parse_grammar.proofs.Trees.Base.{names_of, true_is_not_false}
use Rattle.pw_parse_grammar.proofs.Sound.Base.{Reads, both, token, word_sign}
use Rattle.pw_parse_grammar.proofs.Sound.Statements.{SoundStmt, not_open}
use Rattle.pw_parse_grammar.proofs.Viable.Base.{Does, Fails, bind-fails, bind-does, choose-fails, Form, Viable, missing, embed, counted, no_longer, expected-fails, expected_keyword-fails, eaten_keyword-fails}
use Rattle.pw_parse_grammar.proofs.Viable.Lists.{GoesOn, AfterTurn, repeat-fails}
use Rattle.pw_parse_grammar.proofs.Viable.Parts.{zero_expr}
use Rattle.pw_parse_grammar.proofs.Viable.Things.{begun, instead, anything}
use Rattle.pw_parse_grammar.proofs.Viable.Labels.{conditions, FailsUnlabeled, up_to-does, condition-does}

-- ---- forms

abbrev pub stmt_trees : Form Stmt
stmt_trees = record { holds = WellFormedStmt; put = spell_stmt }

-- statements that may stand directly behind an `else`
abbrev pub other_stmts : Form Stmt
other_stmts = record { holds = λ env s. NotIf s × WellFormedStmt env s; put = spell_stmt }

abbrev pub alternative_trees : Form Alternative
alternative_trees = record { holds = WellFormedAlternative; put = spell_alternative }

-- what may stand behind the statement of an `if`
abbrev pub alternatives_behind : Stmt → Form Alternative
alternatives_behind s = record { holds = λ env a. MayPrecede s a × WellFormedAlternative env a; put = spell_alternative }

-- Where fewer tokens than d are ahead, the tokens before a fault begin a statement.
abbrev pub ViableStmt : ℕ → Parser Stmt → Type 0
ViableStmt d p = (env : Env) (i : Input) → i.names ≡ names_of env → length i.rest < d → Fails (Viable stmt_trees env i) (p i)

-- ---- what the token ahead says of a statement

not_if : {env : Env} {i e : Input} → sees_keyword k.If i ≡ false → Viable stmt_trees env i e → Viable other_stmts env i e
unfolding sees_keyword same_keyword spell_stmt WellFormedStmt
not_if {env = env} {i = i} {e = e} f v = by v.begins.thing v.begins.holds v.begins.spells
  where
    by : (s : Stmt) → WellFormedStmt env s → ((z : List Symbol) → (w : List Symbol) × (spell_stmt s z ≡ v.front w)) → Viable other_stmts env i e
    by (If n c s a) h g = begun stmt_trees v (If n c s a) (Reserved k.If) (λ z. Sign m.OpenParen ∷ spell_expr c (Sign m.CloseParen ∷ spell_stmt s (spell_alternative a z))) g (λ z. refl)
        (λ none. anything v none (Empty 0) (tt, tt))
        (λ some. true_is_not_false (sym f ∙ ap (is_keyword k.If) some))
    by s h g = instead v (record { thing = s; holds = (tt, h); spells = g })

-- An `else` stands behind a statement only where no `if` in it could have it.
may_precede : {env : Env} {i e : Input} (s : Stmt) → (ends_open s ≡ true → sees_keyword k.Else i ≡ false) → Viable alternative_trees env i e → Viable (alternatives_behind s) env i e
unfolding sees_keyword same_keyword spell_stmt WellFormedStmt
may_precede {env = env} {i = i} {e = e} s f v = by v.begins.thing v.begins.holds v.begins.spells
  where
    closed : ahead i ≡ Some (Reserved k.Else) → ends_open s ≡ false
    closed h = not_open (ends_open s) (sees_keyword k.Else i) f (ap (is_keyword k.Else) h)

    by : (a : Alternative) → WellFormedAlternative env a → ((z : List Symbol) → (w : List Symbol) × (spell_alternative a z ≡ v.front w)) → Viable (alternatives_behind s) env i e
    by NoElse h g = instead v (record { thing = NoElse; holds = (tt, h); spells = g })
    by (Otherwise t) h g = begun alternative_trees v (Otherwise t) (Reserved k.Else) (spell_stmt t) g (λ z. refl)
        (λ none. anything v none NoElse (tt, tt))
        (λ some. instead v (record { thing = Otherwise t; holds = (closed some, h); spells = g }))
    by (ElseIf n c t a) h g = begun alternative_trees v (ElseIf n c t a) (Reserved k.Else) (λ z. Reserved k.If ∷ Sign m.OpenParen ∷ spell_expr c (Sign m.CloseParen ∷ spell_stmt t (spell_alternative a z))) g (λ z. refl)
        (λ none. anything v none NoElse (tt, tt))
        (λ some. instead v (record { thing = ElseIf n c t a; holds = (closed some, h); spells = g }))

module _ (limit : ℕ) (d : ℕ) (le : suc d ≤ limit) (p : Parser Stmt) (sound : SoundStmt p) (fails : ViableStmt d p) where
  -- ---- 6.6.4.1

  else_if-fails : (env : Env) (i x : Input) → Reads i x env (λ z. Reserved k.Else ∷ z) → sees_keyword k.If x ≡ true → length i.rest < suc d
      → Does (λ f j. GoesOn (Viable alternative_trees) env i j) (Viable alternative_trees env i) (else_if limit p x)
  unfolding else_if spell_stmt WellFormedStmt
  else_if-fails env i x t is_if less =
      let t2 = word_sign x env k.If is_if t.names in
      bind-does _ _ (condition limit (step x)) (λ c. p >>= λ s. pure (ElseIf x.next c s)) (condition-does limit env (step x) t2.names (omega (arith, counted t, counted t2, le, less)))
      (λ e v. embed (both t t2) v (λ c w. record { thing = ElseIf x.next c (Empty 0) NoElse; holds = (w, tt, tt, tt); spells = λ z. (Sign m.Semicolon ∷ z, refl) })) (λ c u q.
      bind-fails _ _ (p u) (λ s. pure (ElseIf x.next c s)) (sound (after_expr env c) u q.reads.names) (fails (after_expr env c) u q.reads.names (omega (arith, counted t, counted t2, no_longer q.reads, less)))
      (λ e v. embed (both t (both t2 q.reads)) v (λ s w. record { thing = ElseIf x.next c s NoElse; holds = (q.holds, w, tt, tt); spells = λ z. (z, refl) })) (λ s v r. record {
        inner = after_stmt (after_expr env c) s;
        names = r.reads.names;
        shorter = omega (arith, counted t, counted t2, no_longer q.reads, no_longer r.reads);
        rest = λ e a. embed (both t (both t2 (both q.reads r.reads))) (may_precede s r.closed a) (λ a w. record { thing = ElseIf x.next c s a; holds = (q.holds, r.holds, w.0, w.1); spells = λ z. (z, refl) });
      }))

  alternative-fails : (env : Env) (i : Input) → i.names ≡ names_of env → length i.rest < suc d → Does (AfterTurn (Viable alternative_trees) env i) (Viable alternative_trees env i) (alternative limit p i)
  unfolding alternative behind_else spell_stmt WellFormedStmt
  alternative-fails env i names less = eaten_keyword-fails _ _ i env k.Else (input.asks (sees_keyword k.If) >>= λ is_if. if is_if then More <$> else_if limit p else (λ s. Last (Otherwise s)) <$> p) (pure (Last NoElse)) names
      (λ x t. choose-fails _ _ (sees_keyword k.If x) (More <$> else_if limit p) ((λ s. Last (Otherwise s)) <$> p) x
      (λ is_if. bind-does _ _ (else_if limit p x) (λ f. pure (More f)) (else_if-fails env i x t is_if less) (λ e v. v) (λ f j q. q))
      (λ none. bind-fails _ _ (p x) (λ s. pure (Last (Otherwise s))) (sound env x t.names) (fails env x t.names (omega (arith, counted t, less)))
      (λ e v. embed t (not_if none v) (λ s w. record { thing = Otherwise s; holds = w; spells = λ z. (z, refl) }))
      (λ s j q. tt)))
      (λ h. tt)

  alternatives-fails : (env : Env) (i : Input) → i.names ≡ names_of env → length i.rest < suc d → Fails (Viable alternative_trees env i) (alternatives limit p i)
  unfolding alternatives
  alternatives-fails env i names less = repeat-fails (Viable alternative_trees) (suc d) (alternative limit p) alternative-fails (turns i) env i names less (omega arith)

  pub if-fails : (env : Env) (i : Input) → ahead i ≡ Some (Reserved k.If) → i.names ≡ names_of env → length i.rest < suc d → FailsUnlabeled env i (if_stmt limit p i)
  unfolding if_stmt spell_stmt WellFormedStmt
  if-fails env i h names less =
      let t = token i env (Reserved k.If) h names in
      bind-does _ _ (condition limit (step i)) (λ c. p >>= λ s. alternatives limit p >>= λ a. pure (If i.next c s a)) (condition-does limit env (step i) t.names (omega (arith, counted t, le, less)))
      (λ e v. embed t v (λ c w. record { thing = If i.next c (Empty 0) NoElse; holds = ((w, tt, tt, tt), tt); spells = λ z. (Sign m.Semicolon ∷ z, refl) })) (λ c u q.
      bind-fails _ _ (p u) (λ s. alternatives limit p >>= λ a. pure (If i.next c s a)) (sound (after_expr env c) u q.reads.names) (fails (after_expr env c) u q.reads.names (omega (arith, counted t, no_longer q.reads, less)))
      (λ e v. embed (both t q.reads) v (λ s w. record { thing = If i.next c s NoElse; holds = ((q.holds, w, tt, tt), tt); spells = λ z. (z, refl) })) (λ s v r.
      bind-does _ _ (alternatives limit p v) (λ a. pure (If i.next c s a)) (alternatives-fails (after_stmt (after_expr env c) s) v r.reads.names (omega (arith, counted t, no_longer q.reads, no_longer r.reads, less)))
      (λ e a. embed (both t (both q.reads r.reads)) (may_precede s r.closed a) (λ a w. record { thing = If i.next c s a; holds = ((q.holds, r.holds, w.0, w.1), tt); spells = λ z. (z, refl) }))
      (λ a j w. tt)))

  -- ---- 6.6.4.2, 6.6.5

  pub switch-fails : (env : Env) (i : Input) → ahead i ≡ Some (Reserved k.Switch) → i.names ≡ names_of env → length i.rest < suc d → FailsUnlabeled env i (switch_stmt limit p i)
  unfolding switch_stmt spell_stmt WellFormedStmt
  switch-fails env i h names less =
      let t = token i env (Reserved k.Switch) h names in
      bind-does _ _ (condition limit (step i)) (λ c. p >>= λ s. pure (Switch i.next c s)) (condition-does limit env (step i) t.names (omega (arith, counted t, le, less)))
      (λ e v. embed t v (λ c w. record { thing = Switch i.next c (Empty 0); holds = ((w, tt), tt); spells = λ z. (Sign m.Semicolon ∷ z, refl) })) (λ c u q.
      bind-fails _ _ (p u) (λ s. pure (Switch i.next c s)) (sound (after_expr env c) u q.reads.names) (fails (after_expr env c) u q.reads.names (omega (arith, counted t, no_longer q.reads, less)))
      (λ e v. embed (both t q.reads) v (λ s w. record { thing = Switch i.next c s; holds = ((q.holds, w), tt); spells = λ z. (z, refl) }))
      (λ s j r. tt))

  pub while-fails : (env : Env) (i : Input) → ahead i ≡ Some (Reserved k.While) → i.names ≡ names_of env → length i.rest < suc d → FailsUnlabeled env i (while_stmt limit p i)
  unfolding while_stmt spell_stmt WellFormedStmt
  while-fails env i h names less =
      let t = token i env (Reserved k.While) h names in
      bind-does _ _ (condition limit (step i)) (λ c. p >>= λ s. pure (While i.next c s)) (condition-does limit env (step i) t.names (omega (arith, counted t, le, less)))
      (λ e v. embed t v (λ c w. record { thing = While i.next c (Empty 0); holds = ((w, tt), tt); spells = λ z. (Sign m.Semicolon ∷ z, refl) })) (λ c u q.
      bind-fails _ _ (p u) (λ s. pure (While i.next c s)) (sound (after_expr env c) u q.reads.names) (fails (after_expr env c) u q.reads.names (omega (arith, counted t, no_longer q.reads, less)))
      (λ e v. embed (both t q.reads) v (λ s w. record { thing = While i.next c s; holds = ((q.holds, w), tt); spells = λ z. (z, refl) }))
      (λ s j r. tt))

  pub do-fails : (env : Env) (i : Input) → ahead i ≡ Some (Reserved k.Do) → i.names ≡ names_of env → length i.rest < suc d → FailsUnlabeled env i (do_stmt limit p i)
  unfolding do_stmt spell_expr spell_stmt WellFormed WellFormedStmt
  do-fails env i h names less =
      let t = token i env (Reserved k.Do) h names in
      bind-fails _ _ (p (step i)) (λ s. expect_keyword k.While >> (condition limit >>= λ c. expect m.Semicolon >> pure (Do i.next s c))) (sound env (step i) t.names) (fails env (step i) t.names (omega (arith, counted t, less)))
      (λ e v. embed t v (λ s w. record { thing = Do i.next s zero_expr; holds = ((w, tt), tt); spells = λ z. (Reserved k.While ∷ conditions.put zero_expr (Sign m.Semicolon ∷ z), refl) })) (λ s u q.
      expected_keyword-fails _ _ u (after_stmt env s) k.While (condition limit >>= λ c. expect m.Semicolon >> pure (Do i.next s c)) q.reads.names
      (missing (both t q.reads) (record { thing = Do i.next s zero_expr; holds = ((q.holds, tt), tt); spells = λ z. (Reserved k.While ∷ conditions.put zero_expr (Sign m.Semicolon ∷ z), refl) })) (λ v w.
      bind-does _ _ (condition limit v) (λ c. expect m.Semicolon >> pure (Do i.next s c)) (condition-does limit (after_stmt env s) v w.names (omega (arith, counted t, no_longer q.reads, no_longer w, le, less)))
      (λ e c. embed (both t (both q.reads w)) c (λ c h. record { thing = Do i.next s c; holds = ((q.holds, h), tt); spells = λ z. (Sign m.Semicolon ∷ z, refl) })) (λ c x r.
      expected-fails _ _ x (after_expr (after_stmt env s) c) m.Semicolon (pure (Do i.next s c)) r.reads.names
      (missing (both t (both q.reads (both w r.reads))) (record { thing = Do i.next s c; holds = ((q.holds, r.holds), tt); spells = λ z. (Sign m.Semicolon ∷ z, refl) }))
      (λ j e. tt))))

  pub for-fails : (env : Env) (i : Input) → ahead i ≡ Some (Reserved k.For) → i.names ≡ names_of env → length i.rest < suc d → FailsUnlabeled env i (for_stmt limit p i)
  unfolding for_stmt spell_stmt WellFormedStmt
  for-fails env i h names less =
      let t = token i env (Reserved k.For) h names in
      expected-fails _ _ (step i) env m.OpenParen (up_to limit m.Semicolon >>= λ a. up_to limit m.Semicolon >>= λ b. up_to limit m.CloseParen >>= λ c. p >>= λ s. pure (For i.next a b c s)) t.names
      (missing t (record { thing = For i.next None None None (Empty 0); holds = ((tt, tt, tt, tt), tt); spells = λ z. (Sign m.OpenParen ∷ Sign m.Semicolon ∷ Sign m.Semicolon ∷ Sign m.CloseParen ∷ Sign m.Semicolon ∷ z, refl) })) (λ i1 o.
      bind-does _ _ (up_to limit m.Semicolon i1) (λ a. up_to limit m.Semicolon >>= λ b. up_to limit m.CloseParen >>= λ c. p >>= λ s. pure (For i.next a b c s)) (up_to-does limit m.Semicolon env i1 o.names (omega (arith, counted t, counted o, le, less)))
      (λ e v. embed (both t o) v (λ a w. record { thing = For i.next a None None (Empty 0); holds = ((w, tt, tt, tt), tt); spells = λ z. (Sign m.Semicolon ∷ Sign m.CloseParen ∷ Sign m.Semicolon ∷ z, refl) })) (λ a i2 qa.
      bind-does _ _ (up_to limit m.Semicolon i2) (λ b. up_to limit m.CloseParen >>= λ c. p >>= λ s. pure (For i.next a b c s)) (up_to-does limit m.Semicolon (after_optional env a) i2 qa.reads.names (omega (arith, counted t, counted o, no_longer qa.reads, le, less)))
      (λ e v. embed (both t (both o qa.reads)) v (λ b w. record { thing = For i.next a b None (Empty 0); holds = ((qa.holds, w, tt, tt), tt); spells = λ z. (Sign m.CloseParen ∷ Sign m.Semicolon ∷ z, refl) })) (λ b i3 qb.
      bind-does _ _ (up_to limit m.CloseParen i3) (λ c. p >>= λ s. pure (For i.next a b c s)) (up_to-does limit m.CloseParen (after_optional (after_optional env a) b) i3 qb.reads.names (omega (arith, counted t, counted o, no_longer qa.reads, no_longer qb.reads, le, less)))
      (λ e v. embed (both t (both o (both qa.reads qb.reads))) v (λ c w. record { thing = For i.next a b c (Empty 0); holds = ((qa.holds, qb.holds, w, tt), tt); spells = λ z. (Sign m.Semicolon ∷ z, refl) })) (λ c i4 qc.
      bind-fails _ _ (p i4) (λ s. pure (For i.next a b c s)) (sound (after_optional (after_optional (after_optional env a) b) c) i4 qc.reads.names) (fails (after_optional (after_optional (after_optional env a) b) c) i4 qc.reads.names (omega (arith, counted t, counted o, no_longer qa.reads, no_longer qb.reads, no_longer qc.reads, less)))
      (λ e v. embed (both t (both o (both qa.reads (both qb.reads qc.reads)))) v (λ s w. record { thing = For i.next a b c s; holds = ((qa.holds, qb.holds, qc.holds, w), tt); spells = λ z. (z, refl) }))
      (λ s j r. tt)))))
