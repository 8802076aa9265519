use Rattle.std.proofs.Common.{rules, ◌≡◌, ◌+◌, length, map, Err, sym, ap, ◌∙◌, arith}
use Rattle.std.proofs.lemmas.Grind.{common_steps}
use Rattle.pw_token.proofs.TokenBounds.{tokens_within}
use Rattle.pw_tree.specs.Lexemes.{view_lexeme}
use Rattle.pw_tree.specs.Views.{view_externals}
use Rattle.pw_parse_grammar.specs.Modules.{externals, read, start}
use Rattle.pw_parse.specs.Parsing.{parsed, symbol_in, unless_too_deep}
use Rattle.pw_parse.proofs.Answered.{tree_answered, fault_answered, told}
use Rattle.pw_parse.proofs.parser.parse_tokens.Goals as goal

pub returns-in-Some : goal.returns-in-Some
unfolding parsed
returns-in-Some c _ = ap (λ p. unless_too_deep p (read (map (symbol_in c.args.text.now) c.args.tokens.now))) (sym c.in-Some.ensures)

pub lexemes-requires : goal.lexemes-requires
lexemes-requires c = tokens_within c.args.text.now c.args.tokens.now c.requires

pub returns-in-Ok-externals : goal.returns-in-Ok-externals
returns-in-Ok-externals c =
    let begins : c.new-cursor.result ≡ start (map view_lexeme c.in-Ok.lexemes.items) = first_of (search rules, grind (arith, common_steps)) in
    tree_answered c.args.text.now c.args.tokens.now (map view_lexeme c.in-Ok.lexemes.items)
    (first_of (search rules, grind (arith, common_steps))) (first_of (search rules, grind (arith, common_steps)))
    (view_externals c.in-Ok-externals.externals.items) c.externals.new.tokens (ap (externals (length c.args.tokens.now + 1)) (sym begins) ∙ c.in-Ok-externals.ensures)

pub returns : goal.returns
returns c some =
    let begins : c.new-cursor.result ≡ start (map view_lexeme c.in-Ok.lexemes.items) = first_of (search rules, grind (arith, common_steps)) in
    let t = told c.in-Err.stop c.here.result c.fault_of.result c.fault_of.ensures some in
    fault_answered c.args.text.now c.args.tokens.now (map view_lexeme c.in-Ok.lexemes.items)
    (first_of (search rules, grind (arith, common_steps))) (first_of (search rules, grind (arith, common_steps)))
    c.externals.new.tokens (ap (externals (length c.args.tokens.now + 1)) (sym begins) ∙ c.in-Err.ensures t.0)
    ∙ first_of (search rules, grind (arith, common_steps))
